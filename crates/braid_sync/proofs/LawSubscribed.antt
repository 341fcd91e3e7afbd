-- What was given decides what a sync learns of a subscription, and why it learns no more.
use Rattle.std.proofs.Common.{◌≡◌, ◌≢◌, ℕ, List, inl, inr, ◌⊎◌, refl, sym, subst, ◌∙◌, Option, Some, None, IsSome}
use Rattle.braid_change.specs.Updates.{UpdateView}
use Rattle.braid_http.specs.declared.response.BodyKind.{BodyKind}
use Rattle.braid_http.specs.Bodies.{IsBody, HasBegun}
use Rattle.braid_outbox.specs.Replicas.{ReplicaView}
use Rattle.braid_sync.specs.declared.place.Place.{Place}
use Rattle.braid_sync.specs.declared.end.SyncEnd.{SyncEnd}
use Rattle.braid_sync.specs.declared.end.SyncEnd.TheVariants as ends
use Rattle.braid_sync.specs.Talks.{Said, Failing}
use Rattle.braid_sync.specs.Learning.{Learns, HasVersion, Awaits}
use Rattle.braid_sync.specs.Hearing.{Hears, IsOver, IsCutOff}
use Rattle.braid_sync.specs.Syncs.{failing, IsCut, Subscribes, not_begun, caught_up, fell_short}
use Rattle.braid_sync.specs.Laws.{AreAlike, IsTold}
use Rattle.braid_sync.proofs.LawData.{IsLast, last_of_all}
use Rattle.braid_sync.proofs.LawHearing.{Why, why, Two, two_of, Order, same, more, fewer, orders, same_end, learns_same, learns_no_more, awaits_next}
use Rattle.braid_sync.proofs.LawOpening.{Starts, Fails, opens_as, one_start, no_fail, one_fail}
use Rattle.braid_sync.proofs.LawReplies.{over_last}

-- where a body is cut, nothing more of it comes
pub cut_last : (kind : BodyKind) (content passed rest : List ℕ) (left : Option (List ℕ)) → IsSome left → IsOver kind content passed rest left ⊎ IsCutOff kind content passed rest left
    → (IsBody kind content passed ⊎ HasBegun kind content passed) × IsLast kind passed rest
cut_last kind content passed rest left t (inl h) = (inl h.is, over_last kind content passed rest left t h)
cut_last kind content passed rest left t (inr h) = (inr h.begun, last_of_all kind passed rest h.behind)

-- updates were learnt until the version was held
pub record Caught (kind : BodyKind) (V : List (List ℕ)) (behind : List ℕ) (r q : ReplicaView) : Type 0 where
  pub passed : List ℕ
  pub rest : List ℕ
  pub content : List ℕ
  pub us : List UpdateView
  pub hears : Hears kind behind r passed rest content us q
  pub awaits : Awaits V r us
  pub held : HasVersion q V

-- the reading ended before
pub record Short (kind : BodyKind) (V : List (List ℕ)) (behind : List ℕ) (r q : ReplicaView) (end : SyncEnd) : Type 0 where
  pub passed : List ℕ
  pub rest : List ℕ
  pub content : List ℕ
  pub us : List UpdateView
  pub hears : Hears kind behind r passed rest content us q
  pub awaits : Awaits V r us
  pub short : ¬ (HasVersion q V)
  pub because : Why kind content passed rest us q end

caught_same : (kind : BodyKind) (V : List (List ℕ)) (behind : List ℕ) (r q m : ReplicaView) → Caught kind V behind r q → Caught kind V behind r m → q ≡ m
caught_same kind V behind r q m c d = go (orders kind c.content c.passed c.rest d.content d.passed d.rest c.us d.us (two_of kind behind r c.passed c.rest c.content d.passed d.rest d.content c.us d.us q m c.hears d.hears) c.hears.begins d.hears.begins)
  where
    go : Order c.us d.us → q ≡ m
    go (same e) = learns_same r d.us q m (subst (λ x. Learns r x q) e c.hears.learns) d.hears.learns
    go (more w ws e) = absurd (awaits_next V r c.us w ws q c.hears.learns (subst (Awaits V r) e d.awaits) c.held)
    go (fewer w ws e) = absurd (awaits_next V r d.us w ws m d.hears.learns (subst (Awaits V r) e c.awaits) d.held)

caught_or_short : (kind : BodyKind) (V : List (List ℕ)) (behind : List ℕ) (r q m : ReplicaView) (end : SyncEnd) → Caught kind V behind r q → Short kind V behind r m end → ⊥
caught_or_short kind V behind r q m end c d = go (orders kind c.content c.passed c.rest d.content d.passed d.rest c.us d.us (two_of kind behind r c.passed c.rest c.content d.passed d.rest d.content c.us d.us q m c.hears d.hears) c.hears.begins d.hears.begins)
  where
    go : Order c.us d.us → ⊥
    go (same e) = d.short (subst (λ (x : ReplicaView). HasVersion x V) (learns_same r d.us q m (subst (λ x. Learns r x q) e c.hears.learns) d.hears.learns) c.held)
    go (more w ws e) = awaits_next V r c.us w ws q c.hears.learns (subst (Awaits V r) e d.awaits) c.held
    go (fewer w ws e) = learns_no_more kind behind r d.passed d.rest d.content c.passed c.rest c.content d.us c.us m q end w ws d.hears c.hears d.because e

short_same : (kind : BodyKind) (V : List (List ℕ)) (behind : List ℕ) (r q m : ReplicaView) (end stop : SyncEnd) → failing end ≡ failing stop → Short kind V behind r q end → Short kind V behind r m stop → (q ≡ m) × (end ≡ stop)
short_same kind V behind r q m end stop f c d = go (orders kind c.content c.passed c.rest d.content d.passed d.rest c.us d.us two c.hears.begins d.hears.begins)
  where
    two : Two kind c.content c.passed c.rest d.content d.passed d.rest
    two = two_of kind behind r c.passed c.rest c.content d.passed d.rest d.content c.us d.us q m c.hears d.hears

    go : Order c.us d.us → (q ≡ m) × (end ≡ stop)
    go (same e) =
        let here = learns_same r d.us q m (subst (λ x. Learns r x q) e c.hears.learns) d.hears.learns in
        let one = subst (λ x. Why kind c.content c.passed c.rest x q end) e c.because in
        let two_here = subst (λ (x : ReplicaView). Why kind c.content c.passed c.rest d.us x end) here one in
        (here, same_end kind c.content c.passed c.rest d.content d.passed d.rest d.us m end stop two two_here d.because f)
    go (more w ws e) = absurd (learns_no_more kind behind r c.passed c.rest c.content d.passed d.rest d.content c.us d.us q m end w ws c.hears d.hears c.because e)
    go (fewer w ws e) = absurd (learns_no_more kind behind r d.passed d.rest d.content c.passed c.rest c.content d.us c.us m q stop w ws d.hears c.hears d.because e)

-- the subscription was begun, and P is true of its body
pub record Heard (place : Place) (r : ReplicaView) (said : Said) (P : BodyKind → List (List ℕ) → List ℕ → Type 0) : Type 0 where
  pub kind : BodyKind
  pub V : List (List ℕ)
  pub behind : List ℕ
  pub starts : Starts place r said kind V behind
  pub holds : P kind V behind

-- what is true of one body, and of another that is the same
moved : (P : BodyKind → List (List ℕ) → List ℕ → Type 0) (kind other : BodyKind) (V W : List (List ℕ)) (b c : List ℕ) → (kind ≡ other) × (V ≡ W) × (b ≡ c) → P kind V b → P other W c
moved P kind other V W b c e h = subst (P other W) e.2 (subst (λ x. P other x b) e.1 (subst (λ x. P x V b) e.0 h))

pub heard_same : (place : Place) (r : ReplicaView) (s t : Said) (P Q : BodyKind → List (List ℕ) → List ℕ → Type 0) → s.given ≡ t.given → (h : Heard place r s P) → (k : Heard place r t Q) → P k.kind k.V k.behind
heard_same place r s t P Q g h k = moved P h.kind k.kind h.V k.V h.behind k.behind (one_start place r s t h.kind k.kind h.V k.V h.behind k.behind g h.starts k.starts) h.holds

abbrev pub SubscribedAs : Place → ReplicaView → Said → ReplicaView → Option SyncEnd → Type 0
SubscribedAs place r said q None = Heard place r said (λ kind V behind. Caught kind V behind r q)
SubscribedAs place r said q (Some end) = IsTold said → end ≢ ends.Memory → ((q ≡ r) × Fails place r said end) ⊎ Heard place r said (λ kind V behind. Short kind V behind r q end)

pub subscribed_as : (place : Place) (r : ReplicaView) (said : Said) (q : ReplicaView) (end : Option SyncEnd) → Subscribes place r said q end → SubscribedAs place r said q end
subscribed_as place r said _ _ (not_begun end o) = λ t n. inl (refl, opens_as place r said _ o n)
subscribed_as place r said _ _ (caught_up kind V behind passed rest content us q o h a v) =
    record { kind = kind; V = V; behind = behind; starts = opens_as place r said _ o; holds = record { passed = passed; rest = rest; content = content; us = us; hears = h; awaits = a; held = v } }
subscribed_as place r said _ _ (fell_short kind V behind passed rest content us q end o h a v w) =
    λ t n. inr (record {
      kind = kind;
      V = V;
      behind = behind;
      starts = opens_as place r said _ o;
      holds = record {
        passed = passed;
        rest = rest;
        content = content;
        us = us;
        hears = h;
        awaits = a;
        short = v;
        because = why (IsCut kind content passed rest said.left) kind passed rest content us q end (λ k. cut_last kind content passed rest said.left t k) n w;
      };
    })

-- a subscription that was caught up leaves one replica
pub caught_one : (place : Place) (r : ReplicaView) (s t : Said) (q m : ReplicaView) → s.given ≡ t.given → SubscribedAs place r s q None → SubscribedAs place r t m None → (q ≡ m) × (s.sent ≡ t.sent)
caught_one place r s t q m g h k =
    (caught_same k.kind k.V k.behind r q m (heard_same place r s t (λ kind V behind. Caught kind V behind r q) (λ kind V behind. Caught kind V behind r m) g h k) k.holds, h.starts.sent ∙ sym k.starts.sent)

-- and does not end the sync
pub caught_or_ended : (place : Place) (r : ReplicaView) (f : Failing) (s t : Said) (q m : ReplicaView) (end : SyncEnd) → AreAlike f s t → f ≡ failing end → SubscribedAs place r s q None
    → ((m ≡ r) × Fails place r t end) ⊎ Heard place r t (λ kind V behind. Short kind V behind r m end) → ⊥
caught_or_ended place r f s t q m end a e h (inl k) = no_fail place r f s t h.kind h.V h.behind end a e h.starts k.1
caught_or_ended place r f s t q m end a e h (inr k) =
    caught_or_short k.kind k.V k.behind r q m end (heard_same place r s t (λ kind V behind. Caught kind V behind r q) (λ kind V behind. Short kind V behind r m end) a.given h k) k.holds

-- one that ends the sync does so in one way
pub ended_one : (place : Place) (r : ReplicaView) (s t : Said) (q m : ReplicaView) (end stop : SyncEnd) → AreAlike (failing end) s t → AreAlike (failing end) t s → failing end ≡ failing stop
    → ((q ≡ r) × Fails place r s end) ⊎ Heard place r s (λ kind V behind. Short kind V behind r q end) → ((m ≡ r) × Fails place r t stop) ⊎ Heard place r t (λ kind V behind. Short kind V behind r m stop)
    → (q ≡ m) × (end ≡ stop) × (s.sent ≡ t.sent)
ended_one place r s t q m end stop a b f (inl h) (inl k) = let z = one_fail place r s t end stop a f h.1 k.1 in (h.0 ∙ sym k.0, z.0, z.1)
ended_one place r s t q m end stop a b f (inl h) (inr k) = absurd (no_fail place r (failing end) t s k.kind k.V k.behind end b refl k.starts h.1)
ended_one place r s t q m end stop a b f (inr h) (inl k) = absurd (no_fail place r (failing end) s t h.kind h.V h.behind stop a f h.starts k.1)
ended_one place r s t q m end stop a b f (inr h) (inr k) =
    let z = short_same k.kind k.V k.behind r q m end stop f (heard_same place r s t (λ kind V behind. Short kind V behind r q end) (λ kind V behind. Short kind V behind r m stop) a.given h k) k.holds in
    (z.0, z.1, h.starts.sent ∙ sym k.starts.sent)
