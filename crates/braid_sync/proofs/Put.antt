-- One PUT, step by step.
use Rattle.std.proofs.Common.{◌≡◌, ◌≢◌, ℕ, Bool, true, false, cond, List, [], ◌∷◌, ◌++◌, Option, Some, None, Result, Ok, Err, refl, ap, sym, subst, ◌∙◌, append-nil, slice_get, inl, inr}
use Rattle.std.specs.Ordering.{is_eq}
use Rattle.braid_io.specs.Outside.{Intake, Outflow, WritesAll, WritesPart}
use Rattle.braid_ids.specs.Identifiers.{id_cmp}
use Rattle.braid_ids.proofs.Ids.{eq_itself}
use Rattle.braid_change.specs.Updates.{UpdateView}
use Rattle.braid_http.specs.Asks.{WireView}
use Rattle.braid_outbox.specs.Replicas.{ReplicaView}
use Rattle.braid_outbox.specs.Learns.{confirm, acked, has_first}
use Rattle.braid_sync.specs.declared.place.Place.{Place}
use Rattle.braid_sync.specs.declared.end.SyncEnd.{SyncEnd}
use Rattle.braid_sync.specs.declared.end.SyncEnd.TheVariants as ends
use Rattle.braid_sync.specs.Talks.{nothing_failed}
use Rattle.braid_sync.specs.Posting.{put_text, IsReply, EndsReply, Confirms, IsHeadOf}
use Rattle.braid_sync.specs.Syncs.{failing}
use Rattle.braid_sync.specs.Links.{PostsOf}
use Rattle.braid_sync.proofs.Doing.{does_none, writes_part}
use Rattle.braid_sync.proofs.Opened.{sends_then}
use Rattle.braid_sync.proofs.Replied.{ReplyRead}
use Rattle.braid_sync.proofs.Posted.{PutDone}

-- the first of a list
first_is : (us : List UpdateView) (u : UpdateView) → Some u ≡ slice_get us 0 → (rest : List UpdateView) × (us ≡ u ∷ rest)
first_is [] u e = absurd (cc)
first_is (w ∷ us) u e = let same : w ≡ u = cc in (us, ap (λ (x : UpdateView). x ∷ us) same)

pub head_is : (r : ReplicaView) (u : UpdateView) → Some u ≡ slice_get r.unsent 0 → IsHeadOf r u
head_is r u e = first_is r.unsent u e

pub no_head : (r : ReplicaView) → r.unsent ≢ [] → None ≡ slice_get r.unsent 0 → ⊥
no_head r some e = go r.unsent some e where
  go : (us : List UpdateView) → us ≢ [] → None ≡ slice_get us 0 → ⊥
  go [] n f = n refl
  go (u ∷ us) n f = cc

pub put_as : (place : Place) (q m : ReplicaView) (result : Result (Unit {0}) SyncEnd) (end : SyncEnd) (held : List ℕ) (wire : WireView) (i j : Intake) (o p : Outflow) → result ≡ Err end → PutDone place q m (Err end) held wire i j o p → PutDone place q m result held wire i j o p
put_as place q m result end held wire i j o p e h = subst (λ (x : Result (Unit {0}) SyncEnd). PutDone place q m x held wire i j o p) (sym e) h

-- there was no memory for the request
pub put_unmade : (place : Place) (r : ReplicaView) (u : UpdateView) (held : List ℕ) (wire : WireView) (i : Intake) (o : Outflow) → IsHeadOf r u → PutDone place r r (Err ends.Memory) held wire i i o o
put_unmade place r u held wire i o h = ([], [], does_none i o, (u, h, (refl, (put_text place u, refl))))

-- it was not written whole
pub put_unwritten : (place : Place) (r : ReplicaView) (u : UpdateView) (wire : WireView) (i j : Intake) (o p : Outflow) → IsHeadOf r u → WritesPart (put_text place u) o p → j ≡ i → PutDone place r r (Err ends.WriteFault) wire.held wire i j o p
put_unwritten place r u wire i j o p h w e = (w.front, [], writes_part (put_text place u) i j o p w e, (u, h, (refl, (w.rest, w.unfinished, w.whole), append-nil wire.held)))

-- an end of a reply is an end of its PUT
ends_put : (place : Place) (r : ReplicaView) (u : UpdateView) (end : SyncEnd) (bytes rest : List ℕ) (left : Option (List ℕ)) → EndsReply end bytes left → PostsOf place r (Err end) (put_text place u) bytes rest left r u
ends_put place r u ends.WriteFault bytes rest left h = absurd h
ends_put place r u ends.Memory bytes rest left h = absurd h
ends_put place r u end bytes rest left h = (refl, refl, h)

-- no reply came
pub put_unanswered : (place : Place) (r : ReplicaView) (u : UpdateView) (end : SyncEnd) (held : List ℕ) (wire : WireView) (i j k : Intake) (o p q : Outflow) → IsHeadOf r u → WritesAll (put_text place u) o p → j ≡ i → ReplyRead (Err end) held wire.held j k p q
    → PutDone place r r (Err end) held wire i k o q
put_unanswered place r u end held wire i j k o p q h w e reply =
    let text = put_text place u in
    let of : PostsOf place r (Err end) text (held ++ reply.0) wire.held k.left r u =
    elim reply.2 [
      | inl why ↦ ends_put place r u end (held ++ reply.0) wire.held k.left why.0
      | inr none ↦
          let memory : PostsOf place r (Err ends.Memory) text (held ++ reply.0) wire.held k.left r u = (refl, ([], sym (append-nil text))) in
          subst (λ (x : SyncEnd). PostsOf place r (Err x) text (held ++ reply.0) wire.held k.left r u) (sym none) memory
    ] in
    (text, reply.0, sends_then text reply.0 (failing end) i j k o p q w e reply.1, (u, h, of))

-- it was answered with another status
pub put_refused : (place : Place) (r : ReplicaView) (u : UpdateView) (status : ℕ) (held : List ℕ) (wire : WireView) (i j k : Intake) (o p q : Outflow) → IsHeadOf r u → WritesAll (put_text place u) o p → j ≡ i → ReplyRead (Ok status) held wire.held j k p q → status ≢ 200
    → PutDone place r r (Err (ends.Peer status)) held wire i k o q
put_refused place r u status held wire i j k o p q h w e reply other =
    let text = put_text place u in
    (text, reply.0, sends_then text reply.0 nothing_failed i j k o p q w e reply.1, (u, h, (refl, refl, (other, wire.held, reply.2))))

-- it was taken

confirmed_by : (r : ReplicaView) (u : UpdateView) (us rest : List UpdateView) (v : List ℕ) → us ≡ u ∷ rest → v ≡ u.id → (if_first : Bool) → if_first ≡ has_first v us → cond if_first (confirm r us) r ≡ record { agent = r.agent; confirmed = r.confirmed ++ u ∷ []; unsent = rest }
confirmed_by r u us rest v e same true f = ap (confirm r) e
confirmed_by r u us rest v e same false f =
    let yes : has_first v us ≡ true = ap (has_first v) e ∙ ap (λ (t : List ℕ). is_eq (id_cmp t u.id)) same ∙ eq_itself u.id in
    absurd (cc)

pub acked_first : (r m : ReplicaView) (u : UpdateView) (v : List ℕ) → (h : IsHeadOf r u) → v ≡ u.id → m ≡ acked v r → Confirms r (u ∷ []) m
acked_first r m u v h same e =
    let now = e ∙ confirmed_by r u r.unsent h.0 v h.1 same (has_first v r.unsent) refl in
    record {
      agent = ap (λ (x : ReplicaView). x.agent) now;
      confirmed = ap (λ (x : ReplicaView). x.confirmed) now;
      unsent = h.1 ∙ ap (λ (t : List UpdateView). u ∷ t) (sym (ap (λ (x : ReplicaView). x.unsent) now));
    }

pub put_taken : (place : Place) (r m : ReplicaView) (u : UpdateView) (x : Unit {0}) (status : ℕ) (held : List ℕ) (wire : WireView) (i j k : Intake) (o p q : Outflow) → IsHeadOf r u → WritesAll (put_text place u) o p → j ≡ i → ReplyRead (Ok status) held wire.held j k p q → status ≡ 200
    → Confirms r (u ∷ []) m → PutDone place r m (Ok x) held wire i k o q
put_taken place r m u x status held wire i j k o p q h w e reply good c =
    let text = put_text place u in
    (text, reply.0, sends_then text reply.0 nothing_failed i j k o p q w e reply.1, (u, h, (refl, subst (λ (s : ℕ). IsReply s (held ++ reply.0) wire.held k.left) good reply.2, c)))
