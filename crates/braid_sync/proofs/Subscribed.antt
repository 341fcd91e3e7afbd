-- The subscription of a sync.
use Rattle.std.proofs.Common.{◌≡◌, ◌⊎◌, ◌+◌, ◌-◌, ◌*◌, ◌<◌, ◌≤◌, ℕ, List, Option, Some, None, Result, Ok, Err, length, refl, ap, sym, subst, ◌∙◌, length-append, inl, inr, arith}
use Rattle.std.proofs.Math.Nat.{mul-le-mul_left}
use Rattle.braid_io.specs.Outside.{Intake, Outflow}
use Rattle.braid_change.specs.Updates.{UpdateView}
use Rattle.braid_stream.specs.declared.reading.Reading.{Reading}
use Rattle.braid_stream.specs.Readers.{HasTaken}
use Rattle.braid_http.specs.declared.refusal.Refusal.TheVariants.{BadChunk as Against}
use Rattle.braid_outbox.specs.Replicas.{ReplicaView}
use Rattle.braid_sync.specs.declared.place.Place.{Place}
use Rattle.braid_sync.specs.declared.end.SyncEnd.{SyncEnd}
use Rattle.braid_sync.specs.declared.end.SyncEnd.TheVariants as ends
use Rattle.braid_sync.specs.declared.hear.Heard.{Heard}
use Rattle.braid_sync.specs.declared.hear.Heard.TheVariants as heards
use Rattle.braid_sync.specs.declared.hear.Stream.{Stream}
use Rattle.braid_sync.specs.declared.opening.Subscription.{Subscription}
use Rattle.braid_sync.specs.declared.learn.Taken.{Taken}
use Rattle.braid_sync.specs.Talks.{Failing, nothing_failed}
use Rattle.braid_sync.specs.Learning.{answer_to, HasVersion, Awaits}
use Rattle.braid_sync.specs.Hearing.{EndsHearing}
use Rattle.braid_sync.specs.Syncs.{failing, IsCut, Subscribes, not_begun, caught_up, fell_short}
use Rattle.braid_sync.specs.Steps.{Does, Takes, IsHeard, StreamsNext, failing_heard, failing_in, end_of, said_on}
use Rattle.braid_sync.specs.Links.{HeardInSync}
use Rattle.braid_sync.proofs.Learned.{one_more_awaited}
use Rattle.braid_sync.proofs.Opened.{IsOpened, err_in}
use Rattle.braid_sync.proofs.Reading.{Reads, hearsay, reads_from, reads_more, heard_so_far, refusal_ends, stream_have}

-- what a subscription of a sync is, as its contract says it
abbrev pub IsSubscribed : Place → ReplicaView → ReplicaView → Option SyncEnd → Failing → Intake → Intake → Outflow → Outflow → Type 0
IsSubscribed place r q end failed i j o p = (sent : List ℕ) × (given : List ℕ) × Does sent given failed i j o p × Subscribes place r (said_on place sent given j) q end

pub subscribed_not : (place : Place) (r : ReplicaView) (end : SyncEnd) (i j : Intake) (o p : Outflow) → IsOpened place r (Err end) i j o p → IsSubscribed place r r (Some end) (failing end) i j o p
subscribed_not place r end i j o p h = (h.0, h.1, h.2, not_begun end h.3)

-- updates were learnt, and before none of them the version was held
pub record Catching (place : Place) (r : ReplicaView) (V : List (List ℕ)) (s : Stream) (q : ReplicaView) (i j : Intake) (o p : Outflow) : Type 0 where
  pub reads : Reads place r V s q i j o p
  pub awaits : Awaits V r reads.us

pub catching_from : (place : Place) (r : ReplicaView) (s : Subscription) (i j : Intake) (o p : Outflow) → IsOpened place r (Ok s) i j o p → Catching place r s.current s.stream r i j o p
catching_from place r s i j o p h = record { reads = reads_from place r s i j o p h; awaits = tt }

pub caught : (place : Place) (r : ReplicaView) (V : List (List ℕ)) (s : Stream) (q : ReplicaView) (i j : Intake) (o p : Outflow) → Catching place r V s q i j o p → HasVersion q V → IsSubscribed place r q None nothing_failed i j o p
caught place r V s q i j o p c v =
    let l = c.reads in
    (l.sent, l.given, l.does, caught_up l.kind V l.behind l.passed s.wire.held l.content l.us q l.opens (heard_so_far place r V s q i j o p l) c.awaits v)

as_heard : (heard : Heard) (known end : SyncEnd) (t : Stream) (us : List UpdateView) (content passed : List ℕ) (j : Intake) (q : ReplicaView) → end ≡ known
    → EndsHearing (IsCut t.body.kind content passed t.wire.held j.left) t.body.kind passed t.wire.held content us q known → failing_heard heard ≡ failing known
    → EndsHearing (IsCut t.body.kind content passed t.wire.held j.left) t.body.kind passed t.wire.held content us q end × (failing_heard heard ≡ failing end)
as_heard heard known end t us content passed j q e h f = (
  subst (λ (x : SyncEnd). EndsHearing (IsCut t.body.kind content passed t.wire.held j.left) t.body.kind passed t.wire.held content us q x) (sym e) h,
  f ∙ ap failing (sym e),
)

-- an end that was heard
ends_heard : (heard : Heard) (end : SyncEnd) (t : Stream) (us : List UpdateView) (content passed : List ℕ) (j : Intake) (q : ReplicaView) → HeardInSync (Err end) heard → IsHeard heard t.wire t.body t.reader t.piece us content passed j
    → EndsHearing (IsCut t.body.kind content passed t.wire.held j.left) t.body.kind passed t.wire.held content us q end × (failing_heard heard ≡ failing end)
ends_heard (heards.Update u) end t us content passed j q e h = absurd (cc)
ends_heard heards.Whole end t us content passed j q e h = as_heard heards.Whole ends.Cut end t us content passed j q (ap err_in e) (stream_have us content h.0 h.1, inl h.2) refl
ends_heard heards.Cut end t us content passed j q e h = as_heard heards.Cut ends.Cut end t us content passed j q (ap err_in e) (h.0, elim h.1 [ inl over ↦ inl over.0 | inr cut ↦ inr cut ]) refl
ends_heard heards.BadChunk end t us content passed j q e h = as_heard heards.BadChunk (ends.BadHead Against) end t us content passed j q (ap err_in e) h refl
ends_heard (heards.Fault f) end t us content passed j q e h = as_heard (heards.Fault f) (ends.BadStream f) end t us content passed j q (ap err_in e) h refl
ends_heard heards.ReadFault end t us content passed j q e h = as_heard heards.ReadFault ends.ReadFault end t us content passed j q (ap err_in e) h refl
ends_heard heards.Spent end t us content passed j q e h = as_heard heards.Spent ends.Spent end t us content passed j q (ap err_in e) h refl
ends_heard heards.Memory end t us content passed j q e h = as_heard heards.Memory ends.Memory end t us content passed j q (ap err_in e) tt refl

pub fell : (place : Place) (r : ReplicaView) (V : List (List ℕ)) (heard : Heard) (end : SyncEnd) (s t : Stream) (q : ReplicaView) (i j k : Intake) (o p e : Outflow) (c : Catching place r V s q i j o p) → StreamsNext heard s t c.reads.us c.reads.content c.reads.passed j k p e
    → t.body.kind ≡ s.body.kind → HeardInSync (Err end) heard → (HasVersion q V → ⊥) → IsSubscribed place r q (Some end) (failing end) i k o e
fell place r V heard end s t q i j k o p e c n kind is none =
    let h = hearsay place r V heard s t q i j k o p e c.reads n kind in
    let why = ends_heard heard end t c.reads.us h.content h.passed k q is h.heard_is in
    (h.sent, h.given, subst (λ (f : Failing). Does h.sent h.given f i k o e) why.1 h.does, fell_short t.body.kind V h.behind h.passed t.wire.held h.content c.reads.us q end h.opens h.hears c.awaits none why.0)

-- an update that was heard is refused
pub refused : (place : Place) (r : ReplicaView) (V : List (List ℕ)) (u : UpdateView) (end : SyncEnd) (s t : Stream) (q m : ReplicaView) (i j k : Intake) (o p e : Outflow) (c : Catching place r V s q i j o p) → StreamsNext (heards.Update u) s t c.reads.us c.reads.content c.reads.passed j k p e
    → t.body.kind ≡ s.body.kind → Takes (Err end) q u m → (HasVersion q V → ⊥) → IsSubscribed place r m (Some end) (failing end) i k o e
refused place r V u end s t q m i j k o p e c n kind takes none =
    let h = hearsay place r V (heards.Update u) s t q i j k o p e c.reads n kind in
    let cut = IsCut t.body.kind h.content h.passed t.wire.held k.left in
    let why : EndsHearing cut t.body.kind h.passed t.wire.held h.content c.reads.us q end × (nothing_failed ≡ failing end) =
    elim takes.0 [
      | inl refuses ↦ refusal_ends cut t.body.kind h.passed t.wire.held h.content c.reads.us q (answer_to q u) end refuses (record { update = u; begins = h.heard_is.1; refuses = refuses })
      | inr memory ↦ (subst (λ (x : SyncEnd). EndsHearing cut t.body.kind h.passed t.wire.held h.content c.reads.us q x) (sym memory) tt, sym (ap failing memory))
    ] in
    subst (λ (x : ReplicaView). IsSubscribed place r x (Some end) (failing end) i k o e) (sym takes.1)
    (h.sent, h.given, subst (λ (f : Failing). Does h.sent h.given f i k o e) why.1 h.does, fell_short t.body.kind V h.behind h.passed t.wire.held h.content c.reads.us q end h.opens h.hears c.awaits none why.0)

-- an update that was heard was learnt
pub catches_on : (place : Place) (r : ReplicaView) (V : List (List ℕ)) (u : UpdateView) (taken : Taken) (s t : Stream) (q m : ReplicaView) (i j k : Intake) (o p e : Outflow) (c : Catching place r V s q i j o p) → StreamsNext (heards.Update u) s t c.reads.us c.reads.content c.reads.passed j k p e
    → t.body.kind ≡ s.body.kind → Takes (Ok taken) q u m → (HasVersion q V → ⊥) → Catching place r V t m i k o e
catches_on place r V u taken s t q m i j k o p e c n kind takes none =
    record { reads = reads_more place r V u s t q m i j k o p e c.reads n kind takes.0 takes.2; awaits = one_more_awaited V r c.reads.us q u c.reads.learns c.awaits none }

-- a reader holds no more than it has read
pub held_within : (us : List UpdateView) (reader : Reading) (taken : List ℕ) → HasTaken us reader taken → length reader.held ≤ reader.read
held_within us reader taken h = omega (arith, h.count, ap length h.whole, length-append h.fed reader.held)

-- what is left to be read of a stream falls with each update
pub cost_falls : (m a b x y : ℕ) → b ≤ m → y ≤ b → (a < b) ⊎ ((b ≡ a) × (y < x)) → (m + 1) * (m - b) + y < (m + 1) * (m - a) + x
cost_falls m a b x y w held (inl less) =
    let step : m - b + 1 ≤ m - a = omega arith in
    omega (arith, mul-le-mul_left (m + 1) step)
cost_falls m a b x y w held (inr same) = let e = same.0 in let f = same.1 in rw e (omega (arith, f))

-- an update that was heard is what is heard
pub update_heard : (heard : Heard) (u : UpdateView) → HeardInSync (Ok u) heard → heard ≡ heards.Update u
update_heard (heards.Update w) u e = let same : w ≡ u = cc in ap (λ (x : UpdateView). heards.Update x) same
update_heard heards.Whole u e = absurd (cc)
update_heard heards.Cut u e = absurd (cc)
update_heard heards.BadChunk u e = absurd (cc)
update_heard (heards.Fault f) u e = absurd (cc)
update_heard heards.ReadFault u e = absurd (cc)
update_heard heards.Spent u e = absurd (cc)
update_heard heards.Memory u e = absurd (cc)

-- a subscription of a sync, as its result says
abbrev pub SubscribedAs : Place → ReplicaView → ReplicaView → Result (Unit {0}) SyncEnd → Intake → Intake → Outflow → Outflow → Type 0
SubscribedAs place r q result i j o p = (sent : List ℕ) × (given : List ℕ) × Does sent given (failing_in result) i j o p × Subscribes place r (said_on place sent given j) q (end_of result)

pub subscribed_as : (place : Place) (r q : ReplicaView) (result : Result (Unit {0}) SyncEnd) (end : SyncEnd) (i j : Intake) (o p : Outflow) → result ≡ Err end → IsSubscribed place r q (Some end) (failing end) i j o p → SubscribedAs place r q result i j o p
subscribed_as place r q result end i j o p e h = subst (λ (x : Result (Unit {0}) SyncEnd). SubscribedAs place r q x i j o p) (sym e) h

-- an update that was heard
pub next_update : (heard : Heard) (u : UpdateView) (s t : Stream) (us : List UpdateView) (content passed : List ℕ) (i j : Intake) (o p : Outflow) → HeardInSync (Ok u) heard → StreamsNext heard s t us content passed i j o p → StreamsNext (heards.Update u) s t us content passed i j o p
next_update heard u s t us content passed i j o p e n = subst (λ (h : Heard). StreamsNext h s t us content passed i j o p) (update_heard heard u e) n
