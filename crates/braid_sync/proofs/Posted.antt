-- The PUTs on one link.
use Rattle.std.proofs.Common.{◌≡◌, ◌⊎◌, ◌+◌, ◌<◌, ◌≤◌, ℕ, List, [], ◌∷◌, ◌++◌, Option, Some, None, Result, Ok, Err, length, refl, ap, sym, subst, ◌∙◌, inl, inr}
use Rattle.std.proofs.lemmas.List.{length_push}
use Rattle.braid_io.specs.Outside.{Intake, Outflow}
use Rattle.braid_change.specs.Updates.{UpdateView}
use Rattle.braid_http.specs.Asks.{WireView}
use Rattle.braid_outbox.specs.Replicas.{ReplicaView}
use Rattle.braid_sync.specs.declared.place.Place.{Place}
use Rattle.braid_sync.specs.declared.end.SyncEnd.{SyncEnd}
use Rattle.braid_sync.specs.declared.end.SyncEnd.TheVariants as ends
use Rattle.braid_sync.specs.Talks.{Failing, nothing_failed}
use Rattle.braid_sync.specs.Posting.{put_texts, Confirms, IsHeadOf, Acknowledges, Posts, posted, unwritten, unanswered, unaided}
use Rattle.braid_sync.specs.Syncs.{failing}
use Rattle.braid_sync.specs.Steps.{Does, failing_in, end_of, said_on}
use Rattle.braid_sync.specs.Links.{PostsOf, PostsOne}
use Rattle.braid_sync.proofs.Doing.{does_none, does_then}
use Rattle.braid_sync.proofs.Growing.{still_acknowledged, one_more_acknowledged, one_more_put, one_more_confirmed, none_confirmed}

-- updates were sent on a link, acknowledged and confirmed
pub record Posting (place : Place) (r q : ReplicaView) (wire : WireView) (n : ℕ) (i j : Intake) (o p : Outflow) : Type 0 where
  pub sent : List ℕ
  pub given : List ℕ
  pub us : List UpdateView
  pub does : Does sent given nothing_failed i j o p
  pub confirms : Confirms r us q
  pub count : length us ≡ n
  pub sent_is : sent ≡ put_texts place us
  pub replies : Acknowledges us given wire.held j.left
  pub going : wire.over ≡ None

abbrev pub IsPosted : Place → ReplicaView → ReplicaView → Option SyncEnd → Failing → Intake → Intake → Outflow → Outflow → Type 0
IsPosted place r q end failed i j o p = (sent : List ℕ) × (given : List ℕ) × Does sent given failed i j o p × Posts place r (said_on place sent given j) q end

pub posting_none : (place : Place) (r : ReplicaView) (wire : WireView) (i : Intake) (o : Outflow) → wire.held ≡ [] → wire.over ≡ None → Posting place r r wire 0 i i o o
posting_none place r wire i o e g =
    record { sent = []; given = []; us = []; does = does_none i o; confirms = none_confirmed r; count = refl; sent_is = refl; replies = sym e; going = g }

pub posted_all : (place : Place) (r q : ReplicaView) (wire : WireView) (n : ℕ) (i j : Intake) (o p : Outflow) → Posting place r q wire n i j o p → n ≤ 1_000 → (q.unsent ≡ []) ⊎ (n ≡ 1_000) → IsPosted place r q None nothing_failed i j o p
posted_all place r q wire n i j o p h few end =
    let last : (q.unsent ≡ []) ⊎ (length h.us ≡ 1_000) = elim end [ inl none ↦ inl none | inr full ↦ inr (h.count ∙ full) ] in
    (h.sent, h.given, h.does, posted h.us wire.held q h.confirms (subst (λ (k : ℕ). k ≤ 1_000) (sym h.count) few) last h.sent_is h.replies)

-- one PUT more, as its contract says it
abbrev pub PutDone : Place → ReplicaView → ReplicaView → Result (Unit {0}) SyncEnd → List ℕ → WireView → Intake → Intake → Outflow → Outflow → Type 0
PutDone place q m result held wire j k p e = (sent : List ℕ) × (given : List ℕ) × Does sent given (failing_in result) j k p e × PostsOne place q result sent (held ++ given) wire.held k.left m

pub posting_more : (place : Place) (r q m : ReplicaView) (before wire : WireView) (n : ℕ) (x : Unit {0}) (i j k : Intake) (o p e : Outflow) → Posting place r q before n i j o p → PutDone place q m (Ok x) before.held wire j k p e → wire.over ≡ None
    → Posting place r m wire (n + 1) i k o e
posting_more place r q m before wire n x i j k o p e h d going =
    let u = d.3.0 in
    let one = d.3.2 in
    record {
      sent = h.sent ++ d.0;
      given = h.given ++ d.1;
      us = h.us ++ u ∷ [];
      does = does_then h.sent d.0 h.given d.1 nothing_failed i j k o p e h.does d.2;
      confirms = one_more_confirmed r h.us q u m h.confirms one.2;
      count = length_push h.us u ∙ ap (λ (c : ℕ). c + 1) h.count;
      sent_is = ap (λ (t : List ℕ). t ++ d.0) h.sent_is ∙ ap (λ (t : List ℕ). put_texts place h.us ++ t) one.0 ∙ sym (one_more_put place h.us u);
      replies = one_more_acknowledged h.us u (h.given ++ d.1) (before.held ++ d.1) wire.held k.left (still_acknowledged h.us h.given before.held d.1 j.left k.left d.2.left h.replies) one.1;
      going = going;
    }

-- the end of a PUT, behind those that were acknowledged
put_ends : (place : Place) (r q m : ReplicaView) (end : SyncEnd) (us : List UpdateView) (u : UpdateView) (part given rest kept : List ℕ) (sent : List ℕ) (k : Intake) → Confirms r us q → length us < 1_000 → IsHeadOf q u → sent ≡ put_texts place us ++ part
    → Acknowledges us given rest k.left → PostsOf place q (Err end) part rest kept k.left m u → Posts place r (said_on place sent given k) q (Some end) × (m ≡ q)
put_ends place r q m ends.WriteFault us u part given rest kept sent k c few head s a h = (unwritten us u part rest q c few head h.1 s a, h.0)
put_ends place r q m ends.Memory us u part given rest kept sent k c few head s a h = (unaided us u part rest q c few head h.1 s a, h.0)
put_ends place r q m end us u part given rest kept sent k c few head s a h = (unanswered us u rest q end c few head (s ∙ ap (λ (t : List ℕ). put_texts place us ++ t) h.1) a h.2, h.0)

pub posting_ends : (place : Place) (r q m : ReplicaView) (before wire : WireView) (n : ℕ) (end : SyncEnd) (i j k : Intake) (o p e : Outflow) → Posting place r q before n i j o p → n < 1_000 → PutDone place q m (Err end) before.held wire j k p e
    → IsPosted place r m (Some end) (failing end) i k o e
posting_ends place r q m before wire n end i j k o p e h few d =
    let still = still_acknowledged h.us h.given before.held d.1 j.left k.left d.2.left h.replies in
    let why = put_ends place r q m end h.us d.3.0 d.0 (h.given ++ d.1) (before.held ++ d.1) wire.held (h.sent ++ d.0) k h.confirms (subst (λ (c : ℕ). c < 1_000) (sym h.count) few) d.3.1 (ap (λ (t : List ℕ). t ++ d.0) h.sent_is) still d.3.2 in
    (h.sent ++ d.0, h.given ++ d.1, does_then h.sent d.0 h.given d.1 (failing end) i j k o p e h.does d.2, subst (λ (x : ReplicaView). Posts place r (said_on place (h.sent ++ d.0) (h.given ++ d.1) k) x (Some end)) (sym why.1) why.0)

-- the PUTs of a link, as their result says
abbrev pub PostedAs : Place → ReplicaView → ReplicaView → Result (Unit {0}) SyncEnd → Intake → Intake → Outflow → Outflow → Type 0
PostedAs place r q result i j o p = (sent : List ℕ) × (given : List ℕ) × Does sent given (failing_in result) i j o p × Posts place r (said_on place sent given j) q (end_of result)

pub posted_as : (place : Place) (r q : ReplicaView) (result : Result (Unit {0}) SyncEnd) (end : SyncEnd) (i j : Intake) (o p : Outflow) → result ≡ Err end → IsPosted place r q (Some end) (failing end) i j o p → PostedAs place r q result i j o p
posted_as place r q result end i j o p e h = subst (λ (x : Result (Unit {0}) SyncEnd). PostedAs place r q x i j o p) (sym e) h
