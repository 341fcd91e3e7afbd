-- The reading of a subscription's body, update by update, and how it ends.
use Rattle.std.proofs.Common.{◌≡◌, ℕ, List, [], ◌∷◌, ◌++◌, Some, None, Ok, refl, ap, sym, subst, ◌∙◌, append_assoc, append-nil, ◌<◌, length}
use Rattle.std.proofs.lemmas.Option.{same_Some}
use Rattle.braid_io.specs.Outside.{Intake, Outflow}
use Rattle.braid_change.specs.Updates.{UpdateView}
use Rattle.braid_grammar.specs.Streams.{IsStream}
use Rattle.braid_grammar.proofs.Law.{no_stream}
use Rattle.braid_grammar.proofs.Completed.{stream_completes}
use Rattle.braid_stream.specs.Readers.{most_bytes}
use Rattle.braid_http.specs.declared.response.BodyKind.{BodyKind}
use Rattle.braid_outbox.specs.declared.learn.Learn.{Learn}
use Rattle.braid_outbox.specs.declared.learn.Learn.TheVariants as learns
use Rattle.braid_outbox.specs.Replicas.{ReplicaView}
use Rattle.braid_sync.specs.declared.place.Place.{Place}
use Rattle.braid_sync.specs.declared.end.SyncEnd.{SyncEnd}
use Rattle.braid_sync.specs.declared.end.SyncEnd.TheVariants as ends
use Rattle.braid_sync.specs.declared.hear.Heard.{Heard}
use Rattle.braid_sync.specs.declared.hear.Heard.TheVariants as heards
use Rattle.braid_sync.specs.declared.hear.Stream.{Stream}
use Rattle.braid_sync.specs.declared.opening.Subscription.{Subscription}
use Rattle.braid_sync.specs.Talks.{Failing, nothing_failed}
use Rattle.braid_sync.specs.Learning.{refusal_end, answer_to, learnt, Learns}
use Rattle.braid_sync.specs.Hearing.{HasData, BeginWith, seen, Hears, HaveAll, IsRefused, EndsHearing}
use Rattle.braid_sync.specs.Opening.{Opens, opened}
use Rattle.braid_sync.specs.Syncs.{failing}
use Rattle.braid_sync.specs.Steps.{Does, StreamsOn, IsHeard, StreamsNext, failing_heard, said_on}
use Rattle.braid_sync.proofs.Doing.{does_then}
use Rattle.braid_sync.proofs.Streaming.{begin_none, begin_seen_more}
use Rattle.braid_sync.proofs.Growing.{still_begun}
use Rattle.braid_sync.proofs.Learned.{one_more_learnt}
use Rattle.braid_sync.proofs.Refilling.{data_read}
use Rattle.braid_sync.proofs.Opened.{IsOpened}

-- a subscription was begun, and updates of its body were learnt one after the other
pub record Reads (place : Place) (r : ReplicaView) (V : List (List ℕ)) (s : Stream) (q : ReplicaView) (i j : Intake) (o p : Outflow) : Type 0 where
  pub kind : BodyKind
  pub is_kind : s.body.kind ≡ kind
  pub sent : List ℕ
  pub given : List ℕ
  pub behind : List ℕ
  pub passed : List ℕ
  pub content : List ℕ
  pub us : List UpdateView
  pub does : Does sent given nothing_failed i j o p
  pub opens : Opens place r (said_on place sent given j) (opened kind V behind)
  pub split : behind ≡ passed ++ s.wire.held
  pub on : StreamsOn s.wire s.body s.reader s.piece us content passed
  pub begins : BeginWith us (seen content)
  pub learns : Learns r us q

abbrev pub reads_from : (place : Place) (r : ReplicaView) (s : Subscription) (i j : Intake) (o p : Outflow) → IsOpened place r (Ok s) i j o p → Reads place r s.current s.stream r i j o p
reads_from place r s i j o p h =
    record {
      kind = s.stream.body.kind;
      is_kind = refl;
      sent = h.0;
      given = h.1;
      behind = s.stream.wire.held;
      passed = [];
      content = [];
      us = [];
      does = h.2;
      opens = h.3.0;
      split = refl;
      on = h.3.1;
      begins = begin_none (seen []);
      learns = refl;
    }

-- bytes behind a place, in two parts
pub two_parts : (b g u h v c : List ℕ) → b ≡ u ++ h → h ++ g ≡ v ++ c → b ++ g ≡ (u ++ v) ++ c
two_parts b g u h v c e f = ap (λ (t : List ℕ). t ++ g) e ∙ append_assoc u h g ∙ ap (λ (t : List ℕ). u ++ t) f ∙ sym (append_assoc u v c)

-- what was read, and more
pub reads_on : (s g h : List ℕ) (f : Failing) (i j k : Intake) (o p q : Outflow) → Does s g nothing_failed i j o p → Does [] h f j k p q → Does s (g ++ h) f i k o q
reads_on s g h f i j k o p q d e = subst (λ (t : List ℕ). Does t (g ++ h) f i k o q) (append-nil s) (does_then s [] g h f i j k o p q d e)

-- what is said of the link once the next answer was heard, behind these updates
pub record Hearsay (place : Place) (r : ReplicaView) (V : List (List ℕ)) (heard : Heard) (t : Stream) (q : ReplicaView) (us : List UpdateView) (i j : Intake) (o p : Outflow) : Type 0 where
  pub sent : List ℕ
  pub given : List ℕ
  pub behind : List ℕ
  pub passed : List ℕ
  pub content : List ℕ
  pub does : Does sent given (failing_heard heard) i j o p
  pub opens : Opens place r (said_on place sent given j) (opened t.body.kind V behind)
  pub hears : Hears t.body.kind behind r passed t.wire.held content us q
  pub heard_is : IsHeard heard t.wire t.body t.reader t.piece us content passed j

abbrev pub hearsay : (place : Place) (r : ReplicaView) (V : List (List ℕ)) (heard : Heard) (s t : Stream) (q : ReplicaView) (i j k : Intake) (o p e : Outflow) (l : Reads place r V s q i j o p) → StreamsNext heard s t l.us l.content l.passed j k p e → t.body.kind ≡ s.body.kind
    → Hearsay place r V heard t q l.us i k o e
hearsay place r V heard s t q i j k o p e l n kind =
    record {
      sent = l.sent;
      given = l.given ++ n.given;
      behind = l.behind ++ n.given;
      passed = l.passed ++ n.used;
      content = l.content ++ n.more;
      does = reads_on l.sent l.given n.given (failing_heard heard) i j k o p e l.does n.does;
      opens = subst (λ (x : BodyKind). Opens place r (said_on place l.sent (l.given ++ n.given) k) (opened x V (l.behind ++ n.given))) (sym (kind ∙ l.is_kind))
          (still_begun place r place.server l.sent l.given n.given j.left k.left l.kind V l.behind l.opens);
      hears = record {
        split = two_parts l.behind n.given l.passed s.wire.held n.used t.wire.held l.split n.whole;
        comes = n.comes;
        begins = begin_seen_more l.us l.content n.more l.begins;
        learns = l.learns;
      };
      heard_is = n.hears;
    }

-- an update was heard and learnt
abbrev pub reads_more : (place : Place) (r : ReplicaView) (V : List (List ℕ)) (u : UpdateView) (s t : Stream) (q m : ReplicaView) (i j k : Intake) (o p e : Outflow) (l : Reads place r V s q i j o p) → StreamsNext (heards.Update u) s t l.us l.content l.passed j k p e → t.body.kind ≡ s.body.kind
    → refusal_end (answer_to q u) ≡ None → m ≡ learnt q u → Reads place r V t m i k o e
reads_more place r V u s t q m i j k o p e l n kind taken is =
    let h = hearsay place r V (heards.Update u) s t q i j k o p e l n kind in
    record {
      kind = t.body.kind;
      is_kind = refl;
      sent = h.sent;
      given = h.given;
      behind = h.behind;
      passed = h.passed;
      content = h.content;
      us = l.us ++ u ∷ [];
      does = h.does;
      opens = h.opens;
      split = h.hears.split;
      on = n.hears.0;
      begins = n.hears.1;
      learns = subst (λ (x : ReplicaView). Learns r (l.us ++ u ∷ []) x) (sym is) (one_more_learnt r l.us q u l.learns taken);
    }

-- what was heard so far, where nothing more is read
pub heard_so_far : (place : Place) (r : ReplicaView) (V : List (List ℕ)) (s : Stream) (q : ReplicaView) (i j : Intake) (o p : Outflow) (l : Reads place r V s q i j o p) → Hears l.kind l.behind r l.passed s.wire.held l.content l.us q
heard_so_far place r V s q i j o p l =
    record {
      split = l.split;
      comes = subst (λ (x : BodyKind). HasData x l.content l.passed) l.is_kind (data_read s.body l.content l.passed l.on.read);
      begins = l.begins;
      learns = l.learns;
    }

-- the updates of a stream are those that its bytes complete, and these have no fault
pub stream_have : (us : List UpdateView) (content : List ℕ) → IsStream us content → length content < most_bytes → HaveAll us content
stream_have us content s short = record { have = record { completes = stream_completes us content s; faultless = λ at reason f. no_stream us content at reason s f }; short = short }

as_end : (cut : Type 0) (kind : BodyKind) (passed rest content : List ℕ) (us : List UpdateView) (q : ReplicaView) (known end : SyncEnd) → known ≡ end → IsRefused us content q end
    → (IsRefused us content q known → EndsHearing cut kind passed rest content us q known) → nothing_failed ≡ failing known → EndsHearing cut kind passed rest content us q end × (nothing_failed ≡ failing end)
as_end cut kind passed rest content us q known end e h f quiet = (
  subst (λ (x : SyncEnd). EndsHearing cut kind passed rest content us q x) e (f (subst (λ (x : SyncEnd). IsRefused us content q x) (sym e) h)),
  quiet ∙ ap failing e,
)

-- an update that is refused ends the reading
pub refusal_ends : (cut : Type 0) (kind : BodyKind) (passed rest content : List ℕ) (us : List UpdateView) (q : ReplicaView) (a : Learn) (end : SyncEnd) → refusal_end a ≡ Some end → IsRefused us content q end → EndsHearing cut kind passed rest content us q end × (nothing_failed ≡ failing end)
refusal_ends cut kind passed rest content us q learns.New end e h = absurd (cc)
refusal_ends cut kind passed rest content us q learns.Confirmed end e h = absurd (cc)
refusal_ends cut kind passed rest content us q learns.Known end e h = absurd (cc)
refusal_ends cut kind passed rest content us q (learns.Clash v) end e h = as_end cut kind passed rest content us q (ends.Clash v) end (same_Some _ _ e) h (λ x. x) refl
refusal_ends cut kind passed rest content us q (learns.UnknownParent v) end e h = as_end cut kind passed rest content us q (ends.UnknownParent v) end (same_Some _ _ e) h (λ x. x) refl
refusal_ends cut kind passed rest content us q (learns.OutOfRange patch len) end e h = as_end cut kind passed rest content us q (ends.OutOfRange patch len) end (same_Some _ _ e) h (λ x. x) refl
refusal_ends cut kind passed rest content us q (learns.Full which limit) end e h = as_end cut kind passed rest content us q (ends.Full which limit) end (same_Some _ _ e) h (λ x. x) refl
refusal_ends cut kind passed rest content us q learns.Memory end e h = as_end cut kind passed rest content us q ends.Memory end (same_Some _ _ e) h (λ x. tt) refl
