-- A follow, update by update.
use Rattle.std.proofs.Common.{◌≡◌, ◌≢◌, ◌⊎◌, ◌+◌, ◌<◌, ◌≤◌, ℕ, List, [], ◌∷◌, ◌++◌, Option, Some, None, Result, Ok, Err, length, refl, ap, sym, subst, ◌∙◌, append_assoc, inl, inr, arith}
use Rattle.std.proofs.lemmas.List.{length_push}
use Rattle.std.specs.Io.KnownBytes.{append_known}
use Rattle.braid_io.specs.Outside.{Intake, Outflow, Rose, WritesAll, WritesPart}
use Rattle.braid_io.specs.Dialers.{Dialing}
use Rattle.braid_io.proofs.Known.{append_known-append}
use Rattle.braid_stream.proofs.Moved.{append_known-nil}
use Rattle.braid_change.specs.Updates.{UpdateView}
use Rattle.braid_http.specs.declared.refusal.Refusal.TheVariants.{BadChunk as Against}
use Rattle.braid_outbox.specs.Replicas.{ReplicaView}
use Rattle.braid_sync.specs.declared.place.Place.{Place}
use Rattle.braid_sync.specs.declared.end.SyncEnd.{SyncEnd}
use Rattle.braid_sync.specs.declared.end.SyncEnd.TheVariants as ends
use Rattle.braid_sync.specs.declared.hear.Heard.{Heard}
use Rattle.braid_sync.specs.declared.hear.Heard.TheVariants as heards
use Rattle.braid_sync.specs.declared.hear.Stream.{Stream}
use Rattle.braid_sync.specs.declared.opening.Subscription.{Subscription}
use Rattle.braid_sync.specs.Talks.{Said, Gains, Failing, nothing_failed, print_failed, FailedBy}
use Rattle.braid_sync.specs.Learning.{refusal_end, answer_to, learnt, Refuses}
use Rattle.braid_sync.specs.Hearing.{EndsHearing}
use Rattle.braid_sync.specs.Syncs.{failing}
use Rattle.braid_sync.specs.Follows.{IsCut, FollowText, not_begun, counted, heard_out, broken_off, unprinted, unreached, unaided, Prints, Follows, line_of, lines_of}
use Rattle.braid_sync.specs.Steps.{Does, IsHeard, StreamsNext, failing_heard, failing_in, said_on}
use Rattle.braid_sync.specs.Links.{HeardInFollow, LearnsAndPrints, FollowsOn, FollowsOver, TalksOnce}
use Rattle.braid_sync.proofs.Learned.{one_more_line}
use Rattle.braid_sync.proofs.Opened.{IsOpened, err_in}
use Rattle.braid_sync.proofs.Reading.{Reads, hearsay, reads_from, reads_more, heard_so_far, refusal_ends}

abbrev pub IsFollowed : Place → ℕ → ReplicaView → ReplicaView → Result (Unit {0}) SyncEnd → ℕ → Intake → Intake → Outflow → Outflow → Outflow → Outflow → Type 0
IsFollowed place count r q result n i j o p a b = (sent : List ℕ) × (given : List ℕ) × Does sent given (failing_in result) i j o p × FollowsOn place count r (said_on place sent given j) result n q a b

-- nothing was printed
pub prints_none : (a : Outflow) → WritesAll [] a a
prints_none a = record { written = sym (append_known-nil a.written); faults = refl }

pub follow_not : (place : Place) (count : ℕ) (r : ReplicaView) (end : SyncEnd) (n : ℕ) (i j : Intake) (o p a : Outflow) → IsOpened place r (Err end) i j o p → n ≡ 0 → IsFollowed place count r r (Err end) n i j o p a a
follow_not place count r end n i j o p a h z =
    (h.0, h.1, h.2, record { lines = []; line = []; text = subst (λ (k : ℕ). FollowText place count r (said_on place h.0 h.1 j ∷ []) [] k [] r end) (sym z) (not_begun (said_on place h.0 h.1 j) end refl h.3); printed = prints_none a })

-- updates were learnt, and their lines printed
pub record Following (place : Place) (count : ℕ) (r : ReplicaView) (V : List (List ℕ)) (s : Stream) (q : ReplicaView) (n : ℕ) (i j : Intake) (o p a b : Outflow) : Type 0 where
  pub reads : Reads place r V s q i j o p
  pub number : length reads.us ≡ n
  pub few : n ≤ count
  pub printed : WritesAll (lines_of r reads.us) a b

pub following_from : (place : Place) (count : ℕ) (r : ReplicaView) (s : Subscription) (n : ℕ) (i j : Intake) (o p a : Outflow) → IsOpened place r (Ok s) i j o p → n ≡ 0 → Following place count r s.current s.stream r n i j o p a a
following_from place count r s n i j o p a h z =
    record { reads = reads_from place r s i j o p h; number = sym z; few = omega (arith, z); printed = prints_none a }

-- a text of so many lines
counts_as : (place : Place) (count : ℕ) (r q : ReplicaView) (said : List Said) (lines line : List ℕ) (m n : ℕ) (end : SyncEnd) → m ≡ n → FollowText place count r said lines m line q end → FollowText place count r said lines n line q end
counts_as place count r q said lines line m n end e t = subst (λ (k : ℕ). FollowText place count r said lines k line q end) e t

pub followed_all : (place : Place) (count : ℕ) (r : ReplicaView) (V : List (List ℕ)) (s : Stream) (q : ReplicaView) (n : ℕ) (x : Unit {0}) (i j : Intake) (o p a b : Outflow) → Following place count r V s q n i j o p a b → count ≤ n → IsFollowed place count r q (Ok x) n i j o p a b
followed_all place count r V s q n x i j o p a b f full =
    let l = f.reads in
    let few = f.few in
    let number = f.number in
    let all : length l.us ≡ count = omega arith in
    let said = said_on place l.sent l.given j in (
      l.sent,
      l.given,
      l.does,
      record {
        lines = lines_of r l.us;
        line = [];
        text = counts_as place count r q (said ∷ []) (lines_of r l.us) [] (length l.us) n ends.Done f.number
            (counted said l.kind V l.behind l.passed s.wire.held l.content l.us q refl l.opens (heard_so_far place r V s q i j o p l) all);
        printed = f.printed;
      },
    )

-- what is heard ends a follow
as_heard : (heard : Heard) (known end : SyncEnd) (t : Stream) (us : List UpdateView) (content passed : List ℕ) (j : Intake) (q : ReplicaView) → end ≡ known
    → EndsHearing (IsCut t.body.kind content passed t.wire.held j.left) t.body.kind passed t.wire.held content us q known → failing_heard heard ≡ failing known
    → EndsHearing (IsCut t.body.kind content passed t.wire.held j.left) t.body.kind passed t.wire.held content us q end × (failing_heard heard ≡ failing end)
as_heard heard known end t us content passed j q e h f = (
  subst (λ (x : SyncEnd). EndsHearing (IsCut t.body.kind content passed t.wire.held j.left) t.body.kind passed t.wire.held content us q x) (sym e) h,
  f ∙ ap failing (sym e),
)

ends_heard : (heard : Heard) (end : SyncEnd) (t : Stream) (us : List UpdateView) (content passed : List ℕ) (j : Intake) (q : ReplicaView) → HeardInFollow (Err end) heard → IsHeard heard t.wire t.body t.reader t.piece us content passed j
    → EndsHearing (IsCut t.body.kind content passed t.wire.held j.left) t.body.kind passed t.wire.held content us q end × (failing_heard heard ≡ failing end)
ends_heard (heards.Update u) end t us content passed j q e h = absurd (cc)
ends_heard heards.Whole end t us content passed j q e h = absurd (cc)
ends_heard heards.Cut end t us content passed j q e h = as_heard heards.Cut ends.Cut end t us content passed j q (ap err_in e) h refl
ends_heard heards.BadChunk end t us content passed j q e h = as_heard heards.BadChunk (ends.BadHead Against) end t us content passed j q (ap err_in e) h refl
ends_heard (heards.Fault f) end t us content passed j q e h = as_heard (heards.Fault f) (ends.BadStream f) end t us content passed j q (ap err_in e) h refl
ends_heard heards.ReadFault end t us content passed j q e h = as_heard heards.ReadFault ends.ReadFault end t us content passed j q (ap err_in e) h refl
ends_heard heards.Spent end t us content passed j q e h = as_heard heards.Spent ends.Spent end t us content passed j q (ap err_in e) h refl
ends_heard heards.Memory end t us content passed j q e h = as_heard heards.Memory ends.Memory end t us content passed j q (ap err_in e) tt refl

pub followed_broken : (place : Place) (count : ℕ) (r : ReplicaView) (V : List (List ℕ)) (heard : Heard) (end : SyncEnd) (s t : Stream) (q : ReplicaView) (n : ℕ) (i j k : Intake) (o p e a b : Outflow) (f : Following place count r V s q n i j o p a b) → n < count
    → StreamsNext heard s t f.reads.us f.reads.content f.reads.passed j k p e → t.body.kind ≡ s.body.kind → HeardInFollow (Err end) heard → IsFollowed place count r q (Err end) n i k o e a b
followed_broken place count r V heard end s t q n i j k o p e a b f few next kind is =
    let us = f.reads.us in
    let h = hearsay place r V heard s t q i j k o p e f.reads next kind in
    let why = ends_heard heard end t us h.content h.passed k q is h.heard_is in
    let said = said_on place h.sent h.given k in (
      h.sent,
      h.given,
      subst (λ (x : Failing). Does h.sent h.given x i k o e) why.1 h.does,
      record {
        lines = lines_of r us;
        line = [];
        text = counts_as place count r q (said ∷ []) (lines_of r us) [] (length us) n end f.number
            (broken_off said t.body.kind V h.behind h.passed t.wire.held h.content us q end refl h.opens h.hears (subst (λ (c : ℕ). c < count) (sym f.number) few) why.0);
        printed = f.printed;
      },
    )

-- the body is whole, and its data is these updates
whole_heard : (heard : Heard) → HeardInFollow (Ok None) heard → heard ≡ heards.Whole
whole_heard (heards.Update u) e = absurd (cc)
whole_heard heards.Whole e = refl
whole_heard heards.Cut e = absurd (cc)
whole_heard heards.BadChunk e = absurd (cc)
whole_heard (heards.Fault f) e = absurd (cc)
whole_heard heards.ReadFault e = absurd (cc)
whole_heard heards.Spent e = absurd (cc)
whole_heard heards.Memory e = absurd (cc)

pub followed_out : (place : Place) (count : ℕ) (r : ReplicaView) (V : List (List ℕ)) (heard : Heard) (s t : Stream) (q : ReplicaView) (n : ℕ) (x : Unit {0}) (i j k : Intake) (o p e a b : Outflow) (f : Following place count r V s q n i j o p a b) → n < count
    → StreamsNext heard s t f.reads.us f.reads.content f.reads.passed j k p e → t.body.kind ≡ s.body.kind → HeardInFollow (Ok None) heard → IsFollowed place count r q (Ok x) n i k o e a b
followed_out place count r V heard s t q n x i j k o p e a b f few next kind is =
    let us = f.reads.us in
    let whole : StreamsNext heards.Whole s t us f.reads.content f.reads.passed j k p e = subst (λ (y : Heard). StreamsNext y s t us f.reads.content f.reads.passed j k p e) (whole_heard heard is) next in
    let h = hearsay place r V heards.Whole s t q i j k o p e f.reads whole kind in
    let said = said_on place h.sent h.given k in (
      h.sent,
      h.given,
      h.does,
      record {
        lines = lines_of r us;
        line = [];
        text = counts_as place count r q (said ∷ []) (lines_of r us) [] (length us) n ends.Done f.number
            (heard_out said t.body.kind V h.behind h.passed t.wire.held h.content us q refl h.opens h.hears (subst (λ (c : ℕ). c < count) (sym f.number) few)
            (record { over = h.heard_is.2; stream = h.heard_is.0; short = h.heard_is.1 }));
        printed = f.printed;
      },
    )

-- an update that was heard is what is heard
pub update_heard : (heard : Heard) (u : UpdateView) → HeardInFollow (Ok (Some u)) heard → heard ≡ heards.Update u
update_heard (heards.Update w) u e = let same : w ≡ u = cc in ap (λ (x : UpdateView). heards.Update x) same
update_heard heards.Whole u e = absurd (cc)
update_heard heards.Cut u e = absurd (cc)
update_heard heards.BadChunk u e = absurd (cc)
update_heard (heards.Fault f) u e = absurd (cc)
update_heard heards.ReadFault u e = absurd (cc)
update_heard heards.Spent u e = absurd (cc)
update_heard heards.Memory u e = absurd (cc)

-- an update that was heard was learnt, and its line printed

writes_then : (xs ys : List ℕ) (a b c : Outflow) → WritesAll xs a b → WritesAll ys b c → WritesAll (xs ++ ys) a c
writes_then xs ys a b c w v =
    record { written = v.written ∙ ap (λ x. append_known x ys) w.written ∙ append_known-append a.written xs ys; faults = v.faults ∙ w.faults }

pub following_on : (place : Place) (count : ℕ) (r : ReplicaView) (V : List (List ℕ)) (u : UpdateView) (s t : Stream) (q m : ReplicaView) (n : ℕ) (x : Unit {0}) (i j k : Intake) (o p e a b c : Outflow) (f : Following place count r V s q n i j o p a b) → n < count
    → StreamsNext (heards.Update u) s t f.reads.us f.reads.content f.reads.passed j k p e → t.body.kind ≡ s.body.kind → LearnsAndPrints (Ok x) q u m b c → Following place count r V t m (n + 1) i k o e a c
following_on place count r V u s t q m n x i j k o p e a b c f few next kind lp =
    let us = f.reads.us in
    record {
      reads = reads_more place r V u s t q m i j k o p e f.reads next kind lp.0 lp.1;
      number = length_push us u ∙ ap (λ (y : ℕ). y + 1) f.number;
      few = omega (arith, few);
      printed = subst (λ (l : List ℕ). WritesAll l a c) (sym (one_more_line r us q u f.reads.learns)) (writes_then (lines_of r us) (line_of q u) a b c f.printed lp.2);
    }

-- an update was learnt and its line was not written whole
record NotPrinted (end : SyncEnd) (q : ReplicaView) (u : UpdateView) (m : ReplicaView) (b c : Outflow) : Type 0 where
  pub is : end ≡ ends.OutFault
  pub taken : refusal_end (answer_to q u) ≡ None
  pub left : m ≡ learnt q u
  pub part : WritesPart (line_of q u) b c

-- it was not learnt
record NotLearnt (end : SyncEnd) (q : ReplicaView) (u : UpdateView) (m : ReplicaView) (b c : Outflow) : Type 0 where
  pub why : Refuses q u end ⊎ (end ≡ ends.Memory)
  pub kept : m ≡ q
  pub unwritten : c ≡ b

not_printed : (end : SyncEnd) (q : ReplicaView) (u : UpdateView) (m : ReplicaView) (b c : Outflow) → LearnsAndPrints (Err end) q u m b c → NotPrinted end q u m b c ⊎ NotLearnt end q u m b c
not_printed ends.OutFault q u m b c h = inl (record { is = refl; taken = h.0; left = h.1; part = h.2 })
not_printed end q u m b c h = inr (record { why = h.0; kept = h.1; unwritten = h.2 })

prints_unfinished : (lines line : List ℕ) (a b c : Outflow) → WritesAll lines a b → WritesPart line b c → Prints lines line a c
prints_unfinished lines [] a b c w v = absurd (v.unfinished (none_behind v.front v.rest v.whole)) where
  none_behind : (xs ys : List ℕ) → [] ≡ xs ++ ys → ys ≡ []
  none_behind [] ys e = sym e
  none_behind (x ∷ xs) ys e = absurd (cc)
prints_unfinished lines (byte ∷ line) a b c w v = record { between = b; before = w; then_part = v }

as_print : (sent given : List ℕ) (i j : Intake) (o p : Outflow) → Does sent given nothing_failed i j o p → Does sent given print_failed i j o p
as_print sent given i j o p d = record { taken = d.taken; left = d.left; written = d.written; counts = d.counts }

pub followed_stopped : (place : Place) (count : ℕ) (r : ReplicaView) (V : List (List ℕ)) (u : UpdateView) (end : SyncEnd) (s t : Stream) (q m : ReplicaView) (n : ℕ) (i j k : Intake) (o p e a b c : Outflow) (f : Following place count r V s q n i j o p a b) → n < count
    → StreamsNext (heards.Update u) s t f.reads.us f.reads.content f.reads.passed j k p e → t.body.kind ≡ s.body.kind → LearnsAndPrints (Err end) q u m b c → IsFollowed place count r m (Err end) n i k o e a c
followed_stopped place count r V u end s t q m n i j k o p e a b c f few next kind lp =
    let us = f.reads.us in
    let h = hearsay place r V (heards.Update u) s t q i j k o p e f.reads next kind in
    let said = said_on place h.sent h.given k in
    let less : length us < count = subst (λ (y : ℕ). y < count) (sym f.number) few in
    elim (not_printed end q u m b c lp) [
      | inl w ↦
          let out : IsFollowed place count r m (Err ends.OutFault) n i k o e a c = (
            h.sent,
            h.given,
            as_print h.sent h.given i k o e h.does,
            record {
              lines = lines_of r us;
              line = line_of q u;
              text = counts_as place count r m (said ∷ []) (lines_of r us) (line_of q u) (length us) n ends.OutFault f.number
                  (unprinted said t.body.kind V h.behind h.passed t.wire.held h.content (line_of q u) us q m refl h.opens h.hears less
                  (record { update = u; begins = h.heard_is.1; learns = (w.taken, w.left); line_is = refl }));
              printed = prints_unfinished (lines_of r us) (line_of q u) a b c f.printed w.part;
            },
          ) in
          subst (λ (x : SyncEnd). IsFollowed place count r m (Err x) n i k o e a c) (sym w.is) out
      | inr w ↦
          let cut = IsCut t.body.kind h.content h.passed t.wire.held k.left in
          let why : EndsHearing cut t.body.kind h.passed t.wire.held h.content us q end × (nothing_failed ≡ failing end) =
          elim w.why [
            | inl refuses ↦ refusal_ends cut t.body.kind h.passed t.wire.held h.content us q (answer_to q u) end refuses (record { update = u; begins = h.heard_is.1; refuses = refuses })
            | inr memory ↦ (subst (λ (x : SyncEnd). EndsHearing cut t.body.kind h.passed t.wire.held h.content us q x) (sym memory) tt, sym (ap failing memory))
          ] in
          let here : IsFollowed place count r q (Err end) n i k o e a b = (
            h.sent,
            h.given,
            subst (λ (x : Failing). Does h.sent h.given x i k o e) why.1 h.does,
            record {
              lines = lines_of r us;
              line = [];
              text = counts_as place count r q (said ∷ []) (lines_of r us) [] (length us) n end f.number
                  (broken_off said t.body.kind V h.behind h.passed t.wire.held h.content us q end refl h.opens h.hears less why.0);
              printed = f.printed;
            },
          ) in
          subst (λ (x : ReplicaView). IsFollowed place count r x (Err end) n i k o e a c) (sym w.kept) (subst (λ (x : Outflow). IsFollowed place count r q (Err end) n i k o e a x) (sym w.unwritten) here)
    ]

-- there was no memory for the line
pub no_line : (result : Result (Unit {0}) SyncEnd) (q : ReplicaView) (u : UpdateView) (b : Outflow) → result ≡ Err ends.Memory → LearnsAndPrints result q u q b b
no_line result q u b e =
    let none : LearnsAndPrints (Err ends.Memory) q u q b b = (inr refl, refl, refl) in
    subst (λ (x : Result (Unit {0}) SyncEnd). LearnsAndPrints x q u q b b) (sym e) none

-- a line that was not written whole

not_empty : (xs ys : List ℕ) → xs ≢ [] → xs ++ ys ≢ []
not_empty [] ys n e = n refl
not_empty (x ∷ xs) ys n e = cc

pub word_unwritten : (word known rest : List ℕ) (a b : Outflow) → word ≡ known → WritesPart word a b → WritesPart (known ++ rest) a b
word_unwritten word known rest a b e w =
    record {
      front = w.front;
      rest = w.rest ++ rest;
      whole = ap (λ (t : List ℕ). t ++ rest) (sym e ∙ w.whole) ∙ append_assoc w.front w.rest rest;
      unfinished = not_empty w.rest rest w.unfinished;
      written = w.written;
      never_falls = w.never_falls;
      rose = w.rose;
    }

pub rest_unwritten : (word known rest line : List ℕ) (a b c : Outflow) → word ≡ known → rest ≡ line → WritesAll word a b → WritesPart rest b c → WritesPart (known ++ line) a c
rest_unwritten word known rest line a b c e f w v =
    record {
      front = word ++ v.front;
      rest = v.rest;
      whole = ap (λ (t : List ℕ). t ++ line) (sym e) ∙ ap (λ (t : List ℕ). word ++ t) (sym f ∙ v.whole) ∙ sym (append_assoc word v.front v.rest);
      unfinished = v.unfinished;
      written = v.written ∙ ap (λ x. append_known x v.front) w.written ∙ append_known-append a.written word v.front;
      never_falls = subst (λ (n : ℕ). n ≤ c.faults) w.faults v.never_falls;
      rose = subst (λ (n : ℕ). Rose n c.faults) w.faults v.rose;
    }

-- over a dialer

pub followed_over : (place : Place) (count : ℕ) (r q : ReplicaView) (result : Result (Unit {0}) SyncEnd) (n : ℕ) (old new : Dialing) (a b : Outflow) → TalksOnce place (failing_in result) (λ said. FollowsOn place count r said result n q a b) old new
    → FollowsOver place count r q result n old new a b
followed_over place count r q result n old new a b t =
    record { talks = t.talk ∷ []; saids = t.said ∷ []; lines = t.holds.lines; line = t.holds.line; gains = t.gains; told = t.told; failed = t.failed_is; text = t.holds.text; printed = t.holds.printed }

pub followed_nowhere : (place : Place) (count : ℕ) (r : ReplicaView) (end : SyncEnd) (n : ℕ) (old new : Dialing) (a : Outflow) → (end ≡ ends.DialFault) ⊎ (end ≡ ends.Memory) → Gains [] old new → FailedBy (failing end) [] old new → n ≡ 0
    → FollowsOver place count r r (Err end) n old new a a
followed_nowhere place count r end n old new a why g f z =
    let text : FollowText place count r [] [] 0 [] r end =
    elim why [
      | inl e ↦ subst (λ (x : SyncEnd). FollowText place count r [] [] 0 [] r x) (sym e) unreached
      | inr e ↦ subst (λ (x : SyncEnd). FollowText place count r [] [] 0 [] r x) (sym e) unaided
    ] in
    record { talks = []; saids = []; lines = []; line = []; gains = g; told = tt; failed = f; text = counts_as place count r r [] [] [] 0 n end (sym z) text; printed = prints_none a }

-- as a follow's result says

pub followed_as : (place : Place) (count : ℕ) (r q : ReplicaView) (result : Result (Unit {0}) SyncEnd) (end : SyncEnd) (n : ℕ) (i j : Intake) (o p a b : Outflow) → result ≡ Err end → IsFollowed place count r q (Err end) n i j o p a b → IsFollowed place count r q result n i j o p a b
followed_as place count r q result end n i j o p a b e h = subst (λ (x : Result (Unit {0}) SyncEnd). IsFollowed place count r q x n i j o p a b) (sym e) h

pub next_update : (heard : Heard) (u : UpdateView) (x : Option UpdateView) (s t : Stream) (us : List UpdateView) (content passed : List ℕ) (i j : Intake) (o p : Outflow) → x ≡ Some u → HeardInFollow (Ok x) heard → StreamsNext heard s t us content passed i j o p → StreamsNext (heards.Update u) s t us content passed i j o p
next_update heard u x s t us content passed i j o p is e n =
    let h : HeardInFollow (Ok (Some u)) heard = subst (λ (y : Option UpdateView). HeardInFollow (Ok y) heard) is e in
    subst (λ (y : Heard). StreamsNext y s t us content passed i j o p) (update_heard heard u h) n

pub none_heard : (heard : Heard) (x : Option UpdateView) → x ≡ None → HeardInFollow (Ok x) heard → HeardInFollow (Ok None) heard
none_heard heard x is e = subst (λ (y : Option UpdateView). HeardInFollow (Ok y) heard) is e

pub follow_done : (place : Place) (count : ℕ) (r q : ReplicaView) (x : Unit {0}) (n : ℕ) (old new : Dialing) (a b : Outflow) → FollowsOver place count r q (Ok x) n old new a b → Follows place count r q (record { lines = n; end = ends.Done }) old new a b
follow_done place count r q x n old new a b f =
    record { talks = f.talks; saids = f.saids; lines = f.lines; line = f.line; gains = f.gains; told = f.told; failed = f.failed; text = f.text; printed = f.printed }

pub follow_ended : (place : Place) (count : ℕ) (r q : ReplicaView) (end : SyncEnd) (n : ℕ) (old new : Dialing) (a b : Outflow) → FollowsOver place count r q (Err end) n old new a b → Follows place count r q (record { lines = n; end = end }) old new a b
follow_ended place count r q end n old new a b f =
    record { talks = f.talks; saids = f.saids; lines = f.lines; line = f.line; gains = f.gains; told = f.told; failed = f.failed; text = f.text; printed = f.printed }

pub over_as : (place : Place) (count : ℕ) (r q : ReplicaView) (result : Result (Unit {0}) SyncEnd) (end : SyncEnd) (n : ℕ) (old new : Dialing) (a b : Outflow) → result ≡ Err end → FollowsOver place count r q (Err end) n old new a b → FollowsOver place count r q result n old new a b
over_as place count r q result end n old new a b e h = subst (λ (x : Result (Unit {0}) SyncEnd). FollowsOver place count r q x n old new a b) (sym e) h
