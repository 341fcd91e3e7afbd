-- What a reader has taken, step by step.
use Rattle.std.proofs.Common.{◌≡◌, ℕ, ◌+◌, ◌-◌, ◌<◌, ◌≤◌, List, [], ◌∷◌, ◌++◌, Option, Some, None, Err, length, take, drop, refl, sym, ap, subst, ◌∙◌, append_assoc, append-nil, length-append, arith}
use Rattle.std.proofs.lemmas.List.{take-append-drop, append_cancel_right}
use Rattle.braid_io.specs.Outside.{Intake, Moves}
use Rattle.braid_change.specs.Updates.{UpdateView}
use Rattle.braid_grammar.specs.Streams.{Completes, IsStream, HaveUpdates, BeginsWith}
use Rattle.braid_grammar.proofs.Completed.{one_list}
use Rattle.braid_frame.specs.declared.fed.Fed.{Fed}
use Rattle.braid_frame.specs.declared.fed.FrameFault.{FrameFault}
use Rattle.braid_frame.specs.declared.fed.FeedFault.{FeedFault}
use Rattle.braid_frame.specs.declared.fed.FeedFault.TheVariants.{Frame}
use Rattle.braid_frame.specs.declared.state.State.{State}
use Rattle.braid_frame.specs.Phases.{HasFault}
use Rattle.braid_frame.specs.Framing.{StandsFor, IsOpen, Takes, Fails, Feeds}
use Rattle.braid_stream.specs.declared.next.Next.{Next}
use Rattle.braid_stream.specs.declared.next.Next.TheVariants.{Update, End, Torn, Fault, ReadFault, Spent, Memory}
use Rattle.braid_stream.specs.declared.reading.Reading.{Reading}
use Rattle.braid_stream.specs.Pieces.{EndsBehind}
use Rattle.braid_stream.specs.Readers.{HasTaken, HaveAnswer, IsCause, Leaves, Answers, HasEnded, GoesOn, IsReadable, most_bytes}
use Rattle.braid_stream.specs.Steps.{TakesOn, FeedsHeld, Refills, EndsSource}
use Rattle.std.specs.Io.KnownBytes.{IsAtEnd}
use Rattle.braid_stream.proofs.Framed.{framed_updates, framed_fault}
use Rattle.braid_stream.proofs.AtHand.{no_answer}
use Rattle.braid_stream.proofs.Completed.{torn_of}
use Rattle.braid_stream.proofs.Moved.{moves_none, moves_more}
use Rattle.braid_stream.proofs.Caused.{cause_after}

-- what was fed, as the subject's words say it
pub fed_updates : (us : List UpdateView) (reader : Reading) (bytes : List ℕ) → (h : HasTaken us reader bytes) → HaveUpdates us h.fed
fed_updates us reader bytes h = framed_updates us reader.framer h.fed h.stands h.open_still

-- where nothing is held, all bytes were fed
pub all_fed : (us : List UpdateView) (reader : Reading) (bytes : List ℕ) → reader.held ≡ [] → (h : HasTaken us reader bytes) → bytes ≡ h.fed
all_fed us reader bytes n h = h.whole ∙ ap (λ t. h.fed ++ t) n ∙ append-nil h.fed

pub all_updates : (us : List UpdateView) (reader : Reading) (bytes : List ℕ) → reader.held ≡ [] → HasTaken us reader bytes → HaveUpdates us bytes
all_updates us reader bytes n h = subst (HaveUpdates us) (sym (all_fed us reader bytes n h)) (fed_updates us reader bytes h)

-- a piece that is fed up to the end of an update
pub fed_update : (us : List UpdateView) (old new : Reading) (bytes piece : List ℕ) (h : HasTaken us old bytes) (fed : Fed) (u : UpdateView) → Takes us h.fed piece fed new.framer → piece ≡ old.held → fed.update ≡ Some u
    → new.held ≡ drop fed.taken old.held → new.read ≡ old.read → BeginsWith us u bytes × HasTaken (us ++ u ∷ []) new bytes
fed_update us old new bytes piece h fed u takes is_held is_some held read =
    let t : Takes us h.fed old.held (record { taken = fed.taken; update = Some u }) new.framer = subst (λ (x : Option UpdateView). Takes us h.fed old.held (record { taken = fed.taken; update = x }) new.framer) is_some (subst (λ (x : List ℕ). Takes us h.fed x fed new.framer) is_held takes) in
    let whole : bytes ≡ (h.fed ++ take fed.taken old.held) ++ drop fed.taken old.held = h.whole ∙ ap (λ x. h.fed ++ x) (sym (take-append-drop fed.taken old.held)) ∙ sym (append_assoc h.fed (take fed.taken old.held) (drop fed.taken old.held)) in (
      record { front = h.fed ++ take fed.taken old.held; rest = drop fed.taken old.held; ends = t.found; spelled = whole },
      record {
        fed = h.fed ++ take fed.taken old.held;
        stands = t.stands;
        open_still = t.open_still;
        whole = whole ∙ ap (λ x. (h.fed ++ take fed.taken old.held) ++ x) (sym held);
        count = read ∙ h.count;
        within = h.within;
      },
    )

-- a piece with which the bytes have a fault
pub fed_fault : (us : List UpdateView) (old new : Reading) (bytes piece : List ℕ) (h : HasTaken us old bytes) (fault : FeedFault) (f : FrameFault) (framer : State) (next : Next) → Feeds us h.fed piece (Err fault) framer → fault ≡ Frame f → piece ≡ old.held → next ≡ Fault f → HasEnded new (Fault f)
    → FeedsHeld us bytes (Some next) new
fed_fault us old new bytes piece h fault f framer next feeds is_frame is_held is_fault ended =
    let fails : Fails us h.fed piece f framer = subst (λ (x : FeedFault). Feeds us h.fed piece (Err x) framer) is_frame feeds in
    let whole : h.fed ++ piece ≡ bytes = ap (λ (t : List ℕ). h.fed ++ t) is_held ∙ sym h.whole in
    subst (λ (n : Next). FeedsHeld us bytes (Some n) new) (sym is_fault) (ended, subst (λ (t : List ℕ). HasFault us t f) whole (framed_fault us h.fed piece f framer fails))

-- bytes that come where none are held
pub read_more : (us : List UpdateView) (old new : Reading) (bytes : List ℕ) → HasTaken us old bytes → old.held ≡ [] → new.framer ≡ old.framer → new.read ≡ old.read + length new.held → new.read ≤ most_bytes → HasTaken us new (bytes ++ new.held)
read_more us old new bytes h n framer read within =
    record {
      fed = h.fed;
      stands = subst (λ t. StandsFor us t h.fed) (sym framer) h.stands;
      open_still = subst IsOpen (sym framer) h.open_still;
      whole = ap (λ t. t ++ new.held) (all_fed us old bytes n h);
      count = let l = length-append bytes new.held in let c = h.count in omega (arith, read);
      within = let l = length-append bytes new.held in let c = h.count in omega (arith, read, within);
    }

-- one call, from what was taken in it and what follows from that
pub answers_after : (us : List UpdateView) (bytes more : List ℕ) (next : Next) (new : Reading) (before middle after : Intake) → (HaveAnswer us bytes → more ≡ []) → Moves more before middle → IsCause us [] (bytes ++ more) middle after next → Leaves us (bytes ++ more) next new → Answers us bytes next new before after
answers_after us bytes more next new before middle after none moves cause leaves =
    record {
      more = more;
      at_hand = none;
      cause = subst (λ (m : List ℕ). IsCause us m (bytes ++ more) before after next) (append-nil more) (cause_after us more [] (bytes ++ more) next before middle after moves cause);
      leaves = leaves;
    }

-- the answer to what is fed is caused by the bytes there are
pub fed_cause : (us : List UpdateView) (bytes : List ℕ) (next : Next) (new : Reading) (at : Intake) → length bytes ≤ most_bytes → FeedsHeld us bytes (Some next) new → IsCause us [] bytes at at next × Leaves us bytes next new
fed_cause us bytes (Update u) new at w f = ((moves_none at, f.1), (f.0, f.2))
fed_cause us bytes End new at w f = absurd f
fed_cause us bytes (Torn k) new at w f = absurd f
fed_cause us bytes (Fault x) new at w f = ((moves_none at, f.1, w), f.0)
fed_cause us bytes ReadFault new at w f = absurd f
fed_cause us bytes Spent new at w f = absurd f
fed_cause us bytes Memory new at w f = ((moves_none at, w), f)

-- an answer to what is fed, after what was taken before
pub fed_answers : (us : List UpdateView) (bytes : List ℕ) (next : Next) (old new : Reading) (before at : Intake) → (t : TakesOn us bytes old before at) → FeedsHeld us (bytes ++ t.taken.more) (Some next) new → Answers us bytes next new before at
fed_answers us bytes next old new before at t f =
    let c = fed_cause us (bytes ++ t.taken.more) next new at t.taken.taken.within f in
    answers_after us bytes t.taken.more next new before at at t.at_hand t.taken.moves c.0 c.1

-- an answer to a read, after what was taken before
pub filled_answers : (us : List UpdateView) (bytes : List ℕ) (next : Next) (old new : Reading) (before at after : Intake) → (t : TakesOn us bytes old before at) → Refills us (bytes ++ t.taken.more) (Some next) new at after → Answers us bytes next new before after
filled_answers us bytes next old new before at after t f = answers_after us bytes t.taken.more next new before at after t.at_hand t.taken.moves f.0 f.1

-- where no byte came and none was held, none is held
pub none_more : (us : List UpdateView) (old : Reading) (held bytes : List ℕ) → HasTaken us old bytes → old.held ≡ [] → held ≡ [] → HasTaken us (record { framer = old.framer; held = held; read = old.read; ended = old.ended }) bytes
none_more us old held bytes h n m = record { fed = h.fed; stands = h.stands; open_still = h.open_still; whole = h.whole ∙ ap (λ (t : List ℕ). h.fed ++ t) (n ∙ sym m); count = h.count; within = h.within }

-- a source that ends, where its bytes are no stream
pub source_torn : (us : List UpdateView) (bytes : List ℕ) (old new : Reading) (next : Next) → (h : HasTaken us old bytes) → old.held ≡ [] → (IsStream us h.fed → ⊥) → next ≡ Torn old.read → HasEnded new (Torn old.read) → EndsSource us bytes next new
source_torn us bytes old new next h none no_stream is_torn ended =
    let all = all_updates us old bytes none h in
    let apart : IsStream us bytes → ⊥ = λ s. no_stream (subst (IsStream us) (all_fed us old bytes none h) s) in
    subst (λ (n : Next). EndsSource us bytes n new) (sym is_torn) (ended, all, torn_of us bytes all apart, h.count)

-- the end of a source is caused by its bytes
pub source_cause : (us : List UpdateView) (bytes : List ℕ) (next : Next) (new : Reading) (before after : Intake) → EndsBehind [] before after → length bytes < most_bytes → EndsSource us bytes next new → IsCause us [] bytes before after next × Leaves us bytes next new
source_cause us bytes (Update u) new before after b w f = absurd f
source_cause us bytes End new before after b w f = ((b, f.1, w), f.0)
source_cause us bytes (Torn k) new before after b w f = ((b, f.1, f.2, f.3, w), f.0)
source_cause us bytes (Fault x) new before after b w f = absurd f
source_cause us bytes ReadFault new before after b w f = absurd f
source_cause us bytes Spent new before after b w f = absurd f
source_cause us bytes Memory new before after b w f = absurd f

-- the limit is read
pub spent_cause : (us : List UpdateView) (bytes : List ℕ) (old new : Reading) (next : Next) (at : Intake) → HasTaken us old bytes → old.held ≡ [] → most_bytes - old.read ≡ 0 → next ≡ Spent → HasEnded new Spent → IsCause us [] bytes at at next × Leaves us bytes next new
spent_cause us bytes old new next at h none full is_spent ended =
    let all = all_updates us old bytes none h in
    let size : length bytes ≡ most_bytes = let c = h.count in let w = h.within in omega (arith, full) in
    subst (λ (n : Next). IsCause us [] bytes at at n × Leaves us bytes n new) (sym is_spent) ((moves_none at, all, size), ended)

-- a read that ended, of a source that had nothing left
pub ends_here : (before after : Intake) → after ≡ before → IsAtEnd before.left → EndsBehind [] before after
ends_here before after same left = record { moves = subst (λ (a : Intake). Moves [] before a) (sym same) (moves_none before); nothing_left = subst (λ (a : Intake). IsAtEnd a.left) (sym same) left }

-- where all that was taken in a call was fed and gave no answer, none was at hand before it
pub none_at_hand : (us : List UpdateView) (bytes : List ℕ) (old fed : Reading) (before at : Intake) → (t : TakesOn us bytes old before at) → FeedsHeld us (bytes ++ t.taken.more) None fed → HaveAnswer us bytes → ⊥
none_at_hand us bytes old fed before at t f a =
    let same : bytes ++ t.taken.more ≡ bytes = ap (λ (m : List ℕ). bytes ++ m) (t.at_hand a) ∙ append-nil bytes in
    no_answer us bytes (subst (HaveUpdates us) same (all_updates us fed (bytes ++ t.taken.more) f.1 f.2)) a

-- at first nothing was taken in a call
pub takes_none : (us : List UpdateView) (bytes : List ℕ) (reader : Reading) (at : Intake) → GoesOn reader → HasTaken us reader bytes → TakesOn us bytes reader at at
takes_none us bytes reader at g h =
    record {
      taken = record { more = []; moves = moves_none at; going = g; taken = subst (λ (b : List ℕ). HasTaken us reader b) (sym (append-nil bytes)) h };
      at_hand = λ a. refl;
    }

-- what was taken before, and what a read brought
pub takes_on : (us : List UpdateView) (bytes : List ℕ) (old fed new : Reading) (before at after : Intake) → (t : TakesOn us bytes old before at) → FeedsHeld us (bytes ++ t.taken.more) None fed → Refills us (bytes ++ t.taken.more) None new at after → TakesOn us bytes new before after
takes_on us bytes old fed new before at after t n f =
    record {
      taken = record {
        more = t.taken.more ++ f.more;
        moves = moves_more t.taken.more f.more before at after t.taken.moves f.moves;
        going = f.going;
        taken = subst (λ (b : List ℕ). HasTaken us new b) (append_assoc bytes t.taken.more f.more) f.taken;
      };
      at_hand = λ a. absurd (none_at_hand us bytes old fed before at t n a);
    }

-- a reader may be called again, whatever it answered
pub readable_after : (us : List UpdateView) (bytes : List ℕ) (next : Next) (new : Reading) → Leaves us bytes next new → IsReadable new
readable_after us bytes (Update u) new l g = (us ++ u ∷ [], bytes, l.1)
readable_after us bytes End new l g = absurd (cc)
readable_after us bytes (Torn at) new l g = absurd (cc)
readable_after us bytes (Fault f) new l g = absurd (cc)
readable_after us bytes ReadFault new l g = (us, bytes, l.1)
readable_after us bytes Spent new l g = absurd (cc)
readable_after us bytes Memory new l g = absurd (cc)

-- what a reader has taken, as the subject's words say it
pub taken_updates : (us : List UpdateView) (reader : Reading) (bytes : List ℕ) → HasTaken us reader bytes → (fed : List ℕ) × (held : List ℕ) × (bytes ≡ fed ++ held) × HaveUpdates us fed
taken_updates us reader bytes h = (h.fed, reader.held, h.whole, fed_updates us reader bytes h)

-- the updates are determined by the reader and the bytes
pub one_taken : (us vs : List UpdateView) (reader : Reading) (bytes : List ℕ) → HasTaken us reader bytes → HasTaken vs reader bytes → us ≡ vs
one_taken us vs reader bytes h k =
    let same : h.fed ≡ k.fed = append_cancel_right h.fed k.fed reader.held (sym h.whole ∙ k.whole) in
    let c : Completes us k.fed = subst (Completes us) same (fed_updates us reader bytes h).completes in
    one_list us vs k.fed c (fed_updates vs reader bytes k).completes
