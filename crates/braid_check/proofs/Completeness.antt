-- A stream of accepted updates is never answered with a fault.
use Rattle.std.proofs.Common.{◌≡◌, ℕ, ◌<◌, ◌⊎◌, inl, inr, List, ◌++◌, Option, Some, None, refl, ap, sym, subst, ◌∙◌, append-nil, length, length-append, arith}
use Rattle.std.specs.Io.KnownBytes.{prepend_known, IsAtEnd}
use Rattle.braid_io.specs.Outside.{Intake, Outflow, Rose, WritesAll, WritesPart}
use Rattle.braid_io.specs.declared.status.Status.{Status}
use Rattle.braid_io.specs.declared.status.Status.TheVariants.{Done, Bad, Usage, Outside, Memory, Cut}
use Rattle.braid_change.specs.Updates.{UpdateView}
use Rattle.braid_grammar.specs.Streams.{IsStream}
use Rattle.braid_grammar.proofs.Law.{one_stream}
use Rattle.braid_stream.specs.Readers.{most_bytes}
use Rattle.braid_check.specs.Accepted.{AreAccepted, history_of}
use Rattle.braid_check.specs.CheckTexts.{Ending, found, ended, failed, spent, stream, torn, IsCheckText, history_text}
use Rattle.braid_check.specs.Runs.{EndsAfter, Checked, CheckRuns}
use Rattle.braid_check.proofs.OneText.{found_on, found_no_stream}

-- what was read is the front of what there was
record ReadsFrontOf (read bytes : List ℕ) (known : Option (List ℕ)) : Type 0 where
  pub rest : List ℕ
  pub spelled : bytes ≡ read ++ rest

front_read : (known left : Option (List ℕ)) (read bytes : List ℕ) → left ≡ prepend_known read known → left ≡ Some bytes → ReadsFrontOf read bytes known
front_read None left read bytes p l = absurd (cc)
front_read (Some rest) left read bytes p l =
    let whole : Some (read ++ rest) ≡ Some bytes = sym p ∙ l in
    let parts : read ++ rest ≡ bytes = cc in
    record { rest = rest; spelled = sym parts }

all_read : (known left : Option (List ℕ)) (read bytes : List ℕ) → left ≡ prepend_known read known → left ≡ Some bytes → IsAtEnd known → bytes ≡ read
all_read None left read bytes p l e = absurd (cc)
all_read (Some rest) left read bytes p l e =
    let whole : Some (read ++ rest) ≡ Some bytes = sym p ∙ l in
    let parts : read ++ rest ≡ bytes = cc in
    sym parts ∙ ap (λ (z : List ℕ). read ++ z) e ∙ append-nil read

-- a run that found a stream of accepted updates where no read failed has its text to report
reports_history : (ending : Ending) (read : List ℕ) (status : Status) (text : List ℕ) (before after : Intake) → EndsAfter ending read before after → IsCheckText ending read status text → (us : List UpdateView) (bytes : List ℕ) → before.left ≡ Some bytes → AreAccepted us → IsStream us bytes → length bytes < most_bytes → ¬ Rose before.faults after.faults
    → (status ≡ Done) × (text ≡ history_text (history_of us))
reports_history found read status text before after s r us bytes l c k w q =
    let f = front_read after.left before.left read bytes s.0.left l in
    absurd (found_no_stream us (read ++ f.rest) text c (subst (IsStream us) f.spelled k) (found_on read f.rest text r.1))
reports_history ended read status text before after s (stream vs d v e t) us bytes l c k w q =
    let same : bytes ≡ read = all_read after.left before.left read bytes s.0.moves.left l s.0.nothing_left in
    (e, t ∙ ap (λ (t : List UpdateView). history_text (history_of t)) (one_stream vs us read v (subst (IsStream us) same k)))
reports_history ended read status text before after s (torn n t e x) us bytes l c k w q =
    let same : bytes ≡ read = all_read after.left before.left read bytes s.0.moves.left l s.0.nothing_left in
    absurd (t.no_stream us (subst (IsStream us) same k))
reports_history failed read status text before after s r us bytes l c k w q = absurd (q s.0.rose)
reports_history spent read status text before after s r us bytes l c k w q =
    let f = front_read after.left before.left read bytes s.0.left l in
    absurd (omega (arith, s.1, w, ap length f.spelled, length-append read f.rest))

-- what a run leaves that had memory
abbrev pub Wrote : Status → Intake → Intake → Outflow → Outflow → Type 0
Wrote status before after old new =
    ((text : List ℕ) × Checked before after status text × WritesAll text old new)
    ⊎ ((status ≡ Outside) × ((own : Status) × (text : List ℕ) × Checked before after own text × WritesPart text old new))

wrote_history : (status : Status) (before after : Intake) (old new : Outflow) → Wrote status before after old new → (us : List UpdateView) (bytes : List ℕ) → before.left ≡ Some bytes → AreAccepted us → IsStream us bytes → length bytes < most_bytes → ¬ Rose before.faults after.faults → ¬ Rose old.faults new.faults
    → (status ≡ Memory) ⊎ ((status ≡ Done) × WritesAll (history_text (history_of us)) old new)
wrote_history status before after old new (inl w) us bytes l c k b q t =
    let r = reports_history w.1.ending w.1.bytes status w.0 before after w.1.reads w.1.reports us bytes l c k b q in
    inr (r.0, subst (λ (text : List ℕ). WritesAll text old new) r.1 w.2)
wrote_history status before after old new (inr w) us bytes l c k b q t = absurd (t w.1.3.rose)

-- a run on a stream of accepted updates where no read and no write failed
pub writes_history : (status : Status) (before after : Intake) (old new : Outflow) → CheckRuns status before after old new → (us : List UpdateView) (bytes : List ℕ) → before.left ≡ Some bytes → AreAccepted us → IsStream us bytes → length bytes < most_bytes → ¬ Rose before.faults after.faults → ¬ Rose old.faults new.faults
    → (status ≡ Memory) ⊎ ((status ≡ Done) × WritesAll (history_text (history_of us)) old new)
writes_history Memory before after old new r us bytes l c k b q t = inl refl
writes_history Done before after old new r us bytes l c k b q t = wrote_history Done before after old new r us bytes l c k b q t
writes_history Bad before after old new r us bytes l c k b q t = wrote_history Bad before after old new r us bytes l c k b q t
writes_history Usage before after old new r us bytes l c k b q t = wrote_history Usage before after old new r us bytes l c k b q t
writes_history Outside before after old new r us bytes l c k b q t = wrote_history Outside before after old new r us bytes l c k b q t
writes_history Cut before after old new r us bytes l c k b q t = wrote_history Cut before after old new r us bytes l c k b q t
