-- Causes of answers, behind bytes that were taken before.
use Rattle.std.proofs.Common.{ℕ, List, ◌++◌}
use Rattle.braid_io.specs.Outside.{Intake, Moves}
use Rattle.braid_change.specs.Updates.{UpdateView}
use Rattle.braid_stream.specs.declared.next.Next.{Next}
use Rattle.braid_stream.specs.declared.next.Next.TheVariants.{Update, End, Torn, Fault, ReadFault, Spent, Memory}
use Rattle.braid_stream.specs.Readers.{IsCause}
use Rattle.braid_stream.proofs.Moved.{moves_more, fails_more, ends_more}

-- what causes an answer still causes it where more bytes were taken before
pub cause_after : (us : List UpdateView) (first more bytes : List ℕ) (next : Next) (before middle after : Intake) → Moves first before middle → IsCause us more bytes middle after next → IsCause us (first ++ more) bytes before after next
cause_after us first more bytes (Update u) before middle after m c = (moves_more first more before middle after m c.0, c.1)
cause_after us first more bytes End before middle after m c = (ends_more first more before middle after m c.0, c.1, c.2)
cause_after us first more bytes (Torn at) before middle after m c = (ends_more first more before middle after m c.0, c.1, c.2, c.3, c.4)
cause_after us first more bytes (Fault f) before middle after m c = (moves_more first more before middle after m c.0, c.1, c.2)
cause_after us first more bytes ReadFault before middle after m c = (fails_more first more before middle after m c.0, c.1, c.2)
cause_after us first more bytes Spent before middle after m c = (moves_more first more before middle after m c.0, c.1, c.2)
cause_after us first more bytes Memory before middle after m c = (moves_more first more before middle after m c.0, c.1)
