use Rattle.std.proofs.Common.{refl}
use Rattle.braid_cli.proofs.words.words_fault.Goals as goal

pub returns-in-OutOfMemory : goal.returns-in-OutOfMemory
returns-in-OutOfMemory c = record { memory = (λ _. c.in-OutOfMemory.is, λ _. refl) }

pub returns-in_default : goal.returns-in_default
returns-in_default c = record { memory = (λ e. cc, λ k. absurd (c.in_default.not-OutOfMemory k)) }
