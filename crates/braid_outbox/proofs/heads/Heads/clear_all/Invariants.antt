use Rattle.std.proofs.Common.{◌≡◌, ◌↔◌, ℕ, length, take}
use Rattle.braid_ids.specs.MarkSets.{IsMarked}
use Rattle.braid_text.specs.Histories.{graph_of}
use Rattle.braid_outbox.specs.Heads.{IsNumberAmong}
use Rattle.braid_outbox.proofs.heads.Heads.clear_all.Given as goal

abbrev pub invariant-loop-i : goal.invariant-loop-i
invariant-loop-i l = (length l.self.flags.items ≡ length l.initial.self.flags.items)
    × ((n : ℕ) → IsMarked l.self.flags.items n ↔ (IsMarked l.initial.self.flags.items n × (IsNumberAmong (graph_of l.resource) (take l.i l.of) n → ⊥)))
