use Rattle.std.proofs.Common.{◌≡◌, ◌↔◌, ◌≤◌, ℕ, Bool, length, drop}
use Rattle.std.specs.List.{Contains, count_by}
use Rattle.braid_ids.specs.MarkSets.{IsMarked}
use Rattle.braid_outbox.proofs.heads.Heads.numbers.Given as goal

-- the numbers from n on are done
abbrev pub invariant-loop-n : goal.invariant-loop-n
invariant-loop-n l = (length l.numbers.items ≡ count_by (λ (b : Bool). b) (drop l.n l.self.flags.items))
    × ((m : ℕ) → Contains l.numbers.items m ↔ ((l.n ≤ m) × IsMarked l.self.flags.items m))
