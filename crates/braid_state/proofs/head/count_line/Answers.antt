use Rattle.std.proofs.Common.{◌≡◌, ℕ, List, ◌∷◌, ◌++◌, sym, subst}
use Rattle.braid_ids.specs.Lists.{Lacks}
use Rattle.braid_state.specs.declared.line.Line.{Line}
use Rattle.braid_state.specs.Heads.{name_of, IsCount}
use Rattle.braid_state.proofs.Lines.{count_lacks, value_is}
use Rattle.braid_state.proofs.head.count_line.Goals as goal

-- the line is the one that was read, and its value is none
none : (line : Line) (value other bytes rest more : List ℕ) → Lacks 10 value → bytes ≡ name_of line ++ (value ++ 10 ∷ rest) → (IsCount value → ⊥) → IsCount other → bytes ≡ name_of line ++ (other ++ 10 ∷ more) → ⊥
none line value other bytes rest more k e n is f = n (subst IsCount (sym (value_is line value other bytes rest more k e (count_lacks other is) f).0) is)

pub returns-in_default : goal.returns-in_default
returns-in_default c = record { found = λ digits more is. c.in_default.ensures.found digits more (count_lacks digits is) }

pub returns-in_default-read_count : goal.returns-in_default-read_count
returns-in_default-read_count c = record { found = λ digits more. none c.args.line c.in-Some.digits.now digits c.args.bytes.now c.in-Some.rest.now more c.in-Some.ensures.found.0 c.in-Some.ensures.found.1 c.in_default-read_count.ensures.found }
