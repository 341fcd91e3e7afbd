use Rattle.std.proofs.Common.{◌≡◌, ℕ, List, ◌∷◌, ◌++◌, sym, subst}
use Rattle.std.proofs.lemmas.Bool.{false≢true}
use Rattle.braid_ids.specs.Lists.{Lacks}
use Rattle.braid_state.specs.declared.line.Line.TheVariants as lines
use Rattle.braid_fields.specs.Places.{IsPath}
use Rattle.braid_state.specs.Heads.{name_of}
use Rattle.braid_state.proofs.Lines.{path_lacks, value_is}
use Rattle.braid_state.proofs.head.path_line.Goals as goal

-- the line is the one that was read, and its value is none
none : (value other bytes rest more : List ℕ) → Lacks 10 value → bytes ≡ name_of lines.Path ++ (value ++ 10 ∷ rest) → (IsPath value → ⊥) → IsPath other → bytes ≡ name_of lines.Path ++ (other ++ 10 ∷ more) → ⊥
none value other bytes rest more k e n is f = n (subst IsPath (sym (value_is lines.Path value other bytes rest more k e (path_lacks other is) f).0) is)

pub returns-in_default : goal.returns-in_default
returns-in_default c = record { found = λ path more is. c.in_default.ensures.found path more (path_lacks path is) }

pub returns-else-is_path : goal.returns-else-is_path
returns-else-is_path c = record { found = λ path more. none c.in-Some.path.now path c.args.bytes.now c.in-Some.rest.now more c.in-Some.ensures.found.0 c.in-Some.ensures.found.1 (λ is. false≢true (c.if-is_path.ensures.path.1 is)) }
