use Rattle.std.proofs.Common.{◌≡◌, ℕ, List, ◌∷◌, ◌++◌, sym, subst}
use Rattle.std.proofs.lemmas.Bool.{false≢true}
use Rattle.braid_ids.specs.Lists.{Lacks}
use Rattle.braid_state.specs.declared.line.Line.TheVariants as lines
use Rattle.braid_fields.specs.Places.{IsServer}
use Rattle.braid_state.specs.Heads.{name_of}
use Rattle.braid_state.proofs.Lines.{server_lacks, value_is}
use Rattle.braid_state.proofs.head.server_line.Goals as goal

-- the line is the one that was read, and its value is none
none : (value other bytes rest more : List ℕ) → Lacks 10 value → bytes ≡ name_of lines.Server ++ (value ++ 10 ∷ rest) → (IsServer value → ⊥) → IsServer other → bytes ≡ name_of lines.Server ++ (other ++ 10 ∷ more) → ⊥
none value other bytes rest more k e n is f = n (subst IsServer (sym (value_is lines.Server value other bytes rest more k e (server_lacks other is) f).0) is)

pub returns-in_default : goal.returns-in_default
returns-in_default c = record { found = λ server more is. c.in_default.ensures.found server more (server_lacks server is) }

pub returns-else-is_server : goal.returns-else-is_server
returns-else-is_server c = record { found = λ server more. none c.in-Some.server.now server c.args.bytes.now c.in-Some.rest.now more c.in-Some.ensures.found.0 c.in-Some.ensures.found.1 (λ is. false≢true (c.if-is_server.ensures.server.1 is)) }
