use Rattle.std.proofs.Common.{◌≡◌, ℕ, List, [], ◌∷◌, ◌++◌, refl, sym, subst, arith}
use Rattle.braid_state.specs.declared.line.Line.TheVariants as lines
use Rattle.braid_ids.specs.Lists.{Lacks}
use Rattle.braid_ids.specs.Agents.{IsAgent}
use Rattle.braid_state.specs.Heads.{Head, name_of}
use Rattle.braid_state.proofs.Lines.{bad_line, value_lacks, value_is}
use Rattle.braid_state.proofs.head.read_owner.Goals as goal

-- a head of which nothing is known
no_head : Head
no_head = record { agent = []; server = []; path = []; confirmed = []; unsent = [] }

-- the line of the agent is the one that was read, and it names none
no_agent : (name agent bytes rest more : List ℕ) → Lacks 10 name → bytes ≡ name_of lines.Agent ++ (name ++ 10 ∷ rest) → Lacks 10 agent → bytes ≡ name_of lines.Agent ++ (agent ++ 10 ∷ more) → (IsAgent name → ⊥) → IsAgent agent → ⊥
no_agent name agent bytes rest more k e l f none is = none (subst IsAgent (sym (value_is lines.Agent name agent bytes rest more k e l f).0) is)

pub returns-in_default-clause-stop : goal.returns-in_default-clause-stop
returns-in_default-clause-stop c =
    bad_line 0 lines.Title no_head c.args.bytes.now c.args.bytes.now (omega arith) refl (record { forms = tt; spelled = refl })
    (λ other more same form. c.in_default.ensures.found more)

pub returns-in_default-read_line-clause-stop : goal.returns-in_default-read_line-clause-stop
returns-in_default-read_line-clause-stop c =
    bad_line 1 lines.Agent no_head c.in-Some.rest.now c.args.bytes.now (omega arith) refl (record { forms = (tt, tt); spelled = c.in-Some.ensures.found })
    (λ other more same form. c.in_default-read_line.ensures.found other.agent more (value_lacks other lines.Agent form))

pub returns-in_default-2-clause-stop : goal.returns-in_default-2-clause-stop
returns-in_default-2-clause-stop c =
    bad_line 1 lines.Agent no_head c.in-Some.rest.now c.args.bytes.now (omega arith) refl (record { forms = (tt, tt); spelled = c.in-Some.ensures.found })
    (λ other more same form e. no_agent c.in-Some-read_line.name.now other.agent c.in-Some.rest.now _ _ c.in-Some-read_line.ensures.found.0 c.in-Some-read_line.ensures.found.1 (value_lacks other lines.Agent form) e
    (rw c.in_default-2.is at c.in_ok-agent.ensures.found) form)
