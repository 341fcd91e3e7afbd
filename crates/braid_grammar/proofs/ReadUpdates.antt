-- Reading updates of whole slices.
use Rattle.std.proofs.Common.{◌≡◌, ℕ, ◌+◌, ◌-◌, List, length, sym, subst, Result}
use Rattle.std.specs.Result.{IfOk}
use Rattle.braid_ids.specs.declared.memory.Memory.{Memory}
use Rattle.braid_change.specs.declared.change.Change.{Change}
use Rattle.braid_change.specs.Updates.{UpdateView, IsBuilt}
use Rattle.braid_fields.specs.declared.plan.Plan.{Plan}
use Rattle.braid_grammar.specs.declared.found.Found.{Found}
use Rattle.braid_grammar.specs.Outcomes.{Whole}
use Rattle.braid_grammar.specs.Readings.{change_at, update_at, next_at}
use Rattle.braid_grammar.specs.Readers.{IsBehindGap, Finds, IsPlanned}
use Rattle.braid_fields.proofs.PlanLimits.{head_within}
use Rattle.braid_grammar.proofs.Back.{change_back}
use Rattle.braid_grammar.proofs.OneUpdate.{change_is}
use Rattle.braid_grammar.proofs.ReadContents.{past_behind}

-- what is read behind the head of a plan can be built
pub planned_is_built : (plan : Plan) (change : Change) (at : ℕ) (bytes : List ℕ) (last : ℕ) (rest : List ℕ) → IsPlanned plan → change_at plan.asks at bytes ≡ Whole change last rest → IsBuilt plan.parents change
planned_is_built plan change at bytes last rest p e =
    let k = head_within p.0 plan p.1 in
    let f = change_back plan.asks at bytes change last rest e in
    let c = change_is plan.asks change f.bytes k.asked f.is in
    record { few_parents = k.few; shaped = c.0; scalar = c.1 }

pub next_found : (r : Result (Found UpdateView) Memory) (at : ℕ) (bytes start : List ℕ) → IsBehindGap bytes start → IfOk r (λ found. Finds found (update_at (at + (length bytes - length start)) start)) → IfOk r (λ found. Finds found (next_at at bytes))
next_found r at bytes start g h = subst (λ o. IfOk r (λ found. Finds found o)) (sym (past_behind update_at at bytes start g)) h
