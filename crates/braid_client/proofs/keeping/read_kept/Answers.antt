use Rattle.std.proofs.Common.{ℕ, List, Result, Ok, Err}
use Rattle.std.specs.Result.{IfErr}
use Rattle.braid_state.specs.declared.state.State.{State}
use Rattle.braid_state.specs.States.{SpellsState}
use Rattle.braid_client.specs.declared.fault.Fault.{Fault}
use Rattle.braid_client.specs.declared.fault.Fault.TheVariants as faults
use Rattle.braid_client.specs.declared.keeping.Kept.{Kept}
use Rattle.braid_client.specs.Steps.{IsUnusable, IsNoReplica}
use Rattle.braid_client.proofs.keeping.read_kept.Goals as goal

-- bytes that spell a state without a replica spell that of none
unusable : (s : State) (bytes : List ℕ) (result : Result Kept Fault) → SpellsState s bytes → IfErr result (λ fault. IsNoReplica s fault) → IfErr result (λ fault. IsUnusable bytes fault)
unusable s bytes (Ok kept) h k = tt
unusable s bytes (Err faults.Usage) h k = absurd k
unusable s bytes (Err faults.NoState) h k = absurd k
unusable s bytes (Err faults.Exists) h k = absurd k
unusable s bytes (Err (faults.BadState at)) h k = absurd k
unusable s bytes (Err (faults.BadEntry n)) h k = (s, h, k)
unusable s bytes (Err (faults.Write fault)) h k = absurd k
unusable s bytes (Err faults.LoadFault) h k = absurd k
unusable s bytes (Err faults.SaveFault) h k = absurd k
unusable s bytes (Err faults.Memory) h k = tt

pub returns-in-Ok-clause-fault : goal.returns-in-Ok-clause-fault
returns-in-Ok-clause-fault c = unusable c.in-Ok.state c.args.bytes.now c.kept_of.result c.in-Ok.ensures.ok c.kept_of.ensures.fault
