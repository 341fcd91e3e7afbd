-- Where reading stopped, in weaker words.
use Rattle.std.proofs.Common.{ℕ, List}
use Rattle.braid_state.specs.declared.stop.Stop.{Stop}
use Rattle.braid_state.specs.declared.stop.Stop.TheVariants.{Bad, Memory}
use Rattle.braid_state.specs.Stops.{IfBad}

pub stop_weaker : (stop : Stop) (P Q : List ℕ → Type 0) → ((rest : List ℕ) → P rest → Q rest) → IfBad stop P → IfBad stop Q
stop_weaker (Bad rest) P Q f h = f rest.now h
stop_weaker Memory P Q f h = tt
