use Rattle.std.proofs.Common.{arith}
use Rattle.braid_http.proofs.StepLaws.{data_open}
use Rattle.braid_http.proofs.chunks.in_data.Goals as goal

pub returns-then-n-eq0 : goal.returns-then-n-eq0
returns-then-n-eq0 c = record { steps = λ passed d. data_open _ _ _ _ c.requires.some (let z = c.if-n-eq0.true in let m = c.min-n.ensures in let s = c.requires.some in omega (arith, z, m, s)) d }
