use Rattle.std.proofs.Common.{List, ℕ, Bor}
use Rattle.braid_http.proofs.Looking.{blank_or}
use Rattle.braid_http.proofs.looks.after_blank.Goals as goal

pub returns-in-None : goal.returns-in-None
returns-in-None c = record { found = blank_or (λ (b : Bor (List ℕ)). b.now) _ _ c.in-None.ensures.found c.after-in-None.ensures.found }
