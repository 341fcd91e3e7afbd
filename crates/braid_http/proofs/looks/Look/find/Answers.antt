use Rattle.std.proofs.Common.{arith, refl}
use Rattle.braid_http.proofs.LineLaws.{not_true}
use Rattle.braid_http.proofs.Looking.{look_on, look_end, look_all, full_fits}
use Rattle.braid_http.proofs.looks.Look.find.Goals as goal

pub returns-then-is_empty_line : goal.returns-then-is_empty_line
returns-then-is_empty_line c = record { found = look_end _ _ _ _ c.looking.invariant c.in-Some.ensures.found (c.if-is_empty_line.ensures.0 refl) }

pub overflow_add-self : goal.overflow_add-self
overflow_add-self c = let f = full_fits _ _ c.looking.invariant in omega arith

pub looking-preserved : goal.looking-preserved
looking-preserved c = look_on _ _ _ _ c.looking.invariant c.in-Some.ensures.found (λ i. not_true (c.if-is_empty_line.ensures.1 i))

pub returns : goal.returns
returns c = record { found = look_all _ _ c.looking.invariant c.in_default.ensures.found }
