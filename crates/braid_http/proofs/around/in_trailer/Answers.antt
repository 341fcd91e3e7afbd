use Rattle.braid_http.proofs.BodySteps.{trailing_done, trailing_bad}
use Rattle.braid_http.proofs.around.in_trailer.Goals as goal

pub returns-in_default-clause-comes : goal.returns-in_default-clause-comes
returns-in_default-clause-comes c content b i = trailing_done _ _ content b _ i (c.in_default.ensures.turns i.full i.part i.lines_are i.part_is)

pub returns-then-left-le1-clause-comes : goal.returns-then-left-le1-clause-comes
returns-then-left-le1-clause-comes c content b i = trailing_bad _ _ c.in-Some.next content b _ i c.if-left-le1.true (c.in-Some.ensures.turns i.full i.part i.lines_are i.part_is)
