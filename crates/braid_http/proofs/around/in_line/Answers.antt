use Rattle.braid_http.proofs.BodySteps.{line_bad}
use Rattle.braid_http.proofs.around.in_line.Goals as goal

pub returns-in-Unread-clause-comes : goal.returns-in-Unread-clause-comes
returns-in-Unread-clause-comes c content b i = let a = c.in-Unread.ensures.adds in line_bad c.args.line.now content b c.args.byte a.1 a.2 i
