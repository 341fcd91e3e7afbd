use Rattle.braid_http.proofs.BodySteps.{behind_bad, behind_cr_bad, behind_lf}
use Rattle.braid_http.proofs.around.after.Goals as goal

pub returns-else-byte-eq13-clause-comes : goal.returns-else-byte-eq13-clause-comes
returns-else-byte-eq13-clause-comes c content b h = let i = rw c.in-Behind.is at h in behind_bad content b c.args.byte c.if-byte-eq13.false i.1

pub returns-then-byte-eq10-clause-comes : goal.returns-then-byte-eq10-clause-comes
returns-then-byte-eq10-clause-comes c content b h = let i = rw c.in-BehindCr.is at h in rw i.0 (behind_lf content b c.args.byte c.if-byte-eq10.true i.1)

pub returns-else-byte-eq10-clause-comes : goal.returns-else-byte-eq10-clause-comes
returns-else-byte-eq10-clause-comes c content b h = let i = rw c.in-BehindCr.is at h in behind_cr_bad content b c.args.byte c.if-byte-eq10.false i.1
