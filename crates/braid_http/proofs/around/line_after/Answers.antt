use Rattle.braid_http.proofs.BodySteps.{turn_first, turn_second, turn_more, turn_lf}
use Rattle.braid_http.proofs.around.line_after.Goals as goal

pub returns-else-byte-eq13 : goal.returns-else-byte-eq13
returns-else-byte-eq13 c = record { turns = λ full part each h. turn_first full part c.args.byte each (rw c.in-Empty.is at h) c.if-byte-eq10.false c.if-byte-eq13.false }

pub returns-else-byte-eq10-2 : goal.returns-else-byte-eq10-2
returns-else-byte-eq10-2 c = record { turns = λ full part each h. turn_second full part c.args.byte each (rw c.in-Cr.is at h) c.if-byte-eq10-2.false }

pub returns-then-byte-eq10-3 : goal.returns-then-byte-eq10-3
returns-then-byte-eq10-3 c = record { turns = λ full part each h. turn_lf full part c.args.byte each (rw c.in-Full.is at h) c.if-byte-eq10-3.true }

pub returns-else-byte-eq10-3 : goal.returns-else-byte-eq10-3
returns-else-byte-eq10-3 c = record { turns = λ full part each h. turn_more full part c.args.byte each (rw c.in-Full.is at h) c.if-byte-eq10-3.false }
