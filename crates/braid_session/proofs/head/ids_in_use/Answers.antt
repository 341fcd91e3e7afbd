use Rattle.std.proofs.Common.{ℕ, List, Err, subst}
use Rattle.braid_session.specs.declared.wish.NoWish.TheVariants as no
use Rattle.braid_session.specs.Judging.{Lists}
use Rattle.braid_session.proofs.Judging.{unlisted}
use Rattle.braid_session.proofs.head.ids_in_use.Goals as goal

pub returns-in-Err-Reason : goal.returns-in-Err-Reason
returns-in-Err-Reason c =
    let fault = rw c.in-Err-Reason.field-0-is at c.in-Err-Reason.ensures.ids in
    let denied = unlisted c.in_ok-lines.lines c.in-Err-Reason.reason c.list_denial.result c.list_denial.ensures.no_list c.list_denial.ensures.no_id fault in
    record { list = subst (λ (x : List (List ℕ)). Lists (Err (no.Denied c.list_denial.result)) x) c.in_ok-lines.ensures.ok denied }
