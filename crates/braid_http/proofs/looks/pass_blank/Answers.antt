use Rattle.std.proofs.Common.{◌∙◌}
use Rattle.braid_http.proofs.LineLaws.{blank_more, line-append}
use Rattle.braid_http.proofs.looks.pass_blank.Goals as goal

pub passing-preserved : goal.passing-preserved
passing-preserved c =
    let f = c.in-Some.ensures.found in
    blank_more _ _ _ _ c.passing.invariant f.1 (f.2 ∙ line-append _ _)
