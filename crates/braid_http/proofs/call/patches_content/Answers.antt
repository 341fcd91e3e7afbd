use Rattle.std.proofs.Common.{◌∙◌, length, drop}
use Rattle.std.proofs.lemmas.List.{take_rest}
use Rattle.braid_http.proofs.CallTexts.{content_behind}
use Rattle.braid_http.proofs.call.patches_content.Goals as goal

pub returns : goal.returns
returns c =
    let p = c.requires.patches in
    let content = c.in_ok-content.ensures.ok ∙ take_rest c.get.result.now (length c.get-at.result.now) ∙ (λ i. drop (length (c.get-at.ensures.value i)) (c.get.ensures.value i)) in
    record {
      ok = content_behind c.args.update.now _ _ _ _ _ _ _ _ p.1 p.2 c.in_ok-spelled.ensures.ok c.in_ok-head.ensures.ok c.in_ok-push_version.ensures.ok c.in_ok-push_patch_count.ensures.ok c.in_ok-push.ensures.ok content;
    }
