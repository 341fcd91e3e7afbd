use Rattle.std.proofs.Common.{◌∙◌}
use Rattle.braid_http.proofs.ClosedTexts.{closes_reply}
use Rattle.braid_http.proofs.reply.closing.Goals as goal

pub returns : goal.returns
returns c =
    record {
      ok = λ reply is e.
          let same = c.get.ensures.value ∙ e in
          closes_reply reply _ _ _ _ _ c.in_ok-out.ensures.ok c.in_ok-push.ensures.ok c.in_ok-push-2.ensures.ok (c.head_and_content.ensures.head reply is same) (c.head_and_content.ensures.content reply is same);
    }
