use Rattle.std.proofs.Common.{◌∙◌, ◌++◌, ◌+◌, ap, length, codes, decimal}
use Rattle.braid_http.specs.Replies.{type_line, phrase_of, allow_lines, close_lines}
use Rattle.braid_http.proofs.ReplyTexts.{seven, error_lines}
use Rattle.braid_http.proofs.reply.error_bytes.Goals as goal

pub returns : goal.returns
returns c =
    let number = c.in_ok-push_number.ensures.ok ∙ ap (λ z. c.push.new.self ++ decimal (length z + 1)) c.get.ensures.value in
    record {
      ok = seven _ _ _ _ _ _ _ _ _ _ _ _ _ _ c.in_ok-out.ensures.ok c.in_ok-push_status.ensures.ok c.in_ok-push.ensures.ok number c.in_ok-push-2.ensures.ok (c.in_ok-push-3.ensures.ok ∙ ap (λ z. c.push-2.new.self ++ z) c.close_line.ensures.value) c.in_ok-push_reason.ensures.ok
          ∙ error_lines (codes "HTTP/1.1 ") (codes " ") type_line (codes "Content-Length: ") (decimal c.args.status) (phrase_of c.args.status) (decimal (length c.args.reason.now + 1)) c.args.reason.now (allow_lines c.args.status) (close_lines c.args.close);
    }
