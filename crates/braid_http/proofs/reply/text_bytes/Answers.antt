use Rattle.std.proofs.Common.{◌≡◌, ◌∙◌, ◌++◌, ap, length, codes, decimal, encode_utf8_all}
use Rattle.braid_change.specs.Spellings.{list_text}
use Rattle.braid_http.specs.Replies.{type_line}
use Rattle.braid_http.proofs.ReplyTexts.{six, text_lines}
use Rattle.braid_http.proofs.reply.text_bytes.Goals as goal

pub returns : goal.returns
returns c =
    let content : c.push_to.new.out ≡ encode_utf8_all c.args.text.now = c.in_ok-push_to.ensures.ok ∙ ap (λ z. z ++ encode_utf8_all c.args.text.now) c.in_ok-content.ensures.ok in
    let first = c.get.ensures.value ∙ content in
    let second = c.get-2.ensures.value ∙ content in
    record {
      ok = six _ _ _ _ _ _ _ _ _ _ _ _ c.in_ok-out.ensures.ok c.in_ok-push_list.ensures.ok c.in_ok-push.ensures.ok (c.in_ok-push_number.ensures.ok ∙ ap (λ z. c.push.new.self ++ decimal (length z)) first) c.in_ok-push-2.ensures.ok (c.in_ok-push-3.ensures.ok ∙ ap (λ z. c.push-2.new.self ++ z) second)
          ∙ text_lines (codes "HTTP/1.1 200 OK") (codes "Version:") (codes "Merge-Type: ti-text") type_line (codes "Content-Length: ") (list_text c.args.version.now) (decimal (length (encode_utf8_all c.args.text.now))) (encode_utf8_all c.args.text.now);
    }
