use Rattle.std.proofs.Common.{◌∙◌, ◌++◌, ap, codes}
use Rattle.braid_change.specs.Spellings.{list_text}
use Rattle.braid_http.proofs.CallTexts.{subscribe_lines}
use Rattle.braid_http.proofs.call.subscribe_bytes.Goals as goal

pub returns : goal.returns
returns c =
    let all = c.in_ok-push-2.ensures.ok ∙ ap (λ z. z ++ codes "\r\nMerge-Type: ti-text\r\n\r\n") (c.in_ok-push_list.ensures.ok ∙ ap (λ z. z ++ list_text c.args.parents.now) (c.in_ok-push.ensures.ok
    ∙ ap (λ z. z ++ codes "Subscribe: true\r\nParents:") (c.in_ok-push_start.ensures.ok ∙ ap (λ z. z ++ (c.args.path.now ++ (codes " HTTP/1.1\r\nHost: " ++ (c.args.server.now ++ codes "\r\n")))) c.in_ok-out.ensures.ok))) in
    record {
      ok = all ∙ subscribe_lines (codes "GET ") (codes " HTTP/1.1") (codes "Host: ") (codes "Subscribe: true") (codes "Parents:") (codes "Merge-Type: ti-text") c.args.path.now c.args.server.now (list_text c.args.parents.now);
    }
