use Rattle.std.proofs.Common.{◌∙◌, ◌++◌, ap, length, flat_map, codes, decimal}
use Rattle.braid_ids.specs.Identifiers.{spelled_id}
use Rattle.braid_change.specs.Spellings.{list_text}
use Rattle.braid_http.specs.Replies.{type_line, ended}
use Rattle.braid_http.specs.Calls.{put_content, count_lines}
use Rattle.braid_http.proofs.CallTexts.{put_lines}
use Rattle.braid_http.proofs.call.put_bytes.Goals as goal

pub returns : goal.returns
returns c =
    let content = c.in_ok-content.ensures.ok in
    let u = c.args.update.now in
    let written = c.in_ok-push_content.ensures.ok ∙ ap (λ z. c.push_count.new.out ++ (codes "Content-Length: " ++ (decimal (length z) ++ (codes "\r\n\r\n" ++ z)))) content in
    let counted = c.in_ok-push_count.ensures.ok ∙ ap (λ z. c.push.new.self ++ flat_map ended (count_lines z)) c.change.ensures.value in
    let started = c.in_ok-push_start.ensures.ok ∙ ap (λ z. z ++ (c.args.path.now ++ (codes " HTTP/1.1\r\nHost: " ++ (c.args.server.now ++ codes "\r\n")))) c.in_ok-out.ensures.ok in
    let versioned = c.in_ok-push_version.ensures.ok ∙ ap (λ z. z ++ (codes "Version: " ++ (spelled_id u.id ++ (codes "\r\nParents:" ++ (list_text u.parents ++ codes "\r\n"))))) started in
    let typed = c.in_ok-push.ensures.ok ∙ ap (λ z. z ++ codes "Merge-Type: ti-text\r\nContent-Type: text/plain; charset=utf-8\r\n") versioned in
    let all = written ∙ ap (λ z. z ++ (codes "Content-Length: " ++ (decimal (length (put_content u.change)) ++ (codes "\r\n\r\n" ++ put_content u.change)))) (counted ∙ ap (λ z. z ++ flat_map ended (count_lines u.change)) typed) in
    record {
      ok = all ∙ put_lines (codes "PUT ") (codes " HTTP/1.1") (codes "Host: ") (codes "Version: ") (codes "Parents:") (codes "Merge-Type: ti-text") type_line (codes "Content-Length: ") c.args.path.now c.args.server.now (spelled_id u.id) (list_text u.parents)
          (decimal (length (put_content u.change))) (put_content u.change) (count_lines u.change);
    }
