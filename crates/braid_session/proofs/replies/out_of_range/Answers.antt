use Rattle.std.proofs.Common.{◌≡◌, ◌++◌, ℕ, List, codes, decimal, false, append_assoc, ap, sym, ◌∙◌}
use Rattle.std.proofs.lemmas.Result.{IfOk-weaker}
use Rattle.braid_http.specs.declared.reply.Reply.{Reply}
use Rattle.braid_http.specs.declared.reply.Reply.TheVariants as replies
use Rattle.braid_session.proofs.replies.out_of_range.Goals as goal

from_left : (a b c d : List ℕ) → a ++ (b ++ (c ++ d)) ≡ a ++ b ++ c ++ d
from_left a b c d = sym (append_assoc a b (c ++ d)) ∙ sym (append_assoc (a ++ b) c d)

pub returns : goal.returns
returns c =
    let told : c.as_bytes.result.now ≡ codes "OutOfRange patch " ++ decimal c.args.patch ++ codes " len " ++ decimal c.args.len =
    c.as_bytes.ensures.value ∙ c.in_ok-reason.ensures.ok ∙ from_left (codes "OutOfRange patch ") (decimal c.args.patch) (codes " len ") (decimal c.args.len) in
    let reason = codes "OutOfRange patch " ++ decimal c.args.patch ++ codes " len " ++ decimal c.args.len in
    record {
      ok = IfOk-weaker c.error.result (λ (reply : Reply). reply ≡ replies.Error 422 c.as_bytes.result.now false) (λ (reply : Reply). reply ≡ replies.Error 422 reason false)
          (λ reply p. p ∙ ap (λ (x : List ℕ). replies.Error 422 x false) told) c.error.ensures.ok;
    }
