use Rattle.std.proofs.Common.{◌∙◌, refl}
use Rattle.std.proofs.lemmas.Result.{err_from_is_err_and}
use Rattle.braid_http.proofs.Looking.{head_new, head_more}
use Rattle.braid_http.proofs.ReplyDecisions.{open_reply}
use Rattle.braid_http.proofs.ReplyReading.{took_none, took_more, breaks_reply, long_reply}
use Rattle.braid_http.proofs.response.next_reply.Goals as goal

pub waiting-init : goal.waiting-init
waiting-init g c = record { took = took_none _ _; looked = rw c.new-look.ensures.value (head_new _); kept = refl }

pub returns-then-bytes-ge-MOST_HEAD-clause-gives : goal.returns-then-bytes-ge-MOST_HEAD-clause-gives
returns-then-bytes-ge-MOST_HEAD-clause-gives g c =
    let v = c.get-bytes.ensures.value in
    long_reply _ _ _ _ c.waiting.invariant.took (rw v at c.if-bytes-ge-MOST_HEAD.true) (rw v at c.in_default.ensures.found.0)

pub waiting-preserved : goal.waiting-preserved
waiting-preserved g c =
    let v = c.get-bytes.ensures.value in
    let p = c.in_ok-read_on.ensures.ok in
    let o = open_reply _ (rw v at c.if-bytes-ge-MOST_HEAD.false) (rw v at c.in_default.ensures.found.0) in
    record {
      took = took_more _ _ _ _ _ _ _ c.waiting.invariant.took o p.1 p.2 p.3;
      looked = rw p.2 (head_more _ _ _ (rw v at c.in_default.ensures.found.1));
      kept = c.in_ok-read_on.ensures.kept ∙ c.waiting.invariant.kept;
    }

pub returns-in_err-read_on-clause-gives : goal.returns-in_err-read_on-clause-gives
returns-in_err-read_on-clause-gives g c =
    let p = err_from_is_err_and c.from_residual-in_err-read_on.result c.from_residual-in_err-read_on.ensures.1 in
    let v = c.get-bytes.ensures.value in
    let o = open_reply _ (rw v at c.if-bytes-ge-MOST_HEAD.false) (rw v at c.in_default.ensures.found.0) in
    rw (p.1, p.2) (breaks_reply _ _ _ _ _ _ _ c.waiting.invariant.took o c.in_err-read_on.ensures.err)
