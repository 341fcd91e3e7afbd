use Rattle.std.proofs.Common.{◌∙◌, refl, []}
use Rattle.std.proofs.lemmas.Result.{err_from_is_err_and}
use Rattle.braid_http.proofs.Waiting.{took_none, took_more, breaks, still_open, still_some}
use Rattle.braid_http.proofs.reading.await_bytes.Goals as goal

pub waiting-init : goal.waiting-init
waiting-init g c = record { took = took_none _ _; kept = refl }

pub waiting-preserved : goal.waiting-preserved
waiting-preserved g c =
    let t = c.waiting.invariant.took in
    let p = c.in_ok-read_on.ensures.ok in
    let o = still_open _ _ _ _ _ c.requires.open t (rw c.get.ensures.value at c.waiting-test.true) in
    record { took = took_more _ _ _ _ _ _ _ t o p.1 p.2 p.3; kept = c.in_ok-read_on.ensures.kept ∙ c.waiting.invariant.kept }

pub returns-in_err-read_on-clause-err : goal.returns-in_err-read_on-clause-err
returns-in_err-read_on-clause-err g c =
    let p = err_from_is_err_and c.from_residual.result c.from_residual.ensures.1 in
    let t = c.waiting.invariant.took in
    let o = still_open _ _ _ _ _ c.requires.open t (rw c.get.ensures.value at c.waiting-test.true) in
    rw (p.1, p.2) (breaks _ _ _ [] _ _ _ _ _ t refl o (still_some _ _ _ _ t c.requires.begun) c.in_err-read_on.ensures.err)
