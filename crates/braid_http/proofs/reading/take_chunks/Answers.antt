use Rattle.std.proofs.Common.{◌∙◌, ◌++◌, refl, [], take, arith}
use Rattle.std.proofs.lemmas.Result.{err_from_is_err_and}
use Rattle.braid_http.proofs.Waiting.{took_none, breaks, still_some, ready_some}
use Rattle.braid_http.proofs.Decoding.{chunk_start, chunk_passed, count_short, chunk_open, chunk_read, chunk_done, chunk_refused, falls}
use Rattle.braid_http.proofs.reading.take_chunks.Goals as goal

pub returns-in_default-clause-err : goal.returns-in_default-clause-err
returns-in_default-clause-err g c = (c.args.held.now, [], took_none _ _, refl)

pub decoding-init : goal.decoding-init
decoding-init g c = record { chunking = rw (c.pass.ensures.rest, c.in-Ok.ensures.ok) (chunk_start c.args.ready.now c.args.held.now _); kept = refl }

pub overflow_add-passed : goal.overflow_add-passed
overflow_add-passed g c =
    let ch = c.decoding.invariant.chunking in
    let l = rw c.get.ensures.value at (c.in-Passed.ensures.steps ch.passed ch.after) in
    let s = count_short _ _ _ _ _ _ _ _ (chunk_passed _ _ _ _ _ _ _ _ _ _ _ ch l) in
    omega (arith, s)

pub decoding-smaller-in-Passed : goal.decoding-smaller-in-Passed
decoding-smaller-in-Passed g c =
    let ch = c.decoding.invariant.chunking in
    let l = rw c.get.ensures.value at (c.in-Passed.ensures.steps ch.passed ch.after) in
    falls c.in-Passed.n c.decoding.passed c.decoding.held _ c.pass-in-Passed.ensures.rest l.0 l.1 (count_short _ _ _ _ _ _ _ _ (chunk_passed _ _ _ _ _ _ _ _ _ _ _ ch l))

pub decoding-preserved-in-Passed : goal.decoding-preserved-in-Passed
decoding-preserved-in-Passed g c =
    let ch = c.decoding.invariant.chunking in
    let l = rw c.get.ensures.value at (c.in-Passed.ensures.steps ch.passed ch.after) in
    record { chunking = rw c.pass-in-Passed.ensures.rest (chunk_passed _ _ _ _ _ _ _ _ _ _ _ ch l); kept = c.decoding.invariant.kept }

pub decoding-preserved : goal.decoding-preserved
decoding-preserved g c =
    let ch = c.decoding.invariant.chunking in
    let l = rw c.get.ensures.value at (c.in-Open.ensures.steps ch.passed ch.after) in
    let p = c.in_ok-read_on-in-Open.ensures.ok in
    record {
      chunking = chunk_read c.args.ready.now _ _ _ _ _ _ _ _ _ _ _ _ ch c.requires.ready c.requires.chunked l p.1 p.2 p.3;
      kept = c.in_ok-read_on-in-Open.ensures.kept ∙ c.decoding.invariant.kept;
    }

pub returns-in_err-read_on-in-Open-clause-err : goal.returns-in_err-read_on-in-Open-clause-err
returns-in_err-read_on-in-Open-clause-err g c =
    let p = err_from_is_err_and c.from_residual.result c.from_residual.ensures.1 in
    let ch = c.decoding.invariant.chunking in
    let l = rw c.get.ensures.value at (c.in-Open.ensures.steps ch.passed ch.after) in
    let o = chunk_open c.args.ready.now _ _ _ _ _ _ _ _ _ ch c.requires.ready c.requires.chunked l in
    let some = still_some _ _ _ _ ch.took (ready_some _ _ c.requires.ready) in
    rw (p.1, p.2) (breaks _ _ ch.all (take c.args.ready.now.used c.args.held.now ++ ch.passed) _ _ _ _ _ ch.took ch.whole o some c.in_err-read_on-in-Open.ensures.err)

pub returns-in-Done-clause-ok : goal.returns-in-Done-clause-ok
returns-in-Done-clause-ok g c =
    let ch = c.decoding.invariant.chunking in
    let l = rw c.get.ensures.value at (c.in-Done.ensures.steps ch.passed ch.after) in
    rw c.pass-in-Done.ensures.rest (chunk_done _ _ _ _ _ _ _ _ _ _ ch l)

pub returns-in-Refused-clause-err : goal.returns-in-Refused-clause-err
returns-in-Refused-clause-err g c =
    let ch = c.decoding.invariant.chunking in
    let l = rw c.get.ensures.value at (c.in-Refused.ensures.steps ch.passed ch.after) in
    chunk_refused c.args.ready.now _ _ _ _ _ _ c.in-Refused.refusal _ _ ch c.requires.ready c.requires.chunked l
