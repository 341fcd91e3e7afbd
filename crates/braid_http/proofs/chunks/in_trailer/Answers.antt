use Rattle.std.proofs.Common.{arith}
use Rattle.braid_http.proofs.StepLaws.{trailer_open, trailer_done, trailer_long, none_within, far_block, block_within}
use Rattle.braid_http.proofs.chunks.in_trailer.Goals as goal

pub returns-in-Some : goal.returns-in-Some
returns-in-Some c = record { steps = λ passed out t. trailer_done _ _ _ _ _ c.if-end-le-MOST_TRAILER.true c.in-Some.ensures.found t }

pub returns-in-None : goal.returns-in-None
returns-in-None c =
    let f = c.in-None.ensures.found in
    record { steps = λ passed out t. trailer_open _ _ _ _ c.if-bytes-lt-MOST_TRAILER.true f.0 f.1 t }

pub returns-in_default : goal.returns-in_default
returns-in_default c =
    let far = c.if-end-le-MOST_TRAILER.false in
    let within = block_within _ _ _ c.in-Some.ensures.found in
    record { steps = λ passed out t. trailer_long _ _ _ (omega (arith, far, within)) (far_block _ _ _ far c.in-Some.ensures.found) t }

pub returns-in_default-2 : goal.returns-in_default-2
returns-in_default-2 c = record { steps = λ passed out t. trailer_long _ _ _ c.if-bytes-lt-MOST_TRAILER.false (none_within _ c.in-None.ensures.found.0) t }
