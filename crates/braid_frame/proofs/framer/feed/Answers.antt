use Rattle.std.proofs.Common.{take, ◌++◌, sym}
use Rattle.std.proofs.lemmas.List.{take_rest}
use Rattle.braid_frame.proofs.Feeding.{taken_within, takes_update, steps_more, takes_all, fails_step}
use Rattle.braid_frame.proofs.framer.feed.Goals as goal

pub returns-then-is_some-clause-feeds : goal.returns-then-is_some-clause-feeds
returns-then-is_some-clause-feeds c us b s =
    let l = c.loop-taken in
    let p = c.args.piece.now in
    takes_update us b p _ l.taken c.in-Ok.fed c.step.new.state (take_rest p l.taken) (sym c.if-is_some.ensures) l.invariant.within c.in-Ok.ensures.framing (c.in-Ok.ensures.steps us (b ++ take l.taken p) (l.invariant.stands us b s).stands)

pub loop-taken-preserved : goal.loop-taken-preserved
loop-taken-preserved c =
    let l = c.loop-taken in
    let p = c.args.piece.now in
    let k = c.requires.fed in
    let h = c.in-Ok.ensures.steps k.0 (k.1 ++ take l.taken p) (l.invariant.stands k.0 k.1 k.2).stands in
    record {
      framing = c.in-Ok.ensures.framing;
      open_still = h.open_still;
      within = taken_within p _ l.taken c.in-Ok.fed.taken (take_rest p l.taken) l.invariant.within h.within;
      stands = λ us b s. steps_more us b p _ l.taken c.in-Ok.fed c.step.new.state (take_rest p l.taken) (sym c.if-is_some.ensures) c.in-Ok.ensures.framing (c.in-Ok.ensures.steps us (b ++ take l.taken p) (l.invariant.stands us b s).stands);
    }

pub returns-in-Err-clause-feeds : goal.returns-in-Err-clause-feeds
returns-in-Err-clause-feeds c us b s =
    let l = c.loop-taken in
    let p = c.args.piece.now in
    fails_step us b p _ l.taken c.in-Err.fault c.step.new.state (take_rest p l.taken) c.in-Err.ensures.framing (c.in-Err.ensures.steps us (b ++ take l.taken p) (l.invariant.stands us b s).stands)

pub returns-clause-feeds : goal.returns-clause-feeds
returns-clause-feeds c us b s =
    let l = c.loop-taken in
    takes_all us b c.args.piece.now l.taken l.state l.invariant.within c.loop-taken-test.false l.invariant.open_still (l.invariant.stands us b s)
