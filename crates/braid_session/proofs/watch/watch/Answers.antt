use Rattle.std.proofs.Common.{◌∙◌}
use Rattle.braid_session.proofs.Watching.{following_none, following_more, following_ends, first_failed}
use Rattle.braid_session.proofs.watch.watch.Goals as goal

pub returns-in_default-clause-watches : goal.returns-in_default-clause-watches
returns-in_default-clause-watches g c = first_failed _ _ _ _ _ _ _ _ c.requires.idle c.in_default.ensures.err

pub loop-init : goal.loop-init
loop-init g c = record { going = following_none _ _ _ _ _ _ _ _ _ c.requires.idle c.requires.stands c.in-Ok.ensures.ok; kept = c.in-Ok.ensures.kept }

pub go_on-requires-clause-hall : goal.go_on-requires-clause-hall
go_on-requires-clause-hall g c κs within = c.loop.invariant.going.went.passed.hall ∙ c.requires.hall

pub go_on-requires-clause-idle : goal.go_on-requires-clause-idle
go_on-requires-clause-idle g c κs within = c.loop.invariant.going.went.passed.idle

pub go_on-requires-clause-fits : goal.go_on-requires-clause-fits
go_on-requires-clause-fits g c κs within = c.loop.invariant.going.fits

pub returns-in-Some-go_on-clause-watches : goal.returns-in-Some-go_on-clause-watches
returns-in-Some-go_on-clause-watches g c = following_ends _ _ _ _ _ _ _ _ _ _ _ _ _ _ _ _ _ c.in-Some-go_on.end c.loop.invariant.going c.in-Some-go_on.ensures.goes_on

pub returns-in-Some-go_on-clause-kept : goal.returns-in-Some-go_on-clause-kept
returns-in-Some-go_on-clause-kept g c = c.in-Some-go_on.ensures.kept ∙ c.loop.invariant.kept

pub loop-preserved : goal.loop-preserved
loop-preserved g c = record {
  going = following_more _ _ _ _ _ _ _ _ _ _ _ _ _ _ _ _ _ c.loop.invariant.going c.in-None-go_on.ensures.goes_on;
  kept = c.in-None-go_on.ensures.kept ∙ c.loop.invariant.kept;
}
