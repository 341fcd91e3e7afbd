use Rattle.std.proofs.Common.{refl, arith}
use Rattle.braid_frame.proofs.Building.{build_never, completed_built}
use Rattle.braid_frame.proofs.LinesKept.{clean_update}
use Rattle.braid_frame.proofs.Stood.{completed_is}
use Rattle.braid_frame.proofs.contents.complete.Goals as goal

pub build-requires : goal.build-requires
build-requires c = record { counted = omega (arith, (completed_built c.requires.stands.0 _ _ c.requires.stands.1 c.requires.stands.2).shaped.few) }

pub unreachable-requires : goal.unreachable-requires
unreachable-requires c = build_never _ _ _ (completed_built c.requires.stands.0 _ _ c.requires.stands.1 c.requires.stands.2) c.in_default.ensures.fault

pub returns-clause-framing : goal.returns-clause-framing
returns-clause-framing c = clean_update _ _ c.requires.clean.0 c.requires.clean.1

pub returns-clause-finishes : goal.returns-clause-finishes
returns-clause-finishes c us b s =
    let k = completed_is us _ _ _ _ b c.in-Ok.ensures.ok.0 c.requires.clean.0 s in
    (refl, k.0, tt, k.1)
