use Rattle.braid_world.proofs.Scenes.{fit_held}
use Rattle.braid_world.proofs.tests.has_more.Goals as goal

pub nth_sent-requires : goal.nth_sent-requires
nth_sent-requires c = record {
  held = fit_held c.args.scene.now.book c.in-Ok._cursor c.args.scene.now.path c.in-Some-reading.reading.from c.in-Ok.ensures.fits c.in-Ok.ensures.path c.in-Ok.ensures.from;
}
