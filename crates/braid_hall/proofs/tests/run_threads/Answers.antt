use Rattle.std.proofs.Common.{◌≡◌, false, rules, subst, sym}
use Rattle.braid_hall.specs.Passes.{PassView}
use Rattle.braid_hall.specs.Many.{KeepsPass}
use Rattle.braid_hall.proofs.ManyPasses.{zip_each, away_rests, away_runs}
use Rattle.braid_hall.proofs.tests.run_threads.Goals as goal

pub for_each_mut-requires-clause-accepts : goal.for_each_mut-requires-clause-accepts
for_each_mut-requires-clause-accepts g c κs within i p inside is =
    subst (λ (q : PassView _). (q.hall ≡ c.args.hall.now) × (q.held ≡ false)) (sym is) (away_rests _ _ _ c.requires.away i p.now inside)

pub returns : goal.returns
returns g c = record {
  away = away_runs _ _ _ _ c.requires.away (zip_each KeepsPass _ _ (search rules) (λ k d inside. let called = (c.for_each_mut.ensures k d inside).1 in search rules));
}
