use Rattle.std.proofs.Common.{rules, List, sym, subst}
use Rattle.braid_hall.specs.Many.{AreAway}
use Rattle.braid_server.specs.declared.worker.Worker.{Worker}
use Rattle.braid_server.specs.Workers.{passes_of}
use Rattle.braid_server.proofs.Lists.{takes_front}
use Rattle.braid_server.proofs.Together.{ready_of, away_of}
use Rattle.braid_server.proofs.workers.run_workers.Goals as goal

pub run_all-requires-clause-ready : goal.run_all-requires-clause-ready
run_all-requires-clause-ready g c κs within =
    ready_of g.D.Door.doorway g.L.Bell.ringing c.args.hall.now c.args.root.now c.as_mut_slice.result.now
    (subst (λ (ws : List (Worker g.row.D.Denot g.row.L.Denot)). AreAway c.args.hall.now c.args.root.now (passes_of ws)) (sym c.as_mut_slice.ensures.value) c.requires.away)

pub returns-clause-away : goal.returns-clause-away
returns-clause-away g c =
    subst (λ (ws : List (Worker g.row.D.Denot g.row.L.Denot)). AreAway c.args.hall.now c.args.root.now (passes_of ws)) (sym (takes_front _ c.run_all.new.workers _ (search rules)))
    (away_of g.D.Door.doorway g.L.Bell.ringing c.args.hall.now c.args.root.now c.as_mut_slice.result.now c.run_all.new.workers
    (subst (λ (ws : List (Worker g.row.D.Denot g.row.L.Denot)). AreAway c.args.hall.now c.args.root.now (passes_of ws)) (sym c.as_mut_slice.ensures.value) c.requires.away) c.run_all.ensures.ran)
