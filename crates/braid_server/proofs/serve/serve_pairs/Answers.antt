use Rattle.std.proofs.Common.{ℕ, List, None, refl, subst, ap, ◌∙◌}
use Rattle.braid_io.specs.Outside.{WritesAll, WritesPart}
use Rattle.braid_server.specs.Texts.{serving_line}
use Rattle.braid_server.specs.Runs.{not_told, cut_short, without_hall}
use Rattle.braid_server.proofs.Ending.{ended_before, pairs_served}
use Rattle.braid_server.proofs.serve.serve_pairs.Goals as goal

pub returns-in_default-clause-serves : goal.returns-in_default-clause-serves
returns-in_default-clause-serves g c =
    ended_before g.D.Door.doorway g.L.Bell.ringing c.args.asked.now c.args.pairs.items c.not_begun.result _ _ None c.not_begun.ensures.workers c.not_begun.ensures.doors c.not_begun.ensures.book
    (not_told c.not_begun.ensures.status refl)

pub returns-in_default-write_all-clause-serves : goal.returns-in_default-write_all-clause-serves
returns-in_default-write_all-clause-serves g c =
    ended_before g.D.Door.doorway g.L.Bell.ringing c.args.asked.now c.args.pairs.items c.not_begun-in_default-write_all.result _ _ None c.not_begun-in_default-write_all.ensures.workers
    c.not_begun-in_default-write_all.ensures.doors c.not_begun-in_default-write_all.ensures.book
    (cut_short c.not_begun-in_default-write_all.ensures.status
    (subst (λ (t : List ℕ). WritesPart t (g.O.Sink.outflow c.args.out.now) (g.O.Sink.outflow c.write_all.new.sink)) (c.get-2.ensures.value ∙ c.in-Ok.ensures.ok ∙ ap serving_line c.get.ensures.value)
    c.in_default-write_all.ensures.err.1))

pub returns-in_default-open-clause-serves : goal.returns-in_default-open-clause-serves
returns-in_default-open-clause-serves g c =
    ended_before g.D.Door.doorway g.L.Bell.ringing c.args.asked.now c.args.pairs.items c.not_begun-in_default-open.result _ _ None c.not_begun-in_default-open.ensures.workers
    c.not_begun-in_default-open.ensures.doors c.not_begun-in_default-open.ensures.book
    (without_hall c.not_begun-in_default-open.ensures.status
    (subst (λ (t : List ℕ). WritesAll t (g.O.Sink.outflow c.args.out.now) (g.O.Sink.outflow c.write_all.new.sink)) (c.get-2.ensures.value ∙ c.in-Ok.ensures.ok ∙ ap serving_line c.get.ensures.value)
    c.in-Ok-write_all.ensures.ok))

pub returns-clause-serves : goal.returns-clause-serves
returns-clause-serves g c =
    pairs_served g.D.Door.doorway g.L.Bell.ringing c.args.asked.now c.args.pairs.items c.run_hall-worked.result c.finish.result _ (g.O.Sink.outflow c.write_all.new.sink) _
    (subst (λ (t : List ℕ). WritesAll t (g.O.Sink.outflow c.args.out.now) (g.O.Sink.outflow c.write_all.new.sink)) (c.get-2.ensures.value ∙ c.in-Ok.ensures.ok ∙ ap serving_line c.get.ensures.value)
    c.in-Ok-write_all.ensures.ok)
    c.run_hall-worked.ensures.worked c.finish.ensures.finishes
