use Rattle.std.proofs.Common.{rules, ap, sym, ◌∙◌, ◌++◌, ◌∷◌, []}
use Rattle.braid_change.specs.Updates.{UpdateView}
use Rattle.braid_outbox.specs.Replicas.{all_of}
use Rattle.braid_world.proofs.Scenes.{entries_more}
use Rattle.braid_world.proofs.scene.entries.Goals as goal

pub loop-n-preserved : goal.loop-n-preserved
loop-n-preserved c =
    entries_more (all_of c.args.replica.now) c.loop-n.updates.items c.push.new.self.items c.args.from c.loop-n.n c.in-Some.update.now
    (search rules) (sym c.in-Some.ensures.value) c.loop-n.invariant
    (c.in_ok-push.ensures.items ∙ ap (λ (u : UpdateView). c.loop-n.updates.items ++ u ∷ []) c.in_ok-copy.ensures.ok)
