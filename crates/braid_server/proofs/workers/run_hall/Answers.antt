use Rattle.std.proofs.Common.{refl, sym, subst, List, ◌∙◌}
use Rattle.braid_hall.specs.Passes.{PassView}
use Rattle.braid_hall.specs.Many.{AreAway}
use Rattle.braid_store.specs.declared.entry.Entry.{Entry}
use Rattle.braid_server.proofs.Closing.{empty_book}
use Rattle.braid_server.proofs.Together.{work_left}
use Rattle.braid_server.proofs.workers.run_hall.Goals as goal

pub returns-in_default : goal.returns-in_default
returns-in_default g c = record {
  worked = (refl, empty_book c.args.hall c.args.root c.prepare.new.root c.prepare.new.passes.items _ c.close_all.result c.requires.fresh c.prepare.ensures.made c.close_all.ensures.closed);
}

pub close_all-requires-2 : goal.close_all-requires-2
close_all-requires-2 g c = record {
  away = subst (λ (l : List (PassView Entry)). AreAway c.args.hall c.prepare.new.root l) (sym c.take_apart.ensures.passes) c.run_workers.ensures.away;
}

pub returns : goal.returns
returns g c = record {
  worked = work_left g.D.Door.doorway g.L.Bell.ringing c.args.hall c.args.root c.prepare.new.root c.make_workers.new.workers.items c.run_workers.new.workers.items c.prepare.new.passes.items _
      c.args.pairs.items c.take_apart.new.doors.items c.take_apart.new.passes.items c.of.result c.close_all-2.result c.requires.fresh c.prepare.ensures.made c.make_workers.ensures.passes c.make_workers.ensures.pairs
      c.run_workers.ensures.ran c.take_apart.ensures.doors c.take_apart.ensures.passes (c.of.ensures.value ∙ c.take_apart.ensures.notes) c.close_all-2.ensures.closed;
}
