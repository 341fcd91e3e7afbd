use Rattle.std.proofs.Common.{ℕ, List, sym, subst}
use Rattle.braid_graph.specs.Entries.{HoldsAll}
use Rattle.braid_text.specs.Histories.{graph_of}
use Rattle.braid_store.specs.Books.{of_path}
use Rattle.braid_world.proofs.Scenes.{fit_held}
use Rattle.braid_world.proofs.scene.open_reading.Goals as goal

pub returns : goal.returns
returns c = record {
  ok = subst (λ (F : List (List ℕ)). HoldsAll (graph_of (of_path c.args.book.now c.args.path.now)) F) (sym c.in_ok-from.ensures.ok)
      (fit_held c.args.book.now c.in-Ok._cursor c.args.path.now c.in-Some.reading.from c.in-Ok.ensures.fits c.in-Ok.ensures.path c.in-Ok.ensures.from);
}
