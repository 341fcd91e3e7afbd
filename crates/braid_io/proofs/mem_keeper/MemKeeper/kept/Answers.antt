use Rattle.std.proofs.Common.{ap, sym, ◌∙◌}
use Rattle.std.specs.Ordering.{nat_cmp}
use Rattle.std.specs.Cmp.Lexicographic.{slice_cmp, nat_list_cmp_total}
use Rattle.std.specs.FinMap.{get, find, get-from_entries}
use Rattle.braid_io.specs.MemKeepers.{kept_of}
use Rattle.braid_io.proofs.mem_keeper.MemKeeper.kept.Goals as goal

pub loop-known-init : goal.loop-known-init
loop-known-init c =
    get-from_entries nat_list_cmp_total _ _
    ∙ ap (find (slice_cmp nat_cmp) c.args.name.now) (ap (λ s. s.saved) (sym c.self.view_is) ∙ sym c.into_iter-known-iterator.ensures.into_iter_gives.0)
