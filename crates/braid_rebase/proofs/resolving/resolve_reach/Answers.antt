use Rattle.std.proofs.Common.{List, refl, ap, ◌∙◌}
use Rattle.braid_change.specs.declared.patch.Patch.{Patch}
use Rattle.braid_rebase.specs.Pieces.{moved}
use Rattle.braid_rebase.specs.Resolved.{runs_at, places_at}
use Rattle.braid_rebase.proofs.resolving.resolve_reach.Goals as goal

pub returns : goal.returns
returns c =
    let first = c.args.reach.first in
    let rs = c.args.reach.ranges.items in
    record {
      runs = c.in_ok-runs-2.ensures.ok ∙ ap (λ t. runs_at t 0 (moved first rs)) c.deref-5.ensures.value;
      deletes = c.in_ok-deletes.ensures.ok ∙ ap (λ t. places_at t (moved first c.deref-4.result.now)) c.deref-3.ensures.value
          ∙ ap (λ (list : List Patch). places_at c.args.reach.places.items (moved first list)) c.deref-4.ensures.value;
      level = refl;
    }
