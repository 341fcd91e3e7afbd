use Rattle.std.proofs.Common.{ℕ, List, subst}
use Rattle.std.specs.Prelude.{◌↔◌}
use Rattle.std.specs.List.{Contains}
use Rattle.braid_world.proofs.Scenes.{given_none}
use Rattle.braid_world.proofs.scene.history_of.Goals as goal

pub loop-init : goal.loop-init
loop-init c =
    given_none c.args.book.now c.args.path.now c.in_ok-none.none c.new-updates.result.items c.in-Ok.cursor
    (subst (λ (ids : List (List ℕ)). (v : List ℕ) → Contains c.in_ok-none.none v ↔ Contains ids v) c.new.ensures.items c.in_ok-none.ensures.same)
    c.new-updates.ensures.items c.in-Ok.ensures.path c.in-Ok.ensures.from c.in-Ok.ensures.passed c.in-Ok.ensures.fits
