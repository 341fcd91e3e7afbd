use Rattle.std.proofs.Common.{◌≡◌, Ok, List, ℕ, subst}
use Rattle.braid_fields.specs.Table.{first_row}
use Rattle.braid_fields.specs.Rows.{id_rows}
use Rattle.braid_fields.proofs.Planned.{set_is, set_planned}
use Rattle.braid_fields.proofs.names.set_of.Goals as goal

pub returns : goal.returns
returns c =
    let read = subst (λ (x : List (List ℕ)). first_row (id_rows x) x ≡ Ok c.in_ok-ids.ids.items) c.get.ensures.value c.in_ok-ids.ensures.ok in
    record { set = set_planned c.args.strings.now c.in_ok-set.set (set_is c.args.strings.now c.in_ok-ids.ids.items c.in_ok-set.set read c.in_ok-set.ensures.rising c.in_ok-set.ensures.same) }
