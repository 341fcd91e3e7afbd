use Rattle.std.proofs.Common.{rules, sym, ap, ◌∙◌, subst, Some, [], ◌∷◌, ◌++◌}
use Rattle.atomic_table.specs.Table.{opening}
use Rattle.braid_hall.specs.Turns.{IsKept}
use Rattle.braid_hall.specs.Views.{first_view}
use Rattle.braid_hall.proofs.Ends.{opens}
use Rattle.braid_hall.proofs.hall.Hall.open_at.Goals as goal

pub new-requires : goal.new-requires
new-requires g c = let e = g.B.Annals.entries in let base = e c.of.result.value in let t = c.args.ticket in
    subst (λ xs. IsKept e g.B.Annals.by t base (opening (t ∷ t ∷ []) xs (first_view t base))) (sym (c.in_ok-push.ensures.items ∙ ap (λ l. l ++ Some c.args.book ∷ []) c.new-slots.ensures.items)) (opens e g.B.Annals.by t base c.args.book (ap e (sym c.of.ensures)) (search rules))
