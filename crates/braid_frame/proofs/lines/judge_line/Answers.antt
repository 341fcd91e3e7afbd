use Rattle.std.proofs.Common.{sym, ap, ◌∙◌, Option, Some, None, refl, ◌≡◌}
use Rattle.std.specs.Option.{is_some, option_map}
use Rattle.braid_frame.proofs.LinesJudged.{field_goes_on}
use Rattle.braid_frame.proofs.lines.judge_line.Goals as goal

some_map : {A B : Type 0} (f : A → B) (o : Option A) → is_some (option_map f o) ≡ is_some o
some_map f None = refl
some_map f (Some x) = refl

pub returns-then-is_some : goal.returns-then-is_some
returns-then-is_some c = record { judges = field_goes_on _ _ (sym c.if-is_empty_line.ensures.value) (sym (ap is_some c.read_field.ensures.value) ∙ some_map _ c.read_field.result ∙ sym c.if-is_some.ensures) }
