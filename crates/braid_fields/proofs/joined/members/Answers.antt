use Rattle.std.proofs.Common.{◌≡◌, ◌∙◌, ap, subst, sym, Ok, Err, List, ℕ, ok_or}
use Rattle.braid_fields.specs.declared.reason.Reason.TheVariants.{BadList}
use Rattle.braid_fields.specs.Values.{strings_in_value}
use Rattle.braid_fields.specs.Table.{one_value}
use Rattle.braid_fields.proofs.JoinedLines.{some_strings, no_strings}
use Rattle.braid_fields.proofs.joined.members.Goals as goal

pub returns-in-Ok : goal.returns-in-Ok
returns-in-Ok c =
    let e : c.get.result.now ≡ one_value c.args.values.now = c.get.ensures.value ∙ c.in_ok-value.ensures.ok in
    let read = some_strings c.get.result.now c.in-Ok.strings.items c.in-Ok.ensures.ok in
    let judged : ok_or (strings_in_value (one_value c.args.values.now)) BadList ≡ Ok c.in-Ok.strings.items = subst (λ (x : List ℕ). ok_or (strings_in_value x) BadList ≡ Ok c.in-Ok.strings.items) e read in
    record { strings = judged ∙ ap (λ (x : List (List ℕ)). Ok x) (sym c.of.ensures.value) }

pub returns-in-Err-Bad : goal.returns-in-Err-Bad
returns-in-Err-Bad c =
    let e : c.get.result.now ≡ one_value c.args.values.now = c.get.ensures.value ∙ c.in_ok-value.ensures.ok in
    let fault = rw c.in-Err-Bad.field-0-is at c.in-Err-Bad.ensures.fault in
    let read = no_strings c.get.result.now c.in-Err-Bad.field-0-0 c.in-Err-Bad.field-0-1 fault in
    record { strings = subst (λ (x : List ℕ). ok_or (strings_in_value x) BadList ≡ Err BadList) e read }
