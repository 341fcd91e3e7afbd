use Rattle.std.proofs.Common.{◌≡◌, ℕ, List, ◌∷◌, ◌++◌, sym, ap, ◌∙◌}
use Rattle.std.proofs.lemmas.List.{append_cancel_left}
use Rattle.braid_state.proofs.Options.{found_weaker}
use Rattle.braid_ids.specs.Lists.{Lacks}
use Rattle.braid_ids.proofs.Splits.{lacks_split}
use Rattle.braid_state.proofs.line.read_line.Goals as goal

-- behind the name no line ends
no_end : (name bytes rest value more : List ℕ) → bytes ≡ name ++ rest → Lacks 10 rest → bytes ≡ name ++ (value ++ 10 ∷ more) → ⊥
no_end name bytes rest value more e k f = lacks_split 10 rest value more k (append_cancel_left name rest (value ++ 10 ∷ more) (sym e ∙ f))

behind : (name bytes rest cut : List ℕ) → bytes ≡ name ++ rest → rest ≡ cut → bytes ≡ name ++ cut
behind name bytes rest cut e f = e ∙ ap (λ t. name ++ t) f

pub returns : goal.returns
returns c =
    let front = c.in-Some.ensures.found ∙ ap (λ t. t ++ c.in-Some.rest.now) c.name.ensures.value in
    record {
      found = found_weaker c.split_at_byte.result _ _ _ _ c.split_at_byte.ensures.found
          (λ lacks value rest k e. no_end _ c.args.bytes.now c.in-Some.rest.now value rest front lacks e)
          (λ cut k. (k.0, behind _ c.args.bytes.now c.in-Some.rest.now _ front k.1));
    }
