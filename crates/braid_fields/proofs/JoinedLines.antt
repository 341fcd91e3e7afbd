-- Lines that are joined one by one, and the lists that joined lines are.
use Rattle.std.proofs.Common.{◌≡◌, ℕ, ◌+◌, ◌<◌, Option, Some, None, Ok, Err, ok_or, List, [], ◌∷◌, ◌++◌, length, take, get_or, refl, sym, ap, ◌∙◌, append_assoc}
use Rattle.std.proofs.lemmas.List.{take_more}
use Rattle.braid_shelf.specs.declared.fault.ShelfKind.{ShelfKind}
use Rattle.braid_shelf.specs.Faults.{IsStringsFault}
use Rattle.braid_shelf.proofs.Narrowed.{strings_not_both}
use Rattle.braid_fields.specs.declared.reason.Reason.TheVariants.{BadList}
use Rattle.braid_fields.specs.Values.{SpellsStrings, strings_in_value}
use Rattle.braid_fields.specs.Table.{one_value}
use Rattle.braid_fields.proofs.ValueReading.{strings_law}

pub joined_next : (first : List ℕ) (values : List (List ℕ)) (value : List ℕ) → one_value ((first ∷ values) ++ value ∷ []) ≡ (one_value (first ∷ values) ++ 44 ∷ []) ++ value
joined_next first [] value = sym (append_assoc first (44 ∷ []) value)
joined_next first (second ∷ values) value =
    ap (λ x. first ++ 44 ∷ x) (joined_next second values value)
    ∙ ap (λ x. first ++ x) (sym (append_assoc (44 ∷ []) (one_value (second ∷ values) ++ 44 ∷ []) value))
    ∙ sym (append_assoc first (44 ∷ (one_value (second ∷ values) ++ 44 ∷ [])) value)
    ∙ ap (λ x. x ++ value) (sym (append_assoc first (44 ∷ one_value (second ∷ values)) (44 ∷ [])))

pub joined_more : (first : List ℕ) (others : List (List ℕ)) (n : ℕ) (other joined comma new d : List ℕ) → n < length others → other ≡ get_or others n d → joined ≡ one_value (first ∷ take n others)
    → comma ≡ joined ++ 44 ∷ [] → new ≡ comma ++ other → new ≡ one_value (first ∷ take (n + 1) others)
joined_more first others n other joined comma new d l o e f g =
    g ∙ ap (λ x. x ++ other) (f ∙ ap (λ x. x ++ 44 ∷ []) e) ∙ sym (joined_next first (take n others) other)
    ∙ ap (λ (x : List ℕ). one_value (first ∷ (take n others ++ x ∷ []))) o ∙ ap (λ (x : List (List ℕ)). one_value (first ∷ x)) (sym (take_more others n d l))

-- no value that has a fault as a list of Strings has strings
pub no_strings : (value : List ℕ) (at : ℕ) (kind : ShelfKind) → IsStringsFault value at kind → ok_or (strings_in_value value) BadList ≡ Err BadList
no_strings value at kind f = go (strings_in_value value) refl
  where
    go : (o : Option (List (List ℕ))) → strings_in_value value ≡ o → ok_or o BadList ≡ Err BadList
    go None e = refl
    go (Some strings) e = absurd (strings_not_both strings value at kind ((strings_law value strings).0 e) f)

pub some_strings : (value : List ℕ) (strings : List (List ℕ)) → SpellsStrings strings value → ok_or (strings_in_value value) BadList ≡ Ok strings
some_strings value strings s = ap (λ (o : Option (List (List ℕ))). ok_or o BadList) ((strings_law value strings).1 s)
