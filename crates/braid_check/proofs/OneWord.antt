-- A list of one word.
use Rattle.std.proofs.Common.{◌≡◌, ℕ, ◌<◌, ◌≤◌, List, [], ◌∷◌, ap, sym, ◌∙◌, length, get_or, arith, true, nat_eq}
use Rattle.std.proofs.lemmas.Bool.Decides.{Decides-eqb}
use Rattle.std.specs.Cmp.Lexicographic.{pointwise, pointwise_decides}

one_item : (words : List (List ℕ)) (word : List ℕ) → 1 ≤ length words → length words < 2 → word ≡ get_or words 0 word → words ≡ word ∷ []
one_item [] word l h e = absurd (omega arith)
one_item (w ∷ []) word l h e = ap (λ x. x ∷ []) (sym e)
one_item (w ∷ v ∷ ws) word l h e = absurd (omega arith)

pub one_word : (words : List (List ℕ)) (word bytes text : List ℕ) → 1 ≤ length words → length words < 2 → word ≡ get_or words 0 word → bytes ≡ word → true ≡ pointwise nat_eq bytes text → words ≡ text ∷ []
one_word words word bytes text l h e b t =
    let same : bytes ≡ text = (pointwise_decides Decides-eqb bytes text).0 (sym t) in
    one_item words word l h e ∙ ap (λ x. x ∷ []) (sym b ∙ same)
