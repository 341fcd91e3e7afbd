-- Pieces put one behind the other.
use Rattle.std.proofs.Common.{◌≡◌, ℕ, append_assoc, List, ◌++◌, ap, ◌∙◌}

pub four : (o0 o1 o2 o3 o4 a b c d : List ℕ) → o1 ≡ o0 ++ a → o2 ≡ o1 ++ b → o3 ≡ o2 ++ c → o4 ≡ o3 ++ d → o4 ≡ o0 ++ (a ++ (b ++ (c ++ d)))
four o0 o1 o2 o3 o4 a b c d p q r s = s ∙ ap (λ z. z ++ d) (r ∙ ap (λ z. z ++ c) (q ∙ ap (λ z. z ++ b) p)) ∙ regroup
  where
    regroup : (((o0 ++ a) ++ b) ++ c) ++ d ≡ o0 ++ (a ++ (b ++ (c ++ d)))
    regroup = simp append_assoc

pub five : (o0 o1 o2 o3 o4 o5 a b c d e : List ℕ) → o1 ≡ o0 ++ a → o2 ≡ o1 ++ b → o3 ≡ o2 ++ c → o4 ≡ o3 ++ d → o5 ≡ o4 ++ e → o5 ≡ o0 ++ (a ++ (b ++ (c ++ (d ++ e))))
five o0 o1 o2 o3 o4 o5 a b c d e p q r s t = t ∙ ap (λ z. z ++ e) (four o0 o1 o2 o3 o4 a b c d p q r s) ∙ regroup
  where
    regroup : (o0 ++ (a ++ (b ++ (c ++ d)))) ++ e ≡ o0 ++ (a ++ (b ++ (c ++ (d ++ e))))
    regroup = simp append_assoc
