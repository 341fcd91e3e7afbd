-- What is put together piece by piece is a reply's text.
use Rattle.std.proofs.Common.{◌≡◌, ℕ, append_assoc, List, [], ◌∷◌, ◌++◌, ap, sym, ◌∙◌, flat_map, codes}
use Rattle.std.proofs.lemmas.Grind.{flat_map-append}
use Rattle.braid_http.specs.Replies.{ended}

-- pieces put one behind the other
pub six : (o0 o1 o2 o3 o4 o5 a b c d e f : List ℕ) → o0 ≡ a → o1 ≡ o0 ++ b → o2 ≡ o1 ++ c → o3 ≡ o2 ++ d → o4 ≡ o3 ++ e → o5 ≡ o4 ++ f
    → o5 ≡ a ++ (b ++ (c ++ (d ++ (e ++ f))))
six o0 o1 o2 o3 o4 o5 a b c d e f p q r s t u =
    u ∙ ap (λ z. z ++ f) (t ∙ ap (λ z. z ++ e) (s ∙ ap (λ z. z ++ d) (r ∙ ap (λ z. z ++ c) (q ∙ ap (λ z. z ++ b) p)))) ∙ regroup
  where
    regroup : ((((a ++ b) ++ c) ++ d) ++ e) ++ f ≡ a ++ (b ++ (c ++ (d ++ (e ++ f))))
    regroup = simp append_assoc

-- the lines of a text's head, and the text
pub text_lines : (status name merge kind size list number text : List ℕ)
    → (status ++ (ended [] ++ name)) ++ (list ++ ((ended [] ++ (merge ++ (ended [] ++ (kind ++ (ended [] ++ size))))) ++ (number ++ ((ended [] ++ ended []) ++ text))))
    ≡ flat_map ended ((status ∷ (name ++ list) ∷ merge ∷ kind ∷ (size ++ number) ∷ []) ++ []) ++ codes "\r\n" ++ text
text_lines status name merge kind size list number text = simp append_assoc

-- the lines of an error's head, and its reason
pub error_lines : (version space kind size status phrase number reason : List ℕ) (allow close : List (List ℕ))
    → version ++ ((status ++ (space ++ (phrase ++ (ended [] ++ flat_map ended allow)))) ++ ((kind ++ (ended [] ++ size)) ++ (number ++ (ended [] ++ (flat_map ended close ++ (ended [] ++ (reason ++ codes "\n")))))))
    ≡ flat_map ended (((version ++ status ++ space ++ phrase) ∷ allow) ++ (kind ∷ (size ++ number) ∷ []) ++ close) ++ codes "\r\n" ++ (reason ++ codes "\n")
error_lines version space kind size status phrase number reason allow close =
    sym (rw (flat_map-append ended (((version ++ status ++ space ++ phrase) ∷ allow) ++ (kind ∷ (size ++ number) ∷ [])) close, flat_map-append ended ((version ++ status ++ space ++ phrase) ∷ allow) (kind ∷ (size ++ number) ∷ [])) (simp append_assoc))

pub seven : (o0 o1 o2 o3 o4 o5 o6 a b c d e f g : List ℕ) → o0 ≡ a → o1 ≡ o0 ++ b → o2 ≡ o1 ++ c → o3 ≡ o2 ++ d → o4 ≡ o3 ++ e → o5 ≡ o4 ++ f → o6 ≡ o5 ++ g
    → o6 ≡ a ++ (b ++ (c ++ (d ++ (e ++ (f ++ g)))))
seven o0 o1 o2 o3 o4 o5 o6 a b c d e f g p q r s t u v =
    v ∙ ap (λ z. z ++ g) (six o0 o1 o2 o3 o4 o5 a b c d e f p q r s t u) ∙ regroup
  where
    regroup : (a ++ (b ++ (c ++ (d ++ (e ++ f))))) ++ g ≡ a ++ (b ++ (c ++ (d ++ (e ++ (f ++ g)))))
    regroup = simp append_assoc
