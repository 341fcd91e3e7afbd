-- What stands before the end of a line.
use Rattle.std.proofs.Common.{◌≡◌, ◌≢◌, ℕ, ◌==◌, Bool, true, false, cond, inl, inr, ◌↔◌, List, [], ◌∷◌, ◌++◌, refl, sym, ap, ◌∙◌, append_assoc, eqb-true}
use Rattle.std.proofs.lemmas.Bool.{and_parts, ne_eqb}
use Rattle.braid_ids.specs.Lists.{Lacks}
use Rattle.braid_fields.specs.Lines.{IsLineEnd, is_empty_line, ends_line, content_of}
use Rattle.braid_fields.proofs.Padding.{ends_last}

empty_end : (line : List ℕ) → is_empty_line line ≡ true → IsLineEnd line
empty_end [] e = absurd cc
empty_end (b ∷ []) e = inl (ap (λ (x : ℕ). x ∷ []) (eqb-true b 10 e))
empty_end (b ∷ c ∷ []) e =
    let p = and_parts (b == 13) (c == 10) e in
    let first : b ≡ 13 = eqb-true b 13 p.0 in
    let second : c ≡ 10 = eqb-true c 10 p.1 in
    inr (cc)
empty_end (b ∷ c ∷ d ∷ bytes) e = absurd cc

end_empty : (line : List ℕ) → IsLineEnd line → is_empty_line line ≡ true
end_empty line (inl e) = ap is_empty_line e
end_empty line (inr e) = ap is_empty_line e

-- a line is empty where it is an end and nothing else
pub empty_law : (line : List ℕ) → is_empty_line line ≡ true ↔ IsLineEnd line
empty_law line = (empty_end line, end_empty line)

pub not_empty : (b : ℕ) (bytes : List ℕ) → b ≢ 10 → b ≢ 13 → is_empty_line (b ∷ bytes) ≡ false
not_empty b [] n m = ne_eqb b 10 n
not_empty b (c ∷ []) n m = rw (ne_eqb b 13 m) refl
not_empty b (c ∷ d ∷ bytes) n m = refl

-- a line with its LF is its content and an end
pub content_cut : (line : List ℕ) → ends_line line ≡ true → (end : List ℕ) × IsLineEnd end × (line ≡ content_of line ++ end)
content_cut [] e = absurd cc
content_cut (b ∷ []) e = (b ∷ [], empty_end (b ∷ []) e, ap (λ (t : Bool). cond t [] (b ∷ []) ++ b ∷ []) (sym e))
content_cut (b ∷ c ∷ bytes) e = go (is_empty_line (b ∷ c ∷ bytes)) refl (content_cut (c ∷ bytes) e)
  where
    go : (t : Bool) → is_empty_line (b ∷ c ∷ bytes) ≡ t → (end : List ℕ) × IsLineEnd end × (c ∷ bytes ≡ content_of (c ∷ bytes) ++ end)
        → (end : List ℕ) × IsLineEnd end × (b ∷ c ∷ bytes ≡ cond t [] (b ∷ content_of (c ∷ bytes)) ++ end)
    go true e later = (b ∷ c ∷ bytes, empty_end (b ∷ c ∷ bytes) e, refl)
    go false e later = (later.0, later.1, ap (λ x. b ∷ x) later.2)

pub content_is : (content end : List ℕ) → Lacks 10 content → Lacks 13 content → IsLineEnd end → content_of (content ++ end) ≡ content
content_is [] end l m (inl e) = ap content_of e
content_is [] end l m (inr e) = ap content_of e
content_is (b ∷ content) end l m e = ap (λ (t : Bool). cond t [] (b ∷ content_of (content ++ end))) (not_empty b (content ++ end) l.0 m.0) ∙ ap (λ x. b ∷ x) (content_is content end l.1 m.1 e)

pub line_ends : (content end : List ℕ) → IsLineEnd end → ends_line (content ++ end) ≡ true
line_ends content end (inl e) = ap (λ x. ends_line (content ++ x)) e ∙ ends_last (λ byte. byte == 10) content 10
line_ends content end (inr e) =
    ap (λ x. ends_line (content ++ x)) e ∙ ap ends_line (sym (append_assoc content (13 ∷ []) (10 ∷ []))) ∙ ends_last (λ byte. byte == 10) (content ++ 13 ∷ []) 10
