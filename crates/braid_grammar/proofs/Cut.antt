-- Lines of bytes that go on.
use Rattle.std.proofs.Common.{◌≡◌, ℕ, Bool, true, false, List, [], ◌∷◌, ◌++◌, refl, sym, ap, ◌∙◌, append_assoc, eqb, cond, inl, inr, ◌⊎◌}
use Rattle.std.proofs.lemmas.Bool.{cases_Bool, eqb-true, eqb-false, ne_eqb}
use Rattle.std.proofs.lemmas.List.{append-nil}
use Rattle.std.specs.List.{AllByRecursion}
use Rattle.braid_ids.specs.Lists.{Lacks}
use Rattle.braid_grammar.specs.Lines.{lines_from, begun_from, IsLine, join}

-- what a test chooses
pub chosen : {A : Type 0} (b : Bool) (x y : A) → ((b ≡ true) × (cond b x y ≡ x)) ⊎ ((b ≡ false) × (cond b x y ≡ y))
chosen true x y = inl (refl, refl)
chosen false x y = inr (refl, refl)

pub lines_more : (begun bytes more : List ℕ) → lines_from begun (bytes ++ more) ≡ lines_from begun bytes ++ lines_from (begun_from begun bytes) more
lines_more begun [] more = refl
lines_more begun (b ∷ bs) more = elim (cases_Bool (eqb b 10)) [
  | inl e ↦ rw e (ap (λ t. (begun ++ b ∷ []) ∷ t) (lines_more [] bs more))
  | inr e ↦ rw e (lines_more (begun ++ b ∷ []) bs more)
]

pub begun_more : (begun bytes more : List ℕ) → begun_from begun (bytes ++ more) ≡ begun_from (begun_from begun bytes) more
begun_more begun [] more = refl
begun_more begun (b ∷ bs) more = elim (cases_Bool (eqb b 10)) [
  | inl e ↦ rw e (begun_more [] bs more)
  | inr e ↦ rw e (begun_more (begun ++ b ∷ []) bs more)
]

-- the lines and the line that has begun are the bytes
pub lines_join : (begun bytes : List ℕ) → join (lines_from begun bytes) ++ begun_from begun bytes ≡ begun ++ bytes
lines_join begun [] = sym (append-nil begun)
lines_join begun (b ∷ bs) = elim (cases_Bool (eqb b 10)) [
  | inl e ↦ rw e (append_assoc (begun ++ b ∷ []) (join (lines_from [] bs)) (begun_from [] bs) ∙ ap (λ t. (begun ++ b ∷ []) ++ t) (lines_join [] bs) ∙ append_assoc begun (b ∷ []) bs)
  | inr e ↦ rw e (lines_join (begun ++ b ∷ []) bs ∙ append_assoc begun (b ∷ []) bs)
]

-- bytes without an LF begin or go on with a line
pub lines_lack : (begun bytes more : List ℕ) → Lacks 10 bytes → lines_from begun (bytes ++ more) ≡ lines_from (begun ++ bytes) more
lines_lack begun [] more h = ap (λ t. lines_from t more) (sym (append-nil begun))
lines_lack begun (b ∷ bs) more h = let e : eqb b 10 ≡ false = ne_eqb b 10 h.0 in rw e (lines_lack (begun ++ b ∷ []) bs more h.1 ∙ ap (λ t. lines_from t more) (append_assoc begun (b ∷ []) bs))

pub begun_lack : (begun bytes : List ℕ) → Lacks 10 bytes → begun_from begun bytes ≡ begun ++ bytes
begun_lack begun [] h = sym (append-nil begun)
begun_lack begun (b ∷ bs) h = let e : eqb b 10 ≡ false = ne_eqb b 10 h.0 in rw e (begun_lack (begun ++ b ∷ []) bs h.1 ∙ append_assoc begun (b ∷ []) bs)

-- a line is the first line of what it begins
pub lines_line : (l more : List ℕ) → IsLine l → lines_from [] (l ++ more) ≡ l ∷ lines_from [] more
lines_line l more k =
    ap (λ t. lines_from [] (t ++ more)) k.ends
    ∙ ap (lines_from []) (append_assoc k.inside (10 ∷ []) more)
    ∙ lines_lack [] k.inside (10 ∷ more) k.lacks
    ∙ ap (λ t. t ∷ lines_from [] more) (sym k.ends)

pub lines_lines : (ls : List (List ℕ)) (more : List ℕ) → AllByRecursion IsLine ls → lines_from [] (join ls ++ more) ≡ ls ++ lines_from [] more
lines_lines [] more h = refl
lines_lines (l ∷ ls) more h =
    ap (lines_from []) (append_assoc l (join ls) more)
    ∙ lines_line l (join ls ++ more) h.0
    ∙ ap (λ t. l ∷ t) (lines_lines ls more h.1)

lacks_more : (s : List ℕ) (b : ℕ) → Lacks 10 s → eqb b 10 ≡ false → Lacks 10 (s ++ b ∷ [])
lacks_more [] b h e = (eqb-false b 10 e, tt)
lacks_more (c ∷ cs) b h e = (h.0, lacks_more cs b h.1 e)

-- each of them is a line
pub are_lines : (begun bytes : List ℕ) → Lacks 10 begun → AllByRecursion IsLine (lines_from begun bytes)
are_lines begun [] h = tt
are_lines begun (b ∷ bs) h = elim (cases_Bool (eqb b 10)) [
  | inl e ↦ rw e (line_of begun b h e, are_lines [] bs tt)
  | inr e ↦ rw e (are_lines (begun ++ b ∷ []) bs (lacks_more begun b h e))
]
  where
    line_of : (s : List ℕ) (b : ℕ) → Lacks 10 s → eqb b 10 ≡ true → IsLine (s ++ b ∷ [])
    line_of s b h e = record { inside = s; lacks = h; ends = ap (λ x. s ++ x ∷ []) (eqb-true b 10 e) }

-- the line that has begun has no LF yet
pub begun_lacks : (begun bytes : List ℕ) → Lacks 10 begun → Lacks 10 (begun_from begun bytes)
begun_lacks begun [] h = h
begun_lacks begun (b ∷ bs) h = elim (cases_Bool (eqb b 10)) [
  | inl e ↦ rw e (begun_lacks [] bs tt)
  | inr e ↦ rw e (begun_lacks (begun ++ b ∷ []) bs (lacks_more begun b h e))
]
