-- The text of the woven members without the deleted ones is the splice.
use Rattle.std.proofs.Common.{◌≡◌, ℕ, ◌≤◌, ◌+◌, ◌-◌, List, [], ◌∷◌, ◌++◌, Bool, true, false, not, refl, sym, ap, subst, ◌∙◌, inl, inr, ◌⊎◌, arith, take, drop, map, filter, length, suc, zero}
use Rattle.std.proofs.lemmas.List.{take-append-drop, map-append, take-map, drop-map, drop-drop, drop-take}
use Rattle.std.proofs.lemmas.List.Elements.{filter-append}
use Rattle.braid_tree.specs.Keys.{Key, key_in}
use Rattle.braid_tree.specs.Nodes.{Node, run}
use Rattle.braid_change.specs.declared.patch.Patch.{Patch}
use Rattle.braid_change.specs.Splices.{AreRanges, cut}
use Rattle.braid_rebase.specs.Additions.{has_key, char_of, key_of, origin_at, deleted_at, AreUnder}
use Rattle.braid_tree.specs.Trees.{Member, AreDistinct}
use Rattle.braid_tree.proofs.Member.{all_member, member_append_left, member_append_right, member_append_cases}
use Rattle.braid_rebase.proofs.KeyTests.{key_member, member_key}
use Rattle.braid_rebase.proofs.Weave.{weave}

-- the test answers b at every node
abbrev pub AllAnswer : (Node Key → Bool) → Bool → List (Node Key) → Type 0
AllAnswer keep b T = (z : Node Key) → Member z T → keep z ≡ b

filter_kept : (keep : Node Key → Bool) (T : List (Node Key)) → AllAnswer keep true T → filter keep T ≡ T
filter_kept keep [] h = refl
filter_kept keep (x ∷ T) h = rw (h x (inl refl)) (ap (λ t. x ∷ t) (filter_kept keep T (λ z m. h z (inr m))))

filter_dropped : (keep : Node Key → Bool) (T : List (Node Key)) → AllAnswer keep false T → filter keep T ≡ []
filter_dropped keep [] h = refl
filter_dropped keep (x ∷ T) h = rw (h x (inl refl)) (filter_dropped keep T (λ z m. h z (inr m)))

take-add : {A : Type 0} (m n : ℕ) (xs : List A) → take (m + n) xs ≡ take m xs ++ take n (drop m xs)
take-add {A = A} m n xs = sym (take-append-drop m (take (m + n) xs)) ∙ ap (λ t. t ++ drop m (take (m + n) xs)) (shorter m xs) ∙ ap (λ t. take m xs ++ t) (drop-take m n xs)
  where
    shorter : (m : ℕ) (xs : List A) → take m (take (m + n) xs) ≡ take m xs
    shorter zero xs = refl
    shorter (suc m) [] = let e : suc m + n ≡ suc (m + n) = omega arith in ap (λ (k : ℕ). take (suc m) (take k [])) e
    shorter (suc m) (x ∷ xs) = let e : suc m + n ≡ suc (m + n) = omega arith in ap (λ (k : ℕ). take (suc m) (take k (x ∷ xs))) e ∙ ap (λ t. x ∷ t) (shorter m xs)

-- of T, which follows member number at, the test drops what lies in the ranges and what comes before e, and keeps the rest
abbrev pub Keeps : (Node Key → Bool) → List (Node Key) → ℕ → ℕ → List Patch → Type 0
Keeps keep T at e [] = AllAnswer keep false (take (e - at) T) × AllAnswer keep true (drop (e - at) T)
Keeps keep T at e (r ∷ rs) = AllAnswer keep false (take (e - at) T) × AllAnswer keep true (take (r.start - e) (drop (e - at) T)) × Keeps keep (drop (r.start - at) T) r.start r.end rs

pub run_text : (key : ℕ → Key) (above : List Key) (n : ℕ) (cs : List ℕ) → map char_of (run key above n cs) ≡ cs
run_text key above n [] = refl
run_text key above n (c ∷ cs) = ap (λ t. c ∷ t) (run_text key (above ++ key n ∷ []) (n + 1) cs)

module _ (level : ℕ) (id : List ℕ) (S : List (Node Key)) (under : AreUnder level S) (keep : Node Key → Bool) where
  pub woven_text : ((above : List Key) (n : ℕ) (cs : List ℕ) → AllAnswer keep true (run (key_in level id) above n cs)) → (rs : List Patch) (len n at e : ℕ) (T : List (Node Key)) → at ≤ e → AreRanges e len rs → Keeps keep T at e rs
      → map char_of (filter keep (weave level id S under n at T rs)) ≡ cut e (map char_of (drop (e - at) T)) rs
  woven_text own [] len n at e T le rg keeps =
      ap (map char_of) (ap (filter keep) (sym (take-append-drop (e - at) T)) ∙ filter-append keep (take (e - at) T) (drop (e - at) T)
      ∙ ap (λ t. t ++ filter keep (drop (e - at) T)) (filter_dropped keep (take (e - at) T) keeps.0) ∙ filter_kept keep (drop (e - at) T) keeps.1)
  woven_text own (r ∷ rs) len n at e T le rg keeps =
      ap (map char_of) (filter-append keep (take (r.start - at) T) (new_run ++ more) ∙ ap (λ t. filter keep (take (r.start - at) T) ++ t) (filter-append keep new_run more ∙ ap (λ t. t ++ filter keep more) (filter_kept keep new_run (own (origin_at S r.start) n r.text)))
      ∙ ap (λ t. t ++ (new_run ++ filter keep more)) front)
      ∙ map-append char_of gap (new_run ++ filter keep more)
      ∙ ap (λ t. t ++ map char_of (new_run ++ filter keep more)) (sym (take-map char_of (r.start - e) rest))
      ∙ ap (λ t. take (r.start - e) (map char_of rest) ++ t) (map-append char_of new_run (filter keep more) ∙ ap (λ t. t ++ map char_of (filter keep more)) (run_text (key_in level id) (origin_at S r.start) n r.text)
      ∙ ap (λ t. r.text ++ t) (woven_text own rs len (n + length r.text) r.start r.end (drop (r.start - at) T) rg.1 rg.4 keeps.2 ∙ ap (λ t. cut r.end t rs) tail))
    where
      rest : List (Node Key)
      rest = drop (e - at) T

      gap : List (Node Key)
      gap = take (r.start - e) rest

      new_run : List (Node Key)
      new_run = run (key_in level id) (origin_at S r.start) n r.text

      more : List (Node Key)
      more = weave level id S under (n + length r.text) r.start (drop (r.start - at) T) rs

      front : filter keep (take (r.start - at) T) ≡ gap
      front = ap (λ (k : ℕ). filter keep (take k T)) sum ∙ ap (filter keep) (take-add (e - at) (r.start - e) T) ∙ filter-append keep (take (e - at) T) gap
          ∙ ap (λ t. t ++ filter keep gap) (filter_dropped keep (take (e - at) T) keeps.0) ∙ filter_kept keep gap keeps.1
        where
          sum : r.start - at ≡ (e - at) + (r.start - e)
          sum = omega (arith, rg.0)

      tail : map char_of (drop (r.end - r.start) (drop (r.start - at) T)) ≡ drop (r.end - e) (map char_of rest)
      tail = ap (map char_of) (drop-drop (r.end - r.start) (r.start - at) T ∙ ap (λ (k : ℕ). drop k T) sum ∙ sym (drop-drop (r.end - e) (e - at) T)) ∙ sym (drop-map char_of (r.end - e) rest)
        where
          sum : (r.start - at) + (r.end - r.start) ≡ (e - at) + (r.end - e)
          sum = omega (arith, rg.0, rg.1)

-- nodes on both sides of a cut have different keys
distinct_across : (xs ys : List (Node Key)) → AreDistinct (xs ++ ys) → (x y : Node Key) → Member x xs → Member y ys → (y.key ≡ x.key) → ⊥
distinct_across [] ys d x y m n same = absurd m
distinct_across (w ∷ xs) ys d x y (inl e) n same = all_member (λ (z : Node Key). (z.key ≡ w.key) → ⊥) y (xs ++ ys) d.0 (member_append_right y xs ys n) (same ∙ ap (λ (t : Node Key). t.key) (sym e))
distinct_across (w ∷ xs) ys d x y (inr m) n same = distinct_across xs ys d.1 x y m n same

distinct_at : (n : ℕ) (S : List (Node Key)) → AreDistinct S → (x y : Node Key) → Member x (take n S) → Member y (drop n S) → (y.key ≡ x.key) → ⊥
distinct_at n S d x y m k = distinct_across (take n S) (drop n S) (subst AreDistinct (sym (take-append-drop n S)) d) x y m k

pub map_member : (k : Key) (xs : List (Node Key)) → Member k (map key_of xs) → (x : Node Key) × Member x xs × (x.key ≡ k)
map_member k [] m = absurd m
map_member k (x ∷ xs) (inl e) = (x, inl refl, e)
map_member k (x ∷ xs) (inr m) = wider (map_member k xs m)
  where
    wider : (y : Node Key) × Member y xs × (y.key ≡ k) → (y : Node Key) × Member y (x ∷ xs) × (y.key ≡ k)
    wider (y, n, e) = (y, inr n, e)

member_map : (x : Node Key) (xs : List (Node Key)) → Member x xs → Member x.key (map key_of xs)
member_map x [] m = absurd m
member_map x (y ∷ xs) (inl e) = inl (ap key_of e)
member_map x (y ∷ xs) (inr m) = inr (member_map x xs m)

take_wider : (z : Node Key) (m n : ℕ) (S : List (Node Key)) → m ≤ n → Member z (take m S) → Member z (take n S)
take_wider z zero n S le k = absurd k
take_wider z (suc m) zero S le k = absurd (omega arith)
take_wider z (suc m) (suc n) [] le k = absurd k
take_wider z (suc m) (suc n) (x ∷ S) le (inl e) = inl e
take_wider z (suc m) (suc n) (x ∷ S) le (inr k) = inr (take_wider z m n S (omega arith) k)

drop_wider : (z : Node Key) (m n : ℕ) (S : List (Node Key)) → m ≤ n → Member z (drop n S) → Member z (drop m S)
drop_wider z zero n S le k = subst (Member z) (take-append-drop n S) (member_append_right z (take n S) (drop n S) k)
drop_wider z (suc m) zero S le k = absurd (omega arith)
drop_wider z (suc m) (suc n) [] le k = k
drop_wider z (suc m) (suc n) (x ∷ S) le k = drop_wider z m n S (omega arith) k

pub take_drop_in : (z : Node Key) (m n : ℕ) (S : List (Node Key)) → Member z (take n (drop m S)) → Member z (take (m + n) S)
take_drop_in z m n S k = subst (Member z) (sym (take-add m n S)) (member_append_right z (take m S) (take n (drop m S)) k)

-- keys deleted by ranges from place low on stand at low or later
pub deleted_behind : (rs : List Patch) (low len : ℕ) (S : List (Node Key)) → AreRanges low len rs → (k : Key) → Member k (deleted_at S rs) → Member k (map key_of (drop low S))
deleted_behind [] low len S rg k m = absurd m
deleted_behind (r ∷ rs) low len S rg k m = elim (member_append_cases k (map key_of (take (r.end - r.start) (drop r.start S))) (deleted_at S rs) m) [
  | inl a ↦ here (map_member k (take (r.end - r.start) (drop r.start S)) a)
  | inr b ↦ later (map_member k (drop r.end S) (deleted_behind rs r.end len S rg.4 k b))
]
  where
    back : (x : Node Key) → Member x (drop low S) → x.key ≡ k → Member k (map key_of (drop low S))
    back x n e = subst (λ (t : Key). Member t (map key_of (drop low S))) e (member_map x (drop low S) n)

    here : (x : Node Key) × Member x (take (r.end - r.start) (drop r.start S)) × (x.key ≡ k) → Member k (map key_of (drop low S))
    here (x, n, e) = back x (drop_wider x low r.start S rg.0 (subst (Member x) (take-append-drop (r.end - r.start) (drop r.start S)) (member_append_left x (take (r.end - r.start) (drop r.start S)) (drop (r.end - r.start) (drop r.start S)) n))) e

    later : (x : Node Key) × Member x (drop r.end S) × (x.key ≡ k) → Member k (map key_of (drop low S))
    later (x, n, e) = back x (drop_wider x low r.end S (omega (arith, rg.0, rg.1)) n) e

not_in : (k : Key) (D : List Key) → (Member k D → ⊥) → not (has_key k D) ≡ true
not_in k D h = go (has_key k D) refl
  where
    go : (b : Bool) → has_key k D ≡ b → not b ≡ true
    go true e = absurd (h (key_member k D e))
    go false e = refl

is_in : (k : Key) (D : List Key) → Member k D → not (has_key k D) ≡ false
is_in k D m = ap not (member_key k D m)

-- the test that leaves out the deleted keys keeps what lies outside the ranges.
pub keeps : (rs : List Patch) (len at e : ℕ) (S : List (Node Key)) (D : List Key) → AreDistinct S → at ≤ e → AreRanges e len rs
    → ((x : Node Key) → Member x (take (e - at) (drop at S)) → Member x.key D)
    → ((k : Key) → Member k D → Member k (map key_of (take e S)) ⊎ Member k (deleted_at S rs))
    → ((k : Key) → Member k (deleted_at S rs) → Member k D)
    → Keeps (λ (z : Node Key). not (has_key z.key D)) (drop at S) at e rs
keeps [] len at e S D distinct le rg gone only all = (
  (λ z m. is_in z.key D (gone z m)),
  (λ z m. not_in z.key D (λ k. elim (only z.key k) [ inl a ↦ differ z m (map_member z.key (take e S) a) | inr b ↦ absurd b ])),
)
  where
    differ : (z : Node Key) → Member z (drop (e - at) (drop at S)) → (x : Node Key) × Member x (take e S) × (x.key ≡ z.key) → ⊥
    differ z m (x, n, f) = distinct_at e S distinct x z n (subst (Member z) (drop-drop (e - at) at S ∙ ap (λ (k : ℕ). drop k S) sum) m) (sym f)
      where
        sum : at + (e - at) ≡ e
        sum = omega arith
keeps (r ∷ rs) len at e S D distinct le rg gone only all = (
  (λ z m. is_in z.key D (gone z m)),
  (λ z m. not_in z.key D (λ k. elim (only z.key k) [
    | inl a ↦ before z m (map_member z.key (take e S) a)
    | inr b ↦ behind z m (map_member z.key (drop r.start S) (deleted_behind (r ∷ rs) r.start len S (omega arith, rg.1, rg.2, rg.3, rg.4) z.key b))
  ])),
  subst (λ t. Keeps (λ (z : Node Key). not (has_key z.key D)) t r.start r.end rs) (sym there)
      (keeps rs len r.start r.end S D distinct rg.1 rg.4 (λ x m. all x.key (member_append_left x.key (map key_of (take (r.end - r.start) (drop r.start S))) (deleted_at S rs) (member_map x (take (r.end - r.start) (drop r.start S)) m)))
      (λ k m. elim (only k m) [
        | inl a ↦ inl (wide k e (omega (arith, rg.0, rg.1)) (map_member k (take e S) a))
        | inr b ↦ elim (member_append_cases k (map key_of (take (r.end - r.start) (drop r.start S))) (deleted_at S rs) b) [
          | inl c ↦ inl (in_range k (map_member k (take (r.end - r.start) (drop r.start S)) c))
          | inr d ↦ inr d
        ]
      ])
      (λ k m. all k (member_append_right k (map key_of (take (r.end - r.start) (drop r.start S))) (deleted_at S rs) m))),
)
  where
    there : drop (r.start - at) (drop at S) ≡ drop r.start S
    there = drop-drop (r.start - at) at S ∙ ap (λ (k : ℕ). drop k S) sum
      where
        sum : at + (r.start - at) ≡ r.start
        sum = omega (arith, rg.0)

    at_e : drop (e - at) (drop at S) ≡ drop e S
    at_e = drop-drop (e - at) at S ∙ ap (λ (k : ℕ). drop k S) sum
      where
        sum : at + (e - at) ≡ e
        sum = omega arith

    wide : (k : Key) (m : ℕ) → m ≤ r.end → (x : Node Key) × Member x (take m S) × (x.key ≡ k) → Member k (map key_of (take r.end S))
    wide k m h (x, n, f) = subst (λ (t : Key). Member t (map key_of (take r.end S))) f (member_map x (take r.end S) (take_wider x m r.end S h n))

    in_range : (k : Key) → (x : Node Key) × Member x (take (r.end - r.start) (drop r.start S)) × (x.key ≡ k) → Member k (map key_of (take r.end S))
    in_range k (x, n, f) = wide k (r.start + (r.end - r.start)) (omega (arith, rg.1)) (x, take_drop_in x r.start (r.end - r.start) S n, f)

    gap_in : (z : Node Key) → Member z (take (r.start - e) (drop (e - at) (drop at S))) → Member z (take (r.start - e) (drop e S))
    gap_in z m = subst (λ t. Member z (take (r.start - e) t)) at_e m

    before : (z : Node Key) → Member z (take (r.start - e) (drop (e - at) (drop at S))) → (x : Node Key) × Member x (take e S) × (x.key ≡ z.key) → ⊥
    before z m (x, n, f) = distinct_at e S distinct x z n (subst (Member z) (take-append-drop (r.start - e) (drop e S)) (member_append_left z (take (r.start - e) (drop e S)) (drop (r.start - e) (drop e S)) (gap_in z m))) (sym f)

    behind : (z : Node Key) → Member z (take (r.start - e) (drop (e - at) (drop at S))) → (x : Node Key) × Member x (drop r.start S) × (x.key ≡ z.key) → ⊥
    behind z m (x, n, f) = distinct_at r.start S distinct z x (take_wider z (e + (r.start - e)) r.start S (omega (arith, rg.0)) (take_drop_in z e (r.start - e) S (gap_in z m))) n f
