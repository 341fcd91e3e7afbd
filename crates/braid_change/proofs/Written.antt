-- What is written item by item is what the whole list is spelled as.
use Rattle.std.proofs.Common.{◌≡◌, ◌==◌, ℕ, suc, ◌+◌, ◌<◌, ◌^◌, List, [], ◌∷◌, ◌++◌, Some, None, false, cond, ap, sym, ◌∙◌, arith, take, drop, take-add, length, get_or, slice_get, append_assoc, flat_map, codes, encode_utf8_all}
use Rattle.std.proofs.lemmas.List.{take_more, take-append-drop, append-nil, length-take-le}
use Rattle.std.proofs.lemmas.List.Folds.{length-flat_map-take}
use Rattle.std.proofs.lemmas.Grind.{flat_map-append}
use Rattle.std.proofs.lemmas.Option.{slice_get_within, get_or_from_slice_get, slice_get-get_or, none-some}
use Rattle.std.proofs.lemmas.Bool.Decides.{nat_tests}
use Rattle.std.proofs.lemmas.Str.{encodes-append}
use Rattle.braid_ids.specs.Identifiers.{spelled_id}
use Rattle.braid_change.specs.Changes.{patches_content}
use Rattle.braid_change.specs.Spellings.{list_text}
use Rattle.braid_change.specs.Texts.{PutsFront}
use Rattle.braid_change.specs.declared.patch.Patch.{Patch}

-- one more item at the end of what was taken
pub taken_more : {X : Type 0} (xs : List X) (n : ℕ) (x : X) → n < length xs → x ≡ get_or xs n x → take (n + 1) xs ≡ take n xs ++ x ∷ []
taken_more xs n x l e = take_more xs n x l ∙ ap (λ z. take n xs ++ z ∷ []) (sym e)

-- one more item, and what it is spelled as
pub mapped_more : {X : Type 0} (f : X → List ℕ) (xs : List X) (n : ℕ) (x : X) → n < length xs → x ≡ get_or xs n x → flat_map f (take n xs) ++ f x ≡ flat_map f (take (n + 1) xs)
mapped_more f xs n x l e = sym (ap (flat_map f) (taken_more xs n x l e) ∙ flat_map-append f (take n xs) (x ∷ []) ∙ ap (λ z. flat_map f (take n xs) ++ z) (append-nil (f x)))

-- the same of an item at its place
pub mapped_at : {X : Type 0} (f : X → List ℕ) (xs : List X) (n : ℕ) (d : X) → n < length xs → flat_map f (take n xs) ++ f (get_or xs n d) ≡ flat_map f (take (n + 1) xs)
mapped_at f xs n d l = sym (ap (flat_map f) (take_more xs n d l) ∙ flat_map-append f (take n xs) (get_or xs n d ∷ []) ∙ ap (λ z. flat_map f (take n xs) ++ z) (append-nil (f (get_or xs n d))))

-- some more characters, and their UTF-8
pub encoded_further : (items : List ℕ) (i n : ℕ) → encode_utf8_all (take i items) ++ encode_utf8_all (take n (drop i items)) ≡ encode_utf8_all (take (i + n) items)
encoded_further items i n = sym (encodes-append (take i items) (take n (drop i items))) ∙ ap encode_utf8_all (sym (take-add i n items))

-- the same behind what stood before
pub encoded_behind : (before old new items : List ℕ) (i n : ℕ) → old ≡ before ++ encode_utf8_all (take i items) → new ≡ old ++ encode_utf8_all (take n (drop i items)) → new ≡ before ++ encode_utf8_all (take (i + n) items)
encoded_behind before old new items i n o e =
    e ∙ ap (λ z. z ++ encode_utf8_all (take n (drop i items))) o ∙ append_assoc before (encode_utf8_all (take i items)) (encode_utf8_all (take n (drop i items)))
    ∙ ap (λ z. before ++ z) (encoded_further items i n)

-- no text of a patch is longer than all together
pub part_short : (patches : List Patch) (i : ℕ) (p : Patch) → i < length patches → p ≡ get_or patches i p → length (patches_content patches) < 2 ^ 64 → length (encode_utf8_all p.text) < 2 ^ 64
part_short patches i p l e h =
    let f : Patch → List ℕ = λ q. encode_utf8_all q.text in
    let k = length-flat_map-take f patches i p l in
    let s : length (f p) ≡ length (f (get_or patches i p)) = ap (λ q. length (f q)) e in
    omega (arith, k, s, h)

-- what follows one more parent
next_parent : (ids : List (List ℕ)) (id : List ℕ) → list_text (ids ++ id ∷ []) ≡ list_text ids ++ (cond (length ids == 0) (codes " ") (codes ", ") ++ spelled_id id)
next_parent [] id = ap (λ z. codes " " ++ z) (append-nil (spelled_id id))
next_parent (x ∷ ids) id =
    let g : List ℕ → List ℕ = λ next. codes ", " ++ spelled_id next in
    let more : flat_map g (ids ++ id ∷ []) ≡ flat_map g ids ++ g id = flat_map-append g ids (id ∷ []) ∙ ap (λ z. flat_map g ids ++ z) (append-nil (g id)) in
    ap (λ z. codes " " ++ (spelled_id x ++ z)) more ∙ ap (λ z. codes " " ++ z) (sym (append_assoc (spelled_id x) (flat_map g ids) (g id)))
    ∙ ap (λ b. codes " " ++ ((spelled_id x ++ flat_map g ids) ++ (cond b (codes " ") (codes ", ") ++ spelled_id id))) (sym (not_none (length ids)))
  where
    not_none : (n : ℕ) → suc n == 0 ≡ false
    not_none n = grind (arith, nat_tests)

-- one more parent, behind what stands between
pub parents_next : (parents : List (List ℕ)) (n : ℕ) (id gap : List ℕ) → Some id ≡ slice_get parents n → gap ≡ cond (n == 0) (codes " ") (codes ", ") → (list_text (take n parents) ++ gap) ++ spelled_id id ≡ list_text (take (n + 1) parents)
parents_next parents n id gap e g =
    let l : n < length parents = slice_get_within parents n id (sym e) in
    let i : id ≡ get_or parents n id = sym (get_or_from_slice_get parents n id id (sym e)) in
    let len : length (take n parents) ≡ n = length-take-le n parents (omega (arith, l)) in
    let gap_is : gap ≡ cond (length (take n parents) == 0) (codes " ") (codes ", ") = g ∙ ap (λ k. cond (k == 0) (codes " ") (codes ", ")) (sym len) in
    ap (λ z. (list_text (take n parents) ++ z) ++ spelled_id id) gap_is
    ∙ append_assoc (list_text (take n parents)) (cond (length (take n parents) == 0) (codes " ") (codes ", ")) (spelled_id id)
    ∙ sym (ap list_text (taken_more parents n id l i) ∙ next_parent (take n parents) id)

pub parents_more : (before old one two gap : List ℕ) (parents : List (List ℕ)) (n : ℕ) (id : List ℕ) → Some id ≡ slice_get parents n → old ≡ before ++ list_text (take n parents) → gap ≡ cond (n == 0) (codes " ") (codes ", ") → one ≡ old ++ gap → two ≡ one ++ spelled_id id
    → two ≡ before ++ list_text (take (n + 1) parents)
parents_more before old one two gap parents n id e o g a b =
    b ∙ ap (λ z. z ++ spelled_id id) (a ∙ ap (λ z. z ++ gap) o) ∙ append_assoc (before ++ list_text (take n parents)) gap (spelled_id id) ∙ append_assoc before (list_text (take n parents)) (gap ++ spelled_id id)
    ∙ ap (λ z. before ++ z) (sym (append_assoc (list_text (take n parents)) gap (spelled_id id)) ∙ parents_next parents n id gap e g)

-- a place within a list has an item
pub none_within : {X : Type 0} (xs : List X) (n : ℕ) → None ≡ slice_get xs n → n < length xs → ⊥
none_within [] n e l = absurd (omega arith)
none_within (x ∷ xs) n e l = none-some (get_or (x ∷ xs) n x) (e ∙ slice_get-get_or (x ∷ xs) n x l)

-- what was put before a push that failed is a front of the whole
pub front_put : (before old new items : List ℕ) (i : ℕ) → old ≡ before ++ encode_utf8_all (take i items) → new ≡ old → PutsFront (encode_utf8_all items) before new
front_put before old new items i o n =
    record {
      front = encode_utf8_all (take i items);
      rest = encode_utf8_all (drop i items);
      whole = ap encode_utf8_all (sym (take-append-drop i items)) ∙ encodes-append (take i items) (drop i items);
      put = n ∙ o;
    }
