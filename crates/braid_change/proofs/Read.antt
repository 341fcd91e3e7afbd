-- No bytes begin with the canonical spellings of two updates.
use Rattle.std.proofs.Common.{◌≡◌, ℕ, ◌<◌, ◌≤◌, ◌^◌, List, [], ◌∷◌, ◌++◌, refl, ap, sym, ◌∙◌, arith, length, append_assoc, length-append, flat_map, codes, decimal, encode_utf8_all}
use Rattle.std.proofs.lemmas.List.{append_cancel_left}
use Rattle.std.proofs.lemmas.Str.{encodes_same}
use Rattle.std.proofs.lemmas.Str.Parse.{IsNumeralModel, numerals_by_value, tells_digits, not_in_digits}
use Rattle.std.specs.Str.Parse.{AllDigits, digits_value}
use Rattle.std.proofs.lemmas.Fmt.{digits_decimal, decimal_injective}
use Rattle.std.specs.List.{AllByRecursion}
use Rattle.braid_ids.specs.Lists.{Lacks}
use Rattle.braid_ids.specs.Identifiers.{spelled_id}
use Rattle.braid_ids.proofs.Splits.{one_split, lacks_at}
use Rattle.braid_ids.proofs.Spelled.{spelling_same}
use Rattle.braid_change.specs.Changes.{patches_of, content_len, patches_content, AreListed, AreNumbered, IsShaped}
use Rattle.braid_change.specs.Updates.{UpdateView}
use Rattle.braid_change.specs.Spellings.{list_text, length_text, content_text, range_text, patch_text, change_text, canonical}
use Rattle.braid_change.specs.declared.patch.Patch.{Patch}
use Rattle.braid_change.specs.declared.change.Change.{Change}
use Rattle.braid_change.specs.declared.change.Change.TheVariants.{Body, Patches}

own : IsNumeralModel (AllDigits 10) (digits_value 10)
own = numerals_by_value _ tells_digits

-- a number has no byte that is no digit
lacks : (b n : ℕ) → ((48 ≤ b) × (b ≤ 57) → ⊥) → n < 2 ^ 64 → Lacks b (decimal n)
lacks b n out small = lacks_at b (decimal n) (λ i l. not_in_digits own (decimal n) b (digits_decimal own n small) out i l)

-- a number before a byte that is no digit is read in one way
number_same : (b m n : ℕ) (x y : List ℕ) → ((48 ≤ b) × (b ≤ 57) → ⊥) → m < 2 ^ 64 → n < 2 ^ 64 → decimal m ++ b ∷ x ≡ decimal n ++ b ∷ y → (m ≡ n) × (x ≡ y)
number_same b m n x y out h k e =
    let p = one_split b (decimal m) x (decimal n) y (lacks b m out h) (lacks b n out k) e in
    (decimal_injective m n h k p.0, p.1)

heads : (a b : ℕ) (x y : List ℕ) → a ∷ x ≡ b ∷ y → a ≡ b
heads a b x y e = cc

tails : (a b : ℕ) (x y : List ℕ) → a ∷ x ≡ b ∷ y → x ≡ y
tails a b x y e = cc

-- fronts of one length are the same
front_same : (a b x y : List ℕ) → length a ≡ length b → a ++ x ≡ b ++ y → (a ≡ b) × (x ≡ y)
front_same [] [] x y l e = (refl, e)
front_same [] (d ∷ b) x y l e = absurd (omega arith)
front_same (c ∷ a) [] x y l e = absurd (omega arith)
front_same (c ∷ a) (d ∷ b) x y l e =
    let n : length a ≡ length b = omega arith in
    let t : a ++ x ≡ b ++ y = cc in
    let p = front_same a b x y n t in
    let h : c ≡ d = cc in
    let f = p.0 in
    (cc, p.1)

-- a text is read in one way once its length is
content_same : (a b x y : List ℕ) → length (encode_utf8_all a) ≡ length (encode_utf8_all b) → content_text a ++ x ≡ content_text b ++ y → (a ≡ b) × (x ≡ y)
content_same a b x y l e =
    let s : encode_utf8_all a ++ (codes "\r\n" ++ x) ≡ encode_utf8_all b ++ (codes "\r\n" ++ y) = append_cancel_left (codes "\r\n\r\n") _ _ (sym (flat a x) ∙ e ∙ flat b y) in
    let p = front_same (encode_utf8_all a) (encode_utf8_all b) (codes "\r\n" ++ x) (codes "\r\n" ++ y) l s in
    (encodes_same a b p.0, append_cancel_left (codes "\r\n") x y p.1)
  where
    flat : (a x : List ℕ) → content_text a ++ x ≡ codes "\r\n\r\n" ++ (encode_utf8_all a ++ (codes "\r\n" ++ x))
    flat a x = ap (λ z. codes "\r\n\r\n" ++ z) (append_assoc (encode_utf8_all a) (codes "\r\n") x)

-- the line of a length is read in one way
length_same : (a b x y : List ℕ) → length (encode_utf8_all a) < 2 ^ 64 → length (encode_utf8_all b) < 2 ^ 64 → length_text a ++ 13 ∷ x ≡ length_text b ++ 13 ∷ y → (length (encode_utf8_all a) ≡ length (encode_utf8_all b)) × (x ≡ y)
length_same a b x y h k e =
    number_same 13 (length (encode_utf8_all a)) (length (encode_utf8_all b)) x y (λ r. omega (arith, r.0)) h k (append_cancel_left (codes "Content-Length: ") _ _ e)

range_same : (s t e f : ℕ) (x y : List ℕ) → s < 2 ^ 64 → t < 2 ^ 64 → e < 2 ^ 64 → f < 2 ^ 64 → range_text s e ++ x ≡ range_text t f ++ y → (s ≡ t) × ((e ≡ f) × (x ≡ y))
range_same s t e f x y hs ht he hf q =
    let a : decimal s ++ 58 ∷ (decimal e ++ 93 ∷ x) ≡ decimal t ++ 58 ∷ (decimal f ++ 93 ∷ y) = append_cancel_left (codes "text [") _ _ (sym (flat s e x) ∙ q ∙ flat t f y) in
    let p = number_same 58 s t (decimal e ++ 93 ∷ x) (decimal f ++ 93 ∷ y) (λ r. omega (arith, r.1)) hs ht a in
    (p.0, number_same 93 e f x y (λ r. omega (arith, r.1)) he hf p.1)
  where
    flat : (s e : ℕ) (x : List ℕ) → range_text s e ++ x ≡ codes "text [" ++ (decimal s ++ 58 ∷ (decimal e ++ 93 ∷ x))
    flat s e x = simp append_assoc

four : (a b c d x : List ℕ) → (a ++ b ++ c ++ d) ++ x ≡ a ++ (b ++ (c ++ (d ++ x)))
four a b c d x = append_assoc (a ++ b ++ c) d x ∙ append_assoc (a ++ b) c (d ++ x) ∙ append_assoc a b (c ++ (d ++ x))

-- a patch whose numbers can be spelled
record Fits (p : Patch) : Type 0 where
  short : length (encode_utf8_all p.text) < 2 ^ 64
  start : p.start < 2 ^ 64
  end : p.end < 2 ^ 64

patch_same : (p q : Patch) (x y : List ℕ) → Fits p → Fits q → patch_text p ++ x ≡ patch_text q ++ y → (p ≡ q) × (x ≡ y)
patch_same p q x y h k e =
    let a = length_same p.text q.text _ _ h.short k.short (sym (flat p x) ∙ e ∙ flat q y) in
    let b = range_same p.start q.start p.end q.end (content_text p.text ++ x) (content_text q.text ++ y) h.start k.start h.end k.end (append_cancel_left (10 ∷ codes "Content-Range: ") _ _ a.1) in
    let c = content_same p.text q.text x y a.0 b.1.1 in
    ((λ i. record { start = b.0 i; end = b.1.0 i; text = c.0 i }), c.1)
  where
    flat : (p : Patch) (x : List ℕ) → patch_text p ++ x ≡ length_text p.text ++ 13 ∷ (10 ∷ codes "Content-Range: " ++ (range_text p.start p.end ++ (content_text p.text ++ x)))
    flat p x = four (length_text p.text) (codes "\r\nContent-Range: ") (range_text p.start p.end) (content_text p.text) x

patches_same : (ps qs : List Patch) (x y : List ℕ) → length ps ≡ length qs → AllByRecursion Fits ps → AllByRecursion Fits qs → flat_map patch_text ps ++ x ≡ flat_map patch_text qs ++ y → (ps ≡ qs) × (x ≡ y)
patches_same [] [] x y l h k e = (refl, e)
patches_same [] (q ∷ qs) x y l h k e = absurd (omega arith)
patches_same (p ∷ ps) [] x y l h k e = absurd (omega arith)
patches_same (p ∷ ps) (q ∷ qs) x y l h k e =
    let n : length ps ≡ length qs = omega arith in
    let a = patch_same p q (flat_map patch_text ps ++ x) (flat_map patch_text qs ++ y) h.0 k.0 (sym (append_assoc (patch_text p) (flat_map patch_text ps) x) ∙ e ∙ append_assoc (patch_text q) (flat_map patch_text qs) y) in
    let b = patches_same ps qs x y n h.1 k.1 a.1 in
    ((λ i. a.0 i ∷ b.0 i), b.1)

change_same : (c d : Change) (x y : List ℕ) → (length (patches_of c) < 2 ^ 64) × (AllByRecursion Fits (patches_of c) × (content_len c < 2 ^ 64)) → (length (patches_of d) < 2 ^ 64) × (AllByRecursion Fits (patches_of d) × (content_len d < 2 ^ 64)) → change_text c ++ x ≡ change_text d ++ y → (c ≡ d) × (x ≡ y)
change_same (Body s) (Body t) x y h k e =
    let a = length_same s t _ _ h.1.1 k.1.1 (sym (append_assoc (length_text s) (content_text s) x) ∙ e ∙ append_assoc (length_text t) (content_text t) y) in
    let b = content_same s t x y a.0 (ap (λ z. 13 ∷ z) a.1) in
    (ap Body b.0, b.1)
change_same (Body s) (Patches qs) x y h k e = absurd (let n : 67 ≡ 80 = heads _ _ _ _ e in omega arith)
change_same (Patches ps) (Body t) x y h k e = absurd (let n : 80 ≡ 67 = heads _ _ _ _ e in omega arith)
change_same (Patches ps) (Patches qs) x y h k e =
    let a = number_same 13 (length ps) (length qs) _ _ (λ r. omega (arith, r.0)) h.0 k.0 (append_cancel_left (codes "Patches: ") _ _ (sym (flat ps x) ∙ e ∙ flat qs y)) in
    let b = patches_same ps qs x y a.0 h.1.0 k.1.0 (append_cancel_left (codes "\n\r\n") _ _ a.1) in
    (ap Patches b.0, b.1)
  where
    flat : (ps : List Patch) (x : List ℕ) → change_text (Patches ps) ++ x ≡ codes "Patches: " ++ (decimal (length ps) ++ 13 ∷ (codes "\n\r\n" ++ (flat_map patch_text ps ++ x)))
    flat ps x = simp append_assoc

next_same : (a b x y : List ℕ) → (codes ", " ++ spelled_id a) ++ x ≡ (codes ", " ++ spelled_id b) ++ y → (a ≡ b) × (x ≡ y)
next_same a b x y e = spelling_same a b x y (append_cancel_left (codes ", ") _ _ e)

first_same : (a b x y : List ℕ) → (codes " " ++ spelled_id a) ++ x ≡ (codes " " ++ spelled_id b) ++ y → (a ≡ b) × (x ≡ y)
first_same a b x y e = spelling_same a b x y (append_cancel_left (codes " ") _ _ e)

-- the parents after the first
abbrev pub more_ids : List (List ℕ) → List ℕ
more_ids ids = flat_map (λ next. codes ", " ++ spelled_id next) ids

step : (id x : List ℕ) (ids : List (List ℕ)) → more_ids (id ∷ ids) ++ x ≡ (codes ", " ++ spelled_id id) ++ (more_ids ids ++ x)
step id x ids = append_assoc (codes ", " ++ spelled_id id) (more_ids ids) x

more_same : (xs ys : List (List ℕ)) (x y : List ℕ) → more_ids xs ++ 13 ∷ x ≡ more_ids ys ++ 13 ∷ y → (xs ≡ ys) × (x ≡ y)
more_same [] [] x y e = (refl, tails 13 13 x y e)
more_same [] (b ∷ ys) x y e = absurd (let n : 13 ≡ 44 = heads _ _ _ _ (e ∙ step b (13 ∷ y) ys) in omega arith)
more_same (a ∷ xs) [] x y e = absurd (let n : 44 ≡ 13 = heads _ _ _ _ (sym (step a (13 ∷ x) xs) ∙ e) in omega arith)
more_same (a ∷ xs) (b ∷ ys) x y e =
    let p = next_same a b (more_ids xs ++ 13 ∷ x) (more_ids ys ++ 13 ∷ y) (sym (step a (13 ∷ x) xs) ∙ e ∙ step b (13 ∷ y) ys) in
    let q = more_same xs ys x y p.1 in
    ((λ i. p.0 i ∷ q.0 i), q.1)

begin : (id x : List ℕ) (ids : List (List ℕ)) → list_text (id ∷ ids) ++ x ≡ (codes " " ++ spelled_id id) ++ (more_ids ids ++ x)
begin id x ids = ap (λ z. codes " " ++ z) (append_assoc (spelled_id id) (more_ids ids) x)

parents_same : (xs ys : List (List ℕ)) (x y : List ℕ) → list_text xs ++ 13 ∷ x ≡ list_text ys ++ 13 ∷ y → (xs ≡ ys) × (x ≡ y)
parents_same [] [] x y e = (refl, tails 13 13 x y e)
parents_same [] (b ∷ ys) x y e = absurd (let n : 13 ≡ 32 = heads _ _ _ _ (e ∙ begin b (13 ∷ y) ys) in omega arith)
parents_same (a ∷ xs) [] x y e = absurd (let n : 32 ≡ 13 = heads _ _ _ _ (sym (begin a (13 ∷ x) xs) ∙ e) in omega arith)
parents_same (a ∷ xs) (b ∷ ys) x y e =
    let p = first_same a b (more_ids xs ++ 13 ∷ x) (more_ids ys ++ 13 ∷ y) (sym (begin a (13 ∷ x) xs) ∙ e ∙ begin b (13 ∷ y) ys) in
    let q = more_same xs ys x y p.1 in
    ((λ i. p.0 i ∷ q.0 i), q.1)

-- what the shape of a change says of its numbers
fits_all : (ps : List Patch) (low : ℕ) → AreListed low ps → AreNumbered ps → length (patches_content ps) < 2 ^ 64 → AllByRecursion Fits ps
fits_all [] low h n s = tt
fits_all (p ∷ ps) low h n s =
    let e = length-append (encode_utf8_all p.text) (patches_content ps) in
    (record { short = omega (arith, e, s); start = omega (arith, h.1, n.0); end = omega (arith, n.0) }, fits_all ps p.end h.2 n.1 (omega (arith, e, s)))

fits_change : (c : Change) → IsShaped c → (length (patches_of c) < 2 ^ 64) × (AllByRecursion Fits (patches_of c) × (content_len c < 2 ^ 64))
fits_change (Body s) h = (omega arith, (tt, omega (arith, h.short)))
fits_change (Patches ps) h = (omega (arith, h.few), (fits_all ps 0 h.listed h.numbered (omega (arith, h.short)), omega (arith, h.short)))

pub update_same : (u v : UpdateView) (x y : List ℕ) → IsShaped u.change → IsShaped v.change → canonical u ++ x ≡ canonical v ++ y → (u ≡ v) × (x ≡ y)
update_same u v x y h k e =
    let a = spelling_same u.id v.id _ _ (append_cancel_left (codes "Version: ") _ _ (sym (flat u x) ∙ e ∙ flat v y)) in
    let b = parents_same u.parents v.parents _ _ (append_cancel_left (codes "\r\nParents:") _ _ a.1) in
    let c = change_same u.change v.change (codes "\r\n" ++ x) (codes "\r\n" ++ y) (fits_change u.change h) (fits_change v.change k) (append_cancel_left (codes "\n") _ _ b.1) in
    ((λ i. record { id = a.0 i; parents = b.0 i; change = c.0 i }), append_cancel_left (codes "\r\n") x y c.1)
  where
    flat : (u : UpdateView) (x : List ℕ) → canonical u ++ x ≡ codes "Version: " ++ (spelled_id u.id ++ (codes "\r\nParents:" ++ (list_text u.parents ++ 13 ∷ (codes "\n" ++ (change_text u.change ++ (codes "\r\n" ++ x))))))
    flat u x = simp append_assoc

not_nil : (a : ℕ) (x : List ℕ) → [] ≡ a ∷ x → ⊥
not_nil a x e = cc

pub all_same : (us vs : List UpdateView) → AllByRecursion (λ (u : UpdateView). IsShaped u.change) us → AllByRecursion (λ (u : UpdateView). IsShaped u.change) vs → flat_map canonical us ≡ flat_map canonical vs → us ≡ vs
all_same [] [] h k e = refl
all_same [] (v ∷ vs) h k e = absurd (not_nil _ _ e)
all_same (u ∷ us) [] h k e = absurd (not_nil _ _ (sym e))
all_same (u ∷ us) (v ∷ vs) h k e =
    let a = update_same u v (flat_map canonical us) (flat_map canonical vs) h.0 k.0 e in
    let b = all_same us vs h.1 k.1 a.1 in
    λ i. a.0 i ∷ b i
