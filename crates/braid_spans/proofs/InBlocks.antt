-- A change in one block is one in the list of all runs.
use Rattle.std.proofs.Common.{◌≡◌, ℕ, zero, suc, ◌+◌, ◌-◌, ◌<◌, ◌≤◌, ◌^◌, List, [], ◌∷◌, ◌++◌, Some, IsSomeAnd, All, length, take, drop, map, slice_get, get_or, refl, sym, ap, subst, ◌∙◌, arith, append_assoc}
use Rattle.std.proofs.Math.ListN.{set}
use Rattle.std.specs.List.{insert, remove}
use Rattle.std.specs.Option.{option_map}
use Rattle.std.proofs.lemmas.List.{length-append, length-map, length-set, length-take-le, map-append, map-set, take-map, drop-map, set-append_left, set-append_right, take-append-drop, take_at, drop_at, append-nil, get_or-set_same}
use Rattle.std.proofs.lemmas.List.Concat.{flat_map-append}
use Rattle.std.proofs.lemmas.List.Edits.{insert-append_left, insert-append_right, remove-append_left, remove-append_right, length-insert, length-remove}
use Rattle.std.proofs.lemmas.List.Elements.{All-set, All-take, All-drop}
use Rattle.std.proofs.lemmas.List.Sums.{sum_by-set, sum_by-append, sum_by-insert, sum_by-remove, sum_by-take-le, get_or-le-sum_by}
use Rattle.std.proofs.lemmas.Option.{slice_get_within, slice_get-get_or, slice_get-map, get_or_from_slice_get}
use Rattle.braid_spans.specs.declared.run.Run.{Run}
use Rattle.braid_spans.specs.declared.sum.Sum.{Sum}
use Rattle.braid_spans.specs.Kept.{undeleted_of, undeleted_in, size_in}
use Rattle.braid_spans.specs.Blocks.{runs_of, flat, sum_of, runs_in, undeleted_by, over_half, weight, IsFilled, before}
use Rattle.braid_spans.proofs.Lists.{some_item, from_some_and, all_insert, parts, set_parts, two_for_one, sum_by-cons, get_first_of_two, get_second_of_two, drop_at_item, take_item}
use Rattle.braid_spans.proofs.SeenSteps.{get_left, get_right}

pub flat-append : (xs ys : List (List Run)) → flat (xs ++ ys) ≡ flat xs ++ flat ys
flat-append xs ys = flat_map-append runs_of xs ys

pub flat_parts : (bs : List (List Run)) (s : ℕ) (b : List Run) → slice_get bs s ≡ Some b → flat bs ≡ flat (take s bs) ++ (b ++ flat (drop (suc s) bs))
flat_parts bs s b e = ap flat (parts bs s b e) ∙ flat-append (take s bs) (b ∷ drop (suc s) bs)

flat_set : (bs : List (List Run)) (s : ℕ) (b c : List Run) → slice_get bs s ≡ Some b → flat (set bs s c) ≡ flat (take s bs) ++ (c ++ flat (drop (suc s) bs))
flat_set bs s b c e = ap flat (set_parts bs s b c e) ∙ flat-append (take s bs) (c ∷ drop (suc s) bs)

less : (n k : ℕ) → n + k - n ≡ k
less n k = omega arith

set_flat : (bs : List (List Run)) (s k : ℕ) (b : List Run) (x : Run) → slice_get bs s ≡ Some b → k < length b → flat (set bs s (set b k x)) ≡ set (flat bs) (before bs s + k) x
set_flat bs s k b x e l =
    flat_set bs s b (set b k x) e
    ∙ sym (ap (λ t. set t (before bs s + k) x) (flat_parts bs s b e)
    ∙ set-append_right (flat (take s bs)) (b ++ flat (drop (suc s) bs)) (before bs s) (before bs s + k) x refl (omega arith)
    ∙ ap (λ (n : ℕ). flat (take s bs) ++ set (b ++ flat (drop (suc s) bs)) n x) (less (before bs s) k)
    ∙ ap (λ t. flat (take s bs) ++ t) (set-append_left b (flat (drop (suc s) bs)) k x l))

insert_flat : (bs : List (List Run)) (s k : ℕ) (b : List Run) (x : Run) → slice_get bs s ≡ Some b → k ≤ length b → flat (set bs s (insert b k x)) ≡ insert (flat bs) (before bs s + k) x
insert_flat bs s k b x e l =
    flat_set bs s b (insert b k x) e
    ∙ sym (ap (λ t. insert t (before bs s + k) x) (flat_parts bs s b e)
    ∙ insert-append_right (flat (take s bs)) (b ++ flat (drop (suc s) bs)) (before bs s) (before bs s + k) x refl (omega arith)
    ∙ ap (λ (n : ℕ). flat (take s bs) ++ insert (b ++ flat (drop (suc s) bs)) n x) (less (before bs s) k)
    ∙ ap (λ t. flat (take s bs) ++ t) (insert-append_left b (flat (drop (suc s) bs)) k x l))

remove_flat : (bs : List (List Run)) (s k : ℕ) (b : List Run) → slice_get bs s ≡ Some b → k < length b → flat (set bs s (remove b k)) ≡ remove (flat bs) (before bs s + k)
remove_flat bs s k b e l =
    flat_set bs s b (remove b k) e
    ∙ sym (ap (λ t. remove t (before bs s + k)) (flat_parts bs s b e)
    ∙ remove-append_right (flat (take s bs)) (b ++ flat (drop (suc s) bs)) (before bs s) (before bs s + k) refl (omega arith)
    ∙ ap (λ (n : ℕ). flat (take s bs) ++ remove (b ++ flat (drop (suc s) bs)) n) (less (before bs s) k)
    ∙ ap (λ t. flat (take s bs) ++ t) (remove-append_left b (flat (drop (suc s) bs)) k l))

pub get_flat : (bs : List (List Run)) (s k : ℕ) (b : List Run) → slice_get bs s ≡ Some b → k < length b → slice_get (flat bs) (before bs s + k) ≡ slice_get b k
get_flat bs s k b e l =
    ap (λ t. slice_get t (before bs s + k)) (flat_parts bs s b e)
    ∙ get_right (flat (take s bs)) (b ++ flat (drop (suc s) bs)) (before bs s + k) (omega arith)
    ∙ ap (slice_get (b ++ flat (drop (suc s) bs))) (less (before bs s) k)
    ∙ get_left b (flat (drop (suc s) bs)) k l

-- what was read of a list is the item that is there
pub got : {X : Type 0} (xs : List X) (i : ℕ) (x d : X) → slice_get xs i ≡ Some x → d ≡ get_or xs i d → d ≡ x
got xs i x d e h = h ∙ get_or_from_slice_get xs i x d e

-- the same changes by what was read of the list of blocks
module _ (bs : List (List Run)) (s k : ℕ) (d : List Run) (is : d ≡ get_or bs s d) where
  pub list_set : (x : Run) (new : List Run) → IsSomeAnd (slice_get bs s) (λ (b : List Run). k < length b) → new ≡ set d k x → flat (set bs s new) ≡ set (flat bs) (before bs s + k) x
  list_set x new there e =
      let h = some_item (λ (b : List Run). k < length b) (slice_get bs s) there in
      ap (λ t. flat (set bs s t)) (e ∙ ap (λ t. set t k x) (got bs s h.0 d h.1 is)) ∙ set_flat bs s k h.0 x h.1 h.2

  pub list_insert : (x : Run) (new : List Run) → IsSomeAnd (slice_get bs s) (λ (b : List Run). k ≤ length b) → new ≡ insert d k x → flat (set bs s new) ≡ insert (flat bs) (before bs s + k) x
  list_insert x new there e =
      let h = some_item (λ (b : List Run). k ≤ length b) (slice_get bs s) there in
      ap (λ t. flat (set bs s t)) (e ∙ ap (λ t. insert t k x) (got bs s h.0 d h.1 is)) ∙ insert_flat bs s k h.0 x h.1 h.2

  pub list_remove : (new : List Run) → IsSomeAnd (slice_get bs s) (λ (b : List Run). k < length b) → new ≡ remove d k → flat (set bs s new) ≡ remove (flat bs) (before bs s + k)
  list_remove new there e =
      let h = some_item (λ (b : List Run). k < length b) (slice_get bs s) there in
      ap (λ t. flat (set bs s t)) (e ∙ ap (λ t. remove t k) (got bs s h.0 d h.1 is)) ∙ remove_flat bs s k h.0 h.1 h.2

  pub list_get : (x : Run) → IsSomeAnd (slice_get bs s) (λ (b : List Run). k < length b) → slice_get d k ≡ Some x → slice_get (flat bs) (before bs s + k) ≡ Some x
  list_get x there e =
      let h = some_item (λ (b : List Run). k < length b) (slice_get bs s) there in
      get_flat bs s k h.0 h.1 h.2 ∙ ap (λ t. slice_get t k) (sym (got bs s h.0 d h.1 is)) ∙ e

  pub read_block : (P : List Run → Type 0) → IsSomeAnd (slice_get bs s) P → (slice_get bs s ≡ Some d) × P d
  read_block P there =
      let h = some_item P (slice_get bs s) there in
      let e = got bs s h.0 d h.1 is in
      (h.1 ∙ ap Some (sym e), subst P (sym e) h.2)

-- what is kept of the block at a spot
pub sum_there : (bs : List (List Run)) (sums : List Sum) (s : ℕ) (b : List Run) (m : Sum) → sums ≡ map sum_of bs → slice_get bs s ≡ Some b → m ≡ get_or sums s m → m ≡ sum_of b
sum_there bs sums s b m e there is = got sums s (sum_of b) m (ap (λ t. slice_get t s) e ∙ slice_get-map sum_of bs s ∙ ap (option_map sum_of) there) is

pub sums_set : (bs : List (List Run)) (sums : List Sum) (s : ℕ) (new : List Run) (m : Sum) → sums ≡ map sum_of bs → m ≡ sum_of new → set sums s m ≡ map sum_of (set bs s new)
sums_set bs sums s new m e is = ap (λ t. set t s m) e ∙ ap (set (map sum_of bs) s) is ∙ sym (map-set sum_of bs s new)

pub same_sum : (m n : Sum) → m.runs ≡ n.runs → m.undeleted ≡ n.undeleted → m ≡ n
same_sum m n a b = λ i. record { runs = a i; undeleted = b i }

map_insert : {X Y : Type 0} (f : X → Y) (xs : List X) (i : ℕ) (x : X) → map f (insert xs i x) ≡ insert (map f xs) i (f x)
map_insert f xs i x =
    map-append f (take i xs) (x ∷ drop i xs)
    ∙ ap (λ t. t ++ f x ∷ map f (drop i xs)) (sym (take-map f i xs))
    ∙ ap (λ t. take i (map f xs) ++ f x ∷ t) (sym (drop-map f i xs))

pub sums_cut : (bs : List (List Run)) (sums : List Sum) (s : ℕ) (c d : List Run) (m n : Sum) → sums ≡ map sum_of bs → m ≡ sum_of c → n ≡ sum_of d
    → insert (set sums s m) (s + 1) n ≡ map sum_of (insert (set bs s c) (s + 1) d)
sums_cut bs sums s c d m n e f g =
    ap (λ t. insert t (s + 1) n) (sums_set bs sums s c m e f)
    ∙ ap (insert (map sum_of (set bs s c)) (s + 1)) g
    ∙ sym (map_insert sum_of (set bs s c) (s + 1) d)

-- how many of a block's elements nothing deletes
pub undeleted_part : (bs : List (List Run)) (s : ℕ) (b : List Run) → slice_get bs s ≡ Some b → undeleted_in b ≤ undeleted_in (flat bs)
undeleted_part bs s b e =
    let f = λ (x : Run). undeleted_of x.newest x.len in
    let p : undeleted_in (flat bs) ≡ undeleted_in (flat (take s bs) ++ (b ++ flat (drop (suc s) bs))) = ap undeleted_in (flat_parts bs s b e) in
    let q : undeleted_in (flat (take s bs) ++ (b ++ flat (drop (suc s) bs))) ≡ undeleted_in (flat (take s bs)) + undeleted_in (b ++ flat (drop (suc s) bs)) = sum_by-append f (flat (take s bs)) (b ++ flat (drop (suc s) bs)) in
    let r : undeleted_in (b ++ flat (drop (suc s) bs)) ≡ undeleted_in b + undeleted_in (flat (drop (suc s) bs)) = sum_by-append f b (flat (drop (suc s) bs)) in
    omega (arith, p, q, r)

pub undeleted_item : (b : List Run) (k : ℕ) (x : Run) → slice_get b k ≡ Some x → k < length b → undeleted_of x.newest x.len ≤ undeleted_in b
undeleted_item b k x e l =
    let a : undeleted_of (get_or b k x).newest (get_or b k x).len ≤ undeleted_in b = get_or-le-sum_by (λ (y : Run). undeleted_of y.newest y.len) b k x l in
    subst (λ (y : Run). undeleted_of y.newest y.len ≤ undeleted_in b) (get_or_from_slice_get b k x x e) a

-- the sum of a block after a change in it
module _ (b : List Run) (k : ℕ) where
  pub undeleted_at_set : (old x : Run) → slice_get b k ≡ Some old → undeleted_in (set b k x) + undeleted_of old.newest old.len ≡ undeleted_in b + undeleted_of x.newest x.len
  undeleted_at_set old x e =
      let l = slice_get_within b k old e in
      let a : undeleted_in (set b k x) + undeleted_of (get_or b k old).newest (get_or b k old).len ≡ undeleted_in b + undeleted_of x.newest x.len = sum_by-set (λ (y : Run). undeleted_of y.newest y.len) b k x old l in
      subst (λ (y : Run). undeleted_in (set b k x) + undeleted_of y.newest y.len ≡ undeleted_in b + undeleted_of x.newest x.len) (get_or_from_slice_get b k old old e) a

  pub undeleted_at_remove : (old : Run) → slice_get b k ≡ Some old → undeleted_in (remove b k) + undeleted_of old.newest old.len ≡ undeleted_in b
  undeleted_at_remove old e =
      let l = slice_get_within b k old e in
      let a : undeleted_in (remove b k) + undeleted_of (get_or b k old).newest (get_or b k old).len ≡ undeleted_in b = sum_by-remove (λ (y : Run). undeleted_of y.newest y.len) b k old l in
      subst (λ (y : Run). undeleted_in (remove b k) + undeleted_of y.newest y.len ≡ undeleted_in b) (get_or_from_slice_get b k old old e) a

  pub undeleted_at_insert : (x : Run) → undeleted_in (insert b k x) ≡ undeleted_in b + undeleted_of x.newest x.len
  undeleted_at_insert x = sum_by-insert (λ (y : Run). undeleted_of y.newest y.len) b k x

-- how far blocks are filled, after one of them changed
pub weight_set : (bs : List (List Run)) (s : ℕ) (b c : List Run) → slice_get bs s ≡ Some b → weight (set bs s c) + over_half b ≡ weight bs + over_half c
weight_set bs s b c e =
    let l = slice_get_within bs s b e in
    let a : weight (set bs s c) + over_half (get_or bs s b) ≡ weight bs + over_half c = sum_by-set over_half bs s c b l in
    subst (λ (t : List Run). weight (set bs s c) + over_half t ≡ weight bs + over_half c) (get_or_from_slice_get bs s b b e) a

pub weight_at : (bs : List (List Run)) (s : ℕ) (b : List Run) → slice_get bs s ≡ Some b → over_half b ≤ weight bs
weight_at bs s b e =
    subst (λ (t : List Run). over_half t ≤ weight bs) (get_or_from_slice_get bs s b b e) (get_or-le-sum_by over_half bs s b (slice_get_within bs s b e))

-- a full block that is cut in two
module _ (bs : List (List Run)) (s : ℕ) (b : List Run) (e : slice_get bs s ≡ Some b) (l : length b ≡ 256) where
  front : List Run
  front = take 128 b

  rest : List Run
  rest = drop 128 b

  now : List (List Run)
  now = insert (set bs s (take 128 b)) (s + 1) (drop 128 b)

  both : take 128 b ++ drop 128 b ≡ b
  both = take-append-drop 128 b

  long_front : length (take 128 b) ≡ 128
  long_front = length-take-le 128 b (omega (arith, l))

  long_rest : length (drop 128 b) ≡ 128
  long_rest = let a = length-append (take 128 b) (drop 128 b) in let c : length (take 128 b ++ drop 128 b) ≡ length b = ap length both in omega (arith, a, c, l, long_front)

  pub cut_flat : flat (insert (set bs s (take 128 b)) (s + 1) (drop 128 b)) ≡ flat bs
  cut_flat =
      ap flat (two_for_one bs s b (take 128 b) (drop 128 b) e)
      ∙ flat-append (take s bs) (take 128 b ∷ drop 128 b ∷ drop (suc s) bs)
      ∙ ap (λ t. flat (take s bs) ++ t) (sym (append_assoc (take 128 b) (drop 128 b) (flat (drop (suc s) bs))) ∙ ap (λ t. t ++ flat (drop (suc s) bs)) both)
      ∙ sym (flat_parts bs s b e)

  pub cut_small : All IsFilled bs → All IsFilled (insert (set bs s (take 128 b)) (s + 1) (drop 128 b))
  cut_small all = all_insert IsFilled (set bs s (take 128 b)) (s + 1) (drop 128 b) (omega (arith, long_rest)) (All-set IsFilled bs s (take 128 b) (omega (arith, long_front)) all)

  pub cut_weight : weight (insert (set bs s (take 128 b)) (s + 1) (drop 128 b)) + 128 ≡ weight bs
  cut_weight =
      let a = weight_set bs s b (take 128 b) e in
      let c : weight (insert (set bs s (take 128 b)) (s + 1) (drop 128 b)) ≡ weight (set bs s (take 128 b)) + over_half (drop 128 b) = sum_by-insert over_half (set bs s (take 128 b)) (s + 1) (drop 128 b) in
      omega (arith, a, c, l, long_front, long_rest)

  pub cut_first : slice_get (insert (set bs s (take 128 b)) (s + 1) (drop 128 b)) s ≡ Some (take 128 b)
  cut_first = get_first_of_two bs s b (take 128 b) (drop 128 b) e

  pub cut_second : slice_get (insert (set bs s (take 128 b)) (s + 1) (drop 128 b)) (s + 1) ≡ Some (drop 128 b)
  cut_second = get_second_of_two bs s b (take 128 b) (drop 128 b) e

  length_there : length (take s bs) ≡ s
  length_there = length-take-le s bs (let w = slice_get_within bs s b e in omega (arith, w))

  pub cut_before : before (insert (set bs s (take 128 b)) (s + 1) (drop 128 b)) s ≡ before bs s
  cut_before =
      ap (λ t. length (flat (take s t))) (two_for_one bs s b (take 128 b) (drop 128 b) e)
      ∙ ap (λ t. length (flat t)) (take_at (take s bs) (take 128 b ∷ drop 128 b ∷ drop (suc s) bs) s length_there)

  pub cut_behind : before (insert (set bs s (take 128 b)) (s + 1) (drop 128 b)) (s + 1) ≡ before bs s + 128
  cut_behind =
      ap (λ t. length (flat (take (s + 1) t))) (two_for_one bs s b (take 128 b) (drop 128 b) e)
      ∙ ap (λ t. length (flat (take (s + 1) t))) (sym (append_assoc (take s bs) (take 128 b ∷ []) (drop 128 b ∷ drop (suc s) bs)))
      ∙ ap (λ t. length (flat t)) (take_at (take s bs ++ take 128 b ∷ []) (drop 128 b ∷ drop (suc s) bs) (s + 1) (length-append (take s bs) (take 128 b ∷ []) ∙ ap (λ n. n + 1) length_there))
      ∙ ap length (flat-append (take s bs) (take 128 b ∷ []))
      ∙ length-append (flat (take s bs)) (take 128 b ++ [])
      ∙ ap (λ n. length (flat (take s bs)) + n) (length-append (take 128 b) [] ∙ ap (λ n. n + 0) long_front)

-- the sums tell how many runs there are
pub runs_are : (bs : List (List Run)) → runs_in (map sum_of bs) ≡ length (flat bs)
runs_are [] = refl
runs_are (b ∷ bs) =
    let a : runs_in (map sum_of (b ∷ bs)) ≡ length b + runs_in (map sum_of bs) = sum_by-cons (λ (s : Sum). s.runs) (sum_of b) (map sum_of bs) in
    let c = length-append b (flat bs) in omega (arith, a, c, runs_are bs)

pub runs_before : (bs : List (List Run)) (s : ℕ) → runs_in (take s (map sum_of bs)) ≡ before bs s
runs_before bs s = ap runs_in (take-map sum_of s bs) ∙ runs_are (take s bs)

pub undeleted_are : (bs : List (List Run)) → undeleted_by (map sum_of bs) ≡ undeleted_in (flat bs)
undeleted_are [] = refl
undeleted_are (b ∷ bs) =
    let a : undeleted_by (map sum_of (b ∷ bs)) ≡ undeleted_in b + undeleted_by (map sum_of bs) = sum_by-cons (λ (s : Sum). s.undeleted) (sum_of b) (map sum_of bs) in
    let c : undeleted_in (b ++ flat bs) ≡ undeleted_in b + undeleted_in (flat bs) = sum_by-append (λ (x : Run). undeleted_of x.newest x.len) b (flat bs) in
    omega (arith, a, c, undeleted_are bs)

pub undeleted_before : (bs : List (List Run)) (s : ℕ) → undeleted_by (take s (map sum_of bs)) ≡ undeleted_in (flat (take s bs))
undeleted_before bs s = ap undeleted_by (take-map sum_of s bs) ∙ undeleted_are (take s bs)

pub runs_within : (sums : List Sum) (i : ℕ) → runs_in (take i sums) ≤ runs_in sums
runs_within sums i = sum_by-take-le (λ (s : Sum). s.runs) sums i

pub take_all : {X : Type 0} (xs : List X) (n : ℕ) → length xs ≤ n → take n xs ≡ xs
take_all [] zero l = refl
take_all [] (suc n) l = refl
take_all (x ∷ xs) zero l = absurd (omega (arith, l))
take_all (x ∷ xs) (suc n) l = ap (λ t. x ∷ t) (take_all xs n (omega (arith, l)))

pub number_there : (bs : List (List Run)) (sums : List Sum) (s k i : ℕ) → sums ≡ map sum_of bs → runs_in (take s sums) + k ≡ i → before bs s + k ≡ i
number_there bs sums s k i e h = ap (λ n. n + k) (sym (ap (λ t. runs_in (take s t)) e ∙ runs_before bs s)) ∙ h

-- what is to be kept of a block that changed
pub sum_set : (b new : List Run) (k : ℕ) (old x : Run) (m : Sum) (out added : ℕ) → m ≡ sum_of b → slice_get b k ≡ Some old → new ≡ set b k x → out ≡ undeleted_of old.newest old.len → added ≡ undeleted_of x.newest x.len
    → record { runs = m.runs; undeleted = m.undeleted - out + added } ≡ sum_of new
sum_set b new k old x m out added is e f o a =
    let n : length new ≡ length b = ap length f ∙ length-set b k x in
    let r : m.runs ≡ length b = ap (λ (s : Sum). s.runs) is in
    let u : m.undeleted ≡ undeleted_in b = ap (λ (s : Sum). s.undeleted) is in
    let v : undeleted_in new ≡ undeleted_in (set b k x) = ap undeleted_in f in
    let w = undeleted_at_set b k old x e in
    let i = undeleted_item b k old e (slice_get_within b k old e) in
    same_sum (record { runs = m.runs; undeleted = m.undeleted - out + added }) (sum_of new) (r ∙ sym n) (omega (arith, u, v, w, o, a, i))

pub sum_insert : (b new : List Run) (k : ℕ) (x : Run) (m : Sum) (added : ℕ) → m ≡ sum_of b → k ≤ length b → new ≡ insert b k x → added ≡ undeleted_of x.newest x.len
    → record { runs = m.runs + 1; undeleted = m.undeleted + added } ≡ sum_of new
sum_insert b new k x m added is l f a =
    let n : length new ≡ length b + 1 = ap length f ∙ length-insert b k x l in
    let r : m.runs ≡ length b = ap (λ (s : Sum). s.runs) is in
    let u : m.undeleted ≡ undeleted_in b = ap (λ (s : Sum). s.undeleted) is in
    let v : undeleted_in new ≡ undeleted_in (insert b k x) = ap undeleted_in f in
    let w = undeleted_at_insert b k x in
    same_sum (record { runs = m.runs + 1; undeleted = m.undeleted + added }) (sum_of new) (omega (arith, r, n)) (omega (arith, u, v, w, a))

pub sum_remove : (b new : List Run) (k : ℕ) (old : Run) (m : Sum) (out : ℕ) → m ≡ sum_of b → slice_get b k ≡ Some old → new ≡ remove b k → out ≡ undeleted_of old.newest old.len
    → record { runs = m.runs - 1; undeleted = m.undeleted - out } ≡ sum_of new
sum_remove b new k old m out is e f o =
    let g = length-remove b k (slice_get_within b k old e) in
    let n : length new ≡ length (remove b k) = ap length f in
    let r : m.runs ≡ length b = ap (λ (s : Sum). s.runs) is in
    let u : m.undeleted ≡ undeleted_in b = ap (λ (s : Sum). s.undeleted) is in
    let v : undeleted_in new ≡ undeleted_in (remove b k) = ap undeleted_in f in
    let w = undeleted_at_remove b k old e in
    same_sum (record { runs = m.runs - 1; undeleted = m.undeleted - out }) (sum_of new) (omega (arith, r, n, g)) (omega (arith, u, v, w, o))

-- a run's share of what is kept of its block
pub out_within : (b : List Run) (k : ℕ) (old : Run) (m : Sum) (out : ℕ) → m ≡ sum_of b → slice_get b k ≡ Some old → out ≡ undeleted_of old.newest old.len → out ≤ m.undeleted
out_within b k old m out is e o =
    let u : m.undeleted ≡ undeleted_in b = ap (λ (s : Sum). s.undeleted) is in
    let i = undeleted_item b k old e (slice_get_within b k old e) in
    omega (arith, u, i, o)

pub get_set : {X : Type 0} (xs : List X) (i : ℕ) (x : X) → i < length xs → slice_get (set xs i x) i ≡ Some x
get_set xs i x l = slice_get-get_or (set xs i x) i x (let n = length-set xs i x in omega (arith, n, l)) ∙ ap Some (get_or-set_same xs i x x l)

pub added_within : (bs : List (List Run)) (s k : ℕ) (b : List Run) (old x : Run) (m : Sum) (out added : ℕ) → slice_get bs s ≡ Some b → m ≡ sum_of b → slice_get b k ≡ Some old
    → out ≡ undeleted_of old.newest old.len → added ≡ undeleted_of x.newest x.len → undeleted_in (set (flat bs) (before bs s + k) x) < 2 ^ 32 → m.undeleted - out + added < 2 ^ 32
added_within bs s k b old x m out added there is e o a few =
    let u : m.undeleted ≡ undeleted_in b = ap (λ (t : Sum). t.undeleted) is in
    let i = undeleted_item b k old e (slice_get_within b k old e) in
    let w = undeleted_at_set b k old x e in
    let p = undeleted_part (set bs s (set b k x)) s (set b k x) (get_set bs s (set b k x) (slice_get_within bs s b there)) in
    let f : undeleted_in (flat (set bs s (set b k x))) ≡ undeleted_in (set (flat bs) (before bs s + k) x) = ap undeleted_in (set_flat bs s k b x there (slice_get_within b k old e)) in
    omega (arith, u, i, w, p, f, o, a, few)

-- all runs before some block, and behind it
pub flat_two : (bs : List (List Run)) (s : ℕ) → flat bs ≡ flat (take s bs) ++ flat (drop s bs)
flat_two bs s = ap flat (sym (take-append-drop s bs)) ∙ flat-append (take s bs) (drop s bs)

pub before_within : (bs : List (List Run)) (s : ℕ) → before bs s ≤ length (flat bs)
before_within bs s =
    let e : length (flat bs) ≡ length (flat (take s bs)) + length (flat (drop s bs)) = ap length (flat_two bs s) ∙ length-append (flat (take s bs)) (flat (drop s bs)) in
    omega (arith, e)

pub behind_within : (bs : List (List Run)) (s : ℕ) → length (flat (drop s bs)) ≤ length (flat bs)
behind_within bs s =
    let e : length (flat bs) ≡ length (flat (take s bs)) + length (flat (drop s bs)) = ap length (flat_two bs s) ∙ length-append (flat (take s bs)) (flat (drop s bs)) in
    omega (arith, e)

pub all_front : (P : Run → Type 0) (bs : List (List Run)) (s : ℕ) → All P (flat bs) → All P (flat (take s bs))
all_front P bs s all =
    subst (All P) (take_at (flat (take s bs)) (flat (drop s bs)) (before bs s) refl)
    (All-take P (before bs s) (flat (take s bs) ++ flat (drop s bs)) (subst (All P) (flat_two bs s) all))

pub all_behind : (P : Run → Type 0) (bs : List (List Run)) (s : ℕ) → All P (flat bs) → All P (flat (drop s bs))
all_behind P bs s all =
    subst (All P) (drop_at (flat (take s bs)) (flat (drop s bs)) (before bs s) refl)
    (All-drop P (before bs s) (flat (take s bs) ++ flat (drop s bs)) (subst (All P) (flat_two bs s) all))

-- the blocks from one on are it and those behind it
pub flat_head : (bs : List (List Run)) (s : ℕ) (b : List Run) → slice_get bs s ≡ Some b → flat (drop s bs) ≡ b ++ flat (drop (s + 1) bs)
flat_head bs s b e = ap flat (drop_at_item bs s b e) ∙ ap (λ n. b ++ flat (drop n bs)) one
  where
    one : suc s ≡ s + 1
    one = omega arith

pub flat_more : (bs : List (List Run)) (s : ℕ) (b : List Run) → slice_get bs s ≡ Some b → flat (take (s + 1) bs) ≡ flat (take s bs) ++ b
flat_more bs s b e = ap flat (take_item bs s b e) ∙ flat-append (take s bs) (b ∷ []) ∙ ap (λ t. flat (take s bs) ++ t) (append-nil b)

pub all_block : (P : Run → Type 0) (bs : List (List Run)) (s : ℕ) (b : List Run) → slice_get bs s ≡ Some b → All P (flat bs) → All P b
all_block P bs s b e all =
    subst (All P) (take_at b (flat (drop (s + 1) bs)) (length b) refl)
    (All-take P (length b) (b ++ flat (drop (s + 1) bs)) (subst (All P) (flat_head bs s b e) (all_behind P bs s all)))

pub size_block : (bs : List (List Run)) (s : ℕ) (b : List Run) → slice_get bs s ≡ Some b → size_in b ≤ size_in (flat bs)
size_block bs s b e =
    let f = λ (x : Run). x.len in
    let p : size_in (flat bs) ≡ size_in (flat (take s bs) ++ (b ++ flat (drop (suc s) bs))) = ap size_in (flat_parts bs s b e) in
    let q : size_in (flat (take s bs) ++ (b ++ flat (drop (suc s) bs))) ≡ size_in (flat (take s bs)) + size_in (b ++ flat (drop (suc s) bs)) = sum_by-append f (flat (take s bs)) (b ++ flat (drop (suc s) bs)) in
    let r : size_in (b ++ flat (drop (suc s) bs)) ≡ size_in b + size_in (flat (drop (suc s) bs)) = sum_by-append f b (flat (drop (suc s) bs)) in
    omega (arith, p, q, r)

pub count_sums : (bs : List (List Run)) (sums : List Sum) → sums ≡ map sum_of bs → runs_in sums ≡ length (flat bs)
count_sums bs sums e = ap runs_in e ∙ runs_are bs

-- the block at hand in a walk over blocks
pub at_hand : (bs : List (List Run)) (i : ℕ) (b : List Run) → i < length bs → b ≡ get_or bs i b → slice_get bs i ≡ Some b
at_hand bs i b l is = slice_get-get_or bs i b l ∙ ap Some (sym is)

-- the halves of a block
pub front_below : (b : List Run) → undeleted_in (take 128 b) ≤ undeleted_in b
front_below b = sum_by-take-le (λ (x : Run). undeleted_of x.newest x.len) b 128

pub rest_below : (b : List Run) → undeleted_in (drop 128 b) ≤ undeleted_in b
rest_below b =
    let a : undeleted_in (take 128 b ++ drop 128 b) ≡ undeleted_in (take 128 b) + undeleted_in (drop 128 b) = sum_by-append (λ (x : Run). undeleted_of x.newest x.len) (take 128 b) (drop 128 b) in
    let e : undeleted_in (take 128 b ++ drop 128 b) ≡ undeleted_in b = ap undeleted_in (take-append-drop 128 b) in
    omega (arith, a, e)

-- what a cut block leaves
pub record IsCut (bs new : List (List Run)) (s : ℕ) : Type 0 where
  pub same : flat new ≡ flat bs
  pub small : All IsFilled bs → All IsFilled new
  pub weight_is : weight new + 128 ≡ weight bs
  pub first : (b : List Run) × (slice_get new s ≡ Some b) × (length b ≡ 128)
  pub second : (b : List Run) × (slice_get new (s + 1) ≡ Some b) × (length b ≡ 128)
  pub before_first : before new s ≡ before bs s
  pub before_second : before new (s + 1) ≡ before bs s + 128

pub cut_is : (bs new : List (List Run)) (s : ℕ) → IsSomeAnd (slice_get bs s) (λ (b : List Run). length b ≡ 256)
    → IsSomeAnd (slice_get bs s) (λ (b : List Run). new ≡ insert (set bs s (take 128 b)) (s + 1) (drop 128 b)) → IsCut bs new s
cut_is bs new s full list =
    let h = some_item (λ (b : List Run). length b ≡ 256) (slice_get bs s) full in
    let b = h.0 in
    let e : new ≡ insert (set bs s (take 128 b)) (s + 1) (drop 128 b) = from_some_and (λ (t : List Run). new ≡ insert (set bs s (take 128 t)) (s + 1) (drop 128 t)) (slice_get bs s) b h.1 list in
    record {
      same = ap flat e ∙ cut_flat bs s b h.1 h.2;
      small = λ all. subst (All IsFilled) (sym e) (cut_small bs s b h.1 h.2 all);
      weight_is = ap (λ t. weight t + 128) e ∙ cut_weight bs s b h.1 h.2;
      first = (take 128 b, ap (λ t. slice_get t s) e ∙ cut_first bs s b h.1 h.2, long_front bs s b h.1 h.2);
      second = (drop 128 b, ap (λ t. slice_get t (s + 1)) e ∙ cut_second bs s b h.1 h.2, long_rest bs s b h.1 h.2);
      before_first = ap (λ t. before t s) e ∙ cut_before bs s b h.1 h.2;
      before_second = ap (λ t. before t (s + 1)) e ∙ cut_behind bs s b h.1 h.2;
    }

pub spot_below : (bs : List (List Run)) (s k n : ℕ) → IsSomeAnd (slice_get bs s) (λ (b : List Run). k ≤ length b) → IsSomeAnd (slice_get bs s) (λ (b : List Run). length b ≡ n) → k ≤ n
spot_below bs s k n there long =
    let h = some_item (λ (b : List Run). k ≤ length b) (slice_get bs s) there in
    let e = from_some_and (λ (b : List Run). length b ≡ n) (slice_get bs s) h.0 h.1 long in
    omega (arith, h.2, e)

pub spot_within : (bs : List (List Run)) (s : ℕ) (P : List Run → Type 0) → IsSomeAnd (slice_get bs s) P → s < length bs
spot_within bs s P there = let h = some_item P (slice_get bs s) there in slice_get_within bs s h.0 h.1

pub sums_long : (bs : List (List Run)) (sums : List Sum) → sums ≡ map sum_of bs → length sums ≡ length bs
sums_long bs sums e = ap length e ∙ length-map bs sum_of
