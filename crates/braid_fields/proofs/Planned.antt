-- Rows that are tried one after the other, and what an answer says of them.
use Rattle.std.proofs.Common.{◌≡◌, ℕ, zero, suc, ◌+◌, ◌<◌, ◌≤◌, ◌||◌, ◌↔◌, Contains, Bool, true, false, cond, Result, Ok, Err, IfErr, List, [], ◌∷◌, ◌++◌, length, take, get_or, refl, sym, ap, ◌∙◌, subst, arith, nat_lt}
use Rattle.std.proofs.lemmas.List.{nil_from_length, take_more}
use Rattle.std.proofs.lemmas.Bool.{lt-ltb, le-ltb}
use Rattle.braid_ids.specs.Frontiers.{IsRising, rising_ids}
use Rattle.braid_ids.proofs.Inserted.{frontier_is}
use Rattle.braid_fields.specs.declared.reason.Reason.{Reason}
use Rattle.braid_fields.specs.declared.reason.Reason.TheVariants as reasons
use Rattle.braid_fields.specs.declared.plan.PlanFault.{PlanFault}
use Rattle.braid_fields.specs.declared.plan.PlanFault.TheVariants as faults
use Rattle.braid_fields.specs.Table.{Row, first_row, first_of, is_bad_id, has_bad_id, Plans}
use Rattle.braid_fields.specs.Rows.{one_id_rows, id_rows, version_rows, parent_rows, Refuses}
use Rattle.braid_fields.proofs.StatusReading.{or_right}

-- rows before others: the others count where none of these does
pub rows_then : {A B : Type 0} (rows others : List Row) (x : A) (y z : B) → first_row rows y ≡ Ok z → first_row (rows ++ others) x ≡ first_row others x
rows_then [] others x y z e = refl
rows_then (row ∷ rows) others x y z e = go row.0 e (rows_then rows others x y z)
  where
    go : (t : Bool) → cond t (Err row.1) (first_row rows y) ≡ Ok z → (first_row rows y ≡ Ok z → first_row (rows ++ others) x ≡ first_row others x)
        → cond t (Err row.1) (first_row (rows ++ others) x) ≡ first_row others x
    go true f later = absurd cc
    go false f later = later f

-- and where one of these does, it counts
pub rows_stop : {A B : Type 0} (rows others : List Row) (x : A) (y : B) (r : Reason) → first_row rows y ≡ Err r → first_row (rows ++ others) x ≡ Err r
rows_stop [] others x y r e = absurd cc
rows_stop (row ∷ rows) others x y r e = go row.0 e (rows_stop rows others x y r)
  where
    go : (t : Bool) → cond t (Err row.1) (first_row rows y) ≡ Err r → (first_row rows y ≡ Err r → first_row (rows ++ others) x ≡ Err r)
        → cond t (Err row.1) (first_row (rows ++ others) x) ≡ Err r
    go true f later = let same : row.1 ≡ r = cc in ap (λ (x : Reason). Err x) same
    go false f later = later f

-- rows that stop at a reason do so whatever the answer would be
pub rows_fault : {A B : Type 0} (rows : List Row) (x : A) (y : B) (r : Reason) → first_row rows y ≡ Err r → first_row rows x ≡ Err r
rows_fault [] x y r e = absurd cc
rows_fault (row ∷ rows) x y r e = go row.0 e (rows_fault rows x y r)
  where
    go : (t : Bool) → cond t (Err row.1) (first_row rows y) ≡ Err r → (first_row rows y ≡ Err r → first_row rows x ≡ Err r) → cond t (Err row.1) (first_row rows x) ≡ Err r
    go true f later = let same : row.1 ≡ r = cc in ap (λ (x : Reason). Err x) same
    go false f later = later f

-- rows of which none counts, whatever the answer is
pub rows_pass : {A B : Type 0} (rows : List Row) (x : A) (y z : B) → first_row rows y ≡ Ok z → first_row rows x ≡ Ok x
rows_pass [] x y z e = refl
rows_pass (row ∷ rows) x y z e = go row.0 e (rows_pass rows x y z)
  where
    go : (t : Bool) → cond t (Err row.1) (first_row rows y) ≡ Ok z → (first_row rows y ≡ Ok z → first_row rows x ≡ Ok x) → cond t (Err row.1) (first_row rows x) ≡ Ok x
    go true f later = absurd cc
    go false f later = later f

-- the answer is the one that was given
pub rows_same : {B : Type 0} (rows : List Row) (y z : B) → first_row rows y ≡ Ok z → y ≡ z
rows_same [] y z e = cc
rows_same (row ∷ rows) y z e = go row.0 e (rows_same rows y z)
  where
    go : (t : Bool) → cond t (Err row.1) (first_row rows y) ≡ Ok z → (first_row rows y ≡ Ok z → y ≡ z) → y ≡ z
    go true f later = absurd cc
    go false f later = later f

-- a fault of rows is the fault of those that begin with them, and of those that end with them behind rows of which none counts

pub fault_first : {A B : Type 0} (rows others : List Row) (x : A) (y : B) (fault : PlanFault) → Plans {A = B} (Err fault) (first_row rows y) → Plans {A = A} (Err fault) (first_row (rows ++ others) x)
fault_first rows others x y faults.Memory p = tt
fault_first rows others x y (faults.Reason r) p = rows_stop rows others x y r p

pub fault_last : {A B C : Type 0} (rows others : List Row) (x : A) (y z : B) (w : C) (fault : PlanFault) → first_row rows y ≡ Ok z → Plans {A = C} (Err fault) (first_row others w) → Plans {A = A} (Err fault) (first_row (rows ++ others) x)
fault_last rows others x y z w faults.Memory e p = tt
fault_last rows others x y z w (faults.Reason r) e p = rows_then rows others x y z e ∙ rows_fault others x w r p

pub no_or : (t : Bool) → (t || false) ≡ t
no_or true = refl
no_or false = refl

one_item : {A : Type 0} (xs : List A) (x : A) → 1 ≤ length xs → length xs < 2 → x ≡ get_or xs 0 x → xs ≡ x ∷ []
one_item [] x l m e = absurd (omega arith)
one_item (y ∷ ys) x l m e =
    let none : ys ≡ [] = nil_from_length ys (omega arith) in
    let first : x ≡ y = e in
    λ i. sym first i ∷ none i

one_bad : (string : List ℕ) → has_bad_id (string ∷ []) ≡ is_bad_id string
unfolding has_bad_id
one_bad string = no_or (is_bad_id string)

pub one_version : (strings : List (List ℕ)) (string item : List ℕ) (r : Result (List ℕ) PlanFault) → 1 ≤ length strings → length strings < 2 → item ≡ get_or strings 0 item → string ≡ item
    → Plans r (first_row (one_id_rows string) string) → Plans r (first_row (version_rows strings) (first_of strings))
one_version strings string item r l m e f p =
    let whole : strings ≡ string ∷ [] = subst (λ x. strings ≡ x ∷ []) (sym f) (one_item strings item l m e) in
    let row : first_row (one_id_rows string) string ≡ first_row (version_rows (string ∷ [])) string = ap (λ (t : Bool). cond t (Err reasons.BadId) (Ok string)) (sym (one_bad string)) in
    subst (λ (j : Result (List ℕ) Reason). Plans r j) (row ∙ ap (λ (x : List (List ℕ)). first_row (version_rows x) (first_of x)) (sym whole)) p

-- identifiers

pub none_bad : has_bad_id [] ≡ false
unfolding has_bad_id
none_bad = refl

pub more_bad : (front : List (List ℕ)) (string : List ℕ) → has_bad_id front ≡ false → is_bad_id string ≡ false → has_bad_id (front ++ string ∷ []) ≡ false
unfolding has_bad_id
more_bad [] string e f = ap (λ (t : Bool). t || false) f
more_bad (first ∷ front) string e f = go (is_bad_id first) e (more_bad front string)
  where
    go : (t : Bool) → (t || has_bad_id front) ≡ false → (has_bad_id front ≡ false → is_bad_id string ≡ false → has_bad_id (front ++ string ∷ []) ≡ false) → (t || has_bad_id (front ++ string ∷ [])) ≡ false
    go true e later = absurd cc
    go false e later = later e f

pub bad_at : (strings : List (List ℕ)) (n : ℕ) (d : List ℕ) → n < length strings → is_bad_id (get_or strings n d) ≡ true → has_bad_id strings ≡ true
unfolding has_bad_id
bad_at [] n d l e = absurd (omega arith)
bad_at (first ∷ strings) zero d l e = ap (λ (t : Bool). t || has_bad_id strings) e
bad_at (first ∷ strings) (suc n) d l e = or_right (is_bad_id first) (has_bad_id strings) (bad_at strings n d (omega arith) e)

one_ok : (string id : List ℕ) → first_row (one_id_rows string) string ≡ Ok id → (is_bad_id string ≡ false) × (string ≡ id)
one_ok string id e = go (is_bad_id string) e
  where
    go : (t : Bool) → cond t (Err reasons.BadId) (Ok string) ≡ Ok id → (t ≡ false) × (string ≡ id)
    go true e = absurd cc
    go false e = (refl, cc)

one_err : (string : List ℕ) (r : Reason) → first_row (one_id_rows string) string ≡ Err r → (is_bad_id string ≡ true) × (reasons.BadId ≡ r)
one_err string r e = go (is_bad_id string) e
  where
    go : (t : Bool) → cond t (Err reasons.BadId) (Ok string) ≡ Err r → (t ≡ true) × (reasons.BadId ≡ r)
    go true e = (refl, cc)
    go false e = absurd cc

-- one string more that is an identifier
pub ids_more : (strings ids more : List (List ℕ)) (n : ℕ) (string id d : List ℕ) → n < length strings → string ≡ get_or strings n d → first_row (one_id_rows string) string ≡ Ok id
    → (ids ≡ take n strings) × (has_bad_id (take n strings) ≡ false) → more ≡ ids ++ id ∷ [] → (more ≡ take (n + 1) strings) × (has_bad_id (take (n + 1) strings) ≡ false)
ids_more strings ids more n string id d l e p h m =
    let k = one_ok string id p in
    let taken : take (n + 1) strings ≡ take n strings ++ get_or strings n d ∷ [] = take_more strings n d l in
    let item : get_or strings n d ≡ id = sym e ∙ k.1 in
    let good : is_bad_id (get_or strings n d) ≡ false = ap is_bad_id (sym e) ∙ k.0 in
    (m ∙ ap (λ (x : List (List ℕ)). x ++ id ∷ []) h.0 ∙ ap (λ (x : List ℕ). take n strings ++ x ∷ []) (sym item) ∙ sym taken, ap has_bad_id taken ∙ more_bad (take n strings) (get_or strings n d) h.1 good)

abbrev ids_judged : Bool → List (List ℕ) → Result (List (List ℕ)) Reason
ids_judged bad strings = cond bad (Err reasons.BadId) (Ok strings)

-- a string that is no identifier
pub ids_fault : (strings : List (List ℕ)) (n : ℕ) (string d : List ℕ) (fault : PlanFault) → n < length strings → string ≡ get_or strings n d
    → Plans {A = List ℕ} (Err fault) (first_row (one_id_rows string) string) → Refuses fault (first_row (id_rows strings) strings)
ids_fault strings n string d faults.Memory l e p = tt
ids_fault strings n string d (faults.Reason r) l e p =
    let k = one_err string r p in
    let bad : has_bad_id strings ≡ true = bad_at strings n d l (ap is_bad_id (sym e) ∙ k.0) in
    ap (λ (t : Bool). ids_judged t strings) bad ∙ ap (λ (x : Reason). Err x) k.1

-- parents

ids_ok : (strings ids : List (List ℕ)) → first_row (id_rows strings) strings ≡ Ok ids → (has_bad_id strings ≡ false) × (strings ≡ ids)
ids_ok strings ids e = go (has_bad_id strings) e
  where
    go : (t : Bool) → cond t (Err reasons.BadId) (Ok strings) ≡ Ok ids → (t ≡ false) × (strings ≡ ids)
    go true e = absurd cc
    go false e = (refl, cc)

-- the set of the strings, and how many there are
pub set_is : (strings ids : List (List ℕ)) (F : List (List ℕ)) → first_row (id_rows strings) strings ≡ Ok ids → IsRising F → ((id : List ℕ) → Contains F id ↔ Contains ids id)
    → (has_bad_id strings ≡ false) × (F ≡ rising_ids strings)
set_is strings ids F e r s =
    let k = ids_ok strings ids e in
    (k.0, frontier_is F ids r s ∙ ap rising_ids (sym k.1))

abbrev set_judged : Bool → List (List ℕ) → Result (List (List ℕ)) Reason
set_judged bad F = cond bad (Err reasons.BadId) (Ok F)

-- the set of strings, none of which is at fault, is the plan of the rows on them, and such a plan is the set
pub set_planned : (strings F : List (List ℕ)) → (has_bad_id strings ≡ false) × (F ≡ rising_ids strings) → first_row (id_rows strings) (rising_ids strings) ≡ Ok F
set_planned strings F h = ap (λ (t : Bool). set_judged t (rising_ids strings)) h.0 ∙ ap (λ (x : List (List ℕ)). Ok x) (sym h.1)

pub set_read : (strings F : List (List ℕ)) → first_row (id_rows strings) (rising_ids strings) ≡ Ok F → (has_bad_id strings ≡ false) × (F ≡ rising_ids strings)
set_read strings F e = go (has_bad_id strings) e
  where
    go : (bad : Bool) → set_judged bad (rising_ids strings) ≡ Ok F → (bad ≡ false) × (F ≡ rising_ids strings)
    go true f = absurd cc
    go false f = (refl, (let same : rising_ids strings ≡ F = cc in sym same))

pub parents_fault : (strings : List (List ℕ)) (fault : PlanFault) → Plans {A = List (List ℕ)} (Err fault) (first_row (id_rows strings) (rising_ids strings)) → Plans {A = List (List ℕ)} (Err fault) (first_row (parent_rows strings) (rising_ids strings))
parents_fault strings faults.Memory h = tt
parents_fault strings (faults.Reason r) h = rows_stop (id_rows strings) ((nat_lt 32 (length (rising_ids strings)), reasons.TooManyParents) ∷ []) (rising_ids strings) (rising_ids strings) r h

abbrev parents_judged : Bool → Bool → List (List ℕ) → Result (List (List ℕ)) Reason
parents_judged bad many F = cond bad (Err reasons.BadId) (cond many (Err reasons.TooManyParents) (Ok F))

pub few_parents : (strings F : List (List ℕ)) → (has_bad_id strings ≡ false) × (F ≡ rising_ids strings) → length F ≤ 32 → first_row (parent_rows strings) (rising_ids strings) ≡ Ok F
few_parents strings F h l =
    let few : nat_lt 32 (length (rising_ids strings)) ≡ false = ap (λ (x : List (List ℕ)). nat_lt 32 (length x)) (sym h.1) ∙ le-ltb 32 (length F) l in
    ap (λ (t : Bool). parents_judged t (nat_lt 32 (length (rising_ids strings))) (rising_ids strings)) h.0 ∙ ap (λ (t : Bool). parents_judged false t (rising_ids strings)) few ∙ ap (λ (x : List (List ℕ)). Ok x) (sym h.1)

pub many_parents : (strings F : List (List ℕ)) → (has_bad_id strings ≡ false) × (F ≡ rising_ids strings) → 32 < length F → first_row (parent_rows strings) (rising_ids strings) ≡ Err reasons.TooManyParents
many_parents strings F h l =
    let many : nat_lt 32 (length (rising_ids strings)) ≡ true = ap (λ (x : List (List ℕ)). nat_lt 32 (length x)) (sym h.1) ∙ lt-ltb 32 (length F) l in
    ap (λ (t : Bool). parents_judged t (nat_lt 32 (length (rising_ids strings))) (rising_ids strings)) h.0 ∙ ap (λ (t : Bool). parents_judged false t (rising_ids strings)) many

-- what a `?` passes on

pub passed : {A : Type 0} (judged : Result A Reason) (r : Result A PlanFault) (e fault : PlanFault) → r ≡ Err e → e ≡ fault → Plans {A = A} (Err fault) judged → Plans r judged
passed judged r e fault h k p = subst (λ (x : Result _ PlanFault). Plans x judged) (sym h) (subst (λ (f : PlanFault). Plans (Err f) judged) (sym k) p)

pub refused : {A : Type 0} (judged : Result A Reason) (e fault : PlanFault) → e ≡ fault → Refuses fault judged → Refuses e judged
refused judged e fault k p = subst (λ (f : PlanFault). Refuses f judged) (sym k) p

pub refused_if : {X A : Type 0} (judged : Result A Reason) (r : Result X PlanFault) (e fault : PlanFault) → r ≡ Err e → e ≡ fault → Refuses fault judged → IfErr r (λ f. Refuses f judged)
refused_if {X = X} judged r e fault h k p = subst (λ (x : Result X PlanFault). IfErr x (λ f. Refuses f judged)) (sym h) (refused judged e fault k p)
