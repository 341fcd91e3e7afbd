-- The rows that parts of a judgement try, one part after the other, and what a request means by them.
use Rattle.std.proofs.Common.{◌≡◌, ◌≢◌, ℕ, Bool, true, false, List, [], ◌∷◌, ◌++◌, length, Option, Some, None, Result, Ok, Err, cond, IfOk, IfErr, ◌⊎◌, inl, inr, refl, ap, sym, subst, ◌∙◌, arith}
use Rattle.braid_ids.specs.Frontiers.{rising_ids}
use Rattle.braid_ids.proofs.Members.{Member}
use Rattle.braid_ids.proofs.Inserted.{member_rising}
use Rattle.braid_fields.specs.declared.reason.Reason.{Reason}
use Rattle.braid_fields.specs.declared.reason.Reason.TheVariants as reasons
use Rattle.braid_fields.specs.Table.{is_no_list, has_bad_id, members_of, first_row}
use Rattle.braid_fields.specs.Rows.{list_rows}
use Rattle.braid_http.specs.declared.request.Request.{Request}
use Rattle.braid_session.specs.declared.serving.Serving.{Serving}
use Rattle.braid_session.specs.declared.denial.Denial.{Denial}
use Rattle.braid_session.specs.declared.denial.Denial.TheVariants as denials
use Rattle.braid_session.specs.declared.wish.Wish.{Wish}
use Rattle.braid_session.specs.declared.wish.Wish.TheVariants.{Read, Watch}
use Rattle.braid_session.specs.declared.wish.NoWish.{NoWish}
use Rattle.braid_session.specs.declared.wish.NoWish.TheVariants as no
use Rattle.braid_session.specs.Orders.{Row, first_denial, rows_of_any, rows_of_form, rows_of_list, rows_of_get, list_in_use, is_get, is_subscription, denial_of}
use Rattle.braid_session.specs.Wishes.{Means, wanted, by_head, get, put, no_put, wish_of_get, version_asked}
use Rattle.braid_session.specs.Judging.{IsNoWish, Judges, Lists, WantsGet, WantsPut}

-- rows behind rows of which none passes: the later ones count
pub denial_after : (a b : List Row) → first_denial a ≡ None → first_denial (a ++ b) ≡ first_denial b
denial_after [] b e = refl
denial_after (row ∷ a) b e = go row.0 e (denial_after a b) where
  go : (passed : Bool) → cond passed (Some row.1) (first_denial a) ≡ None → (first_denial a ≡ None → first_denial (a ++ b) ≡ first_denial b)
      → cond passed (Some row.1) (first_denial (a ++ b)) ≡ first_denial b
  go true f k = absurd cc
  go false f k = k f

-- rows behind rows of which one passes: that one counts
pub denial_before : (a b : List Row) (d : Denial) → first_denial a ≡ Some d → first_denial (a ++ b) ≡ Some d
denial_before [] b d e = absurd cc
denial_before (row ∷ a) b d e = go row.0 e (denial_before a b d) where
  go : (passed : Bool) → cond passed (Some row.1) (first_denial a) ≡ Some d → (first_denial a ≡ Some d → first_denial (a ++ b) ≡ Some d)
      → cond passed (Some row.1) (first_denial (a ++ b)) ≡ Some d
  go true f k = f
  go false f k = k f

-- what the rows on every request and those on the form of a GET say of the head
abbrev pub Passes : Serving → Request → Type 0
Passes s q = first_denial (rows_of_any s q) ≡ None

abbrev pub HasForm : Serving → Request → Type 0
HasForm s q = first_denial (rows_of_form s q) ≡ None

-- the rows behind those on every request
abbrev pub later_rows : Serving → Request → Bool → List Row
later_rows s q got = cond got (rows_of_get s q) []

pub denial_of_get : (s : Serving) (q : Request) → Passes s q → is_get q ≡ true → HasForm s q → denial_of s q ≡ first_denial (rows_of_list (list_in_use q))
denial_of_get s q a g f =
    denial_after (rows_of_any s q) (later_rows s q (is_get q)) a
    ∙ ap (λ (b : Bool). first_denial (later_rows s q b)) g
    ∙ denial_after (rows_of_form s q) (rows_of_list (list_in_use q)) f

pub denial_of_form : (s : Serving) (q : Request) (d : Denial) → Passes s q → is_get q ≡ true → first_denial (rows_of_form s q) ≡ Some d → denial_of s q ≡ Some d
denial_of_form s q d a g f =
    denial_after (rows_of_any s q) (later_rows s q (is_get q)) a
    ∙ ap (λ (b : Bool). first_denial (later_rows s q b)) g
    ∙ denial_before (rows_of_form s q) (rows_of_list (list_in_use q)) d f

pub denial_of_other : (s : Serving) (q : Request) → Passes s q → is_get q ≡ false → denial_of s q ≡ None
denial_of_other s q a g =
    denial_after (rows_of_any s q) (later_rows s q (is_get q)) a ∙ ap (λ (b : Bool). first_denial (later_rows s q b)) g

-- a fault that is handed on says the same
pub denied_if : {X : Type 0} (s : Serving) (q : Request) (r : Result X NoWish) (e fault : NoWish) → r ≡ Err e → e ≡ fault → IsNoWish s q fault → IfErr r (λ f. IsNoWish s q f)
denied_if {X = X} s q r e fault h k p = subst (λ (x : Result X NoWish). IfErr x (λ f. IsNoWish s q f)) (sym h) (subst (λ (f : NoWish). IsNoWish s q f) (sym k) p)

-- what a request means, by what the parts of its judgement gave

pub denied_any : (s : Serving) (q : Request) (fault : NoWish) → Judges (Err fault) (rows_of_any s q) → IsNoWish s q fault
denied_any s q (no.Denied d) e = by_head d (denial_before (rows_of_any s q) (later_rows s q (is_get q)) d e)
denied_any s q no.Memory e = tt

pub denied_form : (s : Serving) (q : Request) (fault : NoWish) → Passes s q → is_get q ≡ true → Judges (Err fault) (rows_of_form s q) → IsNoWish s q fault
denied_form s q (no.Denied d) a g e = by_head d (denial_of_form s q d a g e)
denied_form s q no.Memory a g e = tt

pub get_wanted : (s : Serving) (q : Request) (result : Result Wish NoWish) → Passes s q → is_get q ≡ true → HasForm s q → WantsGet result q → IfOk result (λ wish. Means s q (wanted wish))
get_wanted s q (Ok wish) a g f w = subst (λ (x : Wish). Means s q (wanted x)) (sym w.1) (get (denial_of_get s q a g f ∙ w.0) g)
get_wanted s q (Err fault) a g f w = tt

pub get_denied : (s : Serving) (q : Request) (result : Result Wish NoWish) → Passes s q → is_get q ≡ true → HasForm s q → WantsGet result q → IfErr result (λ fault. IsNoWish s q fault)
get_denied s q (Ok wish) a g f w = tt
get_denied s q (Err (no.Denied d)) a g f w = by_head d (denial_of_get s q a g f ∙ w)
get_denied s q (Err no.Memory) a g f w = tt

pub put_wanted : (s : Serving) (q : Request) (result : Result Wish NoWish) → Passes s q → is_get q ≡ false → WantsPut result q → IfOk result (λ wish. Means s q (wanted wish))
put_wanted s q (Ok wish) a g w = subst (λ (x : Wish). Means s q (wanted x)) (sym w.2) (put w.0 (denial_of_other s q a g) g w.1)
put_wanted s q (Err fault) a g w = tt

pub put_denied : (s : Serving) (q : Request) (result : Result Wish NoWish) → Passes s q → is_get q ≡ false → WantsPut result q → IfErr result (λ fault. IsNoWish s q fault)
put_denied s q (Ok wish) a g w = tt
put_denied s q (Err (no.Denied d)) a g w = no_put w.0 d (denial_of_other s q a g) g w.1 w.2
put_denied s q (Err no.Memory) a g w = tt

-- the list that a GET uses

-- what the two rows on a list say, by their tests
list_passes : (none bad : Bool) (ids found : List (List ℕ)) → cond none (Err reasons.BadList) (cond bad (Err reasons.BadId) (Ok ids)) ≡ Ok found
    → (cond none (Some denials.BadList) (cond bad (Some denials.BadId) None) ≡ None) × (found ≡ ids)
list_passes true bad ids found e = absurd cc
list_passes false true ids found e = absurd cc
list_passes false false ids found e = (refl, cc)

list_fails : (none bad : Bool) (ids : List (List ℕ)) (reason : Reason) (d : Denial) → (reason ≡ reasons.BadList → d ≡ denials.BadList) → (reason ≢ reasons.BadList → d ≡ denials.BadId)
    → cond none (Err reasons.BadList) (cond bad (Err reasons.BadId) (Ok ids)) ≡ Err reason
    → cond none (Some denials.BadList) (cond bad (Some denials.BadId) None) ≡ Some d
list_fails true bad ids reason d l i e = let same : reason ≡ reasons.BadList = cc in ap (λ (x : Denial). Some x) (sym (l same))
list_fails false true ids reason d l i e = let same : reason ≡ reasons.BadId = cc in ap (λ (x : Denial). Some x) (sym (i (λ other. absurd cc)))
list_fails false false ids reason d l i e = absurd cc

pub listed : (values ids : List (List ℕ)) → first_row (list_rows values) (rising_ids (members_of values)) ≡ Ok ids → Lists (Ok ids) values
listed values ids e = list_passes (is_no_list values) (has_bad_id (members_of values)) (rising_ids (members_of values)) ids e

pub unlisted : (values : List (List ℕ)) (reason : Reason) (d : Denial) → (reason ≡ reasons.BadList → d ≡ denials.BadList) → (reason ≢ reasons.BadList → d ≡ denials.BadId)
    → first_row (list_rows values) (rising_ids (members_of values)) ≡ Err reason → Lists (Err (no.Denied d)) values
unlisted values reason d l i e = list_fails (is_no_list values) (has_bad_id (members_of values)) (rising_ids (members_of values)) reason d l i e

-- what a GET wants

wish_if : (watched : Bool) (a b : Wish) (at : Bool) → watched ≡ at → cond watched a b ≡ cond at a b
wish_if watched a b at e = ap (λ (x : Bool). cond x a b) e

reads : (q : Request) (at : Option (List (List ℕ))) → is_subscription q ≡ false → at ≡ version_asked (members_of (list_in_use q)) → Read at ≡ wish_of_get q
reads q at s e = ap (λ (x : Option (List (List ℕ))). Read x) e ∙ sym (wish_if (is_subscription q) (Watch (rising_ids (members_of (list_in_use q)))) (Read (version_asked (members_of (list_in_use q)))) false s)

-- identifiers in rising order are none exactly where there are none
some_rise : (id : List ℕ) (ids : List (List ℕ)) → rising_ids (id ∷ ids) ≢ []
some_rise id ids e = subst (Member id) e (member_rising id (id ∷ ids) (inl refl))

none_asked : (members ids : List (List ℕ)) → ids ≡ rising_ids members → length ids ≡ 0 → version_asked members ≡ None
none_asked [] ids e n = refl
none_asked (id ∷ more) [] e n = absurd (some_rise id more (sym e))
none_asked (id ∷ more) (v ∷ ids) e n = absurd (omega arith)

some_asked : (members ids : List (List ℕ)) → ids ≡ rising_ids members → length ids ≢ 0 → version_asked members ≡ Some ids
some_asked [] ids e n = absurd (n (ap length e))
some_asked (id ∷ more) ids e n = ap (λ (x : List (List ℕ)). Some x) (sym e)

-- the version asked for: none where there are no identifiers, else the set of them
pub reads_at : (q : Request) (ids : List (List ℕ)) (at : Option (List (List ℕ))) → is_subscription q ≡ false → ids ≡ rising_ids (members_of (list_in_use q))
    → ((at ≡ None) × (length ids ≡ 0)) ⊎ ((at ≡ Some ids) × (length ids ≢ 0)) → Read at ≡ wish_of_get q
reads_at q ids at s e (inl n) = reads q at s (n.0 ∙ sym (none_asked (members_of (list_in_use q)) ids e n.1))
reads_at q ids at s e (inr n) = reads q at s (n.0 ∙ sym (some_asked (members_of (list_in_use q)) ids e n.1))
