-- Parameters: what is read is what stands there, and what stands there is read.
use Rattle.std.proofs.Common.{◌≡◌, ℕ, zero, suc, ◌<◌, ◌≤◌, Bool, true, false, cond, List, [], ◌∷◌, ◌++◌, length, refl, sym, ap, ◌∙◌, subst, eqb, arith, length-append}
use Rattle.std.specs.List.{fold}
use Rattle.std.proofs.lemmas.Bool.{eqb-true}
use Rattle.braid_shelf.specs.declared.fault.ShelfKind.{ShelfKind}
use Rattle.braid_shelf.specs.declared.fault.ShelfKind.TheVariants.{BadKey}
use Rattle.braid_shelf.specs.declared.fault.Stop.{Stop}
use Rattle.braid_shelf.specs.declared.fault.Stop.TheVariants as stops
use Rattle.braid_shelf.specs.declared.item.Item.{Item}
use Rattle.braid_shelf.specs.declared.item.Item.TheVariants as items
use Rattle.braid_shelf.specs.declared.param.Param.{Param}
use Rattle.braid_shelf.specs.ByteClasses.{Are, begins, is_space, begins_key, is_in_key}
use Rattle.braid_shelf.specs.Lists.{IsKey, put}
use Rattle.braid_shelf.specs.Faults.{IsItemFault, TakesItem, TakesValue, left_out, given, TakesParam, TakesParams, IsParamFault, no_key, no_value, IsParamsFault}
use Rattle.braid_shelf.specs.Reading.{Outcome, Read, Bad, Stops, then_read, while_read, front_of, after, item_at, key_at, value_at, param_at, begins_param, param_step, params_at}
use Rattle.braid_shelf.proofs.Passing.{front_passes, after_stops, front_after, front_is, after_is}
use Rattle.braid_shelf.proofs.Apart.{key_goes_on, word_goes_on, word_begins, front_word, no_space_key}
use Rattle.braid_shelf.proofs.Loops.{Shrinks, steps_on, steps_badly, stops_there}
use Rattle.braid_shelf.proofs.Items.{IsItemRead, item_read, item_only, item_fault_only}

-- what reading a parameter gives is what stands behind its semicolon
abbrev pub IsParamRead : List ℕ → Outcome Param → Type 0
IsParamRead bytes (Read param rest) = TakesParam param bytes rest
IsParamRead bytes (Bad left kind) = IsParamFault bytes left kind

value_read : (bytes spaces key after_key : List ℕ) → Are is_space spaces → IsKey key → begins is_in_key after_key ≡ false → bytes ≡ spaces ++ (key ++ after_key) → IsParamRead bytes (value_at key after_key)
unfolding value_at
value_read bytes spaces key [] h k n e = record { spaces = spaces; value_bytes = []; are_spaces = h; key = k; key_ends = n; value = left_out [] refl; cut = e }
value_read bytes spaces key (b ∷ more) h k n e = go (eqb b 61) refl
  where
    item : eqb b 61 ≡ true → (outcome : Outcome Item) → IsItemRead more outcome → IsParamRead bytes (then_read outcome (λ value rest. Read (record { key = key; value = value }) rest))
    item x (Read value rest) t = record {
      spaces = spaces;
      value_bytes = b ∷ more;
      are_spaces = h;
      key = k;
      key_ends = n;
      value = subst (λ m. TakesValue value (m ∷ more) rest) (sym (eqb-true b 61 x)) (given value more rest t);
      cut = e;
    }
    item x (Bad left kind) f =
        let whole : bytes ≡ spaces ++ (key ++ 61 ∷ more) = e ∙ ap (λ m. spaces ++ (key ++ m ∷ more)) (eqb-true b 61 x) in
        subst (λ x. IsParamFault x left kind) (sym whole) (no_value spaces key more left kind h k f)

    go : (p : Bool) → eqb b 61 ≡ p
        → IsParamRead bytes (cond p (then_read (item_at more) (λ value rest. Read (record { key = key; value = value }) rest)) (Read (record { key = key; value = items.Bool true }) (b ∷ more)))
    go true x = item x (item_at more) (item_read more)
    go false x = record { spaces = spaces; value_bytes = b ∷ more; are_spaces = h; key = k; key_ends = n; value = left_out (b ∷ more) x; cut = e }

key_read : (bytes spaces rest : List ℕ) → Are is_space spaces → begins is_space rest ≡ false → bytes ≡ spaces ++ rest → IsParamRead bytes (then_read (key_at rest) value_at)
unfolding key_at
key_read bytes spaces [] h n e = subst (λ x. IsParamFault x 0 BadKey) (sym e) (no_key spaces [] h n refl)
key_read bytes spaces (b ∷ rest) h n e = go (begins_key b) refl
  where
    go : (p : Bool) → begins_key b ≡ p
        → IsParamRead bytes (then_read (cond p (Read (front_of is_in_key (b ∷ rest)) (after is_in_key (b ∷ rest))) (Bad (suc (length rest)) BadKey)) value_at)
    go true x =
        value_read bytes spaces (front_of is_in_key (b ∷ rest)) (after is_in_key (b ∷ rest)) h (front_word begins_key is_in_key key_goes_on b rest x) (after_stops is_in_key (b ∷ rest))
        (e ∙ ap (λ x. spaces ++ x) (sym (front_after is_in_key (b ∷ rest))))
    go false x = subst (λ y. IsParamFault y (suc (length rest)) BadKey) (sym e) (no_key spaces (b ∷ rest) h n x)

pub param_read : (bytes : List ℕ) → IsParamRead bytes (param_at bytes)
unfolding param_at
param_read bytes = key_read bytes (front_of is_space bytes) (after is_space bytes) (front_passes is_space bytes) (after_stops is_space bytes) (sym (front_after is_space bytes))

-- what stands there is read

at_key : (key rest : List ℕ) → IsKey key → begins is_in_key rest ≡ false → key_at (key ++ rest) ≡ Read key rest
unfolding key_at
at_key key rest k n =
    let are = word_goes_on begins_key is_in_key key_goes_on key k in
    rw (word_begins begins_key is_in_key key rest k, front_is is_in_key key rest are n, after_is is_in_key key rest are n) refl

value_only : (key : List ℕ) (value : Item) (bytes rest : List ℕ) → TakesValue value bytes rest → value_at key bytes ≡ Read (record { key = key; value = value }) rest
unfolding value_at
value_only key value bytes rest (left_out whole n) = rw n refl
value_only key value bytes rest (given item more end t) = ap (λ o. then_read o (λ value rest. Read (record { key = key; value = value }) rest)) (item_only item more end t)

after_spaces : (spaces key rest : List ℕ) → Are is_space spaces → IsKey key → after is_space (spaces ++ (key ++ rest)) ≡ key ++ rest
after_spaces spaces key rest h k = after_is is_space spaces (key ++ rest) h (no_space_key key rest k)

pub param_only : (param : Param) (bytes rest : List ℕ) → TakesParam param bytes rest → param_at bytes ≡ Read param rest
unfolding param_at
param_only param bytes rest t =
    ap (λ x. then_read (key_at x) value_at) (ap (after is_space) t.cut ∙ after_spaces t.spaces param.key t.value_bytes t.are_spaces t.key)
    ∙ ap (λ o. then_read o value_at) (at_key param.key t.value_bytes t.key t.key_ends)
    ∙ value_only param.key param.value t.value_bytes rest t.value

no_key_at : (rest : List ℕ) → begins begins_key rest ≡ false → key_at rest ≡ Bad (length rest) BadKey
unfolding key_at
no_key_at rest n = rw n refl

bad_value : (key rest : List ℕ) (left : ℕ) (kind : ShelfKind) → IsItemFault rest left kind → value_at key (61 ∷ rest) ≡ Bad left kind
unfolding value_at
bad_value key rest left kind f = ap (λ o. then_read o (λ value rest. Read (record { key = key; value = value }) rest)) (item_fault_only rest left kind f)

pub param_fault_only : (bytes : List ℕ) (left : ℕ) (kind : ShelfKind) → IsParamFault bytes left kind → param_at bytes ≡ Bad left kind
unfolding param_at
param_fault_only bytes left kind (no_key spaces rest h n m) =
    ap (λ x. then_read (key_at x) value_at) (after_is is_space spaces rest h n) ∙ ap (λ o. then_read o value_at) (no_key_at rest m)
param_fault_only bytes left kind (no_value spaces key rest l c h k f) =
    ap (λ x. then_read (key_at x) value_at) (after_spaces spaces key (61 ∷ rest) h k) ∙ ap (λ o. then_read o value_at) (at_key key (61 ∷ rest) k refl) ∙ bad_value key rest l c f

-- parameters, one behind the other

pub item_less : (item : Item) (bytes rest : List ℕ) → TakesItem item bytes rest → length rest ≤ length bytes
item_less item bytes rest t = let n = ap length t.cut ∙ length-append t.text rest in omega arith

value_less : (value : Item) (bytes rest : List ℕ) → TakesValue value bytes rest → length rest ≤ length bytes
value_less value bytes rest (left_out whole n) = omega arith
value_less value bytes rest (given item more end t) = let h = item_less item more end t in omega arith

pub param_less : (param : Param) (bytes rest : List ℕ) → TakesParam param bytes rest → length rest ≤ length bytes
param_less param bytes rest t =
    let h = value_less param.value t.value_bytes rest t.value in
    let n = ap length t.cut ∙ length-append t.spaces (param.key ++ t.value_bytes) in
    let m = length-append param.key t.value_bytes in
    omega arith

pub param_shrinks : (param : Param) (bytes rest : List ℕ) → param_at bytes ≡ Read param rest → length rest ≤ length bytes
param_shrinks param bytes rest e = param_less param bytes rest (subst (IsParamRead bytes) e (param_read bytes))

step_shrinks : (params grown : List Param) (more rest : List ℕ) (outcome : Outcome Param) → param_at more ≡ outcome → then_read outcome (λ param rest. Read (put params param) rest) ≡ Read grown rest → length rest ≤ length more
step_shrinks params grown more rest (Read param end) e f = let h = param_shrinks param more end e in let g : end ≡ rest = cc in subst (λ x. length x ≤ length more) g h
step_shrinks params grown more rest (Bad left kind) e f = absurd cc

pub params_shrink : Shrinks begins_param param_step
params_shrink = record { empty = refl; takes = takes }
  where
    takes : (s t : List Param) (bytes rest : List ℕ) → begins_param bytes ≡ true → param_step s bytes ≡ Read t rest → length rest < length bytes
    takes s t [] rest e f = absurd cc
    takes s t (b ∷ more) rest e f = let h = step_shrinks s t more rest (param_at more) refl f in omega arith

-- what reading parameters gives is what stands there
abbrev pub IsParamsRead : List Param → List ℕ → Outcome (List Param) → Type 0
IsParamsRead before bytes (Read params rest) = (written : List Param) × (params ≡ fold put before written) × TakesParams written bytes rest
IsParamsRead before bytes (Bad left kind) = (written : List Param) × IsParamsFault written bytes left kind

one_before : (before : List Param) (param : Param) (bytes more between : List ℕ) → bytes ≡ 59 ∷ more → TakesParam param more between → (outcome : Outcome (List Param)) → IsParamsRead (put before param) between outcome → IsParamsRead before bytes outcome
one_before before param bytes more between e t (Read params rest) h = (param ∷ h.0, h.1, (more, between, e, t, h.2))
one_before before param bytes more between e t (Bad left kind) h = (param ∷ h.0, (more, between, e, t, h.1))

params_from : (most : ℕ) (before : List Param) (bytes : List ℕ) → length bytes ≤ most → IsParamsRead before bytes (while_read begins_param param_step most before bytes)
params_from zero before [] h = ([], refl, (refl, refl))
params_from zero before (b ∷ more) h = absurd (omega arith)
params_from (suc most) before [] h = ([], refl, (refl, refl))
params_from (suc most) before (b ∷ more) h = go (eqb b 59) refl (λ param rest le. params_from most (put before param) rest (omega (arith, le)))
  where
    step : (outcome : Outcome Param) → IsParamRead more outcome → eqb b 59 ≡ true
        → ((param : Param) (rest : List ℕ) → length rest ≤ length more → IsParamsRead (put before param) rest (while_read begins_param param_step most (put before param) rest))
        → IsParamsRead before (b ∷ more) (then_read (then_read outcome (λ param rest. Read (put before param) rest)) (while_read begins_param param_step most))
    step (Read param rest) t x later =
        one_before before param (b ∷ more) more rest (ap (λ m. m ∷ more) (eqb-true b 59 x)) t (while_read begins_param param_step most (put before param) rest) (later param rest (param_less param more rest t))
    step (Bad left kind) f x later = ([], (more, ap (λ m. m ∷ more) (eqb-true b 59 x), f))

    go : (p : Bool) → eqb b 59 ≡ p
        → ((param : Param) (rest : List ℕ) → length rest ≤ length more → IsParamsRead (put before param) rest (while_read begins_param param_step most (put before param) rest))
        → IsParamsRead before (b ∷ more) (cond p (then_read (then_read (param_at more) (λ param rest. Read (put before param) rest)) (while_read begins_param param_step most)) (Read before (b ∷ more)))
    go true x later = step (param_at more) (param_read more) x later
    go false x later = ([], refl, (refl, x))

pub params_read : (before : List Param) (bytes : List ℕ) → IsParamsRead before bytes (params_at before bytes)
unfolding params_at
params_read before bytes = params_from (length bytes) before bytes (omega arith)

-- one parameter more is read
pub params_go_on : (before : List Param) (param : Param) (more rest : List ℕ) → param_at more ≡ Read param rest → params_at before (59 ∷ more) ≡ params_at (put before param) rest
unfolding params_at
params_go_on before param more rest e =
    steps_on begins_param param_step params_shrink before (put before param) (59 ∷ more) rest refl (ap (λ o. then_read o (λ param rest. Read (put before param) rest)) e)

pub params_go_wrong : (before : List Param) (more : List ℕ) (left : ℕ) (kind : ShelfKind) → param_at more ≡ Bad left kind → params_at before (59 ∷ more) ≡ Bad left kind
unfolding params_at
params_go_wrong before more left kind e =
    steps_badly begins_param param_step params_shrink before (59 ∷ more) left kind refl (ap (λ o. then_read o (λ param rest. Read (put before param) rest)) e)

pub params_end : (before : List Param) (bytes : List ℕ) → begins_param bytes ≡ false → params_at before bytes ≡ Read before bytes
unfolding params_at
params_end before bytes e = stops_there begins_param param_step before bytes e

pub params_only : (written before : List Param) (bytes rest : List ℕ) → TakesParams written bytes rest → params_at before bytes ≡ Read (fold put before written) rest
params_only [] before bytes rest t = ap (params_at before) t.0 ∙ params_end before rest t.1
params_only (param ∷ written) before bytes rest t =
    ap (params_at before) t.2 ∙ params_go_on before param t.0 t.1 (param_only param t.0 t.1 t.3) ∙ params_only written (put before param) t.1 rest t.4

pub params_fault_only : (written before : List Param) (bytes : List ℕ) (left : ℕ) (kind : ShelfKind) → IsParamsFault written bytes left kind → params_at before bytes ≡ Bad left kind
params_fault_only [] before bytes left kind t = ap (params_at before) t.1 ∙ params_go_wrong before t.0 left kind (param_fault_only t.0 left kind t.2)
params_fault_only (param ∷ written) before bytes left kind t =
    ap (params_at before) t.2 ∙ params_go_on before param t.0 t.1 (param_only param t.0 t.1 t.3) ∙ params_fault_only written (put before param) t.1 left kind t.4

-- the loop of a reader stops where one parameter does
pub params_stop : (stop : Stop) (before : List Param) (more rest : List ℕ) (whole : Outcome (List Param)) → rest ≡ 59 ∷ more → Stops stop (param_at more) → params_at before rest ≡ whole → Stops stop whole
params_stop (stops.Bad left kind) before more rest whole e h so_far = sym so_far ∙ ap (params_at before) e ∙ params_go_wrong before more left kind h
params_stop stops.Memory before more rest whole e h so_far = tt

pub params_less : (written : List Param) (bytes rest : List ℕ) → TakesParams written bytes rest → length rest ≤ length bytes
params_less [] bytes rest t = let l = ap length t.0 in omega arith
params_less (param ∷ written) bytes rest t =
    let h = param_less param t.0 t.1 t.3 in
    let k = params_less written t.1 rest t.4 in
    let l = ap length t.2 in
    omega arith
