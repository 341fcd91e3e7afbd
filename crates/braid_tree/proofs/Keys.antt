-- Identifiers and keys are strictly ordered.
use Rattle.std.proofs.Common.{◌≡◌, ℕ, ◌<◌, List, true, refl, sym, ap, subst, ◌∙◌, arith, Less, Equal, Greater, Ordering}
use Rattle.std.specs.Ordering.{is_eq, nat_cmp, ordering_then, flip_args}
use Rattle.std.proofs.lemmas.Cmp.{tied_itself, nat_cmp_total, nat_list_cmp_total, on_total, then_total, back_total, ranked}
use Rattle.std.proofs.lemmas.Bool.Decides.{nat_tests}
use Rattle.braid_tree.specs.Keys.{Key, key_cmp, key_in}
use Rattle.braid_ids.specs.Identifiers.{id_cmp}
use Rattle.braid_tree.specs.Trees.{AreRisingKeys}
use Rattle.braid_tree.proofs.Order.{IsStrict, paths_same}

pub nat_same : (x y : ℕ) → nat_cmp x y ≡ Equal → x ≡ y
nat_same x y h = ranked x y Equal (sym h)

pub back_strict : {K : Type 0} (R : K → K → Ordering) → IsStrict R → IsStrict (flip_args R)
back_strict R o = record { total = back_total o.total; same = λ x y h. sym (o.same y x h) }

pub nat_strict : IsStrict nat_cmp
nat_strict = record { total = nat_cmp_total; same = nat_same }

pub ids_strict : IsStrict id_cmp
ids_strict = record { total = nat_list_cmp_total; same = paths_same (flip_args nat_cmp) (back_strict nat_cmp nat_strict) }

key_same : (a b : Key) → key_cmp a b ≡ Equal → a ≡ b
key_same a b h = first (nat_cmp a.level b.level) refl h
  where
    third : (o : Ordering) → nat_cmp a.ordinal b.ordinal ≡ o → o ≡ Equal → a.level ≡ b.level → a.id ≡ b.id → a ≡ b
    third o e h l i = let n = nat_same a.ordinal b.ordinal (e ∙ h) in (λ k. record { level = l k; id = i k; ordinal = n k })

    second : (o : Ordering) → id_cmp a.id b.id ≡ o → ordering_then o (nat_cmp a.ordinal b.ordinal) ≡ Equal → a.level ≡ b.level → a ≡ b
    second Less e h l = cc
    second Equal e h l = third (nat_cmp a.ordinal b.ordinal) refl h l (ids_strict.same a.id b.id e)
    second Greater e h l = cc

    first : (o : Ordering) → nat_cmp a.level b.level ≡ o → ordering_then o (ordering_then (id_cmp a.id b.id) (nat_cmp a.ordinal b.ordinal)) ≡ Equal → a ≡ b
    first Less e h = cc
    first Equal e h = second (id_cmp a.id b.id) refl h (nat_same a.level b.level e)
    first Greater e h = cc

pub keys_strict : IsStrict key_cmp
keys_strict = record {
  total = then_total (on_total (λ (k : Key). k.level) nat_cmp_total) (then_total (on_total (λ (k : Key). k.id) nat_list_cmp_total) (on_total (λ (k : Key). k.ordinal) nat_cmp_total));
  same = key_same;
}

-- a lower level makes a smaller key
pub lower_level : (a b : Key) → a.level < b.level → key_cmp a b ≡ Less
lower_level a b h = let e : nat_cmp a.level b.level ≡ Less = grind (arith, nat_tests) in rw e

-- in one version the ordinals decide
pub lower_ordinal : (a b : Key) → a.level ≡ b.level → a.id ≡ b.id → a.ordinal < b.ordinal → key_cmp a b ≡ Less
lower_ordinal a b l i h =
    let e : nat_cmp a.level b.level ≡ Equal = grind (arith, nat_tests) in
    let f : id_cmp a.id b.id ≡ Equal = subst (λ (w : List ℕ). id_cmp a.id w ≡ Equal) i (tied_itself nat_list_cmp_total a.id) in
    let g : nat_cmp a.ordinal b.ordinal ≡ Less = grind (arith, nat_tests) in
    rw (e, f, g)

module _ {K : Type 0} (R : K → K → Ordering) (o : IsStrict R) where
  pub eq_true : (a b : K) → is_eq (R a b) ≡ true → a ≡ b
  eq_true a b h = o.same a b (go (R a b) h)
    where
      go : (v : Ordering) → is_eq v ≡ true → v ≡ Equal
      go Less h = cc
      go Equal h = refl
      go Greater h = cc

  pub eq_itself : (a : K) → is_eq (R a a) ≡ true
  eq_itself a = ap is_eq (tied_itself o.total a)

-- in one version a greater number has the greater key
pub run_keys_rise : (level : ℕ) (id : List ℕ) → AreRisingKeys key_cmp (key_in level id)
run_keys_rise level id m n h = lower_ordinal (key_in level id m) (key_in level id n) refl refl h
