-- What the tests on updates say, and when an update is refused.
use Rattle.std.proofs.Common.{◌≡◌, ℕ, List, [], ◌∷◌, Bool, true, false, ◌&&◌, nat_eq, eqb, cond, refl, sym, ap, subst, ◌∙◌, inl, inr, ◌⊎◌, Option, Some, None, IsSome, option_map, length, is_some}
use Rattle.std.specs.Bool.{Decides}
use Rattle.std.specs.Ordering.{is_eq}
use Rattle.std.specs.Cmp.Lexicographic.{pointwise}
use Rattle.std.proofs.lemmas.Bool.Decides.{Decides-eqb}
use Rattle.braid_ids.specs.Identifiers.{id_cmp, IsIdentifier}
use Rattle.braid_change.specs.declared.patch.Patch.{Patch}
use Rattle.braid_change.specs.declared.change.Change.{Change}
use Rattle.braid_change.specs.declared.change.Change.TheVariants.{Body, Patches}
use Rattle.braid_change.specs.Splices.{first_past, spliced}
use Rattle.braid_change.specs.Updates.{UpdateView, IsBuilt}
use Rattle.braid_text.specs.Versions.{has_version, versions_in, text_in}
use Rattle.braid_text.specs.Histories.{Follows}
use Rattle.braid_tree.specs.Trees.{Member}
use Rattle.braid_tree.proofs.Keys.{ids_strict, eq_true, eq_itself}
use Rattle.braid_text.proofs.Whole.{and_cases}
use Rattle.braid_text.proofs.Same.{and_true}
use Rattle.braid_text.specs.Refusals.{same_patch, same_change, same_update, find_in, first_missing, first_there, judge_held, refusal_in}
use Rattle.braid_text.specs.declared.accept.Accept.{Accept}
use Rattle.braid_text.specs.declared.accept.Accept.TheVariants.{Known, Clash, UnknownParent, OutOfRange}
use Rattle.braid_text.proofs.Logs.{Has, held, has, follows_held, has_holds, holds_has}
use Rattle.braid_change.proofs.Pieces.{undefined_past}
use Rattle.braid_rebase.proofs.Members.{contains_member}
use Rattle.braid_ids.specs.Frontiers.{IsRising}

-- an equality test on items makes one on lists
pub lists_Decide : {A : Type 0} (E : A → A → Bool) → ((a b : A) → Decides (E a b) (a ≡ b)) → (xs ys : List A) → Decides (pointwise E xs ys) (xs ≡ ys)
lists_Decide E d [] [] = (λ h. refl, λ e. refl)
lists_Decide E d [] (y ∷ ys) = (λ h. cc, λ e. cc)
lists_Decide E d (x ∷ xs) [] = (λ h. cc, λ e. cc)
lists_Decide E d (x ∷ xs) (y ∷ ys) = let i = lists_Decide E d xs ys in (to i, from i)
  where
    to : Decides (pointwise E xs ys) (xs ≡ ys) → pointwise E (x ∷ xs) (y ∷ ys) ≡ true → x ∷ xs ≡ y ∷ ys
    to i h = let p = and_cases (E x y) (pointwise E xs ys) h in let e : x ≡ y = (d x y).0 p.0 in let f : xs ≡ ys = i.0 p.1 in cc

    from : Decides (pointwise E xs ys) (xs ≡ ys) → x ∷ xs ≡ y ∷ ys → pointwise E (x ∷ xs) (y ∷ ys) ≡ true
    from i e = and_true (E x y) (pointwise E xs ys) ((d x y).1 cc) (i.1 cc)

pub ids_Decide : (v w : List ℕ) → Decides (pointwise nat_eq v w) (v ≡ w)
ids_Decide = lists_Decide nat_eq Decides-eqb

patches_Decide : (p q : Patch) → Decides (same_patch p q) (p ≡ q)
patches_Decide p q = (to, from)
  where
    to : same_patch p q ≡ true → p ≡ q
    to h = let a = and_cases (eqb p.start q.start) (eqb p.end q.end && pointwise nat_eq p.text q.text) h in
        let b = and_cases (eqb p.end q.end) (pointwise nat_eq p.text q.text) a.1 in
        let s = (Decides-eqb p.start q.start).0 a.0 in let e = (Decides-eqb p.end q.end).0 b.0 in let t = (ids_Decide p.text q.text).0 b.1 in
        (λ k. record { start = s k; end = e k; text = t k })

    from : p ≡ q → same_patch p q ≡ true
    from e = and_true (eqb p.start q.start) (eqb p.end q.end && pointwise nat_eq p.text q.text) ((Decides-eqb p.start q.start).1 (ap (λ (t : Patch). t.start) e))
        (and_true (eqb p.end q.end) (pointwise nat_eq p.text q.text) ((Decides-eqb p.end q.end).1 (ap (λ (t : Patch). t.end) e)) ((ids_Decide p.text q.text).1 (ap (λ (t : Patch). t.text) e)))

changes_Decide : (c d : Change) → Decides (same_change c d) (c ≡ d)
changes_Decide (Body x) (Body y) = let i = ids_Decide x y in (λ h. ap Body (i.0 h), λ e. i.1 cc)
changes_Decide (Body x) (Patches qs) = (λ h. cc, λ e. cc)
changes_Decide (Patches ps) (Body y) = (λ h. cc, λ e. cc)
changes_Decide (Patches ps) (Patches qs) = let i = lists_Decide same_patch patches_Decide ps qs in (λ h. ap Patches (i.0 h), λ e. i.1 cc)

pub updates_Decide : (u w : UpdateView) → Decides (same_update u w) (u ≡ w)
updates_Decide u w = (to, from)
  where
    ps : Decides (pointwise (pointwise nat_eq) u.parents w.parents) (u.parents ≡ w.parents)
    ps = lists_Decide (pointwise nat_eq) ids_Decide u.parents w.parents

    to : same_update u w ≡ true → u ≡ w
    to h = let a = and_cases (pointwise nat_eq u.id w.id) (pointwise (pointwise nat_eq) u.parents w.parents && same_change u.change w.change) h in
        let b = and_cases (pointwise (pointwise nat_eq) u.parents w.parents) (same_change u.change w.change) a.1 in
        let i = (ids_Decide u.id w.id).0 a.0 in let p = ps.0 b.0 in let c = (changes_Decide u.change w.change).0 b.1 in
        (λ k. record { id = i k; parents = p k; change = c k })

    from : u ≡ w → same_update u w ≡ true
    from e = and_true (pointwise nat_eq u.id w.id) (pointwise (pointwise nat_eq) u.parents w.parents && same_change u.change w.change) ((ids_Decide u.id w.id).1 (ap (λ (t : UpdateView). t.id) e))
        (and_true (pointwise (pointwise nat_eq) u.parents w.parents) (same_change u.change w.change) (ps.1 (ap (λ (t : UpdateView). t.parents) e)) ((changes_Decide u.change w.change).1 (ap (λ (t : UpdateView). t.change) e)))

-- find gives an update of the list with the identifier, or there is none
pub found : (v : List ℕ) (us : List UpdateView) (w : UpdateView) → find_in v us ≡ Some w → Member w us × (w.id ≡ v)
found v [] w h = cc
found v (u ∷ us) w h = go (is_eq (id_cmp v u.id)) refl h (found v us w)
  where
    go : (b : Bool) → is_eq (id_cmp v u.id) ≡ b → cond b (Some u) (find_in v us) ≡ Some w → (find_in v us ≡ Some w → Member w us × (w.id ≡ v)) → Member w (u ∷ us) × (w.id ≡ v)
    go true e h ih = let f : u ≡ w = cc in (inl f, ap (λ (t : UpdateView). t.id) (sym f) ∙ sym (eq_true id_cmp ids_strict v u.id e))
    go false e h ih = (inr (ih h).0, (ih h).1)

pub not_found : (v : List ℕ) (us : List UpdateView) → find_in v us ≡ None → Has us v → ⊥
not_found v [] h (w, m, e) = m
not_found v (u ∷ us) h (w, m, e) = go (is_eq (id_cmp v u.id)) refl h m (λ k n. not_found v us k (w, n, e))
  where
    go : (b : Bool) → is_eq (id_cmp v u.id) ≡ b → cond b (Some u) (find_in v us) ≡ None → Member w (u ∷ us) → (find_in v us ≡ None → Member w us → ⊥) → ⊥
    go true f h m ih = cc
    go false f h (inl g) ih = let t : is_eq (id_cmp v u.id) ≡ true = subst (λ (i : List ℕ). is_eq (id_cmp v i) ≡ true) (sym e ∙ ap (λ (t : UpdateView). t.id) (sym g)) (eq_itself id_cmp ids_strict v) in cc
    go false f h (inr n) ih = ih h n

pub none_missing : (ps : List (List ℕ)) (us : List UpdateView) → first_missing ps us ≡ None → (p : List ℕ) → Member p ps → Has us p
none_missing [] us h p m = absurd m
none_missing (q ∷ ps) us h p m = go (has_version q (versions_in us)) refl h m (λ k n. none_missing ps us k p n)
  where
    go : (b : Bool) → has_version q (versions_in us) ≡ b → cond b (first_missing ps us) (Some q) ≡ None → Member p (q ∷ ps) → (first_missing ps us ≡ None → Member p ps → Has us p) → Has us p
    go true e h (inl f) ih = subst (Has us) f (held us q e)
    go true e h (inr n) ih = ih h n
    go false e h m ih = cc

pub missing_none : (ps : List (List ℕ)) (us : List UpdateView) → ((p : List ℕ) → Member p ps → Has us p) → first_missing ps us ≡ None
missing_none [] us h = refl
missing_none (q ∷ ps) us h = ap (λ (b : Bool). cond b (first_missing ps us) (Some q)) (has us q (h q (inl refl))) ∙ missing_none ps us (λ p m. h p (inr m))

-- no patch passes the text exactly where there is a splice
pub fits_from : (t : List ℕ) (c : Change) → first_past t c ≡ None → IsSome (spliced t c)
fits_from t c h = go (spliced t c) refl
  where
    go : (o : Option (List ℕ)) → spliced t c ≡ o → IsSome o
    go (Some x) e = refl
    go None e = let p : IsSome (first_past t c) = (undefined_past t c).0 e in let q : is_some (first_past t c) ≡ false = ap is_some h in cc

pub fits_to : (t : List ℕ) (c : Change) → IsSome (spliced t c) → first_past t c ≡ None
fits_to t c h = go (first_past t c) refl
  where
    go : (o : Option ℕ) → first_past t c ≡ o → o ≡ None
    go None e = refl
    go (Some n) e = absurd (let p : spliced t c ≡ None = (undefined_past t c).1 (ap is_some e) in let q : is_some (spliced t c) ≡ false = ap is_some p in cc)

pub first_none : (a b : Option Accept) → first_there a b ≡ None → (a ≡ None) × (b ≡ None)
first_none (Some a) b h = cc
first_none None b h = (refl, h)

pub held_none : (u : UpdateView) (o : Option UpdateView) → judge_held u o ≡ None → o ≡ None
held_none u (Some w) h = cc
held_none u None h = refl

pub map_none : {A : Type 0} (f : A → Accept) (o : Option A) → option_map f o ≡ None → o ≡ None
map_none f (Some a) h = cc
map_none f None h = refl

-- an update that is not refused, has an identifier and rising parents and was built may follow
pub follows_from : (us : List UpdateView) (u : UpdateView) → refusal_in us u ≡ None → IsIdentifier u.id → IsRising u.parents → IsBuilt u.parents u.change → Follows us u
follows_from us u h identifier rising built = go (first_none (judge_held u (find_in u.id us)) (first_there parents_part range_part) h)
  where
    t : List ℕ
    t = text_in (versions_in us) u.parents

    parents_part : Option Accept
    parents_part = option_map UnknownParent (first_missing u.parents us)

    range_part : Option Accept
    range_part = option_map (λ (n : ℕ). OutOfRange n (length t)) (first_past t u.change)

    go : (judge_held u (find_in u.id us) ≡ None) × (first_there parents_part range_part ≡ None) → Follows us u
    go (a, b) = let c = first_none parents_part range_part b in record {
      new = λ h. not_found u.id us (held_none u (find_in u.id us) a) (holds_has us u.id h);
      named = identifier;
      parents_held = λ p k. has_holds us p (none_missing u.parents us (map_none UnknownParent (first_missing u.parents us) c.0) p (contains_member u.parents p k));
      rising = rising;
      built = built;
      fits = fits_from t u.change (map_none (λ (n : ℕ). OutOfRange n (length t)) (first_past t u.change) c.1);
    }

-- an update that the log has or that may follow it is Known, or is not refused
pub judged_well : (us : List UpdateView) (u : UpdateView) → ((w : UpdateView) → Member w us → w.id ≡ u.id → w ≡ u) → ((Has us u.id → ⊥) → Follows us u)
    → ((refusal_in us u ≡ Some Known) × Member u us) ⊎ ((refusal_in us u ≡ None) × (Has us u.id → ⊥))
judged_well us u one next = go (find_in u.id us) refl
  where
    t : List ℕ
    t = text_in (versions_in us) u.parents

    rest : Option Accept
    rest = first_there (option_map UnknownParent (first_missing u.parents us)) (option_map (λ (n : ℕ). OutOfRange n (length t)) (first_past t u.change))

    go : (o : Option UpdateView) → find_in u.id us ≡ o → ((first_there (judge_held u o) rest ≡ Some Known) × Member u us) ⊎ ((first_there (judge_held u o) rest ≡ None) × (Has us u.id → ⊥))
    go (Some w) e = let f = found u.id us w e in let g : w ≡ u = one w f.0 f.1 in
        inl (ap (λ (b : Bool). Some (cond b Known (Clash u.id))) ((updates_Decide u w).1 (sym g)), subst (λ (x : UpdateView). Member x us) g f.0)
    go None e = let f = next (not_found u.id us e) in inr (
      (ap (λ (o : Option (List ℕ)). first_there (option_map UnknownParent o) (option_map (λ (n : ℕ). OutOfRange n (length t)) (first_past t u.change))) (missing_none u.parents us (follows_held us u f))
          ∙ ap (λ (o : Option ℕ). option_map (λ (n : ℕ). OutOfRange n (length t)) o) (fits_to t u.change f.fits)),
      not_found u.id us e,
    )
