-- In a list of nodes below a version's level, the version's runs stand directly behind their origins.
use Rattle.std.proofs.Common.{◌≡◌, ℕ, ◌<◌, ◌≤◌, ◌+◌, ◌-◌, List, [], ◌∷◌, ◌++◌, refl, sym, ap, subst, ◌∙◌, inl, inr, ◌⊎◌, arith, Less, take, drop, length, suc, zero, append_assoc, length-append}
use Rattle.std.proofs.lemmas.List.{take-append-drop, length-take, append-nil}
use Rattle.std.specs.List.{AllByRecursion}
use Rattle.braid_tree.specs.Keys.{Key, key_cmp, key_in}
use Rattle.braid_tree.specs.Paths.{PathBefore}
use Rattle.braid_tree.specs.Nodes.{Node, path_of, Before, IsReading, with_node, with_nodes, run}
use Rattle.braid_change.specs.declared.patch.Patch.{Patch}
use Rattle.braid_change.specs.Splices.{AreRanges, StartAfter}
use Rattle.braid_rebase.specs.Additions.{last_path, origin_at, nodes_at, AreUnder}
use Rattle.braid_tree.specs.Trees.{Member, IsWithout, EndsAt, AreNewKeys}
use Rattle.braid_tree.proofs.Member.{all_member, all_from_members, member_append_right}
use Rattle.braid_tree.proofs.Order.{before_cons, before_head, before_tail}
use Rattle.braid_tree.proofs.Landing.{before_root}
use Rattle.braid_tree.proofs.Placing.{with_node_here, with_node_front}
use Rattle.braid_tree.proofs.Runs.{StartsBehind, rest_of_run, before_new, after_origin, reading_front}
use Rattle.braid_tree.proofs.Kept.{rising_next, new_with, reading_with, no_path}
use Rattle.braid_tree.proofs.Keys.{keys_strict, lower_level, run_keys_rise}
use Rattle.braid_rebase.proofs.Added.{with_nodes-append, new_with_run, origin_below}

-- a new node whose key is greater than all of q's stands before q, where its origin does
top_before : (p : List Key) (k : Key) (q : List Key) → AllByRecursion (λ (b : Key). key_cmp b k ≡ Less) q → PathBefore key_cmp p q → PathBefore key_cmp (p ++ k ∷ []) q
top_before p k [] all h = absurd (before_root key_cmp keys_strict p h)
top_before [] k (b ∷ q) all h = before_head key_cmp keys_strict k b [] q all.0
top_before (a ∷ p) k (b ∷ q) all h = elim (before_cons key_cmp keys_strict a b p q h) [
  | inl l ↦ before_head key_cmp keys_strict a b (p ++ k ∷ []) q l
  | inr e ↦ subst (λ (w : Key). PathBefore key_cmp (a ∷ (p ++ k ∷ [])) (w ∷ q)) e.0 (before_tail key_cmp keys_strict a (p ++ k ∷ []) q (top_before p k q all.1 e.1))
]

under_less : (level : ℕ) (id : List ℕ) (n : ℕ) (y : Node Key) → AllByRecursion (λ (b : Key). b.level < level) (path_of y) → AllByRecursion (λ (b : Key). key_cmp b (key_in level id n) ≡ Less) (path_of y)
under_less level id n y all = all_from_members (λ (b : Key). key_cmp b (key_in level id n) ≡ Less) (path_of y) (λ b m. lower_level b (key_in level id n) (all_member (λ (b : Key). b.level < level) b (path_of y) all m))

-- none of the version's keys is on a path below its level
pub under_without : (level : ℕ) (id : List ℕ) (n : ℕ) (y : Node Key) → AllByRecursion (λ (b : Key). b.level < level) (path_of y) → IsWithout (key_in level id n) y
under_without level id n y all = go y.above all
  where
    go : (p : List Key) → AllByRecursion (λ (b : Key). b.level < level) (p ++ y.key ∷ []) → AllByRecursion (λ (b : Key). (b ≡ key_in level id n) → ⊥) p × ((y.key ≡ key_in level id n) → ⊥)
    go [] a = (tt, λ e. let f : y.key.level ≡ level = ap (λ (k : Key). k.level) e in let g : y.key.level < level = a.0 in omega arith)
    go (b ∷ p) a = ((λ e. (let f : b.level ≡ level = ap (λ (k : Key). k.level) e in let g : b.level < level = a.0 in omega arith), (go p a.1).0), (go p a.1).1)

-- a run goes directly behind its origin
run_on_top : (level : ℕ) (id : List ℕ) (cs : List ℕ) (above : List Key) (n : ℕ) (F T : List (Node Key)) → IsReading key_cmp (F ++ T) → EndsAt F above → AreUnder level T
    → with_nodes key_cmp (run (key_in level id) above n cs) (F ++ T) ≡ F ++ (run (key_in level id) above n cs ++ T)
run_on_top level id [] above n F T read ends under = refl
run_on_top level id (c ∷ cs) above n F T read ends under =
    ap (with_nodes key_cmp rest) put ∙ rest_of_run key_cmp keys_strict (key_in level id) n cs (n + 1) F x T n refl (omega arith) (omega arith) fronts (start T (λ y m. m))
  where
    x : Node Key
    x = record { above = above; key = key_in level id n; char = c }

    rest : List (Node Key)
    rest = run (key_in level id) (above ++ key_in level id n ∷ []) (n + 1) cs

    fronts : AllByRecursion (λ (y : Node Key). Before key_cmp y x) F
    fronts = before_new key_cmp keys_strict F x (reading_front key_cmp keys_strict F T read) ends

    stands : (y : Node Key) → Member y T → Before key_cmp x y
    stands y m = top_before above (key_in level id n) (path_of y) (under_less level id n y (all_member (λ (y : Node Key). AllByRecursion (λ (b : Key). b.level < level) (path_of y)) y T under m))
        (after_origin key_cmp keys_strict F above T read ends y m)

    start : (ys : List (Node Key)) → ((y : Node Key) → Member y ys → Member y T) → StartsBehind key_cmp keys_strict (key_in level id) n x ys
    start [] sub = tt
    start (y ∷ ys) sub = (stands y (sub y (inl refl)), λ m le. under_without level id m y (all_member (λ (y : Node Key). AllByRecursion (λ (b : Key). b.level < level) (path_of y)) y T under (sub y (inl refl))))

    first : (ys : List (Node Key)) → ((y : Node Key) → Member y ys → Member y T) → with_node key_cmp x ys ≡ x ∷ ys
    first [] sub = refl
    first (y ∷ ys) sub = with_node_here key_cmp keys_strict x y ys (stands y (sub y (inl refl)))

    put : with_node key_cmp x (F ++ T) ≡ F ++ x ∷ T
    put = with_node_front key_cmp keys_strict x F T fronts ∙ ap (λ t. F ++ t) (first T (λ y m. m))

-- a run leaves a reading
pub reading_with_run : (level : ℕ) (id : List ℕ) (cs : List ℕ) (above : List Key) (n : ℕ) (d : List (Node Key)) → IsReading key_cmp d → AreNewKeys (key_in level id) n d → AllByRecursion (λ (b : Key). key_cmp b (key_in level id n) ≡ Less) above
    → IsReading key_cmp (with_nodes key_cmp (run (key_in level id) above n cs) d)
reading_with_run level id [] above n d read new up = read
reading_with_run level id (c ∷ cs) above n d read new up =
    reading_with_run level id cs (above ++ key_in level id n ∷ []) (n + 1) (with_node key_cmp x d) (reading_with key_cmp keys_strict x d read (no_path key_cmp keys_strict x d (new n (omega arith))))
    (new_with key_cmp keys_strict (key_in level id) (run_keys_rise level id) n x d up refl new)
    (rising_next key_cmp keys_strict x (key_in level id (n + 1)) c up (run_keys_rise level id n (n + 1) (omega arith)))
  where
    x : Node Key
    x = record { above = above; key = key_in level id n; char = c }

last_path-append : (p : List Key) (xs ys : List (Node Key)) → last_path p (xs ++ ys) ≡ last_path (last_path p xs) ys
last_path-append p [] ys = refl
last_path-append p (x ∷ xs) ys = last_path-append (path_of x) xs ys

-- a list that ends in a node ends at its path
ends_cons : (F : List (Node Key)) (p : List Key) (x : Node Key) (xs : List (Node Key)) → EndsAt (F ++ x ∷ xs) (last_path p (x ∷ xs))
ends_cons F p x [] = inr (F, x, refl, refl)
ends_cons F p x (y ∷ ys) = subst (λ t. EndsAt t (last_path p (x ∷ y ∷ ys))) (append_assoc F (x ∷ []) (y ∷ ys)) (ends_cons (F ++ x ∷ []) (path_of x) y ys)

module _ (level : ℕ) (id : List ℕ) (S : List (Node Key)) (under : AreUnder level S) where
  -- the members with the version's runs behind their origins; T is what follows member number at
  abbrev pub weave : ℕ → ℕ → List (Node Key) → List Patch → List (Node Key)
  weave n at T [] = T
  weave n at T (r ∷ rs) = take (r.start - at) T ++ (run (key_in level id) (origin_at S r.start) n r.text ++ weave (n + length r.text) r.start (drop (r.start - at) T) rs)

  under_part : (T : List (Node Key)) → ((y : Node Key) → Member y T → Member y S) → AreUnder level T
  under_part T sub = all_from_members (λ (y : Node Key). AllByRecursion (λ (b : Key). b.level < level) (path_of y)) T (λ y m. all_member (λ (y : Node Key). AllByRecursion (λ (b : Key). b.level < level) (path_of y)) y S under (sub y m))

  -- either nothing is done, or the next range starts later
  abbrev pub IsAhead : List (Node Key) → List (Node Key) → ℕ → List Patch → Type 0
  IsAhead F done at [] = Unit {0}
  IsAhead F done at (r ∷ rs) = ((F ≡ []) × (done ≡ [])) ⊎ (at < r.start)

  origin_here : (done T : List (Node Key)) (at i : ℕ) → S ≡ done ++ T → length done ≡ at → origin_at S (at + i) ≡ last_path (last_path [] done) (take i T)
  origin_here done T at i is len = ap (λ t. last_path [] (take (at + i) t)) is ∙ ap (last_path []) split ∙ last_path-append [] done (take i T)
    where
      split : take (at + i) (done ++ T) ≡ done ++ take i T
      split = go done at len
        where
          go : (d : List (Node Key)) (a : ℕ) → length d ≡ a → take (a + i) (d ++ T) ≡ d ++ take i T
          go [] a e = let f : a + i ≡ i = omega arith in ap (λ (n : ℕ). take n T) f
          go (x ∷ d) zero e = absurd (omega arith)
          go (x ∷ d) (suc a) e = let f : suc a + i ≡ suc (a + i) = omega arith in ap (λ (n : ℕ). take n (x ∷ (d ++ T))) f ∙ ap (λ t. x ∷ t) (go d a (omega arith))

  pub woven : (rs : List Patch) (len low n at : ℕ) (F done T : List (Node Key)) → AreRanges low len rs → len ≤ length S → S ≡ done ++ T → length done ≡ at → at ≤ low → IsAhead F done at rs
      → IsReading key_cmp (F ++ T) → AreNewKeys (key_in level id) n (F ++ T)
      → with_nodes key_cmp (nodes_at (key_in level id) S n rs) (F ++ T) ≡ F ++ weave n at T rs
  woven [] len low n at F done T rg bound is size lo ahead read new = refl
  woven (r ∷ rs) len low n at F done T rg bound is size lo ahead read new =
      with_nodes-append new_run (nodes_at (key_in level id) S (n + length r.text) rs) (F ++ T)
      ∙ ap (with_nodes key_cmp (nodes_at (key_in level id) S (n + length r.text) rs)) (placed ∙ regroup)
      ∙ woven rs len r.end (n + length r.text) r.start F' (done ++ take i T) (drop i T) rg.4 bound is' size' rg.1 (ahead' rs rg.3) read' new'
      ∙ append_assoc (F ++ take i T) new_run (weave (n + length r.text) r.start (drop i T) rs) ∙ append_assoc F (take i T) (new_run ++ weave (n + length r.text) r.start (drop i T) rs)
    where
      i : ℕ
      i = r.start - at

      new_run : List (Node Key)
      new_run = run (key_in level id) (origin_at S r.start) n r.text

      F' : List (Node Key)
      F' = (F ++ take i T) ++ new_run

      size_S : length S ≡ at + length T
      size_S = ap length is ∙ length-append done T ∙ ap (λ (k : ℕ). k + length T) size

      split : F ++ T ≡ (F ++ take i T) ++ drop i T
      split = ap (λ t. F ++ t) (sym (take-append-drop i T)) ∙ sym (append_assoc F (take i T) (drop i T))

      there : at + i ≡ r.start
      there = omega (arith, rg.0)

      ends : EndsAt (F ++ take i T) (origin_at S r.start)
      ends = subst (λ (k : ℕ). EndsAt (F ++ take i T) (origin_at S k)) there (subst (λ t. EndsAt (F ++ take i T) t) (sym (origin_here done T at i is size)) (at_end ahead))
        where
          some : (xs : List (Node Key)) → 0 < length xs → (p : List Key) → EndsAt (F ++ xs) (last_path p xs)
          some [] h p = absurd (omega arith)
          some (x ∷ xs) h p = ends_cons F p x xs

          none : (xs : List (Node Key)) → F ≡ [] → EndsAt (F ++ xs) (last_path [] xs)
          none [] e = inl (append-nil F ∙ e, refl)
          none (x ∷ xs) e = ends_cons F [] x xs

          at_end : ((F ≡ []) × (done ≡ [])) ⊎ (at < r.start) → EndsAt (F ++ take i T) (last_path (last_path [] done) (take i T))
          at_end (inl (e, f)) = subst (λ t. EndsAt (F ++ take i T) (last_path (last_path [] t) (take i T))) (sym f) (none (take i T) e)
          at_end (inr h) = some (take i T) (omega (arith, length-take i T, size_S, rg.1, rg.2, there)) (last_path [] done)

      in_S : (y : Node Key) → Member y (drop i T) → Member y S
      in_S y m = subst (Member y) (sym is) (member_append_right y done T (subst (Member y) (take-append-drop i T) (member_append_right y (take i T) (drop i T) m)))

      placed : with_nodes key_cmp new_run (F ++ T) ≡ (F ++ take i T) ++ (new_run ++ drop i T)
      placed = ap (with_nodes key_cmp new_run) split ∙ run_on_top level id r.text (origin_at S r.start) n (F ++ take i T) (drop i T) (subst (IsReading key_cmp) split read) ends (under_part (drop i T) in_S)

      regroup : (F ++ take i T) ++ (new_run ++ drop i T) ≡ F' ++ drop i T
      regroup = sym (append_assoc (F ++ take i T) new_run (drop i T))

      up : AllByRecursion (λ (b : Key). key_cmp b (key_in level id n) ≡ Less) (origin_at S r.start)
      up = origin_below level id S r.start n under

      read' : IsReading key_cmp (F' ++ drop i T)
      read' = subst (IsReading key_cmp) (placed ∙ regroup) (reading_with_run level id r.text (origin_at S r.start) n (F ++ T) read new up)

      new' : AreNewKeys (key_in level id) (n + length r.text) (F' ++ drop i T)
      new' = subst (AreNewKeys (key_in level id) (n + length r.text)) (placed ∙ regroup) (new_with_run level id r.text (origin_at S r.start) n (F ++ T) up new)

      is' : S ≡ (done ++ take i T) ++ drop i T
      is' = is ∙ ap (λ t. done ++ t) (sym (take-append-drop i T)) ∙ sym (append_assoc done (take i T) (drop i T))

      size' : length (done ++ take i T) ≡ r.start
      size' = omega (arith, length-append done (take i T), length-take i T, size_S, rg.1, rg.2, there, size)

      ahead' : (qs : List Patch) → StartAfter r qs → IsAhead F' (done ++ take i T) r.start qs
      ahead' [] s = tt
      ahead' (q ∷ qs) s = inr s
