-- The pure merges of a write: they read nothing and change no text, and leave a legal log, a chain and a narrow frontier.
use Rattle.std.proofs.Common.{◌≡◌, ℕ, ◌<◌, ◌≤◌, ◌+◌, ◌^◌, List, [], ◌∷◌, ◌++◌, Bool, true, false, ◌&&◌, ◌||◌, not, cond, nat_le, refl, sym, ap, subst, ◌∙◌, inl, inr, arith, filter, length, reverse, append_assoc, Option, Some, IsSome, suc, zero}
use Rattle.std.proofs.lemmas.List.{reverse-append, append-nil}
use Rattle.std.proofs.lemmas.Bool.Decides.{nat_tests}
use Rattle.std.specs.List.{Contains}
use Rattle.braid_ids.specs.Agents.{IsAgent, agent_name}
use Rattle.braid_ids.specs.Frontiers.{IsRising}
use Rattle.braid_ids.proofs.Named.{named_identifier}
use Rattle.braid_change.specs.declared.change.Change.{Change}
use Rattle.braid_change.specs.declared.change.Change.TheVariants.{Patches}
use Rattle.braid_change.specs.Updates.{UpdateView, IsBuilt}
use Rattle.braid_change.specs.Splices.{spliced}
use Rattle.braid_tree.specs.Keys.{Key, key_cmp}
use Rattle.braid_tree.specs.Nodes.{Node, with_nodes}
use Rattle.braid_tree.specs.Trees.{Member}
use Rattle.braid_rebase.specs.Additions.{has_key, chars_of, added_nodes, deleted_keys}
use Rattle.braid_rebase.proofs.Members.{contains_member, member_contains}
use Rattle.braid_text.specs.Versions.{Version, has_version, deletes, greatest_level, document_in, sees, seen_in, version_in, versions_in}
use Rattle.braid_text.specs.Histories.{Follows, IsLegalLog}
use Rattle.braid_text.proofs.Held.{has_version_more}
use Rattle.braid_text.proofs.Whole.{whole_legal}
use Rattle.braid_text.proofs.Logs.{Has, has_holds, holds_has}
use Rattle.braid_text.proofs.Own.{known_node}
use Rattle.braid_text.proofs.Ties.{frontier_whole}
use Rattle.braid_outbox.specs.Replicas.{IsChained, frontier, greatest_number}
use Rattle.braid_outbox.specs.Writes.{next_in, merge_parents, merges_in, last_id}
use Rattle.braid_outbox.proofs.Shapes.{built_from}
use Rattle.braid_outbox.proofs.Names.{IsName, next_new, next_greatest}
use Rattle.braid_outbox.proofs.Fronts.{frontier_cases, newest_in, narrower, merge_in, merge_few, merge_rises, merge_names}

filter_same : {A : Type 0} (p q : A → Bool) (xs : List A) → ((x : A) → Member x xs → p x ≡ q x) → filter p xs ≡ filter q xs
filter_same p q [] h = refl
filter_same p q (x ∷ xs) h = ap (λ (b : Bool). cond b (x ∷ filter p xs) (filter p xs)) (h x (inl refl)) ∙ ap (λ ys. cond (q x) (x ∷ ys) ys) (filter_same p q xs (λ y m. h y (inr m)))

-- a pure merge changes no text
pub seen_merge : (us : List UpdateView) (m : UpdateView) → IsLegalLog (m ∷ us) → m.change ≡ Patches [] → seen_in (versions_in (m ∷ us)) (frontier (m ∷ us)) ≡ seen_in (versions_in us) (frontier us)
seen_merge us m legal pure =
    ap (λ (as' : List Version). filter (sees as') (document_in (v ∷ vs))) (frontier_whole (m ∷ us) legal)
    ∙ ap (filter (sees (v ∷ vs))) (ap (λ (zs : List (Node Key)). with_nodes key_cmp zs (document_in vs)) no_nodes)
    ∙ filter_same (sees (v ∷ vs)) (sees vs) (document_in vs) same
    ∙ ap (λ (as' : List Version). filter (sees as') (document_in vs)) (sym (frontier_whole us legal.1))
  where
    vs : List Version
    vs = versions_in us

    v : Version
    v = version_in m vs

    S : List (Node Key)
    S = seen_in vs m.parents

    no_nodes : v.nodes ≡ []
    no_nodes = ap (λ (c : Change). added_nodes (1 + greatest_level vs m.parents) m.id S c) pure

    no_deleted : v.deleted ≡ []
    no_deleted = ap (λ (c : Change). deleted_keys S c) pure

    same : (x : Node Key) → Member x (document_in vs) → sees (v ∷ vs) x ≡ sees vs x
    same x n = let b : has_version x.key.id vs ≡ true = known_node vs (whole_legal us legal.1) x n in
        ap (λ (t : Bool). t && not (deletes x.key (v ∷ vs))) (has_version_more x.key.id v vs b)
        ∙ ap (λ (js : List Key). not (has_key x.key js || deletes x.key vs)) no_deleted
        ∙ sym (ap (λ (t : Bool). t && not (deletes x.key vs)) b)

pub chained_more : (xs : List UpdateView) (u : UpdateView) → IsChained xs → ((v : List ℕ) → last_id xs ≡ Some v → Contains u.parents v) → IsChained (xs ++ u ∷ [])
chained_more [] u c h = (tt, tt)
chained_more (x ∷ []) u c h = (h x.id refl, (tt, tt))
chained_more (x ∷ y ∷ xs) u c h = (c.0, chained_more (y ∷ xs) u c.1 h)

pub last_more : (xs : List UpdateView) (u : UpdateView) → last_id (xs ++ u ∷ []) ≡ Some u.id
last_more [] u = refl
last_more (x ∷ []) u = refl
last_more (x ∷ y ∷ xs) u = last_more (y ∷ xs) u

pub last_split : (xs : List UpdateView) (v : List ℕ) → last_id xs ≡ Some v → (ys : List UpdateView) × (x : UpdateView) × (xs ≡ ys ++ x ∷ []) × (x.id ≡ v)
last_split [] v h = cc
last_split (x ∷ []) v h = ([], x, refl, cc)
last_split (x ∷ y ∷ xs) v h = wider (last_split (y ∷ xs) v h)
  where
    wider : (ys : List UpdateView) × (z : UpdateView) × (y ∷ xs ≡ ys ++ z ∷ []) × (z.id ≡ v) → (ys : List UpdateView) × (z : UpdateView) × (x ∷ y ∷ xs ≡ ys ++ z ∷ []) × (z.id ≡ v)
    wider (ys, z, e, f) = (x ∷ ys, z, ap (λ t. x ∷ t) e, f)

-- what pure merges leave: a legal log, a chain, names of the agent in order, and the same text
pub record Added (n : ℕ) (a : List ℕ) (us os ms : List UpdateView) : Type 0 where
  pub legal : IsLegalLog (reverse ms ++ us)
  pub chained : IsChained (os ++ ms)
  pub named : (m : UpdateView) → Member m ms → IsName a m.id
  pub greatest : greatest_number a (reverse ms ++ us) ≡ greatest_number a us + length ms
  pub text : seen_in (versions_in (reverse ms ++ us)) (frontier (reverse ms ++ us)) ≡ seen_in (versions_in us) (frontier us)
  pub newest : (v : List ℕ) → last_id (os ++ ms) ≡ Some v → Member v (frontier (reverse ms ++ us))
  pub narrow : length (frontier us) ≤ 32 + n → length (frontier (reverse ms ++ us)) ≤ 32

none_added : (n : ℕ) (a : List ℕ) (us os : List UpdateView) → (length (frontier us) ≤ 32 + n → length (frontier us) ≤ 32) → IsLegalLog us → IsChained os → ((v : List ℕ) → last_id os ≡ Some v → Member v (frontier us)) → Added n a us os []
none_added n a us os narrow legal chained newest = record {
  legal = legal;
  chained = subst IsChained (sym (append-nil os)) chained;
  named = λ m n. absurd n;
  greatest = omega arith;
  text = refl;
  newest = λ v e. newest v (ap last_id (sym (append-nil os)) ∙ e);
  narrow = narrow;
}

pub turned : (m : UpdateView) (ms us : List UpdateView) → reverse (m ∷ ms) ++ us ≡ reverse ms ++ m ∷ us
turned m ms us = ap (λ t. t ++ us) (reverse-append (m ∷ []) ms) ∙ append_assoc (reverse ms) (m ∷ []) us

-- an update of the agent at members of the frontier
pub next_follows : (a : List ℕ) (us : List UpdateView) (ps : List (List ℕ)) (c : Change) → IsAgent a → 1 + greatest_number a us < 2 ^ 64 → ((p : List ℕ) → Member p ps → Member p (frontier us))
    → IsRising ps → IsBuilt ps c → IsSome (spliced (chars_of (seen_in (versions_in us) ps)) c) → Follows us (next_in a us ps c)
next_follows a us ps c agent small inside rising built fits = record {
  new = λ h. fresh (holds_has us (agent_name a (1 + greatest_number a us)) h);
  named = named_identifier a (1 + greatest_number a us) agent small;
  parents_held = λ p k. has_holds us p (frontier_cases us p (inside p (contains_member ps p k))).0;
  rising = rising;
  built = built;
  fits = fits;
}
  where
    fresh : Has us (agent_name a (1 + greatest_number a us)) → ⊥
    fresh (w, m, e) = next_new a us w small m e

-- a pure merge of the last unsent update and others may follow
pub merge_follows : (a : List ℕ) (last : Option (List ℕ)) (us : List UpdateView) → IsAgent a → ((v : List ℕ) → last ≡ Some v → Member v (frontier us)) → 1 + greatest_number a us < 2 ^ 64
    → Follows us (next_in a us (merge_parents last (frontier us)) (Patches []))
merge_follows a last us agent there small = next_follows a us (merge_parents last F) (Patches []) agent small (merge_in last F there) (merge_rises last F) (built_from (merge_parents last F) (Patches []) (merge_few last F) refl) refl
  where
    F : List (List ℕ)
    F = frontier us

pub merges_good : (n : ℕ) (a : List ℕ) (last : Option (List ℕ)) (us os : List UpdateView) → IsAgent a → IsLegalLog us → IsChained os → last ≡ last_id os → ((v : List ℕ) → last ≡ Some v → Member v (frontier us))
    → greatest_number a us + length (merges_in n a last us) < 2 ^ 64 → Added n a us os (merges_in n a last us)
merges_good zero a last us os agent legal chained e there small = none_added zero a us os (λ h. h) legal chained (λ v f. there v (e ∙ f))
merges_good (suc n) a last us os agent legal chained e there small = go (nat_le (length F) 32) refl small (λ l c s. merges_good n a (Some m.id) (m ∷ us) (os ++ m ∷ []) agent (l, legal) c (sym (last_more os m)) (λ v f. subst (λ (i : List ℕ). Member i (frontier (m ∷ us))) (let g : m.id ≡ v = cc in g) (newest_in m us (l, legal))) s)
  where
    F : List (List ℕ)
    F = frontier us

    m : UpdateView
    m = next_in a us (merge_parents last F) (Patches [])

    more : List UpdateView
    more = merges_in n a (Some m.id) (m ∷ us)

    follows : 1 + greatest_number a us < 2 ^ 64 → Follows us m
    follows s = merge_follows a last us agent there s

    chain : IsChained (os ++ m ∷ [])
    chain = chained_more os m chained (λ v f. member_contains (merge_parents last F) v (subst (λ (o : Option (List ℕ)). Member v (merge_parents o F)) (sym (e ∙ f)) (merge_names v F)))

    widen : (l : Follows us m) → 1 + greatest_number a us < 2 ^ 64 → 32 < length F → Added n a (m ∷ us) (os ++ m ∷ []) more → Added (suc n) a us os (m ∷ more)
    widen l s wide r = record {
      legal = subst IsLegalLog (sym (turned m more us)) r.legal;
      chained = subst IsChained (append_assoc os (m ∷ []) more) r.chained;
      named = λ x k. elim k [ inl f ↦ subst (λ (t : UpdateView). IsName a t.id) f (1 + greatest_number a us, refl, omega arith, s) | inr k ↦ r.named x k ];
      greatest = let g = next_greatest a us m s refl in let h = r.greatest in let t = ap (greatest_number a) (turned m more us) in omega (arith, g, h, t);
      text = ap (λ (ks : List UpdateView). seen_in (versions_in ks) (frontier ks)) (turned m more us) ∙ r.text ∙ seen_merge us m (l, legal) refl;
      newest = λ v f. subst (λ (ks : List UpdateView). Member v (frontier ks)) (sym (turned m more us)) (r.newest v (ap last_id (append_assoc os (m ∷ []) more) ∙ f));
      narrow = λ h. subst (λ (ks : List UpdateView). length (frontier ks) ≤ 32) (sym (turned m more us)) (r.narrow (let d = narrower us m last (l, legal) refl there wide in omega (arith, d, h)));
    }

    within : nat_le (length F) 32 ≡ true → length F ≤ 32
    within t = grind (arith, nat_tests)

    without : nat_le (length F) 32 ≡ false → 32 < length F
    without t = grind (arith, nat_tests)

    go : (b : Bool) → nat_le (length F) 32 ≡ b → greatest_number a us + length (cond b [] (m ∷ more)) < 2 ^ 64
        → (Follows us m → IsChained (os ++ m ∷ []) → greatest_number a (m ∷ us) + length more < 2 ^ 64 → Added n a (m ∷ us) (os ++ m ∷ []) more) → Added (suc n) a us os (cond b [] (m ∷ more))
    go true t s ih = none_added (suc n) a us os (λ h. within t) legal chained (λ v f. there v (e ∙ f))
    go false t s ih = let one : 1 + greatest_number a us < 2 ^ 64 = omega (arith, s) in let g = next_greatest a us m one refl in widen (follows one) one (without t) (ih (follows one) chain (omega (arith, g, s)))
