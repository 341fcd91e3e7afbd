-- The walk from the newest entry to the oldest finds exactly the ancestry.
use Rattle.std.proofs.Common.{◌≡◌, ℕ, List, [], ◌∷◌, ◌++◌, Bool, true, false, cond, reverse, refl, sym, subst, inl, inr, ◌⊎◌}
use Rattle.std.specs.List.{Contains}
use Rattle.braid_graph.specs.Entries.{GraphEntry, ids_of, HoldsAll, IsHistoryGraph, has_id}
use Rattle.braid_graph.specs.Ancestries.{IsAncestor, named, parent, IsClosed, IsAncestry, ancestry_in, ancestry_of}
use Rattle.braid_ids.proofs.Members.{Member, contains_member, member_contains, member_append_left, member_append_right, member_append_cases, member_reverse, member_from_reverse}
use Rattle.braid_graph.proofs.Ids.{id_member, member_id}
use Rattle.braid_graph.proofs.Newest.{IsNewestFirst, entry_id, newest_first, ids_reverse}

-- the ancestry speaks of the entries alone, in whatever order they are
pub same_ancestry : (es fs : List GraphEntry) → ((e : GraphEntry) → Contains es e → Contains fs e) → (F : List (List ℕ)) (v : List ℕ) → IsAncestor es F v → IsAncestor fs F v
same_ancestry es fs same F v (named w c) = named w c
same_ancestry es fs same F v (parent e w c a d) = parent e w (same e c) (same_ancestry es fs same F e.id a) d

-- it is the least closed set
pub least : (es : List GraphEntry) (F : List (List ℕ)) (P : List ℕ → Type 0) → ((v : List ℕ) → Contains F v → P v) → ((e : GraphEntry) (v : List ℕ) → Contains es e → P e.id → Contains e.parents v → P v)
    → (v : List ℕ) → IsAncestor es F v → P v
least es F P names parents v (named w c) = names w c
least es F P names parents v (parent e w c a d) = parents e w c (least es F P names parents e.id a) d

-- what is walked is in the ancestry
walked : (H R : List GraphEntry) (F G : List (List ℕ)) → ((e : GraphEntry) → Member e R → Contains H e) → ((v : List ℕ) → Member v G → IsAncestor H F v) → (v : List ℕ) → Member v (ancestry_in R G) → IsAncestor H F v
walked H [] F G sub base v m = absurd m
walked H (e ∷ R) F G sub base v m = go (has_id e.id G) refl m (λ K. walked H R F K (λ d n. sub d (inr n)))
  where
    go : (b : Bool) → has_id e.id G ≡ b → Member v (cond b (e.id ∷ ancestry_in R (e.parents ++ G)) (ancestry_in R G))
        → ((K : List (List ℕ)) → ((w : List ℕ) → Member w K → IsAncestor H F w) → (w : List ℕ) → Member w (ancestry_in R K) → IsAncestor H F w) → IsAncestor H F v
    go true t (inl same) ih = subst (IsAncestor H F) same (base e.id (id_member e.id G t))
    go true t (inr n) ih = ih (e.parents ++ G) (λ w k. elim (member_append_cases w e.parents G k) [
      | inl a ↦ parent e w (sub e (inl refl)) (base e.id (id_member e.id G t)) (member_contains e.parents w a)
      | inr b ↦ base w b
    ]) v n
    go false t n ih = ih G base v n

-- a held member of the frontier is walked
base_in : (R : List GraphEntry) (F : List (List ℕ)) (v : List ℕ) → Member v F → Member v (ids_of R) → Member v (ancestry_in R F)
base_in [] F v m n = absurd n
base_in (e ∷ R) F v m n = go (has_id e.id F) refl n (λ G. base_in R G v)
  where
    go : (b : Bool) → has_id e.id F ≡ b → (e.id ≡ v) ⊎ Member v (ids_of R) → ((G : List (List ℕ)) → Member v G → Member v (ids_of R) → Member v (ancestry_in R G)) → Member v (cond b (e.id ∷ ancestry_in R (e.parents ++ F)) (ancestry_in R F))
    go true t (inl same) ih = inl same
    go true t (inr k) ih = inr (ih (e.parents ++ F) (member_append_right v e.parents F m) k)
    go false t (inl same) ih = absurd (let g = member_id e.id F (subst (λ (w : List ℕ). Member w F) (sym same) m) in cc)
    go false t (inr k) ih = ih F m k

-- what is walked is held
walked_held : (R : List GraphEntry) (F : List (List ℕ)) (v : List ℕ) → Member v (ancestry_in R F) → Member v (ids_of R)
walked_held [] F v m = absurd m
walked_held (e ∷ R) F v m = go (has_id e.id F) m (λ G. walked_held R G v)
  where
    go : (b : Bool) → Member v (cond b (e.id ∷ ancestry_in R (e.parents ++ F)) (ancestry_in R F)) → ((G : List (List ℕ)) → Member v (ancestry_in R G) → Member v (ids_of R)) → (e.id ≡ v) ⊎ Member v (ids_of R)
    go true (inl same) ih = inl same
    go true (inr n) ih = inr (ih (e.parents ++ F) n)
    go false n ih = inr (ih F n)

-- the parents of what is walked are walked
parent_in : (R : List GraphEntry) (F : List (List ℕ)) → IsNewestFirst R → (e : GraphEntry) → Member e R → Member e.id (ancestry_in R F) → (p : List ℕ) → Member p e.parents → Member p (ancestry_in R F)
parent_in [] F o e n m p k = absurd n
parent_in (c ∷ R) F o e (inl a) m p k = go (has_id c.id F) (subst (λ (t : GraphEntry). Member t.id (ancestry_in (c ∷ R) F)) (sym a) m)
  where
    mine : Member p c.parents
    mine = subst (λ (t : GraphEntry). Member p t.parents) (sym a) k

    go : (b : Bool) → Member c.id (cond b (c.id ∷ ancestry_in R (c.parents ++ F)) (ancestry_in R F)) → Member p (cond b (c.id ∷ ancestry_in R (c.parents ++ F)) (ancestry_in R F))
    go true m = inr (base_in R (c.parents ++ F) p (member_append_left p c.parents F mine) (o.1 p mine))
    go false m = absurd (o.0 (walked_held R F c.id m))
parent_in (c ∷ R) F o e (inr n) m p k = go (has_id c.id F) m (λ G h. parent_in R G o.2 e n h p k)
  where
    go : (b : Bool) → Member e.id (cond b (c.id ∷ ancestry_in R (c.parents ++ F)) (ancestry_in R F)) → ((G : List (List ℕ)) → Member e.id (ancestry_in R G) → Member p (ancestry_in R G)) → Member p (cond b (c.id ∷ ancestry_in R (c.parents ++ F)) (ancestry_in R F))
    go true (inl same) ih = absurd (o.0 (subst (λ (t : List ℕ). Member t (ids_of R)) (sym same) (entry_id e R n)))
    go true (inr h) ih = inr (ih (c.parents ++ F) h)
    go false h ih = ih F h

pub walk_sound : (es : List GraphEntry) (F : List (List ℕ)) (v : List ℕ) → Contains (ancestry_of es F) v → IsAncestor es F v
walk_sound es F v c = walked es (reverse es) F F (λ e m. member_contains es e (member_from_reverse es e m)) (λ w m. named w (member_contains F w m)) v (contains_member (ancestry_of es F) v c)

pub walk_closed : (es : List GraphEntry) (F : List (List ℕ)) → IsHistoryGraph es → HoldsAll es F → IsClosed es F (ancestry_of es F)
walk_closed es F h held = record {
  names = λ v c. member_contains (ancestry_of es F) v (base_in (reverse es) F v (contains_member F v c) (ids_reverse es v (contains_member (ids_of es) v (held v c))));
  parents = λ e v c a d. member_contains (ancestry_of es F) v (parent_in (reverse es) F (newest_first es h) e (member_reverse es e (contains_member es e c)) (contains_member (ancestry_of es F) e.id a) v (contains_member e.parents v d));
}

pub walk_complete : (es : List GraphEntry) (F : List (List ℕ)) → IsHistoryGraph es → HoldsAll es F → (v : List ℕ) → IsAncestor es F v → Contains (ancestry_of es F) v
walk_complete es F h held = let c = walk_closed es F h held in least es F (Contains (ancestry_of es F)) c.names c.parents

pub walk_least : (es : List GraphEntry) (F : List (List ℕ)) → IsHistoryGraph es → HoldsAll es F → IsAncestry es F (ancestry_of es F)
walk_least es F h held = record {
  closed = walk_closed es F h held;
  least = λ ys c v m. least es F (Contains ys) c.names c.parents v (walk_sound es F v m);
}
