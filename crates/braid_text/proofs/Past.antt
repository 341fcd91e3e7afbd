-- Ancestries that stay within a shorter history, and lists split at a member that a test keeps.
use Rattle.std.proofs.Common.{◌≡◌, ℕ, List, [], ◌∷◌, ◌++◌, Bool, true, false, cond, refl, ap, subst, ◌∙◌, inl, inr, filter, take, Some, suc, zero}
use Rattle.std.specs.List.{slice_get}
use Rattle.braid_change.specs.Updates.{UpdateView}
use Rattle.braid_text.specs.Versions.{Version, ancestors_in, version_in, versions_in}
use Rattle.braid_graph.specs.Entries.{has_id}
use Rattle.braid_text.specs.Histories.{IsLegalLog}
use Rattle.braid_tree.specs.Trees.{Member}
use Rattle.braid_tree.proofs.Member.{member_append_cases}
use Rattle.braid_text.proofs.Held.{id_member}
use Rattle.braid_text.proofs.Logs.{Has, parents_held}

-- the ancestry of a frontier that a legal log holds is in the log, where it agrees with the history
pub ancestors_held : (cs : List UpdateView) → IsLegalLog cs → (us : List UpdateView) (F : List (List ℕ)) → ((u : UpdateView) → Member u us → Has cs u.id → Member u cs) → ((v : List ℕ) → Member v F → Has cs v)
    → (w : Version) → Member w (ancestors_in (versions_in us) F) → Has cs w.id
ancestors_held cs legal [] F agree base w m = absurd m
ancestors_held cs legal (u ∷ us) F agree base w m = go (has_id u.id F) refl m (λ G. ancestors_held cs legal us G (λ x n. agree x (inr n)))
  where
    go : (b : Bool) → has_id u.id F ≡ b → Member w (cond b (version_in u (versions_in us) ∷ ancestors_in (versions_in us) (u.parents ++ F)) (ancestors_in (versions_in us) F))
        → ((G : List (List ℕ)) → ((v : List ℕ) → Member v G → Has cs v) → (w : Version) → Member w (ancestors_in (versions_in us) G) → Has cs w.id) → Has cs w.id
    go true e (inl f) ih = subst (λ (t : Version). Has cs t.id) f (base u.id (id_member u.id F e))
    go true e (inr n) ih = ih (u.parents ++ F) (λ v k. elim (member_append_cases v u.parents F k) [
      | inl a ↦ parents_held cs legal u (agree u (inl refl) (base u.id (id_member u.id F e))) v a
      | inr b ↦ base v b
    ]) w n
    go false e n ih = ih F base w n

-- an element of a filtered list splits the list
pub filter_split : {A : Type 0} (p : A → Bool) (xs : List A) (k : ℕ) (x : A) → slice_get (filter p xs) k ≡ Some x → (a : List A) × (b : List A) × (xs ≡ a ++ x ∷ b) × (filter p a ≡ take k (filter p xs))
filter_split p [] k x h = cc
filter_split {A = A} p (y ∷ xs) k x h = go (p y) refl k h (λ j. filter_split p xs j x)
  where
    Split : ℕ → List A → List A → Type 0
    Split k ys fs = (a : List A) × (b : List A) × (ys ≡ a ++ x ∷ b) × (filter p a ≡ take k fs)

    go : (c : Bool) → p y ≡ c → (k : ℕ) → slice_get (cond c (y ∷ filter p xs) (filter p xs)) k ≡ Some x
        → ((j : ℕ) → slice_get (filter p xs) j ≡ Some x → Split j xs (filter p xs)) → Split k (y ∷ xs) (cond c (y ∷ filter p xs) (filter p xs))
    go true e zero h ih = ([], xs, (let f : y ≡ x = cc in ap (λ t. t ∷ xs) f), refl)
    go true e (suc j) h ih = wider (ih j h)
      where
        wider : Split j xs (filter p xs) → Split (suc j) (y ∷ xs) (y ∷ filter p xs)
        wider (a, b, f, g) = (y ∷ a, b, ap (λ t. y ∷ t) f, ap (λ c. cond c (y ∷ filter p a) (filter p a)) e ∙ ap (λ t. y ∷ t) g)
    go false e k h ih = wider (ih k h)
      where
        wider : Split k xs (filter p xs) → Split k (y ∷ xs) (filter p xs)
        wider (a, b, f, g) = (y ∷ a, b, ap (λ t. y ∷ t) f, ap (λ c. cond c (y ∷ filter p a) (filter p a)) e ∙ g)
