-- Legal logs: what they hold, and an update that may follow one may follow another that does not differ from it.
use Rattle.std.proofs.Common.{◌≡◌, List, [], ◌∷◌, ◌++◌, Bool, true, false, refl, sym, ap, subst, ◌∙◌, inl, inr, ◌⊎◌, IsSome, ℕ}
use Rattle.braid_tree.specs.Keys.{Key}
use Rattle.braid_tree.specs.Nodes.{Node}
use Rattle.braid_change.specs.Updates.{UpdateView}
use Rattle.braid_text.specs.Versions.{Version, has_version, seen_in, versions_in, version_in}
use Rattle.braid_text.specs.Histories.{Follows, IsLegalLog, graph_of}
use Rattle.braid_tree.specs.Trees.{Member}
use Rattle.braid_text.proofs.Held.{version_member, update_version, one_update, update_of, holds_version, new_in, parents_in, version_holds}
use Rattle.braid_text.proofs.Whole.{whole_legal}
use Rattle.braid_text.proofs.Same.{Compatible, held_parents, same_read}
use Rattle.braid_change.specs.Splices.{spliced}
use Rattle.braid_rebase.proofs.Members.{contains_member}
use Rattle.braid_rebase.specs.Additions.{chars_of}
use Rattle.braid_graph.specs.Entries.{Holds}

-- an update's version has its parents
pub version_at : (us : List UpdateView) (u : UpdateView) → Member u us → (x : Version) × Member x (versions_in us) × (x.id ≡ u.id) × (x.parents ≡ u.parents)
version_at [] u m = absurd m
version_at (w ∷ us) u (inl e) = (version_in w (versions_in us), inl refl, ap (λ (t : UpdateView). t.id) e, ap (λ (t : UpdateView). t.parents) e)
version_at (w ∷ us) u (inr m) = wider (version_at us u m)
  where
    wider : (x : Version) × Member x (versions_in us) × (x.id ≡ u.id) × (x.parents ≡ u.parents) → (x : Version) × Member x (versions_in (w ∷ us)) × (x.id ≡ u.id) × (x.parents ≡ u.parents)
    wider (x, n, f, g) = (x, inr n, f, g)

-- an update of the list has the identifier
abbrev pub Has : List UpdateView → List ℕ → Type 0
Has us v = (u : UpdateView) × Member u us × (u.id ≡ v)

pub held : (us : List UpdateView) (v : List ℕ) → has_version v (versions_in us) ≡ true → Has us v
held us v h = go (version_member v (versions_in us) h)
  where
    go : (w : Version) × Member w (versions_in us) × (w.id ≡ v) → Has us v
    go (w, m, e) = by (update_of us w m)
      where
        by : (a : UpdateView) × Member a us × (a.id ≡ w.id) → Has us v
        by (a, n, f) = (a, n, f ∙ e)

pub has : (us : List UpdateView) (v : List ℕ) → Has us v → has_version v (versions_in us) ≡ true
has us v (u, m, e) = subst (λ (i : List ℕ). has_version i (versions_in us) ≡ true) e (update_version us u m)

-- the same as the graph says it
pub has_holds : (us : List UpdateView) (v : List ℕ) → Has us v → Holds (graph_of us) v
has_holds us v h = version_holds us v (has us v h)

pub holds_has : (us : List UpdateView) (v : List ℕ) → Holds (graph_of us) v → Has us v
holds_has us v h = held us v (holds_version us v h)

pub true_or : (b : Bool) → (b ≡ true) ⊎ (b ≡ false)
true_or true = inl refl
true_or false = inr refl

pub false_from : (b : Bool) → ((b ≡ true) → ⊥) → b ≡ false
false_from true h = absurd (h refl)
false_from false h = refl

pub not_has : (us : List UpdateView) (v : List ℕ) → has_version v (versions_in us) ≡ false → Has us v → ⊥
not_has us v f h = let t = has us v h in cc

pub not_held : (us : List UpdateView) (v : List ℕ) → (Has us v → ⊥) → has_version v (versions_in us) ≡ false
not_held us v h = false_from (has_version v (versions_in us)) (λ t. h (held us v t))

abbrev pub IsPartOf : List UpdateView → List UpdateView → Type 0
IsPartOf us ks = (u : UpdateView) → Member u us → Member u ks

pub has_part : (us ks : List UpdateView) → IsPartOf us ks → (v : List ℕ) → Has us v → Has ks v
has_part us ks part v (u, m, e) = (u, part u m, e)

-- every member's parents are held
pub parents_held : (us : List UpdateView) → IsLegalLog us → (u : UpdateView) → Member u us → (p : List ℕ) → Member p u.parents → Has us p
parents_held us legal u m p n = go (version_at us u m)
  where
    go : (x : Version) × Member x (versions_in us) × (x.id ≡ u.id) × (x.parents ≡ u.parents) → Has us p
    go (x, k, e, f) = held us p (held_parents (versions_in us) (whole_legal us legal).ordered x k p (subst (Member p) (sym f) n))

pub follows_held : (us : List UpdateView) (u : UpdateView) → Follows us u → (p : List ℕ) → Member p u.parents → Has us p
follows_held us u f p m = held us p (parents_in us u f p m)

-- an update that may follow one legal log may follow another that has its parents, lacks its identifier and differs from the first under none
pub follows_there : (hs ks : List UpdateView) (u : UpdateView) → IsLegalLog hs → IsLegalLog ks → Follows hs u → Compatible hs ks → ((p : List ℕ) → Member p u.parents → Has ks p) → has_version u.id (versions_in ks) ≡ false → Follows ks u
follows_there hs ks u lh lk f compatible there new = record {
  new = λ h. (let t = holds_version ks u.id h in cc);
  named = f.named;
  parents_held = λ p c. version_holds ks p (has ks p (there p (contains_member u.parents p c)));
  rising = f.rising;
  built = f.built;
  fits = subst (λ (S : List (Node Key)). IsSome (spliced (chars_of S) u.change)) same f.fits;
}
  where
    same : seen_in (versions_in hs) u.parents ≡ seen_in (versions_in ks) u.parents
    same = same_read hs ks lh lk compatible u.parents (parents_in hs u f) (λ p m. has ks p (there p m))

pub compatible_parts : (us ks hs : List UpdateView) → IsLegalLog hs → IsPartOf us hs → IsPartOf ks hs → Compatible us ks
compatible_parts us ks hs legal pu pk u w m n e = one_update hs legal u w (pu u m) (pk w n) e

pub in_back : (xs ys : List UpdateView) → IsPartOf ys (xs ++ ys)
in_back [] ys u m = m
in_back (x ∷ xs) ys u m = inr (in_back xs ys u m)

-- what is in the list with u put in is in the list, or u
pub with_between : (os cs : List UpdateView) (u : UpdateView) → IsPartOf (os ++ cs) (os ++ u ∷ cs)
with_between [] cs u x m = inr m
with_between (o ∷ os) cs u x (inl e) = inl e
with_between (o ∷ os) cs u x (inr m) = inr (with_between os cs u x m)

pub from_between : (os cs : List UpdateView) (u x : UpdateView) → Member x (os ++ u ∷ cs) → (u ≡ x) ⊎ Member x (os ++ cs)
from_between [] cs u x (inl e) = inl e
from_between [] cs u x (inr m) = inr m
from_between (o ∷ os) cs u x (inl e) = inr (inl e)
from_between (o ∷ os) cs u x (inr m) = elim (from_between os cs u x m) [ inl e ↦ inl e | inr n ↦ inr (inr n) ]

pub legal_back : (os cs : List UpdateView) → IsLegalLog (os ++ cs) → IsLegalLog cs
legal_back [] cs legal = legal
legal_back (o ∷ os) cs legal = legal_back os cs legal.1

-- an update put before newer ones that do not know it
pub legal_between : (os cs : List UpdateView) (u : UpdateView) → IsLegalLog (os ++ cs) → Follows cs u → (Has (os ++ cs) u.id → ⊥) → IsLegalLog (os ++ u ∷ cs)
legal_between [] cs u legal f new = (f, legal)
legal_between (o ∷ os) cs u legal f new = let before = legal_between os cs u legal.1 f (λ h. new (has_part (os ++ cs) (o ∷ (os ++ cs)) (λ x m. inr m) u.id h)) in (next before, before)
  where
    fresh : Has (os ++ u ∷ cs) o.id → ⊥
    fresh (x, m, e) = elim (from_between os cs u x m) [
      | inl g ↦ new (o, inl refl, sym e ∙ ap (λ (t : UpdateView). t.id) (sym g))
      | inr n ↦ not_has (os ++ cs) o.id (new_in (os ++ cs) o legal.0) (x, n, e)
    ]

    next : IsLegalLog (os ++ u ∷ cs) → Follows (os ++ u ∷ cs) o
    next before = follows_there (os ++ cs) (os ++ u ∷ cs) o legal.1 before legal.0
        (compatible_parts (os ++ cs) (os ++ u ∷ cs) (os ++ u ∷ cs) before (with_between os cs u) (λ x m. m))
        (λ p m. has_part (os ++ cs) (os ++ u ∷ cs) (with_between os cs u) p (follows_held (os ++ cs) o legal.0 p m))
        (not_held (os ++ u ∷ cs) o.id fresh)
