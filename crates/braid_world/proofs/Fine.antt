-- Lists that make a replica have no entry that is in the way.
use Rattle.std.proofs.Common.{◌≡◌, ℕ, ◌≤◌, ◌+◌, ◌-◌, List, [], ◌∷◌, ◌++◌, refl, sym, ap, subst, ◌∙◌, inl, inr, arith, length, length-append, take, drop, reverse, take-append-drop, suc, zero}
use Rattle.braid_change.specs.Updates.{UpdateView}
use Rattle.braid_text.specs.Versions.{version_in, versions_in, elements_by, deletions_by, elements_in, deletions_in}
use Rattle.braid_text.specs.Histories.{IsLegalLog}
use Rattle.braid_text.proofs.Logs.{legal_back}
use Rattle.braid_outbox.specs.Replicas.{ReplicaView, Names, IsChained}
use Rattle.braid_outbox.specs.Made.{IsFine, IsFineTo, MakesReplica, IsBadReplica}
use Rattle.braid_outbox.specs.declared.faults.BadReplica.TheVariants.{Entry}
use Rattle.braid_outbox.specs.declared.world.Side.{Side}
use Rattle.braid_outbox.specs.Worlds.{kept_of}
use Rattle.braid_outbox.proofs.Additions.{log_parts}

-- the first entries of both lists are the first of all
split_take : (C O : List UpdateView) (n k : ℕ) → k ≡ n - length C → (rest : List UpdateView) × (C ++ O ≡ (take n C ++ take k O) ++ rest)
split_take [] O zero k e = (drop k O, sym (take-append-drop k O))
split_take [] O (suc n) k e = (drop k O, sym (take-append-drop k O))
split_take (c ∷ C) O zero k e = let z : k ≡ 0 = omega (arith, e) in (c ∷ (C ++ O), subst (λ (j : ℕ). c ∷ (C ++ O) ≡ take j O ++ (c ∷ (C ++ O))) (sym z) refl)
split_take (c ∷ C) O (suc n) k e = let p = split_take C O n k (omega (arith, e)) in (p.0, ap (λ (t : List UpdateView). c ∷ t) p.1)

-- a chain's front is one
chain_take : (k : ℕ) (os : List UpdateView) → IsChained os → IsChained (take k os)
chain_take zero os c = tt
chain_take (suc k) [] c = tt
chain_take (suc k) (u ∷ us) c = (names k us c.0, chain_take k us c.1)
  where
    names : (k : ℕ) (us : List UpdateView) → Names u.id us → Names u.id (take k us)
    names zero us n = tt
    names (suc k) [] n = tt
    names (suc k) (w ∷ ws) n = n

-- counts grow
elements_grow : (os cs : List UpdateView) → length (elements_in (versions_in cs)) ≤ length (elements_in (versions_in (os ++ cs)))
elements_grow [] cs = omega arith
elements_grow (o ∷ os) cs = let h = elements_grow os cs in let n = length-append (elements_in (versions_in (os ++ cs))) (elements_by (version_in o (versions_in (os ++ cs)))) in omega (arith, h, n)

deletions_grow : (os cs : List UpdateView) → length (deletions_in (versions_in cs)) ≤ length (deletions_in (versions_in (os ++ cs)))
deletions_grow [] cs = omega arith
deletions_grow (o ∷ os) cs = let h = deletions_grow os cs in let n = length-append (deletions_in (versions_in (os ++ cs))) (deletions_by (version_in o (versions_in (os ++ cs)))) in omega (arith, h, n)

-- the first entries of lists that are fine are fine
fine_to : (C O : List UpdateView) → IsFine C O → (n : ℕ) → IsFineTo C O n
fine_to C O fine n = go (split_take C O n (n - length C) refl)
  where
    go : (rest : List UpdateView) × (C ++ O ≡ (take n C ++ take (n - length C) O) ++ rest) → IsFineTo C O n
    go (rest, e) = record {
      legal = legal_back (reverse rest) (reverse front) (subst IsLegalLog log fine.legal);
      chained = chain_take (n - length C) O fine.chained;
      versions = let a = fine.versions in let b = ap length e in let d = length-append front rest in omega (arith, a, b, d);
      elements = let a = fine.elements in let b = elements_grow (reverse rest) (reverse front) in let d = ap (λ (us : List UpdateView). length (elements_in (versions_in us))) log in omega (arith, a, b, d);
      deletions = let a = fine.deletions in let b = deletions_grow (reverse rest) (reverse front) in let d = ap (λ (us : List UpdateView). length (deletions_in (versions_in us))) log in omega (arith, a, b, d);
    }
      where
        front : List UpdateView
        front = take n C ++ take (n - length C) O

        log : reverse (C ++ O) ≡ reverse rest ++ reverse front
        log = ap reverse e ∙ log_parts front rest

pub none_bad : (C O : List UpdateView) (n : ℕ) → MakesReplica C O → IsBadReplica C O (Entry n) → ⊥
none_bad C O n makes (inl first) = first.bad (fine_to C O makes.fine (n + 1))
none_bad C O n makes (inr wide) = let w = wide.wide in let m = makes.narrow in omega (arith, w, m)

-- and so have copies of such lists
pub none_bad_copy : (C O K L : List UpdateView) (n : ℕ) → MakesReplica C O → K ≡ C → L ≡ O → IsBadReplica K L (Entry n) → ⊥
none_bad_copy C O K L n makes e f bad = none_bad C O n makes (subst (λ (X : List UpdateView). IsBadReplica C X (Entry n)) f (subst (λ (X : List UpdateView). IsBadReplica X L (Entry n)) e bad))

-- a replica of copies of a kept copy's parts is the kept copy
pub as_kept : (s : Side) (q : ReplicaView) (a : List ℕ) (K L : List UpdateView) → q ≡ record { agent = a; confirmed = K; unsent = L } → a ≡ s.agent → K ≡ s.kept_confirmed → L ≡ s.kept_unsent → q ≡ kept_of s
as_kept s q a K L e f g h = e ∙ (λ i. record { agent = f i; confirmed = g i; unsent = h i })
