-- Accepted updates, one after the other.
use Rattle.std.proofs.Common.{◌≡◌, ◌↔◌, ◌⊎◌, inl, inr, List, [], ◌∷◌, ◌++◌, refl, ap, subst, ◌∙◌, append_assoc}
use Rattle.braid_change.specs.Updates.{UpdateView}
use Rattle.braid_check.specs.Accepted.{history_of, replica_answer, IsAccepted, AreAccepted}

-- where an update stands among updates with one more behind them: it is that one, or among those before it
record IsLast (us front back : List UpdateView) (u w : UpdateView) : Type 0 where
  pub before : us ≡ front
  pub same : u ≡ w

record IsBefore (us front : List UpdateView) (w : UpdateView) : Type 0 where
  pub back : List UpdateView
  pub whole : us ≡ front ++ w ∷ back

place_of : (us front back : List UpdateView) (u w : UpdateView) → us ++ u ∷ [] ≡ front ++ w ∷ back → IsLast us front back u w ⊎ IsBefore us front w
place_of [] [] back u w e = inl (record { before = refl; same = cc })
place_of [] (x ∷ []) back u w e = absurd (cc)
place_of [] (x ∷ y ∷ front) back u w e = absurd (cc)
place_of (v ∷ us) [] back u w e = inr (record { back = us; whole = let same : v ≡ w = cc in ap (λ (t : UpdateView). t ∷ us) same })
place_of (v ∷ us) (x ∷ front) back u w e =
    let same : v ≡ x = cc in
    let rest : us ++ u ∷ [] ≡ front ++ w ∷ back = cc in
    elim (place_of us front back u w rest) [
      | inl l ↦ inl (record { before = (λ i. same i ∷ l.before i); same = l.same })
      | inr b ↦ inr (record { back = b.back; whole = (λ i. same i ∷ b.whole i) })
    ]

-- no updates are accepted
pub none_accepted : AreAccepted []
none_accepted [] back u e = absurd (cc)
none_accepted (x ∷ front) back u e = absurd (cc)

-- one more
pub accepted_more : (us : List UpdateView) (u : UpdateView) → AreAccepted (us ++ u ∷ []) ↔ (AreAccepted us × IsAccepted (replica_answer (history_of us) u))
accepted_more us u = (λ a. (front_of a, a us [] u refl), both)
  where
    front_of : AreAccepted (us ++ u ∷ []) → AreAccepted us
    front_of a front back w e = a front (back ++ u ∷ []) w (ap (λ (t : List UpdateView). t ++ u ∷ []) e ∙ append_assoc front (w ∷ back) (u ∷ []))

    both : AreAccepted us × IsAccepted (replica_answer (history_of us) u) → AreAccepted (us ++ u ∷ [])
    both p front back w e = elim (place_of us front back u w e) [
      | inl l ↦ subst (λ (t : List UpdateView). IsAccepted (replica_answer (history_of t) w)) l.before (subst (λ (t : UpdateView). IsAccepted (replica_answer (history_of us) t)) l.same p.1)
      | inr b ↦ p.0 front b.back w b.whole
    ]
