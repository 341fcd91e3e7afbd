-- What a feed leaves, after some steps.
use Rattle.std.proofs.Common.{◌≡◌, ℕ, zero, suc, ◌+◌, ◌<◌, ◌≤◌, ◌^◌, true, false, List, [], ◌∷◌, ◌++◌, length, take, drop, refl, sym, ap, subst, ◌∙◌, append_assoc, arith, Some, None, Err, Option}
use Rattle.std.proofs.lemmas.List.{append-nil, take-append-drop, length-drop}
use Rattle.std.specs.Option.{is_some}
use Rattle.braid_change.specs.Updates.{UpdateView}
use Rattle.braid_frame.specs.declared.fed.Fed.{Fed}
use Rattle.braid_frame.specs.declared.fed.FrameFault.{FrameFault}
use Rattle.braid_frame.specs.declared.fed.FeedFault.{FeedFault}
use Rattle.braid_frame.specs.declared.fed.FeedFault.TheVariants.{Frame, Memory}
use Rattle.braid_frame.specs.declared.state.Phase.TheVariants.{Faulted}
use Rattle.braid_frame.specs.declared.state.State.{State}
use Rattle.braid_frame.specs.Phases.{StandsAs, HasFault, IsFraming}
use Rattle.braid_frame.specs.Framing.{StandsFor, IsOpen, updates_of, IfEnds, Takes, Fails, Feeds}
use Rattle.braid_frame.specs.Steps.{StepsOn, Steps}
use Rattle.braid_frame.proofs.Stood.{fault_more}
use Rattle.braid_frame.proofs.Meant.{faultless, failed_fault}

pub take_sum : (n m : ℕ) (xs : List ℕ) → take (n + m) xs ≡ take n xs ++ take m (drop n xs)
take_sum zero m xs = let e : 0 + m ≡ m = omega arith in rw e refl
take_sum (suc n) zero [] = let e : suc n + 0 ≡ suc n = omega arith in rw e refl
take_sum (suc n) (suc m) [] = let e : suc n + suc m ≡ suc (n + suc m) = omega arith in rw e refl
take_sum (suc n) m (x ∷ xs) = let e : suc n + m ≡ suc (n + m) = omega arith in rw e (ap (λ t. x ∷ t) (take_sum n m xs))

-- what was taken of a piece, and all that is left of it
rest_taken : (b piece rest : List ℕ) (taken : ℕ) → rest ≡ drop taken piece → (b ++ take taken piece) ++ rest ≡ b ++ piece
rest_taken b piece rest taken e = append_assoc b (take taken piece) rest ∙ ap (λ t. b ++ (take taken piece ++ t)) e ∙ ap (λ t. b ++ t) (take-append-drop taken piece)

-- and some of it
more_taken : (b piece rest : List ℕ) (taken n : ℕ) → rest ≡ drop taken piece → (b ++ take taken piece) ++ take n rest ≡ b ++ take (taken + n) piece
more_taken b piece rest taken n e = append_assoc b (take taken piece) (take n rest) ∙ ap (λ t. b ++ (take taken piece ++ take n t)) e ∙ ap (λ t. b ++ t) (sym (take_sum taken n piece))

some_update : (o : Option UpdateView) → is_some o ≡ true → o ≡ None → ⊥
some_update None e n = cc
some_update (Some u) e n = cc

no_update : (o : Option UpdateView) → is_some o ≡ false → updates_of o ≡ []
no_update None e = refl
no_update (Some u) e = absurd (cc)

pub taken_within : (piece rest : List ℕ) (taken n : ℕ) → rest ≡ drop taken piece → taken ≤ length piece → n ≤ length rest → taken + n ≤ length piece
taken_within piece rest taken n e w h = omega (arith, ap length e, length-drop taken piece)

-- a step completed an update
pub takes_update : (us : List UpdateView) (b piece rest : List ℕ) (taken : ℕ) (fed : Fed) (new : State) → rest ≡ drop taken piece → is_some fed.update ≡ true → taken ≤ length piece → IsFraming new → StepsOn us (b ++ take taken piece) rest fed new → Takes us b piece (record { taken = taken + fed.taken; update = fed.update }) new
takes_update us b piece rest taken fed new e u w f h =
    let same = more_taken b piece rest taken fed.taken e in
    let stands : StandsFor (us ++ updates_of fed.update) new (b ++ take (taken + fed.taken) piece) = record { framing = f; stands = subst (StandsAs new.phase (us ++ updates_of fed.update) new.at new.kept.items) same h.stands } in
    record {
      within = taken_within piece rest taken fed.taken e w h.within;
      some = λ _. omega (arith, h.some);
      whole = λ n. absurd (some_update fed.update u n);
      found = subst (IfEnds us fed.update) same h.ends;
      faultless = faultless (us ++ updates_of fed.update) new (b ++ take (taken + fed.taken) piece) stands h.open_still;
      open_still = h.open_still;
      stands = stands;
    }

-- a step completed none
pub steps_more : (us : List UpdateView) (b piece rest : List ℕ) (taken : ℕ) (fed : Fed) (new : State) → rest ≡ drop taken piece → is_some fed.update ≡ false → IsFraming new → StepsOn us (b ++ take taken piece) rest fed new → StandsFor us new (b ++ take (taken + fed.taken) piece)
steps_more us b piece rest taken fed new e u f h = record {
  framing = f;
  stands = subst (λ vs. StandsAs new.phase vs new.at new.kept.items (b ++ take (taken + fed.taken) piece)) (ap (λ vs. us ++ vs) (no_update fed.update u) ∙ append-nil us)
      (subst (StandsAs new.phase (us ++ updates_of fed.update) new.at new.kept.items) (more_taken b piece rest taken fed.taken e) h.stands);
}

-- all of the piece was taken
pub takes_all : (us : List UpdateView) (b piece : List ℕ) (taken : ℕ) (new : State) → taken ≤ length piece → length piece ≤ taken → IsOpen new → StandsFor us new (b ++ take taken piece) → Takes us b piece (record { taken = taken; update = None }) new
takes_all us b piece taken new w l o h = record {
  within = w;
  some = λ s. omega arith;
  whole = λ _. omega arith;
  found = tt;
  faultless = faultless us new (b ++ take taken piece) h o;
  open_still = o;
  stands = subst (λ vs. StandsFor vs new (b ++ take taken piece)) (sym (append-nil us)) h;
}

-- a step failed
pub fails_step : (us : List UpdateView) (b piece rest : List ℕ) (taken : ℕ) (r : FeedFault) (new : State) → rest ≡ drop taken piece → IsFraming new → Steps us (b ++ take taken piece) rest (Err r) new → Feeds us b piece (Err r) new
fails_step us b piece rest taken (Frame f) new e k h =
    let fault : HasFault us (b ++ piece) f = subst (λ t. HasFault us t f) (rest_taken b piece rest taken e) h.0 in
    record { fault = fault.0; failed = h.1; stands = record { framing = k; stands = rw h.1 fault } }
fails_step us b piece rest taken Memory new e k h = h

-- a framer that has failed fails again
pub fails_again : (us : List UpdateView) (b piece : List ℕ) (s : State) (f : FrameFault) → s.phase ≡ Faulted f → StandsFor us s b → Fails us b piece f s
fails_again us b piece s f e h =
    let new = fault_more us b piece f (failed_fault us s b f h e) in
    record { fault = new.0; failed = e; stands = record { framing = h.framing; stands = rw e new } }
