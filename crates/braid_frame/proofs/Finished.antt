-- What a step leaves.
use Rattle.std.proofs.Common.{◌≡◌, ℕ, ◌<◌, ◌≤◌, List, ◌++◌, length, take, drop, refl, sym, ap, subst, ◌∙◌, append_assoc, arith, None, Ok, Err, Result}
use Rattle.std.proofs.lemmas.List.{append-nil, take-append-drop}
use Rattle.braid_change.specs.Updates.{UpdateView}
use Rattle.braid_frame.specs.declared.fed.Fed.{Fed}
use Rattle.braid_frame.specs.declared.fed.FrameFault.{FrameFault}
use Rattle.braid_frame.specs.declared.fed.FeedFault.{FeedFault}
use Rattle.braid_frame.specs.declared.fed.FeedFault.TheVariants.{Frame, Memory}
use Rattle.braid_frame.specs.declared.state.Phase.{Phase}
use Rattle.braid_frame.specs.declared.state.Phase.TheVariants.{Lines, Body, PatchLines, PatchContent, Faulted, NoMemory}
use Rattle.braid_frame.specs.declared.state.State.{State}
use Rattle.braid_frame.specs.Phases.{LeadsTo, StandsAs, HasFault, IsReading}
use Rattle.braid_frame.specs.Framing.{updates_of, IfEnds}
use Rattle.braid_frame.specs.Steps.{Finishes, Steps, IsInLines, IsInContent}
use Rattle.braid_frame.proofs.Meant.{stands_as}
use Rattle.braid_frame.proofs.Stood.{fault_more}

-- the same, where state and bytes are written otherwise
pub stands_at : (us : List UpdateView) (d e : Phase) (at to : ℕ) (kept new b : List ℕ) → e ≡ d → to ≡ at → new ≡ kept → IsReading d → LeadsTo us d at kept b → StandsAs e us to new b
stands_at us d e at to kept new b x y z o s = rw (x, y, z) (stands_as d us at kept b o s)

pub goes_on_at : (d e : Phase) → e ≡ d → IsReading d → IsReading e
goes_on_at d e x o = rw x o

pub finishes_fault : (us : List UpdateView) (b : List ℕ) (taken : ℕ) (r : FeedFault) (new : State) (f : FrameFault) → r ≡ Frame f → new.phase ≡ Faulted f → HasFault us b f → Finishes us b taken (Err r) new
finishes_fault us b taken r new f e d h = rw e (h, d)

pub finishes_no_memory : (us : List UpdateView) (b : List ℕ) (taken : ℕ) (r : FeedFault) (new : State) → r ≡ Memory → new.phase ≡ NoMemory → Finishes us b taken (Err r) new
finishes_no_memory us b taken r new e d = rw e d

-- nothing is whole yet
pub finishes_more : (us : List UpdateView) (b : List ℕ) (taken : ℕ) (new : State) → IsReading new.phase → StandsAs new.phase us new.at new.kept.items b → Finishes us b taken (Ok (record { taken = taken; update = None })) new
finishes_more us b taken new o s = (refl, subst (λ vs. StandsAs new.phase vs new.at new.kept.items b) (sym (append-nil us)) s, o, tt)

pub fault_behind : (us : List UpdateView) (b piece : List ℕ) (count : ℕ) (f : FrameFault) → HasFault us (b ++ take count piece) f → HasFault us (b ++ piece) f
fault_behind us b piece count f h =
    subst (λ t. HasFault us t f) (append_assoc b (take count piece) (drop count piece) ∙ ap (λ t. b ++ t) (take-append-drop count piece)) (fault_more us (b ++ take count piece) (drop count piece) f h)

pub finish_steps : (us : List UpdateView) (b piece : List ℕ) (count : ℕ) (r : Result Fed FeedFault) (new : State) → 0 < count → count ≤ length piece → Finishes us (b ++ take count piece) count r new → Steps us b piece r new
finish_steps us b piece count (Ok fed) new s w h = record {
  some = omega (arith, h.0);
  within = omega (arith, h.0);
  stands = subst (λ n. StandsAs new.phase (us ++ updates_of fed.update) new.at new.kept.items (b ++ take n piece)) (sym h.0) h.1;
  open_still = h.2;
  ends = subst (λ n. IfEnds us fed.update (b ++ take n piece)) (sym h.0) h.3;
}
finish_steps us b piece count (Err (Frame f)) new s w h = (fault_behind us b piece count f h.0, h.1)
finish_steps us b piece count (Err Memory) new s w h = h

pub content_goes_on : (d : Phase) (n : ℕ) → IsInContent d n → IsReading d
content_goes_on Lines n i = tt
content_goes_on (Body begun len) n i = tt
content_goes_on (PatchLines p) n i = tt
content_goes_on (PatchContent p plan) n i = tt
content_goes_on (Faulted f) n i = i
content_goes_on NoMemory n i = i

pub lines_go_on : (d : Phase) → IsInLines d → IsReading d
lines_go_on Lines i = tt
lines_go_on (Body begun len) i = tt
lines_go_on (PatchLines p) i = tt
lines_go_on (PatchContent p plan) i = tt
lines_go_on (Faulted f) i = i
lines_go_on NoMemory i = i

pub steps_fault : (us : List UpdateView) (b piece : List ℕ) (r : FeedFault) (new : State) (f : FrameFault) → r ≡ Frame f → new.phase ≡ Faulted f → HasFault us (b ++ piece) f → Steps us b piece (Err r) new
steps_fault us b piece r new f e d h = rw e (h, d)
