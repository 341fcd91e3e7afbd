-- A change that has a fault is not written.
use Rattle.std.proofs.Common.{◌≡◌, ◌≢◌, ℕ, ◌<◌, ◌≤◌, ◌^◌, ◌-◌, List, [], Bool, true, false, not, ◌&&◌, cond, nat_lt, refl, sym, ap, ◌∙◌, arith, Some, None, is_some, Result, Ok, Err}
use Rattle.std.proofs.lemmas.Bool.Decides.{nat_tests}
use Rattle.std.specs.Result.{OnOk, OnErr}
use Rattle.braid_change.specs.declared.change.Change.{Change}
use Rattle.braid_change.specs.Splices.{spliced, first_past}
use Rattle.braid_change.proofs.Built.{built_faultless}
use Rattle.braid_change.proofs.Pieces.{undefined_past}
use Rattle.braid_text.specs.Histories.{text_of}
use Rattle.braid_text.specs.Refusals.{first_full}
use Rattle.braid_text.specs.Answers.{room_of, IsOver}
use Rattle.braid_text.specs.declared.room.Room.{Room}
use Rattle.braid_text.specs.declared.room.Which.{Which}
use Rattle.braid_text.specs.declared.room.Which.TheVariants.{Resources, Versions, Elements, Deletions, Width}
use Rattle.braid_text.specs.declared.accept.Accept.TheVariants as accepts
use Rattle.braid_text.proofs.Whole.{and_cases}
use Rattle.braid_outbox.specs.declared.faults.WriteFault.{WriteFault}
use Rattle.braid_outbox.specs.declared.faults.WriteFault.TheVariants.{Shape, OutOfRange, NumbersSpent, Full, Memory}
use Rattle.braid_outbox.specs.Shapes.{is_change}
use Rattle.braid_outbox.specs.Replicas.{ReplicaView, all_of}
use Rattle.braid_outbox.specs.Writes.{IsWriteFault, is_written, last_number, write_needs, with_unsent, additions, write}
use Rattle.braid_outbox.proofs.Shapes.{built_from}

-- a fact of a result that is there, from another one
pub ok_map : {X E : Type 0} (A B : Type 0) (r : Result X E) → OnOk r A → (A → B) → OnOk r B
ok_map A B (Ok x) h f = f h
ok_map A B (Err e) h f = tt

pub err_map : {X E : Type 0} (A B : Type 0) (r : Result X E) → OnErr r A → (A → B) → OnErr r B
err_map A B (Ok x) h f = tt
err_map A B (Err e) h f = f h

-- of two tests
not_both : (b : Bool) → (b ≡ true → ⊥) → b ≡ false
not_both true h = absurd (h refl)
not_both false h = refl

-- a count over its room is the first such, or another is
full_some : (need room : Room) (which : Which) (n left : ℕ) → IsOver need room which n left → is_some (first_full need room) ≡ true
full_some need room which n left over = go (nat_lt room.versions need.versions) refl (nat_lt room.elements need.elements) refl (nat_lt room.deletions need.deletions) refl (nat_lt room.width need.width) refl which over
  where
    go : (a : Bool) → nat_lt room.versions need.versions ≡ a → (b : Bool) → nat_lt room.elements need.elements ≡ b → (c : Bool) → nat_lt room.deletions need.deletions ≡ c → (d : Bool) → nat_lt room.width need.width ≡ d → (w : Which) → IsOver need room w n left
        → is_some (cond a (Some (accepts.Full Versions need.versions room.versions)) (cond b (Some (accepts.Full Elements need.elements room.elements)) (cond c (Some (accepts.Full Deletions need.deletions room.deletions)) (cond d (Some (accepts.Full Width need.width room.width)) None)))) ≡ true
    go true e b f c g d h w o = refl
    go false e true f c g d h w o = refl
    go false e false f true g d h w o = refl
    go false e false f false g true h w o = refl
    go false e false f false g false h Resources o = absurd o
    go false e false f false g false h Versions o = absurd (let p : left < n = o.2 in let q : n ≡ need.versions = o.0 in let r : left ≡ room.versions = o.1 in grind (arith, nat_tests))
    go false e false f false g false h Elements o = absurd (let p : left < n = o.3 in let q : n ≡ need.elements = o.1 in let r : left ≡ room.elements = o.2 in grind (arith, nat_tests))
    go false e false f false g false h Deletions o = absurd (let p : left < n = o.4 in let q : n ≡ need.deletions = o.2 in let r : left ≡ room.deletions = o.3 in grind (arith, nat_tests))
    go false e false f false g false h Width o = absurd (let p : left < n = o.5 in let q : n ≡ need.width = o.3 in let r : left ≡ room.width = o.4 in grind (arith, nat_tests))

-- what a change that is written has
record IsDue (limits : Room) (r : ReplicaView) (c : Change) : Type 0 where
  pub change : is_change c ≡ true
  pub fits : is_some (spliced (text_of (all_of r)) c) ≡ true
  pub numbers : nat_lt (last_number r) (2 ^ 64) ≡ true
  pub room : not (is_some (first_full (write_needs r c) (room_of limits (all_of r)))) ≡ true

due : (limits : Room) (r : ReplicaView) (c : Change) → is_written limits r c ≡ true → IsDue limits r c
due limits r c h =
    let p = and_cases (is_change c) (is_some (spliced (text_of (all_of r)) c) && (nat_lt (last_number r) (2 ^ 64) && not (is_some (first_full (write_needs r c) (room_of limits (all_of r)))))) h in
    let q = and_cases (is_some (spliced (text_of (all_of r)) c)) (nat_lt (last_number r) (2 ^ 64) && not (is_some (first_full (write_needs r c) (room_of limits (all_of r))))) p.1 in
    let s = and_cases (nat_lt (last_number r) (2 ^ 64)) (not (is_some (first_full (write_needs r c) (room_of limits (all_of r))))) q.1 in
    record { change = p.0; fits = q.0; numbers = s.0; room = s.1 }

unfit : (t : List ℕ) (c : Change) (n : ℕ) → first_past t c ≡ Some n → is_some (spliced t c) ≡ false
unfit t c n h = ap is_some ((undefined_past t c).1 (ap is_some h))

pub unwritten : (limits : Room) (r : ReplicaView) (c : Change) (fault : WriteFault) → IsWriteFault limits r c fault → fault ≢ Memory → is_written limits r c ≡ false
unwritten limits r c (Shape fault) is other = not_both (is_written limits r c) (λ h. built_faultless [] c fault (built_from [] c (omega arith) (due limits r c h).change) is)
unwritten limits r c (OutOfRange patch len) is other = not_both (is_written limits r c) (λ h. let d = (due limits r c h).fits in let u = unfit (text_of (all_of r)) c patch is.1 in cc)
unwritten limits r c NumbersSpent is other = not_both (is_written limits r c) (λ h. let d = (due limits r c h).numbers in let l : 2 ^ 64 ≤ last_number r = is.1 in grind (arith, nat_tests))
unwritten limits r c (Full which limit) is other = not_both (is_written limits r c) (λ h. over (due limits r c h).room is.2)
  where
    over : not (is_some (first_full (write_needs r c) (room_of limits (all_of r)))) ≡ true → ((n : ℕ) × (left : ℕ) × IsOver (write_needs r c) (room_of limits (all_of r)) which n left) → ⊥
    over k (n, left, o) = let e = full_some (write_needs r c) (room_of limits (all_of r)) which n left o in let f = ap not e in cc
unwritten limits r c Memory is other = absurd (other refl)

-- so it leaves a replica as it is
pub write_none : (limits : Room) (r : ReplicaView) (c : Change) → is_written limits r c ≡ false → r ≡ write limits r c
write_none limits r c h = sym (ap (λ (b : Bool). cond b (with_unsent r (additions r c)) r) h)

-- at a fault but want of memory a replica that stayed is what the write leaves
pub left_as : (limits : Room) (r q : ReplicaView) (c : Change) (fault : WriteFault) → IsWriteFault limits r c fault → fault ≢ Memory → q ≡ r → q ≡ write limits r c
left_as limits r q c fault is other e = e ∙ write_none limits r c (unwritten limits r c fault is other)
