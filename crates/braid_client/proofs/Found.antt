-- What is found under a name gives one replica, or lacks one for one reason.
use Rattle.std.proofs.Common.{◌≡◌, ℕ, List, length, Option, Some, None, refl, sym, ap, subst, ◌∙◌, arith}
use Rattle.std.specs.FinMap as map
use Rattle.braid_io.specs.Outside.{Rose}
use Rattle.braid_io.specs.Keepers.{Kept, Keeping, Holds}
use Rattle.braid_outbox.specs.declared.faults.BadReplica.TheVariants.{Entry}
use Rattle.braid_outbox.specs.Replicas.{ReplicaView}
use Rattle.braid_outbox.specs.Made.{IsBadReplica}
use Rattle.braid_state.specs.declared.state.State.{State}
use Rattle.braid_state.specs.declared.state.StateFault.TheVariants.{BadState}
use Rattle.braid_state.specs.States.{SpellsState}
use Rattle.braid_state.specs.StateFaults.{IsStateFault}
use Rattle.braid_state.proofs.OneReading.{bad_same}
use Rattle.braid_state.proofs.Spelled.{one_state, not_bad}
use Rattle.braid_sync.specs.declared.place.Place.{Place}
use Rattle.braid_client.specs.declared.fault.Fault.{Fault}
use Rattle.braid_client.specs.declared.fault.Fault.TheVariants as faults
use Rattle.braid_client.specs.Runs.{state_of, HasReplica, LacksReplica}
use Rattle.braid_client.specs.Laws.{IsReplicaOf}
use Rattle.braid_client.proofs.Entries.{one_entry, no_entry}

-- why what is found gives no replica
pub data Lacks (found : Option (List ℕ)) : Fault → Type 0 where
  finds_none : found ≡ None → Lacks found faults.NoState
  spells_none : (bytes : List ℕ) (at : ℕ) → found ≡ Some bytes → IsStateFault bytes (BadState at) → Lacks found (faults.BadState at)
  makes_none : (bytes : List ℕ) (s : State) (n : ℕ) → found ≡ Some bytes → SpellsState s bytes → IsBadReplica s.confirmed s.unsent (Entry n) → Lacks found (faults.BadEntry n)

pub held_is : (told : Option Kept) (kept : Kept) (name : List ℕ) (found : Option (List ℕ)) → told ≡ Some kept → Holds told name found → map.get kept name ≡ found
held_is told kept name found e h = subst (λ (t : Option Kept). Holds t name found) e h

none_some : {X : Type 0} (o : Option X) (x : X) → o ≡ None → o ≡ Some x → ⊥
none_some o x n s = let z : None ≡ Some x = sym n ∙ s in cc

same_bytes : (found : Option (List ℕ)) (b d : List ℕ) → found ≡ Some b → found ≡ Some d → b ≡ d
same_bytes found b d h k = let z : Some b ≡ Some d = sym h ∙ k in cc

one_place : (bytes : List ℕ) (at to : ℕ) → IsStateFault bytes (BadState at) → IsStateFault bytes (BadState to) → at ≡ to
one_place bytes at to h k = omega (arith, h.2, k.2, ap length (bad_same h.0 k.0 bytes h.1 k.1))

pub lacks_one : (found : Option (List ℕ)) (f g : Fault) → Lacks found f → Lacks found g → f ≡ g
lacks_one found _ _ (finds_none e) (finds_none k) = refl
lacks_one found _ _ (finds_none e) (spells_none d to k i) = absurd (none_some found d e k)
lacks_one found _ _ (finds_none e) (makes_none d t m k i j) = absurd (none_some found d e k)
lacks_one found _ _ (spells_none b at e h) (finds_none k) = absurd (none_some found b k e)
lacks_one found _ _ (spells_none b at e h) (spells_none d to k i) =
    ap faults.BadState (one_place d at to (subst (λ (x : List ℕ). IsStateFault x (BadState at)) (same_bytes found b d e k) h) i)
lacks_one found _ _ (spells_none b at e h) (makes_none d t m k i j) =
    absurd (let g = subst (λ (x : List ℕ). IsStateFault x (BadState at)) (same_bytes found b d e k) h in not_bad t g.0 d i g.1)
lacks_one found _ _ (makes_none b s n e h l) (finds_none k) = absurd (none_some found b k e)
lacks_one found _ _ (makes_none b s n e h l) (spells_none d to k i) =
    absurd (let g = subst (λ (x : List ℕ). IsStateFault x (BadState to)) (same_bytes found d b k e) i in not_bad s g.0 b h g.1)
lacks_one found _ _ (makes_none b s n e h l) (makes_none d t m k i j) =
    let same : s ≡ t = one_state s t d (subst (SpellsState s) (same_bytes found b d e k) h) i in
    ap faults.BadEntry (one_entry t.confirmed t.unsent n m (subst (λ (x : State). IsBadReplica x.confirmed x.unsent (Entry n)) same l) j)

pub has_or_lacks : (found : Option (List ℕ)) (place : Place) (r : ReplicaView) (f : Fault) → IsReplicaOf place r found → Lacks found f → ⊥
has_or_lacks found place r _ has (finds_none e) = none_some found has.bytes e has.there
has_or_lacks found place r _ has (spells_none b at e h) =
    let g = subst (λ (x : List ℕ). IsStateFault x (BadState at)) (same_bytes found b has.bytes e has.there) h in
    not_bad (state_of place r) g.0 has.bytes has.spelled g.1
has_or_lacks found place r _ has (makes_none b s n e h l) =
    let same : s ≡ state_of place r = one_state s (state_of place r) has.bytes (subst (SpellsState s) (same_bytes found b has.bytes e has.there) h) has.spelled in
    no_entry r.confirmed r.unsent n has.replica (subst (λ (x : State). IsBadReplica x.confirmed x.unsent (Entry n)) same l)

-- One place and one replica are found.
pub has_one : (found : Option (List ℕ)) (place other : Place) (r q : ReplicaView) → IsReplicaOf place r found → IsReplicaOf other q found → (place ≡ other) × (r ≡ q)
has_one found place other r q h k =
    let e : state_of place r ≡ state_of other q =
    one_state (state_of place r) (state_of other q) k.bytes (subst (SpellsState (state_of place r)) (same_bytes found h.bytes k.bytes h.there k.there) h.spelled) k.spelled in
    let p : place ≡ other = λ i. record { server = (e i).server; path = (e i).path } in
    let s : r ≡ q = λ i. record { agent = (e i).agent; confirmed = (e i).confirmed; unsent = (e i).unsent } in
    (p, s)

-- what is kept, told of what is found
pub has_found : (name : List ℕ) (place : Place) (r : ReplicaView) (told : Keeping) (kept : Kept) → told.kept ≡ Some kept → HasReplica name place r told → IsReplicaOf place r (map.get kept name)
has_found name place r told kept e h = record { bytes = h.bytes; there = held_is told.kept kept name (Some h.bytes) e h.held; spelled = h.spelled; replica = h.replica }

pub lacks_found : (name : List ℕ) (f : Fault) (old new : Keeping) (kept : Kept) → old.kept ≡ Some kept → (Rose old.load_faults new.load_faults → ⊥) → LacksReplica name f old new → Lacks (map.get kept name) f × (new ≡ old)
lacks_found name faults.Usage old new kept e n h = absurd h
lacks_found name faults.NoState old new kept e n h = (finds_none (held_is old.kept kept name None e h.0), h.1)
lacks_found name faults.Exists old new kept e n h = absurd h
lacks_found name (faults.BadState at) old new kept e n h = (spells_none h.0 at (held_is old.kept kept name (Some h.0) e h.1.0) h.2, h.1.1)
lacks_found name (faults.BadEntry m) old new kept e n h = (makes_none h.0 h.1 m (held_is old.kept kept name (Some h.0) e h.2.0) h.3 h.4, h.2.1)
lacks_found name (faults.Write f) old new kept e n h = absurd h
lacks_found name faults.LoadFault old new kept e n h = absurd (n h.2)
lacks_found name faults.SaveFault old new kept e n h = absurd h
lacks_found name faults.Memory old new kept e n h = absurd h
