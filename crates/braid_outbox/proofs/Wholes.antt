-- All that a replica keeps after each call: beside the lists and flags, the marks of heads and the greatest number.
use Rattle.std.proofs.Common.{◌≡◌, ◌↔◌, ℕ, ◌≤◌, ◌+◌, List, [], ◌∷◌, ◌++◌, Bool, true, false, sym, ap, subst, ◌∙◌, arith, length, take, drop, max, reverse, Option, Some, unwrap_or, append_assoc, length-append, length-set}
use Rattle.std.proofs.Math.ListN.{set}
use Rattle.std.proofs.lemmas.List.{take_all}
use Rattle.std.specs.List.{Contains, slice_get}
use Rattle.std.specs.Option.{IfSome}
use Rattle.braid_ids.specs.MarkSets.{IsMarked}
use Rattle.braid_change.specs.Updates.{UpdateView}
use Rattle.braid_ids.proofs.Members.{slice_get_push}
use Rattle.braid_graph.specs.Entries.{Holds, IsHistoryGraph, ids_of}
use Rattle.braid_tree.proofs.Member.{member_append_left}
use Rattle.braid_text.specs.Histories.{graph_of, IsLegalLog, MayFollow}
use Rattle.braid_text.proofs.Logs.{has_holds, holds_has, legal_back}
use Rattle.braid_text.proofs.Ties.{legal_graph}
use Rattle.braid_outbox.specs.Replicas.{ReplicaView, log_of, number, greatest_number}
use Rattle.braid_outbox.specs.Writes.{with_unsent}
use Rattle.braid_outbox.specs.Learns.{confirm}
use Rattle.braid_outbox.specs.Kept.{picked, replica_in, IsKept}
use Rattle.braid_outbox.specs.Heads.{IsHead, IsNumberAmong, IsWhole}
use Rattle.braid_outbox.proofs.Additions.{log_parts, log_more}
use Rattle.braid_outbox.proofs.Moves.{to_log}
use Rattle.braid_outbox.proofs.Keeping.{part_to, there, first_is, with_first}
use Rattle.braid_outbox.proofs.HeadMarks.{heads_found, heads_confirmed, heads_first, heads_unsent, greatest_confirmed, greatest_unsent}

-- the log of the confirmed updates is legal where all updates are
confirmed_log : (C O : List UpdateView) (u : UpdateView) → IsLegalLog (reverse ((C ++ u ∷ []) ++ O)) → IsLegalLog (u ∷ reverse C)
confirmed_log C O u legal = subst IsLegalLog (log_more C u) (legal_back (reverse O) (reverse (C ++ u ∷ [])) (subst IsLegalLog (log_parts (C ++ u ∷ []) O) legal))

module _ (agent : List ℕ) (H : List UpdateView) (ns : List ℕ) (c : ℕ) (flags heads : List Bool) (greatest : ℕ) (w : IsWhole agent H ns c flags heads greatest) where
  abbrev r : ReplicaView
  r = replica_in agent H ns c

  -- a new confirmed update
  pub whole_confirmed : (H' : List UpdateView) (u : UpdateView) (ns' : List ℕ) (c' : ℕ) (flags' : List Bool) → IsKept agent H' ns' c' flags' → H' ≡ H ++ u ∷ []
      → replica_in agent H' ns' c' ≡ record { agent = agent; confirmed = r.confirmed ++ u ∷ []; unsent = r.unsent }
      → (heads1 heads2 heads' : List Bool) (n : ℕ) → heads1 ≡ heads → heads2 ≡ heads1 ++ true ∷ [] → n ≡ length H → length heads' ≡ length heads2
      → ((x : UpdateView) → slice_get H' n ≡ Some x → (m : ℕ) → IsMarked heads' m ↔ (IsMarked heads2 m × (IsNumberAmong (graph_of H') x.parents m → ⊥)))
      → (greatest' k : ℕ) → k ≡ unwrap_or (number agent u.id) 0 → greatest' ≡ max greatest k → IsWhole agent H' ns' c' flags' heads' greatest'
  whole_confirmed H' u ns' c' flags' kept h view heads1 heads2 heads' n same more at size cleared greatest' k number most = record {
    kept = kept;
    marks = record { size = long; exact = exact };
    number = most ∙ (λ i. max (w.number i) (number i)) ∙ sym (greatest_confirmed agent r.confirmed r.unsent u) ∙ ap (λ (q : ReplicaView). greatest_number agent (log_of q)) (sym view);
  }
    where
      long : length heads' ≡ length H'
      long = let a = length-append heads (true ∷ []) in let b = length-append H (u ∷ []) in let d = ap length h in let e = ap length more in let f = ap length same in let g = length-append heads1 (true ∷ []) in omega (arith, size, a, b, d, e, f, g, w.marks.size)

      taken : (m : ℕ) → IsMarked heads' m ↔ (IsMarked (heads ++ true ∷ []) m × (IsNumberAmong (graph_of (H ++ u ∷ [])) u.parents m → ⊥))
      taken = subst (λ (K : List UpdateView). (m : ℕ) → IsMarked heads' m ↔ (IsMarked (heads ++ true ∷ []) m × (IsNumberAmong (graph_of K) u.parents m → ⊥))) h
          (subst (λ (old : List Bool). (m : ℕ) → IsMarked heads' m ↔ (IsMarked old m × (IsNumberAmong (graph_of H') u.parents m → ⊥))) (more ∙ ap (λ (t : List Bool). t ++ true ∷ []) same) (cleared u place))
        where
          place : slice_get H' n ≡ Some u
          place = (λ i. slice_get (h i) (at i)) ∙ slice_get_push H u

      exact : (m : ℕ) (x : UpdateView) → slice_get H' m ≡ Some x → IsMarked heads' m ↔ IsHead (graph_of (picked H' (take c' ns'))) x.id
      exact m x e = subst (λ (q : ReplicaView). IsMarked heads' m ↔ IsHead (graph_of q.confirmed) x.id) (sym view)
          (heads_confirmed H r.confirmed u (subst (λ (K : List UpdateView). IsHistoryGraph (graph_of K)) h (legal_graph H' kept.legal)) (confirmed_log r.confirmed r.unsent u (subst (λ (q : ReplicaView). IsLegalLog (log_of q)) view kept.sound.legal)) heads heads' w.marks.size w.marks.exact taken
          m x (subst (λ (K : List UpdateView). slice_get K m ≡ Some x) h e))

  -- a new unsent one
  pub whole_unsent : (H' : List UpdateView) (u : UpdateView) (ns' : List ℕ) (c' : ℕ) (flags' : List Bool) → IsKept agent H' ns' c' flags' → H' ≡ H ++ u ∷ [] → MayFollow H u
      → replica_in agent H' ns' c' ≡ with_unsent r (u ∷ [])
      → (heads1 heads' : List Bool) → heads1 ≡ heads → heads' ≡ heads1 ++ false ∷ []
      → (greatest' k : ℕ) → k ≡ unwrap_or (number agent u.id) 0 → greatest' ≡ max greatest k → IsWhole agent H' ns' c' flags' heads' greatest'
  whole_unsent H' u ns' c' flags' kept h follows view heads1 heads' same more greatest' k number most = record {
    kept = kept;
    marks = record { size = long; exact = exact };
    number = most ∙ (λ i. max (w.number i) (number i)) ∙ sym (greatest_unsent agent r.confirmed r.unsent u) ∙ ap (λ (q : ReplicaView). greatest_number agent (log_of q)) (sym view);
  }
    where
      grown : heads' ≡ heads ++ false ∷ []
      grown = more ∙ ap (λ (t : List Bool). t ++ false ∷ []) same

      long : length heads' ≡ length H'
      long = let a = length-append heads (false ∷ []) in let b = length-append H (u ∷ []) in let d = ap length h in let e = ap length grown in omega (arith, a, b, d, e, w.marks.size)

      new : Holds (graph_of H) u.id → ⊥
      new k = let s = holds_has H u.id k in follows.new (has_holds (reverse H) u.id (s.0, to_log H s.0 s.1, s.2))

      part : (v : List ℕ) → Holds (graph_of r.confirmed) v → Holds (graph_of H) v
      part v k = let s = holds_has r.confirmed v k in has_holds H v (s.0, part_to agent H ns c flags w.kept s.0 (member_append_left s.0 r.confirmed r.unsent s.1), s.2)

      exact : (m : ℕ) (x : UpdateView) → slice_get H' m ≡ Some x → IsMarked heads' m ↔ IsHead (graph_of (picked H' (take c' ns'))) x.id
      exact m x e = subst (λ (q : ReplicaView). IsMarked heads' m ↔ IsHead (graph_of q.confirmed) x.id) (sym view)
          (subst (λ (marks : List Bool). IsMarked marks m ↔ IsHead (graph_of r.confirmed) x.id) (sym grown)
          (heads_unsent H r.confirmed u new part heads w.marks.size w.marks.exact m x (subst (λ (K : List UpdateView). slice_get K m ≡ Some x) h e)))

  -- the first unsent one is confirmed
  pub whole_first : (n : ℕ) (at : slice_get ns c ≡ Some n) (ns' : List ℕ) (c' : ℕ) (flags' : List Bool) → IsKept agent H ns' c' flags' → ns' ≡ ns → c' ≡ c + 1
      → (heads1 heads' : List Bool) → IfSome (slice_get ns c) (λ m. heads1 ≡ set heads m true) → length heads' ≡ length heads1
      → ((x : UpdateView) → slice_get H n ≡ Some x → (m : ℕ) → IsMarked heads' m ↔ (IsMarked heads1 m × (IsNumberAmong (graph_of H) x.parents m → ⊥)))
      → IsWhole agent H ns' c' flags' heads' greatest
  whole_first n at ns' c' flags' kept e f heads1 heads' more size cleared = record {
    kept = kept;
    marks = record { size = size ∙ ap length set_one ∙ length-set heads n true ∙ w.marks.size; exact = exact };
    number = w.number ∙ ap (greatest_number agent) (ap reverse (sym joined)) ∙ ap (λ (q : ReplicaView). greatest_number agent (log_of q)) (sym view);
  }
    where
      first : (u : UpdateView) × (slice_get H n ≡ Some u)
      first = there agent H ns c flags w.kept n at

      rest : List UpdateView
      rest = picked H (drop (c + 1) ns)

      opened : r.unsent ≡ first.0 ∷ rest
      opened = first_is agent H ns c flags w.kept n at

      view : replica_in agent H ns' c' ≡ record { agent = agent; confirmed = r.confirmed ++ first.0 ∷ []; unsent = rest }
      view = (λ i. replica_in agent H (e i) (f i)) ∙ with_first agent H ns c flags w.kept n at ∙ ap (confirm r) opened

      joined : (r.confirmed ++ first.0 ∷ []) ++ rest ≡ r.confirmed ++ r.unsent
      joined = append_assoc r.confirmed (first.0 ∷ []) rest ∙ ap (λ (t : List UpdateView). r.confirmed ++ t) (sym opened)

      set_one : heads1 ≡ set heads n true
      set_one = subst (λ (o : Option ℕ). IfSome o (λ m. heads1 ≡ set heads m true)) at more

      exact : (m : ℕ) (x : UpdateView) → slice_get H m ≡ Some x → IsMarked heads' m ↔ IsHead (graph_of (picked H (take c' ns'))) x.id
      exact m x g = subst (λ (q : ReplicaView). IsMarked heads' m ↔ IsHead (graph_of q.confirmed) x.id) (sym view)
          (heads_first H r.confirmed first.0 n first.1 (legal_graph H kept.legal) (confirmed_log r.confirmed rest first.0 (subst (λ (q : ReplicaView). IsLegalLog (log_of q)) view kept.sound.legal)) heads heads' w.marks.size w.marks.exact
          (subst (λ (old : List Bool). (m : ℕ) → IsMarked heads' m ↔ (IsMarked old m × (IsNumberAmong (graph_of H) (first.0).parents m → ⊥))) set_one (cleared first.0 first.1)) m x g)

  -- the identifiers of the heads
  pub heads_now : (q : ReplicaView) → r ≡ q → (xs ys : List ℕ) → ys ≡ xs → ((m : ℕ) → Contains xs m ↔ IsMarked heads m) → (i : ℕ) → length ys ≤ i → (ids : List (List ℕ)) → ids ≡ ids_of (graph_of (picked H (take i ys)))
      → (v : List ℕ) → Contains ids v ↔ IsHead (graph_of q.confirmed) v
  heads_now q e xs ys f are i far ids is v = subst (λ (t : ReplicaView). Contains ids v ↔ IsHead (graph_of t.confirmed) v) e
      (subst (λ (vs : List (List ℕ)). Contains vs v ↔ IsHead (graph_of r.confirmed) v) (sym (is ∙ ap (λ (zs : List ℕ). ids_of (graph_of (picked H zs))) (take_all i ys far ∙ f)))
      (heads_found H r.confirmed heads w.marks.size w.marks.exact (λ u m. part_to agent H ns c flags w.kept u (member_append_left u r.confirmed r.unsent m)) xs are v))
