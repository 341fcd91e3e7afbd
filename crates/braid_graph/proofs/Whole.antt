-- Where all heads are among the members of a frontier, its ancestry is the whole graph.
use Rattle.std.specs.Prelude.{Result, Ok, Err, IfOk}
use Rattle.std.proofs.Common.{◌≡◌, ℕ, ◌+◌, ◌<◌, ◌≤◌, List, Bool, true, false, not, length, zero, suc, arith, refl, ap}
use Rattle.std.specs.List.{Contains, filter}
use Rattle.std.proofs.lemmas.Option.{slice_get_within}
use Rattle.braid_ids.specs.Frontiers.{IsRising}
use Rattle.braid_ids.specs.MarkSets.{IsMarked}
use Rattle.braid_ids.proofs.Members.{Member, member_contains, member_at, place_of}
use Rattle.braid_graph.specs.Entries.{GraphEntry, ids_of, HoldsAll, IsHistoryGraph}
use Rattle.braid_graph.specs.Ancestries.{IsAncestor, named, parent, MarksAncestry}
use Rattle.braid_graph.specs.Frontiers.{is_head, is_parent, heads_of, frontier_of}
use Rattle.braid_graph.specs.Inside.{IsNumberOf}
use Rattle.braid_graph.proofs.Newest.{id_at}
use Rattle.braid_graph.proofs.Flags.{parent_found}
use Rattle.braid_graph.proofs.Frontiers.{filter_member}
use Rattle.braid_graph.proofs.Marked.{number_within, parent_before}
use Rattle.braid_graph.proofs.Widths.{heads_named_all}

-- by the number of entries that are newer
above : (es : List GraphEntry) (F : List (List ℕ)) → IsHistoryGraph es → ((v : List ℕ) → Member v (heads_of es) → Contains F v)
    → (k n : ℕ) (v : List ℕ) → length es ≤ n + k → IsNumberOf es v n → IsAncestor es F v
above es F h heads zero n v l at = absurd (let w = number_within es v n at in omega arith)
above es F h heads (suc k) n v l at = go (λ m w l at. above es F h heads k m w l at) (is_parent es v) refl
  where
    go : ((m : ℕ) (w : List ℕ) → length es ≤ m + k → IsNumberOf es w m → IsAncestor es F w) → (b : Bool) → is_parent es v ≡ b → IsAncestor es F v
    go newer false e = named v (heads v (filter_member (is_head es) v (ids_of es) (member_at (ids_of es) n v at) (ap not e)))
    go newer true e =
        let p = parent_found es v e in
        let r = place_of es p.0 p.1 in
        let c : Contains p.0.parents v = member_contains p.0.parents v p.2 in
        let b = parent_before es h r.0 n (p.0, v, r.1, c, at) in
        parent p.0 v (member_contains es p.0 p.1) (newer r.0 p.0.id (omega arith) (id_at es r.0 p.0 r.1)) c

pub whole_ancestry : (es : List GraphEntry) (F : List (List ℕ)) (marks : List Bool) → IsHistoryGraph es → IsRising F → HoldsAll es F → length (filter (is_head es) F) ≡ length (frontier_of es)
    → length marks ≡ length es → ((n : ℕ) → n < length es → IsMarked marks n) → MarksAncestry es F marks
whole_ancestry es F marks h rising held all size marked = record {
  held = held;
  size = size;
  exact = λ n e at. (λ m. above es F h (heads_named_all es F h rising held all) (length es) n e.id (omega arith) (id_at es n e at), λ a. marked n (slice_get_within es n e at));
}

pub whole_ok : {E : Type 0} (es : List GraphEntry) (F : List (List ℕ)) (r : Result (List Bool) E) → IsHistoryGraph es → IsRising F → HoldsAll es F → length (filter (is_head es) F) ≡ length (frontier_of es)
    → IfOk r (λ (marks : List Bool). length marks ≡ length es) → IfOk r (λ (marks : List Bool). (n : ℕ) → n < length es → IsMarked marks n) → IfOk r (λ (marks : List Bool). MarksAncestry es F marks)
whole_ok es F (Ok marks) h rising held all size marked = whole_ancestry es F marks h rising held all size marked
whole_ok es F (Err e) h rising held all size marked = tt
