-- Where the seen rows list nodes, the runs and places of ranges are those of the nodes; and the seen rows are one list.
use Rattle.std.proofs.Common.{◌≡◌, ℕ, zero, suc, ◌+◌, ◌-◌, ◌<◌, ◌≤◌, List, [], ◌∷◌, ◌++◌, Bool, true, false, Option, Some, length, take, drop, map, unwrap_or, slice_get, refl, sym, ap, subst, ◌∙◌, inl, inr, arith}
use Rattle.std.specs.Option.{option_map}
use Rattle.std.proofs.lemmas.List.{map-append, take-map, drop-map}
use Rattle.std.proofs.lemmas.Option.{none-some, same_Some, slice_get-map}
use Rattle.braid_ids.specs.MarkSets.{IsMarked}
use Rattle.braid_change.specs.declared.patch.Patch.{Patch}
use Rattle.braid_change.specs.declared.change.Change.{Change}
use Rattle.braid_change.specs.Splices.{ranges, AreRanges}
use Rattle.braid_graph.specs.Entries.{GraphEntry}
use Rattle.braid_graph.specs.Ancestries.{MarksAncestry}
use Rattle.braid_tree.specs.declared.at.At.{At}
use Rattle.braid_tree.specs.Keys.{Key}
use Rattle.braid_tree.specs.Nodes.{Node}
use Rattle.braid_tree.specs.Elements.{Element, element_of}
use Rattle.braid_tree.specs.Trees.{Member}
use Rattle.braid_tree.specs.Rows.{Stamp, Row, RowDeletion, IsOrigin, element_at, key_at}
use Rattle.braid_tree.specs.Seen.{seen_rows, place_in}
use Rattle.braid_rebase.specs.Additions.{key_of, chars_of, ranges_at, origin_at, deleted_at, deleted_keys}
use Rattle.braid_rebase.specs.Resolved.{places_of, row_chars, row_ranges, place_before, runs_at, places_at, IsSeenAt}
use Rattle.braid_rebase.specs.Standing.{AreRunsOf}
use Rattle.braid_change.specs.Changes.{IsShaped}
use Rattle.braid_rebase.proofs.Counted.{origin_seen}
use Rattle.braid_rebase.proofs.Spliced.{ranges_within}

module _ (vs : List Stamp) where
  pub chars_listed : (S : List Row) (N : List (Node Key)) → map (element_at vs) S ≡ map element_of N → row_chars S ≡ chars_of N
  chars_listed [] [] e = refl
  chars_listed [] (x ∷ N) e = cc
  chars_listed (r ∷ S) [] e = cc
  chars_listed (r ∷ S) (x ∷ N) e = let h : element_at vs r ≡ element_of x = cc in let c : r.char ≡ x.char = ap (λ (t : Element). t.char) h in let t : row_chars S ≡ chars_of N = chars_listed S N cc in (λ i. c i ∷ t i)

  pub keys_listed : (S : List Row) (N : List (Node Key)) → map (element_at vs) S ≡ map element_of N → map (key_at vs) (places_of S) ≡ map key_of N
  keys_listed [] [] e = refl
  keys_listed [] (x ∷ N) e = cc
  keys_listed (r ∷ S) [] e = cc
  keys_listed (r ∷ S) (x ∷ N) e = let h : element_at vs r ≡ element_of x = cc in let c : key_at vs r.at ≡ x.key = ap (λ (t : Element). t.key) h in let t : map (key_at vs) (places_of S) ≡ map key_of N = keys_listed S N cc in (λ i. c i ∷ t i)

  pub ranges_listed : (S : List Row) (N : List (Node Key)) (change : Change) → map (element_at vs) S ≡ map element_of N → row_ranges S change ≡ ranges_at N change
  ranges_listed S N change e = ap (λ (t : List ℕ). unwrap_or (ranges t change) []) (chars_listed S N e)

  -- the places within ranges are those of the deleted keys
  pub deletes_listed : (S : List Row) (N : List (Node Key)) (rs : List Patch) → map (element_at vs) S ≡ map element_of N → map (key_at vs) (places_at (places_of S) rs) ≡ deleted_at N rs
  deletes_listed S N [] e = refl
  deletes_listed S N (r ∷ rs) e =
      map-append (key_at vs) (take (r.end - r.start) (drop r.start (places_of S))) (places_at (places_of S) rs)
      ∙ ap (λ t. t ++ map (key_at vs) (places_at (places_of S) rs)) (cut (key_at vs) (places_of S) ∙ ap (λ t. take (r.end - r.start) (drop r.start t)) (keys_listed S N e) ∙ sym (cut key_of N))
      ∙ ap (λ t. map key_of (take (r.end - r.start) (drop r.start N)) ++ t) (deletes_listed S N rs e)
    where
      cut : {A B : Type 0} (f : A → B) (xs : List A) → map f (take (r.end - r.start) (drop r.start xs)) ≡ take (r.end - r.start) (drop r.start (map f xs))
      cut f xs = sym (take-map f (r.end - r.start) (drop r.start xs)) ∙ ap (take (r.end - r.start)) (sym (drop-map f r.start xs))

  -- the row and the node of one number
  node_at : (S : List Row) (N : List (Node Key)) (k : ℕ) → map (element_at vs) S ≡ map element_of N → k < length N
      → (r : Row) × (x : Node Key) × (slice_get S k ≡ Some r) × (slice_get N k ≡ Some x) × (key_at vs r.at ≡ x.key)
  node_at S [] k e l = absurd (omega (arith, l))
  node_at [] (x ∷ N) k e l = cc
  node_at (r ∷ S) (x ∷ N) zero e l = let h : element_at vs r ≡ element_of x = cc in (r, x, refl, refl, ap (λ (t : Element). t.key) h)
  node_at (r ∷ S) (x ∷ N) (suc k) e l = node_at S N k (cc) (omega (arith, l))

  number_member : (N : List (Node Key)) (k : ℕ) (x : Node Key) → slice_get N k ≡ Some x → Member x N
  number_member [] k x e = absurd (none-some x e)
  number_member (y ∷ N) zero x e = inl (same_Some y x e)
  number_member (y ∷ N) (suc k) x e = inr (number_member N k x e)

  origin_listed : (S : List Row) (N : List (Node Key)) (s : ℕ) → map (element_at vs) S ≡ map element_of N → s ≤ length N → IsOrigin vs N (place_before (places_of S) s) (origin_at N s)
  origin_listed S N zero e l = refl
  origin_listed S N (suc k) e l = go (node_at S N k e (omega (arith, l)))
    where
      go : (r : Row) × (x : Node Key) × (slice_get S k ≡ Some r) × (slice_get N k ≡ Some x) × (key_at vs r.at ≡ x.key) → IsOrigin vs N (slice_get (places_of S) k) (origin_at N (suc k))
      go (r, x, a, b, c) =
          let s : suc k ≡ k + 1 = omega arith in
          subst (λ (o : Option At). IsOrigin vs N o (origin_at N (suc k))) (sym (slice_get-map place_in S k ∙ ap (option_map place_in) a))
          (x, number_member N k x b, sym c, sym (ap (origin_at N) s ∙ origin_seen N k x b))

  pub runs_listed : (S : List Row) (N : List (Node Key)) (rs : List Patch) (n low : ℕ) → map (element_at vs) S ≡ map element_of N → AreRanges low (length N) rs → AreRunsOf vs N n (runs_at (places_of S) n rs) rs
  runs_listed S N [] n low e h = tt
  runs_listed S N (r ∷ rs) n low e h = (refl, refl, origin_listed S N r.start e (omega (arith, h.1, h.2)), runs_listed S N rs (n + length r.text) r.end e h.4)

-- marks that agree are one list
marks_same : (m n : List Bool) → length m ≡ length n → ((k : ℕ) → k < length m → (IsMarked m k → IsMarked n k) × (IsMarked n k → IsMarked m k)) → m ≡ n
marks_same [] [] l h = refl
marks_same [] (b ∷ n) l h = absurd (omega (arith, l))
marks_same (a ∷ m) [] l h = absurd (omega (arith, l))
marks_same (a ∷ m) (b ∷ n) l h = let f : a ≡ b = first a b (h 0 (omega arith)) in let t : m ≡ n = marks_same m n (omega (arith, l)) (λ k x. h (suc k) (omega (arith, x))) in (λ i. f i ∷ t i)
  where
    first : (a b : Bool) → (a ≡ true → b ≡ true) × (b ≡ true → a ≡ true) → a ≡ b
    first true b p = sym (p.0 refl)
    first false true p = p.1 refl
    first false false p = refl

pub one_ancestry : (es : List GraphEntry) (F : List (List ℕ)) (m n : List Bool) → MarksAncestry es F m → MarksAncestry es F n → m ≡ n
one_ancestry es F m n a b = marks_same m n (a.size ∙ sym b.size) (λ k l. go k (entry es k (omega (arith, l, a.size))))
  where
    entry : (es : List GraphEntry) (k : ℕ) → k < length es → (e : GraphEntry) × (slice_get es k ≡ Some e)
    entry [] k l = absurd (omega (arith, l))
    entry (e ∷ es) zero l = (e, refl)
    entry (e ∷ es) (suc k) l = entry es k (omega (arith, l))

    go : (k : ℕ) → (e : GraphEntry) × (slice_get es k ≡ Some e) → (IsMarked m k → IsMarked n k) × (IsMarked n k → IsMarked m k)
    go k (e, at) = (λ h. (b.exact k e at).1 ((a.exact k e at).0 h), λ h. (a.exact k e at).1 ((b.exact k e at).0 h))

pub one_seen : (es : List GraphEntry) (F : List (List ℕ)) (deletions : List RowDeletion) (rows S T : List Row) → IsSeenAt es F deletions rows S → IsSeenAt es F deletions rows T → S ≡ T
one_seen es F deletions rows S T a b = a.seen ∙ ap (λ (m : List Bool). seen_rows m deletions rows) (one_ancestry es F a.marks b.marks a.ancestry b.ancestry) ∙ sym b.seen

pub resolved_runs : (vs : List Stamp) (S : List Row) (N : List (Node Key)) (change : Change) → map (element_at vs) S ≡ map element_of N → IsShaped change → AreRunsOf vs N 0 (runs_at (places_of S) 0 (row_ranges S change)) (ranges_at N change)
resolved_runs vs S N change e shaped = subst (λ (rs : List Patch). AreRunsOf vs N 0 (runs_at (places_of S) 0 rs) (ranges_at N change)) (sym (ranges_listed vs S N change e))
    (runs_listed vs S N (ranges_at N change) 0 0 e (ranges_within N change shaped))

pub resolved_deletes : (vs : List Stamp) (S : List Row) (N : List (Node Key)) (change : Change) → map (element_at vs) S ≡ map element_of N → map (key_at vs) (places_at (places_of S) (row_ranges S change)) ≡ deleted_keys N change
resolved_deletes vs S N change e = ap (λ (rs : List Patch). map (key_at vs) (places_at (places_of S) rs)) (ranges_listed vs S N change e) ∙ deletes_listed vs S N (ranges_at N change) e
