-- What a document of rows keeps when a run or a deletion comes.
use Rattle.std.proofs.Common.{◌≡◌, ℕ, zero, suc, ◌+◌, ◌<◌, ◌≤◌, ◌^◌, List, [], ◌∷◌, ◌++◌, Option, Some, None, MatchOption, All, length, take, drop, slice_get, get_or, length-set, refl, sym, ap, subst, ◌∙◌, inl, inr, arith}
use Rattle.std.proofs.Math.ListN.{set}
use Rattle.std.proofs.Math.Seq.{map-set_same}
use Rattle.std.proofs.lemmas.Bool.{cases_eq, cases_order}
use Rattle.std.proofs.lemmas.List.{length-append, length-map, map-append, get_or-set_same, get_or-set_other}
use Rattle.std.proofs.lemmas.List.Elements.{All-append, All-take, All-drop, All-nil, All-cons, All-same, All-weaker}
use Rattle.std.proofs.lemmas.Option.{slice_get_within, slice_get-get_or}
use Rattle.braid_tree.specs.declared.at.At.{At}
use Rattle.braid_tree.specs.declared.version.PlainVersion.{PlainVersion}
use Rattle.braid_tree.specs.declared.row.PlainRow.{PlainRow}
use Rattle.braid_tree.specs.declared.deletion.PlainDeletion.{PlainDeletion}
use Rattle.braid_tree.specs.Rows.{Row, Stamp, RowDeletion, HasPlace, AreNewOrdinals, AreKnown, PutsRun, PutsOne, place}
use Rattle.braid_tree.specs.Inside.{stamps_in, rows_in, row_of, deletions_in, deletion_of, new_rows, last_below, IsPlaceOf, AreLinked, IsNewest, HaveOwnPlaces, IsKept}
use Rattle.braid_tree.proofs.Links.{get_append, get_end, last_append, last_new, last_other, last_absent}
use Rattle.braid_tree.proofs.Places.{known_put, own_put, keeps_put}
use Rattle.braid_tree.proofs.Put.{puts_run}
use Rattle.braid_tree.proofs.Deletions.{puts_at_end}
use Rattle.braid_tree.proofs.RowReads.{place_is, place_read, place_within}

-- a row's place is there
pub has_place_of : (rows : List Row) (at : At) (k : ℕ) → IsPlaceOf rows at k → HasPlace rows at
has_place_of [] at zero h = absurd h
has_place_of [] at (suc k) h = absurd h
has_place_of (r ∷ rows) at zero h = inl h
has_place_of (r ∷ rows) at (suc k) h = inr (has_place_of rows at k h)

-- and the version of a place that is there
pub known_place : (vs : List Stamp) (rows : List Row) (at : At) → AreKnown vs rows → HasPlace rows at → at.version < length vs
known_place vs [] at known h = absurd h
known_place vs (r ∷ rows) at known (inl e) = let k = known 0 r (omega arith) in subst (λ (a : At). a.version < length vs) e k.place_known
known_place vs (r ∷ rows) at known (inr h) = known_place vs rows at (λ k d l. known (suc k) d (omega (arith, l))) h

pub known_after : (vs : List Stamp) (rows : List Row) (after : Option At) → AreKnown vs rows → MatchOption after (Unit {0}) (HasPlace rows) → MatchOption after (Unit {0}) (λ (at : At). at.version < length vs)
known_after vs rows None known h = tt
known_after vs rows (Some at) known h = known_place vs rows at known h

-- two rows of one place are one row
own_number : (rows : List Row) (at : At) (j k : ℕ) → HaveOwnPlaces rows → IsPlaceOf rows at j → IsPlaceOf rows at k → j ≡ k
own_number [] at zero k own a b = absurd a
own_number [] at (suc j) k own a b = absurd a
own_number (r ∷ rows) at zero zero own a b = refl
own_number (r ∷ rows) at zero (suc k) own a b = absurd (own.0 (subst (HasPlace rows) (sym a) (has_place_of rows at k b)))
own_number (r ∷ rows) at (suc j) zero own a b = absurd (own.0 (subst (HasPlace rows) (sym b) (has_place_of rows at j a)))
own_number (r ∷ rows) at (suc j) (suc k) own a b = ap suc (own_number rows at j k own.1 a b)

-- nothing deletes an element that is not there
lacks_new : (rows : List Row) (ds : List RowDeletion) (at : At) → All (λ (d : RowDeletion). HasPlace rows d.at) ds → (HasPlace rows at → ⊥) → (n : ℕ) (d : RowDeletion) → slice_get ds n ≡ Some d → d.at ≡ at → ⊥
lacks_new rows ds at listed none n d e s =
    let l = slice_get_within ds n d e in
    let f : Some (get_or ds n d) ≡ Some d = sym (slice_get-get_or ds n d l) ∙ e in
    let g : get_or ds n d ≡ d = cc f in none (subst (HasPlace rows) s (subst (λ (x : RowDeletion). HasPlace rows x.at) g (listed n d l)))

newest_run : (rows : List Row) (xs : List PlainDeletion) (version : ℕ) (origin : Option At) (n : ℕ) (cs : List ℕ) → All (λ (d : RowDeletion). HasPlace rows d.at) (deletions_in xs) → AreNewOrdinals rows version n → All (IsNewest xs) (new_rows version origin n cs)
newest_run rows xs version origin n [] listed next = All-nil (IsNewest xs)
newest_run rows xs version origin n (c ∷ cs) listed next =
    All-cons (IsNewest xs) (record { at = place version n; character = c; origin = origin; newest = None }) (new_rows version (Some (place version n)) (n + 1) cs)
    (sym (last_absent (deletions_in xs) (length xs) (place version n) (lacks_new rows (deletions_in xs) (place version n) listed (next n (omega arith)))))
    (newest_run rows xs version (Some (place version n)) (n + 1) cs listed (λ m le. next m (omega (arith, le))))

-- a run's rows, put together between the others
pub insert_kept : (vs : List PlainVersion) (rows new : List PlainRow) (xs : List PlainDeletion) (version : ℕ) (after : Option At) (n : ℕ) (cs : List ℕ) (p : ℕ) → IsKept vs rows xs
    → MatchOption after (Unit {0}) (HasPlace (rows_in rows)) → AreNewOrdinals (rows_in rows) version n → version < length (stamps_in vs) → p ≤ length rows
    → new ≡ take p rows ++ (new_rows version after n cs ++ drop p rows) → length new < 2 ^ 32 → IsKept vs new xs
insert_kept vs rows new xs version after n cs p kept there next lt within e few = record {
  known = known_put (stamps_in vs) (rows_in rows) (rows_in new) version after n cs kept.known lt (known_after (stamps_in vs) (rows_in rows) after kept.known there) put;
  own_places = own_put (rows_in rows) (rows_in new) version after n cs kept.own_places next put;
  listed = All-weaker (λ (d : RowDeletion). HasPlace (rows_in rows) d.at) (λ (d : RowDeletion). HasPlace (rows_in new) d.at) (λ d h. keeps_put (rows_in rows) (rows_in new) version after n cs put d.at h) (deletions_in xs) kept.listed;
  linked = kept.linked;
  newest = All-same (IsNewest xs) new (take p rows ++ (new_rows version after n cs ++ drop p rows)) e
      (All-append (IsNewest xs) (take p rows) (new_rows version after n cs ++ drop p rows) (All-take (IsNewest xs) p rows kept.newest)
      (All-append (IsNewest xs) (new_rows version after n cs) (drop p rows) (newest_run (rows_in rows) xs version after n cs kept.listed next) (All-drop (IsNewest xs) p rows kept.newest)));
  few_versions = kept.few_versions;
  few_rows = few;
  few_deletions = kept.few_deletions;
}
  where
    put : PutsRun (rows_in rows) (rows_in new) version after n cs
    put = puts_run rows new version after n cs p within e

-- a deletion at the end, to which its row now leads
module _ (vs : List PlainVersion) (rows : List PlainRow) (xs xs' : List PlainDeletion) (at : At) (k n by : ℕ) (r : PlainRow) (kept : IsKept vs rows xs) (here : IsPlaceOf (rows_in rows) at k) (is : r ≡ get_or rows k r)
    (count : n ≡ length xs) (made : xs' ≡ xs ++ record { at = at; by = by; earlier = r.newest } ∷ []) where
  marked : PlainRow
  marked = record { at = r.at; character = r.character; origin = r.origin; newest = Some n }

  within : k < length rows
  within = place_within rows at k here

  at_r : r.at ≡ at
  at_r = ap (λ (x : PlainRow). x.at) is ∙ place_read rows k r at within here

  pub delete_seen : rows_in (set rows k (record { at = r.at; character = r.character; origin = r.origin; newest = Some n })) ≡ rows_in rows
  delete_seen = map-set_same row_of rows k (record { at = r.at; character = r.character; origin = r.origin; newest = Some n }) r (ap row_of is)

  seen_deletions : deletions_in xs' ≡ deletions_in xs ++ record { at = at; by = by } ∷ []
  seen_deletions = ap deletions_in made ∙ map-append deletion_of xs (record { at = at; by = by; earlier = r.newest } ∷ [])

  pub delete_put : PutsOne (deletions_in xs) (record { at = at; by = by }) (deletions_in xs')
  delete_put = subst (PutsOne (deletions_in xs) (record { at = at; by = by })) (sym seen_deletions) (puts_at_end (deletions_in xs) (record { at = at; by = by }))

  size : length (deletions_in xs) ≡ length xs
  size = length-map xs deletion_of

  size' : length xs' ≡ suc n
  size' = ap length made ∙ length-append xs (record { at = at; by = by; earlier = r.newest } ∷ []) ∙ (let e : length xs + 1 ≡ suc n = omega (arith, count) in e)

  -- the links among the old deletions, and those of the new one
  old_link : (m : ℕ) (place' : At) → m ≤ length xs → last_below (deletions_in xs') m place' ≡ last_below (deletions_in xs) m place'
  old_link m place' le = ap (λ ds. last_below ds m place') seen_deletions ∙ last_append (deletions_in xs) (record { at = at; by = by } ∷ []) m place' (omega (arith, le, size))

  new_linked : AreLinked xs'
  new_linked = record {
    earlier = λ j x h. elim (cases_order j (length xs)) [
      | inl e ↦ at_end j x e (subst (λ t. slice_get t j ≡ Some x) made h)
      | inr (inl l) ↦ kept.linked.earlier j x (sym (get_append xs (record { at = at; by = by; earlier = r.newest } ∷ []) j l) ∙ subst (λ t. slice_get t j ≡ Some x) made h) ∙ sym (old_link j x.at (omega (arith, l)))
      | inr (inr g) ↦ absurd (let l : j < length xs' = slice_get_within xs' j x h in omega (arith, l, g, size', count))
    ];
  }
    where
      at_end : (j : ℕ) (x : PlainDeletion) → j ≡ length xs → slice_get (xs ++ record { at = at; by = by; earlier = r.newest } ∷ []) j ≡ Some x → x.earlier ≡ last_below (deletions_in xs') j x.at
      at_end j x e h =
          let s : Some (record { at = at; by = by; earlier = r.newest }) ≡ Some x = sym (get_end xs (record { at = at; by = by; earlier = r.newest })) ∙ ap (slice_get (xs ++ record { at = at; by = by; earlier = r.newest } ∷ [])) (sym e) ∙ h in
          let is_x : record { at = at; by = by; earlier = r.newest } ≡ x = cc s in
          subst (λ (y : PlainDeletion). y.earlier ≡ last_below (deletions_in xs') j y.at) is_x
          (subst (λ (m : ℕ). r.newest ≡ last_below (deletions_in xs') m at) (sym e)
          (subst (λ (a : At). r.newest ≡ last_below (deletions_in xs') (length xs) a) at_r (newest_r ∙ sym (old_link (length xs) r.at (omega arith)))))
        where
          newest_r : r.newest ≡ last_below (deletions_in xs) (length xs) r.at
          newest_r = subst (λ (y : PlainRow). IsNewest xs y) (sym is) (kept.newest k r within)

  new_newest : All (IsNewest xs') (set rows k marked)
  unfolding marked
  new_newest j d l = elim (cases_eq j k) [
    | inl e ↦ subst (IsNewest xs') (sym (ap (λ (m : ℕ). get_or (set rows k marked) m d) e ∙ get_or-set_same rows k marked d within)) here_newest
    | inr ne ↦ subst (IsNewest xs') (sym (get_or-set_other rows k j marked d ne)) (there_newest ne)
  ]
    where
      here_newest : IsNewest xs' marked
      here_newest = sym (
          ap (λ ds. last_below ds (length xs') r.at) seen_deletions
          ∙ ap (λ (m : ℕ). last_below (deletions_in xs ++ record { at = at; by = by } ∷ []) m r.at) size'
          ∙ last_new (deletions_in xs) (record { at = at; by = by }) r.at n (omega (arith, count, size)) (sym at_r)
          )

      in_rows : j < length rows
      in_rows = omega (arith, l, length-set rows k marked)

      there_newest : ((j ≡ k) → ⊥) → IsNewest xs' (get_or rows j d)
      there_newest ne =
          kept.newest j d in_rows
          ∙ ap (λ (m : ℕ). last_below (deletions_in xs) m (get_or rows j d).at) (sym count)
          ∙ sym (
          ap (λ ds. last_below ds (length xs') (get_or rows j d).at) seen_deletions
          ∙ ap (λ (m : ℕ). last_below (deletions_in xs ++ record { at = at; by = by } ∷ []) m (get_or rows j d).at) size'
          ∙ last_other (deletions_in xs) (record { at = at; by = by }) (get_or rows j d).at n (omega (arith, count, size))
          (λ same. ne (own_number (rows_in rows) at j k kept.own_places (place_is rows j d at in_rows (sym same)) here))
          )

  pub delete_kept : length xs + 1 < 2 ^ 32 → IsKept vs (set rows k (record { at = r.at; character = r.character; origin = r.origin; newest = Some n })) xs'
  unfolding marked
  delete_kept few = record {
    known = subst (AreKnown (stamps_in vs)) (sym delete_seen) kept.known;
    own_places = subst HaveOwnPlaces (sym delete_seen) kept.own_places;
    listed = subst (λ t. All (λ (d : RowDeletion). HasPlace t d.at) (deletions_in xs')) (sym delete_seen)
        (All-same (λ (d : RowDeletion). HasPlace (rows_in rows) d.at) (deletions_in xs') (deletions_in xs ++ record { at = at; by = by } ∷ []) seen_deletions
        (All-append (λ (d : RowDeletion). HasPlace (rows_in rows) d.at) (deletions_in xs) (record { at = at; by = by } ∷ []) kept.listed
        (All-cons (λ (d : RowDeletion). HasPlace (rows_in rows) d.at) (record { at = at; by = by }) [] (has_place_of (rows_in rows) at k here) (All-nil (λ (d : RowDeletion). HasPlace (rows_in rows) d.at)))));
    linked = new_linked;
    newest = new_newest;
    few_versions = kept.few_versions;
    few_rows = omega (arith, kept.few_rows, length-set rows k marked);
    few_deletions = omega (arith, few, size', count);
  }
