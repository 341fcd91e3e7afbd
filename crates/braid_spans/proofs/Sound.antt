-- What runs that fit tell of each of them, and what a sound document tells of its answers.
use Rattle.std.proofs.Common.{◌≡◌, ℕ, zero, suc, ◌+◌, ◌<◌, ◌≤◌, ◌^◌, List, [], ◌∷◌, ◌++◌, Option, Some, None, MatchOption, All, length, take, drop, map, slice_get, refl, sym, ap, subst, ◌∙◌, arith, inl, inr, Bool, false, ◌==◌}
use Rattle.std.specs.List.{flat_map}
use Rattle.std.specs.Option.{option_map}
use Rattle.std.proofs.lemmas.List.{length-append, length-map, length-take-le, length-drop}
use Rattle.std.proofs.lemmas.List.Elements.{All-weaker, All-head, All-tail}
use Rattle.std.proofs.lemmas.Option.{slice_get-map}
use Rattle.braid_tree.specs.declared.at.At.{At}
use Rattle.braid_tree.specs.Rows.{Row, HasPlace, AreNewOrdinals, AreKnown, PutsRun, run_rows, place}
use Rattle.braid_tree.specs.Inside.{HaveOwnPlaces}
use Rattle.braid_tree.specs.Seen.{seen_rows, place_in, char_in}
use Rattle.braid_tree.proofs.Places.{place_cases, place_of_run, known_put, own_put}
use Rattle.braid_tree.proofs.KeptRows.{known_after}
use Rattle.braid_spans.specs.declared.run.Run.{Run}
use Rattle.braid_spans.specs.declared.link.Link.{Link}
use Rattle.braid_spans.specs.declared.version.SpanVersion.{SpanVersion}
use Rattle.braid_spans.specs.Spans.{spelled_span, spelled, rows_of, deletions_of}
use Rattle.braid_spans.specs.Kept.{span_of, spans_of, stamps_in, stamp_of, chains_of, reach, size_in, undeleted_in, IsFitting, AreFitting, IsHeld, IsHeldAt, IsSound, IsPut, MarksOne, MarksEach, SpellsAlike, AreLinked}
use Rattle.braid_spans.specs.SeenRuns.{places_in, seen_count, seen_places, seen_chars}
use Rattle.braid_spans.proofs.Lists.{sum_by-cons}
use Rattle.braid_spans.proofs.SeenSteps.{places_length}
use Rattle.braid_spans.proofs.Chains.{chains_count}
use Rattle.braid_spans.proofs.FullMarks.{full_count}
use Rattle.braid_ids.specs.MarkSets.{IsMarked}
use Rattle.braid_spans.proofs.Spelling.{rows_of-spell, rows_of-append, text_length}
use Rattle.braid_spans.proofs.Marking.{each_rows, each_count, each_one}
use Rattle.braid_spans.proofs.Seeing.{spelled_count, seen_count_is, seen_places_is, seen_chars_is}

module _ (versions : ℕ) (chars : List ℕ) (links : List Link) (rs : List Run) (fit : AreFitting versions chars (chains_of links) rs) where
  pub all_reached : All (λ (r : Run). reach r.newest ≤ length links) rs
  all_reached = All-weaker (IsFitting versions (length chars) (length (chains_of links))) (λ (r : Run). reach r.newest ≤ length links) (λ r f. omega (arith, f.linked, chains_count links)) rs fit

module _ (versions : ℕ) (chars : List ℕ) (chains : List (List ℕ)) (rs : List Run) (fit : AreFitting versions chars chains rs) where
  pub all_ordinals : All (λ (r : Run). r.first.ordinal + r.len < 2 ^ 32) rs
  all_ordinals = All-weaker (IsFitting versions (length chars) (length chains)) (λ (r : Run). r.first.ordinal + r.len < 2 ^ 32) (λ r f. f.ordinals) rs fit

  pub all_chars : All (λ (r : Run). r.start + r.len ≤ length chars) rs
  all_chars = All-weaker (IsFitting versions (length chars) (length chains)) (λ (r : Run). r.start + r.len ≤ length chars) (λ r f. f.within) rs fit

  pub all_known : All (λ (r : Run). r.first.version < versions) rs
  all_known = All-weaker (IsFitting versions (length chars) (length chains)) (λ (r : Run). r.first.version < versions) (λ r f. f.known) rs fit

  pub size_is : size_in rs ≡ length (rows_of (spelled (spans_of chars chains rs)))
  size_is = sym (spelled_count versions chars chains rs fit)

-- a cut changes no number of elements
pub size_alike : (versions : ℕ) (chars : List ℕ) (chains : List (List ℕ)) (old new : List Run) → SpellsAlike old new → AreFitting versions chars chains old → size_in new ≡ size_in old
size_alike versions chars chains old new alike fit =
    let p = alike versions chars chains fit in
    size_is versions chars chains new p.0 ∙ ap (λ t. length (rows_of t)) p.1 ∙ sym (size_is versions chars chains old fit)

-- a place that is there is held by a run
pub held_from_place : (chars : List ℕ) (chains : List (List ℕ)) (versions : ℕ) (rs : List Run) (at : At) → AreFitting versions chars chains rs → HasPlace (rows_of (spelled (spans_of chars chains rs))) at → (i : ℕ) × IsHeldAt rs at i
held_from_place chars chains versions [] at fit h = absurd h
held_from_place chars chains versions (r ∷ rs) at fit h = elim (place_cases (rows_of (spelled_span (span_of chars chains r))) (rows_of (spelled (spans_of chars chains rs))) at (subst (λ t. HasPlace t at) (rows_of-append (spelled_span (span_of chars chains r)) (spelled (spans_of chars chains rs))) h)) [
  | inl a ↦ (zero, here (place_of_run r.first.version r.origin r.first.ordinal (span_of chars chains r).text at (subst (λ t. HasPlace t at) (rows_of-spell (span_of chars chains r).by r.first.version r.origin r.first.ordinal (span_of chars chains r).text) a)))
  | inr b ↦ further (held_from_place chars chains versions rs at (All-tail (IsFitting versions (length chars) (length chains)) r rs fit) b)
]
  where
    here : (at.version ≡ r.first.version) × (r.first.ordinal ≤ at.ordinal) × (at.ordinal < r.first.ordinal + length (span_of chars chains r).text) → IsHeld at r
    here (v, lo, up) = let t = text_length versions (length chains) chars r (All-head (IsFitting versions (length chars) (length chains)) r rs fit) in
        record { version = sym v; from = lo; to = omega (arith, up, t) }

    further : (i : ℕ) × IsHeldAt rs at i → (i : ℕ) × IsHeldAt (r ∷ rs) at i
    further (i, h) = (suc i, h)

pub held_after : (chars : List ℕ) (chains : List (List ℕ)) (versions : ℕ) (rs : List Run) (after : Option At) → AreFitting versions chars chains rs → MatchOption after (Unit {0}) (HasPlace (rows_of (spelled (spans_of chars chains rs))))
    → MatchOption after (Unit {0}) (λ (at : At). (i : ℕ) × IsHeldAt rs at i)
held_after chars chains versions rs None fit h = tt
held_after chars chains versions rs (Some at) fit h = held_from_place chars chains versions rs at fit h

run_length : (version : ℕ) (origin : Option At) (n : ℕ) (cs : List ℕ) → length (run_rows version origin n cs) ≡ length cs
run_length version origin n [] = refl
run_length version origin n (c ∷ cs) = ap suc (run_length version (Some (place version n)) (n + 1) cs)

-- the rows of a run are as many as its characters
put_length : (old new : List Row) (version : ℕ) (after : Option At) (n : ℕ) (text : List ℕ) → PutsRun old new version after n text → length new ≡ length old + length text
put_length old new version after n text (p, l, e) =
    let a = ap length e ∙ length-append (take p old) (run_rows version after n text ++ drop p old) in
    let b = length-append (run_rows version after n text) (drop p old) in
    let c = length-take-le p old l in
    let d = length-drop p old in
    omega (arith, a, b, c, d, l, run_length version after n text)

module _ (vs : List SpanVersion) (chars : List ℕ) (links : List Link) (rs : List Run) (deletions : ℕ) (sound : IsSound vs chars links rs deletions) where
  -- the answers of a sound document
  pub count_answer : (marks : List Bool) (ls : List Link) (xs : List Run) (n : ℕ) → ls ≡ links → xs ≡ rs → n ≡ seen_count marks (chains_of ls) xs
      → n ≡ length (seen_rows marks (deletions_of (spelled (spans_of chars (chains_of links) rs))) (rows_of (spelled (spans_of chars (chains_of links) rs))))
  count_answer marks ls xs n a b e = e ∙ ap (λ t. seen_count marks (chains_of t) xs) a ∙ ap (seen_count marks (chains_of links)) b ∙ sym (seen_count_is (length vs) chars (chains_of links) marks rs sound.fitting sound.own_places)

  pub places_answer : (marks : List Bool) (ls : List Link) (xs : List Run) → ls ≡ links → xs ≡ rs
      → seen_places marks (chains_of ls) xs ≡ map place_in (seen_rows marks (deletions_of (spelled (spans_of chars (chains_of links) rs))) (rows_of (spelled (spans_of chars (chains_of links) rs))))
  places_answer marks ls xs a b = ap (λ t. seen_places marks (chains_of t) xs) a ∙ ap (seen_places marks (chains_of links)) b ∙ sym (seen_places_is (length vs) chars (chains_of links) marks rs sound.fitting sound.own_places)

  pub chars_answer : (marks : List Bool) (cs : List ℕ) (ls : List Link) (xs : List Run) → cs ≡ chars → ls ≡ links → xs ≡ rs
      → seen_chars marks cs (chains_of ls) xs ≡ map char_in (seen_rows marks (deletions_of (spelled (spans_of chars (chains_of links) rs))) (rows_of (spelled (spans_of chars (chains_of links) rs))))
  chars_answer marks cs ls xs z a b = ap (λ t. seen_chars marks t (chains_of ls) xs) z ∙ ap (λ t. seen_chars marks chars (chains_of t) xs) a ∙ ap (seen_chars marks chars (chains_of links)) b ∙ sym (seen_chars_is (length vs) chars (chains_of links) marks rs sound.fitting sound.own_places)

  -- where every version is marked the count of what nothing deletes answers
  pub full_answer : (marks : List Bool) (n size versions : ℕ) → n ≡ undeleted_in rs → versions ≡ length vs → versions ≤ size → size ≡ length marks → ((k : ℕ) → k < length marks → IsMarked marks k)
      → n ≡ length (seen_rows marks (deletions_of (spelled (spans_of chars (chains_of links) rs))) (rows_of (spelled (spans_of chars (chains_of links) rs))))
  full_answer marks n size versions e v l s full =
      e ∙ sym (full_count (length vs) marks chars links (omega (arith, v, l, s)) full sound.linked sound.made rs sound.fitting)
      ∙ sym (seen_count_is (length vs) chars (chains_of links) marks rs sound.fitting sound.own_places)

  pub size_sound : size_in rs ≡ length chars
  size_sound = size_is (length vs) chars (chains_of links) rs sound.fitting ∙ sym sound.elements

  -- a run in its place leaves a sound document
  pub sound_put : (text : List ℕ) (new : List Run) (first : At) (after : Option At) → first.version < length vs
      → MatchOption after (Unit {0}) (HasPlace (rows_of (spelled (spans_of chars (chains_of links) rs)))) → AreNewOrdinals (rows_of (spelled (spans_of chars (chains_of links) rs))) first.version first.ordinal
      → AreFitting (length vs) (chars ++ text) (chains_of links) new
      → IsPut (stamps_in vs) (spelled (spans_of chars (chains_of links) rs)) (spelled (spans_of (chars ++ text) (chains_of links) new)) first after text
      → IsSound vs (chars ++ text) links new deletions
  sound_put text new first after lt there next fit put = record {
    known = known_put (stamps_in vs) old_rows new_rows first.version after first.ordinal text sound.known (omega (arith, lt, length-map vs stamp_of)) (known_after (stamps_in vs) old_rows after sound.known there) put.put;
    own_places = own_put old_rows new_rows first.version after first.ordinal text sound.own_places next put.put;
    fitting = fit;
    linked = sound.linked;
    made = sound.made;
    elements = (let a = length-append chars text in let b = put_length old_rows new_rows first.version after first.ordinal text put.put in omega (arith, a, b, sound.elements));
    deletions_are = sound.deletions_are ∙ ap length (sym put.deletions);
    few_links = sound.few_links;
  }
    where
      old_rows : List Row
      old_rows = rows_of (spelled (spans_of chars (chains_of links) rs))

      new_rows : List Row
      new_rows = rows_of (spelled (spans_of (chars ++ text) (chains_of links) new))

  -- and so does one more deletion of neighbours
  pub sound_each : (links' : List Link) (new : List Run) (version n k by : ℕ) → 0 < k → AreLinked links' → All (λ (x : Link). x.by < length vs) links' → length links' ≤ length links + 1
      → AreFitting (length vs) chars (chains_of links') new → MarksEach (spelled (spans_of chars (chains_of links) rs)) (spelled (spans_of chars (chains_of links') new)) version n k by
      → IsSound vs chars links' new (deletions + k)
  sound_each links' new version n k by some linked made few fit marked =
      let rows : rows_of (spelled (spans_of chars (chains_of links') new)) ≡ rows_of (spelled (spans_of chars (chains_of links) rs)) = each_rows (spelled (spans_of chars (chains_of links) rs)) (spelled (spans_of chars (chains_of links') new)) version n k by marked in
      let more = each_count (spelled (spans_of chars (chains_of links) rs)) (spelled (spans_of chars (chains_of links') new)) version n k by marked in
      record {
        known = subst (AreKnown (stamps_in vs)) (sym rows) sound.known;
        own_places = subst HaveOwnPlaces (sym rows) sound.own_places;
        fitting = fit;
        linked = linked;
        made = made;
        elements = sound.elements ∙ ap length (sym rows);
        deletions_are = omega (arith, more, sound.deletions_are);
        few_links = omega (arith, some, few, sound.few_links);
      }

  pub sound_marked : (links' : List Link) (new : List Run) (at : At) (by : ℕ) → AreLinked links' → All (λ (x : Link). x.by < length vs) links' → length links' ≤ length links + 1
      → AreFitting (length vs) chars (chains_of links') new → MarksOne (spelled (spans_of chars (chains_of links) rs)) (spelled (spans_of chars (chains_of links') new)) at by
      → IsSound vs chars links' new (deletions + 1)
  sound_marked links' new at by linked made few fit marked =
      sound_each links' new at.version at.ordinal 1 by (omega arith) linked made few fit (each_one (spelled (spans_of chars (chains_of links) rs)) (spelled (spans_of chars (chains_of links') new)) at by marked)

past_end : {X : Type 0} (xs : List X) (n : ℕ) → length xs ≤ n → slice_get xs n ≡ None
past_end [] zero l = refl
past_end [] (suc n) l = refl
past_end (x ∷ xs) zero l = absurd (omega (arith, l))
past_end (x ∷ xs) (suc n) l = past_end xs n (omega (arith, l))

-- the places are as many as what is seen
pub places_count : (xs : List Run) → length (flat_map places_in xs) ≡ size_in xs
places_count [] = refl
places_count (r ∷ xs) =
    let a = length-append (places_in r) (flat_map places_in xs) in
    let b = places_length r.first.version r.first.ordinal r.len in
    let c : size_in (r ∷ xs) ≡ r.len + size_in xs = sum_by-cons (λ (x : Run). x.len) r xs in
    omega (arith, a, b, c, places_count xs)

-- an item's place is an item of the places
pub place_at : (rows : List Row) (n : ℕ) → option_map place_in (slice_get rows n) ≡ slice_get (map place_in rows) n
place_at rows n = sym (slice_get-map place_in rows n)

-- what is not empty has an item
pub some_items : (n : ℕ) → false ≡ (n == 0) → 0 < n
some_items zero h = cc
some_items (suc n) h = omega arith
