-- What is kept of runs, after one more entry.
use Rattle.std.proofs.Common.{◌≡◌, ℕ, ◌+◌, ◌<◌, ◌≤◌, List, [], ◌∷◌, ◌++◌, Bool, true, false, length, get_or, slice_get, Option, Some, None, zero, suc, arith, refl, sym, ap, subst, ◌∙◌, inl, inr, ◌⊎◌}
use Rattle.std.specs.List.{AllZip}
use Rattle.std.proofs.lemmas.Option.{same_Some, slice_get_within, slice_get_read}
use Rattle.std.proofs.lemmas.Bool.{cases_lt}
use Rattle.std.proofs.lemmas.List.{length_push}
use Rattle.braid_ids.proofs.Members.{kept_place, slice_get-append_left, slice_get_push}
use Rattle.braid_graph.specs.Entries.{GraphEntry, ids_of, IsHistoryGraph}
use Rattle.braid_graph.specs.Runs.{goes_on, starts_of, runs_of}
use Rattle.braid_graph.specs.Inside.{IsNumberOf, IsLinked, IsRunAfter, IsRunOf, IsWhole, KeepsRuns, begun, last_from}
use Rattle.braid_graph.specs.declared.links.Links.{Links}
use Rattle.braid_graph.proofs.Runs.{start_within, starts_pushed, begun_on, begun_new, goes_true, last_is}
use Rattle.braid_ids.proofs.Ids.{eq_itself}
use Rattle.braid_graph.proofs.Newest.{one_number}
use Rattle.braid_graph.proofs.Kept.{zip_length}
use Rattle.braid_graph.proofs.Collected.{ids_length}

-- what stands at a place of a list with one more
pub at_push : {A : Type 0} (xs : List A) (y : A) (n : ℕ) (x : A) → slice_get (xs ++ y ∷ []) n ≡ Some x → (slice_get xs n ≡ Some x) ⊎ ((n ≡ length xs) × (y ≡ x))
at_push xs y n x at = elim (cases_lt n (length xs)) [
  | inl l ↦ inl (sym (slice_get-append_left xs (y ∷ []) n l) ∙ at)
  | inr g ↦
      let w = slice_get_within (xs ++ y ∷ []) n x at in
      let same : n ≡ length xs = omega (arith, length_push xs y) in
      inr (same, same_Some y x (sym (slice_get_push xs y) ∙ subst (λ (t : ℕ). slice_get (xs ++ y ∷ []) t ≡ Some x) same at))
]

-- the run of an old entry, where one more run begins behind it, or none
old_run : (starts : List ℕ) (n r m : ℕ) → n < m → IsRunOf starts n r → IsRunOf (starts ++ m ∷ []) n r
old_run starts n r m l is = record {
  start = is.start;
  begins = kept_place starts (m ∷ []) r is.start is.begins;
  from = is.from;
  next = λ t at. elim (at_push starts m (r + 1) t at) [ inl old ↦ is.next t old | inr new ↦ omega (arith, new.1) ];
}

some_at : {A : Type 0} (xs : List A) (n : ℕ) → n < length xs → (x : A) × (slice_get xs n ≡ Some x)
some_at [] n l = absurd (omega arith)
some_at (x ∷ xs) zero l = (x, refl)
some_at (x ∷ xs) (suc n) l = some_at xs n (omega arith)

past : {A : Type 0} (xs : List A) (n : ℕ) (x : A) → length xs ≤ n → slice_get xs n ≡ Some x → ⊥
past xs n x l at = let w = slice_get_within xs n x at in omega arith

pub runs_push : (es : List GraphEntry) (links : List Links) (starts : List ℕ) (e : GraphEntry) (k : Links) → length links ≡ length es → KeepsRuns es links starts → IsRunAfter es e.parents k.run → KeepsRuns (es ++ e ∷ []) (links ++ k ∷ []) (begun starts k.run (length es))
runs_push es links starts e k long keeps after = record {
  begin = ap (λ (t : List ℕ). begun t k.run (length es)) keeps.begin ∙ starts_pushed es e k.run after;
  placed = λ n j at. elim (two (goes_on (last_from None es) e.parents)) [ inl on ↦ stays on n j at | inr new ↦ grows new n j at ];
}
  where
    two : (b : Bool) → (b ≡ true) ⊎ (b ≡ false)
    two true = inl refl
    two false = inr refl

    count : length starts ≡ runs_of es
    count = ap length keeps.begin

    stays : goes_on (last_from None es) e.parents ≡ true → (n : ℕ) (j : Links) → slice_get (links ++ k ∷ []) n ≡ Some j → IsRunOf (begun starts k.run (length es)) n j.run
    stays on n j at =
        let last : k.run + 1 ≡ length starts = after.on on ∙ sym count in
        subst (λ (t : List ℕ). IsRunOf t n j.run) (sym (begun_on starts k.run (length es) last)) (elim (at_push links k n j at) [
          | inl old ↦ keeps.placed n j old
          | inr new ↦
              let s = some_at starts k.run (omega arith) in
              let w = start_within 0 None es k.run s.0 (subst (λ (t : List ℕ). slice_get t k.run ≡ Some s.0) keeps.begin s.1) in
              subst (λ (t : Links). IsRunOf starts n t.run) new.1 (record {
                start = s.0;
                begins = s.1;
                from = omega (arith, w.1, new.0);
                next = λ t behind. absurd (past starts (k.run + 1) t (omega arith) behind);
              })
        ])

    grows : goes_on (last_from None es) e.parents ≡ false → (n : ℕ) (j : Links) → slice_get (links ++ k ∷ []) n ≡ Some j → IsRunOf (begun starts k.run (length es)) n j.run
    grows fresh n j at =
        let last : k.run ≡ length starts = after.new fresh ∙ sym count in
        subst (λ (t : List ℕ). IsRunOf t n j.run) (sym (begun_new starts k.run (length es) last)) (elim (at_push links k n j at) [
          | inl old ↦ let w = slice_get_within links n j old in old_run starts n j.run (length es) (omega arith) (keeps.placed n j old)
          | inr new ↦ subst (λ (t : Links). IsRunOf (starts ++ length es ∷ []) n t.run) new.1 (record {
            start = length es;
            begins = subst (λ (t : ℕ). slice_get (starts ++ length es ∷ []) t ≡ Some (length es)) (sym last) (slice_get_push starts (length es));
            from = omega (arith, new.0);
            next = λ t behind. absurd (past (starts ++ length es ∷ []) (k.run + 1) t (let l = length_push starts (length es) in omega arith) behind);
          })
        ])

-- the run of a new entry, by the numbers of its parents
pub one_item : (ns : List ℕ) → 1 ≤ length ns → length ns < 2 → ns ≡ get_or ns 0 0 ∷ []
one_item [] a b = absurd (omega arith)
one_item (n ∷ []) a b = refl
one_item (n ∷ m ∷ ns) a b = absurd (omega arith)

pub run_on : (es : List GraphEntry) (ps : List (List ℕ)) (ns : List ℕ) (n run : ℕ) → ns ≡ n ∷ [] → n + 1 ≡ length es → run + 1 ≡ runs_of es → AllZip (IsNumberOf es) ps ns → IsRunAfter es ps run
run_on es ps ns n run one last count z = go ps (subst (AllZip (IsNumberOf es) ps) one z)
  where
    go : (ps : List (List ℕ)) → AllZip (IsNumberOf es) ps (n ∷ []) → IsRunAfter es ps run
    go [] z = absurd z
    go (p ∷ []) z =
        let is : last_from None es ≡ Some p = last_is None es n p last z.0 in
        let goes : goes_on (last_from None es) (p ∷ []) ≡ true = ap (λ (t : Option (List ℕ)). goes_on t (p ∷ [])) is ∙ eq_itself p in
        record { on = λ h. count; new = λ h. absurd (cc) }
    go (p ∷ q ∷ ps) z = absurd z.1

pub run_new : (es : List GraphEntry) (ps : List (List ℕ)) (ns : List ℕ) (run : ℕ) → IsHistoryGraph es → ((n : ℕ) → ns ≡ n ∷ [] → n + 1 ≡ length es → ⊥) → run ≡ runs_of es → AllZip (IsNumberOf es) ps ns → IsRunAfter es ps run
run_new es ps ns run h none count z = record {
  on = λ goes. absurd (let r = goes_true (last_from None es) ps goes in by (length es) refl r.0 r.1 ns (subst (λ (t : List (List ℕ)). AllZip (IsNumberOf es) t ns) r.2 z) none);
  new = λ h. count;
}
  where
    by : (k : ℕ) → length es ≡ k → (v : List ℕ) → last_from None es ≡ Some v → (ns : List ℕ) → AllZip (IsNumberOf es) (v ∷ []) ns → ((n : ℕ) → ns ≡ n ∷ [] → n + 1 ≡ length es → ⊥) → ⊥
    by k long v is [] z none = z
    by zero long v is (n ∷ []) z none = let w = slice_get_within (ids_of es) n v z.0 in let m = ids_length es in omega arith
    by (suc k) long v is (n ∷ []) z none =
        let m = ids_length es in
        let s = some_at (ids_of es) k (omega arith) in
        let last : last_from None es ≡ Some s.0 = last_is None es k s.0 (omega arith) s.1 in
        let same : s.0 ≡ v = same_Some s.0 v (sym last ∙ is) in
        let number : n ≡ k = one_number es h v n k z.0 (subst (λ (t : List ℕ). slice_get (ids_of es) k ≡ Some t) same s.1) in
        none n refl (omega arith)
    by k long v is (n ∷ j ∷ ns) z none = z.1

-- the run that is kept for an entry
pub starts_kept : (es own : List GraphEntry) (links : List Links) (flags : List Bool) (starts : List ℕ) → own ≡ es → IsWhole own links flags starts → starts ≡ starts_of es
starts_kept es own links flags starts view whole = whole.runs.begin ∙ ap starts_of view

pub run_kept : (es own : List GraphEntry) (links : List Links) (flags : List Bool) (starts : List ℕ) (n : ℕ) (k : Links) → own ≡ es → IsWhole own links flags starts → n < length es → k ≡ get_or links n k → IsRunOf (starts_of es) n k.run × (k.run < runs_of es)
run_kept es own links flags starts n k view whole l at =
    let long = zip_length (IsLinked own) own links whole.kept.linked in
    let same = ap (λ (t : List GraphEntry). length t) view in
    let is = whole.runs.placed n k (slice_get_read links (length links) n k refl (omega arith) at) in
    let run = subst (λ (t : List ℕ). IsRunOf t n k.run) (starts_kept es own links flags starts view whole) is in
    (run, slice_get_within (starts_of es) k.run run.start run.begins)

pub start_kept : (es own : List GraphEntry) (links : List Links) (flags : List Bool) (starts : List ℕ) (r s : ℕ) → own ≡ es → IsWhole own links flags starts → r < runs_of es → s ≡ get_or starts r s → slice_get (starts_of es) r ≡ Some s
start_kept es own links flags starts r s view whole l at =
    let begin = starts_kept es own links flags starts view whole in
    let long = ap length begin in
    subst (λ (t : List ℕ). slice_get t r ≡ Some s) begin (slice_get_read starts (length starts) r s refl (omega arith) at)

-- where runs begin after one more entry, as the parts of a graph change
pub add_runs : (es own more : List GraphEntry) (links new : List Links) (flags : List Bool) (starts begin : List ℕ) (e : GraphEntry) (k : Links) (n : ℕ) → own ≡ es → IsWhole own links flags starts → IsRunAfter es e.parents k.run → more ≡ es ++ e ∷ [] → new ≡ links ++ k ∷ [] → n ≡ length es → begin ≡ begun starts k.run n
    → KeepsRuns more new begin
add_runs es own more links new flags starts begin e k n view whole after grown linked number is =
    let keeps : KeepsRuns es links starts = subst (λ (t : List GraphEntry). KeepsRuns t links starts) view whole.runs in
    let long = zip_length (IsLinked own) own links whole.kept.linked in
    let same = ap (λ (t : List GraphEntry). length t) view in
    let r = runs_push es links starts e k (omega arith) keeps after in
    let b : begin ≡ begun starts k.run (length es) = is ∙ ap (begun starts k.run) number in
    subst (λ (t : List GraphEntry). KeepsRuns t new begin) (sym grown) (subst (λ (t : List Links). KeepsRuns (es ++ e ∷ []) t begin) (sym linked) (subst (KeepsRuns (es ++ e ∷ []) (links ++ k ∷ [])) (sym b) r))
