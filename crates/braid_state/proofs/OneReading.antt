-- Bytes are read in one way.
use Rattle.std.proofs.Common.{◌≡◌, ◌≢◌, ℕ, ◌+◌, ◌<◌, ◌≤◌, List, [], ◌∷◌, ◌++◌, length, take, drop, get_or, codes, refl, sym, ap, ◌∙◌, subst, arith, inl, inr}
use Rattle.std.proofs.lemmas.Bool.{cases_lt}
use Rattle.std.proofs.lemmas.List.{append_cancel_left, take-append-drop, take-take}
use Rattle.braid_change.specs.Updates.{UpdateView}
use Rattle.braid_grammar.specs.Streams.{IsGap, BeginsNoEmptyLine}
use Rattle.braid_grammar.specs.Readers.{IsBehindGap}
use Rattle.braid_grammar.proofs.Law.{rest_of, whole_same}
use Rattle.braid_grammar.proofs.Gaps.{gap_passed}
use Rattle.braid_grammar.proofs.OneUpdate.{first_same}
use Rattle.braid_grammar.proofs.ReadLines.{no_empty_front}
use Rattle.braid_state.specs.Heads.{Head, head_lines, count_of, HasLines}
use Rattle.braid_state.specs.States.{UpdatesThen, end_mark}
use Rattle.braid_state.specs.StateFaults.{BeginsNoUpdate, LacksLine, IsBadTail, no_end, past_end, IsBadBody, bad_update, bad_tail, IsBadFrom, bad_line, bad_body}
use Rattle.braid_state.proofs.Lines.{same_rest, front_lines}

-- so many updates are read in one way
pub updates_same : (us vs : List UpdateView) (rest other bytes : List ℕ) → length us ≡ length vs → UpdatesThen us rest bytes → UpdatesThen vs other bytes → (us ≡ vs) × (rest ≡ other)
updates_same [] [] rest other bytes e h k = (refl, sym h ∙ k)
updates_same [] (v ∷ vs) rest other bytes e h k = absurd (omega arith)
updates_same (u ∷ us) [] rest other bytes e h k = absurd (omega arith)
updates_same (u ∷ us) (v ∷ vs) rest other bytes e h k =
    let one = first_same u v h.gap h.first h.rest k.gap k.first k.rest h.is_gap h.is_first k.is_gap k.is_first (sym h.spelled ∙ k.spelled) in
    let more = updates_same us vs rest other k.rest (omega arith) (subst (UpdatesThen us rest) one.1 h.is_rest) k.is_rest in
    (cc (one.0, more.0), more.1)

-- where more updates are read, a further one stood behind fewer
pub updates_apart : (us vs : List UpdateView) (rest other bytes : List ℕ) → length us < length vs → UpdatesThen us rest bytes → UpdatesThen vs other bytes → BeginsNoUpdate rest → ⊥
updates_apart [] [] rest other bytes l h k none = omega arith
updates_apart [] (v ∷ vs) rest other bytes l h k none = none v k.gap k.first k.rest k.is_gap k.is_first (sym h ∙ k.spelled)
updates_apart (u ∷ us) [] rest other bytes l h k none = omega arith
updates_apart (u ∷ us) (v ∷ vs) rest other bytes l h k none =
    let one = first_same u v h.gap h.first h.rest k.gap k.first k.rest h.is_gap h.is_first k.is_gap k.is_first (sym h.spelled ∙ k.spelled) in
    updates_apart us vs rest other k.rest (omega arith) (subst (UpdatesThen us rest) one.1 h.is_rest) k.is_rest none

-- a gap that no further empty line follows ends at one place
pub gap_same : (gap other rest more : List ℕ) → IsGap gap → IsGap other → BeginsNoEmptyLine rest → BeginsNoEmptyLine more → gap ++ rest ≡ other ++ more → rest ≡ more
gap_same gap other rest more g h k l e =
    let one : IsBehindGap (gap ++ rest) rest = record { gap = gap; is_gap = g; stops = k; spelled = refl } in
    let two : IsBehindGap (gap ++ rest) more = record { gap = other; is_gap = h; stops = l; spelled = e } in
    whole_same rest more _ _ (sym (gap_passed rest_of 0 (gap ++ rest) rest one) ∙ gap_passed rest_of 0 (gap ++ rest) more two)

first_differs : (xs ys : List ℕ) → xs ≡ ys → get_or xs 0 0 ≢ get_or ys 0 0 → ⊥
first_differs xs ys e n = n (ap (λ t. get_or t 0 0) e)

pub no_empty_mark : (more : List ℕ) → BeginsNoEmptyLine (end_mark ++ more)
no_empty_mark more = no_empty_front (end_mark ++ more) (λ rest e. first_differs (end_mark ++ more) (codes "\n" ++ rest) e (λ w. omega (arith, w))) (λ rest e. first_differs (end_mark ++ more) (codes "\r\n" ++ rest) e (λ w. omega (arith, w)))

-- bytes begin with one whole head
pub head_same : (h k : Head) (body other bytes : List ℕ) → HasLines head_lines h body bytes → HasLines head_lines k other bytes → (h ≡ k) × (body ≡ other)
head_same h k body other bytes f g =
    let s = same_rest head_lines h k body other bytes f g in
    let agent : h.agent ≡ k.agent = s.0.1.0 in
    let server : h.server ≡ k.server = s.0.1.1.0 in
    let path : h.path ≡ k.path = s.0.1.1.1.0 in
    let confirmed : h.confirmed ≡ k.confirmed = s.0.1.1.1.1.0 in
    let unsent : h.unsent ≡ k.unsent = s.0.1.1.1.1.1.0 in
    (λ i. record { agent = agent i; server = server i; path = path i; confirmed = confirmed i; unsent = unsent i }, s.1)

-- with lines of a head come fewer of them
pub fewer_lines : (m n : ℕ) (head : Head) (rest bytes : List ℕ) → m ≤ n → HasLines (take n head_lines) head rest bytes → (more : List ℕ) × HasLines (take m head_lines) head more bytes
fewer_lines m n head rest bytes l h =
    let cut : take n head_lines ≡ take m head_lines ++ drop m (take n head_lines) = sym (take-append-drop m (take n head_lines)) ∙ ap (λ t. t ++ drop m (take n head_lines)) (take-take m n head_lines l) in
    (_, front_lines (take m head_lines) (drop m (take n head_lines)) head rest bytes (subst (λ ls. HasLines ls head rest bytes) cut h))

-- what is bad behind the updates begins at one place
tail_same : (rest other tail : List ℕ) → IsBadTail rest tail → IsBadTail other tail → rest ≡ other
tail_same rest other tail (no_end k) (no_end l) = gap_same k.gap l.gap rest other k.is_gap l.is_gap k.stops l.stops (sym k.spelled ∙ l.spelled)
tail_same rest other tail (no_end k) (past_end l) = absurd (k.bad other (gap_same k.gap l.gap rest (end_mark ++ other) k.is_gap l.is_gap k.stops (no_empty_mark other) (sym k.spelled ∙ l.spelled)))
tail_same rest other tail (past_end k) (no_end l) = absurd (l.bad rest (gap_same l.gap k.gap other (end_mark ++ rest) l.is_gap k.is_gap l.stops (no_empty_mark rest) (sym l.spelled ∙ k.spelled)))
tail_same rest other tail (past_end k) (past_end l) =
    append_cancel_left end_mark rest other (gap_same k.gap l.gap (end_mark ++ rest) (end_mark ++ other) k.is_gap l.is_gap (no_empty_mark rest) (no_empty_mark other) (sym k.spelled ∙ l.spelled))

body_same : (count : ℕ) (rest other body : List ℕ) → IsBadBody count rest body → IsBadBody count other body → rest ≡ other
body_same count rest other body (bad_update k) (bad_update l) = elim (cases_lt (length k.updates) (length l.updates)) [
  | inl below ↦ absurd (updates_apart k.updates l.updates rest other body below k.good l.good k.bad)
  | inr above ↦ elim (cases_lt (length l.updates) (length k.updates)) [
    | inl below ↦ absurd (updates_apart l.updates k.updates other rest body below l.good k.good l.bad)
    | inr same ↦ (updates_same k.updates l.updates rest other body (omega arith) k.good l.good).1
  ]
]
body_same count rest other body (bad_update k) (bad_tail us tail n h t) = absurd (updates_apart k.updates us rest tail body (omega (arith, k.fewer)) k.good h k.bad)
body_same count rest other body (bad_tail us tail n h t) (bad_update l) = absurd (updates_apart l.updates us other tail body (omega (arith, l.fewer)) l.good h l.bad)
body_same count rest other body (bad_tail us tail n h t) (bad_tail vs last m k l) = tail_same rest other last (subst (IsBadTail rest) (updates_same us vs tail last body (omega arith) h k).1 t) l

-- behind a whole head no line is bad
pub no_bad_line : (head : Head) (rest body bytes : List ℕ) → HasLines head_lines head body bytes → LacksLine rest bytes → ⊥
no_bad_line head rest body bytes h k = let f = fewer_lines (k.count + 1) 7 head body bytes (omega (arith, k.fewer)) h in k.bad head f.0 f.1

line_same : (rest other bytes : List ℕ) → LacksLine rest bytes → LacksLine other bytes → rest ≡ other
line_same rest other bytes k l = elim (cases_lt k.count l.count) [
  | inl below ↦ let f = fewer_lines (k.count + 1) l.count l.head other bytes (omega arith) l.good in absurd (k.bad l.head f.0 f.1)
  | inr above ↦ elim (cases_lt l.count k.count) [
    | inl below ↦ let f = fewer_lines (l.count + 1) k.count k.head rest bytes (omega arith) k.good in absurd (l.bad k.head f.0 f.1)
    | inr same ↦ let e : l.count ≡ k.count = omega arith in
        (same_rest (take k.count head_lines) k.head l.head rest other bytes k.good (subst (λ n. HasLines (take n head_lines) l.head other bytes) e l.good)).1
  ]
]

-- bytes that spell no state are bad from one place on
pub bad_same : (rest other bytes : List ℕ) → IsBadFrom rest bytes → IsBadFrom other bytes → rest ≡ other
bad_same rest other bytes (bad_line k) (bad_line l) = line_same rest other bytes k l
bad_same rest other bytes (bad_line k) (bad_body head body h l) = absurd (no_bad_line head rest body bytes h k)
bad_same rest other bytes (bad_body head body h k) (bad_line l) = absurd (no_bad_line head other body bytes h l)
bad_same rest other bytes (bad_body h body f k) (bad_body g last e l) =
    let same = head_same h g body last bytes f e in
    body_same (count_of g.confirmed + count_of g.unsent) rest other last (subst (λ (x : Head). IsBadBody (count_of x.confirmed + count_of x.unsent) rest last) same.0 (subst (IsBadBody (count_of h.confirmed + count_of h.unsent) rest) same.1 k)) l
