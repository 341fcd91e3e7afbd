-- Spellings of states: one state, no fault, and whole or not at all.
use Rattle.std.proofs.Common.{◌≡◌, ℕ, ◌+◌, ◌≤◌, decimal, List, [], ◌∷◌, ◌++◌, length, flat_map, refl, sym, ap, ◌∙◌, subst, append_assoc, arith, length-append}
use Rattle.std.proofs.lemmas.List.{append-nil, append_cancel_left}
use Rattle.std.proofs.lemmas.Fmt.{decimal_injective}
use Rattle.std.specs.List.{AllByRecursion}
use Rattle.braid_change.specs.Updates.{UpdateView, IsUpdate}
use Rattle.braid_change.specs.Spellings.{canonical, canonical_all}
use Rattle.braid_grammar.specs.Streams.{IsGap, no_line}
use Rattle.braid_grammar.proofs.Canonical.{canonical_split}
use Rattle.braid_state.specs.declared.line.Line.{Line}
use Rattle.braid_state.specs.Heads.{Head, head_lines, line_of, count_of, most_updates, HasLines}
use Rattle.braid_state.specs.declared.state.State.{State}
use Rattle.braid_state.specs.States.{head_of, UpdatesThen, end_mark, SpellsState, IsState, state_text}
use Rattle.braid_state.specs.StateFaults.{IsBadTail, no_end, past_end, IsBadBody, bad_update, bad_tail, IsBadFrom, bad_line, bad_body}
use Rattle.braid_state.proofs.Counts.{decimal_count}
use Rattle.braid_state.proofs.Updates.{updates_join}
use Rattle.braid_state.proofs.OneReading.{updates_same, updates_apart, gap_same, no_empty_mark, head_same, no_bad_line}

-- the bytes are a whole text, and then the rest
record Begins (head : Head) (us : List UpdateView) (rest bytes : List ℕ) : Type 0 where
  body : List ℕ
  gap : List ℕ
  lines : HasLines head_lines head body bytes
  updates : UpdatesThen us (gap ++ (end_mark ++ rest)) body
  is_gap : IsGap gap
  counted : length us ≡ count_of head.confirmed + count_of head.unsent

-- bytes begin with one whole text
begins_same : (h k : Head) (us vs : List UpdateView) (rest other bytes : List ℕ) → Begins h us rest bytes → Begins k vs other bytes → (h ≡ k) × (us ≡ vs) × (rest ≡ other)
begins_same h k us vs rest other bytes f g =
    let head = head_same h k f.body g.body bytes f.lines g.lines in
    let counts : length us ≡ length vs = omega (arith, f.counted, g.counted, ap (λ (x : Head). count_of x.confirmed) head.0, ap (λ (x : Head). count_of x.unsent) head.0) in
    let updates = updates_same us vs (f.gap ++ (end_mark ++ rest)) (g.gap ++ (end_mark ++ other)) g.body counts (subst (UpdatesThen us (f.gap ++ (end_mark ++ rest))) head.1 f.updates) g.updates in
    (head.0, updates.0, append_cancel_left end_mark rest other (gap_same f.gap g.gap (end_mark ++ rest) (end_mark ++ other) f.is_gap g.is_gap (no_empty_mark rest) (no_empty_mark other) updates.1))

-- the lines, the updates, and what follows them
lines_longer : (lines : List Line) (head : Head) (rest bytes more : List ℕ) → HasLines lines head rest bytes → HasLines lines head (rest ++ more) (bytes ++ more)
lines_longer lines head rest bytes more h = record { forms = h.forms; spelled = ap (λ t. t ++ more) h.spelled ∙ append_assoc (flat_map (line_of head) lines) rest more }

updates_longer : (us : List UpdateView) (rest bytes more : List ℕ) → UpdatesThen us rest bytes → UpdatesThen us (rest ++ more) (bytes ++ more)
updates_longer [] rest bytes more h = ap (λ t. t ++ more) h
updates_longer (u ∷ us) rest bytes more h = record {
  gap = h.gap;
  first = h.first;
  rest = h.rest ++ more;
  is_gap = h.is_gap;
  is_first = h.is_first;
  is_rest = updates_longer us rest h.rest more h.is_rest;
  spelled = ap (λ t. t ++ more) h.spelled ∙ append_assoc h.gap (h.first ++ h.rest) more ∙ ap (λ t. h.gap ++ t) (append_assoc h.first h.rest more);
}

counted : (s : State) → length s.confirmed + length s.unsent ≤ most_updates → length (s.confirmed ++ s.unsent) ≡ count_of (decimal (length s.confirmed)) + count_of (decimal (length s.unsent))
counted s l =
    let c = (decimal_count (length s.confirmed) (omega arith)).1 in
    let u = (decimal_count (length s.unsent) (omega arith)).1 in
    omega (arith, c, u, length-append s.confirmed s.unsent)

spelled_begins : (s : State) (bytes more : List ℕ) → SpellsState s bytes → Begins (head_of s) (s.confirmed ++ s.unsent) more (bytes ++ more)
spelled_begins s bytes more h = record {
  body = h.body ++ more;
  gap = h.gap;
  lines = lines_longer head_lines (head_of s) h.body bytes more h.lines;
  updates = subst (λ t. UpdatesThen (s.confirmed ++ s.unsent) t (h.body ++ more)) (append_assoc h.gap end_mark more) (updates_longer (s.confirmed ++ s.unsent) (h.gap ++ end_mark) h.body more h.updates);
  is_gap = h.is_gap;
  counted = counted s h.few;
}

whole_begins : (s : State) (bytes : List ℕ) → SpellsState s bytes → Begins (head_of s) (s.confirmed ++ s.unsent) [] bytes
whole_begins s bytes h = subst (Begins (head_of s) (s.confirmed ++ s.unsent) []) (append-nil bytes) (spelled_begins s bytes [] h)

-- lists whose fronts are as long are split at one place
fronts_same : (us vs xs ys : List UpdateView) → length us ≡ length vs → us ++ xs ≡ vs ++ ys → (us ≡ vs) × (xs ≡ ys)
fronts_same [] [] xs ys l e = (refl, e)
fronts_same [] (v ∷ vs) xs ys l e = absurd (omega arith)
fronts_same (u ∷ us) [] xs ys l e = absurd (omega arith)
fronts_same (u ∷ us) (v ∷ vs) xs ys l e =
    let more : us ++ xs ≡ vs ++ ys = cc in
    let first : u ≡ v = cc in
    let rest = fronts_same us vs xs ys (omega arith) more in
    (cc (rest.0, first), rest.1)

pub one_state : (s t : State) (bytes : List ℕ) → SpellsState s bytes → SpellsState t bytes → s ≡ t
one_state s t bytes h k =
    let same = begins_same (head_of s) (head_of t) (s.confirmed ++ s.unsent) (t.confirmed ++ t.unsent) [] [] bytes (whole_begins s bytes h) (whole_begins t bytes k) in
    let count : length s.confirmed ≡ length t.confirmed = decimal_injective (length s.confirmed) (length t.confirmed) (omega (arith, h.few)) (omega (arith, k.few)) (ap (λ (x : Head). x.confirmed) same.0) in
    let lists = fronts_same s.confirmed t.confirmed s.unsent t.unsent count same.1 in
    let agent : s.agent ≡ t.agent = ap (λ (x : Head). x.agent) same.0 in
    let server : s.server ≡ t.server = ap (λ (x : Head). x.server) same.0 in
    let path : s.path ≡ t.path = ap (λ (x : Head). x.path) same.0 in
    let confirmed : s.confirmed ≡ t.confirmed = lists.0 in
    let unsent : s.unsent ≡ t.unsent = lists.1 in
    λ i. record { agent = agent i; server = server i; path = path i; confirmed = confirmed i; unsent = unsent i }

-- nothing that goes on from a spelling is one
pub nothing_more : (s t : State) (bytes more : List ℕ) → SpellsState s bytes → SpellsState t (bytes ++ more) → more ≡ []
nothing_more s t bytes more h k = (begins_same (head_of s) (head_of t) (s.confirmed ++ s.unsent) (t.confirmed ++ t.unsent) more [] (bytes ++ more) (spelled_begins s bytes more h) (whole_begins t (bytes ++ more) k)).2

-- a spelling is bad nowhere
good_tail : (gap rest : List ℕ) → IsGap gap → IsBadTail rest (gap ++ end_mark) → ⊥
good_tail gap rest g (no_end k) = k.bad [] (gap_same k.gap gap rest (end_mark ++ []) k.is_gap g k.stops (no_empty_mark []) (sym k.spelled))
good_tail gap rest g (past_end k) = k.some (append_cancel_left end_mark rest [] (gap_same k.gap gap (end_mark ++ rest) (end_mark ++ []) k.is_gap g (no_empty_mark rest) (no_empty_mark []) (sym k.spelled)))

good_body : (us : List UpdateView) (count : ℕ) (gap rest body : List ℕ) → length us ≡ count → UpdatesThen us (gap ++ end_mark) body → IsGap gap → IsBadBody count rest body → ⊥
good_body us count gap rest body n h g (bad_update k) = updates_apart k.updates us rest (gap ++ end_mark) body (omega (arith, k.fewer)) k.good h k.bad
good_body us count gap rest body n h g (bad_tail vs tail m k t) = good_tail gap rest g (subst (IsBadTail rest) (updates_same vs us tail (gap ++ end_mark) body (omega arith) k h).1 t)

pub not_bad : (s : State) (rest bytes : List ℕ) → SpellsState s bytes → IsBadFrom rest bytes → ⊥
not_bad s rest bytes h (bad_line k) = no_bad_line (head_of s) rest h.body bytes h.lines k
not_bad s rest bytes h (bad_body head body lines k) =
    let same = head_same (head_of s) head h.body body bytes h.lines lines in
    let count : length (s.confirmed ++ s.unsent) ≡ count_of head.confirmed + count_of head.unsent = subst (λ (x : Head). length (s.confirmed ++ s.unsent) ≡ count_of x.confirmed + count_of x.unsent) same.0 (counted s h.few) in
    good_body (s.confirmed ++ s.unsent) (count_of head.confirmed + count_of head.unsent) h.gap rest body count (subst (UpdatesThen (s.confirmed ++ s.unsent) (h.gap ++ end_mark)) same.1 h.updates) h.is_gap k

-- canonical spellings behind a gap are updates, each after a gap, and one more gap
record AreSpelled (us : List UpdateView) (rest bytes : List ℕ) : Type 0 where
  gap : List ℕ
  is_gap : IsGap gap
  updates : UpdatesThen us (gap ++ rest) bytes

all_spelled : (us : List UpdateView) (gap rest : List ℕ) → IsGap gap → AllByRecursion IsUpdate us → AreSpelled us rest (gap ++ (canonical_all us ++ rest))
all_spelled [] gap rest g h = record { gap = gap; is_gap = g; updates = refl }
all_spelled (u ∷ us) gap rest g h =
    let s = canonical_split u h.0 in
    let more = all_spelled us s.rest rest s.is_rest h.1 in
    record {
      gap = more.gap;
      is_gap = more.is_gap;
      updates = record {
        gap = gap;
        first = s.front;
        rest = s.rest ++ (canonical_all us ++ rest);
        is_gap = g;
        is_first = s.is_front;
        is_rest = more.updates;
        spelled = ap (λ t. gap ++ t) (append_assoc (canonical u) (canonical_all us) rest ∙ ap (λ t. t ++ (canonical_all us ++ rest)) s.spelled ∙ append_assoc s.front s.rest (canonical_all us ++ rest));
      };
    }

pub text_spells : (s : State) → IsState s → SpellsState s (state_text s)
text_spells s h =
    let first = all_spelled s.confirmed [] (canonical_all s.unsent ++ end_mark) no_line h.confirmed in
    let second = all_spelled s.unsent first.gap end_mark first.is_gap h.unsent in
    let c = decimal_count (length s.confirmed) (omega (arith, h.few)) in
    let u = decimal_count (length s.unsent) (omega (arith, h.few)) in
    let few : count_of (decimal (length s.confirmed)) + count_of (decimal (length s.unsent)) ≤ most_updates = omega (arith, h.few, c.1, u.1) in
    record {
      few = h.few;
      body = canonical_all s.confirmed ++ (canonical_all s.unsent ++ end_mark);
      gap = second.gap;
      lines = record { forms = (tt, (h.agent, (h.server, (h.path, (c.0, ((u.0, few), (tt, tt))))))); spelled = refl };
      updates = updates_join s.confirmed s.unsent (first.gap ++ (canonical_all s.unsent ++ end_mark)) (second.gap ++ end_mark) (canonical_all s.confirmed ++ (canonical_all s.unsent ++ end_mark)) first.updates second.updates;
      is_gap = second.is_gap;
    }
