-- Where bytes depart from the form: what is bad is the end of them.
use Rattle.std.proofs.Common.{◌≡◌, ℕ, ◌≤◌, List, [], ◌∷◌, ◌++◌, length, take, arith, ap, length-append}
use Rattle.braid_change.specs.Updates.{UpdateView}
use Rattle.braid_state.specs.declared.line.Line.{Line}
use Rattle.braid_state.specs.Heads.{Head, head_lines, HasLines}
use Rattle.braid_state.specs.States.{UpdatesThen, end_mark}
use Rattle.braid_state.specs.StateFaults.{IsBadTail, no_end, past_end, IsBadBody, bad_update, bad_tail, IsBadFrom, bad_line, bad_body}

behind : (front rest bytes : List ℕ) → bytes ≡ front ++ rest → length rest ≤ length bytes
behind front rest bytes e = omega (arith, ap length e, length-append front rest)

behind_lines : (lines : List Line) (head : Head) (rest bytes : List ℕ) → HasLines lines head rest bytes → length rest ≤ length bytes
behind_lines lines head rest bytes h = behind _ rest bytes h.spelled

behind_updates : (us : List UpdateView) (rest bytes : List ℕ) → UpdatesThen us rest bytes → length rest ≤ length bytes
behind_updates [] rest bytes h = omega (arith, ap length h)
behind_updates (u ∷ us) rest bytes h = omega (arith, behind_updates us rest h.rest h.is_rest, ap length h.spelled, length-append h.gap (h.first ++ h.rest), length-append h.first h.rest)

in_tail : (rest tail : List ℕ) → IsBadTail rest tail → length rest ≤ length tail
in_tail rest tail (no_end k) = behind k.gap rest tail k.spelled
in_tail rest tail (past_end k) = omega (arith, ap length k.spelled, length-append k.gap (end_mark ++ rest), length-append end_mark rest)

in_body : (count : ℕ) (rest body : List ℕ) → IsBadBody count rest body → length rest ≤ length body
in_body count rest body (bad_update k) = behind_updates k.updates rest body k.good
in_body count rest body (bad_tail us tail n h k) = omega (arith, behind_updates us tail body h, in_tail rest tail k)

pub rest_within : (rest bytes : List ℕ) → IsBadFrom rest bytes → length rest ≤ length bytes
rest_within rest bytes (bad_line k) = behind_lines (take k.count head_lines) k.head rest bytes k.good
rest_within rest bytes (bad_body head body h k) = omega (arith, behind_lines head_lines head body bytes h, in_body _ rest body k)
