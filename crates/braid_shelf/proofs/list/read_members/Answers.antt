use Rattle.std.proofs.Common.{◌≡◌, [], ◌<◌, length, sym, ap, subst, ◌∙◌, arith}
use Rattle.std.proofs.lemmas.Grind.{common_steps}
use Rattle.std.proofs.lemmas.Bool.{eqb-true}
use Rattle.std.proofs.lemmas.List.{nil_from_length}
use Rattle.std.proofs.lemmas.Result.{err_from_is_err_and}
use Rattle.braid_shelf.specs.Reading.{Stops, separator_at, members_at, list_at}
use Rattle.braid_shelf.proofs.Members.{members_go_on, members_end, member_stops, separator_stops, loop_less}
use Rattle.braid_shelf.proofs.list.read_members.Goals as goal

pub returns-in_err-member : goal.returns-in_err-member
returns-in_err-member c =
    let p = err_from_is_err_and c.from_residual.result c.from_residual.ensures.1 in
    let some : 0 < length c.loop-rest.rest.now = grind (arith, common_steps) in
    rw (p.1, p.2) (member_stops c.in_err-member.field-0.0 c.loop-rest.found c.loop-rest.rest.now (list_at c.args.value.now) some c.in_err-member.ensures c.loop-rest.invariant)

pub returns-in_err-rest : goal.returns-in_err-rest
returns-in_err-rest c =
    let p = err_from_is_err_and c.from_residual-in_err-rest.result c.from_residual-in_err-rest.ensures.1 in
    let some : 0 < length c.loop-rest.rest.now = grind (arith, common_steps) in
    let stopped = subst (λ x. Stops c.in_err-rest.field-0.0 (separator_at x)) c.after_blanks.ensures c.in_err-rest.ensures in
    rw (p.1, p.2) (separator_stops c.in_err-rest.field-0.0 c.loop-rest.found c.in_ok-member.member c.loop-rest.rest.now c.in_ok-member.after.now (list_at c.args.value.now) some c.in_ok-member.ensures stopped c.loop-rest.invariant)

pub loop-rest-smaller : goal.loop-rest-smaller
loop-rest-smaller c =
    let some : 0 < length c.loop-rest.rest.now = grind (arith, common_steps) in
    let passed = ap separator_at (sym c.after_blanks.ensures) ∙ c.in_ok-rest.ensures in
    loop_less c.in_ok-member.member c.loop-rest.rest.now c.in_ok-member.after.now c.in_ok-rest.rest.now some c.in_ok-member.ensures passed

pub loop-rest-preserved : goal.loop-rest-preserved
loop-rest-preserved c =
    let some : 0 < length c.loop-rest.rest.now = grind (arith, common_steps) in
    let passed = ap separator_at (sym c.after_blanks.ensures) ∙ c.in_ok-rest.ensures in
    ap (λ found. members_at found c.in_ok-rest.rest.now) c.in_ok-put.ensures.ok
    ∙ sym (members_go_on c.loop-rest.found c.in_ok-member.member c.loop-rest.rest.now c.in_ok-member.after.now c.in_ok-rest.rest.now some c.in_ok-member.ensures passed)
    ∙ c.loop-rest.invariant

pub returns : goal.returns
returns c =
    let none : c.loop-rest.rest.now ≡ [] = nil_from_length c.loop-rest.rest.now (eqb-true (length c.loop-rest.rest.now) 0 (sym c.loop-rest-test.ensures)) in
    sym c.loop-rest.invariant ∙ ap (members_at c.loop-rest.found) none ∙ members_end c.loop-rest.found
