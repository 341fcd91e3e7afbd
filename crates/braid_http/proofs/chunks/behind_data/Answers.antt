use Rattle.std.proofs.Common.{◌≡◌, ◌<◌, length, arith, rules}
use Rattle.braid_http.proofs.StepLaws.{first_departs, one_cr, none_cr, second_departs, crlf_first, behind_open, behind_bad, behind_done}
use Rattle.braid_http.proofs.chunks.behind_data.Goals as goal

pub returns-then-is_empty : goal.returns-then-is_empty
returns-then-is_empty c =
    let none : length c.args.bytes.now ≡ 0 = search rules in
    let short : length c.args.bytes.now < 2 = omega (arith, none) in
    record { steps = λ passed out d. behind_open _ _ _ short (none_cr _ none) d }

pub returns-then-bytes-ne13 : goal.returns-then-bytes-ne13
returns-then-bytes-ne13 c =
    let p = first_departs c.args.bytes.now (λ e. search rules) c.if-bytes-ne13.true in
    record { steps = λ passed out d. behind_bad _ _ _ _ _ p.2 p.3 d }

pub returns-then-bytes-eq1 : goal.returns-then-bytes-eq1
returns-then-bytes-eq1 c =
    let one = c.if-bytes-eq1.true in
    let short : length c.args.bytes.now < 2 = omega (arith, one) in
    record { steps = λ passed out d. behind_open _ _ _ short (one_cr c.args.bytes.now one c.if-bytes-ne13.false) d }

pub returns-then-bytes-ne10 : goal.returns-then-bytes-ne10
returns-then-bytes-ne10 c =
    let p = second_departs c.args.bytes.now (λ e. search rules) c.if-bytes-eq1.false c.if-bytes-ne13.false c.if-bytes-ne10.true in
    record { steps = λ passed out d. behind_bad _ _ _ _ _ p.2 p.3 d }

pub returns : goal.returns
returns c =
    let p = crlf_first c.args.bytes.now (λ e. search rules) c.if-bytes-eq1.false c.if-bytes-ne13.false c.if-bytes-ne10.false in
    record { steps = λ passed out d. behind_done _ _ _ _ p.1 d }
