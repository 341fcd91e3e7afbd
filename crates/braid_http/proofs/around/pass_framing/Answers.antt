use Rattle.std.proofs.Common.{◌≡◌, ◌∙◌, length, refl, rules}
use Rattle.braid_http.proofs.FramingPassed.{passing_none, passing_on, passed_data, passed_whole, passed_against, passed_torn, passed_failed}
use Rattle.braid_http.proofs.around.pass_framing.Goals as goal

pub passing-init : goal.passing-init
passing-init g c = record { passing = passing_none _ _ _ _; over = refl; kept = refl }

pub passing-preserved : goal.passing-preserved
passing-preserved g c =
    let l : length c.next_bytes.new.buf ≡ 1 = search rules in
    let d = c.in-Got.ensures.draws in
    record {
      passing = passing_on _ _ c.in-Around.next _ _ _ _ _ _ c.next_bytes.new.buf _ _ _ _ c.passing.invariant.passing d.0 d.1 l d.2 c.in-Around.ensures.comes;
      over = c.next_bytes.ensures.over ∙ c.passing.invariant.over;
      kept = c.next_bytes.ensures.kept ∙ c.passing.invariant.kept;
    }

pub returns-in-Data-clause-passes : goal.returns-in-Data-clause-passes
returns-in-Data-clause-passes g c =
    let l : length c.next_bytes.new.buf ≡ 1 = search rules in
    let d = c.in-Got.ensures.draws in
    passed_data c.in-Data.left _ _ _ _ _ _ _ _ c.next_bytes.new.buf _ _ _ _ c.passing.invariant.passing d.0 d.1 l d.2 c.in-Data.ensures.comes

pub returns-in-Whole-clause-passes : goal.returns-in-Whole-clause-passes
returns-in-Whole-clause-passes g c =
    let l : length c.next_bytes.new.buf ≡ 1 = search rules in
    let d = c.in-Got.ensures.draws in
    passed_whole _ _ _ _ c.after.new.line _ _ _ c.next_bytes.new.buf _ _ _ _ c.passing.invariant.passing d.0 d.1 l d.2 c.in-Whole.ensures.comes

pub returns-in-Against-clause-passes : goal.returns-in-Against-clause-passes
returns-in-Against-clause-passes g c =
    let l : length c.next_bytes.new.buf ≡ 1 = search rules in
    let d = c.in-Got.ensures.draws in
    passed_against _ _ _ _ c.after.new.line _ _ _ c.next_bytes.new.buf _ _ _ _ c.passing.invariant.passing d.0 d.1 l d.2 c.in-Against.ensures.comes

pub returns-in-End-clause-passes : goal.returns-in-End-clause-passes
returns-in-End-clause-passes g c =
    passed_torn _ _ _ _ _ _ _ _ _ _ c.passing.invariant.passing c.in-End.ensures.draws

pub returns-in-Failed-clause-passes : goal.returns-in-Failed-clause-passes
returns-in-Failed-clause-passes g c = passed_failed _ _ _ _ _ _ _ _ _ _ c.passing.invariant.passing c.in-Failed.ensures.draws
