use Rattle.std.proofs.Common.{◌≡◌, ℕ, ◌-◌, ◌≤◌, ◌++◌, ◌∙◌, List, Ok, Err, OnErr, Result, encode_utf8_all, ap, subst, arith, length, take, drop}
use Rattle.std.proofs.lemmas.List.{take_rest}
use Rattle.braid_change.proofs.Written.{encoded_behind, front_put}
use Rattle.braid_change.specs.Texts.{PutsFront}
use Rattle.braid_change.proofs.text.Text.push_to.Goals as goal

pub loop-done-preserved : goal.loop-done-preserved
loop-done-preserved c =
    let xs = c.chars-chars.result.now in
    let i = c.loop-done.done in
    let n = c.in_ok-done.field-0 in
    let ok = c.in_ok-done.ensures.ok in
    let within : n ≤ length (take (length xs - i) (drop i xs)) = ok.1 in
    let put : c.push_front.new.out ≡ c.loop-done.out ++ encode_utf8_all (take n (take (length xs - i) (drop i xs))) = ok.2 in
    record {
      within = omega (arith, within, ap length (take_rest xs i));
      out = encoded_behind c.args.out.now c.loop-done.out c.push_front.new.out xs i n c.loop-done.invariant.out (put ∙ ap (λ t. c.loop-done.out ++ encode_utf8_all (take n t)) (take_rest xs i));
    }

pub returns-in_err-done-clause-err : goal.returns-in_err-done-clause-err
returns-in_err-done-clause-err c =
    on_err c.from_residual.result (subst (λ (text : List ℕ). PutsFront (encode_utf8_all text) c.args.out.now c.push_front.new.out) c.chars-chars.ensures.value (front_put _ _ _ _ _ c.loop-done.invariant.out c.in_err-done.ensures.err))
  where
    on_err : {A : Type 0} {E : Type 0} {P : Type 0} (r : Result A E) → P → OnErr r P
    on_err (Ok x) p = tt
    on_err (Err e) p = p
