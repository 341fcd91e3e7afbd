use Rattle.std.proofs.Common.{ℕ, ◌<◌, ◌∷◌, ◌++◌, [], sym, ap, subst, ◌∙◌, arith, length, length-set}
use Rattle.std.proofs.lemmas.List.{take_more_set}
use Rattle.braid_change.proofs.AsciiTexts.{ascii_more}
use Rattle.braid_change.proofs.Written.{taken_more}
use Rattle.braid_change.proofs.ascii.fill_ascii.Goals as goal

pub loop-n-preserved : goal.loop-n-preserved
loop-n-preserved c =
    let xs = c.args.chars.now in
    let buffer = c.loop-n.buffer in
    let n = c.loop-n.n in
    let x = c.index-chars-n.result in
    let within : n < length xs = omega (arith, c.loop-n-test.true, c.min-most.ensures) in
    let room : n < length buffer = omega (arith, c.loop-n-test.true, c.min-most.ensures, c.loop-n.invariant.long) in
    record {
      long = length-set buffer n x ∙ c.loop-n.invariant.long;
      filled = take_more_set buffer n x room ∙ ap (λ t. t ++ x ∷ []) c.loop-n.invariant.filled ∙ sym (taken_more xs n x within c.index-chars-n.is);
      ascii = ascii_more xs n x within (subst (λ (t : ℕ). t < 128) c.index-chars-n.is c.if-c-ge128.false) c.loop-n.invariant.ascii;
    }
