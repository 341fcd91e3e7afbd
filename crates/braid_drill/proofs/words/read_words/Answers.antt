use Rattle.std.proofs.Common.{rules, ℕ, List, subst, arith}
use Rattle.braid_lines.specs.Numbers.{IsNumber}
use Rattle.braid_drill.proofs.ThreeWords.{three_words}
use Rattle.braid_drill.proofs.words.read_words.Goals as goal

pub returns : goal.returns
returns c = record {
  form = record {
    seed = c.seed-item.result;
    rounds = c.rounds-item.result;
    split = three_words c.args.words.now c.own-item.result c.seed-item.result c.rounds-item.result c.in-len3.len_at_least c.in-len3.len_below c.own-item.is c.seed-item.is c.rounds-item.is
        (search rules);
    seed_is = subst (λ (w : List ℕ). IsNumber w c.in-Some.seed) c.get-2.ensures.value c.in-Some.ensures.number.0;
    seed_fits = let l = c.in-Some.ensures.number.1 in omega (arith, l);
    rounds_are = subst (λ (w : List ℕ). IsNumber w c.in-Some-read_number.rounds) c.get-3.ensures.value c.in-Some-read_number.ensures.number.0;
    some = omega arith;
    few = let l = c.in-Some-read_number.ensures.number.1 in omega (arith, l);
  };
}
