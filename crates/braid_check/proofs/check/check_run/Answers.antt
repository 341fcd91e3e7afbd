use Rattle.std.proofs.Common.{◌∙◌, ap, nat_eq}
use Rattle.std.specs.Cmp.Lexicographic.{pointwise}
use Rattle.braid_check.proofs.Completeness.{writes_history}
use Rattle.braid_check.proofs.OneWord.{one_word}
use Rattle.braid_check.proofs.check.check_run.Goals as goal

pub returns-in-len1-clause-runs : goal.returns-in-len1-clause-runs
returns-in-len1-clause-runs g c =
    record {
      check = λ e. c.check_stream.ensures.runs;
      others = λ n. absurd (n (one_word _ _ _ _ c.in-len1.len_at_least c.in-len1.len_below c.word-item.is c.get.ensures.value (c.if-eq.ensures ∙ ap (pointwise nat_eq c.get.result.now) c.as_slice.ensures)));
    }

pub returns-in-len1-clause-completes : goal.returns-in-len1-clause-completes
returns-in-len1-clause-completes g c us bytes e l chain stream below q t = writes_history _ _ _ _ _ c.check_stream.ensures.runs us bytes l chain stream below q t
