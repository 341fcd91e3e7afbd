use Rattle.std.proofs.Common.{◌≡◌, ◌≤◌, length, map, take, vec_capacity}
use Rattle.std.specs.Prelude.{IsUtf8}
use Rattle.std.specs.List.{AllByRecursion}
use Rattle.braid_server.proofs.form.texts_of.Given as goal

abbrev pub invariant-loop-word : goal.invariant-loop-word
invariant-loop-word l =
    record {
      texts : map (λ t. t.now) l.texts.items ≡ take l.word-index l.words;
      utf8 : AllByRecursion IsUtf8 (take l.word-index l.words);
      count : length l.texts.items ≡ l.word-index;
      room : length l.words ≤ vec_capacity l.texts;
    }
