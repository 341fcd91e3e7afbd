use Rattle.std.proofs.Common.{refl, rules}
use Rattle.braid_cli.specs.declared.words.WordsFault.TheVariants.{NotText, Memory}
use Rattle.braid_cli.proofs.Picked.{unread}
use Rattle.braid_cli.proofs.commands.exit_code.Goals as goal

pub returns-in-Ok : goal.returns-in-Ok
returns-in-Ok g c = record {
  exits = rw c.in-Ok.is (record {
    ran = c.run-ran.result;
    code_is = c.code.ensures.value;
    picks = rw c.deref.ensures.value at c.run-ran.ensures.picks;
  });
  hung_up = c.run-ran.ensures.hung_up;
  kept = c.run-ran.ensures.kept;
}

pub returns-in-Err-NotText : goal.returns-in-Err-NotText
returns-in-Err-NotText g c = record {
  exits = unread c.args.words NotText _ _ (search rules) (c.refuse_words.result, c.code-in-Err-NotText.ensures.value, refl, c.refuse_words.ensures.refused);
  hung_up = refl;
  kept = (refl, c.refuse_words.ensures.kept);
}

pub returns-in-Err-Memory : goal.returns-in-Err-Memory
returns-in-Err-Memory g c = record {
  exits = unread c.args.words Memory _ _ (search rules) (c.code-in-Err-Memory.ensures.value, refl);
  hung_up = refl;
  kept = (refl, refl);
}
