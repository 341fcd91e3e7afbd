use Rattle.std.proofs.Common.{◌≡◌, ◌++◌, take}
use Rattle.braid_change.specs.Spellings.{list_text}
use Rattle.braid_http.proofs.reply.push_list.Given as goal

abbrev pub invariant-loop-n : goal.invariant-loop-n
invariant-loop-n l = l.out ≡ l.fn.out ++ list_text (take l.n l.ids)
