use Rattle.std.proofs.Common.{◌≡◌, take, drop}
use Rattle.braid_outbox.specs.Replicas.{all_of}
use Rattle.braid_client.specs.Texts.{wrote_text}
use Rattle.braid_client.proofs.lines.wrote_text.Given as goal

abbrev pub invariant-loop-n : goal.invariant-loop-n
invariant-loop-n l = l.text ≡ wrote_text (drop l.fn.from (take l.n (all_of l.replica)))
