use Rattle.std.proofs.Common.{◌∙◌}
use Rattle.std.proofs.lemmas.List.{take_rest}
use Rattle.braid_http.proofs.Looking.{look_new}
use Rattle.braid_http.proofs.ClosedTexts.{has_block, splits}
use Rattle.braid_http.proofs.reply.head_and_content.Goals as goal

pub find-requires : goal.find-requires
find-requires c = record { looked = rw c.new-look.ensures.value (look_new c.args.bytes.now) }

pub unreachable-requires : goal.unreachable-requires
unreachable-requires c =
    let r = c.requires.closable in
    has_block r.0 _ r.1 r.2 c.in_default.ensures.found.0

pub returns-clause-head : goal.returns-clause-head
returns-clause-head c = λ reply is e. (splits reply _ _ _ is e c.in-Some.ensures.found).head

pub returns-clause-content : goal.returns-clause-content
returns-clause-content c = λ reply is e.
    take_rest c.args.bytes.now c.in-Some.end ∙ (splits reply _ _ _ is e c.in-Some.ensures.found).content
