use Rattle.std.proofs.Common.{subst, arith}
use Rattle.braid_change.specs.Texts.{IsTextFault}
use Rattle.braid_grammar.proofs.ReadContents.{content_found, content_wrong}
use Rattle.braid_grammar.proofs.content.read_content.Goals as goal

pub returns-in-Ok : goal.returns-in-Ok
returns-in-Ok c = content_found c.args.len c.args.at c.args.bytes.now c.in-Ok.text c.split_at.result.0.now c.split_at.result.1.now (omega arith) c.split_at.ensures.front c.split_at.ensures.back c.in-Ok.ensures.ok

pub returns-in-NotText : goal.returns-in-NotText
returns-in-NotText c = content_wrong c.args.len c.args.at c.args.bytes.now c.split_at.result.0.now (omega arith) c.split_at.ensures.front (subst (IsTextFault c.split_at.result.0.now) c.in-NotText.is c.in-Err.ensures.fault)
