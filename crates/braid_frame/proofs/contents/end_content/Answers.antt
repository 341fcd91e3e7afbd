use Rattle.std.proofs.Common.{subst}
use Rattle.braid_change.specs.Texts.{IsTextFault}
use Rattle.braid_change.specs.declared.text.TextFault.TheVariants.{NotText}
use Rattle.braid_frame.proofs.Resumed.{no_utf8, content_bad}
use Rattle.braid_frame.proofs.Stood.{faulty}
use Rattle.braid_frame.proofs.Finished.{finishes_fault}
use Rattle.braid_frame.proofs.contents.end_content.Goals as goal

pub returns-in-NotText-clause-finishes : goal.returns-in-NotText-clause-finishes
returns-in-NotText-clause-finishes c us b s =
    let none = subst (λ x. IsTextFault x NotText) c.deref.ensures.value (subst (λ f. IsTextFault c.deref.result.now f) c.in-NotText.is c.in-Err.ensures.fault) in
    finishes_fault us b c.args.taken _ _ _ c.fail.ensures.fault c.fail.ensures.phase (faulty us _ c.args.state.now.at c.args.state.now.kept.items b _ _ s (content_bad _ c.args.state.now.at c.args.state.now.kept.items c.requires.content (no_utf8 c.args.state.now.kept.items none)))
