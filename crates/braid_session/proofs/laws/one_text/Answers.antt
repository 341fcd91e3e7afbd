use Rattle.braid_session.proofs.OneText.{one_text, one_text_unwatched}
use Rattle.braid_session.proofs.laws.one_text.Goals as goal

pub returns-clause-law : goal.returns-clause-law
returns-clause-law c = one_text

pub returns-clause-unwatched : goal.returns-clause-unwatched
returns-clause-unwatched c = one_text_unwatched
