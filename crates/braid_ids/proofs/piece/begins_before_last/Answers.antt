use Rattle.std.proofs.Common.{sym}
use Rattle.std.proofs.lemmas.Bool.{lt-ltb, ltb-true}
use Rattle.braid_ids.proofs.Ranges.{before_last, before_none}
use Rattle.braid_ids.proofs.piece.begins_before_last.Goals as goal

pub returns-in-Some : goal.returns-in-Some
returns-in-Some c =
    let both = before_last c.args.pieces.now c.args.piece c.in-Some.last.now (sym c.in-Some.ensures.value) in
    record { before = (λ h. both.0 (ltb-true _ _ h), λ b. lt-ltb _ _ (both.1 b)) }

pub returns-in-None : goal.returns-in-None
returns-in-None c = record { before = (λ h. absurd (cc), λ b. absurd (before_none c.args.pieces.now c.args.piece (sym c.in-None.ensures.value) b)) }
