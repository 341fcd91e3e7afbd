use Rattle.braid_frame.proofs.Meant as lemmas
use Rattle.braid_frame.proofs.laws.meaning.Goals as goal

pub returns : goal.returns
returns c = record { completes = lemmas.completes; faultless = lemmas.faultless; fault = lemmas.fault_answered; failed = lemmas.failed_fault }
