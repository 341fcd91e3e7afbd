use Rattle.braid_store.proofs.Judged.{fits, one, only_known}
use Rattle.braid_store.proofs.laws.one_answer.Goals as goal

pub returns-clause-fits : goal.returns-clause-fits
returns-clause-fits c = λ B e legal u. fits B e legal u.identifier u.rising u.built

pub returns-clause-one : goal.returns-clause-one
returns-clause-one c = λ B e legal u a is other. one B e legal u.rising a is other

pub returns-clause-known : goal.returns-clause-known
returns-clause-known c = λ B e legal u held a is. only_known B e legal u.rising held a is
