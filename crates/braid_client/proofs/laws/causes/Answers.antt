use Rattle.braid_client.proofs.Causes.{outside_rose, load_fault_rose, save_fault_rose, only_usage, no_form_is_usage, keeps_none}
use Rattle.braid_client.proofs.laws.causes.Goals as goal

pub returns-clause-outside : goal.returns-clause-outside
returns-clause-outside c = outside_rose

pub returns-clause-load : goal.returns-clause-load
returns-clause-load c = load_fault_rose

pub returns-clause-save : goal.returns-clause-save
returns-clause-save c = save_fault_rose

pub returns-clause-usage : goal.returns-clause-usage
returns-clause-usage c = only_usage

pub returns-clause-no_form : goal.returns-clause-no_form
returns-clause-no_form c = no_form_is_usage

pub returns-clause-memory : goal.returns-clause-memory
returns-clause-memory c = keeps_none
