use Rattle.braid_store.proofs.Counted.{resources_new, resources_same, elements_grow, deletions_grow, width_grows}
use Rattle.braid_store.proofs.laws.counts_grow.Goals as goal

pub returns-clause-new_resource : goal.returns-clause-new_resource
returns-clause-new_resource c = resources_new

pub returns-clause-same_resources : goal.returns-clause-same_resources
returns-clause-same_resources c = resources_same

pub returns-clause-elements : goal.returns-clause-elements
returns-clause-elements c = elements_grow

pub returns-clause-deletions : goal.returns-clause-deletions
returns-clause-deletions c = deletions_grow

pub returns-clause-width : goal.returns-clause-width
returns-clause-width c = width_grows
