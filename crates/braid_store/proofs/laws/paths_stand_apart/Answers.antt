use Rattle.braid_store.proofs.Paths.{of_path_own, of_path_other, path_listed, listed_path}
use Rattle.braid_store.proofs.laws.paths_stand_apart.Goals as goal

pub returns-clause-own : goal.returns-clause-own
returns-clause-own c = of_path_own

pub returns-clause-others : goal.returns-clause-others
returns-clause-others c = of_path_other

pub returns-clause-paths : goal.returns-clause-paths
returns-clause-paths c = λ B p. (listed_path B p, path_listed B p)
