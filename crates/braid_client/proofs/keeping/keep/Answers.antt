use Rattle.std.proofs.Common.{ℕ, List, subst}
use Rattle.braid_io.specs.Keepers.{Saves}
use Rattle.braid_io.specs.declared.keeper.Saved.TheVariants.{Done, Failed}
use Rattle.braid_client.proofs.keeping.keep.Goals as goal

pub returns-in-Done : goal.returns-in-Done
returns-in-Done g c = record {
  keeps = subst (λ (bytes : List ℕ). Saves c.args.name.now bytes Done (g.K.Keeper.keeping c.args.keeper.now) (g.K.Keeper.keeping c.save.new.self)) c.in_ok-bytes.ensures.ok c.in-Done.ensures.save;
}

pub returns-in-Failed : goal.returns-in-Failed
returns-in-Failed g c = record {
  keeps = subst (λ (bytes : List ℕ). Saves c.args.name.now bytes Failed (g.K.Keeper.keeping c.args.keeper.now) (g.K.Keeper.keeping c.save.new.self)) c.in_ok-bytes.ensures.ok c.in-Failed.ensures.save;
}
