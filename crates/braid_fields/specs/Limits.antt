-- What every plan keeps to.
use Rattle.std.specs.Prelude.{ℕ, ◌+◌, ◌<◌, ◌≤◌, ◌^◌, length}
use Rattle.std.specs.List.{AllByRecursion}
use Rattle.braid_ids.specs.Identifiers.{IsIdentifier}
use Rattle.braid_ids.specs.Frontiers.{IsRising}
use Rattle.braid_fields.specs.declared.plan.Plan.{Plan}
use Rattle.braid_fields.specs.declared.plan.Asks.{Asks}
use Rattle.braid_fields.specs.declared.plan.Asks.TheVariants.{Body, OnePatch, Patches}
use Rattle.braid_fields.specs.declared.plan.PatchPlan.{PatchPlan}

-- a patch behind contents of `used` bytes, of which the last patch ends at `before`: the range is not backwards, does
-- not overlap and has numbers below 2^32, and the contents are 1,048,576 bytes or fewer
pub record IsPatchWithin (used before : ℕ) (p : PatchPlan) : Type 0 where
  pub apart : before ≤ p.start
  pub forwards : p.start ≤ p.end
  pub numbered : p.end < 2 ^ 32
  pub short : used + p.len ≤ 1_048_576

-- a body of 1,048,576 bytes or fewer, such a patch, or 1,000 patches or fewer
abbrev pub IsAskedWithin : Asks → Type 0
IsAskedWithin (Body len) = len ≤ 1_048_576
IsAskedWithin (OnePatch p) = IsPatchWithin 0 0 p
IsAskedWithin (Patches count) = count ≤ 1_000

-- an identifier, 32 parents or fewer, which are identifiers in rising order, and a content within its limits
pub record IsPlanWithin (plan : Plan) : Type 0 where
  pub identifier : IsIdentifier plan.id
  pub parents : AllByRecursion IsIdentifier plan.parents
  pub rising : IsRising plan.parents
  pub few : length plan.parents ≤ 32
  pub asked : IsAskedWithin plan.asks
