use Rattle.std.proofs.Common.{◌-◌, length}
use Rattle.braid_http.specs.Looks.{IsLooked}
use Rattle.braid_http.proofs.looks.Look.find.Given as goal

abbrev pub invariant-looking : goal.invariant-looking
invariant-looking l = IsLooked l.self l.bytes

abbrev pub decreases-looking : goal.decreases-looking
decreases-looking l = length l.bytes - l.self.line
