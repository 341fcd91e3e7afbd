use Rattle.std.proofs.Common.{◌≡◌, length}
use Rattle.std.specs.List.{list_any}
use Rattle.braid_http.specs.Framings.{is_close, parts_of}
use Rattle.braid_http.proofs.framing.has_close.Given as goal

abbrev pub invariant-parts : goal.invariant-parts
invariant-parts l = list_any is_close (parts_of l.value) ≡ list_any is_close (parts_of l.rest)

abbrev pub decreases-parts : goal.decreases-parts
decreases-parts l = length l.rest
