use Rattle.std.proofs.Common.{take, length, ◌≤◌, ◌≡◌}
use Rattle.http_header.specs.HeaderMap.{value_count}
use Rattle.braid_http.proofs.FieldLemmas.{IsFilled}
use Rattle.braid_http.proofs.head.fields_at.Given as goal

abbrev pub invariant-loop-span : goal.invariant-loop-span
invariant-loop-span l =
    IsFilled l.bytes (take l.span-index l.spans) l.fields × (length l.fields ≤ l.span-index)
    × (value_count l.fields ≡ l.span-index)
