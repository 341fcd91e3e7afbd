use Rattle.std.proofs.Common.{◌≡◌, ◌+◌, ◌-◌, ◌≤◌, length}
use Rattle.braid_spans.proofs.tests.delete_seen.Given as goal

abbrev pub invariant-loop : goal.invariant-loop
invariant-loop g l = record {
  begun : length (g.D.Document.stamps l.doc) ≡ l.number + 1;
  room : l.count - l.counter ≤ (g.D.Document.room l.doc).deletions;
}
