use Rattle.std.proofs.Common.{◌≡◌, ◌+◌, ◌-◌, ◌*◌, ◌≤◌, take, drop, length, List}
use Rattle.braid_tree.specs.Rows.{Row, AreKnown, AreNewOrdinals, KeepsPlaces, Spends}
use Rattle.braid_text.specs.Puts.{AreOver, ListsWithRuns, total_len, insertions_at}
use Rattle.braid_text.specs.Standing.{rows_in, row_deletions_in}
use Rattle.braid_text.proofs.adding.put_runs.Given as goal

-- what is left of the runs leads to what all of them lead to
abbrev pub invariant-loop-run : goal.invariant-loop-run
invariant-loop-run l =
    let done = total_len (take l.run-index l.runs) in
    record {
      same : l.doc.stamps ≡ l.fn.doc.stamps;
      row_deletions : row_deletions_in l.doc ≡ row_deletions_in l.fn.doc;
      known : AreKnown (l.doc.stamps) (rows_in l.doc);
      over : AreOver (rows_in l.doc) done (drop l.run-index l.runs);
      next : AreNewOrdinals (rows_in l.doc) (length (l.fn.doc.stamps) - 1) done;
      places : KeepsPlaces (rows_in l.fn.doc) (rows_in l.doc);
      room : Spends (l.fn.doc.room) (l.doc.room) 0 done 0;
      count : length l.doc.runs ≤ length l.fn.doc.runs + 2 * insertions_at (take l.run-index l.runs);
      left : (new : List Row) → ListsWithRuns (l.fn.doc.stamps) (rows_in l.doc) new (drop l.run-index l.runs) → ListsWithRuns (l.fn.doc.stamps) (rows_in l.fn.doc) new l.fn.runs;
    }
