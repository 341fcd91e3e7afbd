use Rattle.std.proofs.Common.{◌+◌, ◌<◌, length, rules, set, take}
use Rattle.braid_http.specs.Chunks.{IsCut}
use Rattle.braid_http.proofs.LinesBegun.{begun_more, cut_lf, cut_full, added_size, added_unread}
use Rattle.braid_http.proofs.around.LineBegun.add.Goals as goal
use Rattle.braid_http.proofs.around.LineBegun.add.Goals.{else-byte-ne10-via-then-byte-ne10+else-n-lt-MOST_LINE, else-byte-ne10-via-else-byte-ne10, in-Some, in-None}

pub invariant_of-self : goal.invariant_of-self
invariant_of-self c =
    let w : c.self.inside.len < length c.self.inside.bytes = search rules in
    begun_more c.self.inside.bytes c.self.inside.len c.args.byte w c.self.invariant.1 c.if-byte-ne10.true c.if-n-lt-MOST_LINE.true

pub returns-then-n-lt-MOST_LINE-clause-begun_still : goal.returns-then-n-lt-MOST_LINE-clause-begun_still
returns-then-n-lt-MOST_LINE-clause-begun_still c =
    let w : c.self.inside.len < length c.self.inside.bytes = search rules in
    (begun_more c.self.inside.bytes c.self.inside.len c.args.byte w c.self.invariant.1 c.if-byte-ne10.true c.if-n-lt-MOST_LINE.true).1

pub size_of_line-requires : goal.size_of_line-requires
size_of_line-requires c =
    let s : c.self.inside.len < length c.self.inside.bytes = search rules in
    let i = c.self.invariant in
    record {
      cut = elim c.else-byte-ne10.branch [
        | else-byte-ne10-via-then-byte-ne10+else-n-lt-MOST_LINE w ↦ cut_full c.self.inside.bytes c.self.inside.len c.args.byte s i.0 i.1 w.if-byte-ne10.true w.if-n-lt-MOST_LINE.false
        | else-byte-ne10-via-else-byte-ne10 w ↦ cut_lf c.self.inside.bytes c.self.inside.len c.args.byte s i.0 i.1 w.if-byte-ne10.false
      ];
    }

pub returns-clause-adds : goal.returns-clause-adds
returns-clause-adds c =
    let s : c.self.inside.len < length c.self.inside.bytes = search rules in
    let i = c.self.invariant in
    let cut : IsCut (take (c.self.inside.len + 1) (set c.self.inside.bytes c.self.inside.len c.args.byte)) = elim c.else-byte-ne10.branch [
      | else-byte-ne10-via-then-byte-ne10+else-n-lt-MOST_LINE w ↦ cut_full c.self.inside.bytes c.self.inside.len c.args.byte s i.0 i.1 w.if-byte-ne10.true w.if-n-lt-MOST_LINE.false
      | else-byte-ne10-via-else-byte-ne10 w ↦ cut_lf c.self.inside.bytes c.self.inside.len c.args.byte s i.0 i.1 w.if-byte-ne10.false
    ] in
    elim c.match-size_of_line.branch [
      | in-Some w ↦ added_size c.self.inside.bytes c.self.inside.len c.args.byte c.args.self.now _ _ s c.self.view_is w.in-Some.ensures.size w.result-is
      | in-None w ↦ added_unread c.self.inside.bytes c.self.inside.len c.args.byte c.args.self.now _ s c.self.view_is cut w.in-None.ensures.size w.result-is
    ]
