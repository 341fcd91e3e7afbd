use Rattle.std.proofs.Common.{◌≡◌}
use Rattle.braid_session.proofs.Watching.{Following}
use Rattle.braid_session.proofs.watch.watch.Given as goal

abbrev pub invariant-loop : goal.invariant-loop
invariant-loop g l =
    record {
      going : Following l.fn.cursor.path l.fn.cursor.from l.fn.updates l.fn.pass l.pass l.fn.marks.items l.marks.items (g.L.Bell.ringing l.fn.bell) (g.L.Bell.ringing l.bell) l.cursor
          (g.K.Sink.outflow l.fn.link) (g.K.Sink.outflow l.link);
      kept : g.K.Source.intake l.link ≡ g.K.Source.intake l.fn.link;
    }
