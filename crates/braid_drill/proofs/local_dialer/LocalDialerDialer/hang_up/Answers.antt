use Rattle.std.proofs.Common.{refl, arith}
use Rattle.braid_drill.proofs.Lines.{no_others}
use Rattle.braid_drill.proofs.local_dialer.LocalDialerDialer.hang_up.Goals as goal

pub returns : goal.returns
returns g c = record {
  hang_up = record {
    servers = λ before server e. no_others c.args.self.now.line before server e;
    talks = λ before server e. refl;
    faults = refl;
    link_read_faults = omega arith;
    link_write_faults = omega arith;
  };
}
