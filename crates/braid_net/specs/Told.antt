-- What the adapters over sockets, files and threads tell: their counts, and no contents.
use Rattle.std.specs.Prelude.{ℕ, None}
use Rattle.braid_io.specs.Outside.{Intake, Outflow}
use Rattle.braid_io.specs.Bells.{Ringing}
use Rattle.braid_io.specs.Doors.{Doorway, Porting}
use Rattle.braid_io.specs.Dialers.{Dialing}
use Rattle.braid_io.specs.Keepers.{Keeping}

-- What a source tells that tells its count of faults alone.
abbrev pub untold_intake : ℕ → Intake
untold_intake faults = record { taken = None; left = None; faults = faults }

-- What a sink tells that tells its count of faults alone.
abbrev pub untold_outflow : ℕ → Outflow
untold_outflow faults = record { written = None; faults = faults }

-- What a bell tells that tells its counts alone.
abbrev pub untold_ringing : ℕ → ℕ → Ringing
untold_ringing agains rings = record { answers = None; agains = agains; rings = rings }

-- What a door tells that tells its counts of faults alone.
abbrev pub untold_doorway : ℕ → ℕ → ℕ → Doorway
untold_doorway faults reads writes = record {
  served = None;
  left = None;
  up = None;
  faults = faults;
  link_read_faults = reads;
  link_write_faults = writes;
}

-- What a port tells that tells its count of faults alone.
abbrev pub untold_porting : ℕ → Porting
untold_porting faults = record { asked = None; faults = faults }

-- What a dialer tells that tells its counts of faults alone.
abbrev pub untold_dialing : ℕ → ℕ → ℕ → Dialing
untold_dialing faults reads writes = record {
  talks = None;
  servers = None;
  faults = faults;
  link_read_faults = reads;
  link_write_faults = writes;
}

-- What a keeper tells that tells its counts of faults alone.
abbrev pub untold_keeping : ℕ → ℕ → Keeping
untold_keeping loads saves = record { kept = None; load_faults = loads; save_faults = saves }
