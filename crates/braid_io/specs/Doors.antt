-- What a door and a port tell, and what their calls do.
use Rattle.std.specs.Prelude.{◌≡◌, ℕ, ◌≤◌, List, All, length, Option}
use Rattle.braid_io.specs.declared.door.Came.{Came}
use Rattle.braid_io.specs.declared.door.Came.TheVariants.{Up, End, Failed}
use Rattle.braid_io.specs.declared.port.Asked.{Asked}
use Rattle.braid_io.specs.declared.port.Opened.{Opened}
use Rattle.braid_io.specs.declared.port.Opened.TheVariants.{Up as Open, Failed as NotOpened, Memory as NoMemory}
use Rattle.braid_io.specs.Outside.{Intake, Outflow, Rose, IsNewLink, HasOne, HasNone, one_more, one_fewer, with_last, IsBlank, joint_count}
use Rattle.braid_io.specs.Bells.{Ringing, IsNewBell}

-- A link that was put back into its door: what its two sides told then.
pub record Visit : Type 0 where
  pub intake : Intake
  pub outflow : Outflow

-- What a door tells: the links put back, in order, the number of connections left, and the number of links given and
-- not yet put back, each None where it does not tell it; how often accepting failed; and the sums of the failed reads and
-- of the failed writes of the links put back.
pub record Doorway : Type 0 where
  pub served : Option (List Visit)
  pub left : Option ℕ
  pub up : Option ℕ
  pub faults : ℕ
  pub link_read_faults : ℕ
  pub link_write_faults : ℕ

-- A door gave a new link: one connection is fewer left, and one link more is up.
pub record Admits (intake : Intake) (outflow : Outflow) (old new : Doorway) : Type 0 where
  pub some : HasOne old.left
  pub fresh : IsNewLink intake outflow
  pub is_up : HasOne new.up
  pub moved : new ≡ record old { left = one_fewer old.left; up = one_more old.up }

-- One accept: it gives a new link, only where a connection is left; or the door ends, only where none is left; or it
-- fails, where the count of faults rises.
abbrev pub Accepts : {K : Type 0} → (K → Intake) → (K → Outflow) → Came K → Doorway → Doorway → Type 0
Accepts intake outflow (Up link) old new = Admits (intake link) (outflow link) old new
Accepts intake outflow End old new = HasNone old.left × (new ≡ old)
Accepts intake outflow Failed old new = (new ≡ record old { faults = new.faults }) × (old.faults ≤ new.faults)
    × Rose old.faults new.faults

-- A link was put back: it joins those served with what it tells, one link fewer is up, and its counts of faults are
-- added to the sums.
pub record PutsBack (intake : Intake) (outflow : Outflow) (old new : Doorway) : Type 0 where
  pub served : new.served ≡ with_last old.served (record { intake = intake; outflow = outflow })
  pub left : new.left ≡ old.left
  pub up : (before : Option ℕ) → old.up ≡ one_more before → new.up ≡ before
  pub faults : new.faults ≡ old.faults
  pub link_read_faults : new.link_read_faults ≡ joint_count old.link_read_faults intake.faults
  pub link_write_faults : new.link_write_faults ≡ joint_count old.link_write_faults outflow.faults

-- A new door: it has served nothing and no link of it is up, where it tells that, and all its counts are 0.
pub record IsNewDoor (door : Doorway) : Type 0 where
  pub served : IsBlank door.served
  pub up : HasNone door.up
  pub faults : door.faults ≡ 0
  pub link_read_faults : door.link_read_faults ≡ 0
  pub link_write_faults : door.link_write_faults ≡ 0

-- What a port tells: what it was asked for, in order, None where it does not tell it, and its count of faults.
pub record Porting : Type 0 where
  pub asked : Option (List Asked)
  pub faults : ℕ

-- A pair of a new door and a new bell.
pub record IsNewPair (door : Doorway) (bell : Ringing) : Type 0 where
  pub is_new_door : IsNewDoor door
  pub is_new_bell : IsNewBell bell

-- One opening: it gives a new door and a new bell for each worker; or it fails, where the count of faults rises. Both are
-- noted with what was asked for. For want of memory all stays as it was.
abbrev pub Opens : {D L : Type 0} → (D → Doorway) → (L → Ringing) → Asked → Opened D L → Porting → Porting → Type 0
Opens door bell asked (Open pairs) old new = (length pairs.items ≡ asked.workers)
    × All (λ p. IsNewPair (door p.0) (bell p.1)) pairs.items × (new ≡ record old { asked = with_last old.asked asked })
Opens door bell asked NotOpened old new = (new.asked ≡ with_last old.asked asked) × (old.faults ≤ new.faults)
    × Rose old.faults new.faults
Opens door bell asked NoMemory old new = new ≡ old
