-- What a dialer tells, and what dialling and hanging up do.
use Rattle.std.specs.Prelude.{◌≡◌, ℕ, ◌≤◌, List, Option}
use Rattle.braid_io.specs.declared.dialer.Dialed.{Dialed}
use Rattle.braid_io.specs.declared.dialer.Dialed.TheVariants.{Up, Failed, Memory}
use Rattle.braid_io.specs.Outside.{Intake, Outflow, Rose, IsNewLink, IsFilled, with_last, joint_count}

-- A link that was hung up: the server that it was dialled to, and what its two sides told then.
pub record Talk : Type 0 where
  pub server : List ℕ
  pub intake : Intake
  pub outflow : Outflow

-- What a dialer tells: the links hung up, in order, and the servers of the links given and not yet hung up, in the order
-- in which they were given, each None where it does not tell it; how often dialling failed; and the sums of the failed
-- reads and of the failed writes of the links hung up.
pub record Dialing : Type 0 where
  pub talks : Option (List Talk)
  pub servers : Option (List (List ℕ))
  pub faults : ℕ
  pub link_read_faults : ℕ
  pub link_write_faults : ℕ

-- A dialer gave a new link: its server is the last of those that are up.
pub record Reaches (server : List ℕ) (intake : Intake) (outflow : Outflow) (old new : Dialing) : Type 0 where
  pub fresh : IsNewLink intake outflow
  pub is_up : IsFilled new.servers
  pub moved : new ≡ record old { servers = with_last old.servers server }

-- One dial: it gives a new link; or it fails, where the count of faults rises. For want of memory all stays as it was.
abbrev pub Dials : {K : Type 0} → (K → Intake) → (K → Outflow) → List ℕ → Dialed K → Dialing → Dialing → Type 0
Dials intake outflow server (Up link) old new = Reaches server (intake link) (outflow link) old new
Dials intake outflow server Failed old new = (new ≡ record old { faults = new.faults }) × (old.faults ≤ new.faults)
    × Rose old.faults new.faults
Dials intake outflow server Memory old new = new ≡ old

-- A link was hung up: it joins the talks with what it tells and with the last of the servers that were up, which is
-- taken off, and its counts of faults are added to the sums.
pub record HangsUp (intake : Intake) (outflow : Outflow) (old new : Dialing) : Type 0 where
  pub servers : (before : Option (List (List ℕ))) (server : List ℕ) → old.servers ≡ with_last before server
      → new.servers ≡ before
  pub talks : (before : Option (List (List ℕ))) (server : List ℕ) → old.servers ≡ with_last before server
      → new.talks ≡ with_last old.talks (record { server = server; intake = intake; outflow = outflow })
  pub faults : new.faults ≡ old.faults
  pub link_read_faults : new.link_read_faults ≡ joint_count old.link_read_faults intake.faults
  pub link_write_faults : new.link_write_faults ≡ joint_count old.link_write_faults outflow.faults
