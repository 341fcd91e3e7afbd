-- Bells, doors and ports in memory, as their contracts see them, and exactly what one call of each does.
use Rattle.std.specs.Prelude.{◌≡◌, ℕ, ◌+◌, ◌-◌, ◌<◌, ◌⊎◌, List, [], ◌∷◌, ◌++◌, map, All, length, Some}
use Rattle.std.specs.List.{Contains}
use Rattle.braid_io.specs.declared.door.Came.{Came}
use Rattle.braid_io.specs.declared.door.Came.TheVariants.{Up, End, Failed}
use Rattle.braid_io.specs.declared.port.Asked.{Asked}
use Rattle.braid_io.specs.declared.port.Opened.{Opened}
use Rattle.braid_io.specs.declared.port.Opened.TheVariants.{Up as Open, Failed as NotOpened, Memory as NoMemory}
use Rattle.braid_io.specs.Outside.{next_count, joint_count}
use Rattle.braid_io.specs.Bells.{Ringing}
use Rattle.braid_io.specs.Doors.{Visit, Doorway, IsNewPair, Porting}
use Rattle.braid_io.specs.InMemory.{MemTalk, talk_intake, talk_outflow}

-- A bell in memory: the number of Agains left, that of the Agains answered, and that of the rings.
pub record MemRinging : Type 0 where
  pub answers : ℕ
  pub agains : ℕ
  pub rings : ℕ

-- What a bell in memory tells: all of it.
abbrev pub ringing_of : MemRinging → Ringing
ringing_of b = record { answers = Some b.answers; agains = b.agains; rings = b.rings }

-- A link in memory that was not used: it has given nothing and taken nothing, and no call of it failed.
pub record IsUnused (link : MemTalk) : Type 0 where
  pub taken : link.taken ≡ []
  pub written : link.written ≡ []
  pub read_faults : link.read_faults ≡ 0
  pub write_faults : link.write_faults ≡ 0

-- What a link in memory tells once it was put back.
abbrev pub visit_of : MemTalk → Visit
visit_of link = record { intake = talk_intake link; outflow = talk_outflow link }

-- A door in memory: the links put back, those left, the number of those that are up, the numbers of the accepts that
-- fail, the number of the next accept, the count of faults, and the sums of the failed reads and writes of the links put
-- back.
pub record MemDoorway : Type 0 where
  pub served : List MemTalk
  pub left : List MemTalk
  pub up : ℕ
  pub fails : List ℕ
  pub calls : ℕ
  pub faults : ℕ
  pub link_read_faults : ℕ
  pub link_write_faults : ℕ

-- What a door in memory tells: all that a door may tell.
abbrev pub doorway_of : MemDoorway → Doorway
doorway_of d = record {
  served = Some (map visit_of d.served);
  left = Some (length d.left);
  up = Some d.up;
  faults = d.faults;
  link_read_faults = d.link_read_faults;
  link_write_faults = d.link_write_faults;
}

-- One accept of a door in memory. It fails exactly where its number is listed, and then only the counts change. Else it
-- ends exactly where no link is left, and gives the first of those left where one is.
abbrev pub MemAccepts : Came MemTalk → MemDoorway → MemDoorway → Type 0
MemAccepts Failed old new = Contains old.fails old.calls
    × (new ≡ record old { calls = next_count old.calls; faults = next_count old.faults })
MemAccepts End old new = ¬ Contains old.fails old.calls × (old.left ≡ [])
    × (new ≡ record old { calls = next_count old.calls })
MemAccepts (Up link) old new = ¬ Contains old.fails old.calls × (old.left ≡ link ∷ new.left)
    × (new ≡ record old { left = new.left; up = old.up + 1; calls = next_count old.calls })

-- A link that is put back into a door in memory stands last among those served.
abbrev pub MemPutsBack : MemTalk → MemDoorway → MemDoorway → Type 0
MemPutsBack link old new = new ≡ record old {
  served = old.served ++ link ∷ [];
  up = old.up - 1;
  link_read_faults = joint_count old.link_read_faults link.read_faults;
  link_write_faults = joint_count old.link_write_faults link.write_faults;
}

-- A new door in memory and a new bell in memory.
abbrev pub IsUnusedPair : MemDoorway × MemRinging → Type 0
IsUnusedPair p = IsNewPair (doorway_of p.0) (ringing_of p.1)

-- A port in memory: what it was asked for, the pairs left, the numbers of the openings that fail, the number of the next
-- opening, and the count of faults.
pub record MemPorting : Type 0 where
  pub asked : List Asked
  pub left : List (MemDoorway × MemRinging)
  pub fails : List ℕ
  pub calls : ℕ
  pub faults : ℕ

-- What a port in memory tells: all that a port may tell.
abbrev pub porting_of : MemPorting → Porting
porting_of p = record { asked = Some p.asked; faults = p.faults }

-- One opening of a port in memory. It fails exactly where its number is listed or fewer pairs are left than there are
-- workers. Else it gives the first of those left. Both are noted. For want of memory all stays as it was.
abbrev pub MemOpens : Asked → Opened MemDoorway MemRinging → MemPorting → MemPorting → Type 0
MemOpens asked NoMemory old new = new ≡ old
MemOpens asked NotOpened old new = (Contains old.fails old.calls ⊎ (length old.left < asked.workers))
    × (new ≡ record old {
      asked = old.asked ++ asked ∷ [];
      calls = next_count old.calls;
      faults =
          next_count old.faults;
    })
MemOpens asked (Open pairs) old new = ¬ Contains old.fails old.calls × (old.left ≡ pairs.items ++ new.left)
    × (length pairs.items ≡ asked.workers)
    × (new ≡ record old { asked = old.asked ++ asked ∷ []; left = new.left; calls = next_count old.calls })
