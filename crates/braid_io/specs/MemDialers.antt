-- A dialer in memory, as its contracts see it, and exactly what one call of it does.
use Rattle.std.specs.Prelude.{◌≡◌, ℕ, ◌⊎◌, List, [], ◌∷◌, ◌++◌, map, Some}
use Rattle.std.specs.List.{Contains}
use Rattle.braid_io.specs.declared.dialer.Dialed.{Dialed}
use Rattle.braid_io.specs.declared.dialer.Dialed.TheVariants.{Up, Failed, Memory}
use Rattle.braid_io.specs.declared.mem_dialer.HungUp.{HungUp}
use Rattle.braid_io.specs.Outside.{next_count, joint_count}
use Rattle.braid_io.specs.Dialers.{Talk, Dialing}
use Rattle.braid_io.specs.InMemory.{MemTalk, talk_intake, talk_outflow}

-- What a link in memory tells once it was hung up, with its server.
abbrev pub talk_of : HungUp → Talk
talk_of h = record { server = h.server; intake = talk_intake h.link; outflow = talk_outflow h.link }

-- A dialer in memory: the links hung up, the servers of those that are up, the links left, the numbers of the dials that
-- fail, the number of the next dial, the count of faults, and the sums of the failed reads and writes of the links hung up.
pub record MemDialing : Type 0 where
  pub talks : List HungUp
  pub servers : List (List ℕ)
  pub left : List MemTalk
  pub fails : List ℕ
  pub calls : ℕ
  pub faults : ℕ
  pub link_read_faults : ℕ
  pub link_write_faults : ℕ

-- What a dialer in memory tells: all that a dialer may tell.
abbrev pub dialing_of : MemDialing → Dialing
dialing_of d = record {
  talks = Some (map talk_of d.talks);
  servers = Some d.servers;
  faults = d.faults;
  link_read_faults = d.link_read_faults;
  link_write_faults = d.link_write_faults;
}

-- One dial of a dialer in memory. It fails exactly where its number is listed or no link is left, and then only the
-- counts change. Else it gives the first of the links left. For want of memory all stays as it was.
abbrev pub MemDials : List ℕ → Dialed MemTalk → MemDialing → MemDialing → Type 0
MemDials server Memory old new = new ≡ old
MemDials server Failed old new = (Contains old.fails old.calls ⊎ (old.left ≡ []))
    × (new ≡ record old { calls = next_count old.calls; faults = next_count old.faults })
MemDials server (Up link) old new = ¬ Contains old.fails old.calls × (old.left ≡ link ∷ new.left)
    × (new ≡ record old { servers = old.servers ++ server ∷ []; left = new.left; calls = next_count old.calls })

-- A link that is hung up at a dialer in memory stands last among the talks, with the last of the servers that were up.
pub record MemHangsUp (link : MemTalk) (old new : MemDialing) : Type 0 where
  pub server : List ℕ
  pub was_up : old.servers ≡ new.servers ++ server ∷ []
  pub moved : new ≡ record old {
    talks = old.talks ++ (record { server = server; link = link }) ∷ [];
    servers = new.servers;
    link_read_faults = joint_count old.link_read_faults link.read_faults;
    link_write_faults = joint_count old.link_write_faults link.write_faults;
  }
