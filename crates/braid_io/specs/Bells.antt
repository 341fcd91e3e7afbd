-- What a bell tells, and what waiting for it and ringing it do.
use Rattle.std.specs.Prelude.{◌≡◌, ℕ, Option}
use Rattle.braid_io.specs.declared.bell.Rang.{Rang}
use Rattle.braid_io.specs.declared.bell.Rang.TheVariants.{Again, End}
use Rattle.braid_io.specs.Outside.{next_count, HasOne, HasNone, one_fewer}

-- What a bell tells: the number of Agains that it has left, None where it does not tell it, the number of Agains that
-- it answered, and the number of rings made through it.
pub record Ringing : Type 0 where
  pub answers : Option ℕ
  pub agains : ℕ
  pub rings : ℕ

-- One wait: it answers Again only where one is left, which is then used up; or it ends, only where none is left.
abbrev pub Waits : Rang → Ringing → Ringing → Type 0
Waits Again old new = HasOne old.answers
    × (new ≡ record old { answers = one_fewer old.answers; agains = next_count old.agains })
Waits End old new = HasNone old.answers × (new ≡ old)

-- One ring: the count of rings rises, and nothing else.
abbrev pub Rings : Ringing → Ringing → Type 0
Rings old new = new ≡ record old { rings = next_count old.rings }

-- A new bell: no Again was answered and no ring was made.
pub record IsNewBell (bell : Ringing) : Type 0 where
  pub agains : bell.agains ≡ 0
  pub rings : bell.rings ≡ 0
