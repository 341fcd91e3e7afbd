-- What parts of a text were read, and where reading stopped.
use Rattle.std.specs.Prelude.{◌≡◌, ℕ, List, ◌++◌, decimal}
use Rattle.braid_change.specs.Updates.{UpdateView}
use Rattle.braid_grammar.specs.Streams.{IsGap, SpellsUpdate}
use Rattle.braid_state.specs.declared.stop.Stop.{Stop}
use Rattle.braid_state.specs.declared.stop.Stop.TheVariants.{Bad, Memory}
use Rattle.braid_state.specs.declared.head.Heading.{Heading}
use Rattle.braid_state.specs.Heads.{Head}

-- where reading stopped at bytes that are not of the form, this holds of them
abbrev pub IfBad : Stop → (List ℕ → Type 0) → Type 0
IfBad (Bad rest) P = P rest.now
IfBad Memory P = Unit {0}

-- the head that was read
abbrev pub head_read : Heading → Head
head_read heading =
    record {
      agent = heading.agent;
      server = heading.server;
      path = heading.path;
      confirmed =
          decimal heading.confirmed;
      unsent = decimal heading.unsent;
    }

-- bytes are an update after a gap, and what follows it
pub record IsFirstUpdate (u : UpdateView) (rest bytes : List ℕ) : Type 0 where
  pub gap : List ℕ
  pub first : List ℕ
  pub is_gap : IsGap gap
  pub is_first : SpellsUpdate u first
  pub spelled : bytes ≡ gap ++ (first ++ rest)
