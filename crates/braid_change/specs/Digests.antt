-- What a digester has been given.
use Rattle.std.specs.Prelude.{List}
use Rattle.sha2.specs.Hashers.{Holds256}
use Rattle.braid_change.specs.Updates.{UpdateView}
use Rattle.braid_change.specs.Spellings.{canonical_all}
use Rattle.braid_change.specs.declared.digester.Digester.{Digester}

-- these updates were added, in this order: the digester holds their canonical spellings
abbrev pub HasAdded : Digester → List UpdateView → Type 0
HasAdded d us = Holds256 d.hasher (canonical_all us)
