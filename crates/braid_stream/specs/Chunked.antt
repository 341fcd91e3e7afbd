-- Updates as chunks.
use Rattle.std.specs.Prelude.{ℕ, List, flat_map}
use Rattle.braid_change.specs.Updates.{UpdateView}
use Rattle.braid_change.specs.Spellings.{canonical}
use Rattle.braid_fields.specs.Chunks.{chunk}

-- each update as one chunk with its canonical spelling
abbrev pub chunks : List UpdateView → List ℕ
chunks us = flat_map (λ (u : UpdateView). chunk (canonical u)) us
