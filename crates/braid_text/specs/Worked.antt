-- Worked rows: the updates of which they speak, and a room in which nothing is short.
use Rattle.std.specs.Prelude.{ℕ, List, [], ◌∷◌, codes}
use Rattle.braid_change.specs.declared.change.Change.{Change}
use Rattle.braid_change.specs.declared.change.Change.TheVariants.{Body, Patches}
use Rattle.braid_change.specs.Updates.{UpdateView}
use Rattle.braid_text.specs.declared.room.Room.{Room}

-- an update with this change
abbrev pub update : List ℕ → List (List ℕ) → Change → UpdateView
update id parents change = record { id = id; parents = parents; change = change }

-- the characters from `start` up to `end` give way to the text
abbrev pub one_patch : ℕ → ℕ → List ℕ → Change
one_patch start end text = Patches (record { start = start; end = end; text = text } ∷ [])

-- `x-1` has the body `ab`
abbrev pub x_1 : UpdateView
x_1 = update (codes "x-1") [] (Body (codes "ab"))

-- `p-1` inserts `P` behind the first character of `x-1`
abbrev pub p_1 : UpdateView
p_1 = update (codes "p-1") (codes "x-1" ∷ []) (one_patch 1 1 (codes "P"))

-- `q-1` inserts `Q` there
abbrev pub q_1 : UpdateView
q_1 = update (codes "q-1") (codes "x-1" ∷ []) (one_patch 1 1 (codes "Q"))

-- `r-1` inserts `R` behind the second character of what `p-1` and `q-1` see
abbrev pub r_1 : UpdateView
r_1 = update (codes "r-1") (codes "p-1" ∷ codes "q-1" ∷ []) (one_patch 2 2 (codes "R"))

-- another `p-1` deletes both characters of `x-1`
abbrev pub p_deletes : UpdateView
p_deletes = update (codes "p-1") (codes "x-1" ∷ []) (one_patch 0 2 [])

-- `a-1` has the body `A` and no parents
abbrev pub a_1 : UpdateView
a_1 = update (codes "a-1") [] (Body (codes "A"))

-- `b-1` has the body `B` and no parents
abbrev pub b_1 : UpdateView
b_1 = update (codes "b-1") [] (Body (codes "B"))

-- `m-1` merges `a-1` and `b-1` and changes nothing
abbrev pub m_1 : UpdateView
m_1 = update (codes "m-1") (codes "a-1" ∷ codes "b-1" ∷ []) (Patches [])

-- another `a-1` has the body `ho`
abbrev pub a_other : UpdateView
a_other = update (codes "a-1") [] (Body (codes "ho"))

-- `x-1` has the body `hello`
abbrev pub x_hello : UpdateView
x_hello = update (codes "x-1") [] (Body (codes "hello"))

-- `y-1` replaces it by `hello you`
abbrev pub y_1 : UpdateView
y_1 = update (codes "y-1") (codes "x-1" ∷ []) (Body (codes "hello you"))

-- `z-1` replaces the first six characters of `x-1`
abbrev pub z_1 : UpdateView
z_1 = update (codes "z-1") (codes "x-1" ∷ []) (one_patch 0 6 [])

-- room for this many of each
abbrev pub room_for : ℕ → Room
room_for n = record { versions = n; elements = n; deletions = n; width = n }
