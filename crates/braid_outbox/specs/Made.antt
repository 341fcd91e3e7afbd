-- Which two lists of updates make a replica, and which entry is the first in the way.
use Rattle.std.specs.Prelude.{◌≡◌, ◌⊎◌, ◌≤◌, ◌<◌, ◌+◌, ◌-◌, ℕ, List, ◌++◌, length, take}
use Rattle.braid_change.specs.Updates.{UpdateView}
use Rattle.braid_text.specs.Histories.{IsLegal, elements_of, deletions_of}
use Rattle.braid_outbox.specs.declared.faults.BadReplica.{BadReplica}
use Rattle.braid_outbox.specs.declared.faults.BadReplica.TheVariants.{Entry, Memory}
use Rattle.braid_outbox.specs.Replicas.{IsChained, frontier}

-- confirmed and unsent updates are a legal history within the limits that count, and each unsent one after the first names the one before it
pub record IsFine (C O : List UpdateView) : Type 0 where
  pub legal : IsLegal (C ++ O)
  pub chained : IsChained O
  pub versions : length (C ++ O) ≤ 524288
  pub elements : length (elements_of (C ++ O)) ≤ 33554432
  pub deletions : length (deletions_of (C ++ O)) ≤ 67108864

-- the first n entries of both lists are so
abbrev pub IsFineTo : List UpdateView → List UpdateView → ℕ → Type 0
IsFineTo C O n = IsFine (take n C) (take (n - length C) O)

-- entry n is the first with which both lists are not so
pub record IsFirstBad (C O : List UpdateView) (n : ℕ) : Type 0 where
  pub there : n < length (C ++ O)
  pub before : IsFineTo C O n
  pub bad : ¬ (IsFineTo C O (n + 1))

-- why the lists are not so. Memory may come for any lists
abbrev pub IsFirstFault : List UpdateView → List UpdateView → BadReplica → Type 0
IsFirstFault C O (Entry n) = IsFirstBad C O n
IsFirstFault C O Memory = Unit {0}

-- both lists are so, but their frontier has more than 2,000 members; n is the last entry
pub record IsTooWide (C O : List UpdateView) (n : ℕ) : Type 0 where
  pub fine : IsFine C O
  pub wide : 2000 < length (frontier (C ++ O))
  pub last : n + 1 ≡ length (C ++ O)

-- both lists make a replica
pub record MakesReplica (C O : List UpdateView) : Type 0 where
  pub fine : IsFine C O
  pub narrow : length (frontier (C ++ O)) ≤ 2000

-- why two lists make none. Memory may come for any lists
abbrev pub IsBadReplica : List UpdateView → List UpdateView → BadReplica → Type 0
IsBadReplica C O (Entry n) = IsFirstBad C O n ⊎ IsTooWide C O n
IsBadReplica C O Memory = Unit {0}
