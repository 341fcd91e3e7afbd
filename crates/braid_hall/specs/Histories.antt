-- Words on histories, which are lists of entries, each with the number of the pass that added it.
use Rattle.std.specs.Prelude.{◌≡◌, ℕ, ◌==◌, cond, ltb, List, [], ◌∷◌, ◌++◌, length, drop}
use Rattle.std.specs.List.{filter}

-- the second history begins with the first
abbrev pub IsPrefix : {E : Type 0} → List E → List E → Type 0
IsPrefix {E} xs ys = (zs : List E) × (ys ≡ xs ++ zs)

-- the longer of two histories, and the first where they are as long
abbrev pub longer_of : {E : Type 0} → List E → List E → List E
longer_of xs ys = cond (ltb (length xs) (length ys)) ys xs

-- the other of the two
abbrev pub shorter_of : {E : Type 0} → List E → List E → List E
shorter_of xs ys = cond (ltb (length xs) (length ys)) xs ys

-- the numbers of a list without one of them
abbrev pub without : ℕ → List ℕ → List ℕ
without n [] = []
without n (x ∷ xs) = cond (x == n) (without n xs) (x ∷ without n xs)

module _ {E : Type 0} where
  -- what a history has behind the history that it begins with
  abbrev pub added : List E → List E → List E
  added opening history = drop (length opening) history

  module _ (by : E → ℕ) where
    -- the entries that a history has with one number, of those that it did not have at its opening
    abbrev pub added_by : List E → ℕ → List E → List E
    added_by opening n history = filter (λ e. by e == n) (added opening history)

    -- each entry of a list has the same number
    abbrev pub AllBy : ℕ → List E → Type 0
    AllBy n [] = Unit {0}
    AllBy n (e ∷ es) = (by e ≡ n) × AllBy n es
