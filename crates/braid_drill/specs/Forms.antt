-- The words of a drill, and what they ask for.
use Rattle.std.specs.Prelude.{◌≡◌, ℕ, ◌<◌, ◌≤◌, ◌^◌, List, [], ◌∷◌, codes}
use Rattle.braid_lines.specs.Numbers.{IsNumber}
use Rattle.braid_drill.specs.declared.words.Asked.{Asked}

-- words are the form of a drill: `drill`, a seed below 2 to the 64th, and a number of rounds, 1 to 20,000
pub record IsForm (words : List (List ℕ)) (asked : Asked) : Type 0 where
  pub seed : List ℕ
  pub rounds : List ℕ
  pub split : words ≡ codes "drill" ∷ seed ∷ rounds ∷ []
  pub seed_is : IsNumber seed asked.seed
  pub seed_fits : asked.seed < 2 ^ 64
  pub rounds_are : IsNumber rounds asked.rounds
  pub some : 1 ≤ asked.rounds
  pub few : asked.rounds ≤ 20_000

-- words are not of that form
abbrev pub HasNoForm : List (List ℕ) → Type 0
HasNoForm words = (asked : Asked) → ¬ IsForm words asked
