-- Words that were not read, and the run that the first word picks.
use Rattle.std.proofs.Common.{◌≡◌, ℕ, List, [], ◌∷◌, Option, Some, None, Result, Ok, Err, sym, ap, subst, ◌∙◌}
use Rattle.std.specs.Prelude.{slice_get}
use Rattle.std.specs.Result.{MatchResult}
use Rattle.braid_cli.specs.declared.words.WordsFault.{WordsFault}
use Rattle.braid_cli.specs.Picks.{commands, run_in, run_of}

-- what holds of a fault holds of the words that were not read for it
pub unread : {A : Type 0} (words : Result A WordsFault) (fault : WordsFault) (P : A → Type 0) (Q : WordsFault → Type 0) → words ≡ Err fault → Q fault → MatchResult words P Q
unread {A} words fault P Q e q = subst (λ (r : Result A WordsFault). MatchResult r P Q) (sym e) q

-- the run of words is that of the first of them
pub first_picks : (words : List (List ℕ)) (word : List ℕ) → Some word ≡ slice_get words 0 → run_of words ≡ run_in commands word
first_picks [] word e = absurd (let z : Some word ≡ None = e in cc)
first_picks (w ∷ ws) word e = ap (run_in commands) (let z : Some word ≡ Some w = e in let s : w ≡ word = cc in s)
