use Rattle.std.proofs.Common.{◌≡◌, ◌++◌, ◌∷◌, [], ℕ, List, Bool, true, false, Result, Ok, Err, sym, ap, ◌∙◌}
use Rattle.std.specs.Prelude.{if◌then◌else◌}
use Rattle.std.specs.Result.{is_err, is_ok}
use Rattle.braid_cli.proofs.words.push_word.Goals as goal

-- what a push leaves that was no error
pushed : {A E : Type 0} (r : Result A E) (xs ys zs : List (List ℕ)) → is_err r ≡ false → zs ≡ (if is_ok r then xs else ys) → zs ≡ xs
pushed (Ok x) xs ys zs e h = h
pushed (Err x) xs ys zs e h = absurd (let z : true ≡ false = e in cc)

pub returns-clause-ok : goal.returns-clause-ok
returns-clause-ok c =
    pushed c.push.result (c.args.words.now.items ++ c.in-Ok.word ∷ []) c.args.words.now.items c.push.new.self.items (sym c.is_err.ensures.value ∙ c.if-is_err.false) c.push.ensures.items
    ∙ ap (λ (word : List ℕ). c.args.words.now.items ++ word ∷ []) c.in-Ok.ensures.ok
