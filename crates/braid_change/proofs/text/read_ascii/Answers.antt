use Rattle.std.proofs.Common.{◌≡◌, true, List, ℕ, sym, subst}
use Rattle.std.specs.Str.{all_scalars}
use Rattle.braid_change.specs.Texts.{IsTextOf}
use Rattle.braid_change.proofs.AsciiTexts.{ascii_text}
use Rattle.braid_change.proofs.text.read_ascii.Goals as goal

pub invariant_of-result : goal.invariant_of-result
invariant_of-result c = subst (λ (t : List ℕ). all_scalars t ≡ true) (sym c.in_ok-chars.ensures.ok) (ascii_text c.args.bytes.now c.requires.ascii).scalar

pub returns : goal.returns
returns c = record { ok = subst (λ (t : List ℕ). IsTextOf t c.args.bytes.now) (sym c.in_ok-chars.ensures.ok) (ascii_text c.args.bytes.now c.requires.ascii) }
