use Rattle.std.proofs.Common.{subst}
use Rattle.braid_state.specs.States.{SpellsState, state_text}
use Rattle.braid_state.proofs.Spelled.{nothing_more, text_spells}
use Rattle.braid_state.proofs.laws.whole_only.Goals as goal

pub returns : goal.returns
returns c = record {
  front = λ s t front more is e h. nothing_more t s front more h (subst (SpellsState s) e (text_spells s is));
  longer = λ s t more is h. nothing_more s t (state_text s) more (text_spells s is) h;
  any = nothing_more;
}
