use Rattle.std.proofs.Common.{◌≡◌, sym, subst}
use Rattle.braid_state.specs.States.{SpellsState, IsState, state_text}
use Rattle.braid_state.proofs.Spelled.{text_spells}
use Rattle.braid_state.proofs.Written.{text_put}
use Rattle.braid_state.proofs.writing.write_state.Goals as goal

-- what was put is the text
text_is : (c : goal.In_ok-push) → c.push.new.self ≡ state_text c.args.state.now
text_is c =
    text_put c.args.state.now c.in_ok-out.out c.push_head.new.out c.push_updates.new.out c.push_updates-2.new.out c.push.new.self c.get.result.now c.get-2.result.now c.in_ok-out.ensures.ok c.get.ensures.value c.get-2.ensures.value
    c.in_ok-push_head.ensures.ok c.in_ok-push_updates.ensures.ok c.in_ok-push_updates-2.ensures.ok c.in_ok-push.ensures.ok

pub returns-clause-ok : goal.returns-clause-ok
returns-clause-ok c = text_is c

pub returns-clause-spells : goal.returns-clause-spells
returns-clause-spells c =
    let is : IsState c.args.state.now = record {
      agent = c.in_ok-push_head.ensures.agent;
      server = c.requires.server;
      path = c.requires.path;
      few = c.requires.few;
      confirmed = rw (← c.get.ensures.value) c.in_ok-push_updates.ensures.valid;
      unsent = rw (← c.get-2.ensures.value) c.in_ok-push_updates-2.ensures.valid;
    } in
    subst (SpellsState c.args.state.now) (sym (text_is c)) (text_spells c.args.state.now is)
