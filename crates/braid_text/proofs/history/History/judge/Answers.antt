use Rattle.std.proofs.Common.{Err, sym, ap, ◌∙◌}
use Rattle.braid_text.proofs.Taking.{held_item, held_same, held_fits, not_contained, unknown_fits, past_fits, over_fits, roomy, takable}
use Rattle.braid_text.proofs.history.History.judge.Goals as goal

pub returns-in-Some-clause-refusal : goal.returns-in-Some-clause-refusal
returns-in-Some-clause-refusal c =
    let H = c.args.self.now.updates.items in
    let i = held_item H c.args.self.now.graph c.args.update.now c.index-held.result.now c.in-Some.n c.id.result.now c.requires.stands.graph c.in-Some.ensures.found c.id.ensures.value c.index-held.ensures in
    held_fits H c.requires.stands.legal c.in-Some.n c.index-held.result.now c.args.update.now i.0 i.1 c.args.room.now c.answer_held.result c.answer_held.ensures.answer

pub returns-in-Some-clause-known : goal.returns-in-Some-clause-known
returns-in-Some-clause-known c = λ there.
    (let H = c.args.self.now.updates.items in
    let i = held_item H c.args.self.now.graph c.args.update.now c.index-held.result.now c.in-Some.n c.id.result.now c.requires.stands.graph c.in-Some.ensures.found c.id.ensures.value c.index-held.ensures in
    ap Err (c.answer_held.ensures.known (held_same H c.requires.stands.legal c.in-Some.n c.index-held.result.now c.args.update.now i.0 i.1 there)))

pub returns-in-Some-least_unheld-clause-known : goal.returns-in-Some-least_unheld-clause-known
returns-in-Some-least_unheld-clause-known c = λ there. absurd (not_contained c.args.self.now.updates.items c.args.self.now.graph c.requires.stands.graph c.args.update.now _ c.id.ensures.value c.in_default.ensures.none there)

pub returns-in-Err-OutOfRange-clause-known : goal.returns-in-Err-OutOfRange-clause-known
returns-in-Err-OutOfRange-clause-known c = λ there. absurd (not_contained c.args.self.now.updates.items c.args.self.now.graph c.requires.stands.graph c.args.update.now _ c.id.ensures.value c.in_default.ensures.none there)

pub returns-in-Err-Memory-clause-known : goal.returns-in-Err-Memory-clause-known
returns-in-Err-Memory-clause-known c = λ there. absurd (not_contained c.args.self.now.updates.items c.args.self.now.graph c.requires.stands.graph c.args.update.now _ c.id.ensures.value c.in_default.ensures.none there)

pub returns-in-Some-first_full-clause-known : goal.returns-in-Some-first_full-clause-known
returns-in-Some-first_full-clause-known c = λ there. absurd (not_contained c.args.self.now.updates.items c.args.self.now.graph c.requires.stands.graph c.args.update.now _ c.id.ensures.value c.in_default.ensures.none there)

pub returns-in-None-clause-known : goal.returns-in-None-clause-known
returns-in-None-clause-known c = λ there. absurd (not_contained c.args.self.now.updates.items c.args.self.now.graph c.requires.stands.graph c.args.update.now _ c.id.ensures.value c.in_default.ensures.none there)

pub returns-in-Some-least_unheld-clause-refusal : goal.returns-in-Some-least_unheld-clause-refusal
returns-in-Some-least_unheld-clause-refusal c =
    unknown_fits c.args.self.now.updates.items c.args.self.now.graph c.requires.stands.graph c.args.update.now _ c.in-Some-least_unheld.id.now _ c.id.ensures.value c.parents.ensures.value c.in_default.ensures.none c.in-Some-least_unheld.ensures.found c.args.room.now c.unknown_parent.result c.unknown_parent.ensures.names

pub returns-in-Err-OutOfRange-clause-refusal : goal.returns-in-Err-OutOfRange-clause-refusal
returns-in-Err-OutOfRange-clause-refusal c =
    past_fits _ _ _ _ _ c.requires.stands c.args.update.now _ _ c.id.ensures.value c.parents.ensures.value c.in_default.ensures.none c.in_default-least_unheld.ensures.none _ c.in-Err-OutOfRange.patch c.in-Err-OutOfRange.len c.in-Err-OutOfRange.field-0-is c.in-Err-OutOfRange.ensures.fault c.args.room.now

pub returns-in-Err-Memory-clause-refusal : goal.returns-in-Err-Memory-clause-refusal
returns-in-Err-Memory-clause-refusal c = (
  λ there. not_contained c.args.self.now.updates.items c.args.self.now.graph c.requires.stands.graph c.args.update.now _ c.id.ensures.value c.in_default.ensures.none there,
  λ e. (cc),
)

pub need_of-need-requires-clause-takable : goal.need_of-need-requires-clause-takable
need_of-need-requires-clause-takable c =
    takable _ _ _ _ _ c.requires.stands c.args.update.now _ _ c.id.ensures.value c.parents.ensures.value c.in_default.ensures.none c.in_default-least_unheld.ensures.none c.read_parts.ensures.named c.read_parts.ensures.rising c.read_parts.ensures.built c.in-Ok.resolved c.in-Ok.ensures.ok c.in-Ok.ensures.level

pub returns-in-Some-first_full-clause-refusal : goal.returns-in-Some-first_full-clause-refusal
returns-in-Some-first_full-clause-refusal c =
    let t = takable _ _ _ _ _ c.requires.stands c.args.update.now _ _ c.id.ensures.value c.parents.ensures.value c.in_default.ensures.none c.in_default-least_unheld.ensures.none c.read_parts.ensures.named c.read_parts.ensures.rising c.read_parts.ensures.built c.in-Ok.resolved c.in-Ok.ensures.ok c.in-Ok.ensures.level in
    over_fits c.args.self.now.updates.items c.args.update.now t.follows c.need_of-need.result c.args.room.now c.in-Some-first_full.full c.need_of-need.ensures.need (sym c.in-Some-first_full.is ∙ c.first_full.ensures.full)

pub returns-in-None-clause-ok : goal.returns-in-None-clause-ok
returns-in-None-clause-ok c =
    takable _ _ _ _ _ c.requires.stands c.args.update.now _ _ c.id.ensures.value c.parents.ensures.value c.in_default.ensures.none c.in_default-least_unheld.ensures.none c.read_parts.ensures.named c.read_parts.ensures.rising c.read_parts.ensures.built c.in-Ok.resolved c.in-Ok.ensures.ok c.in-Ok.ensures.level

pub returns-in-None-clause-room : goal.returns-in-None-clause-room
returns-in-None-clause-room c = roomy c.args.self.now.updates.items c.args.update.now c.need_of-need.result c.args.room.now c.need_of-need.ensures.need (sym c.in-None.is ∙ c.first_full.ensures.full)
