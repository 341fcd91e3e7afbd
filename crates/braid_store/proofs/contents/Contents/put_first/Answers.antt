use Rattle.std.proofs.Common.{List, [], ◌∷◌, ◌++◌, true≢false, sym, ap, subst, ◌∙◌, inr}
use Rattle.braid_change.specs.Updates.{UpdateView}
use Rattle.braid_store.specs.Answers.{IsPut}
use Rattle.braid_store.specs.Inside.{entries_in}
use Rattle.braid_store.proofs.Fitting.{fits_by, full_fits_by, when_full_other, refused_other, below_from, none_contained}
use Rattle.braid_store.proofs.Keeping.{first_entry, put_refused, same_contents, may_add, put_first_new, new_fits}
use Rattle.braid_store.proofs.contents.Contents.put_first.Goals as goal

pub returns-then-is_full : goal.returns-then-is_full
returns-then-is_full c = record {
  puts = put_refused c.args.self.now c.args.self.now (first_entry c.args.path.now c.args.by c.args.update) c.answer_when_full.result c.requires.kept (same_contents c.args.self.now)
      (subst (IsPut (entries_in c.args.self.now) (first_entry c.args.path.now c.args.by c.args.update)) (sym c.answer_when_full.ensures.same)
      (full_fits_by (entries_in c.args.self.now) (first_entry c.args.path.now c.args.by c.args.update) c.requires.absent (c.is_full.ensures.full.0 c.if-is_full.true) c.room.result c.new-resource.result (c.new-resource.ensures.none ∙ sym c.requires.absent) c.accept-answer.result c.accept-answer.ensures.answer))
      (λ h. absurd (none_contained _ c.args.update c.requires.absent h))
      (λ h. when_full_other c.accept-answer.result (sym c.answer_when_full.ensures.same ∙ h));
}

pub push-requires-clause-may : goal.push-requires-clause-may
push-requires-clause-may c =
    may_add c.args.self.now c.make_room.new.self c.args.path.now c.in-Ok.path c.args.by c.args.update c.accept-answer.new.self c.make_room.ensures.same c.in-Ok.ensures.ok.0
    (c.accept-answer.ensures.taken c.in-New.is ∙ ap (λ (us : List UpdateView). us ++ c.args.update ∷ []) c.new-resource.ensures.none)
    (new_fits (entries_in c.args.self.now) c.args.path.now c.args.by c.args.update c.requires.kept.book c.requires.absent (λ l. true≢false (sym (c.is_full.ensures.full.1 l) ∙ c.if-is_full.false)) c.room.result c.new-resource.result c.room.ensures.room c.new-resource.ensures.none c.in-New.ensures.answer)

pub returns-in-Ok : goal.returns-in-Ok
returns-in-Ok c = record {
  puts = put_first_new c.args.self.now c.make_room.new.self c.push.new.self c.args.path.now c.in-Ok.path c.args.by c.args.update c.accept-answer.new.self c.make_room.ensures.same c.in-Ok.ensures.ok.0
      (c.accept-answer.ensures.taken c.in-New.is ∙ ap (λ (us : List UpdateView). us ++ c.args.update ∷ []) c.new-resource.ensures.none)
      (new_fits (entries_in c.args.self.now) c.args.path.now c.args.by c.args.update c.requires.kept.book c.requires.absent (λ l. true≢false (sym (c.is_full.ensures.full.1 l) ∙ c.if-is_full.false)) c.room.result c.new-resource.result c.room.ensures.room c.new-resource.ensures.none c.in-New.ensures.answer)
      c.requires.absent c.push.ensures.adds c.push.ensures.kept;
}

pub returns-in_default : goal.returns-in_default
returns-in_default c = record {
  puts = put_refused c.args.self.now c.args.self.now (first_entry c.args.path.now c.args.by c.args.update) c.answer_of.result c.requires.kept (same_contents c.args.self.now)
      (subst (IsPut (entries_in c.args.self.now) (first_entry c.args.path.now c.args.by c.args.update)) (sym c.answer_of.ensures.same)
      (fits_by (entries_in c.args.self.now) (first_entry c.args.path.now c.args.by c.args.update) c.requires.kept.book (inr (c.requires.absent, below_from _ (λ l. true≢false (sym (c.is_full.ensures.full.1 l) ∙ c.if-is_full.false)))) c.room.result c.new-resource.result c.room.ensures.room (c.new-resource.ensures.none ∙ sym c.requires.absent) c.accept-answer.result c.accept-answer.ensures.answer))
      (λ h. absurd (none_contained _ c.args.update c.requires.absent h))
      (λ h. refused_other c.accept-answer.result c.in_default.not-New (sym c.answer_of.ensures.same ∙ h));
}
