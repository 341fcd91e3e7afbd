use Rattle.std.proofs.Common.{List, [], ◌∷◌, ◌++◌, length, inl, Contains, true≢false, refl, sym, ap, subst, ◌∙◌}
use Rattle.braid_change.specs.Updates.{UpdateView}
use Rattle.braid_text.specs.Histories.{IsLegal}
use Rattle.indexmap.specs.IndexMap.{set_value_at}
use Rattle.braid_text.specs.declared.accept.Accept.TheVariants as accepts
use Rattle.braid_store.specs.declared.entry.Entry.{Entry}
use Rattle.braid_store.specs.declared.place.Place.{Place}
use Rattle.braid_store.specs.Answers.{IsPut}
use Rattle.braid_store.specs.Books.{of_path}
use Rattle.braid_store.specs.Inside.{entries_in}
use Rattle.braid_store.proofs.Fitting.{fits_by, fits_resource, refused_other}
use Rattle.braid_store.proofs.Grown.{there}
use Rattle.braid_store.proofs.Keeping.{first_entry, put_refused, put_new, history_at, history_there, set_same, adds_later, elements_later, deletions_later, memory_other}
use Rattle.braid_store.proofs.contents.Contents.put_behind.Goals as goal

pub is_held-requires : goal.is_held-requires
is_held-requires c = let t = history_there _ (entries_in c.args.self.now) c.args.n c.in-Some.resource.now c.requires.kept.resources c.requires.there (sym c.in-Some.ensures.value) in record { legal = subst IsLegal (sym t.2) (c.requires.kept.book.legal t.0) }

pub accept-requires-clause-versions : goal.accept-requires-clause-versions
accept-requires-clause-versions c = let t = history_there _ (entries_in c.args.self.now) c.args.n c.in-Some.resource.now c.requires.kept.resources c.requires.there (sym c.in-Some.ensures.value) in (fits_resource (entries_in c.args.self.now) t.0 c.room-room.result c.in-Some.resource.now c.requires.kept.book c.room-room.ensures.room t.2).versions

pub accept-requires-clause-elements : goal.accept-requires-clause-elements
accept-requires-clause-elements c = let t = history_there _ (entries_in c.args.self.now) c.args.n c.in-Some.resource.now c.requires.kept.resources c.requires.there (sym c.in-Some.ensures.value) in (fits_resource (entries_in c.args.self.now) t.0 c.room-room.result c.in-Some.resource.now c.requires.kept.book c.room-room.ensures.room t.2).elements

pub accept-requires-clause-deletions : goal.accept-requires-clause-deletions
accept-requires-clause-deletions c = let t = history_there _ (entries_in c.args.self.now) c.args.n c.in-Some.resource.now c.requires.kept.resources c.requires.there (sym c.in-Some.ensures.value) in (fits_resource (entries_in c.args.self.now) t.0 c.room-room.result c.in-Some.resource.now c.requires.kept.book c.room-room.ensures.room t.2).deletions

pub returns-then-is_held : goal.returns-then-is_held
returns-then-is_held c = record {
  puts = λ path at. put_refused c.args.self.now _ (first_entry path c.args.by c.args.update) _ c.requires.kept
      (record { resources = set_same _ c.args.n c.in-Some.resource.now (sym c.in-Some.ensures.value); places = refl; elements = refl; deletions = refl })
      (subst (λ (H : List UpdateView). Contains H c.args.update) (history_at _ (entries_in c.args.self.now) c.args.n path c.in-Some.resource.now c.requires.kept.resources at (sym c.in-Some.ensures.value)) (c.is_held.ensures.held.0 c.if-is_held.true))
      (λ h. refl) (λ h. cc);
}

pub returns-then-is_err : goal.returns-then-is_err
returns-then-is_err c = record {
  puts = λ path at. (
      let fresh : Contains (of_path (entries_in c.args.self.now) path) c.args.update → ⊥ = λ h. true≢false (sym (c.is_held.ensures.held.1 (subst (λ (H : List UpdateView). Contains H c.args.update) (sym (history_at _ (entries_in c.args.self.now) c.args.n path c.in-Some.resource.now c.requires.kept.resources at (sym c.in-Some.ensures.value))) h)) ∙ c.if-is_held.false) in
      put_refused c.args.self.now _ (first_entry path c.args.by c.args.update) _ c.requires.kept
      (record { resources = set_same _ c.args.n c.in-Some.resource.now (sym c.in-Some.ensures.value); places = c.reserve.ensures.items; elements = refl; deletions = refl })
      fresh (λ h. absurd (fresh h)) memory_other);
}

pub returns-in-New : goal.returns-in-New
returns-in-New c = record {
  puts = λ path at. (
      let is = history_at _ (entries_in c.args.self.now) c.args.n path c.in-Some.resource.now c.requires.kept.resources at (sym c.in-Some.ensures.value) in
      let fresh : Contains (of_path (entries_in c.args.self.now) path) c.args.update → ⊥ = λ h. true≢false (sym (c.is_held.ensures.held.1 (subst (λ (H : List UpdateView). Contains H c.args.update) (sym is) h)) ∙ c.if-is_held.false) in
      let e : Entry = first_entry path c.args.by c.args.update in
      let put = fits_by (entries_in c.args.self.now) e c.requires.kept.book (inl (there (entries_in c.args.self.now) e c.args.n at)) c.room-room.result c.in-Some.resource.now c.room-room.ensures.room is accepts.New c.in-New.ensures.answer in
      let one = c.accept.ensures.taken c.in-New.is ∙ ap (λ (us : List UpdateView). us ++ c.args.update ∷ []) is in
      put_new c.args.self.now _ e put fresh
      (adds_later c.args.self.now.resources.entries _ c.args.self.now.places.items _ c.args.self.now.elements c.args.self.now.deletions c.requires.kept e put c.args.n at c.entries.result _ _ (c.entries.ensures.count ∙ ap length is)
      (c.push_reserved.ensures.items ∙ ap (λ (places : List Place). places ++ (record { resource = c.args.n; number = c.entries.result; by = c.args.by }) ∷ []) c.reserve.ensures.items)
      c.accept.new.self one refl
      (elements_later (entries_in c.args.self.now) e c.in-Some.resource.now c.accept.new.self is one c.elements-elements.result c.elements.result c.args.self.now.elements c.elements-elements.ensures.count c.elements.ensures.count c.requires.kept.elements_sum)
      (deletions_later (entries_in c.args.self.now) e c.in-Some.resource.now c.accept.new.self is one c.deletions-deletions.result c.deletions.result c.args.self.now.deletions c.deletions-deletions.ensures.count c.deletions.ensures.count c.requires.kept.deletions_sum)));
}

pub returns-in_default-accept : goal.returns-in_default-accept
returns-in_default-accept c = record {
  puts = λ path at. (
      let is = history_at _ (entries_in c.args.self.now) c.args.n path c.in-Some.resource.now c.requires.kept.resources at (sym c.in-Some.ensures.value) in
      let fresh : Contains (of_path (entries_in c.args.self.now) path) c.args.update → ⊥ = λ h. true≢false (sym (c.is_held.ensures.held.1 (subst (λ (H : List UpdateView). Contains H c.args.update) (sym is) h)) ∙ c.if-is_held.false) in
      let e : Entry = first_entry path c.args.by c.args.update in
      put_refused c.args.self.now _ e c.answer_of.result c.requires.kept
      (record { resources = ap (set_value_at c.args.self.now.resources.entries c.args.n) (c.accept.ensures.kept c.in_default-accept.not-New) ∙ set_same _ c.args.n c.in-Some.resource.now (sym c.in-Some.ensures.value); places = c.reserve.ensures.items; elements = refl; deletions = refl })
      (subst (IsPut (entries_in c.args.self.now) e) (sym c.answer_of.ensures.same)
      (fits_by (entries_in c.args.self.now) e c.requires.kept.book (inl (there (entries_in c.args.self.now) e c.args.n at)) c.room-room.result c.in-Some.resource.now c.room-room.ensures.room is c.accept.result c.accept.ensures.answer))
      (λ h. absurd (fresh h))
      (λ h. refused_other c.accept.result c.in_default-accept.not-New (sym c.answer_of.ensures.same ∙ h)));
}
