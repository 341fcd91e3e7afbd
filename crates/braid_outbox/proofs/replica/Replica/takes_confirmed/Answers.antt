use Rattle.std.proofs.Common.{refl, sym, subst, ◌∙◌}
use Rattle.braid_change.specs.Updates.{UpdateView}
use Rattle.braid_graph.specs.Entries.{HoldsAll}
use Rattle.braid_text.specs.Histories.{graph_of}
use Rattle.braid_outbox.proofs.Found.{no_missing}
use Rattle.braid_outbox.proofs.Loaded.{parent_lacks, confirmed_refused}
use Rattle.braid_outbox.proofs.replica.Replica.takes_confirmed.Goals as goal
use Rattle.braid_outbox.proofs.replica.Replica.takes_confirmed.Goals.{in-New, in-Memory, in_default-add_confirmed}

pub returns-in-Some-clause-refused : goal.returns-in-Some-clause-refused
returns-in-Some-clause-refused c = λ e fine. parent_lacks c.args.self.now c.args.update.now _ c.parents.result.now c.requires.none c.in-Some.ensures.least c.parents.ensures.value fine

pub add_confirmed-requires : goal.add_confirmed-requires
add_confirmed-requires c = record { parents = subst (λ (u : UpdateView). HoldsAll (graph_of c.args.self.now.confirmed) u.parents) (sym c.in_ok-copy.ensures.ok) (subst (HoldsAll (graph_of c.args.self.now.confirmed)) c.parents.ensures.value ((no_missing _ _ c.in_default.ensures.least).0 refl)) }

pub returns-clause-refused : goal.returns-clause-refused
returns-clause-refused c = λ e fine. elim c.match-add_confirmed.branch [
  | in-New w ↦ (let t = sym w.result-is ∙ e in cc)
  | in-Memory w ↦ (let t = sym w.result-is ∙ e in cc)
  | in_default-add_confirmed w ↦ confirmed_refused c.args.self.now c.args.update.now c.in_ok-copy.copy c.add_confirmed.result c.in_ok-copy.ensures.ok c.requires.none c.confirmed-count.ensures.fine (c.add_confirmed.ensures.answer w.in_default-add_confirmed.not-Memory) w.in_default-add_confirmed.not-New fine
]
