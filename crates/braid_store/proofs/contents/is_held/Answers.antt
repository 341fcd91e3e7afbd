use Rattle.std.proofs.Common.{ℕ, List, sym, subst}
use Rattle.braid_graph.specs.Entries.{Holds}
use Rattle.braid_text.specs.Histories.{graph_of}
use Rattle.braid_text.proofs.Taking.{contains_holds}
use Rattle.braid_store.proofs.Keeping.{contained, same_held, named_there}
use Rattle.braid_store.proofs.contents.is_held.Goals as goal

pub returns-in-Some-entry : goal.returns-in-Some-entry
returns-in-Some-entry c = record {
  held = (
    λ t. contained c.args.resource.now c.in-Some.n c.in-Some-entry.held.now c.args.update.now (sym c.in-Some-entry.ensures.value) (c.same.ensures.same.0 t),
    λ h. c.same.ensures.same.1 (same_held c.args.resource.now c.requires.legal c.in-Some.n _ c.in-Some-entry.held.now c.args.update.now c.in-Some.ensures.found c.id.ensures.value (sym c.in-Some-entry.ensures.value) h),
  );
}

pub returns-in-None-entry : goal.returns-in-None-entry
returns-in-None-entry c = absurd (named_there c.args.resource.now c.in-Some.n _ c.in-Some.ensures.found (sym c.in-None-entry.ensures.value))

pub returns-in-None : goal.returns-in-None
returns-in-None c = record { held = (λ t. absurd (cc), λ h. absurd (c.in-None.ensures.none (subst (λ (v : List ℕ). Holds (graph_of c.args.resource.now) v) (sym c.id.ensures.value) (contains_holds c.args.resource.now c.args.update.now h)))) }
