use Rattle.std.proofs.Common.{ℕ, length, List, [], ◌∷◌, ◌++◌, nat_eq, sym, subst, ◌∙◌, ap}
use Rattle.std.specs.List.{AllZip}
use Rattle.std.specs.Cmp.Lexicographic.{pointwise}
use Rattle.indexmap.specs.IndexMap.{insert_entry}
use Rattle.braid_graph.specs.Entries.{GraphEntry, IsHistoryGraph}
use Rattle.braid_graph.specs.Inside.{entries_in, IsNumberOf, begun, AreKnown}
use Rattle.braid_graph.proofs.Kept.{numbers_below, entries_added, add_kept}
use Rattle.braid_graph.proofs.Collected.{entries_length}
use Rattle.braid_graph.proofs.RunsKept.{add_runs}
use Rattle.braid_graph.proofs.KnownMarks.{all_known}
use Rattle.braid_graph.proofs.graph.Graph.put.Goals as goal

pub clear_all-requires : goal.clear_all-requires
clear_all-requires c =
    let in' = c.self.inside in
    let es = entries_in in'.entries.entries in
    let k = c.in_ok-links.links in
    let z = subst (λ (t : List GraphEntry). AllZip (IsNumberOf t) c.args.parents k.parents.items) (sym c.self.view_is) c.in_ok-links.ensures.parents in
    record { within = numbers_below es in'.links.items in'.heads c.add.new.self c.args.parents k.parents.items c.as_slice.result.now c.self.invariant.0.kept c.in_ok-add.ensures.ok z c.as_slice.ensures }

pub invariant_of-self-2 : goal.invariant_of-self-2
invariant_of-self-2 c =
    let in' = c.self.inside in
    let k = c.in_ok-links.links in
    let kept = add_kept c.args.self.now in'.entries.entries c.insert.new.self.entries c.args.id c.args.parents in'.links.items c.push.new.self.items k in'.heads c.add.new.self c.clear_all.new.self c.as_slice.result.now
    c.self.view_is c.self.invariant.0.kept c.requires.new c.requires.held c.requires.few c.in_ok-links.ensures.level c.in_ok-links.ensures.parents
    (c.in-Ok-insert.ensures.entries ∙ ap (λ (t : _). insert_entry (pointwise nat_eq) t c.args.id c.args.parents) c.in_ok-reserve.ensures.entries)
    (c.in-Ok.ensures.items ∙ ap (λ (t : _). t ++ k ∷ []) c.in_ok-reserve-2.ensures.items)
    c.in_ok-add.ensures.ok c.as_slice.ensures c.clear_all.ensures.cleared in
    let grown = entries_added c.args.self.now in'.entries.entries c.insert.new.self.entries c.args.id c.args.parents c.self.view_is c.requires.new (c.in-Ok-insert.ensures.entries ∙ ap (λ (t : _). insert_entry (pointwise nat_eq) t c.args.id c.args.parents) c.in_ok-reserve.ensures.entries) in
    let e : GraphEntry = record { id = c.args.id; parents = c.args.parents } in
    let history = subst IsHistoryGraph c.self.view_is c.self.invariant.0.kept.history in
    let known = subst (λ (t : List GraphEntry). AreKnown t in'.known.items) c.self.view_is c.self.invariant.1 in (
      record {
        kept = kept;
        runs = add_runs c.args.self.now (entries_in in'.entries.entries) (entries_in c.insert.new.self.entries) in'.links.items c.push.new.self.items in'.heads in'.starts.items c.begin_run.new.starts.items (record { id = c.args.id; parents = c.args.parents }) k c.len-number.result
            c.self.view_is c.self.invariant.0 c.in_ok-links.ensures.run
            (entries_added c.args.self.now in'.entries.entries c.insert.new.self.entries c.args.id c.args.parents c.self.view_is c.requires.new (c.in-Ok-insert.ensures.entries ∙ ap (λ (t : _). insert_entry (pointwise nat_eq) t c.args.id c.args.parents) c.in_ok-reserve.ensures.entries))
            (c.in-Ok.ensures.items ∙ ap (λ (t : _). t ++ k ∷ []) c.in_ok-reserve-2.ensures.items)
            (c.len-number.ensures.len ∙ sym (entries_length in'.entries.entries) ∙ ap (λ (t : List GraphEntry). length t) c.self.view_is)
            (c.begin_run.ensures.begun ∙ ap (λ (t : List ℕ). begun t k.run c.len-number.result) c.in_ok-reserve-3.ensures.items);
      },
      subst (λ (t : List GraphEntry). AreKnown t in'.known.items) (sym grown) (all_known c.args.self.now e in'.known.items history c.requires.new known),
    )

pub returns-clause-ok : goal.returns-clause-ok
returns-clause-ok c =
    entries_added c.args.self.now c.self.inside.entries.entries c.insert.new.self.entries c.args.id c.args.parents c.self.view_is c.requires.new
    (c.in-Ok-insert.ensures.entries ∙ ap (λ (t : _). insert_entry (pointwise nat_eq) t c.args.id c.args.parents) c.in_ok-reserve.ensures.entries)
