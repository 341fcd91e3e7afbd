use Rattle.std.proofs.Common.{◌≡◌, ◌-◌, ◌+◌, List, length, ap, sym, subst, ◌∙◌, arith}
use Rattle.std.proofs.lemmas.List.{length_push}
use Rattle.std.specs.Result.{is_ok}
use Rattle.braid_graph.specs.Entries.{GraphEntry}
use Rattle.braid_graph.specs.Inside.{entries_in, IsWhole, IsKnown, AreKnown, MarksPast}
use Rattle.braid_graph.specs.declared.known.Known.{Known}
use Rattle.braid_graph.specs.declared.graph.Graph.TheInside.{Inside}
use Rattle.braid_graph.proofs.Collected.{entries_length}
use Rattle.braid_graph.proofs.KnownMarks.{keep_newest, all_removed, all_pushed, on_ok}
use Rattle.braid_graph.proofs.graph.Graph.keep_past.Goals.{then-len-ge-MOST_KNOWN, else-len-ge-MOST_KNOWN}
use Rattle.braid_graph.proofs.graph.Graph.keep_past.Goals as goal

pub invariant_of-self : goal.invariant_of-self
invariant_of-self c =
    let in' = c.self.inside in
    let es = entries_in in'.entries.entries in
    let size = c.len-size.result in
    let k : Known = record { of = size - 1; marks = c.add.new.self } in
    let P : Inside → Type 0 = λ (x : Inside). IsWhole (entries_in x.entries.entries) x.links.items x.heads x.starts.items × AreKnown (entries_in x.entries.entries) x.known.items × IsKnown (entries_in x.entries.entries) k in
    let past = subst (λ (t : List GraphEntry). MarksPast t c.args.past) (sym c.self.view_is) c.requires.past in
    let long : size ≡ length es = c.len-size.ensures.len ∙ sym (entries_length in'.entries.entries) in
    let some : length es ≡ length past.front + 1 = ap (λ (t : List GraphEntry). length t) past.all ∙ length_push past.front past.newest in
    let marked = on_ok c.add.result (sym c.is_err.ensures.value ∙ c.if-is_err.false) c.add.ensures.ok in
    let new : IsKnown es k = keep_newest es c.args.past c.widen.new.self size k c.self.invariant.0.kept.history past long (omega (arith, long, some)) c.widen.ensures.size c.add.ensures.size c.widen.ensures.kept marked in
    let before : P c.if-len-ge-MOST_KNOWN.self-inside = elim c.if-len-ge-MOST_KNOWN.branch [
      | then-len-ge-MOST_KNOWN w ↦ subst P (sym w.self-inside-is) (c.self.invariant.0, all_removed (IsKnown es) in'.known.items w.remove.new.self.items 0 w.remove.ensures.items c.self.invariant.1, new)
      | else-len-ge-MOST_KNOWN w ↦ subst P (sym w.self-inside-is) (c.self.invariant.0, c.self.invariant.1, new)
    ] in
    let es' = entries_in c.if-len-ge-MOST_KNOWN.self-inside.entries.entries in
    (before.0, all_pushed (IsKnown es') c.if-len-ge-MOST_KNOWN.self-inside.known.items c.push.new.self.items k (is_ok c.push.result) c.push.ensures.items before.1 before.2)
