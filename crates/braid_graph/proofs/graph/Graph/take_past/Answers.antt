use Rattle.std.proofs.Common.{◌≡◌, List, length, get_or, ap, subst, sym, ◌∙◌, arith}
use Rattle.braid_graph.specs.Entries.{GraphEntry}
use Rattle.braid_graph.specs.Inside.{IsKnown, AreKnown}
use Rattle.braid_graph.specs.declared.known.Known.{Known}
use Rattle.braid_graph.proofs.Collected.{entries_length}
use Rattle.braid_graph.proofs.KnownMarks.{known_marks, some_got}
use Rattle.braid_graph.proofs.graph.Graph.take_past.Goals as goal

pub returns-in-Some-clause-ok : goal.returns-in-Some-clause-ok
returns-in-Some-clause-ok c =
    let es = c.args.self.now in
    let in' = c.self.inside in
    let ks = in'.known.items in
    let n = c.number_of-n.result in
    let k = c.remove-of.result in
    let found = rw c.deref.ensures.value at c.in-Some.ensures.found in
    let got = some_got (λ (t : Known). t.of ≡ n) ks c.in-Some.i k found in
    let is : k ≡ get_or ks c.in-Some.i k = c.remove-of.ensures.value in
    let known = subst (λ (t : List GraphEntry). AreKnown t ks) c.self.view_is c.self.invariant.1 in
    let one : IsKnown es k = subst (IsKnown es) (sym is) (known c.in-Some.i k got.0) in
    let of : k.of ≡ n = ap (λ (t : Known). t.of) is ∙ got.1 in
    let long : c.len-in-Some.result ≡ length es = c.len-in-Some.ensures.len ∙ sym (entries_length in'.entries.entries) ∙ ap (λ (t : List GraphEntry). length t) c.self.view_is in
    known_marks es c.args.parents.now k n c.widen.new.self one c.requires.held (omega (arith, c.len.ensures.len, c.if-len-ne1.false)) c.number_of-n.ensures.number of (c.widen.ensures.size ∙ long) c.widen.ensures.kept
