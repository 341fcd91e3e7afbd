use Rattle.std.proofs.Common.{◌≡◌, List, length, get_or, ap, subst, sym, ◌∙◌, arith}
use Rattle.braid_graph.specs.Entries.{GraphEntry}
use Rattle.braid_graph.specs.Inside.{IsKnown, AreKnown}
use Rattle.braid_graph.specs.declared.known.Known.{Known}
use Rattle.braid_graph.proofs.Collected.{entries_length}
use Rattle.braid_graph.proofs.KnownMarks.{known_marks, some_got}
use Rattle.braid_graph.proofs.graph.Graph.kept.Goals as goal

pub returns : goal.returns
returns c =
    let es = c.args.self.now in
    let in' = c.self.inside in
    let ks = in'.known.items in
    let n = c.number_of-n.result in
    let k = c.index.result.now in
    let found = rw c.deref.ensures.value at c.in-Some.ensures.found in
    let got = some_got (λ (t : Known). t.of ≡ n) ks c.in-Some.i k found in
    let is : k ≡ get_or ks c.in-Some.i k = c.index.ensures in
    let known = subst (λ (t : List GraphEntry). AreKnown t ks) c.self.view_is c.self.invariant.1 in
    let one : IsKnown es k = subst (IsKnown es) (sym is) (known c.in-Some.i k got.0) in
    let of : k.of ≡ n = ap (λ (t : Known). t.of) is ∙ got.1 in
    let long : c.len-2.result ≡ length es = c.len-2.ensures.len ∙ sym (entries_length in'.entries.entries) ∙ ap (λ (t : List GraphEntry). length t) c.self.view_is in
    let same = rw c.in-Ok.ensures.ok at c.widen.ensures.kept in
    record { ok = known_marks es c.args.of.now k n c.widen.new.self one c.requires.held (omega (arith, c.len.ensures.len, c.if-len-ne1.false)) c.number_of-n.ensures.number of (c.widen.ensures.size ∙ long) same }
