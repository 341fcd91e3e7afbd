use Rattle.std.proofs.Common.{◌+◌, ◌≡◌, [], Option, arith, sym, subst}
use Rattle.std.specs.Option.{option_copied}
use Rattle.braid_change.specs.Updates.{UpdateView}
use Rattle.braid_store.specs.Cursors.{CursorView, FitsHistory, IsNext, left_past}
use Rattle.braid_store.proofs.Stepping.{next_at, next_none}
use Rattle.braid_store.proofs.cursor.Cursor.next_in.Goals as goal

pub returns-in-Some-clause-next : goal.returns-in-Some-clause-next
returns-in-Some-clause-next c =
    subst (λ (v : CursorView). IsNext c.args.resource.now v.from v.passed (option_copied c.entry.result) (c.in-Some.n + 1)) c.self.view_is
    (subst (λ (o : Option UpdateView). IsNext c.args.resource.now c.self.inside.from c.self.inside.passed o (c.in-Some.n + 1)) (sym c.entry.ensures.value)
    (next_at c.args.resource.now (record { path = c.self.inside.path; from = c.self.inside.from; marks = c.self.inside.marks; passed = c.self.inside.passed }) c.in-Some.n c.entries-end.ensures.legal (subst (FitsHistory c.args.resource.now) (sym c.self.view_is) c.requires.fits)
    c.in-Some.ensures.found.0 (let l = c.in-Some.ensures.found.1 in let end = c.entries-end.ensures.count in omega (arith, l, end)) c.in-Some.ensures.found.2 c.in-Some.ensures.found.3))

pub returns-in-None-clause-next : goal.returns-in-None-clause-next
returns-in-None-clause-next c =
    let end = c.entries-end.ensures.count in
    let next = next_none c.args.resource.now (record { path = c.self.inside.path; from = c.self.inside.from; marks = c.self.inside.marks; passed = c.self.inside.passed }) c.entries-end.ensures.legal (subst (FitsHistory c.args.resource.now) (sym c.self.view_is) c.requires.fits) (λ k l h. c.in-None.ensures.none k l (omega (arith, h, end))) in
    (subst (λ (v : CursorView). left_past c.args.resource.now v.from v.passed ≡ []) c.self.view_is next.0, end)
