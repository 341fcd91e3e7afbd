use Rattle.std.proofs.Common.{rules, ◌≡◌, sym, ap, ◌∙◌, subst, [], ◌∷◌, ◌++◌, length, append_assoc, append-nil}
use Rattle.braid_hall.specs.Passes.{PassView, BeginsWithBoth, joined_with}
use Rattle.braid_hall.specs.Many.{AreAway, JoinsAll}
use Rattle.braid_hall.proofs.ManyPasses.{away_last, away_joins, none_away_of, joins_none, joins_more, joins_whole}
use Rattle.braid_hall.proofs.many.join_all.Goals as goal

pub join-requires-clause-hall : goal.join-requires-clause-hall
join-requires-clause-hall g c = let i = c.loop-pass.invariant.3 in let me = away_last _ _ _ _ (subst (λ l. AreAway c.args.hall.now c.loop-pass.root l) c.in-Some.ensures.items i) in (i.same_hall, me.0)

pub join-requires-clause-first : goal.join-requires-clause-first
join-requires-clause-first g c = c.loop-pass.invariant.3.first

pub join-requires-clause-away : goal.join-requires-clause-away
join-requires-clause-away g c = let i = c.loop-pass.invariant.3 in let me = away_last _ _ _ _ (subst (λ l. AreAway c.args.hall.now c.loop-pass.root l) c.in-Some.ensures.items i) in me.3

pub join-requires-clause-idle : goal.join-requires-clause-idle
join-requires-clause-idle g c = let i = c.loop-pass.invariant.3 in let me = away_last _ _ _ _ (subst (λ l. AreAway c.args.hall.now c.loop-pass.root l) c.in-Some.ensures.items i) in (i.idle, me.1)

pub loop-pass-init : goal.loop-pass-init
loop-pass-init g c = ([], sym (append-nil c.args.passes.items), joins_none c.args.root.now, c.requires.away)

pub loop-pass-preserved : goal.loop-pass-preserved
loop-pass-preserved g c =
    let i = c.loop-pass.invariant in
    let left = c.in-Some.ensures.items in
    let is = c.join.ensures.joined in
    let both : BeginsWithBoth c.loop-pass.root c.in-Some.pass (joined_with c.loop-pass.root c.in-Some.pass).seen =
    subst (λ (z : PassView g.row.B-Entry.Denot). BeginsWithBoth c.loop-pass.root c.in-Some.pass z.seen) is c.join.ensures.begins in
    let all = joins_more c.args.root.now i.0 c.loop-pass.root c.in-Some.pass i.2 both in
    let away = away_joins c.args.hall.now c.loop-pass.root c.pop.new.self.items c.in-Some.pass (subst (λ l. AreAway c.args.hall.now c.loop-pass.root l) left i.3) in (
      c.in-Some.pass ∷ i.0,
      i.1 ∙ (ap (λ l. l ++ i.0) left ∙ append_assoc c.pop.new.self.items (c.in-Some.pass ∷ []) i.0),
      subst (λ (z : PassView g.row.B-Entry.Denot). JoinsAll c.args.root.now (c.in-Some.pass ∷ i.0) z) (sym is) all,
      subst (λ (z : PassView g.row.B-Entry.Denot). AreAway c.args.hall.now z c.pop.new.self.items) (sym is) away,
    )

pub returns-clause-joins_all : goal.returns-clause-joins_all
returns-clause-joins_all g c =
    let none : length c.loop-pass.passes.items ≡ 0 = search rules in
    let i = c.loop-pass.invariant in
    joins_whole c.args.root.now c.args.passes.items c.loop-pass.passes.items i.0 c.loop-pass.root none i.1 i.2

pub returns-clause-none_away : goal.returns-clause-none_away
returns-clause-none_away g c =
    let none : length c.loop-pass.passes.items ≡ 0 = search rules in
    none_away_of c.args.hall.now c.loop-pass.root c.loop-pass.passes.items none c.loop-pass.invariant.3
