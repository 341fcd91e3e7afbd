use Rattle.std.proofs.Common.{◌++◌, ◌∙◌, refl, ap, subst, inl, inr}
use Rattle.braid_http.specs.declared.body.Body.{Body}
use Rattle.braid_sync.specs.Steps.{IsLast}
use Rattle.braid_sync.proofs.Heard.{went_none, went_then, heard_here, heard_then, used_up, past_by, costs_of, falls}
use Rattle.braid_sync.proofs.hear.Stream.next.Goals as goal

pub hearing-init : goal.hearing-init
hearing-init g c = record { kind = refl; went = λ us content passed s. went_none _ us content passed _ _ s; past = inl refl }

pub returns-in-Some-clause-hears : goal.returns-in-Some-clause-hears
returns-in-Some-clause-hears g c us content passed s =
    let w = c.hearing.invariant.went us content passed s in
    heard_here c.in-Some.heard c.args.self.now c.hearing.self c.at_hand.new.self us content passed _ _ _ _ w (c.in-Some.ensures.hears us w.on.taken w.on.has w.on.going) c.in-Some.ensures.body c.in-Some.ensures.wire

pub returns-in-Some-clause-costs : goal.returns-in-Some-clause-costs
returns-in-Some-clause-costs g c u e =
    let q = c.requires.going in
    let w = c.hearing.invariant.went q.0 q.1 q.2 q.3 in
    costs_of c.in-Some.heard u c.args.self.now c.hearing.self c.at_hand.new.self q.0 (q.1 ++ w.more) (q.2 ++ w.used) e w.on c.in-Some.ensures.hears c.hearing.invariant.past

pub returns-in-Some-refill-clause-hears : goal.returns-in-Some-refill-clause-hears
returns-in-Some-refill-clause-hears g c us content passed s =
    let w = c.hearing.invariant.went us content passed s in
    let d = used_up c.hearing.self c.at_hand.new.self us (content ++ w.more) (passed ++ w.used) w.on (c.in_default.ensures.hears us w.on.taken w.on.has w.on.going) c.in_default.ensures.body c.in_default.ensures.wire in
    heard_then c.in-Some-refill.heard c.args.self.now c.hearing.self c.at_hand.new.self c.refill.new.self us content passed _ _ _ _ _ _ w c.in_default.ensures.wire
    (c.in-Some-refill.ensures.hears us (content ++ w.more) (passed ++ w.used) d.on d.none d.all).1

pub returns-in-Some-refill-clause-costs : goal.returns-in-Some-refill-clause-costs
returns-in-Some-refill-clause-costs g c u e =
    let q = c.requires.going in
    let w = c.hearing.invariant.went q.0 q.1 q.2 q.3 in
    let d = used_up c.hearing.self c.at_hand.new.self q.0 (q.1 ++ w.more) (q.2 ++ w.used) w.on (c.in_default.ensures.hears q.0 w.on.taken w.on.has w.on.going) c.in_default.ensures.body c.in_default.ensures.wire in
    absurd (subst IsLast e (c.in-Some-refill.ensures.hears q.0 (q.1 ++ w.more) (q.2 ++ w.used) d.on d.none d.all).0)

pub hearing-smaller : goal.hearing-smaller
hearing-smaller g c =
    let q = c.requires.going in
    let w = c.hearing.invariant.went q.0 q.1 q.2 q.3 in
    let d = used_up c.hearing.self c.at_hand.new.self q.0 (q.1 ++ w.more) (q.2 ++ w.used) w.on (c.in_default.ensures.hears q.0 w.on.taken w.on.has w.on.going) c.in_default.ensures.body c.in_default.ensures.wire in
    let r = c.in_default-refill.ensures.hears q.0 (q.1 ++ w.more) (q.2 ++ w.used) d.on d.none d.all in
    falls c.hearing.self c.at_hand.new.self c.refill.new.self q.0 (q.1 ++ w.more) (q.2 ++ w.used) r.2 ((q.2 ++ w.used) ++ r.1) w.on d (c.in_default-refill.ensures.reader refl) r.6 r.5

pub hearing-preserved : goal.hearing-preserved
hearing-preserved g c =
    let q = c.requires.going in
    let v = c.hearing.invariant.went q.0 q.1 q.2 q.3 in
    let e = used_up c.hearing.self c.at_hand.new.self q.0 (q.1 ++ v.more) (q.2 ++ v.used) v.on (c.in_default.ensures.hears q.0 v.on.taken v.on.has v.on.going) c.in_default.ensures.body c.in_default.ensures.wire in
    record {
      kind = c.in_default-refill.ensures.kind ∙ ap (λ (b : Body). b.kind) c.in_default.ensures.body ∙ c.hearing.invariant.kind;
      went = λ us content passed s.
          let w = c.hearing.invariant.went us content passed s in
          let d = used_up c.hearing.self c.at_hand.new.self us (content ++ w.more) (passed ++ w.used) w.on (c.in_default.ensures.hears us w.on.taken w.on.has w.on.going) c.in_default.ensures.body c.in_default.ensures.wire in
          went_then c.args.self.now c.hearing.self c.at_hand.new.self c.refill.new.self us content passed _ _ _ _ _ _ w c.in_default.ensures.wire
          (c.in_default-refill.ensures.hears us (content ++ w.more) (passed ++ w.used) d.on d.none d.all);
      past = inr (past_by c.args.self.now c.hearing.self c.at_hand.new.self c.refill.new.self q.0 (q.1 ++ v.more) (q.2 ++ v.used) v.on e (c.in_default-refill.ensures.reader refl) c.hearing.invariant.past);
    }
