use Rattle.std.proofs.Common.{◌++◌, ◌∙◌, refl}
use Rattle.braid_stream.proofs.Taken.{fed_answers, filled_answers, none_at_hand, takes_none, takes_on}
use Rattle.braid_stream.proofs.reading.Reading.go_on.Goals as goal

pub reading-init : goal.reading-init
reading-init g c = record { going = c.requires.going; moved = λ us bytes h. takes_none us bytes c.args.self.now _ c.requires.going h; alone = λ us bytes h a. refl; kept = refl }

pub feed_held-requires-clause-stands : goal.feed_held-requires-clause-stands
feed_held-requires-clause-stands g c =
    let q = c.requires.stands in
    let t = c.reading.invariant.moved q.0 q.1 q.2 in
    (q.0, q.1 ++ t.taken.more, t.taken.taken)

pub returns-in-Some-clause-answers : goal.returns-in-Some-clause-answers
returns-in-Some-clause-answers g c us bytes h =
    let t = c.reading.invariant.moved us bytes h in
    fed_answers us bytes c.in-Some.next c.reading.self c.feed_held.new.self _ _ t (c.in-Some.ensures.feeds us (bytes ++ t.taken.more) t.taken.taken)

pub returns-in-Some-clause-at_hand : goal.returns-in-Some-clause-at_hand
returns-in-Some-clause-at_hand g c us bytes h a = c.reading.invariant.alone us bytes h a

pub refill-requires-clause-going : goal.refill-requires-clause-going
refill-requires-clause-going g c =
    let q = c.requires.stands in
    let t = c.reading.invariant.moved q.0 q.1 q.2 in
    (c.in_default.ensures.feeds q.0 (q.1 ++ t.taken.more) t.taken.taken).0

pub refill-requires-clause-fed : goal.refill-requires-clause-fed
refill-requires-clause-fed g c =
    let q = c.requires.stands in
    let t = c.reading.invariant.moved q.0 q.1 q.2 in
    (c.in_default.ensures.feeds q.0 (q.1 ++ t.taken.more) t.taken.taken).1

pub refill-requires-clause-stands : goal.refill-requires-clause-stands
refill-requires-clause-stands g c =
    let q = c.requires.stands in
    let t = c.reading.invariant.moved q.0 q.1 q.2 in
    (q.0, q.1 ++ t.taken.more, (c.in_default.ensures.feeds q.0 (q.1 ++ t.taken.more) t.taken.taken).2)

pub returns-in-Some-refill-clause-answers : goal.returns-in-Some-refill-clause-answers
returns-in-Some-refill-clause-answers g c us bytes h =
    let t = c.reading.invariant.moved us bytes h in
    let f = c.in_default.ensures.feeds us (bytes ++ t.taken.more) t.taken.taken in
    filled_answers us bytes c.in-Some-refill.next c.reading.self c.refill.new.self _ _ _ t (c.in-Some-refill.ensures.fills us (bytes ++ t.taken.more) f.2)

pub returns-in-Some-refill-clause-at_hand : goal.returns-in-Some-refill-clause-at_hand
returns-in-Some-refill-clause-at_hand g c us bytes h a =
    let t = c.reading.invariant.moved us bytes h in
    absurd (none_at_hand us bytes c.reading.self c.feed_held.new.self _ _ t (c.in_default.ensures.feeds us (bytes ++ t.taken.more) t.taken.taken) a)

pub reading-preserved : goal.reading-preserved
reading-preserved g c =
    let q = c.requires.stands in
    let s = c.reading.invariant.moved q.0 q.1 q.2 in
    let e = c.in_default.ensures.feeds q.0 (q.1 ++ s.taken.more) s.taken.taken in
    record {
      going = (c.in_default-refill.ensures.fills q.0 (q.1 ++ s.taken.more) e.2).going;
      moved = λ us bytes h.
          let t = c.reading.invariant.moved us bytes h in
          let f = c.in_default.ensures.feeds us (bytes ++ t.taken.more) t.taken.taken in
          takes_on us bytes c.reading.self c.feed_held.new.self c.refill.new.self _ _ _ t f (c.in_default-refill.ensures.fills us (bytes ++ t.taken.more) f.2);
      alone = λ us bytes h a.
          let t = c.reading.invariant.moved us bytes h in
          absurd (none_at_hand us bytes c.reading.self c.feed_held.new.self _ _ t (c.in_default.ensures.feeds us (bytes ++ t.taken.more) t.taken.taken) a);
      kept = c.in_default-refill.ensures.kept ∙ c.reading.invariant.kept;
    }
