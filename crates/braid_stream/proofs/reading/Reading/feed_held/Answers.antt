use Rattle.std.proofs.Common.{refl, ap}
use Rattle.braid_stream.specs.declared.reading.Reading.{Reading}
use Rattle.braid_stream.proofs.Taken.{fed_update, fed_fault}
use Rattle.braid_stream.proofs.reading.Reading.feed_held.Goals as goal

pub returns-in-Some-clause-feeds : goal.returns-in-Some-clause-feeds
returns-in-Some-clause-feeds c us bytes h =
    let f = fed_update us c.args.self.now (record { framer = c.feed.new.self; held = c.pass.new.self; read = c.args.self.now.read; ended = c.args.self.now.ended }) bytes c.get.result.now h c.in-Ok.fed c.in-Some.update (c.in-Ok.ensures.feeds us h.fed h.stands) c.get.ensures.value c.in-Some.is c.pass.ensures.rest refl in
    rw c.in-Some.update-is (c.requires.going, f.0, f.1)

pub returns-in-Frame-clause-feeds : goal.returns-in-Frame-clause-feeds
returns-in-Frame-clause-feeds c us bytes h =
    fed_fault us c.args.self.now c.end.new.self bytes c.get.result.now h c.in-Err.fault c.in-Frame.fault c.feed.new.self c.end.result (c.in-Err.ensures.feeds us h.fed h.stands) c.in-Frame.is c.get.ensures.value c.end.ensures.answer
    (ap (λ (r : Reading). r.ended) c.end.ensures.ended)
