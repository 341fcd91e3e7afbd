use Rattle.std.proofs.Common.{◌<◌, length, ap, arith}
use Rattle.braid_stream.specs.declared.reading.Reading.{Reading}
use Rattle.braid_stream.specs.Readers.{most_bytes}
use Rattle.braid_stream.proofs.Taken.{spent_cause, source_cause, none_more, ends_here, all_updates}
use Rattle.braid_stream.proofs.reading.Reading.refill.Goals as goal

pub returns-then-most-eq0-clause-fills : goal.returns-then-most-eq0-clause-fills
returns-then-most-eq0-clause-fills g c us bytes h =
    spent_cause us bytes c.args.self.now c.end.new.self c.end.result _ h c.requires.fed c.if-most-eq0.true c.end.ensures.answer (ap (λ (r : Reading). r.ended) c.end.ensures.ended)

pub returns-in-End-clause-fills : goal.returns-in-End-clause-fills
returns-in-End-clause-fills g c us bytes h =
    let f = c.in-End.ensures.fills in
    let short : length bytes < most_bytes = let n = h.count in omega (arith, c.if-most-eq0.false) in
    source_cause us bytes c.end_source.result c.end_source.new.self _ _ (ends_here _ _ f.1 f.2) short (c.end_source.ensures.ends us bytes (none_more us c.args.self.now c.fill.new.self bytes h c.requires.fed f.0))

pub returns-in-Failed-clause-fills : goal.returns-in-Failed-clause-fills
returns-in-Failed-clause-fills g c us bytes h =
    let f = c.in-Failed.ensures.fills in
    let short : length bytes < most_bytes = let n = h.count in omega (arith, c.if-most-eq0.false) in
    ((f.1, all_updates us c.args.self.now bytes c.requires.fed h, short), (c.requires.going, none_more us c.args.self.now c.fill.new.self bytes h c.requires.fed f.0, f.0))
