use Rattle.std.proofs.Common.{ap}
use Rattle.braid_stream.specs.declared.reading.Reading.{Reading}
use Rattle.braid_stream.proofs.Taken.{source_torn}
use Rattle.braid_stream.proofs.reading.Reading.end_source.Goals as goal

pub returns-else-resting : goal.returns-else-resting
returns-else-resting c = record {
  ends = λ us bytes h. source_torn us bytes c.args.self.now _ _ h c.requires.fed (λ s. let z = (c.if-resting.ensures.rests us h.fed h.stands).1 s in absurd (cc)) c.end-else-resting.ensures.answer (ap (λ (r : Reading). r.ended) c.end-else-resting.ensures.ended);
}
