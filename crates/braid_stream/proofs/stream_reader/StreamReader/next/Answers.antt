use Rattle.braid_stream.proofs.stream_reader.StreamReader.next.Goals as goal

pub returns-clause-again : goal.returns-clause-again
returns-clause-again g c end e =
    let a = c.next.ensures.again end e in
    (a.0, λ i. record { source = a.2 i; reader = a.1 i })
