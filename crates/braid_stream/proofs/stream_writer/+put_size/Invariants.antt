use Rattle.braid_stream.proofs.stream_writer.+put_size.Given as goal

abbrev pub decreases-put_size : goal.decreases-put_size
decreases-put_size g l = l.n
