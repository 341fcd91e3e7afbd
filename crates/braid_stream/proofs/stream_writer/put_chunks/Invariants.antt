use Rattle.std.proofs.Common.{take}
use Rattle.braid_stream.specs.Chunked.{chunks}
use Rattle.braid_stream.proofs.stream_writer.put_chunks.Given as goal

abbrev pub invariant-loop-update : goal.invariant-loop-update
invariant-loop-update g l = g.O.Outlet.puts (chunks (take l.update-index l.updates)) l.fn.out l.out
