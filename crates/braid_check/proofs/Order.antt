-- Streams of the same updates have one text.
use Rattle.std.proofs.Common.{◌≡◌, ℕ, ◌+◌, List, ◌++◌, length, codes, decimal, ap, ◌∙◌, arith}
use Rattle.braid_change.specs.Updates.{UpdateView}
use Rattle.braid_grammar.specs.Streams.{IsStream}
use Rattle.braid_graph.specs.Frontiers.{frontier_of}
use Rattle.braid_graph.proofs.Frontiers.{frontier_is}
use Rattle.braid_text.specs.Histories.{graph_of, text_of, text_at, SameGraph, IsLegal}
use Rattle.braid_text.specs.declared.room.Room.{Room}
use Rattle.braid_text.proofs.Alike.{are_alike}
use Rattle.braid_text.proofs.Public.{same_text_at, room_versions}
use Rattle.braid_text.proofs.Digests.{same_digest}
use Rattle.braid_check.specs.Accepted.{history_of, AreAccepted}
use Rattle.braid_lines.specs.Lines.{line_with, frontier_said, content_lines}
use Rattle.braid_check.specs.CheckTexts.{history_text}
use Rattle.braid_check.proofs.Once.{once_exact}
use Rattle.braid_check.proofs.Legal.{keeps_stream}

same_histories : (us vs : List UpdateView) → SameGraph us vs → SameGraph (history_of us) (history_of vs)
same_histories us vs s u = (
  λ c. (once_exact vs u).1 ((s u).0 ((once_exact us u).0 c)),
  λ c. (once_exact us u).1 ((s u).1 ((once_exact vs u).0 c)),
)

-- histories of the same updates have as many
same_length : (H K : List UpdateView) → IsLegal H → IsLegal K → SameGraph H K → length H ≡ length K
same_length H K h k s =
    let limits : Room = record { versions = length H + length K; elements = 0; deletions = 0; width = 0 } in
    let left = ap (λ (r : Room). r.versions) ((are_alike H K h k s).room limits) in
    omega (arith, left, room_versions limits H, room_versions limits K)

same_text_of : (H K : List UpdateView) → IsLegal H → IsLegal K → SameGraph H K → text_of H ≡ text_of K
same_text_of H K h k s =
    same_text_at H K h k s (frontier_of (graph_of H)) (λ v c. (((frontier_is (graph_of H)).exact v).0 c).0)
    ∙ ap (text_at K) (are_alike H K h k s).frontier

same_lines : (H K : List UpdateView) → IsLegal H → IsLegal K → SameGraph H K → history_text H ≡ history_text K
same_lines H K h k s = λ i. line_with (codes "versions: ") (decimal (same_length H K h k s i))
    ++ (line_with (codes "frontier:") (frontier_said ((are_alike H K h k s).frontier i))
    ++ content_lines (same_text_of H K h k s i) (same_digest H K h k s i))

pub order_free : (us vs : List UpdateView) (bytes other : List ℕ) → IsStream us bytes → IsStream vs other → AreAccepted us → AreAccepted vs → SameGraph us vs → history_text (history_of us) ≡ history_text (history_of vs)
order_free us vs bytes other s t a b g = same_lines (history_of us) (history_of vs) (keeps_stream us bytes s a).legal (keeps_stream vs other t b).legal (same_histories us vs g)
