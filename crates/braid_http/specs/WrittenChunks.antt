-- Chunks as they are written are a chunked body.
use Rattle.std.specs.Prelude.{ℕ, List, ◌++◌, flat_map}
use Rattle.braid_fields.specs.Chunks.{AreWrittenChunks, last_chunk}
use Rattle.braid_http.specs.Bodies.{IsChunkedBody}

-- chunks as they are written, and the last one, are a chunked body of the pieces' data
abbrev pub WritesChunked : Type 0
WritesChunked =
    (pieces : List (List ℕ)) (b : List ℕ) → AreWrittenChunks pieces b
    → IsChunkedBody (flat_map (λ piece. piece) pieces) (b ++ last_chunk)
