-- The pieces of what a subscription writes behind its head, and that they are a stream.
use Rattle.std.specs.Prelude.{◌≡◌, ◌≤◌, ℕ, true, List, [], ◌∷◌, ◌++◌, map, flat_map, length, take, drop, Option, Some, None}
use Rattle.braid_change.specs.Updates.{UpdateView}
use Rattle.braid_change.specs.Spellings.{canonical}
use Rattle.braid_fields.specs.Chunks.{chunk, beat}
use Rattle.braid_grammar.specs.Streams.{IsStream}
use Rattle.braid_graph.specs.Entries.{HoldsAll}
use Rattle.braid_text.specs.Histories.{graph_of}
use Rattle.braid_store.specs.declared.entry.Entry.{Entry}
use Rattle.braid_store.specs.Books.{of_path, IsLegalBook}
use Rattle.braid_store.specs.Cursors.{sent_of}
use Rattle.braid_http.specs.Bodies.{IsChunkedBody}
use Rattle.braid_session.specs.Sessions.{subscription_head, watch_text, last_chunk}

-- a piece of a subscription's body is the chunk of an update, or a beat, which is the chunk of an empty line
abbrev pub piece_text : Option UpdateView → List ℕ
piece_text None = beat
piece_text (Some u) = chunk (canonical u)

-- each update as a piece
abbrev pub pieces_of : List UpdateView → List (Option UpdateView)
pieces_of us = map (λ (u : UpdateView). Some u) us

-- the same, or a beat where there are none
abbrev pub pieces_or_beat : List UpdateView → List (Option UpdateView)
pieces_or_beat [] = None ∷ []
pieces_or_beat (u ∷ us) = pieces_of (u ∷ us)

-- the pieces of the further marks, where so many updates were sent
abbrev pub further_pieces : List Entry → List ℕ → List (List ℕ) → ℕ → List ℕ → List (Option UpdateView)
further_pieces book path from passed [] = []
further_pieces book path from passed (n ∷ marks) =
    pieces_or_beat (drop passed (sent_of book path from n))
    ++ further_pieces book path from (length (sent_of book path from n)) marks

-- the pieces of a subscription for its marks, of which n is the first
abbrev pub watch_pieces : List Entry → List ℕ → List (List ℕ) → ℕ → List ℕ → List (Option UpdateView)
watch_pieces book path from n marks =
    pieces_of (sent_of book path from n) ++ further_pieces book path from (length (sent_of book path from n)) marks

-- the updates of pieces
abbrev pub updates_in : List (Option UpdateView) → List UpdateView
updates_in [] = []
updates_in (None ∷ pieces) = updates_in pieces
updates_in (Some u ∷ pieces) = u ∷ updates_in pieces

-- the last of marks, of which n is the first
abbrev pub last_mark : ℕ → List ℕ → ℕ
last_mark n [] = n
last_mark n (m ∷ marks) = last_mark m marks

-- no mark is below the one before it
abbrev pub NeverFall : ℕ → List ℕ → Type 0
NeverFall n [] = Unit {0}
NeverFall n (m ∷ marks) = (n ≤ m) × NeverFall m marks

-- the bytes of a subscription are its head and its pieces
abbrev pub PiecesSpell : Type 0
PiecesSpell =
    (book : List Entry) (path : List ℕ) (from : List (List ℕ)) (n : ℕ) (marks : List ℕ)
    → watch_text book path from n marks
    ≡ subscription_head (take n book) path ++ flat_map piece_text (watch_pieces book path from n marks)

-- the updates of a subscription's pieces are what is sent up to its last mark
abbrev pub PiecesSend : Type 0
PiecesSend =
    (book : List Entry) (path : List ℕ) (from : List (List ℕ)) (n : ℕ) (marks : List ℕ)
    → IsLegalBook book → HoldsAll (graph_of (of_path (take n book) path)) from → NeverFall n marks
    → updates_in (watch_pieces book path from n marks) ≡ sent_of book path from (last_mark n marks)

-- Where a subscription was stopped, its bytes are its head and a chunked body, whose data is a stream of what is sent up to its
-- last mark: of the updates of that prefix of the book outside the ancestry of where it began, in their order.
abbrev pub WatchIsStream : Type 0
WatchIsStream =
    (book : List Entry) (path : List ℕ) (from : List (List ℕ)) (n : ℕ) (marks : List ℕ)
    → IsLegalBook book → HoldsAll (graph_of (of_path (take n book) path)) from → NeverFall n marks
    → (body content : List ℕ) × (watch_text book path from n marks ++ last_chunk true ≡ subscription_head (take n book) path ++ body)
    × IsChunkedBody content body × IsStream (sent_of book path from (last_mark n marks)) content
