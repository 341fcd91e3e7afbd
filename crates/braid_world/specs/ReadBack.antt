-- What is read back of a front of the bytes that a session writes for a subscription.
use Rattle.std.specs.Prelude.{◌≡◌, ◌⊎◌, ◌≤◌, ℕ, Bool, List, [], ◌++◌, flat_map, length, take, Some}
use Rattle.braid_io.specs.Outside.{Intake, Rose}
use Rattle.braid_change.specs.Updates.{UpdateView}
use Rattle.braid_grammar.specs.Streams.{IsStream, IsTorn, HaveUpdates}
use Rattle.braid_graph.specs.Entries.{HoldsAll}
use Rattle.braid_graph.specs.Frontiers.{frontier_of}
use Rattle.braid_text.specs.Histories.{graph_of}
use Rattle.braid_stream.specs.Readers.{most_bytes}
use Rattle.braid_stream.specs.declared.next.Next.TheVariants as nexts
use Rattle.braid_store.specs.declared.entry.Entry.{Entry}
use Rattle.braid_store.specs.Books.{of_path, IsLegalBook}
use Rattle.braid_store.specs.Cursors.{sent_of}
use Rattle.braid_http.specs.declared.response.Replied.TheVariants as replies
use Rattle.braid_http.specs.Bodies.{IsChunkedBody, HasCome}
use Rattle.braid_session.specs.Sessions.{subscription_head, watch_text, last_chunk}
use Rattle.braid_session.specs.Pieces.{piece_text, watch_pieces, updates_in, last_mark, NeverFall}
use Rattle.braid_world.specs.Progress.{IsFront}
use Rattle.braid_world.specs.declared.reading_back.Heard.{Heard}
use Rattle.braid_world.specs.declared.reading_back.Last.{Last}
use Rattle.braid_world.specs.declared.reading_back.Last.TheVariants.{Head, Stream, Memory}

-- A subscription on a legal book, which begins at what is held at its first mark, and whose marks never fall. The path has no
-- more than 1,000 heads at the first mark, which is a limit of each server.
pub record IsSubscription (book : List Entry) (path : List ℕ) (from : List (List ℕ)) (n : ℕ)
    (marks : List ℕ) : Type 0 where
  pub legal : IsLegalBook book
  pub held : HoldsAll (graph_of (of_path (take n book) path)) from
  pub rising : NeverFall n marks
  pub narrow : length (frontier_of (graph_of (of_path (take n book) path))) ≤ 1_000

-- What a link has left to give is told, and is a front of what a session writes for a subscription.
pub record OffersFront (book : List Entry) (path : List ℕ) (from : List (List ℕ)) (n : ℕ) (marks : List ℕ)
    (stopped : Bool) (intake : Intake) : Type 0 where
  pub bytes : List ℕ
  pub told : intake.left ≡ Some bytes
  pub front : IsFront bytes (watch_text book path from n marks ++ last_chunk stopped)

-- These bytes hold a head, and behind it the data `content` in what has come of a chunked body, or in the whole of it.
pub record HoldData (head bytes content : List ℕ) : Type 0 where
  pub body : List ℕ
  pub split : bytes ≡ head ++ body
  pub has : HasCome content body ⊎ IsChunkedBody content body

-- The reading came to the end of these bytes, and read these updates: the bytes end within the head; or their data is a stream
-- of the updates; or it ends within another one, behind so many bytes.
abbrev pub EndsWhole : Last → List UpdateView → List ℕ → List ℕ → Type 0
EndsWhole (Head replies.Torn) us head bytes = (us ≡ []) × ¬ (IsFront head bytes)
EndsWhole (Stream nexts.End) us head bytes = (content : List ℕ) × HoldData head bytes content × IsStream us content
EndsWhole (Stream (nexts.Torn at)) us head bytes =
    (content : List ℕ) × HoldData head bytes content × HaveUpdates us content × IsTorn content × (at ≡ length content)
EndsWhole last us head bytes = ⊥

-- The reading of these bytes ended earlier: the count of failed reads rose; the bytes are as many as the limit of a stream; or
-- there was no memory.
abbrev pub EndsEarly : Last → List ℕ → ℕ → ℕ → Type 0
EndsEarly (Head replies.ReadFault) bytes old new = (old ≤ new) × Rose old new
EndsEarly (Head replies.Memory) bytes old new = Unit {0}
EndsEarly (Stream nexts.ReadFault) bytes old new = (old ≤ new) × Rose old new
EndsEarly (Stream nexts.Spent) bytes old new = most_bytes ≤ length bytes
EndsEarly (Stream nexts.Memory) bytes old new = Unit {0}
EndsEarly Memory bytes old new = Unit {0}
EndsEarly last bytes old new = ⊥

-- these bytes hold so many pieces of a subscription whole, behind its head
abbrev pub HoldPieces : List Entry → List ℕ → List (List ℕ) → ℕ → List ℕ → List ℕ → ℕ → Type 0
HoldPieces book path from n marks bytes j =
    IsFront (subscription_head (take n book) path
    ++ flat_map piece_text (take j (watch_pieces book path from n marks))) bytes

-- What is read of a front of a subscription's bytes. The updates are a front of what is sent up to the last mark. The reading
-- came to the end of the bytes, and then the updates begin with those of all pieces that the bytes hold whole; or it ended
-- earlier. So there is no fault of the stream, and no refusal of the head.
pub record ReadsFront (book : List Entry) (path : List ℕ) (from : List (List ℕ)) (n : ℕ) (marks bytes : List ℕ)
    (heard : Heard) (old new : ℕ) : Type 0 where
  pub front : IsFront heard.updates (sent_of book path from (last_mark n marks))
  pub ends : EndsWhole heard.last heard.updates (subscription_head (take n book) path) bytes
      ⊎ EndsEarly heard.last bytes old new
  pub whole : EndsWhole heard.last heard.updates (subscription_head (take n book) path) bytes
      → (j : ℕ) → HoldPieces book path from n marks bytes j
      → IsFront (updates_in (take j (watch_pieces book path from n marks))) heard.updates
