-- What the functions of a subscription show one another: its turns, and what they write.
use Rattle.std.specs.Prelude.{◌≡◌, ℕ, ◌+◌, ◌≤◌, ◌⊎◌, true, List, [], ◌∷◌, ◌++◌, length, Option, Some, None}
use Rattle.braid_change.specs.Updates.{UpdateView}
use Rattle.braid_graph.specs.Entries.{HoldsAll}
use Rattle.braid_graph.specs.Ancestries.{IsLeastUnheld}
use Rattle.braid_graph.specs.Frontiers.{frontier_of}
use Rattle.braid_text.specs.Histories.{graph_of}
use Rattle.braid_text.specs.Sent.{sent}
use Rattle.braid_io.specs.Outside.{Outflow, WritesAll, WritesPart, HasNone}
use Rattle.braid_io.specs.Bells.{Ringing, Waits}
use Rattle.braid_io.specs.declared.bell.Rang.TheVariants.{Again, End}
use Rattle.braid_fields.specs.Chunks.{last_chunk as the_last_chunk}
use Rattle.braid_stream.specs.Chunked.{chunks}
use Rattle.braid_hall.specs.Passes.{PassView}
use Rattle.braid_store.specs.declared.entry.Entry.{Entry}
use Rattle.braid_store.specs.Books.{of_path, IsLegalBook}
use Rattle.braid_store.specs.Cursors.{CursorView, IsFit, left_past}
use Rattle.braid_http.specs.declared.request.Request.{Request}
use Rattle.braid_session.specs.declared.serving.Serving.{Serving}
use Rattle.braid_session.specs.declared.session.SessionEnd.{SessionEnd}
use Rattle.braid_session.specs.declared.session.SessionEnd.TheVariants.{Closed, Stopped, Spent, Refused, Torn, ReadFault, WriteFault, Worn, Memory}
use Rattle.braid_session.specs.declared.turn.NoReply.{NoReply}
use Rattle.braid_session.specs.declared.turn.NoReply.TheVariants as no
use Rattle.braid_session.specs.declared.watch.Begun.{Begun}
use Rattle.braid_session.specs.declared.watch.First.{First}
use Rattle.braid_session.specs.declared.watch.First.TheVariants.{Begins, Unheld}
use Rattle.braid_session.specs.declared.watch.Opening.{Opening}
use Rattle.braid_session.specs.declared.wish.Wish.TheVariants.{Watch}
use Rattle.braid_session.specs.Wishes.{Means, wanted}
use Rattle.braid_session.specs.Sessions.{subscription_head, chunks_or_beat, further, last_chunk}
use Rattle.braid_session.specs.Ends.{Passed, BreaksOff}
use Rattle.braid_session.specs.Watches.{IsHeard, IsLastMark}

-- A subscription to a path stands behind what is there, on a book: these updates are all that is sent of it, and the cursor has
-- passed them.
pub record StandsBehind (book : List Entry) (path : List ℕ) (from : List (List ℕ)) (us : List UpdateView) (cursor : CursorView) : Type 0 where
  pub held : HoldsAll (graph_of (of_path book path)) from
  pub updates : us ≡ sent (of_path book path) from
  pub path_is : cursor.path ≡ path
  pub from_is : cursor.from ≡ from
  pub passed : cursor.passed ≡ length (of_path book path)
  pub fits : IsFit book cursor

-- what a subscription to a path begins with, on a book: the path's frontier, and what is there
pub record BeginsAt (book : List Entry) (path : List ℕ) (from : List (List ℕ)) (begun : Begun) : Type 0 where
  pub current : begun.current ≡ frontier_of (graph_of (of_path book path))
  pub stands : StandsBehind book path from begun.updates begun.cursor

-- a pass took one turn, in which it found this book and added nothing
pub record Looked (book : List Entry) (p q : PassView Entry) (marks more : List ℕ) : Type 0 where
  pub legal : IsLegalBook book
  pub passed : Passed p q (length book ∷ []) []
  pub seen : q.seen ≡ book
  pub noted : more ≡ marks ++ length book ∷ []

-- a pass took no turn
pub record Stayed (p q : PassView Entry) (marks more : List ℕ) : Type 0 where
  pub passed : Passed p q [] []
  pub seen : q.seen ≡ p.seen
  pub noted : more ≡ marks

-- what the first turn of a subscription found: it begins, or the path lacks an identifier that it begins at
abbrev pub Finds : List Entry → List ℕ → List (List ℕ) → First → Type 0
Finds book path from (Begins begun) = BeginsAt book path from begun
Finds book path from (Unheld id) = IsLeastUnheld (graph_of (of_path book path)) from id

pub record TookFirst (path : List ℕ) (from : List (List ℕ)) (first : First) (p q : PassView Entry) (marks more : List ℕ) : Type 0 where
  pub book : List Entry
  pub looked : Looked book p q marks more
  pub finds : Finds book path from first

-- a further turn gave what the cursor had not passed, of the book that was found
pub record TookFurther (us : List UpdateView) (old new : CursorView) (p q : PassView Entry) (marks more : List ℕ) : Type 0 where
  pub book : List Entry
  pub looked : Looked book p q marks more
  pub updates : us ≡ left_past (of_path book old.path) old.from old.passed
  pub cursor : new ≡ record old { passed = length (of_path book old.path) }
  pub fits : IsFit book new

-- a turn gave nothing: the hall gives no more turns; or there was no memory, before the turn or in it
abbrev pub TookNothing : NoReply → PassView Entry → PassView Entry → List ℕ → List ℕ → Type 0
TookNothing no.Worn p q marks more = Stayed p q marks more × (9223372036854775808 ≤ q.look)
TookNothing no.Memory p q marks more = Stayed p q marks more ⊎ ((book : List Entry) × Looked book p q marks more)

-- a request is a subscription that is served: its head is spelled, with what is there behind it, as one turn found it
pub record BegunBy (s : Serving) (q : Request) (opening : Opening) (p r : PassView Entry) (marks more : List ℕ) : Type 0 where
  pub from : List (List ℕ)
  pub means : Means s q (wanted (Watch from))
  pub book : List Entry
  pub looked : Looked book p r marks more
  pub head : opening.head ≡ subscription_head book q.target
  pub stands : StandsBehind book q.target from opening.updates opening.cursor

-- What one answer of the bell led to: an Again, one turn, and all that it gave; or the end of the subscription, at which a write
-- failed, or the hall gives no more turns, or there was no memory, or the bell ended and the last chunk was written.
abbrev pub GoesOn : Option SessionEnd → CursorView → CursorView → PassView Entry → PassView Entry → List ℕ → List ℕ → Ringing → Ringing → Outflow → Outflow → Type 0
GoesOn None old new p q marks more bell rung before after =
    Waits Again bell rung × (us : List UpdateView) × TookFurther us old new p q marks more × WritesAll (chunks_or_beat us) before after
GoesOn (Some Closed) old new p q marks more bell rung before after = ⊥
GoesOn (Some Stopped) old new p q marks more bell rung before after =
    Waits End bell rung × (q ≡ p) × (more ≡ marks) × WritesAll the_last_chunk before after
GoesOn (Some Spent) old new p q marks more bell rung before after = ⊥
GoesOn (Some (Refused status)) old new p q marks more bell rung before after = ⊥
GoesOn (Some Torn) old new p q marks more bell rung before after = ⊥
GoesOn (Some ReadFault) old new p q marks more bell rung before after = ⊥
GoesOn (Some WriteFault) old new p q marks more bell rung before after =
    (Waits Again bell rung × (us : List UpdateView) × TookFurther us old new p q marks more × WritesPart (chunks_or_beat us) before after)
    ⊎ (Waits End bell rung × (q ≡ p) × (more ≡ marks) × WritesPart the_last_chunk before after)
GoesOn (Some Worn) old new p q marks more bell rung before after =
    Waits Again bell rung × TookNothing no.Worn p q marks more × (after ≡ before)
GoesOn (Some Memory) old new p q marks more bell rung before after =
    Waits Again bell rung × TookNothing no.Memory p q marks more × (after ≡ before)

-- A pass went through the further turns of a subscription, which heard so many Agains.
pub record WentOn (p q : PassView Entry) (marks more later : List ℕ) (again : ℕ) (bell rung : Ringing) : Type 0 where
  pub passed : Passed p q later []
  pub noted : more ≡ marks ++ later
  pub rings : IsHeard again 0 bell rung

-- what a subscription writes behind its head, for its further marks, where us was sent for the first
abbrev pub text_behind : List Entry → List ℕ → List (List ℕ) → List UpdateView → List ℕ → List ℕ
text_behind book path from us later = chunks us ++ further book path from (length us) later

-- What a subscription did behind its head, from the turn for which us was sent, by how it ended.
abbrev pub WatchesOn : SessionEnd → List ℕ → List (List ℕ) → List UpdateView → PassView Entry → PassView Entry → List ℕ → List ℕ → Ringing → Ringing → Outflow → Outflow → Type 0
WatchesOn Closed path from us p q marks more bell rung before after = ⊥
WatchesOn Stopped path from us p q marks more bell rung before after =
    (later : List ℕ) × (again : ℕ) × WentOn p q marks more later again bell rung × (length later ≡ again) × HasNone rung.answers
    × WritesAll (text_behind q.seen path from us later ++ last_chunk true) before after
WatchesOn Spent path from us p q marks more bell rung before after = ⊥
WatchesOn (Refused status) path from us p q marks more bell rung before after = ⊥
WatchesOn Torn path from us p q marks more bell rung before after = ⊥
WatchesOn ReadFault path from us p q marks more bell rung before after = ⊥
WatchesOn WriteFault path from us p q marks more bell rung before after =
    (later : List ℕ) × (again : ℕ) × WentOn p q marks more later again bell rung × (length later ≡ again)
    × (WritesPart (text_behind q.seen path from us later) before after
    ⊎ (HasNone rung.answers × BreaksOff (text_behind q.seen path from us later) (last_chunk true) before after))
WatchesOn Worn path from us p q marks more bell rung before after =
    (later : List ℕ) × (again : ℕ) × WentOn p q marks more later again bell rung × (length later + 1 ≡ again) × (9223372036854775808 ≤ q.look)
    × WritesAll (text_behind q.seen path from us later) before after
WatchesOn Memory path from us p q marks more bell rung before after =
    (later last : List ℕ) × (again : ℕ) × WentOn p q marks more (later ++ last) again bell rung × IsLastMark last × (length later + 1 ≡ again)
    × WritesAll (text_behind q.seen path from us later) before after
