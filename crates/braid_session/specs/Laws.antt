-- Laws of sessions.
use Rattle.std.specs.Prelude.{◌≡◌, ◌≢◌, ℕ, ◌+◌, ◌<◌, ◌≤◌, ◌↔◌, ◌⊎◌, true, false, List, [], ◌++◌, length}
use Rattle.std.specs.List.{AllByRecursion}
use Rattle.braid_io.specs.Outside.{Intake, Outflow, Rose, HasNone, WritesAll}
use Rattle.braid_io.specs.Bells.{Ringing}
use Rattle.std.specs.Io.KnownBytes.{append_known}
use Rattle.braid_hall.specs.Passes.{PassView}
use Rattle.braid_store.specs.declared.entry.Entry.{Entry}
use Rattle.braid_store.specs.Books.{IsLegalBook}
use Rattle.braid_http.specs.declared.request.Request.{Request}
use Rattle.braid_http.specs.Cuts.{Requests, Tail, nothing, unseen}
use Rattle.braid_session.specs.declared.serving.Serving.{Serving}
use Rattle.braid_session.specs.declared.session.SessionEnd.TheVariants.{Closed, Stopped, Spent, WriteFault, Worn, Memory}
use Rattle.braid_session.specs.declared.session.SessionNote.{SessionNote}
use Rattle.braid_session.specs.Sessions.{Placed, Course, goes_on, watched, Says, last_chunk, WholeText, UnmarkedText, WatchedText, SessionText}
use Rattle.braid_session.specs.Ends.{ArePlaced, Passed}
use Rattle.braid_session.specs.Watches.{BellUse, IsHeard}
use Rattle.braid_session.specs.Fits.{Fits}

-- an answer on a history stays one on each longer history, and so do the places of its entries
abbrev pub StaysAsItGrows : Type 0
StaysAsItGrows =
    (s : Serving) (by : ℕ) (book later : List Entry) (qs : List Request) (marks : List ℕ) (entries : List Placed) (text : List ℕ) (course : Course)
    → AllByRecursion (λ n. n ≤ length book) marks → Says s by book qs marks entries text course → Says s by (book ++ later) qs marks entries text course

-- and so is a session's text unchanged
abbrev pub TextStays : Type 0
TextStays =
    (s : Serving) (by : ℕ) (book later : List Entry) (r marks text : List ℕ) (course : Course)
    → AllByRecursion (λ n. n ≤ length book) marks → SessionText s by book r marks text course ↔ SessionText s by (book ++ later) r marks text course

abbrev pub PlacesStay : Type 0
PlacesStay = (book later : List Entry) (entries : List Placed) → ArePlaced book entries → ArePlaced (book ++ later) entries

-- what a pass gained in one session after another is what it gained in both, and so is what the bell answered and was rung
abbrev pub PassedBoth : Type 0
PassedBoth =
    (p q r : PassView Entry) (ms ns : List ℕ) (es fs : List Placed) → Passed p q ms es → Passed q r ns fs → Passed p r (ms ++ ns) (es ++ fs)

abbrev pub HeardBoth : Type 0
HeardBoth =
    (i j : ℕ) (es fs : List Placed) (a b c : Ringing) → IsHeard i (length es) a b → IsHeard j (length fs) b c → IsHeard (i + j) (length (es ++ fs)) a c

-- two texts go on alike: both with what follows the requests, or both end in a subscription, stopped or not
abbrev pub GoAlike : Course → Course → Type 0
GoAlike goes_on goes_on = Unit {0}
GoAlike goes_on (watched b) = ⊥
GoAlike (watched a) goes_on = ⊥
GoAlike (watched a) (watched b) = Unit {0}

-- a legal history, the bytes and the marks determine how the text goes on and, with whether a subscription was stopped,
-- the text
abbrev pub OneText : Type 0
OneText =
    (s : Serving) (by : ℕ) (book : List Entry) (r marks text other : List ℕ) (course end : Course)
    → IsLegalBook book → SessionText s by book r marks text course → SessionText s by book r marks other end
    → GoAlike course end × (course ≡ end → text ≡ other)

-- where no subscriptions are served, no text ends in one, so a legal history, the bytes and the marks determine the text
abbrev pub OneTextUnwatched : Type 0
OneTextUnwatched =
    (s : Serving) (by : ℕ) (book : List Entry) (r marks text other : List ℕ) (course end : Course) → s.subscriptions ≡ false
    → IsLegalBook book → SessionText s by book r marks text course → SessionText s by book r marks other end → text ≡ other

-- At each end but a failed write and want of memory the text was written, whole: that of all requests and of the tail; where
-- the session was stopped, up to the subscription's last chunk; where the hall gives no more turns, that of the requests before
-- one that needs one, or of a subscription's turns.
abbrev pub WroteAll : Type 0
WroteAll =
    (s : Serving) (note : SessionNote) (by : ℕ) (book : List Entry) (look : ℕ) (entries : List Placed) (heard : BellUse) (from to : Intake) (before after : Outflow)
    → (x : Fits s note by book look entries heard from to before after) → note.end ≢ WriteFault → note.end ≢ Memory
    → (text : List ℕ) × WritesAll text before after
    × (note.end ≢ Worn → note.end ≢ Stopped → WholeText s by book x.r note.marks.items text)
    × (note.end ≡ Stopped → WatchedText s by book x.r note.marks.items text true × HasNone heard.left)
    × (note.end ≡ Worn → UnmarkedText s by book x.r note.marks.items text ⊎ WatchedText s by book x.r note.marks.items text false)

-- the last chunk of a subscription that is told as not stopped, where its bell has no Again left
abbrev pub MayStop : Course → BellUse → List ℕ → Type 0
MayStop course heard last = (last ≡ []) ⊎ ((course ≡ watched false) × HasNone heard.left × (last ≡ last_chunk true))

-- At a failed write and at want of memory what was written is a front of the text, whichever it is; of a subscription
-- whose bell has ended, of the text with its last chunk.
abbrev pub WroteFront : Type 0
WroteFront =
    (s : Serving) (note : SessionNote) (by : ℕ) (book : List Entry) (look : ℕ) (entries : List Placed) (heard : BellUse) (from to : Intake) (before after : Outflow)
    → (x : Fits s note by book look entries heard from to before after) → IsLegalBook book → (note.end ≡ WriteFault) ⊎ (note.end ≡ Memory)
    → (text : List ℕ) (course : Course) → SessionText s by book x.r note.marks.items text course
    → (last front rest : List ℕ) × MayStop course heard last × (text ++ last ≡ front ++ rest) × (after.written ≡ append_known before.written front)

-- where no count rose, no look reached the bound and no byte is left behind the requests, or none that is looked at, the
-- session is closed, stopped or spent, or there was no memory
abbrev pub Completes : Type 0
Completes =
    (s : Serving) (note : SessionNote) (by : ℕ) (book : List Entry) (look : ℕ) (entries : List Placed) (heard : BellUse) (from to : Intake) (before after : Outflow)
    → (x : Fits s note by book look entries heard from to before after) (qs : List Request) (tail : Tail)
    → ¬ (Rose from.faults to.faults) → ¬ (Rose before.faults after.faults) → look < 9223372036854775808
    → (tail ≡ nothing) ⊎ (tail ≡ unseen) → Requests x.r qs tail
    → (note.end ≡ Closed) ⊎ ((note.end ≡ Stopped) ⊎ ((note.end ≡ Spent) ⊎ (note.end ≡ Memory)))

-- a session fits each longer history too, where none of its marks is above the length of the shorter one
abbrev pub FitsLonger : Type 0
FitsLonger =
    (s : Serving) (note : SessionNote) (by : ℕ) (book later : List Entry) (look : ℕ) (entries : List Placed) (heard : BellUse) (from to : Intake) (before after : Outflow)
    → AllByRecursion (λ n. n ≤ length book) note.marks.items
    → Fits s note by book look entries heard from to before after → Fits s note by (book ++ later) look entries heard from to before after
