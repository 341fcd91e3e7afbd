-- A subscription that is served: what it is answered with, and how each end of a session comes about that ends in one.
use Rattle.std.specs.Prelude.{◌≡◌, ℕ, ◌+◌, ◌≤◌, ◌⊎◌, Bool, true, false, List, [], ◌∷◌, ◌++◌, length, take, Option}
use Rattle.std.specs.Option.{option_map}
use Rattle.braid_io.specs.Outside.{Outflow, WritesAll, WritesPart, HasNone}
use Rattle.braid_io.specs.Bells.{Ringing}
use Rattle.braid_store.specs.declared.entry.Entry.{Entry}
use Rattle.braid_http.specs.declared.request.Request.{Request}
use Rattle.braid_http.specs.Requests.{asked, IsDecided}
use Rattle.braid_session.specs.declared.serving.Serving.{Serving}
use Rattle.braid_session.specs.declared.session.SessionEnd.{SessionEnd}
use Rattle.braid_session.specs.declared.session.SessionEnd.TheVariants.{Closed, Stopped, Spent, Refused, Torn, ReadFault, WriteFault, Worn, Memory}
use Rattle.braid_session.specs.Sessions.{Placed, watched, Says, subscription_head, last_chunk}
use Rattle.braid_session.specs.Ends.{Done, MayFollow, BreaksOff, risen}

-- so many more, where the number is told
abbrev pub more_by : ℕ → Option ℕ → Option ℕ
more_by k told = option_map (λ (n : ℕ). n + k) told

-- a bell answered so many Agains and was rung so many times, and nothing else was done with it
pub record IsHeard (again rung : ℕ) (old new : Ringing) : Type 0 where
  pub answers : old.answers ≡ more_by again new.answers
  pub agains : new.agains ≡ risen again old.agains
  pub rings : new.rings ≡ risen rung old.rings

-- what a session used of its bell: how many Agains, and how many are left then, where that is told
pub record BellUse : Type 0 where
  pub agains : ℕ
  pub left : Option ℕ

-- A request is a subscription that is served. It took these marks, the first with the request, and is answered by its head
-- and the text behind it, stopped or not.
pub record IsWatch (s : Serving) (by : ℕ) (book : List Entry) (q : Request) (marks head text : List ℕ) (stopped : Bool) : Type 0 where
  pub first : ℕ
  pub later : List ℕ
  pub marks_are : marks ≡ first ∷ later
  pub head_is : head ≡ subscription_head (take first book) q.target
  pub says : Says s by book (q ∷ []) marks [] (head ++ text) (watched stopped)

-- the mark of a turn behind which nothing was written, or none
abbrev pub IsLastMark : List ℕ → Type 0
IsLastMark ms = (ms ≡ []) ⊎ ((n : ℕ) × (ms ≡ n ∷ []))

-- How a subscription ends that is served, with all its marks; `begun` says whether its head was written whole.
-- Stopped: the bell ended, and all was written, the last chunk too. WriteFault: the head was written in part, before any
-- Again; or it was written whole, and what the turns say behind it in part; or that too, the bell ended, and the last chunk was
-- written in part. Worn: an Again was heard, and the hall gives no more turns; what the turns before say was written. Memory: the
-- same, where there was none for the turn, or in it. No other end is that of a subscription.
abbrev pub EndsWatch : SessionEnd → Serving → ℕ → List Entry → ℕ → Request → List ℕ → BellUse → Bool → Outflow → Outflow → Type 0
EndsWatch Closed s by book look q marks heard begun before after = ⊥
EndsWatch Stopped s by book look q marks heard begun before after =
    (head text : List ℕ) × IsWatch s by book q marks head text true × WritesAll (head ++ text) before after
    × (length marks ≡ heard.agains + 1) × HasNone heard.left × (begun ≡ true)
EndsWatch Spent s by book look q marks heard begun before after = ⊥
EndsWatch (Refused status) s by book look q marks heard begun before after = ⊥
EndsWatch Torn s by book look q marks heard begun before after = ⊥
EndsWatch ReadFault s by book look q marks heard begun before after = ⊥
EndsWatch WriteFault s by book look q marks heard begun before after =
    (head text : List ℕ) × IsWatch s by book q marks head text false × (length marks ≡ heard.agains + 1)
    × (((begun ≡ false) × (heard.agains ≡ 0) × WritesPart head before after)
    ⊎ (((begun ≡ true) × BreaksOff head text before after)
    ⊎ ((begun ≡ true) × HasNone heard.left × BreaksOff (head ++ text) (last_chunk true) before after)))
EndsWatch Worn s by book look q marks heard begun before after =
    (head text : List ℕ) × IsWatch s by book q marks head text false × WritesAll (head ++ text) before after
    × (length marks ≡ heard.agains) × (9223372036854775808 ≤ look) × (begun ≡ true)
EndsWatch Memory s by book look q marks heard begun before after =
    (ms last head text : List ℕ) × (marks ≡ ms ++ last) × IsLastMark last
    × IsWatch s by book q ms head text false × WritesAll (head ++ text) before after
    × (length ms ≡ heard.agains) × (begun ≡ true)

-- A session whose last request is a subscription that is served: those before it were answered, and it added nothing more.
pub record EndsWatching (end : SessionEnd) (s : Serving) (by : ℕ) (book : List Entry) (look : ℕ) (d : Done) (marks : List ℕ) (entries : List Placed) (heard : BellUse) (begun : Bool)
    (before after : Outflow) : Type 0 where
  pub follows : MayFollow d
  pub request : Request
  pub rest : List ℕ
  pub decided : IsDecided (asked request) d.rest rest
  pub taken : List ℕ
  pub marks_are : marks ≡ d.marks ++ taken
  pub entries_are : entries ≡ d.entries
  pub middle : Outflow
  pub wrote : WritesAll d.text before middle
  pub ends : EndsWatch end s by book look request taken heard begun middle after
