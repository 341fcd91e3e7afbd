-- How the marks of answered requests stand in the history: in the order of the requests, each above what those before it added.
use Rattle.std.specs.Prelude.{◌≡◌, ℕ, ◌+◌, ◌≤◌, List, [], ◌∷◌, length, slice_get, Some}
use Rattle.braid_store.specs.declared.entry.Entry.{Entry}
use Rattle.braid_http.specs.declared.request.Request.{Request}
use Rattle.braid_session.specs.declared.serving.Serving.{Serving}
use Rattle.braid_session.specs.Sessions.{Placed, Course, goes_on, watched, Says, none, direct, turn, watches, SessionText, whole, unmarked, watching}
use Rattle.braid_session.specs.Pieces.{last_mark, NeverFall}

-- these entries stand in the history, the first at this place
abbrev pub StandAt : List Entry → ℕ → List Entry → Type 0
StandAt book n [] = Unit {0}
StandAt book n (e ∷ es) = (slice_get book n ≡ Some e) × StandAt book (n + 1) es

-- How the marks of requests that are answered stand in the history, from a lowest to a highest: none falls; what was added at a
-- mark is the entry at that place; and the next mark is above it. Those of a subscription never fall either.
abbrev pub AreInTurn : (s : Serving) (by : ℕ) (book : List Entry) (qs : List Request) (marks : List ℕ) (entries : List Placed) (text : List ℕ) (course : Course)
    → Says s by book qs marks entries text course → ℕ → ℕ → Type 0
AreInTurn s by book _ _ _ _ _ none low high = low ≤ high
AreInTurn s by book _ _ _ _ _ (direct q d qs marks entries text course means says) low high =
    AreInTurn s by book qs marks entries text course says low high
AreInTurn s by book _ _ _ _ _ (turn q wish n reply es qs marks entries text course means answers says) low high =
    (low ≤ n) × StandAt book n es × AreInTurn s by book qs marks entries text course says (n + length es) high
AreInTurn s by book _ _ _ _ _ (watches q from n marks stopped means held) low high =
    (low ≤ n) × NeverFall n marks × (last_mark n marks ≤ high)

-- the same of a session's text, whose marks suffice for its requests
abbrev pub IsInTurn : (s : Serving) (by : ℕ) (book : List Entry) (r marks text : List ℕ) (course : Course) → SessionText s by book r marks text course → ℕ → ℕ → Type 0
IsInTurn s by book r marks _ _ (whole text w) low high =
    AreInTurn s by book w.requests marks w.entries w.front goes_on w.answered.says low high
IsInTurn s by book r marks _ _ (unmarked text w) low high = ⊥
IsInTurn s by book r marks _ _ (watching text stopped w) low high =
    AreInTurn s by book w.requests marks w.entries text (watched stopped) w.answered.says low high

-- requests are answered so, and their marks stand so
pub record SaysInTurn (s : Serving) (by : ℕ) (book : List Entry) (qs : List Request) (marks : List ℕ) (entries : List Placed) (text : List ℕ) (course : Course) (low high : ℕ) : Type 0 where
  pub says : Says s by book qs marks entries text course
  pub in_turn : AreInTurn s by book qs marks entries text course says low high
