-- What a pass gains by a session, what was answered, and how each end comes about of a session that ends in no subscription.
use Rattle.std.specs.Prelude.{◌≡◌, ℕ, zero, suc, ◌+◌, ◌<◌, ◌≤◌, ◌⊎◌, true, false, List, [], ◌∷◌, ◌++◌, length, take, slice_get, Some}
use Rattle.std.specs.List.{AllByRecursion}
use Rattle.std.specs.Io.KnownBytes.{IsAtEnd}
use Rattle.braid_io.specs.Outside.{Intake, Outflow, WritesAll, WritesPart, next_count}
use Rattle.braid_io.specs.Bells.{Ringing}
use Rattle.braid_hall.specs.Histories.{IsPrefix}
use Rattle.braid_hall.specs.Passes.{PassView}
use Rattle.braid_store.specs.declared.entry.Entry.{Entry}
use Rattle.braid_http.specs.declared.request.Request.{Request}
use Rattle.braid_http.specs.declared.refusal.Refusal.{Refusal}
use Rattle.braid_http.specs.Replies.{reply_text, refusal_status}
use Rattle.braid_http.specs.Requests.{asked, IsDecided, IsOpen}
use Rattle.braid_http.specs.Cuts.{is_over, part, refusal, Stands}
use Rattle.braid_session.specs.declared.serving.Serving.{Serving}
use Rattle.braid_session.specs.declared.session.SessionEnd.{SessionEnd}
use Rattle.braid_session.specs.declared.session.SessionEnd.TheVariants.{Closed, Stopped, Spent, Refused, Torn, ReadFault, WriteFault, Worn, Memory}
use Rattle.braid_session.specs.Answers.{MayAdd}
use Rattle.braid_session.specs.Sessions.{Placed, placed_at, entries_of, goes_on, Says, NeedsTurn, refusal_reply}

-- each entry stands in the history at its place
abbrev pub ArePlaced : List Entry → List Placed → Type 0
ArePlaced seen entries = AllByRecursion (λ (p : Placed). slice_get seen p.0 ≡ Some p.1) entries

-- The marks are the lengths of a history that had n entries and gains just these: each is found at a turn, which adds an
-- entry or none.
pub data AreLengths : ℕ → List ℕ → List Placed → Type 0 where
  none : (n : ℕ) → AreLengths n [] []
  stayed : (n : ℕ) (marks : List ℕ) (entries : List Placed) → AreLengths n marks entries → AreLengths n (n ∷ marks) entries
  grew : (n : ℕ) (e : Entry) (marks : List ℕ) (entries : List Placed) → AreLengths (n + 1) marks entries → AreLengths n (n ∷ marks) ((n, e) ∷ entries)

-- no other pass added anything: the pass has seen what it had seen and its own entries
pub record IsAlone (p q : PassView Entry) (marks : List ℕ) (entries : List Placed) : Type 0 where
  pub seen : q.seen ≡ p.seen ++ entries_of entries
  pub lengths : AreLengths (length p.seen) marks entries

-- Marks and entries as turns find and add them, from a lowest to a highest length: no mark is below the one before it, and
-- one behind an entry is above that entry's.
pub data AreFound : ℕ → List ℕ → List Placed → ℕ → Type 0 where
  none_found : (low high : ℕ) → low ≤ high → AreFound low [] [] high
  passed_by : (low n high : ℕ) (marks : List ℕ) (entries : List Placed) → low ≤ n → AreFound n marks entries high → AreFound low (n ∷ marks) entries high
  added_to : (low n high : ℕ) (e : Entry) (marks : List ℕ) (entries : List Placed)
      → low ≤ n → AreFound (n + 1) marks entries high → AreFound low (n ∷ marks) ((n, e) ∷ entries) high

-- A pass went through a session: it gained these marks and, at their places, these entries, and no others. It is in no
-- turn, and its tickets grew by the marks, which are found one after the other. Where no other pass can have added anything, it is alone.
pub record Passed (p q : PassView Entry) (marks : List ℕ) (entries : List Placed) : Type 0 where
  pub hall : q.hall ≡ p.hall
  pub number : q.number ≡ p.number
  pub away : q.away ≡ p.away
  pub idle : q.held ≡ false
  pub made : q.made ≡ p.made
  pub ended : q.ended ≡ p.ended
  pub opened : q.opened ≡ p.opened
  pub opening : q.opening ≡ p.opening
  pub begins : IsPrefix p.seen q.seen
  pub alone : p.number ≡ 0 → p.away ≡ [] → IsAlone p q marks entries
  pub between : AreFound (length p.seen) marks entries (length q.seen)
  pub gained : q.marks ≡ p.marks ++ marks
  pub turns : q.turns ≡ p.turns + length marks
  pub mine : q.mine ≡ p.mine ++ entries_of entries
  pub placed : ArePlaced q.seen entries

-- a pass is in the same hall, with the same number and the same passes away, and in no turn
pub record KeepsPlace (p q : PassView Entry) : Type 0 where
  pub hall : q.hall ≡ p.hall
  pub number : q.number ≡ p.number
  pub away : q.away ≡ p.away
  pub idle : q.held ≡ false

-- a count that rose so many times
abbrev pub risen : ℕ → ℕ → ℕ
risen zero n = n
risen (suc k) n = next_count (risen k n)

-- a bell was rung so many times, and nothing else was done with it
abbrev pub Rung : ℕ → Ringing → Ringing → Type 0
Rung count old new = new ≡ record old { rings = risen count old.rings }

-- what was answered: the requests, what stands behind them, and the marks, the entries and the text of their answers
pub record Done : Type 0 where
  pub requests : List Request
  pub rest : List ℕ
  pub marks : List ℕ
  pub entries : List Placed
  pub text : List ℕ

-- another request may follow those that were answered
abbrev pub MayFollow : Done → Type 0
MayFollow d = is_over 0 false d.requests ≡ false

-- none may follow
abbrev pub NoneFollows : Done → Type 0
NoneFollows d = is_over 0 false d.requests ≡ true

-- the first bytes were written, and of the others some and not all
pub record BreaksOff (whole other : List ℕ) (before after : Outflow) : Type 0 where
  pub middle : Outflow
  pub first : WritesAll whole before middle
  pub then : WritesPart other middle after

-- The next request, which the bytes begin with, was answered by this text with these marks and entries.
pub record IsNext (s : Serving) (by : ℕ) (book : List Entry) (bytes marks : List ℕ) (entries : List Placed) (text : List ℕ) : Type 0 where
  pub request : Request
  pub rest : List ℕ
  pub decided : IsDecided (asked request) bytes rest
  pub says : Says s by book (request ∷ []) marks entries text goes_on

-- The next request found the book at this mark, and was not answered: it added what its reply would have told, or nothing.
pub record IsUnanswered (s : Serving) (by : ℕ) (book : List Entry) (bytes : List ℕ) (n : ℕ) (es : List Entry) : Type 0 where
  pub next : NeedsTurn s bytes
  pub added : MayAdd (take n book) by next.request.target next.wish es

-- exactly the marks and the entries of what was answered were gained
abbrev pub GainsThese : Done → List ℕ → List Placed → Type 0
GainsThese d marks entries = (marks ≡ d.marks) × (entries ≡ d.entries)

-- How each end comes about, where d was answered, by who has the number `by`, on a book; the number `look` is what was last
-- seen as the next ticket. With the marks and entries that were gained, what is told of the source at the end, and of the
-- sink before and after. Only a session that ends in a subscription is stopped.
abbrev pub Ends : SessionEnd → Serving → ℕ → List Entry → ℕ → Done → List ℕ → List Placed → Intake → Outflow → Outflow → Type 0
Ends Closed s by book look d marks entries intake before after =
    GainsThese d marks entries × WritesAll d.text before after
    × ((MayFollow d × (d.rest ≡ []) × IsAtEnd intake.left) ⊎ (NoneFollows d × (length d.requests < 10_000)))
Ends Stopped s by book look d marks entries intake before after = ⊥
Ends Spent s by book look d marks entries intake before after =
    GainsThese d marks entries × WritesAll d.text before after × NoneFollows d × (length d.requests ≡ 10_000)
Ends (Refused status) s by book look d marks entries intake before after =
    GainsThese d marks entries × MayFollow d
    × (f : Refusal) × Stands (refusal f) d.rest × (status ≡ refusal_status f) × WritesAll (d.text ++ reply_text false (refusal_reply f)) before after
Ends Torn s by book look d marks entries intake before after =
    GainsThese d marks entries × WritesAll d.text before after × MayFollow d × Stands part d.rest × IsAtEnd intake.left
Ends ReadFault s by book look d marks entries intake before after =
    GainsThese d marks entries × WritesAll d.text before after × MayFollow d × IsOpen d.rest
Ends WriteFault s by book look d marks entries intake before after =
    MayFollow d
    × (((ms : List ℕ) × (es : List Placed) × (reply : List ℕ) × IsNext s by book d.rest ms es reply
    × (marks ≡ d.marks ++ ms) × (entries ≡ d.entries ++ es) × BreaksOff d.text reply before after)
    ⊎ (GainsThese d marks entries × (f : Refusal) × Stands (refusal f) d.rest × BreaksOff d.text (reply_text false (refusal_reply f)) before after))
Ends Worn s by book look d marks entries intake before after =
    GainsThese d marks entries × WritesAll d.text before after × MayFollow d × NeedsTurn s d.rest × (9223372036854775808 ≤ look)
Ends Memory s by book look d marks entries intake before after =
    MayFollow d × WritesAll d.text before after
    × (GainsThese d marks entries
    ⊎ ((n : ℕ) × (es : List Entry) × IsUnanswered s by book d.rest n es × (marks ≡ d.marks ++ n ∷ []) × (entries ≡ d.entries ++ placed_at n es)))
