-- The text of a session: what it writes for the bytes that it read and the marks of its turns, on a history.
use Rattle.std.specs.Prelude.{◌≡◌, ℕ, Bool, true, false, List, [], ◌∷◌, ◌++◌, length, take, drop, map}
use Rattle.braid_change.specs.Updates.{UpdateView}
use Rattle.braid_fields.specs.Chunks.{beat, last_chunk as the_last_chunk}
use Rattle.braid_stream.specs.Chunked.{chunks}
use Rattle.braid_graph.specs.Entries.{HoldsAll}
use Rattle.braid_graph.specs.Frontiers.{frontier_of}
use Rattle.braid_text.specs.Histories.{graph_of}
use Rattle.braid_store.specs.declared.entry.Entry.{Entry}
use Rattle.braid_store.specs.Books.{of_path}
use Rattle.braid_store.specs.Cursors.{sent_of}
use Rattle.braid_http.specs.declared.request.Request.{Request}
use Rattle.braid_http.specs.declared.refusal.Refusal.{Refusal}
use Rattle.braid_http.specs.declared.reply.Reply.{Reply}
use Rattle.braid_http.specs.declared.reply.Reply.TheVariants.{Error, Subscription}
use Rattle.braid_http.specs.Replies.{reply_text, refusal_status, refusal_name}
use Rattle.braid_http.specs.Requests.{asked, IsDecided}
use Rattle.braid_http.specs.Cuts.{Cuts, is_over, Tail, nothing, part, refusal, unseen, TailIs}
use Rattle.braid_session.specs.declared.serving.Serving.{Serving}
use Rattle.braid_session.specs.declared.denial.Denial.{Denial}
use Rattle.braid_session.specs.declared.wish.Wish.{Wish}
use Rattle.braid_session.specs.declared.wish.Wish.TheVariants.{Watch}
use Rattle.braid_session.specs.Wishes.{Means, denied, wanted}
use Rattle.braid_session.specs.Answers.{Answers, denial_reply}

-- each update as one chunk, or a chunk of an empty line where there are none
abbrev pub chunks_or_beat : List UpdateView → List ℕ
chunks_or_beat [] = beat
chunks_or_beat (u ∷ us) = chunks (u ∷ us)

-- the last chunk, where the subscription was stopped
abbrev pub last_chunk : Bool → List ℕ
last_chunk true = the_last_chunk
last_chunk false = []

-- the head of a subscription, with the frontier of the path
abbrev pub subscription_head : List Entry → List ℕ → List ℕ
subscription_head book path = reply_text false (Subscription (frontier_of (graph_of (of_path book path))))

-- what the further marks of a subscription add, where so many updates were sent
abbrev pub further : List Entry → List ℕ → List (List ℕ) → ℕ → List ℕ → List ℕ
further book path from passed [] = []
further book path from passed (n ∷ marks) =
    chunks_or_beat (drop passed (sent_of book path from n)) ++ further book path from (length (sent_of book path from n)) marks

-- what a subscription is sent for its marks, of which n is the first
abbrev pub watch_text : List Entry → List ℕ → List (List ℕ) → ℕ → List ℕ → List ℕ
watch_text book path from n marks =
    subscription_head (take n book) path
    ++ chunks (sent_of book path from n)
    ++ further book path from (length (sent_of book path from n)) marks

-- how a text goes on: with what follows the requests; or it ends in a subscription, which was stopped or not
pub data Course : Type 0 where
  goes_on : Course
  watched : Bool → Course

-- an entry, and its place in the history
abbrev pub Placed : Type 0
Placed = ℕ × Entry

-- entries at a place
abbrev pub placed_at : ℕ → List Entry → List Placed
placed_at n es = map (λ (e : Entry). (n, e)) es

-- the entries alone
abbrev pub entries_of : List Placed → List Entry
entries_of ps = map (λ (p : Placed). p.1) ps

-- On a book, these requests of who has the number `by` take these marks, add these entries, each at its mark, and are
-- answered by this text. A request that is denied takes no mark. Any other takes the next one and is answered on the book
-- up to it. A subscription that begins at what is held is the last: it takes all marks.
pub data Says (s : Serving) (by : ℕ) (book : List Entry) : List Request → List ℕ → List Placed → List ℕ → Course → Type 0 where
  none : Says s by book [] [] [] [] goes_on
  direct : (q : Request) (d : Denial) (qs : List Request) (marks : List ℕ) (entries : List Placed) (text : List ℕ) (course : Course)
      → Means s q (denied d) → Says s by book qs marks entries text course
      → Says s by book (q ∷ qs) marks entries (reply_text q.close (denial_reply d) ++ text) course
  turn : (q : Request) (wish : Wish) (n : ℕ) (reply : Reply) (es : List Entry) (qs : List Request) (marks : List ℕ) (entries : List Placed) (text : List ℕ) (course : Course)
      → Means s q (wanted wish) → Answers (take n book) by q.target wish reply es → Says s by book qs marks entries text course
      → Says s by book (q ∷ qs) (n ∷ marks) (placed_at n es ++ entries) (reply_text q.close reply ++ text) course
  watches : (q : Request) (from : List (List ℕ)) (n : ℕ) (marks : List ℕ) (stopped : Bool)
      → Means s q (wanted (Watch from)) → HoldsAll (graph_of (of_path (take n book) q.target)) from
      → Says s by book (q ∷ []) (n ∷ marks) [] (watch_text book q.target from n marks ++ last_chunk stopped) (watched stopped)

-- the reply to bytes that are no request
abbrev pub refusal_reply : Refusal → Reply
refusal_reply f = Error (refusal_status f) (refusal_name f) true

-- what the tail of the bytes adds
abbrev pub tail_text : Tail → List ℕ
tail_text nothing = []
tail_text part = []
tail_text (refusal f) = reply_text false (refusal_reply f)
tail_text unseen = []

-- The bytes r begin with these requests, behind which `rest` stands, and they are answered so.
pub record Answered (s : Serving) (by : ℕ) (book : List Entry) (r : List ℕ) (qs : List Request) (rest marks : List ℕ) (entries : List Placed) (text : List ℕ) (course : Course) : Type 0 where
  pub cut : Cuts 0 false r qs rest
  pub says : Says s by book qs marks entries text course

-- The bytes begin with a request that is not denied, and so needs a turn.
pub record NeedsTurn (s : Serving) (bytes : List ℕ) : Type 0 where
  pub request : Request
  pub rest : List ℕ
  pub wish : Wish
  pub decided : IsDecided (asked request) bytes rest
  pub means : Means s request (wanted wish)

-- All requests are answered, and the tail where it is looked at.
pub record WholeText (s : Serving) (by : ℕ) (book : List Entry) (r marks text : List ℕ) : Type 0 where
  pub requests : List Request
  pub rest : List ℕ
  pub entries : List Placed
  pub front : List ℕ
  pub tail : Tail
  pub answered : Answered s by book r requests rest marks entries front goes_on
  pub tail_is : TailIs (is_over 0 false requests) tail rest
  pub spells : text ≡ front ++ tail_text tail

-- Those requests are answered that stand before one that needs a turn, for which no mark is left.
pub record UnmarkedText (s : Serving) (by : ℕ) (book : List Entry) (r marks text : List ℕ) : Type 0 where
  pub requests : List Request
  pub rest : List ℕ
  pub entries : List Placed
  pub answered : Answered s by book r requests rest marks entries text goes_on
  pub not_over : is_over 0 false requests ≡ false
  pub next : NeedsTurn s rest

-- Those requests are answered that stand up to a subscription, which was stopped or not.
pub record WatchedText (s : Serving) (by : ℕ) (book : List Entry) (r marks text : List ℕ) (stopped : Bool) : Type 0 where
  pub requests : List Request
  pub rest : List ℕ
  pub entries : List Placed
  pub answered : Answered s by book r requests rest marks entries text (watched stopped)

-- The text of a session for the bytes that it read and its marks.
pub data SessionText (s : Serving) (by : ℕ) (book : List Entry) (r marks : List ℕ) : List ℕ → Course → Type 0 where
  whole : (text : List ℕ) → WholeText s by book r marks text → SessionText s by book r marks text goes_on
  unmarked : (text : List ℕ) → UnmarkedText s by book r marks text → SessionText s by book r marks text goes_on
  watching : (text : List ℕ) (stopped : Bool) → WatchedText s by book r marks text stopped → SessionText s by book r marks text (watched stopped)
