-- What one request does to the pass, the marks, the bell and the link, as the functions of a session see it.
use Rattle.std.specs.Prelude.{◌≡◌, ℕ, ◌<◌, ◌≤◌, ◌⊎◌, Bool, false, List, [], ◌∷◌, ◌++◌, length}
use Rattle.braid_io.specs.Outside.{Intake, Outflow, WritesAll, WritesPart}
use Rattle.braid_io.specs.Bells.{Ringing, Rings}
use Rattle.braid_hall.specs.Passes.{PassView}
use Rattle.braid_store.specs.declared.entry.Entry.{Entry}
use Rattle.braid_http.specs.declared.request.Request.{Request}
use Rattle.braid_http.specs.declared.reply.Reply.{Reply}
use Rattle.braid_http.specs.declared.refusal.Refusal.{Refusal}
use Rattle.braid_http.specs.declared.request.Asked.TheVariants.{End, Torn as TornAsked, ReadFault as ReadFailed}
use Rattle.braid_http.specs.Replies.{reply_text, refusal_status}
use Rattle.braid_http.specs.Requests.{asked, refused}
use Rattle.braid_http.specs.Asks.{WireView, Answers as Asking, Took, Asks}
use Rattle.braid_session.specs.declared.serving.Serving.{Serving}
use Rattle.braid_session.specs.declared.wish.Wish.{Wish}
use Rattle.braid_session.specs.declared.wish.Wish.TheVariants.{Read, Watch, Store}
use Rattle.braid_session.specs.declared.turn.NoReply.{NoReply}
use Rattle.braid_session.specs.declared.turn.NoReply.TheVariants as no
use Rattle.braid_session.specs.declared.session.SessionEnd.{SessionEnd}
use Rattle.braid_session.specs.declared.session.SessionEnd.TheVariants.{Closed, Stopped, Spent, Refused, Torn, ReadFault, WriteFault, Worn, Memory}
use Rattle.braid_session.specs.declared.serve.Outcome.{Outcome}
use Rattle.braid_session.specs.declared.serve.Outcome.TheVariants.{Spelled, Opened}
use Rattle.braid_session.specs.declared.serve.Next.{Next}
use Rattle.braid_session.specs.declared.serve.Next.TheVariants.{Answered, Subscribed, Ended}
use Rattle.braid_session.specs.Wishes.{Means, wanted}
use Rattle.braid_session.specs.Answers.{Answers, MayAdd}
use Rattle.braid_session.specs.Sessions.{Placed, placed_at, goes_on, Says, refusal_reply}
use Rattle.braid_session.specs.Ends.{Passed, Rung}
use Rattle.braid_session.specs.Watches.{IsHeard, EndsWatch}
use Rattle.braid_session.specs.WatchSteps.{BegunBy}

-- a wish that one reply answers
abbrev pub IsAtOnce : Wish → Type 0
IsAtOnce (Read at) = Unit {0}
IsAtOnce (Watch from) = ⊥
IsAtOnce (Store update) = Unit {0}

-- the book answered a wish, and gained what it says
pub record IsAnswered (old : List Entry) (by : ℕ) (path : List ℕ) (wish : Wish) (reply : Reply) (new : List Entry) : Type 0 where
  pub entries : List Entry
  pub answers : Answers old by path wish reply entries
  pub grew : new ≡ old ++ entries

-- there was no memory: the book gained what a reply would have told, or nothing
pub record IsLacking (old : List Entry) (by : ℕ) (path : List ℕ) (wish : Wish) (new : List Entry) : Type 0 where
  pub entries : List Entry
  pub added : MayAdd old by path wish entries
  pub grew : new ≡ old ++ entries

-- the bell was rung once where a book that had so many entries has more, and else nothing was done with it
abbrev pub RungWhereGrew : ℕ → ℕ → Ringing → Ringing → Type 0
RungWhereGrew before after bell rung = ((before < after) × Rings bell rung) ⊎ ((after ≤ before) × (rung ≡ bell))

-- one turn was taken and found this book, and these entries were added and rung for
pub record Turned (book : List Entry) (es : List Entry) (p q : PassView Entry) (marks more : List ℕ) (bell rung : Ringing) : Type 0 where
  pub passed : Passed p q (length book ∷ []) (placed_at (length book) es)
  pub seen : q.seen ≡ book ++ es
  pub noted : more ≡ marks ++ length book ∷ []
  pub rings : Rung (length es) bell rung

-- a turn was taken, and the wish was answered
pub record TookTurn (path : List ℕ) (wish : Wish) (reply : Reply) (p q : PassView Entry) (marks more : List ℕ) (bell rung : Ringing) : Type 0 where
  pub book : List Entry
  pub entries : List Entry
  pub turned : Turned book entries p q marks more bell rung
  pub answers : Answers book p.number path wish reply entries

-- no turn was taken
pub record Idled (p q : PassView Entry) (marks more : List ℕ) (bell rung : Ringing) : Type 0 where
  pub passed : Passed p q [] []
  pub seen : q.seen ≡ p.seen
  pub noted : more ≡ marks
  pub rings : rung ≡ bell

-- a turn was taken, and there was no memory for the answer
pub record TurnedInVain (path : List ℕ) (wish : Wish) (p q : PassView Entry) (marks more : List ℕ) (bell rung : Ringing) : Type 0 where
  pub book : List Entry
  pub entries : List Entry
  pub turned : Turned book entries p q marks more bell rung
  pub added : MayAdd book p.number path wish entries

-- there is no reply: the hall gives no more turns, or there was no memory, before the turn or in it
abbrev pub TookNone : NoReply → List ℕ → Wish → PassView Entry → PassView Entry → List ℕ → List ℕ → Ringing → Ringing → Type 0
TookNone no.Worn path wish p q marks more bell rung = Idled p q marks more bell rung × (9223372036854775808 ≤ q.look)
TookNone no.Memory path wish p q marks more bell rung = Idled p q marks more bell rung ⊎ TurnedInVain path wish p q marks more bell rung

-- what a session holds and is told of: its wire, its marks, its pass, and the two sides of its link and its bell
pub record State : Type 0 where
  pub wire : WireView
  pub marks : List ℕ
  pub pass : PassView Entry
  pub intake : Intake
  pub outflow : Outflow
  pub ringing : Ringing

-- one request was answered by this text, of which nothing need be written yet
pub record RepliedBy (s : Serving) (q : Request) (text : List ℕ) (p r : PassView Entry) (marks more : List ℕ) (bell rung : Ringing) : Type 0 where
  pub new_marks : List ℕ
  pub entries : List Placed
  pub says : Says s p.number r.seen (q ∷ []) new_marks entries text goes_on
  pub passed : Passed p r new_marks entries
  pub noted : more ≡ marks ++ new_marks
  pub rings : Rung (length entries) bell rung

-- one request was not answered: it needs a turn, and the hall gives none; or there was no memory, before its turn or in it
abbrev pub NotReplied : Serving → NoReply → Request → PassView Entry → PassView Entry → List ℕ → List ℕ → Ringing → Ringing → Type 0
NotReplied s no.Worn q p r marks more bell rung =
    (wish : Wish) × Means s q (wanted wish) × Idled p r marks more bell rung × (9223372036854775808 ≤ r.look)
NotReplied s no.Memory q p r marks more bell rung =
    Idled p r marks more bell rung ⊎ ((wish : Wish) × Means s q (wanted wish) × TurnedInVain q.target wish p r marks more bell rung)

-- A request is a subscription that was served, and ended so: with these marks, and what was heard of the bell; whether its head
-- was written whole.
pub record EndsIn (s : Serving) (end : SessionEnd) (begun : Bool) (q : Request) (p r : PassView Entry) (marks more : List ℕ) (bell rung : Ringing) (before after : Outflow) : Type 0 where
  pub new_marks : List ℕ
  pub again : ℕ
  pub passed : Passed p r new_marks []
  pub noted : more ≡ marks ++ new_marks
  pub rings : IsHeard again 0 bell rung
  pub ends : EndsWatch end s p.number r.seen r.look q new_marks (record { agains = again; left = rung.answers }) begun before after

-- what a request is answered with: a reply, as it is spelled; or the opening of a subscription that is served
abbrev pub GivesOutcome : Serving → Outcome → Request → PassView Entry → PassView Entry → List ℕ → List ℕ → Ringing → Ringing → Type 0
GivesOutcome s (Spelled text) q p r marks more bell rung = RepliedBy s q text p r marks more bell rung
GivesOutcome s (Opened opening) q p r marks more bell rung = BegunBy s q opening p r marks more × (rung ≡ bell)

-- the same, of what a session holds
abbrev pub Replied : Serving → Request → List ℕ → State → State → Type 0
Replied s q text old new = RepliedBy s q text old.pass new.pass old.marks new.marks old.ringing new.ringing

-- What a whole request led to: its reply was written whole, or a part of it; it was a subscription that was served; or there
-- was no reply.
abbrev pub AnswersTo : Serving → Next → Request → PassView Entry → PassView Entry → List ℕ → List ℕ → Ringing → Ringing → Outflow → Outflow → Type 0
AnswersTo s (Answered close) q p r marks more bell rung before after =
    (text : List ℕ) × RepliedBy s q text p r marks more bell rung × (q.close ≡ close) × WritesAll text before after
AnswersTo s (Subscribed end begun) q p r marks more bell rung before after = EndsIn s end begun q p r marks more bell rung before after
AnswersTo s (Ended Closed) q p r marks more bell rung before after = ⊥
AnswersTo s (Ended Stopped) q p r marks more bell rung before after = ⊥
AnswersTo s (Ended Spent) q p r marks more bell rung before after = ⊥
AnswersTo s (Ended (Refused status)) q p r marks more bell rung before after = ⊥
AnswersTo s (Ended Torn) q p r marks more bell rung before after = ⊥
AnswersTo s (Ended ReadFault) q p r marks more bell rung before after = ⊥
AnswersTo s (Ended WriteFault) q p r marks more bell rung before after =
    (text : List ℕ) × RepliedBy s q text p r marks more bell rung × WritesPart text before after
AnswersTo s (Ended Worn) q p r marks more bell rung before after = NotReplied s no.Worn q p r marks more bell rung × (after ≡ before)
AnswersTo s (Ended Memory) q p r marks more bell rung before after = NotReplied s no.Memory q p r marks more bell rung × (after ≡ before)

-- What bytes that are no request led to: the refusal's reply was written whole, or a part of it; or there was none.
abbrev pub AnswersRefusal : Next → Refusal → Outflow → Outflow → Type 0
AnswersRefusal (Answered close) f before after = ⊥
AnswersRefusal (Subscribed end begun) f before after = ⊥
AnswersRefusal (Ended Closed) f before after = ⊥
AnswersRefusal (Ended Stopped) f before after = ⊥
AnswersRefusal (Ended Spent) f before after = ⊥
AnswersRefusal (Ended (Refused status)) f before after = (status ≡ refusal_status f) × WritesAll (reply_text false (refusal_reply f)) before after
AnswersRefusal (Ended Torn) f before after = ⊥
AnswersRefusal (Ended ReadFault) f before after = ⊥
AnswersRefusal (Ended WriteFault) f before after = WritesPart (reply_text false (refusal_reply f)) before after
AnswersRefusal (Ended Worn) f before after = ⊥
AnswersRefusal (Ended Memory) f before after = after ≡ before

-- what holds where a request was answered
abbrev pub IfAnswered : Next → Type 0 → Type 0
IfAnswered (Answered close) P = P
IfAnswered (Subscribed end begun) P = Unit {0}
IfAnswered (Ended end) P = Unit {0}

-- neither pass nor marks nor bell changed, nor what was written
pub record Quiet (old new : State) : Type 0 where
  pub idled : Idled old.pass new.pass old.marks new.marks old.ringing new.ringing
  pub outflow : new.outflow ≡ old.outflow

-- What one request led to, of a wire that may go on.
abbrev pub Does : Serving → Next → State → State → Type 0
Does s (Answered close) old new =
    (q : Request) × (text : List ℕ) × Asking (asked q) old.wire.held new.wire.held old.intake new.intake
    × Replied s q text old new × (q.close ≡ close) × WritesAll text old.outflow new.outflow
Does s (Subscribed end begun) old new =
    (q : Request) × Asking (asked q) old.wire.held new.wire.held old.intake new.intake
    × EndsIn s end begun q old.pass new.pass old.marks new.marks old.ringing new.ringing old.outflow new.outflow
Does s (Ended Closed) old new = Asks End old.wire.held new.wire.held old.intake new.intake × Quiet old new
Does s (Ended Stopped) old new = ⊥
Does s (Ended Spent) old new = ⊥
Does s (Ended (Refused status)) old new =
    (f : Refusal) × (rest : List ℕ) × Asking (refused f) old.wire.held rest old.intake new.intake
    × Idled old.pass new.pass old.marks new.marks old.ringing new.ringing
    × (status ≡ refusal_status f) × WritesAll (reply_text false (refusal_reply f)) old.outflow new.outflow
Does s (Ended Torn) old new = Asks TornAsked old.wire.held new.wire.held old.intake new.intake × Quiet old new
Does s (Ended ReadFault) old new = Asks ReadFailed old.wire.held new.wire.held old.intake new.intake × Quiet old new
Does s (Ended WriteFault) old new =
    ((q : Request) × (text : List ℕ) × Asking (asked q) old.wire.held new.wire.held old.intake new.intake
    × Replied s q text old new × WritesPart text old.outflow new.outflow)
    ⊎ ((f : Refusal) × (rest : List ℕ) × Asking (refused f) old.wire.held rest old.intake new.intake
    × Idled old.pass new.pass old.marks new.marks old.ringing new.ringing
    × WritesPart (reply_text false (refusal_reply f)) old.outflow new.outflow)
Does s (Ended Worn) old new =
    (q : Request) × (wish : Wish) × Asking (asked q) old.wire.held new.wire.held old.intake new.intake
    × Means s q (wanted wish) × Quiet old new × (9223372036854775808 ≤ new.pass.look)
Does s (Ended Memory) old new =
    (new.outflow ≡ old.outflow)
    × (((all : List ℕ) × Took old.wire.held all old.intake new.intake × Idled old.pass new.pass old.marks new.marks old.ringing new.ringing)
    ⊎ ((q : Request) × (wish : Wish) × Asking (asked q) old.wire.held new.wire.held old.intake new.intake × Means s q (wanted wish)
    × TurnedInVain q.target wish old.pass new.pass old.marks new.marks old.ringing new.ringing))
