-- The text of a follow: what is said on its link, the lines that it prints, the replica that it leaves, and its end.
use Rattle.std.specs.Prelude.{◌≡◌, ◌⊎◌, ◌<◌, ℕ, List, [], ◌∷◌, ◌++◌, codes, length, Option}
use Rattle.braid_io.specs.Outside.{Outflow, WritesAll, WritesPart}
use Rattle.braid_io.specs.Dialers.{Talk, Dialing}
use Rattle.braid_ids.specs.Identifiers.{spelled_id}
use Rattle.braid_change.specs.Updates.{UpdateView}
use Rattle.braid_grammar.specs.Streams.{IsStream, IsTorn}
use Rattle.braid_stream.specs.Readers.{most_bytes}
use Rattle.braid_http.specs.declared.response.BodyKind.{BodyKind}
use Rattle.braid_outbox.specs.declared.learn.Learn.{Learn}
use Rattle.braid_outbox.specs.declared.learn.Learn.TheVariants as learns
use Rattle.braid_outbox.specs.Replicas.{ReplicaView}
use Rattle.braid_sync.specs.declared.place.Place.{Place}
use Rattle.braid_sync.specs.declared.end.SyncEnd.{SyncEnd}
use Rattle.braid_sync.specs.declared.end.SyncEnd.TheVariants as ends
use Rattle.braid_sync.specs.declared.following.Followed.{Followed}
use Rattle.braid_sync.specs.Talks.{Said, TellAll, Gains, FailedBy}
use Rattle.braid_sync.specs.Learning.{answer_to, learnt, Learns}
use Rattle.braid_sync.specs.Hearing.{Hears, IsOver, IsCutOff, EndsHearing, BeginWith, seen}
use Rattle.braid_sync.specs.Opening.{Opens, opened, ended}
use Rattle.braid_sync.specs.Syncs.{failing, IsTo}

-- the word of an answer that a line begins with; the others have no line
abbrev pub answer_word : Learn → List ℕ
answer_word learns.New = codes "New"
answer_word learns.Confirmed = codes "Confirmed"
answer_word learns.Known = codes "Known"
answer_word answer = []

-- the line on an update: the word of the answer, the identifier as a String, and LF
abbrev pub line_of : ReplicaView → UpdateView → List ℕ
line_of r u = answer_word (answer_to r u) ++ (codes " " ++ (spelled_id u.id ++ codes "\n"))

-- the lines on updates that are learnt one after the other
abbrev pub lines_of : ReplicaView → List UpdateView → List ℕ
lines_of r [] = []
lines_of r (u ∷ us) = line_of r u ++ lines_of (learnt r u) us

-- in a follow the body of a reply is cut where it is whole and its data ends within an update, or its source has ended before
abbrev pub IsCut : BodyKind → List ℕ → List ℕ → List ℕ → Option (List ℕ) → Type 0
IsCut kind content passed rest left = (IsOver kind content passed rest left × IsTorn content)
    ⊎ IsCutOff kind content passed rest left

-- the body is whole, and its data is these updates
pub record IsWholeStream (kind : BodyKind) (content passed rest : List ℕ) (left : Option (List ℕ))
    (us : List UpdateView) : Type 0 where
  pub over : IsOver kind content passed rest left
  pub stream : IsStream us content
  pub short : length content < most_bytes

-- an update was learnt behind these ones, and its line was not written whole; q is the replica before, and m behind
pub record IsUnprinted (us : List UpdateView) (content : List ℕ) (q m : ReplicaView) (line : List ℕ) : Type 0 where
  pub update : UpdateView
  pub begins : BeginWith (us ++ update ∷ []) (seen content)
  pub learns : Learns q (update ∷ []) m
  pub line_is : line ≡ line_of q update

-- The text of a follow of the replica r, of at most `count` updates: what is said, the lines written whole, their number, what
-- else was to be written and was not whole, the replica that it leaves, and its end. In the order of the rows: no link could
-- be dialled; there was no memory to dial; the subscription was not begun; so many updates were learnt; fewer were, and the
-- body is whole and its data is these; fewer were, and the reading ended otherwise; an update was learnt, and its line was not
-- written whole.
pub data FollowText (place : Place) (count : ℕ) (r : ReplicaView) : List Said → List ℕ → ℕ → List ℕ → ReplicaView
    → SyncEnd → Type 0 where
  unreached : FollowText place count r [] [] 0 [] r ends.DialFault
  unaided : FollowText place count r [] [] 0 [] r ends.Memory
  not_begun : (said : Said) (end : SyncEnd) → IsTo place said → Opens place r said (ended end)
      → FollowText place count r (said ∷ []) [] 0 [] r end
  counted : (said : Said) (kind : BodyKind) (V : List (List ℕ)) (behind passed rest content : List ℕ)
      (us : List UpdateView) (q : ReplicaView)
      → IsTo place said → Opens place r said (opened kind V behind) → Hears kind behind r passed rest content us q
      → length us ≡ count
      → FollowText place count r (said ∷ []) (lines_of r us) (length us) [] q ends.Done
  heard_out : (said : Said) (kind : BodyKind) (V : List (List ℕ)) (behind passed rest content : List ℕ)
      (us : List UpdateView) (q : ReplicaView)
      → IsTo place said → Opens place r said (opened kind V behind) → Hears kind behind r passed rest content us q
      → length us < count
      → IsWholeStream kind content passed rest said.left us
      → FollowText place count r (said ∷ []) (lines_of r us) (length us) [] q ends.Done
  broken_off : (said : Said) (kind : BodyKind) (V : List (List ℕ)) (behind passed rest content : List ℕ)
      (us : List UpdateView) (q : ReplicaView) (end : SyncEnd)
      → IsTo place said → Opens place r said (opened kind V behind) → Hears kind behind r passed rest content us q
      → length us < count
      → EndsHearing (IsCut kind content passed rest said.left) kind passed rest content us q end
      → FollowText place count r (said ∷ []) (lines_of r us) (length us) [] q end
  unprinted : (said : Said) (kind : BodyKind) (V : List (List ℕ)) (behind passed rest content line : List ℕ)
      (us : List UpdateView) (q m : ReplicaView)
      → IsTo place said → Opens place r said (opened kind V behind) → Hears kind behind r passed rest content us q
      → length us < count
      → IsUnprinted us content q m line
      → FollowText place count r (said ∷ []) (lines_of r us) (length us) line m ends.OutFault

-- the lines were written, and of the next one a front and not all; the sink's count of faults rose
pub record PrintsPart (lines line : List ℕ) (old new : Outflow) : Type 0 where
  pub between : Outflow
  pub before : WritesAll lines old between
  pub then_part : WritesPart line between new

-- what was written: the lines, and behind them a front of the line that was not written whole, where there is one
abbrev pub Prints : List ℕ → List ℕ → Outflow → Outflow → Type 0
Prints lines [] old new = WritesAll lines old new
Prints lines (byte ∷ line) old new = PrintsPart lines (byte ∷ line) old new

-- A follow over a dialer and a sink: the dialer gained these talks, which tell what was said; the call that the end names
-- failed, and no other; what was said is the text of the follow with these lines and this end, and the lines were written.
pub record Follows (place : Place) (count : ℕ) (r q : ReplicaView) (followed : Followed) (old new : Dialing)
    (out_old out_new : Outflow) : Type 0 where
  pub talks : List Talk
  pub saids : List Said
  pub lines : List ℕ
  pub line : List ℕ
  pub gains : Gains talks old new
  pub told : TellAll talks saids
  pub failed : FailedBy (failing followed.end) talks old new
  pub text : FollowText place count r saids lines followed.lines line q followed.end
  pub printed : Prints lines line out_old out_new
