-- What holds of every sync and every follow, whatever the links give.
use Rattle.std.specs.Prelude.{◌≡◌, ◌≢◌, ◌⊎◌, ◌<◌, ◌≤◌, ◌-◌, ◌^◌, ℕ, List, [], ◌∷◌, ◌++◌, length, false, IsSome, Some, Ok}
use Rattle.std.specs.List.{AllByRecursion}
use Rattle.braid_change.specs.Updates.{UpdateView}
use Rattle.braid_grammar.specs.Streams.{IsStream}
use Rattle.braid_stream.specs.Readers.{most_bytes}
use Rattle.braid_http.specs.declared.response.ReplyHead.{ReplyHead}
use Rattle.braid_http.specs.declared.response.BodyKind.TheVariants.{ToClose}
use Rattle.braid_http.specs.declared.reply.Reply.TheVariants.{Subscription}
use Rattle.braid_http.specs.Bodies.{IsBody, IsChunkedBody}
use Rattle.braid_http.specs.Responses.{replied, IsReplyDecided}
use Rattle.braid_http.specs.Replies.{reply_text}
use Rattle.braid_io.specs.Outside.{Rose, Outflow}
use Rattle.braid_io.specs.Dialers.{Talk, Dialing}
use Rattle.braid_ids.specs.Identifiers.{IsIdentifier}
use Rattle.braid_ids.specs.Frontiers.{rising_ids}
use Rattle.braid_outbox.specs.Replicas.{ReplicaView, IsSound}
use Rattle.braid_outbox.specs.Laws.{LosesNone}
use Rattle.braid_sync.specs.declared.place.Place.{Place}
use Rattle.braid_sync.specs.declared.end.SyncEnd.{SyncEnd}
use Rattle.braid_sync.specs.declared.end.SyncEnd.TheVariants as ends
use Rattle.braid_sync.specs.Talks.{Said, offered, Failing, nothing_failed, dial_failed, read_failed, write_failed, print_failed, Gains, FailedBy}
use Rattle.braid_sync.specs.Judging.{judge}
use Rattle.braid_sync.specs.Learning.{Learns}
use Rattle.braid_sync.specs.Syncs.{SyncText, failing}
use Rattle.braid_sync.specs.declared.following.Followed.{Followed}
use Rattle.braid_sync.specs.Follows.{FollowText, Follows}

-- a link tells what it had left
abbrev pub IsTold : Said → Type 0
IsTold said = IsSome said.left

-- Where a read or a write failed, what was sent tells at which of them.
abbrev pub IsFixed : Failing → Said → Said → Type 0
IsFixed nothing_failed said other = Unit {0}
IsFixed dial_failed said other = Unit {0}
IsFixed read_failed said other = said.sent ≡ other.sent
IsFixed write_failed said other = said.sent ≡ other.sent
IsFixed print_failed said other = Unit {0}

-- on two links to one server the same was given and the same is left; where a read or a write failed, the same was sent
pub record AreAlike (failed : Failing) (said other : Said) : Type 0 where
  pub server : said.server ≡ other.server
  pub given : said.given ≡ other.given
  pub left : said.left ≡ other.left
  pub fixed : IsFixed failed said other

-- this is true of each of the links, in order
abbrev pub AllAlike : Failing → List Said → List Said → Type 0
AllAlike failed [] [] = Unit {0}
AllAlike failed [] (other ∷ others) = ⊥
AllAlike failed (said ∷ saids) [] = ⊥
AllAlike failed (said ∷ saids) (other ∷ others) = AreAlike failed said other × AllAlike failed saids others

-- What was given, on links that tell what they have left, and which call failed decide what a sync sends, its end and
-- the replica, but for want of memory.
abbrev pub OneSync : Type 0
OneSync =
    (place : Place) (r q m : ReplicaView) (saids others : List Said) (end stop : SyncEnd)
    → AllAlike (failing end) saids others → AllByRecursion IsTold saids
    → SyncText place r saids q end → SyncText place r others m stop → failing end ≡ failing stop
    → end ≢ ends.Memory → stop ≢ ends.Memory → (saids ≡ others) × (q ≡ m) × (end ≡ stop)

-- The same of a follow, with the lines. Where a line could not be printed, their number tells which.
abbrev pub OneFollow : Type 0
OneFollow =
    (place : Place) (count : ℕ) (r q m : ReplicaView) (saids others : List Said) (lines texts line text : List ℕ)
    (n k : ℕ) (end stop : SyncEnd)
    → AllAlike (failing end) saids others → AllByRecursion IsTold saids
    → FollowText place count r saids lines n line q end → FollowText place count r others texts k text m stop
    → failing end ≡ failing stop → (end ≡ ends.OutFault → n ≡ k) → end ≢ ends.Memory → stop ≢ ends.Memory
    → (saids ≡ others) × (q ≡ m) × (end ≡ stop) × (lines ≡ texts) × (n ≡ k) × (line ≡ text)

-- a replica goes on from another: it is sound, has the same agent, and holds each update that the other held
pub record GoesOnFrom (r q : ReplicaView) : Type 0 where
  pub sound : IsSound q
  pub agent : q.agent ≡ r.agent
  pub kept : LosesNone r q

-- Whatever is given, the replica of a sync stays sound and loses no update.
abbrev pub SyncIsSound : Type 0
SyncIsSound =
    (place : Place) (r q : ReplicaView) (saids : List Said) (end : SyncEnd)
    → IsSound r → SyncText place r saids q end → GoesOnFrom r q

-- Whatever is given, the replica of a follow stays sound and loses no update.
abbrev pub FollowIsSound : Type 0
FollowIsSound =
    (place : Place) (count : ℕ) (r q : ReplicaView) (saids : List Said) (lines line : List ℕ) (n : ℕ) (end : SyncEnd)
    → IsSound r → FollowText place count r saids lines n line q end → GoesOnFrom r q

-- The bytes are the whole reply of a subscription and more: a head that names this version as the current one, and
-- behind it a whole body, which does not end with the connection and stays below the limit of a stream, whose data is
-- these updates.
pub record IsSubscriptionOf (V : List (List ℕ)) (us : List UpdateView) (bytes : List ℕ) : Type 0 where
  pub head : ReplyHead
  pub body : List ℕ
  pub content : List ℕ
  pub more : List ℕ
  pub decided : IsReplyDecided (replied head) bytes (body ++ more)
  pub judged : judge head ≡ Ok V
  pub is : IsBody head.body content body
  pub framed : head.body ≢ ToClose
  pub stream : IsStream us content
  pub short : length content < most_bytes

-- Where all that a link had to give is the whole reply of a subscription, none of whose updates is refused, a follow in
-- which no call of the outside failed is done, or there was no memory.
abbrev pub FollowCompletes : Type 0
FollowCompletes =
    (place : Place) (count : ℕ) (r q m : ReplicaView) (said : Said) (lines line : List ℕ) (n : ℕ) (end : SyncEnd)
    (V : List (List ℕ)) (us : List UpdateView)
    → FollowText place count r (said ∷ []) lines n line q end → IsSubscriptionOf V us (offered said) → Learns r us m
    → failing end ≡ nothing_failed → (end ≡ ends.Done) ⊎ (end ≡ ends.Memory)

-- a count that can rise
abbrev pub IsBelow : ℕ → Type 0
IsBelow n = n < 2 ^ 64 - 1

-- No call of the outside failed: the counts of a dialer and of a sink are as they were, and none stood at its type's
-- end.
pub record NoneFailed (old new : Dialing) (out_old out_new : Outflow) : Type 0 where
  pub dials : new.faults ≡ old.faults
  pub reads : new.link_read_faults ≡ old.link_read_faults
  pub writes : new.link_write_faults ≡ old.link_write_faults
  pub prints : out_new.faults ≡ out_old.faults
  pub below : IsBelow old.faults × IsBelow old.link_read_faults × IsBelow old.link_write_faults × IsBelow out_old.faults

-- A dialer gained one talk, which tells what the link gave and what it had left: these bytes in all.
pub record GainedOne (bytes : List ℕ) (old new : Dialing) : Type 0 where
  pub before : List Talk
  pub talk : Talk
  pub given : List ℕ
  pub left : List ℕ
  pub old_are : old.talks ≡ Some before
  pub new_are : new.talks ≡ Some (before ++ talk ∷ [])
  pub taken_is : talk.intake.taken ≡ Some given
  pub left_is : talk.intake.left ≡ Some left
  pub all_is : bytes ≡ given ++ left

-- The same of a follow over a dialer: where its link had the whole reply of a subscription to give, none of whose
-- updates is refused, and no count of the outside rose, it is done, or there was no memory.
abbrev pub DialledCompletes : Type 0
DialledCompletes =
    (place : Place) (count : ℕ) (r q m : ReplicaView) (followed : Followed) (old new : Dialing)
    (out_old out_new : Outflow) (bytes : List ℕ) (V : List (List ℕ)) (us : List UpdateView)
    → Follows place count r q followed old new out_old out_new → GainedOne bytes old new
    → NoneFailed old new out_old out_new → IsSubscriptionOf V us bytes → Learns r us m
    → (followed.end ≡ ends.Done) ⊎ (followed.end ≡ ends.Memory)

-- The reply of a subscription as it is written is one: its head, which names a set of identifiers, and then chunks with
-- updates in them up to the last one.
abbrev pub WrittenIsWhole : Type 0
WrittenIsWhole =
    (V : List (List ℕ)) (body content : List ℕ) (us : List UpdateView) → AllByRecursion IsIdentifier V
    → IsChunkedBody content body → IsStream us content → length content < most_bytes
    → length (reply_text false (Subscription V)) ≤ 524_288
    → IsSubscriptionOf (rising_ids V) us (reply_text false (Subscription V) ++ body)

-- a count that its type holds stays as it was
abbrev pub Stays : ℕ → ℕ → Type 0
Stays old new = old ≤ 2 ^ 64 - 1 → new ≡ old

abbrev pub StayReads : Dialing → Dialing → Type 0
StayReads old new = Stays old.link_read_faults new.link_read_faults

abbrev pub StayWrites : Dialing → Dialing → Type 0
StayWrites old new = Stays old.link_write_faults new.link_write_faults

-- the count of the call that failed rose, and the others stay
abbrev pub RoseBy : Failing → Dialing → Dialing → Type 0
RoseBy nothing_failed old new = (new.faults ≡ old.faults) × StayReads old new × StayWrites old new
RoseBy dial_failed old new = Rose old.faults new.faults × StayReads old new × StayWrites old new
RoseBy read_failed old new =
    (new.faults ≡ old.faults) × Rose old.link_read_faults new.link_read_faults × StayWrites old new
RoseBy write_failed old new =
    (new.faults ≡ old.faults) × StayReads old new × Rose old.link_write_faults new.link_write_faults
RoseBy print_failed old new = (new.faults ≡ old.faults) × StayReads old new × StayWrites old new

-- Of a dialer that gained talks the count rose that belongs to the call that failed, and no other.
abbrev pub CountsRose : Type 0
CountsRose =
    (failed : Failing) (talks : List Talk) (old new : Dialing)
    → Gains talks old new → FailedBy failed talks old new → RoseBy failed old new
