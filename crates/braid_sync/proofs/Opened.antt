-- How a subscription is begun on a link, step by step.
use Rattle.std.proofs.Common.{◌≡◌, ℕ, Bool, true, false, cond, List, [], ◌++◌, Result, Ok, Err, refl, ap, sym, subst, append-nil, inl, inr}
use Rattle.braid_io.specs.Outside.{Intake, Outflow, WritesAll, WritesPart}
use Rattle.braid_http.specs.declared.response.ReplyHead.{ReplyHead}
use Rattle.braid_http.specs.declared.response.Replied.{Replied}
use Rattle.braid_http.specs.declared.response.Replied.TheVariants as replieds
use Rattle.braid_http.specs.Responses.{replied, refused, IsReplyDecided, IsReplyOpen}
use Rattle.braid_http.specs.Replying.{Replies}
use Rattle.braid_outbox.specs.Replicas.{ReplicaView}
use Rattle.braid_sync.specs.declared.place.Place.{Place}
use Rattle.braid_sync.specs.declared.end.SyncEnd.{SyncEnd}
use Rattle.braid_sync.specs.declared.end.SyncEnd.TheVariants as ends
use Rattle.braid_sync.specs.declared.opening.Subscription.{Subscription}
use Rattle.braid_sync.specs.Talks.{Failing, nothing_failed}
use Rattle.braid_sync.specs.Judging.{judge}
use Rattle.braid_sync.specs.Syncs.{failing}
use Rattle.braid_sync.specs.Opening.{subscription_text, EndsHead, Opens, opened, ended, unwritten, headless, turned_down, begun, unaided}
use Rattle.braid_sync.specs.Steps.{Does, ReadsHead, Judges, StreamsOn, failing_in, said_on}
use Rattle.braid_sync.specs.Links.{OpensOn}
use Rattle.braid_sync.proofs.Doing.{does_none, does_then, gives, gives_and_fails, writes, writes_part}

-- the end in a result
abbrev pub err_in : {A : Type 0} → Result A SyncEnd → SyncEnd
err_in (Ok x) = ends.Done
err_in (Err end) = end

-- the head of a reply

-- what an answer of a wire is to a client
abbrev pub head_of : Replied → Result ReplyHead SyncEnd
head_of (replieds.Head head) = Ok head
head_of (replieds.Refused f) = Err (ends.BadHead f)
head_of replieds.Torn = Err ends.Cut
head_of replieds.ReadFault = Err ends.ReadFault
head_of replieds.Memory = Err ends.Memory

abbrev pub HeadRead : Result ReplyHead SyncEnd → List ℕ → List ℕ → Intake → Intake → Outflow → Outflow → Type 0
HeadRead result held kept i j o p = (given : List ℕ) × Does [] given (failing_in result) i j o p × ReadsHead result held given kept j.left

pub head_read : (r : Replied) (held kept : List ℕ) (i j : Intake) (o p : Outflow) → Replies r held kept i j → p ≡ o → HeadRead (head_of r) held kept i j o p
head_read (replieds.Head head) held kept i j o p h e =
    (h.took.got, gives h.took.got i j o p h.took.moves e, subst (λ (t : List ℕ). IsReplyDecided (replied head) t kept) h.took.all_is h.decided)
head_read (replieds.Refused f) held kept i j o p h e =
    let a = h.1 in
    let decided : IsReplyDecided (refused f) (held ++ a.took.got) h.0 = subst (λ (t : List ℕ). IsReplyDecided (refused f) t h.0) a.took.all_is a.decided in
    (a.took.got, gives a.took.got i j o p a.took.moves e, inl (λ server sent. (h.0, decided)))
head_read replieds.Torn held kept i j o p h e =
    let still : IsReplyOpen (held ++ h.0.got) = subst IsReplyOpen h.0.all_is h.1 in
    (h.0.got, gives h.0.got i j o p h.0.moves e, inl (λ server sent. (still, h.2)))
head_read replieds.ReadFault held kept i j o p h e =
    let still : IsReplyOpen (held ++ h.0.got) = subst IsReplyOpen h.0.all_is h.1 in
    (h.0.got, gives_and_fails h.0.got i j o p h.0.taken h.0.left h.0.never_falls h.0.rose e, inl (λ server sent. still))
head_read replieds.Memory held kept i j o p h e = (h.got, gives h.got i j o p h.moves e, inr refl)

-- the judgement of a head

first_fails : (A : Type 0) (a b c d : Bool) (status : ℕ) (x : A) (end : SyncEnd)
    → cond a (Err (ends.Peer status)) (cond b (Err ends.OtherMergeType) (cond c (Err ends.NoCurrent) (cond d (Err ends.BadCurrent) (Ok x)))) ≡ Err end → failing end ≡ nothing_failed
first_fails A true b c d status x end e = let same : ends.Peer status ≡ end = cc in ap failing (sym same)
first_fails A false true c d status x end e = let same : ends.OtherMergeType ≡ end = cc in ap failing (sym same)
first_fails A false false true d status x end e = let same : ends.NoCurrent ≡ end = cc in ap failing (sym same)
first_fails A false false false true status x end e = let same : ends.BadCurrent ≡ end = cc in ap failing (sym same)
first_fails A false false false false status x end e = absurd (cc)

pub judge_fails : (head : ReplyHead) (end : SyncEnd) → judge head ≡ Err end → failing end ≡ nothing_failed
judge_fails head end e = first_fails _ _ _ _ _ head.status _ end e

-- the beginning of a subscription

abbrev pub IsOpened : Place → ReplicaView → Result Subscription SyncEnd → Intake → Intake → Outflow → Outflow → Type 0
IsOpened place r result i j o p = (sent : List ℕ) × (given : List ℕ) × Does sent given (failing_in result) i j o p × OpensOn place r (said_on place sent given j) result

pub opened_as : (place : Place) (r : ReplicaView) (result known : Result Subscription SyncEnd) (i j : Intake) (o p : Outflow) → result ≡ known → IsOpened place r known i j o p → IsOpened place r result i j o p
opened_as place r result known i j o p e h = subst (λ (x : Result Subscription SyncEnd). IsOpened place r x i j o p) (sym e) h

pub no_request : (place : Place) (r : ReplicaView) (i : Intake) (o : Outflow) → IsOpened place r (Err ends.Memory) i i o o
no_request place r i o = ([], [], does_none i o, unaided (subscription_text place r, refl))

pub request_unwritten : (place : Place) (r : ReplicaView) (i j : Intake) (o p : Outflow) → WritesPart (subscription_text place r) o p → j ≡ i → IsOpened place r (Err ends.WriteFault) i j o p
request_unwritten place r i j o p w e = (w.front, [], writes_part (subscription_text place r) i j o p w e, unwritten (w.rest, w.unfinished, w.whole) refl)

-- why no head came, of these bytes
abbrev pub EndsHeadOf : SyncEnd → List ℕ → List ℕ → List ℕ → Intake → Type 0
EndsHeadOf end server sent given j = EndsHead end (record { server = server; sent = sent; given = given; left = j.left })

-- what was written, and then bytes were given
pub sends_then : (s g : List ℕ) (f : Failing) (i j k : Intake) (o p q : Outflow) → WritesAll s o p → j ≡ i → Does [] g f j k p q → Does s g f i k o q
sends_then s g f i j k o p q w e d =
    subst (λ (t : List ℕ). Does t g f i k o q) (append-nil s) (does_then s [] [] g f i j k o p q (writes s i j o p w e) d)

pub no_head : (place : Place) (r : ReplicaView) (end : SyncEnd) (held kept : List ℕ) (i j k : Intake) (o p q : Outflow) → held ≡ [] → WritesAll (subscription_text place r) o p → j ≡ i → HeadRead (Err end) held kept j k p q
    → IsOpened place r (Err end) i k o q
no_head place r end held kept i j k o p q n w e h =
    let text = subscription_text place r in
    let said = said_on place text h.0 k in
    let opens : Opens place r said (ended end) =
    elim h.2 [
      | inl why ↦ headless end refl (subst (λ (t : List ℕ). EndsHeadOf end place.server text (t ++ h.0) k) n (why place.server text))
      | inr none ↦ subst (λ (x : SyncEnd). Opens place r said (ended x)) (sym none) (unaided ([], sym (append-nil text)))
    ] in
    (text, h.0, sends_then text h.0 (failing end) i j k o p q w e h.1, opens)

pub turned : (place : Place) (r : ReplicaView) (head : ReplyHead) (end : SyncEnd) (held kept : List ℕ) (i j k : Intake) (o p q : Outflow) → held ≡ [] → WritesAll (subscription_text place r) o p → j ≡ i → HeadRead (Ok head) held kept j k p q
    → Judges (Err end) (judge head) → IsOpened place r (Err end) i k o q
turned place r head end held kept i j k o p q n w e h judged =
    let text = subscription_text place r in
    let said = said_on place text h.0 k in
    let decided : IsReplyDecided (replied head) h.0 kept = subst (λ (t : List ℕ). IsReplyDecided (replied head) (t ++ h.0) kept) n h.2 in
    let quiet : nothing_failed ≡ failing end =
    elim judged [ inl why ↦ sym (judge_fails head end why) | inr none ↦ sym (ap failing none) ] in
    let opens : Opens place r said (ended end) =
    elim judged [
      | inl why ↦ turned_down head kept end refl decided why
      | inr none ↦ subst (λ (x : SyncEnd). Opens place r said (ended x)) (sym none) (unaided ([], sym (append-nil text)))
    ] in
    (text, h.0, subst (λ (f : Failing). Does text h.0 f i k o q) quiet (sends_then text h.0 nothing_failed i j k o p q w e h.1), opens)

pub opened_on : (place : Place) (r : ReplicaView) (head : ReplyHead) (s : Subscription) (held kept : List ℕ) (i j k : Intake) (o p q : Outflow) → held ≡ [] → WritesAll (subscription_text place r) o p → j ≡ i → HeadRead (Ok head) held kept j k p q
    → judge head ≡ Ok s.current → s.stream.body.kind ≡ head.body → s.stream.wire.held ≡ kept → StreamsOn s.stream.wire s.stream.body s.stream.reader s.stream.piece [] [] [] → IsOpened place r (Ok s) i k o q
opened_on place r head s held kept i j k o p q n w e h judged kind behind on =
    let text = subscription_text place r in
    let said = said_on place text h.0 k in
    let decided : IsReplyDecided (replied head) h.0 kept = subst (λ (t : List ℕ). IsReplyDecided (replied head) (t ++ h.0) kept) n h.2 in
    let opens : Opens place r said (opened head.body s.current kept) = begun head kept s.current refl decided judged in
    let there : Opens place r said (opened s.stream.body.kind s.current s.stream.wire.held) =
    subst (λ x. Opens place r said (opened x s.current s.stream.wire.held)) (sym kind) (subst (λ (t : List ℕ). Opens place r said (opened head.body s.current t)) (sym behind) opens) in
    (text, h.0, sends_then text h.0 nothing_failed i j k o p q w e h.1, (there, on))
