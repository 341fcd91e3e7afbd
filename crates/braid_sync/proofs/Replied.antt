-- A reply that is read whole: its head, and then its body.
use Rattle.std.proofs.Common.{◌≡◌, ◌≢◌, ◌+◌, ◌-◌, ◌<◌, ◌≤◌, ℕ, List, [], ◌++◌, Option, Result, Ok, Err, length, take, refl, sym, subst, ◌∙◌, append_assoc, append-nil, length-append, inl, inr, arith}
use Rattle.std.proofs.lemmas.List.{length-take-le}
use Rattle.braid_io.specs.Outside.{Intake, Outflow}
use Rattle.braid_io.specs.declared.source.Read.TheVariants.{Got, End, Failed}
use Rattle.braid_stream.specs.Readers.{most_bytes}
use Rattle.braid_http.specs.declared.response.ReplyHead.{ReplyHead}
use Rattle.braid_http.specs.declared.response.BodyKind.{BodyKind}
use Rattle.braid_http.specs.declared.response.BodyKind.TheVariants.{Length, Chunked, ToClose}
use Rattle.braid_http.specs.declared.body.Body.{Body}
use Rattle.braid_http.specs.declared.body.BodyState.{BodyState}
use Rattle.braid_http.specs.declared.body.BodyState.TheVariants as states
use Rattle.braid_http.specs.Bodies.{IsBody, HasBegun}
use Rattle.braid_http.specs.BodyReads.{HasRead, Tells, IsOver as IsClosed, Stops, GoesOn as LivesOn, ReadsBody}
use Rattle.braid_http.specs.Responses.{replied, IsReplyDecided}
use Rattle.braid_http.proofs.BodyReading.{tells}
use Rattle.braid_sync.specs.declared.end.SyncEnd.{SyncEnd}
use Rattle.braid_sync.specs.declared.end.SyncEnd.TheVariants as ends
use Rattle.braid_sync.specs.Talks.{nothing_failed, read_failed}
use Rattle.braid_sync.specs.Hearing.{IsCutOff}
use Rattle.braid_sync.specs.Posting.{IsWithin, HasHead, IsReply, EndsReply}
use Rattle.braid_sync.specs.Syncs.{failing}
use Rattle.braid_sync.specs.Steps.{Does, ReadsReply, failing_in}
use Rattle.braid_sync.specs.Links.{EndsAs, PassesBody}
use Rattle.braid_sync.proofs.Doing.{does_none, reads_then, gives, gives_and_fails}
use Rattle.braid_sync.proofs.Growing.{still_decided}
use Rattle.braid_sync.proofs.Opened.{HeadRead, EndsHeadOf}
use Rattle.braid_sync.proofs.Heard.{two_steps}
use Rattle.braid_sync.proofs.Refilling.{ended_at, whole_body, no_close}

-- one reply, as its contract says it
abbrev pub ReplyRead : Result ℕ SyncEnd → List ℕ → List ℕ → Intake → Intake → Outflow → Outflow → Type 0
ReplyRead result held kept i j o p = (given : List ℕ) × Does [] given (failing_in result) i j o p × ReadsReply result held given kept j.left

-- one body, as its contract says it
abbrev pub BodyPassed : Result (Unit {0}) SyncEnd → BodyKind → List ℕ → List ℕ → Intake → Intake → Outflow → Outflow → Type 0
BodyPassed result kind held kept i j o p = (given : List ℕ) × Does [] given (failing_in result) i j o p × PassesBody result kind (held ++ given) kept j.left

pub reply_as : (result : Result ℕ SyncEnd) (end : SyncEnd) (held kept : List ℕ) (i j : Intake) (o p : Outflow) → result ≡ Err end → ReplyRead (Err end) held kept i j o p → ReplyRead result held kept i j o p
reply_as result end held kept i j o p e h = subst (λ (x : Result ℕ SyncEnd). ReplyRead x held kept i j o p) (sym e) h

pub body_as : (result : Result (Unit {0}) SyncEnd) (kind known : BodyKind) (held kept : List ℕ) (i j : Intake) (o p : Outflow) → kind ≡ known → BodyPassed result kind held kept i j o p → BodyPassed result known held kept i j o p
body_as result kind known held kept i j o p e h = subst (λ (x : BodyKind). BodyPassed result x held kept i j o p) e h

-- no head came
head_ends : (end : SyncEnd) (server sent given : List ℕ) (j : Intake) → EndsHeadOf end server sent given j → EndsReply end given j.left × ((status : ℕ) → end ≢ ends.Peer status)
head_ends ends.Cut server sent given j h = (inl h, λ status e. cc)
head_ends (ends.BadHead f) server sent given j h = (inl h, λ status e. cc)
head_ends ends.ReadFault server sent given j h = (inl h, λ status e. cc)
head_ends end server sent given j h = absurd h

pub reply_headless : (end : SyncEnd) (held kept : List ℕ) (i j : Intake) (o p : Outflow) → HeadRead (Err end) held kept i j o p → ReplyRead (Err end) held kept i j o p
reply_headless end held kept i j o p h =
    (h.0, h.1, elim h.2 [ inl why ↦ inl (head_ends end [] [] (held ++ h.0) j (why [] [])) | inr none ↦ inr none ])

-- the head and what stands behind it, as more was given
head_stands : (head : ReplyHead) (held more given passed rest behind : List ℕ) → IsReplyDecided (replied head) (held ++ given) behind → behind ++ more ≡ passed ++ rest → HasHead head (held ++ (given ++ more)) passed rest
head_stands head held more given passed rest behind d e =
    record {
      behind = behind ++ more;
      decided = subst (λ (t : List ℕ). IsReplyDecided (replied head) t (behind ++ more)) (append_assoc held given more) (still_decided (replied head) (held ++ given) behind more d);
      split = e;
    }

body_ends : (end : SyncEnd) (head : ReplyHead) (held given more behind rest : List ℕ) (left : Option (List ℕ)) → IsReplyDecided (replied head) (held ++ given) behind → PassesBody (Err end) head.body (behind ++ more) rest left
    → EndsReply end (held ++ (given ++ more)) left × ((status : ℕ) → end ≢ ends.Peer status)
body_ends ends.Cut head held given more behind rest left d h =
    (inr (record { head = head; passed = h.1; rest = rest; content = h.0; has = head_stands head held more given h.1 rest behind d h.2; holds = (h.3, h.4) }), λ status e. cc)
body_ends (ends.BadHead f) head held given more behind rest left d h =
    (inr (h.3, record { head = head; passed = h.1; rest = rest; content = h.0; has = head_stands head held more given h.1 rest behind d h.2; holds = (h.4, h.5) }), λ status e. cc)
body_ends ends.ReadFault head held given more behind rest left d h =
    (inr (record { head = head; passed = h.1; rest = rest; content = h.0; has = head_stands head held more given h.1 rest behind d h.2; holds = (h.3, h.4, h.5) }), λ status e. cc)
body_ends ends.Spent head held given more behind rest left d h =
    (record { head = head; passed = h.1; rest = rest; content = h.0; has = head_stands head held more given h.1 rest behind d h.2; holds = (h.3, h.4) }, λ status e. cc)
body_ends end head held given more behind rest left d h = absurd h

pub reply_ended : (end : SyncEnd) (head : ReplyHead) (held behind kept : List ℕ) (i j k : Intake) (o p q : Outflow) → HeadRead (Ok head) held behind i j o p → BodyPassed (Err end) head.body behind kept j k p q → ReplyRead (Err end) held kept i k o q
reply_ended end head held behind kept i j k o p q h b =
    (h.0 ++ b.0, reads_then h.0 b.0 (failing end) i j k o p q h.1 b.1, inl (body_ends end head held h.0 b.0 behind kept k.left h.2 b.2))

pub reply_whole : (x : Unit {0}) (head : ReplyHead) (status : ℕ) (held behind kept : List ℕ) (i j k : Intake) (o p q : Outflow) → status ≡ head.status → HeadRead (Ok head) held behind i j o p → BodyPassed (Ok x) head.body behind kept j k p q
    → ReplyRead (Ok status) held kept i k o q
reply_whole x head status held behind kept i j k o p q s h b =
    let t = b.2 in
    let whole : IsReply status (held ++ (h.0 ++ b.0)) kept k.left = record {
      head = head;
      passed = t.1;
      content = t.0;
      has = head_stands head held b.0 h.0 t.1 kept behind h.2 t.2;
      status_is = s;
      over = t.3;
      within = t.4;
    } in
    (h.0 ++ b.0, reads_then h.0 b.0 nothing_failed i j k o p q h.1 b.1, whole)

-- The body, read by read.

-- some of a body was passed, within the limit
pub record Passing (body : Body) (kind : BodyKind) (held kept : List ℕ) (left : ℕ) (i j : Intake) (o p : Outflow) : Type 0 where
  pub given : List ℕ
  pub content : List ℕ
  pub passed : List ℕ
  pub does : Does [] given nothing_failed i j o p
  pub whole : held ++ given ≡ passed ++ kept
  pub read : HasRead body content passed
  pub live : LivesOn body.state body.kind
  pub count : length content + left ≡ most_bytes
  pub is_kind : body.kind ≡ kind

pub passing_none : (body : Body) (kind : BodyKind) (held : List ℕ) (left : ℕ) (i : Intake) (o : Outflow) → HasRead body [] [] → LivesOn body.state body.kind → left ≡ most_bytes → body.kind ≡ kind → Passing body kind held held left i i o o
passing_none body kind held left i o h l m k =
    record { given = []; content = []; passed = []; does = does_none i o; whole = append-nil held; read = h; live = l; count = omega (arith, m); is_kind = k }

-- a body that is not whole is open
is_open : (state : BodyState) (kind : BodyKind) → LivesOn state kind → state ≢ states.Done → state ≡ states.Open
is_open states.Open kind l n = refl
is_open states.Done kind l n = absurd (n refl)
is_open states.Torn kind l n = absurd l
is_open states.BadChunk kind l n = absurd l
is_open states.SourceFailed kind l n = absurd l

not_closed : (state : BodyState) → state ≡ states.Open → IsClosed state → ⊥
not_closed state e v = subst IsClosed e v

has_begun : (body : Body) (content b : List ℕ) → body.state ≡ states.Open → HasRead body content b → HasBegun body.kind content b
has_begun body content b e h =
    let t = tells body.state body.kind body.place body.line content b h in
    subst (λ (x : BodyState). Tells x body.kind content b) e t

within_length : (kind : BodyKind) (content : List ℕ) (n : ℕ) → kind ≡ Length n → length content ≤ most_bytes → IsWithin kind content
within_length kind content n e w = subst (λ (x : BodyKind). IsWithin x content) (sym e) w

within_less : (kind : BodyKind) (content : List ℕ) → length content < most_bytes → IsWithin kind content
within_less (Length n) content w = omega (arith, w)
within_less Chunked content w = w
within_less ToClose content w = w

-- the body is one of a length and whole
pub passed_done : (x : Unit {0}) (body : Body) (kind : BodyKind) (held kept : List ℕ) (left : ℕ) (i j : Intake) (o p : Outflow) → Passing body kind held kept left i j o p → body.state ≡ states.Done → BodyPassed (Ok x) kind held kept i j o p
passed_done x body kind held kept left i j o p h d =
    let l : (n : ℕ) × (body.kind ≡ Length n) = subst (λ (s : BodyState). LivesOn s body.kind) d h.live in
    let of : kind ≡ Length l.0 = sym h.is_kind ∙ l.1 in
    let is : IsBody kind h.content h.passed = subst (λ (k : BodyKind). IsBody k h.content h.passed) h.is_kind (whole_body body h.content h.passed d h.read) in
    let count = h.count in
    let few : length h.content ≤ most_bytes = omega arith in
    (h.given, h.does, (h.content, h.passed, h.whole, record { is = is; ended = λ k. absurd (no_close kind l.0 of k) }, within_length kind h.content l.0 of few))

-- the limit was read
pub passed_spent : (body : Body) (kind : BodyKind) (held kept : List ℕ) (left : ℕ) (i j : Intake) (o p : Outflow) → Passing body kind held kept left i j o p → body.state ≢ states.Done → left ≡ 0 → BodyPassed (Err ends.Spent) kind held kept i j o p
passed_spent body kind held kept left i j o p h n z =
    let open_now = is_open body.state body.kind h.live n in
    let count = h.count in
    let full : length h.content ≡ most_bytes = omega arith in
    (h.given, h.does, (h.content, h.passed, h.whole, subst (λ (k : BodyKind). HasBegun k h.content h.passed) h.is_kind (has_begun body h.content h.passed open_now h.read), full))

-- data came
pub passing_more : (old new : Body) (kind : BodyKind) (held before kept buf : List ℕ) (left n : ℕ) (i j k : Intake) (o p q : Outflow) → Passing old kind held before left i j o p → old.state ≢ states.Done → n ≤ length buf → n ≤ left
    → ((content b : List ℕ) → HasRead old content b → (IsClosed old.state → ⊥) → ReadsBody (Got n) buf new content b before kept j k) → new.kind ≡ old.kind → q ≡ p → Passing new kind held kept (left - n) i k o q
passing_more old new kind held before kept buf left n i j k o p q h d size few reads same e =
    let open_now = is_open old.state old.kind h.live d in
    let r = reads h.content h.passed h.read (not_closed old.state open_now) in
    record {
      given = h.given ++ r.1.got;
      content = h.content ++ take n buf;
      passed = h.passed ++ r.0;
      does = reads_then h.given r.1.got nothing_failed i j k o p q h.does (gives r.1.got j k p q r.1.moves e);
      whole = two_steps held h.given h.passed before r.1.got r.0 kept h.whole r.1.whole;
      read = r.2;
      live = r.3;
      count = let a = length-append h.content (take n buf) in let b = length-take-le n buf size in let c = h.count in omega (arith, a, b, c, few);
      is_kind = same ∙ h.is_kind;
    }

-- the body ended with a read
pub passed_end : (x : Unit {0}) (old new : Body) (kind : BodyKind) (held before kept buf : List ℕ) (left : ℕ) (i j k : Intake) (o p q : Outflow) → Passing old kind held before left i j o p → old.state ≢ states.Done → left ≢ 0
    → ((content b : List ℕ) → HasRead old content b → (IsClosed old.state → ⊥) → ReadsBody End buf new content b before kept j k) → new.kind ≡ old.kind → q ≡ p → BodyPassed (Ok x) kind held kept i k o q
passed_end x old new kind held before kept buf left i j k o p q h d some reads same e =
    let open_now = is_open old.state old.kind h.live d in
    let r = reads h.content h.passed h.read (not_closed old.state open_now) in
    let draws = r.2.0 in
    let is_kind : new.kind ≡ kind = same ∙ h.is_kind in
    let count = h.count in
    let short : length h.content < most_bytes = omega arith in
    let is : IsBody kind h.content (h.passed ++ r.0) = subst (λ (t : BodyKind). IsBody t h.content (h.passed ++ r.0)) is_kind (whole_body new h.content (h.passed ++ r.0) r.1 r.3) in (
      h.given ++ draws.got,
      reads_then h.given draws.got nothing_failed i j k o p q h.does (gives draws.got j k p q draws.moves e),
      (
        h.content,
        h.passed ++ r.0,
        two_steps held h.given h.passed before draws.got r.0 kept h.whole draws.whole,
        record { is = is; ended = λ c. let n = r.2.1 (is_kind ∙ c) in ended_at kept k.left n.0 n.1 },
        within_less kind h.content short,
      ),
    )

-- a read failed
failed_as : (state : BodyState) (end : SyncEnd) (kind : BodyKind) (held given passed content used before kept : List ℕ) (i j k : Intake) (o p q : Outflow) → Does [] given nothing_failed i j o p → held ++ given ≡ passed ++ before → length content < most_bytes
    → (state ≡ states.Done → ⊥) → Stops state kind used before kept j k → Tells state kind content (passed ++ used) → EndsAs end state → q ≡ p → BodyPassed (Err end) kind held kept i k o q
failed_as states.Open end kind held given passed content used before kept i j k o p q d w short n s t f e = absurd s
failed_as states.Done end kind held given passed content used before kept i j k o p q d w short n s t f e = absurd (n refl)
failed_as states.Torn end kind held given passed content used before kept i j k o p q d w short n s t f e =
    let draws = s.0.draws in
    let cut : IsCutOff kind content (passed ++ used) kept k.left = record { framed = s.1; begun = t; behind = s.0.none; ended = s.0.at_end } in
    subst (λ (x : SyncEnd). BodyPassed (Err x) kind held kept i k o q) (sym f)
    (given ++ draws.got, reads_then given draws.got nothing_failed i j k o p q d (gives draws.got j k p q draws.moves e), (content, passed ++ used, two_steps held given passed before draws.got used kept w draws.whole, cut, short))
failed_as states.BadChunk end kind held given passed content used before kept i j k o p q d w short n s t f e =
    subst (λ (x : SyncEnd). BodyPassed (Err x) kind held kept i k o q) (sym f)
    (given ++ s.got, reads_then given s.got nothing_failed i j k o p q d (gives s.got j k p q s.moves e), (content, passed ++ used, two_steps held given passed before s.got used kept w s.whole, refl, t, short))
failed_as states.SourceFailed end kind held given passed content used before kept i j k o p q d w short n s t f e =
    subst (λ (x : SyncEnd). BodyPassed (Err x) kind held kept i k o q) (sym f)
    (given ++ s.got, reads_then given s.got read_failed i j k o p q d (gives_and_fails s.got j k p q s.taken s.left s.never_falls s.rose e), (content, passed ++ used, two_steps held given passed before s.got used kept w s.whole, t, s.none, short))

pub passed_failed : (end : SyncEnd) (old new : Body) (kind : BodyKind) (held before kept buf : List ℕ) (left : ℕ) (i j k : Intake) (o p q : Outflow) → Passing old kind held before left i j o p → old.state ≢ states.Done → left ≢ 0
    → ((content b : List ℕ) → HasRead old content b → (IsClosed old.state → ⊥) → ReadsBody Failed buf new content b before kept j k) → new.kind ≡ old.kind → EndsAs end new.state → q ≡ p → BodyPassed (Err end) kind held kept i k o q
passed_failed end old new kind held before kept buf left i j k o p q h d some reads same ends_as e =
    let open_now = is_open old.state old.kind h.live d in
    let r = reads h.content h.passed h.read (not_closed old.state open_now) in
    let is_kind : new.kind ≡ kind = same ∙ h.is_kind in
    let count = h.count in
    let short : length h.content < most_bytes = omega arith in
    let stops : Stops new.state kind r.0 before kept j k = subst (λ (t : BodyKind). Stops new.state t r.0 before kept j k) is_kind r.2 in
    let told : Tells new.state kind h.content (h.passed ++ r.0) =
    subst (λ (t : BodyKind). Tells new.state t h.content (h.passed ++ r.0)) is_kind (tells new.state new.kind new.place new.line h.content (h.passed ++ r.0) r.3) in
    failed_as new.state end kind held h.given h.passed h.content r.0 before kept i j k o p q h.does h.whole short r.1 stops told ends_as e
