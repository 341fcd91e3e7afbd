-- What the next read of a body does to a stream of updates whose piece is used up.
use Rattle.std.proofs.Common.{◌≡◌, ◌≢◌, ◌≤◌, ◌<◌, ℕ, List, [], ◌++◌, Option, Some, None, refl, ap, sym, subst, ◌∙◌, append-nil, length, take, inl, inr, arith}
use Rattle.std.proofs.lemmas.List.{length-take-le}
use Rattle.std.specs.Io.KnownBytes.{IsAtEnd}
use Rattle.braid_io.specs.Outside.{Intake, Outflow}
use Rattle.braid_io.specs.declared.source.Read.TheVariants.{Got, End, Failed}
use Rattle.braid_change.specs.Updates.{UpdateView}
use Rattle.braid_stream.specs.Readers.{HasTaken, GoesOn}
use Rattle.braid_stream.specs.declared.reading.Reading.{Reading}
use Rattle.braid_http.specs.declared.response.BodyKind.{BodyKind}
use Rattle.braid_http.specs.declared.response.BodyKind.TheVariants.{Length, ToClose}
use Rattle.braid_http.specs.declared.body.Body.{Body}
use Rattle.braid_http.specs.declared.body.BodyState.{BodyState}
use Rattle.braid_http.specs.declared.body.BodyState.TheVariants as states
use Rattle.braid_http.specs.Asks.{WireView}
use Rattle.braid_http.specs.Bodies.{IsBody}
use Rattle.braid_http.specs.BodyReads.{HasRead, HasReadIn, Tells, IsOver as IsClosed, Stops, GoesOn as LivesOn, ReadsBody}
use Rattle.braid_http.proofs.BodyReading.{tells}
use Rattle.braid_sync.specs.declared.hear.Heard.{Heard}
use Rattle.braid_sync.specs.declared.hear.Heard.TheVariants as heards
use Rattle.braid_sync.specs.declared.hear.Stream.{Stream}
use Rattle.braid_sync.specs.Hearing.{HasData, HaveAll, IsEnded, IsOver, IsCutOff}
use Rattle.braid_sync.specs.Talks.{nothing_failed}
use Rattle.braid_sync.specs.Steps.{Does, StreamsOn, AtEnd, Fails, IsHeard, failing_heard, StreamsNext, IsLast, Refills}
use Rattle.braid_sync.proofs.Doing.{gives, gives_and_fails, does_none}

-- what has come of a body is some data of it
has_data : (state : BodyState) (kind : BodyKind) (content b : List ℕ) → Tells state kind content b → HasData kind content b
has_data states.Open kind content b t = inl t
has_data states.Done kind content b t = inr (inl t)
has_data states.Torn kind content b t = inl t
has_data states.BadChunk kind content b t = inr (inr t)
has_data states.SourceFailed kind content b t = inl t

pub data_read : (body : Body) (content b : List ℕ) → HasRead body content b → HasData body.kind content b
data_read body content b h = has_data body.state body.kind content b (tells body.state body.kind body.place body.line content b h)

-- one call in which no data came
stream_next : (heard : Heard) (old new : Stream) (us : List UpdateView) (content passed : List ℕ) (i j : Intake) (o p : Outflow) (given used : List ℕ) → Does [] given (failing_heard heard) i j o p → old.wire.held ++ given ≡ used ++ new.wire.held
    → HasData new.body.kind content (passed ++ used) → IsHeard heard new.wire new.body new.reader new.piece us content (passed ++ used) j → StreamsNext heard old new us content passed i j o p
stream_next heard old new us content passed i j o p given used does whole comes hears =
    record {
      given = given;
      used = used;
      more = [];
      does = does;
      whole = whole;
      comes = subst (λ (t : List ℕ). HasData new.body.kind t (passed ++ used)) (sym (append-nil content)) comes;
      hears = subst (λ (t : List ℕ). IsHeard heard new.wire new.body new.reader new.piece us t (passed ++ used) j) (sym (append-nil content)) hears;
    }

-- data came

not_empty : (n : ℕ) (buf : List ℕ) → 0 < n → n ≤ length buf → take n buf ≢ []
not_empty n buf some within e = let size = length-take-le n buf within in let none = ap length e in absurd (omega (arith, some, size, none))

pub refills_got : (old new : Stream) (us : List UpdateView) (content passed : List ℕ) (n : ℕ) (buf : List ℕ) (i j : Intake) (o p : Outflow) → StreamsOn old.wire old.body old.reader old.piece us content passed → old.piece.left ≡ [] → 0 < n → n ≤ length buf
    → ((content b : List ℕ) → HasRead old.body content b → (IsClosed old.body.state → ⊥) → ReadsBody (Got n) buf new.body content b old.wire.held new.wire.held i j) → (IsClosed old.body.state → Got n ≡ End)
    → new.wire.over ≡ old.wire.over → new.reader ≡ old.reader → new.piece.left ≡ take n buf → p ≡ o → Refills None old new us content passed i j o p
refills_got old new us content passed n buf i j o p s used some within reads again over reader piece kept =
    let r = reads content passed s.read (λ v. let e = again v in absurd (cc)) in
    let on : StreamsOn new.wire new.body new.reader new.piece us (content ++ take n buf) (passed ++ r.0) = record {
      taken = s.taken;
      content_is = ap (λ (t : List ℕ). t ++ take n buf) (s.content_is ∙ ap (λ (t : List ℕ). s.taken ++ t) used ∙ append-nil s.taken) ∙ ap (λ (t : List ℕ). s.taken ++ t) (sym piece);
      has = subst (λ (x : Reading). HasTaken us x s.taken) (sym reader) s.has;
      going = ap (λ (x : Reading). x.ended) reader ∙ s.going;
      read = r.2;
      live = r.3;
      wire_open = over ∙ s.wire_open;
    } in
    (r.1.got, r.0, take n buf, gives r.1.got i j o p r.1.moves kept, r.1.whole, on, not_empty n buf some within)

-- the body ended

-- a body is whole, of which some more bytes were passed
record EndsBody (old new : Stream) (content passed : List ℕ) (i j : Intake) (o p : Outflow) : Type 0 where
  pub given : List ℕ
  pub used : List ℕ
  pub does : Does [] given nothing_failed i j o p
  pub whole : old.wire.held ++ given ≡ used ++ new.wire.held
  pub over : IsOver new.body.kind content (passed ++ used) new.wire.held j.left

pub ended_at : (rest : List ℕ) (left : Option (List ℕ)) → rest ≡ [] → IsAtEnd left → IsEnded rest left
ended_at rest None n e = tt
ended_at rest (Some xs) n e = (e, n)

pub whole_body : (body : Body) (content b : List ℕ) → body.state ≡ states.Done → HasRead body content b → IsBody body.kind content b
whole_body body content b e h = subst (λ (x : BodyState). HasReadIn x body.kind body.place body.line content b) e h

ends_open : (old new : Stream) (content passed buf : List ℕ) (i j : Intake) (o p : Outflow) → ReadsBody End buf new.body content passed old.wire.held new.wire.held i j → p ≡ o → EndsBody old new content passed i j o p
ends_open old new content passed buf i j o p r kept =
    record {
      given = r.2.0.got;
      used = r.0;
      does = gives r.2.0.got i j o p r.2.0.moves kept;
      whole = r.2.0.whole;
      over = record {
        is = whole_body new.body content (passed ++ r.0) r.1 r.3;
        ended = λ k. let e = r.2.1 k in ended_at new.wire.held j.left e.0 e.1;
      };
    }

-- what a read leaves that finds the body whole already
abbrev pub Unmoved : Stream → Stream → Intake → Intake → Type 0
Unmoved old new i j = (new.body ≡ old.body) × (new.wire ≡ old.wire) × (j ≡ i)

pub no_close : (k : BodyKind) (n : ℕ) → k ≡ Length n → k ≡ ToClose → ⊥
no_close k n e f = cc

ends_again : (old new : Stream) (content passed : List ℕ) (i j : Intake) (o p : Outflow) → old.body.state ≡ states.Done → ((n : ℕ) × (old.body.kind ≡ Length n)) → HasRead old.body content passed → Unmoved old new i j → p ≡ o → EndsBody old new content passed i j o p
ends_again old new content passed i j o p d framed h u kept =
    let body : IsBody new.body.kind content (passed ++ []) =
    subst (λ (x : Body). IsBody x.kind content (passed ++ [])) (sym u.0) (subst (λ (t : List ℕ). IsBody old.body.kind content t) (sym (append-nil passed)) (whole_body old.body content passed d h)) in
    record {
      given = [];
      used = [];
      does = subst (λ (x : Intake). Does [] [] nothing_failed i x o p) (sym u.2) (subst (λ (x : Outflow). Does [] [] nothing_failed i i o x) (sym kept) (does_none i o));
      whole = append-nil old.wire.held ∙ sym (ap (λ (w : WireView). w.held) u.1);
      over = record { is = body; ended = λ k. absurd (no_close old.body.kind framed.0 framed.1 (sym (ap (λ (x : Body). x.kind) u.0) ∙ k)) };
    }

ends_by : (state : BodyState) (old new : Stream) (content passed buf : List ℕ) (i j : Intake) (o p : Outflow) → old.body.state ≡ state → LivesOn state old.body.kind → HasRead old.body content passed
    → ((IsClosed state → ⊥) → ReadsBody End buf new.body content passed old.wire.held new.wire.held i j) → (IsClosed state → Unmoved old new i j) → p ≡ o → EndsBody old new content passed i j o p
ends_by states.Open old new content passed buf i j o p e l h reads again kept = ends_open old new content passed buf i j o p (reads (λ v. v)) kept
ends_by states.Done old new content passed buf i j o p e l h reads again kept = ends_again old new content passed i j o p e l h (again tt) kept
ends_by states.Torn old new content passed buf i j o p e l h reads again kept = absurd l
ends_by states.BadChunk old new content passed buf i j o p e l h reads again kept = absurd l
ends_by states.SourceFailed old new content passed buf i j o p e l h reads again kept = absurd l

-- a read that ended, of a body and a wire that stayed
pub ends_moved : (buf : List ℕ) (new known : Body) (content b held kept was : List ℕ) (i j : Intake) → new ≡ known → kept ≡ was → ReadsBody End buf known content b held was i j → ReadsBody End buf new content b held kept i j
ends_moved buf new known content b held kept was i j e f r = subst (λ (x : Body). ReadsBody End buf x content b held kept i j) (sym e) (subst (λ (t : List ℕ). ReadsBody End buf known content b held t i j) (sym f) r)

-- what is heard at the end of a body
heard_at_end : (heard : Heard) (old new : Stream) (us : List UpdateView) (content passed : List ℕ) (i j : Intake) (o p : Outflow) → HaveAll us content → AtEnd heard us content → EndsBody old new content passed i j o p → StreamsNext heard old new us content passed i j o p
heard_at_end (heards.Update u) old new us content passed i j o p h a e = absurd a
heard_at_end heards.Whole old new us content passed i j o p h a e = stream_next heards.Whole old new us content passed i j o p e.given e.used e.does e.whole (inr (inl e.over.is)) (a, h.short, e.over)
heard_at_end heards.Cut old new us content passed i j o p h a e = stream_next heards.Cut old new us content passed i j o p e.given e.used e.does e.whole (inr (inl e.over.is)) (h, inl (e.over, a))
heard_at_end heards.BadChunk old new us content passed i j o p h a e = absurd a
heard_at_end (heards.Fault f) old new us content passed i j o p h a e = absurd a
heard_at_end heards.ReadFault old new us content passed i j o p h a e = absurd a
heard_at_end heards.Spent old new us content passed i j o p h a e = absurd a
heard_at_end heards.Memory old new us content passed i j o p h a e = stream_next heards.Memory old new us content passed i j o p e.given e.used e.does e.whole (inr (inl e.over.is)) tt

last_end : (heard : Heard) (us : List UpdateView) (content : List ℕ) → AtEnd heard us content → IsLast heard
last_end (heards.Update u) us content a = a
last_end heards.Whole us content a = tt
last_end heards.Cut us content a = tt
last_end heards.BadChunk us content a = tt
last_end (heards.Fault f) us content a = tt
last_end heards.ReadFault us content a = tt
last_end heards.Spent us content a = tt
last_end heards.Memory us content a = tt

pub refills_end : (heard : Heard) (old new : Stream) (us : List UpdateView) (content passed buf : List ℕ) (i j : Intake) (o p : Outflow) → StreamsOn old.wire old.body old.reader old.piece us content passed → old.piece.left ≡ [] → HaveAll us content
    → ((content b : List ℕ) → HasRead old.body content b → (IsClosed old.body.state → ⊥) → ReadsBody End buf new.body content b old.wire.held new.wire.held i j) → (IsClosed old.body.state → Unmoved old new i j) → p ≡ o
    → ((us : List UpdateView) (content : List ℕ) → HasTaken us old.reader content → GoesOn old.reader → HaveAll us content → AtEnd heard us content) → Refills (Some heard) old new us content passed i j o p
refills_end heard old new us content passed buf i j o p s used h reads again kept answers =
    let same : content ≡ s.taken = s.content_is ∙ ap (λ (t : List ℕ). s.taken ++ t) used ∙ append-nil s.taken in
    let taken : HasTaken us old.reader content = subst (λ (t : List ℕ). HasTaken us old.reader t) (sym same) s.has in
    let answer = answers us content taken s.going h in (
      last_end heard us content answer,
      heard_at_end heard old new us content passed i j o p h answer (ends_by old.body.state old new content passed buf i j o p refl s.live s.read (λ v. reads content passed s.read v) again kept),
    )

-- a read failed

failed_by : (state : BodyState) (heard : Heard) (old new : Stream) (us : List UpdateView) (content passed used : List ℕ) (i j : Intake) (o p : Outflow) → HaveAll us content → (state ≡ states.Done → ⊥)
    → Stops state new.body.kind used old.wire.held new.wire.held i j → Tells state new.body.kind content (passed ++ used) → Fails heard state → p ≡ o → StreamsNext heard old new us content passed i j o p
failed_by states.Open heard old new us content passed used i j o p h n s t f kept = absurd s
failed_by states.Done heard old new us content passed used i j o p h n s t f kept = absurd (n refl)
failed_by states.Torn heard old new us content passed used i j o p h n s t f kept =
    let cut : IsCutOff new.body.kind content (passed ++ used) new.wire.held j.left = record { framed = s.1; begun = t; behind = s.0.none; ended = s.0.at_end } in
    subst (λ (x : Heard). StreamsNext x old new us content passed i j o p) (sym f)
    (stream_next heards.Cut old new us content passed i j o p s.0.draws.got used (gives s.0.draws.got i j o p s.0.draws.moves kept) s.0.draws.whole (inl t) (h, inr cut))
failed_by states.BadChunk heard old new us content passed used i j o p h n s t f kept =
    subst (λ (x : Heard). StreamsNext x old new us content passed i j o p) (sym f)
    (stream_next heards.BadChunk old new us content passed i j o p s.got used (gives s.got i j o p s.moves kept) s.whole (inr (inr t)) (h, t))
failed_by states.SourceFailed heard old new us content passed used i j o p h n s t f kept =
    subst (λ (x : Heard). StreamsNext x old new us content passed i j o p) (sym f)
    (stream_next heards.ReadFault old new us content passed i j o p s.got used (gives_and_fails s.got i j o p s.taken s.left s.never_falls s.rose kept) s.whole (inl t) (h, t, s.none))

last_failed : (state : BodyState) (heard : Heard) → Fails heard state → IsLast heard
last_failed states.Open heard f = subst IsLast (sym f) tt
last_failed states.Done heard f = subst IsLast (sym f) tt
last_failed states.Torn heard f = subst IsLast (sym f) tt
last_failed states.BadChunk heard f = subst IsLast (sym f) tt
last_failed states.SourceFailed heard f = subst IsLast (sym f) tt

pub refills_failed : (heard : Heard) (old new : Stream) (us : List UpdateView) (content passed buf : List ℕ) (i j : Intake) (o p : Outflow) → StreamsOn old.wire old.body old.reader old.piece us content passed → HaveAll us content
    → ((content b : List ℕ) → HasRead old.body content b → (IsClosed old.body.state → ⊥) → ReadsBody Failed buf new.body content b old.wire.held new.wire.held i j) → (IsClosed old.body.state → Failed ≡ End)
    → Fails heard new.body.state → p ≡ o → Refills (Some heard) old new us content passed i j o p
refills_failed heard old new us content passed buf i j o p s h reads again fails kept =
    let r = reads content passed s.read (λ v. let e = again v in absurd (cc)) in
    (last_failed new.body.state heard fails, failed_by new.body.state heard old new us content passed r.0 i j o p h r.1 r.2 (tells new.body.state new.body.kind new.body.place new.body.line content (passed ++ r.0) r.3) fails kept)
