-- What the next read of a body does to a reading whose piece is used up.
use Rattle.std.proofs.Common.{◌≡◌, ◌≢◌, ◌≤◌, ◌<◌, ℕ, List, [], ◌++◌, Option, Some, None, refl, ap, sym, subst, ◌∙◌, append-nil, length, take, inl, inr, arith}
use Rattle.std.proofs.lemmas.List.{length-take-le}
use Rattle.std.specs.Io.KnownBytes.{prepend_known, IsAtEnd}
use Rattle.braid_io.specs.Outside.{Intake}
use Rattle.braid_io.specs.declared.source.Read.TheVariants.{Got, End, Failed}
use Rattle.braid_change.specs.Updates.{UpdateView}
use Rattle.braid_stream.specs.Readers.{HasTaken}
use Rattle.braid_stream.specs.declared.reading.Reading.{Reading}
use Rattle.braid_stream.specs.declared.next.Next.{Next}
use Rattle.braid_stream.specs.declared.next.Next.TheVariants as nexts
use Rattle.braid_stream.proofs.Moved.{prepend_known-nil}
use Rattle.braid_http.specs.declared.response.BodyKind.{BodyKind}
use Rattle.braid_http.specs.declared.response.BodyKind.TheVariants.{Length, ToClose}
use Rattle.braid_http.specs.declared.body.Body.{Body}
use Rattle.braid_http.specs.declared.body.BodyState.{BodyState}
use Rattle.braid_http.specs.declared.body.BodyState.TheVariants as states
use Rattle.braid_http.specs.Asks.{WireView}
use Rattle.braid_http.specs.Bodies.{IsBody}
use Rattle.braid_http.specs.BodyReads.{HasRead, HasReadIn, Tells, IsOver as IsClosed, Stops, GoesOn as LivesOn, ReadsBody}
use Rattle.braid_http.proofs.BodyReading.{tells}
use Rattle.braid_sync.specs.Hearing.{HasData, HaveAll, IsEnded}
use Rattle.braid_world.specs.declared.body_reading.BodyReading.{BodyReading}
use Rattle.braid_world.specs.BodyReads.{GoesOn, BodyEnds, EndsData, Ended, Filled, AtEnd}

-- data came

not_empty : (n : ℕ) (buf : List ℕ) → 0 < n → n ≤ length buf → 0 < length (take n buf)
not_empty n buf some within = let size = length-take-le n buf within in omega (arith, some, size)

pub filled : (old new : BodyReading) (us : List UpdateView) (content passed : List ℕ) (n : ℕ) (buf : List ℕ) (i j : Intake) → GoesOn old us content passed → old.piece.left ≡ [] → 0 < n → n ≤ length buf
    → ((content b : List ℕ) → HasRead old.body content b → (IsClosed old.body.state → ⊥) → ReadsBody (Got n) buf new.body content b old.wire.held new.wire.held i j) → (IsClosed old.body.state → Got n ≡ End)
    → new.wire.over ≡ old.wire.over → new.reader ≡ old.reader → new.piece.left ≡ take n buf → Filled old new us content passed i j
filled old new us content passed n buf i j s used some within reads again over reader piece =
    let r = reads content passed s.read (λ v. let e = again v in absurd (cc)) in
    let on : GoesOn new us (content ++ take n buf) (passed ++ r.0) = record {
      taken = s.taken;
      content_is = ap (λ (t : List ℕ). t ++ take n buf) (s.content_is ∙ ap (λ (t : List ℕ). s.taken ++ t) used ∙ append-nil s.taken) ∙ ap (λ (t : List ℕ). s.taken ++ t) (sym piece);
      has = subst (λ (x : Reading). HasTaken us x s.taken) (sym reader) s.has;
      going = ap (λ (x : Reading). x.ended) reader ∙ s.going;
      read = r.2;
      live = r.3;
      wire_open = over ∙ s.wire_open;
    } in
    record {
      given = r.1.got;
      used = r.0;
      more = take n buf;
      left = r.1.moves.left;
      faults = r.1.moves.faults;
      whole = r.1.whole;
      on = on;
      reader = reader;
      some = subst (λ (t : List ℕ). 0 < length t) (sym piece) (not_empty n buf some within);
    }

-- the body ended: it is whole, or the source ended before, and some more of its bytes were passed
pub record Over (held : List ℕ) (body : Body) (wire : WireView) (content passed : List ℕ) (i j : Intake) : Type 0 where
  pub given : List ℕ
  pub used : List ℕ
  pub left : i.left ≡ prepend_known given j.left
  pub whole : held ++ given ≡ used ++ wire.held
  pub comes : HasData body.kind content (passed ++ used)
  pub ends : BodyEnds body.kind content (passed ++ used) wire.held j.left

ended_at : (rest : List ℕ) (left : Option (List ℕ)) → rest ≡ [] → IsAtEnd left → IsEnded rest left
ended_at rest None n e = tt
ended_at rest (Some xs) n e = (e, n)

whole_body : (body : Body) (content b : List ℕ) → body.state ≡ states.Done → HasRead body content b → IsBody body.kind content b
whole_body body content b e h = subst (λ (x : BodyState). HasReadIn x body.kind body.place body.line content b) e h

over_now : (held : List ℕ) (body : Body) (wire : WireView) (content passed buf : List ℕ) (i j : Intake) → ReadsBody End buf body content passed held wire.held i j → Over held body wire content passed i j
over_now held body wire content passed buf i j r =
    let is : IsBody body.kind content (passed ++ r.0) = whole_body body content (passed ++ r.0) r.1 r.3 in
    record {
      given = r.2.0.got;
      used = r.0;
      left = r.2.0.moves.left;
      whole = r.2.0.whole;
      comes = inr (inl is);
      ends = inl (record { is = is; ended = λ k. let e = r.2.1 k in ended_at wire.held j.left e.0 e.1 });
    }

no_close : (k : BodyKind) (n : ℕ) → k ≡ Length n → k ≡ ToClose → ⊥
no_close k n e f = cc

over_before : (body : Body) (wire : WireView) (content passed : List ℕ) (i : Intake) → body.state ≡ states.Done → ((n : ℕ) × (body.kind ≡ Length n)) → HasRead body content passed → Over wire.held body wire content passed i i
over_before body wire content passed i d framed h =
    let is : IsBody body.kind content (passed ++ []) = subst (λ (t : List ℕ). IsBody body.kind content t) (sym (append-nil passed)) (whole_body body content passed d h) in
    record {
      given = [];
      used = [];
      left = sym (prepend_known-nil i.left);
      whole = append-nil wire.held;
      comes = inr (inl is);
      ends = inl (record { is = is; ended = λ k. absurd (no_close body.kind framed.0 framed.1 k) });
    }

-- a read that finds the body whole already leaves all as it was
over_again : (was body : Body) (held wire : WireView) (content passed : List ℕ) (i j : Intake) → was.state ≡ states.Done → ((n : ℕ) × (was.kind ≡ Length n)) → HasRead was content passed → (body ≡ was) × (wire ≡ held) × (j ≡ i) → Over held.held body wire content passed i j
over_again was body held wire content passed i j d framed h u =
    subst (λ (x : Intake). Over held.held body wire content passed i x) (sym u.2)
    (subst (λ (x : WireView). Over held.held body x content passed i i) (sym u.1)
    (subst (λ (x : Body). Over held.held x held content passed i i) (sym u.0) (over_before was held content passed i d framed h)))

over_by : (state : BodyState) (was body : Body) (held wire : WireView) (content passed buf : List ℕ) (i j : Intake) → was.state ≡ state → LivesOn state was.kind → HasRead was content passed
    → ((IsClosed state → ⊥) → ReadsBody End buf body content passed held.held wire.held i j) → (IsClosed state → (body ≡ was) × (wire ≡ held) × (j ≡ i)) → Over held.held body wire content passed i j
over_by states.Open was body held wire content passed buf i j e l h reads again = over_now held.held body wire content passed buf i j (reads (λ v. v))
over_by states.Done was body held wire content passed buf i j e l h reads again = over_again was body held wire content passed i j e l h (again tt)
over_by states.Torn was body held wire content passed buf i j e l h reads again = absurd l
over_by states.BadChunk was body held wire content passed buf i j e l h reads again = absurd l
over_by states.SourceFailed was body held wire content passed buf i j e l h reads again = absurd l

pub over_end : (was body : Body) (held wire : WireView) (us : List UpdateView) (old : BodyReading) (content passed buf : List ℕ) (i j : Intake) → GoesOn old us content passed → old.body ≡ was → old.wire ≡ held
    → ((content b : List ℕ) → HasRead was content b → (IsClosed was.state → ⊥) → ReadsBody End buf body content b held.held wire.held i j)
    → (IsClosed was.state → (body ≡ was) × (wire ≡ held) × (j ≡ i)) → Over held.held body wire content passed i j
over_end was body held wire us old content passed buf i j s e f reads again =
    let read : HasRead was content passed = subst (λ (x : Body). HasRead x content passed) e s.read in
    let live : LivesOn was.state was.kind = subst (λ (x : Body). LivesOn x.state x.kind) e s.live in
    over_by was.state was body held wire content passed buf i j refl live read (λ v. reads content passed read v) again

-- the same of a body and a wire that stayed since
pub over_moved : (held : List ℕ) (known body : Body) (was wire : WireView) (content passed : List ℕ) (i j : Intake) → body ≡ known → wire ≡ was → Over held known was content passed i j → Over held body wire content passed i j
over_moved held known body was wire content passed i j e f o = subst (λ (x : Body). Over held x wire content passed i j) (sym e) (subst (λ (x : WireView). Over held known x content passed i j) (sym f) o)

-- the source ended before the body was whole

cut_by : (state : BodyState) (held : List ℕ) (body : Body) (wire : WireView) (content passed used : List ℕ) (i j : Intake) → state ≡ states.Torn → Stops state body.kind used held wire.held i j → Tells state body.kind content (passed ++ used) → Over held body wire content passed i j
cut_by states.Open held body wire content passed used i j e s t = absurd s
cut_by states.Done held body wire content passed used i j e s t = absurd (cc)
cut_by states.BadChunk held body wire content passed used i j e s t = absurd (cc)
cut_by states.SourceFailed held body wire content passed used i j e s t = absurd (cc)
cut_by states.Torn held body wire content passed used i j e s t =
    record {
      given = s.0.draws.got;
      used = used;
      left = s.0.draws.moves.left;
      whole = s.0.draws.whole;
      comes = inl t;
      ends = inr (record { framed = s.1; begun = t; behind = s.0.none; ended = s.0.at_end });
    }

pub over_cut : (held : List ℕ) (body : Body) (wire : WireView) (content passed buf : List ℕ) (i j : Intake) → body.state ≡ states.Torn → ReadsBody Failed buf body content passed held wire.held i j → Over held body wire content passed i j
over_cut held body wire content passed buf i j e r = cut_by body.state held body wire content passed r.0 i j e r.2 (tells body.state body.kind body.place body.line content (passed ++ r.0) r.3)

-- at the end of the body the reader is asked again, and then there is no more
pub ended_over : (next : Next) (old new : BodyReading) (us : List UpdateView) (content passed : List ℕ) (i j : Intake) → Over old.wire.held new.body new.wire content passed i j → HaveAll us content → AtEnd next us content → Ended next old new us content passed i j
ended_over next old new us content passed i j o all a =
    record {
      given = o.given;
      used = o.used;
      more = [];
      left = o.left;
      whole = o.whole;
      comes = subst (λ (t : List ℕ). HasData new.body.kind t (passed ++ o.used)) (sym (append-nil content)) o.comes;
      ends = subst (λ (t : List ℕ). EndsData next new.body.kind us t (passed ++ o.used) new.wire.held i j) (sym (append-nil content)) (ends next a);
    }
  where
    ends : (next : Next) → AtEnd next us content → EndsData next new.body.kind us content (passed ++ o.used) new.wire.held i j
    ends (nexts.Update u) a = absurd a
    ends nexts.End a = (a, o.ends)
    ends (nexts.Torn at) a = (all.have, a.0, a.1, o.ends)
    ends (nexts.Fault f) a = absurd a
    ends nexts.ReadFault a = absurd a
    ends nexts.Spent a = absurd a
    ends nexts.Memory a = tt

-- a read failed

fails_by : (state : BodyState) (old new : BodyReading) (us : List UpdateView) (content passed used : List ℕ) (i j : Intake) → state ≢ states.Done → state ≢ states.Torn → Stops state new.body.kind used old.wire.held new.wire.held i j → Tells state new.body.kind content (passed ++ used)
    → Ended nexts.ReadFault old new us content passed i j
fails_by states.Open old new us content passed used i j n m s t = absurd s
fails_by states.Done old new us content passed used i j n m s t = absurd (n refl)
fails_by states.Torn old new us content passed used i j n m s t = absurd (m refl)
fails_by states.BadChunk old new us content passed used i j n m s t =
    record {
      given = s.got;
      used = used;
      more = [];
      left = s.moves.left;
      whole = s.whole;
      comes = subst (λ (x : List ℕ). HasData new.body.kind x (passed ++ used)) (sym (append-nil content)) (inr (inr t));
      ends = subst (λ (x : List ℕ). EndsData nexts.ReadFault new.body.kind us x (passed ++ used) new.wire.held i j) (sym (append-nil content)) (inl t);
    }
fails_by states.SourceFailed old new us content passed used i j n m s t =
    record {
      given = s.got;
      used = used;
      more = [];
      left = s.left;
      whole = s.whole;
      comes = subst (λ (x : List ℕ). HasData new.body.kind x (passed ++ used)) (sym (append-nil content)) (inl t);
      ends = subst (λ (x : List ℕ). EndsData nexts.ReadFault new.body.kind us x (passed ++ used) new.wire.held i j) (sym (append-nil content)) (inr (s.never_falls, s.rose));
    }

pub ended_failed : (old new : BodyReading) (us : List UpdateView) (content passed buf : List ℕ) (i j : Intake) → new.body.state ≢ states.Torn → ReadsBody Failed buf new.body content passed old.wire.held new.wire.held i j → Ended nexts.ReadFault old new us content passed i j
ended_failed old new us content passed buf i j n r = fails_by new.body.state old new us content passed r.0 i j r.1 n r.2 (tells new.body.state new.body.kind new.body.place new.body.line content (passed ++ r.0) r.3)

-- all of the data was taken, where the piece is used up
pub taken_all : (old : BodyReading) (us : List UpdateView) (content passed : List ℕ) → GoesOn old us content passed → old.piece.left ≡ [] → HasTaken us old.reader content
taken_all old us content passed s used =
    let same : content ≡ s.taken = s.content_is ∙ ap (λ (t : List ℕ). s.taken ++ t) used ∙ append-nil s.taken in
    subst (λ (t : List ℕ). HasTaken us old.reader t) (sym same) s.has
