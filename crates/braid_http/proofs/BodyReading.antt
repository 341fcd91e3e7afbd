-- What reads of a body do.
use Rattle.std.proofs.Common.{◌≡◌, ℕ, ◌+◌, ◌-◌, ◌≤◌, append_assoc, List, [], ◌∷◌, ◌++◌, inl, inr, refl, ap, sym, subst, ◌∙◌, length, take, flat_map, arith, length-append, append-nil, Ok, Err}
use Rattle.std.proofs.lemmas.List.{take-append-le, length-take-le}
use Rattle.braid_io.specs.Outside.{Intake}
use Rattle.braid_io.specs.declared.source.Read.{Read}
use Rattle.braid_io.specs.declared.source.Read.TheVariants.{Got, End, Failed}
use Rattle.braid_http.specs.declared.response.BodyKind.{BodyKind}
use Rattle.braid_http.specs.declared.response.BodyKind.TheVariants as kinds
use Rattle.braid_http.specs.declared.around.Framing.{Framing}
use Rattle.braid_http.specs.declared.around.Framing.TheVariants.{Line, Behind, BehindCr, Trailer}
use Rattle.braid_http.specs.declared.body.BodyState.{BodyState}
use Rattle.braid_http.specs.declared.body.BodyState.TheVariants.{Open, Done, Torn, BadChunk, SourceFailed}
use Rattle.braid_http.specs.declared.body.Content.{Content}
use Rattle.braid_http.specs.declared.body.Content.TheVariants.{Plain, Endless, Chunk}
use Rattle.braid_http.specs.declared.body.Place.{Place}
use Rattle.braid_http.specs.declared.body.Place.TheVariants.{In, Around}
use Rattle.braid_http.specs.declared.body.Body.{Body}
use Rattle.braid_http.specs.Chunks.{print_chunk, chunk_data}
use Rattle.braid_http.specs.Bodies.{IsBody, IsInChunk, IsBehindChunk, HasCome, in_line, in_chunk, behind_chunk, behind_last, HasBegun, IsAgainst}
use Rattle.braid_http.specs.BodySteps.{IsAround, Passes}
use Rattle.braid_http.specs.declared.around.Passed.{Passed}
use Rattle.braid_http.specs.declared.around.Passed.TheVariants as passes
use Rattle.braid_http.specs.BodyReads.{IsIn, IsAt, HasRead, HasReadIn, Tells, IsOver, Stops, GoesOn, ReadsBody, room, failed_at, PassedAs, Ends, Takes, at_place}
use Rattle.braid_http.specs.Draws.{Draws, DrawsToEnd, DrawsAndFails}
use Rattle.braid_http.proofs.BodySteps.{draws_both, draws_end, draws_fail, trailing_last}

-- what has come, by where the reader stands

around_come : (f : Framing) (begun content b : List ℕ) → IsAround f begun content b → HasCome content b
around_come Line begun content b i = in_line begun i
around_come Behind begun content b i = behind_chunk [] (inl refl) i.1
around_come BehindCr begun content b i = behind_chunk (13 ∷ []) (inr refl) i.1
around_come (Trailer left line) begun content b i = behind_last _ (trailing_last left line content b i.1)

begun_as : (kind known : BodyKind) (content b : List ℕ) → kind ≡ known → HasBegun known content b → HasBegun kind content b
begun_as kind known content b e h = subst (λ k. HasBegun k content b) (sym e) h

pub begun_in : (kind : BodyKind) (next : Content) (begun content b : List ℕ) → IsIn kind next begun content b → HasBegun kind content b
begun_in kind (Plain left) begun content b i = begun_as kind (kinds.Length (length b + left)) content b i.0 (i.2, (let s = i.1 in omega (arith, s)))
begun_in kind Endless begun content b i = begun_as kind kinds.ToClose content b i.0 i.1
begun_in kind (Chunk left) begun content b i = begun_as kind kinds.Chunked content b i.0 (in_chunk left i.2 i.3)

pub begun_at : (kind : BodyKind) (place : Place) (begun content b : List ℕ) → IsAt kind place begun content b → HasBegun kind content b
begun_at kind (In next) begun content b i = begun_in kind next begun content b i
begun_at kind (Around f) begun content b i = begun_as kind kinds.Chunked content b i.0 (around_come f begun content b i.1)

pub tells : (state : BodyState) (kind : BodyKind) (place : Place) (begun content b : List ℕ) → HasReadIn state kind place begun content b → Tells state kind content b
tells Open kind place begun content b h = begun_at kind place begun content b h
tells Done kind place begun content b h = h
tells Torn kind place begun content b h = h
tells BadChunk kind place begun content b h = h
tells SourceFailed kind place begun content b h = begun_at kind place begun content b h

-- data has come

grown : (b u : List ℕ) (left n : ℕ) → length u ≡ n → n ≤ left → length (b ++ u) + (left - n) ≡ length b + left
grown b u left n l f = let k = length-append b u in omega (arith, k, l, f)

full : (b u : List ℕ) (left n : ℕ) → length u ≡ n → n ≤ left → left ≤ n → length (b ++ u) ≡ length b + left
full b u left n l f g = let k = length-append b u in omega (arith, k, l, f, g)

chunk_more : (left n : ℕ) (content b u : List ℕ) → length u ≡ n → n ≤ left → IsInChunk left content b → IsInChunk (left - n) (content ++ u) (b ++ u)
chunk_more left n content b u l f i =
    let size = grown i.begun u left n l f in
    record {
      chunks = i.chunks;
      line = i.line;
      begun = i.begun ++ u;
      each = i.each;
      announces = rw size i.announces;
      some = rw size i.some;
      passed_is = ap (λ z. z ++ u) i.passed_is ∙ append_assoc (flat_map print_chunk i.chunks) (i.line ++ i.begun) u ∙ ap (λ z. flat_map print_chunk i.chunks ++ z) (append_assoc i.line i.begun u);
      content_is = ap (λ z. z ++ u) i.content_is ∙ append_assoc (chunk_data i.chunks) i.begun u;
    }

chunk_full : (left n : ℕ) (content b u : List ℕ) → length u ≡ n → n ≤ left → left ≤ n → IsInChunk left content b → IsBehindChunk [] (content ++ u) (b ++ u)
chunk_full left n content b u l f g i =
    let m = chunk_more left n content b u l f i in
    let none : left - n ≡ 0 = omega (arith, g) in
    let size : length m.begun + (left - n) ≡ length m.begun = omega (arith, g) in
    record {
      chunks = m.chunks;
      line = m.line;
      whole = m.begun;
      each = m.each;
      announces = rw size at m.announces;
      some = rw size at m.some;
      passed_is = m.passed_is ∙ ap (λ z. flat_map print_chunk m.chunks ++ (m.line ++ z)) (sym (append-nil m.begun));
      content_is = m.content_is;
    }

-- no more data came than may be next
abbrev pub IsWithin : Content → ℕ → Type 0
IsWithin (Plain left) n = n ≤ left
IsWithin Endless n = n ≤ n
IsWithin (Chunk left) n = n ≤ left

read_as : (old new : Body) (content b : List ℕ) → new ≡ old → HasRead old content b → HasRead new content b
read_as old new content b e h = subst (λ (z : Body). HasRead z content b) (sym e) h

both : (content b u : List ℕ) → content ≡ b → content ++ u ≡ b ++ u
both content b u e = ap (λ z. z ++ u) e

pub got_data : (next : Content) (n : ℕ) (old new : Body) (content b u : List ℕ) → length u ≡ n → IsWithin next n → IsIn old.kind next old.line content b → Takes next n old new → HasRead new (content ++ u) (b ++ u)
got_data (Plain left) n old new content b u l w i (inl t) =
    read_as (at_place Done (In (Plain left)) old) new (content ++ u) (b ++ u) t.1
    (subst (λ k. IsBody k (content ++ u) (b ++ u)) (sym i.0) (both content b u i.2, full b u left n l w t.0))
got_data (Plain left) n old new content b u l w i (inr t) =
    let size = grown b u left n l w in
    read_as (at_place Open (In (Plain (left - n))) old) new (content ++ u) (b ++ u) t.1
    (i.0 ∙ ap kinds.Length (sym size), (let k = t.0 in omega (arith, k)), both content b u i.2)
got_data Endless n old new content b u l w i t = read_as (at_place Open (In Endless) old) new (content ++ u) (b ++ u) t (i.0, both content b u i.1)
got_data (Chunk left) n old new content b u l w i (inl t) =
    read_as (at_place Open (Around Behind) old) new (content ++ u) (b ++ u) t.1 (i.0, (i.1, chunk_full left n content b u l w t.0 i.3))
got_data (Chunk left) n old new content b u l w i (inr t) =
    read_as (at_place Open (In (Chunk (left - n))) old) new (content ++ u) (b ++ u) t.1
    (i.0, i.1, (let k = t.0 in omega (arith, k)), chunk_more left n content b u l w i.3)

-- and the body goes on, or is one of a length and whole

goes_as : (old new : Body) → new ≡ old → GoesOn old.state old.kind → GoesOn new.state new.kind
goes_as old new e g = subst (λ (z : Body). GoesOn z.state z.kind) (sym e) g

pub got_on : (next : Content) (n : ℕ) (old new : Body) (content b : List ℕ) → IsIn old.kind next old.line content b → Takes next n old new → GoesOn new.state new.kind
got_on (Plain left) n old new content b i (inl t) = goes_as (at_place Done (In (Plain left)) old) new t.1 (length b + left, i.0)
got_on (Plain left) n old new content b i (inr t) = goes_as (at_place Open (In (Plain (left - n))) old) new t.1 tt
got_on Endless n old new content b i t = goes_as (at_place Open (In Endless) old) new t tt
got_on (Chunk left) n old new content b i (inl t) = goes_as (at_place Open (Around Behind) old) new t.1 tt
got_on (Chunk left) n old new content b i (inr t) = goes_as (at_place Open (In (Chunk (left - n))) old) new t.1 tt

-- bytes were passed before

longer : (new : Body) (content b used more : List ℕ) → HasRead new content ((b ++ used) ++ more) → HasRead new content (b ++ (used ++ more))
longer new content b used more h = subst (λ z. HasRead new content z) (append_assoc b used more) h

stops_after : (state : BodyState) (kind : BodyKind) (used more held mid kept : List ℕ) (i j k : Intake) → Draws used held mid i j → Stops state kind more mid kept j k → Stops state kind (used ++ more) held kept i k
stops_after Open kind used more held mid kept i j k d s = s
stops_after Done kind used more held mid kept i j k d s = (draws_both used more held mid kept i j k d s.0, s.1)
stops_after Torn kind used more held mid kept i j k d s = (draws_end used more held mid kept i j k d s.0, s.1)
stops_after BadChunk kind used more held mid kept i j k d s = draws_both used more held mid kept i j k d s
stops_after SourceFailed kind used more held mid kept i j k d s = draws_fail used more held mid kept i j k d s

pub reads_after : (r : Read) (buf : List ℕ) (new : Body) (content b used held mid kept : List ℕ) (i j k : Intake) → Draws used held mid i j → ReadsBody r buf new content (b ++ used) mid kept j k → ReadsBody r buf new content b held kept i k
reads_after (Got n) buf new content b used held mid kept i j k d r = (used ++ r.0, draws_both used r.0 held mid kept i j k d r.1, longer new _ b used r.0 r.2, r.3)
reads_after End buf new content b used held mid kept i j k d r =
    (used ++ r.0, r.1, stops_after Done new.kind used r.0 held mid kept i j k d r.2, longer new content b used r.0 r.3)
reads_after Failed buf new content b used held mid kept i j k d r =
    (used ++ r.0, r.1, stops_after new.state new.kind used r.0 held mid kept i j k d r.2, longer new content b used r.0 r.3)

-- a read of data

within_of : (next : Content) (n r len : ℕ) → r ≡ room next len → n ≤ r → IsWithin next n
within_of (Plain left) n r len e l = omega (arith, e, l)
within_of Endless n r len e l = omega arith
within_of (Chunk left) n r len e l = omega (arith, e, l)

pub data_got : (next : Content) (n r len : ℕ) (old new : Body) (content b buf tail held kept : List ℕ) (i j : Intake) → r ≡ room next len → length buf ≤ r → n ≤ length buf → Draws (take n buf) held kept i j → Takes next n old new
    → IsIn old.kind next old.line content b → (used : List ℕ) × Draws used held kept i j × HasRead new (content ++ take n (buf ++ tail)) (b ++ used) × GoesOn new.state new.kind
data_got next n r len old new content b buf tail held kept i j e s w d t is =
    let front : take n (buf ++ tail) ≡ take n buf = take-append-le n buf tail w in
    let size : length (take n buf) ≡ n = length-take-le n buf w in
    let within = within_of next n r len e (omega (arith, s, w)) in (
      take n buf,
      d,
      subst (λ z. HasRead new (content ++ z) (b ++ take n buf)) (sym front) (got_data next n old new content b (take n buf) size within is t),
      got_on next n old new content b is t,
    )

moved : (r s : Read) (buf : List ℕ) (new old : Body) (content b held kept : List ℕ) (i j : Intake) → r ≡ s → new ≡ old → ReadsBody s buf old content b held kept i j → ReadsBody r buf new content b held kept i j
moved r s buf new old content b held kept i j e f h = subst (λ (z : Body). ReadsBody r buf z content b held kept i j) (sym f) (subst (λ z. ReadsBody z buf old content b held kept i j) (sym e) h)

begun_still : (kind : BodyKind) (content b : List ℕ) → HasBegun kind content b → HasBegun kind content (b ++ [])
begun_still kind content b h = subst (λ z. HasBegun kind content z) (sym (append-nil b)) h

-- the source has ended where data was next
no_close : (k : BodyKind) → k ≡ kinds.Chunked → k ≡ kinds.ToClose → ⊥
no_close k e f = cc

pub data_ended : (r : Read) (next : Content) (old new : Body) (buf content b held kept : List ℕ) (i j : Intake) → DrawsToEnd [] held kept i j → Ends r next old new → IsIn old.kind next old.line content b → ReadsBody r buf new content b held kept i j
data_ended r (Plain left) old new buf content b held kept i j d t is =
    moved r Failed buf new (failed_at Torn old.place old) content b held kept i j t.0 t.1
    ([], (λ z. cc), (d, (λ k. other old.kind (length b + left) is.0 k)), begun_still old.kind content b (begun_in old.kind (Plain left) old.line content b is))
  where
    other : (k : BodyKind) (n : ℕ) → k ≡ kinds.Length n → k ≡ kinds.ToClose → ⊥
    other k n e f = cc
data_ended r Endless old new buf content b held kept i j d t is =
    moved r End buf new (at_place Done old.place old) content b held kept i j t.0 t.1
    ([], refl, (d.draws, (λ k. (d.none, d.at_end))), subst (λ k. IsBody k content (b ++ [])) (sym is.0) (is.1 ∙ sym (append-nil b)))
data_ended r (Chunk left) old new buf content b held kept i j d t is =
    moved r Failed buf new (failed_at Torn old.place old) content b held kept i j t.0 t.1
    ([], (λ z. cc), (d, (λ k. no_close old.kind is.0 k)), begun_still old.kind content b (begun_in old.kind (Chunk left) old.line content b is))

-- a read of the link failed where data was next
pub data_failed : (r : Read) (next : Content) (old new : Body) (buf content b held kept : List ℕ) (i j : Intake) → DrawsAndFails [] held kept i j → r ≡ Failed → new ≡ failed_at SourceFailed (In next) old → IsIn old.kind next old.line content b
    → ReadsBody r buf new content b held kept i j
data_failed r next old new buf content b held kept i j d e f is =
    moved r Failed buf new (failed_at SourceFailed (In next) old) content b held kept i j e f
    ([], (λ z. cc), d, subst (λ z. IsIn old.kind next old.line content z) (sym (append-nil b)) is)

-- what stands around data was passed

-- a reader with another line
abbrev pub with_line : List ℕ → Body → Body
with_line line old = record { kind = old.kind; place = old.place; line = line; state = old.state; faults = old.faults }

pub passed_err : (p : Passed) (r : Read) (framing : Framing) (old new : Body) (after buf content b held kept : List ℕ) (i j : Intake) → Passes p framing old.line after held kept i j → PassedAs (Err r) p (with_line after old) new
    → IsAt old.kind (Around framing) old.line content b → ReadsBody r buf new content b held kept i j
passed_err (passes.Data left) r framing old new after buf content b held kept i j ps pa is = absurd (cc)
passed_err passes.Whole r framing old new after buf content b held kept i j ps pa is =
    let same = pa.0 in
    let e : r ≡ End = cc in
    moved r End buf new (at_place Done old.place (with_line after old)) content b held kept i j e pa.1
    (ps.0, refl, (ps.1, (λ k. absurd (no_close old.kind is.0 k))), subst (λ k. IsBody k content (b ++ ps.0)) (sym is.0) (ps.2 content b is.1))
passed_err passes.Against r framing old new after buf content b held kept i j ps pa is =
    let same = pa.0 in
    let e : r ≡ Failed = cc in
    moved r Failed buf new (failed_at BadChunk old.place (with_line after old)) content b held kept i j e pa.1
    (ps.0, (λ z. cc), ps.1, subst (λ k. IsAgainst k content (b ++ ps.0)) (sym is.0) (ps.2 content b is.1))
passed_err (passes.Torn f) r framing old new after buf content b held kept i j ps pa is =
    let same = pa.0 in
    let e : r ≡ Failed = cc in
    moved r Failed buf new (failed_at Torn (Around f) (with_line after old)) content b held kept i j e pa.1
    (ps.0, (λ z. cc), (ps.1, (λ k. no_close old.kind is.0 k)), begun_as old.kind kinds.Chunked content (b ++ ps.0) is.0 (around_come f after content (b ++ ps.0) (ps.2 content b is.1)))
passed_err (passes.Failed f) r framing old new after buf content b held kept i j ps pa is =
    let same = pa.0 in
    let e : r ≡ Failed = cc in
    moved r Failed buf new (failed_at SourceFailed (Around f) (with_line after old)) content b held kept i j e pa.1
    (ps.0, (λ z. cc), ps.1, (is.0, ps.2 content b is.1))

pub record IsNext (left : ℕ) (new : Body) (content b held mid : List ℕ) (i j : Intake) : Type 0 where
  pub used : List ℕ
  pub draws : Draws used held mid i j
  pub is : IsIn new.kind (Chunk left) new.line content (b ++ used)

pub passed_ok : (p : Passed) (left : ℕ) (framing : Framing) (old new : Body) (after content b held mid : List ℕ) (i j : Intake) → Passes p framing old.line after held mid i j → PassedAs (Ok left) p (with_line after old) new
    → IsAt old.kind (Around framing) old.line content b → IsNext left new content b held mid i j
passed_ok (passes.Data n) left framing old new after content b held mid i j ps pa is =
    let same = pa.0 in
    let e : left ≡ n = cc in
    let f = ps.2 content b is.1 in
    record {
      used = ps.0;
      draws = ps.1;
      is = subst (λ (z : Body). IsIn z.kind (Chunk left) z.line content (b ++ ps.0)) (sym pa.1) (subst (λ z. IsIn old.kind (Chunk z) after content (b ++ ps.0)) (sym e) (is.0, f.0, f.1, f.2));
    }
passed_ok passes.Whole left framing old new after content b held mid i j ps pa is = let same = pa.0 in absurd (cc)
passed_ok passes.Against left framing old new after content b held mid i j ps pa is = let same = pa.0 in absurd (cc)
passed_ok (passes.Torn f) left framing old new after content b held mid i j ps pa is = let same = pa.0 in absurd (cc)
passed_ok (passes.Failed f) left framing old new after content b held mid i j ps pa is = let same = pa.0 in absurd (cc)

-- a read of a body that is not over

at_of : (state : BodyState) (kind : BodyKind) (place : Place) (begun content b : List ℕ) → (IsOver state → ⊥) → HasReadIn state kind place begun content b → IsAt kind place begun content b
at_of Open kind place begun content b n h = h
at_of Done kind place begun content b n h = absurd (n tt)
at_of Torn kind place begun content b n h = absurd (n tt)
at_of BadChunk kind place begun content b n h = absurd (n tt)
at_of SourceFailed kind place begun content b n h = h

pub at_here : (body : Body) (place : Place) (content b : List ℕ) → body.place ≡ place → (IsOver body.state → ⊥) → HasRead body content b → IsAt body.kind place body.line content b
at_here body place content b e n h = subst (λ p. IsAt body.kind p body.line content b) e (at_of body.state body.kind body.place body.line content b n h)

pub read_on : (r : Read) (buf : List ℕ) (body new old : Body) (next known : Content) (content b held now kept : List ℕ) (i j k : Intake) → body ≡ old → next ≡ known → now ≡ held → j ≡ i
    → ((content b : List ℕ) → IsIn body.kind next body.line content b → ReadsBody r buf new content b now kept j k) → IsIn old.kind known old.line content b → ReadsBody r buf new content b held kept i k
read_on r buf body new old next known content b held now kept i j k e n h s f is =
    let there : IsIn body.kind next body.line content b = subst (λ (z : Body). IsIn z.kind next z.line content b) (sym e) (subst (λ z. IsIn old.kind z old.line content b) (sym n) is) in
    subst (λ z. ReadsBody r buf new content b z kept i k) h (subst (λ z. ReadsBody r buf new content b now kept z k) s (f content b there))
