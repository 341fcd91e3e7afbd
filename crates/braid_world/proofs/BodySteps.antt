-- The steps of reading a body, one after the other.
use Rattle.std.proofs.Common.{◌≡◌, ◌<◌, ◌≤◌, ◌+◌, ◌-◌, ◌*◌, ℕ, List, [], ◌∷◌, ◌++◌, refl, ap, sym, subst, ◌∙◌, append-nil, length, length-append, Some, inl, inr, arith}
use Rattle.std.specs.Io.KnownBytes.{prepend_known}
use Rattle.braid_io.specs.Outside.{Intake, Rose}
use Rattle.braid_change.specs.Updates.{UpdateView}
use Rattle.braid_frame.specs.declared.fed.FrameFault.{FrameFault}
use Rattle.braid_frame.specs.Phases.{HasFault}
use Rattle.braid_stream.specs.declared.next.Next.{Next}
use Rattle.braid_stream.specs.declared.next.Next.TheVariants as nexts
use Rattle.braid_stream.specs.declared.reading.Reading.{Reading}
use Rattle.braid_stream.specs.Readers.{most_bytes, budget, HasTaken, Answers}
use Rattle.braid_stream.proofs.Moved.{prepend_known-nil}
use Rattle.braid_http.specs.declared.response.BodyKind.{BodyKind}
use Rattle.braid_http.specs.declared.body.Body.{Body}
use Rattle.braid_http.specs.Asks.{WireView}
use Rattle.braid_http.specs.BodyReads.{HasRead, GoesOn as LivesOn}
use Rattle.braid_sync.specs.declared.hear.Heard.TheVariants as heards
use Rattle.braid_sync.specs.Pieces.{piece_intake, nothing_left}
use Rattle.braid_sync.specs.Hearing.{HasData, HaveAll, BeginWith, seen}
use Rattle.braid_sync.specs.Steps.{AtHand}
use Rattle.braid_sync.proofs.AtHands.{hands_update, hands_none, hands_fault, hands_spent, hears_end}
use Rattle.braid_sync.proofs.Doing.{prepend_known-append}
use Rattle.braid_sync.proofs.Streaming.{begin_none, begin_with, begin_seen, begin_seen_more}
use Rattle.braid_sync.proofs.Refilling.{data_read}
use Rattle.braid_sync.proofs.Heard.{two_steps}
use Rattle.braid_world.specs.declared.body_reading.BodyReading.{BodyReading}
use Rattle.braid_world.specs.declared.reading_back.Heard.{Heard}
use Rattle.braid_world.specs.declared.reading_back.Last.{Last}
use Rattle.braid_world.specs.declared.reading_back.Last.TheVariants.{Stream, Memory}
use Rattle.braid_world.specs.BodyReads.{GoesOn, EndsData, Ended, Went, Filled, AtEnd, ReadsBody}

-- an update is at hand

fewer : (b c p q : ℕ) → b < c → 2 * b + (1 - p) < 2 * c + (1 - q)
fewer b c p q l = omega (arith, l)

pub went_update : (old new : BodyReading) (us : List UpdateView) (u : UpdateView) (content passed : List ℕ) (i : Intake) (s : GoesOn old us content passed) → Answers us s.taken (nexts.Update u) new.reader (piece_intake old.piece) (piece_intake new.piece)
    → new.body ≡ old.body → new.wire ≡ old.wire → Went old new (us ++ u ∷ []) content passed i i × BeginWith (us ++ u ∷ []) (seen content)
went_update old new us u content passed i s answers body wire = (
  record {
    given = [];
    used = [];
    more = [];
    left = sym (prepend_known-nil i.left);
    faults = refl;
    whole = append-nil old.wire.held ∙ sym (ap (λ (w : WireView). w.held) wire);
    on = subst (λ (t : List ℕ). GoesOn new (us ++ u ∷ []) t (passed ++ [])) (sym (append-nil content)) (subst (λ (t : List ℕ). GoesOn new (us ++ u ∷ []) content t) (sym (append-nil passed)) on);
    less = fewer (budget new.reader) (budget old.reader) (length new.piece.left) (length old.piece.left) a.5;
  },
  begin_seen (us ++ u ∷ []) (s.taken ++ a.0) new.piece.left content (s.content_is ∙ a.3) a.1.within (begin_with us u (s.taken ++ a.0) a.4),
)
  where
    a : AtHand (Some (heards.Update u)) old.reader new.reader new.piece us s.taken (s.taken ++ old.piece.left)
    a = hands_update us s.taken u old.reader new.reader old.piece new.piece s.has answers

    on : GoesOn new (us ++ u ∷ []) content passed
    on = record {
      taken = s.taken ++ a.0;
      content_is = s.content_is ∙ a.3;
      has = a.1;
      going = a.2;
      read = subst (λ (x : Body). HasRead x content passed) (sym body) s.read;
      live = subst (λ (x : Body). LivesOn x.state x.kind) (sym body) s.live;
      wire_open = ap (λ (w : WireView). w.over) wire ∙ s.wire_open;
    }

-- the piece is used up
pub record Used (old fed : BodyReading) (us : List UpdateView) (content passed : List ℕ) : Type 0 where
  pub on : GoesOn fed us content passed
  pub none : fed.piece.left ≡ []
  pub all : HaveAll us content
  pub spent : 2 * budget fed.reader < 2 * budget old.reader + (1 - length old.piece.left)

spends : (m r s h k : ℕ) → s ≡ r + k → s ≤ m → 2 * (m - s + 0) < 2 * (m - r + h) + (1 - k)
spends m r s h k e l = omega (arith, e, l)

pub used_up : (old fed : BodyReading) (us : List UpdateView) (content passed : List ℕ) (s : GoesOn old us content passed) → Answers us s.taken nexts.ReadFault fed.reader (piece_intake old.piece) (piece_intake fed.piece) → (0 < fed.piece.faults → fed.piece.left ≡ [])
    → fed.body ≡ old.body → fed.wire ≡ old.wire → Used old fed us content passed
used_up old fed us content passed s answers used body wire =
    let a = hands_none us s.taken old.reader fed.reader old.piece fed.piece used answers in
    let held : fed.reader.held ≡ [] = answers.leaves.2 in
    let size = ap length held in
    let before = s.has.count in
    let after = a.0.count in
    let within = a.0.within in
    let parts = length-append s.taken old.piece.left in
    record {
      on = record {
        taken = content;
        content_is = sym (ap (λ (t : List ℕ). content ++ t) a.2 ∙ append-nil content);
        has = subst (λ (t : List ℕ). HasTaken us fed.reader t) (sym s.content_is) a.0;
        going = a.1;
        read = subst (λ (x : Body). HasRead x content passed) (sym body) s.read;
        live = subst (λ (x : Body). LivesOn x.state x.kind) (sym body) s.live;
        wire_open = ap (λ (w : WireView). w.over) wire ∙ s.wire_open;
      };
      none = a.2;
      all = subst (HaveAll us) (sym s.content_is) a.3;
      spent = subst (λ (k : ℕ). 2 * (most_bytes - fed.reader.read + k) < 2 * (most_bytes - old.reader.read + length old.reader.held) + (1 - length old.piece.left)) (sym size)
          (spends most_bytes old.reader.read fed.reader.read (length old.reader.held) (length old.piece.left) (omega (arith, before, after, parts)) (omega (arith, after, within)));
    }

less_work : (b c p q : ℕ) → 2 * b < 2 * c + (1 - q) → 0 < p → 2 * b + (1 - p) < 2 * c + (1 - q)
less_work b c p q l some = omega (arith, l, some)

pub went_piece : (old fed new : BodyReading) (us : List UpdateView) (content passed : List ℕ) (i j : Intake) → Used old fed us content passed → Filled fed new us content passed i j → fed.wire ≡ old.wire → Went old new us content passed i j
went_piece old fed new us content passed i j d f wire =
    record {
      given = f.given;
      used = f.used;
      more = f.more;
      left = f.left;
      faults = f.faults;
      whole = ap (λ (w : WireView). w.held ++ f.given) (sym wire) ∙ f.whole;
      on = f.on;
      less = less_work (budget new.reader) (budget old.reader) (length new.piece.left) (length old.piece.left) (subst (λ (r : Reading). 2 * budget r < 2 * budget old.reader + (1 - length old.piece.left)) (sym f.reader) d.spent) f.some;
    }

-- the end is at hand
pub ended_here : (next : Next) (old new : BodyReading) (us : List UpdateView) (content passed : List ℕ) (i : Intake) → GoesOn old us content passed → new.body ≡ old.body → new.wire ≡ old.wire → EndsData next new.body.kind us content passed new.wire.held i i
    → Ended next old new us content passed i i
ended_here next old new us content passed i s body wire ends =
    record {
      given = [];
      used = [];
      more = [];
      left = sym (prepend_known-nil i.left);
      whole = append-nil old.wire.held ∙ sym (ap (λ (w : WireView). w.held) wire);
      comes = at_nil (λ c p. HasData new.body.kind c p) (subst (λ (b : Body). HasData b.kind content passed) (sym body) (data_read old.body content passed s.read));
      ends = at_nil (λ c p. EndsData next new.body.kind us c p new.wire.held i i) ends;
    }
  where
    at_nil : (P : List ℕ → List ℕ → Type 0) → P content passed → P (content ++ []) (passed ++ [])
    at_nil P h = subst (λ (c : List ℕ). P c (passed ++ [])) (sym (append-nil content)) (subst (λ (p : List ℕ). P content p) (sym (append-nil passed)) h)

pub ended_fault : (old new : BodyReading) (us : List UpdateView) (content passed : List ℕ) (i : Intake) (f : FrameFault) (s : GoesOn old us content passed) → Answers us s.taken (nexts.Fault f) new.reader (piece_intake old.piece) (piece_intake new.piece) → new.body ≡ old.body → new.wire ≡ old.wire
    → Ended (nexts.Fault f) old new us content passed i i
ended_fault old new us content passed i f s answers body wire =
    ended_here (nexts.Fault f) old new us content passed i s body wire (subst (λ (t : List ℕ). HasFault us (seen t) f) (sym s.content_is) (hands_fault us s.taken f old.reader new.reader old.piece new.piece answers))

pub ended_spent : (old new : BodyReading) (us : List UpdateView) (content passed : List ℕ) (i : Intake) (s : GoesOn old us content passed) → Answers us s.taken nexts.Spent new.reader (piece_intake old.piece) (piece_intake new.piece) → new.body ≡ old.body → new.wire ≡ old.wire
    → Ended nexts.Spent old new us content passed i i
ended_spent old new us content passed i s answers body wire =
    ended_here nexts.Spent old new us content passed i s body wire (subst (λ (t : List ℕ). most_bytes ≤ length t) (sym s.content_is) (hands_spent us s.taken old.reader new.reader old.piece new.piece answers).1)

-- what the reader answers behind the end of the data

none_more : (content more : List ℕ) → Some [] ≡ prepend_known more (Some []) → content ≡ content ++ more
none_more content more e = let z : more ≡ [] = nothing more e in sym (ap (λ (t : List ℕ). content ++ t) z ∙ append-nil content)
  where
    nothing : (more : List ℕ) → Some [] ≡ prepend_known more (Some []) → more ≡ []
    nothing [] e = refl
    nothing (x ∷ more) e = absurd (cc)

pub at_end : (next : Next) (us : List UpdateView) (content : List ℕ) (new : Reading) → HaveAll us content → Answers us content next new nothing_left nothing_left → AtEnd next us content
at_end (nexts.Update u) us content new all a = hears_end us content (nexts.Update u) new all a
at_end nexts.End us content new all a = hears_end us content nexts.End new all a
at_end (nexts.Torn at) us content new all a = (hears_end us content (nexts.Torn at) new all a, a.cause.3 ∙ sym (ap length (none_more content a.more a.cause.0.moves.left)))
at_end (nexts.Fault f) us content new all a = hears_end us content (nexts.Fault f) new all a
at_end nexts.ReadFault us content new all a = hears_end us content nexts.ReadFault new all a
at_end nexts.Spent us content new all a = hears_end us content nexts.Spent new all a
at_end nexts.Memory us content new all a = tt

-- A body is read from its first byte on

-- these updates were read of a body of this kind
pub record Read (held : List ℕ) (kind : BodyKind) (s : BodyReading) (us : List UpdateView) (i j : Intake) : Type 0 where
  pub is_kind : s.body.kind ≡ kind
  pub given : List ℕ
  pub passed : List ℕ
  pub content : List ℕ
  pub left : i.left ≡ prepend_known given j.left
  pub faults : j.faults ≡ i.faults
  pub split : held ++ given ≡ passed ++ s.wire.held
  pub on : GoesOn s us content passed
  pub begins : BeginWith us (seen content)

pub read_none : (s : BodyReading) (us : List UpdateView) (i : Intake) → us ≡ [] → GoesOn s [] [] [] → Read s.wire.held s.body.kind s us i i
read_none s us i none on = subst (λ (xs : List UpdateView). Read s.wire.held s.body.kind s xs i i) (sym none) (record {
  is_kind = refl;
  given = [];
  passed = [];
  content = [];
  left = sym (prepend_known-nil i.left);
  faults = refl;
  split = append-nil s.wire.held;
  on = on;
  begins = begin_none (seen []);
})

two_left : (g h : List ℕ) (i j k : Intake) → i.left ≡ prepend_known g j.left → j.left ≡ prepend_known h k.left → i.left ≡ prepend_known (g ++ h) k.left
two_left g h i j k e f = e ∙ ap (prepend_known g) f ∙ prepend_known-append k.left g h

-- one more step
pub read_more : (held : List ℕ) (kind : BodyKind) (s t : BodyReading) (us vs : List UpdateView) (i j k : Intake) (r : Read held kind s us i j) → Went s t vs r.content r.passed j k → t.body.kind ≡ s.body.kind → BeginWith vs (seen r.content) → Read held kind t vs i k
read_more held kind s t us vs i j k r w same begins =
    record {
      is_kind = same ∙ r.is_kind;
      given = r.given ++ w.given;
      passed = r.passed ++ w.used;
      content = r.content ++ w.more;
      left = two_left r.given w.given i j k r.left w.left;
      faults = w.faults ∙ r.faults;
      split = two_steps held r.given r.passed s.wire.held w.given w.used t.wire.held r.split w.whole;
      on = w.on;
      begins = begin_seen_more vs r.content w.more begins;
    }

-- an update that was kept
pub read_next : (held : List ℕ) (kind : BodyKind) (s t : BodyReading) (us vs : List UpdateView) (u : UpdateView) (i j k : Intake) (r : Read held kind s us i j) → Went s t (us ++ u ∷ []) r.content r.passed j k × BeginWith (us ++ u ∷ []) (seen r.content) → t.body.kind ≡ s.body.kind → vs ≡ us ++ u ∷ []
    → Read held kind t vs i k
read_next held kind s t us vs u i j k r w same is = subst (λ (xs : List UpdateView). Read held kind t xs i k) (sym is) (read_more held kind s t us (us ++ u ∷ []) i j k r w.0 same w.1)

-- the end

pub heard_as : (us vs : List UpdateView) (x y : Last) → us ≡ vs → x ≡ y → (let h : Heard = record { updates = us; last = x } in h) ≡ record { updates = vs; last = y }
heard_as us vs x y e f = λ i. record { updates = e i; last = f i }

ends_since : (next : Next) (kind : BodyKind) (us : List UpdateView) (content passed rest : List ℕ) (i j k : Intake) → j.faults ≡ i.faults → EndsData next kind us content passed rest j k → EndsData next kind us content passed rest i k
ends_since (nexts.Update u) kind us content passed rest i j k same e = e
ends_since nexts.End kind us content passed rest i j k same e = e
ends_since (nexts.Torn at) kind us content passed rest i j k same e = e
ends_since (nexts.Fault f) kind us content passed rest i j k same e = e
ends_since nexts.ReadFault kind us content passed rest i j k same (inl e) = inl e
ends_since nexts.ReadFault kind us content passed rest i j k same (inr e) = inr (subst (λ (x : ℕ). (x ≤ k.faults) × Rose x k.faults) same e)
ends_since nexts.Spent kind us content passed rest i j k same e = e
ends_since nexts.Memory kind us content passed rest i j k same e = e

pub read_ends : (held : List ℕ) (kind : BodyKind) (next : Next) (s t : BodyReading) (us : List UpdateView) (heard : Heard) (i j k : Intake) (r : Read held kind s us i j) → Ended next s t us r.content r.passed j k → t.body.kind ≡ s.body.kind
    → heard ≡ record { updates = us; last = Stream next } → ReadsBody kind held heard i k
read_ends held kind next s t us heard i j k r e same is = subst (λ (x : Heard). ReadsBody kind held x i k) (sym is) (record {
  given = r.given ++ e.given;
  passed = r.passed ++ e.used;
  rest = t.wire.held;
  content = r.content ++ e.more;
  left = two_left r.given e.given i j k r.left e.left;
  split = two_steps held r.given r.passed s.wire.held e.given e.used t.wire.held r.split e.whole;
  comes = subst (λ (x : BodyKind). HasData x (r.content ++ e.more) (r.passed ++ e.used)) (same ∙ r.is_kind) e.comes;
  begins = begin_seen_more us r.content e.more r.begins;
  ends = ends_since next kind us (r.content ++ e.more) (r.passed ++ e.used) t.wire.held i j k r.faults (subst (λ (x : BodyKind). EndsData next x us (r.content ++ e.more) (r.passed ++ e.used) t.wire.held j k) (same ∙ r.is_kind) e.ends);
})

-- an update that there was no memory to keep
pub read_unkept : (held : List ℕ) (kind : BodyKind) (s t : BodyReading) (us vs : List UpdateView) (heard : Heard) (i j k : Intake) (r : Read held kind s us i j) → Went s t vs r.content r.passed j k → t.body.kind ≡ s.body.kind
    → heard ≡ record { updates = us; last = Memory } → ReadsBody kind held heard i k
read_unkept held kind s t us vs heard i j k r w same is = subst (λ (x : Heard). ReadsBody kind held x i k) (sym is) (record {
  given = r.given ++ w.given;
  passed = r.passed ++ w.used;
  rest = t.wire.held;
  content = r.content ++ w.more;
  left = two_left r.given w.given i j k r.left w.left;
  split = two_steps held r.given r.passed s.wire.held w.given w.used t.wire.held r.split w.whole;
  comes = subst (λ (x : BodyKind). HasData x (r.content ++ w.more) (r.passed ++ w.used)) (same ∙ r.is_kind) (data_read t.body (r.content ++ w.more) (r.passed ++ w.used) w.on.read);
  begins = begin_seen_more us r.content w.more r.begins;
  ends = tt;
})
