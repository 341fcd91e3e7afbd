-- What is heard next of a stream, over as many reads as it takes.
use Rattle.std.proofs.Common.{◌≡◌, ◌≢◌, ◌⊎◌, ◌≤◌, ◌<◌, ◌+◌, ◌-◌, ℕ, List, [], ◌∷◌, ◌++◌, Some, None, refl, ap, sym, subst, ◌∙◌, append_assoc, append-nil, length, length-append, inl, inr, arith}
use Rattle.std.proofs.lemmas.Bool.{cases_lt}
use Rattle.braid_io.specs.Outside.{Intake, Outflow}
use Rattle.braid_change.specs.Updates.{UpdateView}
use Rattle.braid_grammar.specs.Streams.{HaveUpdates, BeginsWith}
use Rattle.braid_frame.specs.Phases.{HasFault}
use Rattle.braid_stream.specs.declared.reading.Reading.{Reading}
use Rattle.braid_stream.specs.Readers.{most_bytes, HasTaken, GoesOn, update}
use Rattle.braid_stream.proofs.AtHand.{no_answer}
use Rattle.braid_http.specs.declared.body.Body.{Body}
use Rattle.braid_http.specs.BodyReads.{HasRead, GoesOn as LivesOn}
use Rattle.braid_http.specs.Asks.{WireView}
use Rattle.braid_sync.specs.Pieces.{PieceView}
use Rattle.braid_sync.specs.declared.hear.Heard.{Heard}
use Rattle.braid_sync.specs.declared.hear.Heard.TheVariants as heards
use Rattle.braid_sync.specs.declared.hear.Stream.{Stream}
use Rattle.braid_sync.specs.Talks.{nothing_failed}
use Rattle.braid_sync.specs.Hearing.{HasData, HaveAll, BeginWith, seen}
use Rattle.braid_sync.specs.Steps.{Does, StreamsOn, AtHand, IsHeard, failing_heard, StreamsNext, Refills, Costs}
use Rattle.braid_sync.proofs.Doing.{does_none, reads_then}
use Rattle.braid_sync.proofs.Streaming.{begin_with, begin_seen}
use Rattle.braid_sync.proofs.Refilling.{data_read}

-- a stream went on from one state to another, and answered nothing
pub record Went (old new : Stream) (us : List UpdateView) (content passed : List ℕ) (i j : Intake) (o p : Outflow) : Type 0 where
  pub given : List ℕ
  pub used : List ℕ
  pub more : List ℕ
  pub does : Does [] given nothing_failed i j o p
  pub whole : old.wire.held ++ given ≡ used ++ new.wire.held
  pub on : StreamsOn new.wire new.body new.reader new.piece us (content ++ more) (passed ++ used)

pub went_none : (s : Stream) (us : List UpdateView) (content passed : List ℕ) (i : Intake) (o : Outflow) → StreamsOn s.wire s.body s.reader s.piece us content passed → Went s s us content passed i i o o
went_none s us content passed i o on =
    record {
      given = [];
      used = [];
      more = [];
      does = does_none i o;
      whole = append-nil s.wire.held;
      on = subst (λ (t : List ℕ). StreamsOn s.wire s.body s.reader s.piece us t (passed ++ [])) (sym (append-nil content)) (subst (λ (t : List ℕ). StreamsOn s.wire s.body s.reader s.piece us content t) (sym (append-nil passed)) on);
    }

-- an update at hand, behind which a stream goes on
on_by_update : (mid new : Stream) (us : List UpdateView) (u : UpdateView) (content passed : List ℕ) (s : StreamsOn mid.wire mid.body mid.reader mid.piece us content passed) → AtHand (Some (heards.Update u)) mid.reader new.reader new.piece us s.taken (s.taken ++ mid.piece.left)
    → new.body ≡ mid.body → new.wire ≡ mid.wire → StreamsOn new.wire new.body new.reader new.piece (us ++ u ∷ []) content passed × BeginWith (us ++ u ∷ []) (seen content)
on_by_update mid new us u content passed s a body wire = (
  record {
    taken = s.taken ++ a.0;
    content_is = s.content_is ∙ a.3;
    has = a.1;
    going = a.2;
    read = subst (λ (x : Body). HasRead x content passed) (sym body) s.read;
    live = subst (λ (x : Body). LivesOn x.state x.kind) (sym body) s.live;
    wire_open = ap (λ (w : WireView). w.over) wire ∙ s.wire_open;
  },
  begin_seen (us ++ u ∷ []) (s.taken ++ a.0) new.piece.left content (s.content_is ∙ a.3) a.1.within (begin_with us u (s.taken ++ a.0) a.4),
)

heard_by : (heard : Heard) (mid new : Stream) (us : List UpdateView) (content passed : List ℕ) (j : Intake) (s : StreamsOn mid.wire mid.body mid.reader mid.piece us content passed) → AtHand (Some heard) mid.reader new.reader new.piece us s.taken (s.taken ++ mid.piece.left)
    → new.body ≡ mid.body → new.wire ≡ mid.wire → IsHeard heard new.wire new.body new.reader new.piece us content passed j × (nothing_failed ≡ failing_heard heard)
heard_by (heards.Update u) mid new us content passed j s a body wire = (on_by_update mid new us u content passed s a body wire, refl)
heard_by heards.Whole mid new us content passed j s a body wire = absurd a
heard_by heards.Cut mid new us content passed j s a body wire = absurd a
heard_by heards.BadChunk mid new us content passed j s a body wire = absurd a
heard_by (heards.Fault f) mid new us content passed j s a body wire = (subst (λ (t : List ℕ). HasFault us (seen t) f) (sym s.content_is) a, refl)
heard_by heards.ReadFault mid new us content passed j s a body wire = absurd a
heard_by heards.Spent mid new us content passed j s a body wire = (subst (λ (t : List ℕ). HaveUpdates us (seen t) × (most_bytes ≤ length t)) (sym s.content_is) a, refl)
heard_by heards.Memory mid new us content passed j s a body wire = (tt, refl)

-- an answer at hand
pub heard_here : (heard : Heard) (old mid new : Stream) (us : List UpdateView) (content passed : List ℕ) (i j : Intake) (o p : Outflow) (w : Went old mid us content passed i j o p) → AtHand (Some heard) mid.reader new.reader new.piece us w.on.taken (w.on.taken ++ mid.piece.left)
    → new.body ≡ mid.body → new.wire ≡ mid.wire → StreamsNext heard old new us content passed i j o p
heard_here heard old mid new us content passed i j o p w a body wire =
    let h = heard_by heard mid new us (content ++ w.more) (passed ++ w.used) j w.on a body wire in
    record {
      given = w.given;
      used = w.used;
      more = w.more;
      does = subst (λ f. Does [] w.given f i j o p) h.1 w.does;
      whole = w.whole ∙ ap (λ (x : WireView). w.used ++ x.held) (sym wire);
      comes = subst (λ (x : Body). HasData x.kind (content ++ w.more) (passed ++ w.used)) (sym body) (data_read mid.body (content ++ w.more) (passed ++ w.used) w.on.read);
      hears = h.0;
    }

-- a piece was used up
pub record Used (fed : Stream) (us : List UpdateView) (content passed : List ℕ) : Type 0 where
  pub on : StreamsOn fed.wire fed.body fed.reader fed.piece us content passed
  pub none : fed.piece.left ≡ []
  pub all : HaveAll us content

pub used_up : (mid fed : Stream) (us : List UpdateView) (content passed : List ℕ) (s : StreamsOn mid.wire mid.body mid.reader mid.piece us content passed) → AtHand None mid.reader fed.reader fed.piece us s.taken (s.taken ++ mid.piece.left)
    → fed.body ≡ mid.body → fed.wire ≡ mid.wire → Used fed us content passed
used_up mid fed us content passed s a body wire =
    record {
      on = record {
        taken = content;
        content_is = sym (ap (λ (t : List ℕ). content ++ t) a.2 ∙ append-nil content);
        has = subst (λ (t : List ℕ). HasTaken us fed.reader t) (sym s.content_is) a.0;
        going = a.1;
        read = subst (λ (x : Body). HasRead x content passed) (sym body) s.read;
        live = subst (λ (x : Body). LivesOn x.state x.kind) (sym body) s.live;
        wire_open = ap (λ (w : WireView). w.over) wire ∙ s.wire_open;
      };
      none = a.2;
      all = subst (HaveAll us) (sym s.content_is) a.3;
    }

-- bytes passed in two steps
pub two_steps : (a g u b h v c : List ℕ) → a ++ g ≡ u ++ b → b ++ h ≡ v ++ c → a ++ (g ++ h) ≡ (u ++ v) ++ c
two_steps a g u b h v c e f = sym (append_assoc a g h) ∙ ap (λ (t : List ℕ). t ++ h) e ∙ append_assoc u b h ∙ ap (λ (t : List ℕ). u ++ t) f ∙ sym (append_assoc u v c)

-- an answer to a read, behind what went before
pub heard_then : (heard : Heard) (old mid fed new : Stream) (us : List UpdateView) (content passed : List ℕ) (i j k : Intake) (o p q : Outflow) (w : Went old mid us content passed i j o p) → fed.wire ≡ mid.wire
    → StreamsNext heard fed new us (content ++ w.more) (passed ++ w.used) j k p q → StreamsNext heard old new us content passed i k o q
heard_then heard old mid fed new us content passed i j k o p q w wire n =
    let c = append_assoc content w.more n.more in let b = append_assoc passed w.used n.used in
    record {
      given = w.given ++ n.given;
      used = w.used ++ n.used;
      more = w.more ++ n.more;
      does = reads_then w.given n.given (failing_heard heard) i j k o p q w.does n.does;
      whole = two_steps old.wire.held w.given w.used mid.wire.held n.given n.used new.wire.held w.whole (ap (λ (x : WireView). x.held ++ n.given) (sym wire) ∙ n.whole);
      comes = subst (λ (t : List ℕ). HasData new.body.kind t (passed ++ (w.used ++ n.used))) c (subst (λ (t : List ℕ). HasData new.body.kind ((content ++ w.more) ++ n.more) t) b n.comes);
      hears = subst (λ (t : List ℕ). IsHeard heard new.wire new.body new.reader new.piece us t (passed ++ (w.used ++ n.used)) k) c (subst (λ (t : List ℕ). IsHeard heard new.wire new.body new.reader new.piece us ((content ++ w.more) ++ n.more) t k) b n.hears);
    }

-- data that came, behind what went before
pub went_then : (old mid fed new : Stream) (us : List UpdateView) (content passed : List ℕ) (i j k : Intake) (o p q : Outflow) (w : Went old mid us content passed i j o p) → fed.wire ≡ mid.wire
    → Refills None fed new us (content ++ w.more) (passed ++ w.used) j k p q → Went old new us content passed i k o q
went_then old mid fed new us content passed i j k o p q w wire r =
    record {
      given = w.given ++ r.0;
      used = w.used ++ r.1;
      more = w.more ++ r.2;
      does = reads_then w.given r.0 nothing_failed i j k o p q w.does r.3;
      whole = two_steps old.wire.held w.given w.used mid.wire.held r.0 r.1 new.wire.held w.whole (ap (λ (x : WireView). x.held ++ r.0) (sym wire) ∙ r.4);
      on = subst (λ (t : List ℕ). StreamsOn new.wire new.body new.reader new.piece us t (passed ++ (w.used ++ r.1))) (append_assoc content w.more r.2) (subst (λ (t : List ℕ). StreamsOn new.wire new.body new.reader new.piece us ((content ++ w.more) ++ r.2) t) (append_assoc passed w.used r.1) r.5);
    }

-- What an update costs.

-- a reader that has used up a piece since
pub record Past (old now : Reading) : Type 0 where
  pub us : List UpdateView
  pub taken : List ℕ
  pub has : HasTaken us now taken
  pub going : GoesOn now
  pub have : HaveUpdates us taken
  pub behind : old.read ≤ now.read

pub costs_first : (old new : Reading) (rest : PieceView) (us : List UpdateView) (u : UpdateView) (taken all : List ℕ) → HasTaken us old taken → AtHand (Some (heards.Update u)) old new rest us taken all → Costs old new
costs_first old new rest us u taken all h a =
    let size = length-append taken a.0 in
    let count = a.1.count in
    let before = h.count in
    let within = a.1.within in
    let cost = a.5 in
    elim (cases_lt old.read new.read) [
      | inl more ↦ (omega arith, inl more)
      | inr none ↦ let same : new.read ≡ old.read = omega arith in let held : length new.held < length old.held = omega arith in (omega arith, inr (same, held))
    ]

some_front : (us : List UpdateView) (u : UpdateView) (taken front : List ℕ) → HaveUpdates us taken → BeginsWith us u (taken ++ front) → 0 < length front
some_front us u taken [] h b = absurd (no_answer us taken h (update u (subst (BeginsWith us u) (append-nil taken) b)))
some_front us u taken (x ∷ front) h b = omega arith

pub costs_later : (old mid new : Reading) (rest : PieceView) (u : UpdateView) (left : List ℕ) (past : Past old mid) → AtHand (Some (heards.Update u)) mid new rest past.us past.taken (past.taken ++ left) → Costs old new
costs_later old mid new rest u left past a =
    let size = length-append past.taken a.0 in
    let some = some_front past.us u past.taken a.0 past.have a.4 in
    let count = a.1.count in
    let before = past.has.count in
    let within = a.1.within in
    let behind = past.behind in
    let more : old.read < new.read = omega arith in
    (omega arith, inl more)

-- an update at hand, whatever came before it
pub costs_of : (heard : Heard) (u : UpdateView) (old mid new : Stream) (us : List UpdateView) (content passed : List ℕ) → heard ≡ heards.Update u → StreamsOn mid.wire mid.body mid.reader mid.piece us content passed
    → ((us : List UpdateView) (taken : List ℕ) → HasTaken us mid.reader taken → GoesOn mid.reader → AtHand (Some heard) mid.reader new.reader new.piece us taken (taken ++ mid.piece.left)) → (mid.reader ≡ old.reader) ⊎ Past old.reader mid.reader → Costs old.reader new.reader
costs_of heard u old mid new us content passed e s hears (inl same) =
    let a : AtHand (Some (heards.Update u)) mid.reader new.reader new.piece us s.taken (s.taken ++ mid.piece.left) =
    subst (λ (h : Heard). AtHand (Some h) mid.reader new.reader new.piece us s.taken (s.taken ++ mid.piece.left)) e (hears us s.taken s.has s.going) in
    subst (λ (r : Reading). Costs r new.reader) same (costs_first mid.reader new.reader new.piece us u s.taken (s.taken ++ mid.piece.left) s.has a)
costs_of heard u old mid new us content passed e s hears (inr past) =
    let a : AtHand (Some (heards.Update u)) mid.reader new.reader new.piece past.us past.taken (past.taken ++ mid.piece.left) =
    subst (λ (h : Heard). AtHand (Some h) mid.reader new.reader new.piece past.us past.taken (past.taken ++ mid.piece.left)) e (hears past.us past.taken past.has past.going) in
    costs_later old.reader mid.reader new.reader new.piece u mid.piece.left past a

pub past_by : (old mid fed new : Stream) (us : List UpdateView) (content passed : List ℕ) → StreamsOn mid.wire mid.body mid.reader mid.piece us content passed → Used fed us content passed → new.reader ≡ fed.reader → (mid.reader ≡ old.reader) ⊎ Past old.reader mid.reader → Past old.reader new.reader
past_by old mid fed new us content passed s d e h =
    let before : old.reader.read ≤ mid.reader.read =
    elim h [ inl same ↦ omega (arith, ap (λ (x : Reading). x.read) same) | inr past ↦ past.behind ] in
    let here = s.has.count in
    let there = d.on.has.count in
    let size = ap length s.content_is in
    let all = ap length d.on.content_is in
    let none = ap length d.none in
    let parts = length-append s.taken mid.piece.left in
    let whole = length-append d.on.taken fed.piece.left in
    record {
      us = us;
      taken = d.on.taken;
      has = subst (λ (x : Reading). HasTaken us x d.on.taken) (sym e) d.on.has;
      going = ap (λ (x : Reading). x.ended) e ∙ d.on.going;
      have = subst (HaveUpdates us) (d.on.content_is ∙ ap (λ (t : List ℕ). d.on.taken ++ t) d.none ∙ append-nil d.on.taken) d.all.have;
      behind = omega (arith, ap (λ (x : Reading). x.read) e);
    }

some_of : (xs : List ℕ) → xs ≢ [] → 0 < length xs
some_of [] n = absurd (n refl)
some_of (x ∷ xs) n = omega arith

less : (m r s a b : ℕ) → s ≡ r + a → s ≤ m → 1 ≤ b → m - s + (1 - b) < m - r + (1 - a)
less m r s a b e w l = omega arith

-- each read brings data, or the data before was taken: so there are only so many
pub falls : (mid fed new : Stream) (us : List UpdateView) (content passed more used : List ℕ) → StreamsOn mid.wire mid.body mid.reader mid.piece us content passed → Used fed us content passed → new.reader ≡ fed.reader → more ≢ []
    → StreamsOn new.wire new.body new.reader new.piece us (content ++ more) used → most_bytes - new.reader.read + (1 - length new.piece.left) < most_bytes - mid.reader.read + (1 - length mid.piece.left)
falls mid fed new us content passed more used s d e some n =
    let read = ap (λ (x : Reading). x.read) e in
    let here = s.has.count in
    let there = d.on.has.count in
    let later = n.has.count in
    let within = n.has.within in
    let size = ap length s.content_is ∙ length-append s.taken mid.piece.left in
    let all = ap length d.on.content_is ∙ length-append d.on.taken fed.piece.left in
    let none = ap length d.none in
    let whole = sym (length-append content more) ∙ ap length n.content_is ∙ length-append n.taken new.piece.left in
    let came = some_of more some in
    less most_bytes mid.reader.read new.reader.read (length mid.piece.left) (length new.piece.left) (omega (arith, read, here, there, size, all, none)) (omega (arith, later, within)) (omega (arith, read, there, later, all, none, whole, came))
