-- Bytes are read onto those held.
use Rattle.std.proofs.Common.{◌≡◌, ◌≢◌, ℕ, ◌+◌, ◌-◌, ◌<◌, ◌≤◌, append_assoc, List, [], ◌∷◌, ◌++◌, inl, inr, refl, ap, sym, subst, ◌∙◌, length, take, drop, arith, length-append, append-nil, length-take, length-drop, Option, None, Some, Result, Ok, Err, IfErr}
use Rattle.std.specs.Io.KnownBytes.{append_known, prepend_known}
use Rattle.std.proofs.lemmas.List.{take_at, drop_at, take-append-drop, drop-drop}
use Rattle.braid_io.specs.Outside.{Intake, Moves, Rose}
use Rattle.braid_io.proofs.Known.{append_known-append}
use Rattle.httparse.specs.Grammar.{RequestHead}
use Rattle.braid_http.specs.declared.stop.Stop.{Stop}
use Rattle.braid_http.specs.declared.stop.Stop.TheVariants as stops
use Rattle.braid_http.specs.declared.request.Request.{Request as Requested}
use Rattle.braid_http.specs.declared.request.Asked.{Asked}
use Rattle.braid_http.specs.declared.request.Asked.TheVariants.{Request, End, Refused, Torn, ReadFault, Memory}
use Rattle.braid_http.specs.declared.refusal.Refusal.{Refusal}
use Rattle.braid_http.specs.declared.refusal.Refusal.TheVariants.{LongHead}
use Rattle.braid_http.specs.declared.framing.Framing.TheVariants.{No, Body, Chunks}
use Rattle.braid_http.specs.declared.reading.Ready.{Ready}
use Rattle.braid_http.specs.Heads.{HeadText, IsHead, HasNoHead}
use Rattle.braid_http.specs.Framings.{closes}
use Rattle.braid_http.specs.HeadReads.{Holds}
use Rattle.braid_http.specs.Requests.{Answer, asked, refused, by_fields, whole, chunked, request_of, Says, IsDecided, IsOpen}
use Rattle.braid_http.specs.Asks.{Took, TookAndFailed, WasNeeded, Answers, Asks}
use Rattle.braid_http.specs.Waits.{IsReady, Judges, Stops, Breaks, BreaksHead, OpenBelow, TookChunks}
use Rattle.braid_http.proofs.LineLaws.{text_some}
use Rattle.braid_http.proofs.Openness.{open_body}
use Rattle.braid_http.proofs.Sizes.{few_bytes}
use Rattle.braid_http.proofs.Judging.{refuse_long}

pub moves_none : (i : Intake) → Moves [] i i
moves_none i = record { taken = none i.taken; left = front i.left; faults = refl }
  where
    none : (o : Option (List ℕ)) → o ≡ append_known o []
    none None = refl
    none (Some xs) = ap Some (sym (append-nil xs))

    front : (o : Option (List ℕ)) → o ≡ prepend_known [] o
    front None = refl
    front (Some xs) = refl

pub prepend-prepend : (a b : List ℕ) (o : Option (List ℕ)) → prepend_known a (prepend_known b o) ≡ prepend_known (a ++ b) o
prepend-prepend a b None = refl
prepend-prepend a b (Some xs) = ap Some (sym (append_assoc a b xs))

pub moves_both : (a b : List ℕ) (i j k : Intake) → Moves a i j → Moves b j k → Moves (a ++ b) i k
moves_both a b i j k x y = record {
  taken = y.taken ∙ ap (λ z. append_known z b) x.taken ∙ append_known-append i.taken a b;
  left = x.left ∙ ap (prepend_known a) y.left ∙ prepend-prepend a b k.left;
  faults = y.faults ∙ x.faults;
}

pub took_none : (held : List ℕ) (i : Intake) → Took held held i i
took_none held i = record { got = []; all_is = sym (append-nil held); moves = moves_none i; needed = inl refl }

-- one piece more
pub took_more : (held all kept piece : List ℕ) (i j k : Intake) → Took held all i j → IsOpen all → piece ≢ [] → kept ≡ all ++ piece → Moves piece j k → Took held kept i k
took_more held all kept piece i j k t o some e m = record {
  got = t.got ++ piece;
  all_is = e ∙ ap (λ z. z ++ piece) t.all_is ∙ append_assoc held t.got piece;
  moves = moves_both t.got piece i j k t.moves m;
  needed = inr (t.got, piece, refl, some, rw t.all_is at o);
}

-- what was read before, and what was read then
needed_both : (held a b : List ℕ) → WasNeeded held a → WasNeeded (held ++ a) b → WasNeeded held (a ++ b)
needed_both held a b n (inl e) = rw (e, append-nil) n
needed_both held a b n (inr (front, piece, e, some, o)) =
    inr (a ++ front, piece, ap (λ z. a ++ z) e ∙ sym (append_assoc a front piece), some, rw (append_assoc held a front) at o)

pub took_both : (held mid all : List ℕ) (i j k : Intake) → Took held mid i j → Took mid all j k → Took held all i k
took_both held mid all i j k t u = record {
  got = t.got ++ u.got;
  all_is = u.all_is ∙ ap (λ z. z ++ u.got) t.all_is ∙ append_assoc held t.got u.got;
  moves = moves_both t.got u.got i j k t.moves u.moves;
  needed = needed_both held t.got u.got t.needed (rw t.all_is at u.needed);
}

pub failed_after : (held mid all : List ℕ) (i j k : Intake) → Took held mid i j → TookAndFailed mid all j k → TookAndFailed held all i k
failed_after held mid all i j k t u = record {
  got = t.got ++ u.got;
  all_is = u.all_is ∙ ap (λ z. z ++ u.got) t.all_is ∙ append_assoc held t.got u.got;
  taken = u.taken ∙ ap (λ z. append_known z u.got) t.moves.taken ∙ append_known-append i.taken t.got u.got;
  left = t.moves.left ∙ ap (prepend_known t.got) u.left ∙ prepend-prepend t.got u.got k.left;
  never_falls = let f = t.moves.faults in let g = u.never_falls in omega (arith, f, g);
  rose = rw t.moves.faults at u.rose;
  needed = needed_both held t.got u.got t.needed (rw t.all_is at u.needed);
}

-- a read failed
failed_now : (held all : List ℕ) (i j k : Intake) → Took held all i j → k.taken ≡ j.taken → k.left ≡ j.left → j.faults ≤ k.faults → Rose j.faults k.faults → TookAndFailed held all i k
failed_now held all i j k t taken left never rose = record {
  got = t.got;
  all_is = t.all_is;
  taken = taken ∙ t.moves.taken;
  left = t.moves.left ∙ ap (prepend_known t.got) (sym left);
  never_falls = let f = t.moves.faults in omega (arith, f, never);
  rose = rw t.moves.faults at rose;
  needed = t.needed;
}

same_end : (held all : List ℕ) (i j k : Intake) → Took held all i j → k ≡ j → Took held all i k
same_end held all i j k t s = rw s t

-- an answer after bytes that were read before
pub after_took : (x : Asked) (held mid kept : List ℕ) (i j k : Intake) → Took held mid i j → Asks x mid kept j k → Asks x held kept i k
after_took (Request q) held mid kept i j k t a = record { all = a.all; took = took_both held mid a.all i j k t a.took; decided = a.decided; short = a.short }
after_took End held mid kept i j k t a = (took_both held mid [] i j k t a.0, a.1, a.2)
after_took (Refused f) held mid kept i j k t a = (a.0, record { all = a.1.all; took = took_both held mid a.1.all i j k t a.1.took; decided = a.1.decided; short = a.1.short })
after_took Torn held mid kept i j k t a = (a.0, took_both held mid a.0 i j k t a.1, a.2, a.3, a.4)
after_took ReadFault held mid kept i j k t a = (a.0, failed_after held mid a.0 i j k t a.1, a.2)
after_took Memory held mid kept i j k t a = (a.0, a.1, took_both held mid a.0 i j k t a.2, a.3)

-- a read inside a request gave nothing
pub breaks : (s : Stop) (start all front held kept : List ℕ) (i j k : Intake) → Took start all i j → all ≡ front ++ held → IsOpen all → all ≢ [] → Breaks s held kept j k → Stops s start kept i k
breaks stops.End start all front held kept i j k t e o some b = absurd b
breaks (stops.Refused f) start all front held kept i j k t e o some b = absurd b
breaks stops.Torn start all front held kept i j k t e o some b = (all, same_end start all i j k t b.1, some, o, rw b.1 b.2)
breaks stops.ReadFault start all front held kept i j k t e o some b = (all, failed_now start all i j k t b.1 b.2 b.3 b.4, o)
breaks stops.Memory start all front held kept i j k t e o some b = (all, front, same_end start all i j k t b.1, e ∙ ap (λ z. front ++ z) (sym b.0))

-- a read for a head gave nothing
pub breaks_head : (s : Stop) (start held kept : List ℕ) (i j k : Intake) → Took start held i j → IsOpen held → BreaksHead s held kept j k → Stops s start kept i k
breaks_head stops.End start held kept i j k t o b = (same_end start [] i j k (rw b.0 at t) b.1.1, b.1.0 ∙ b.0, rw b.1.1 b.1.2)
breaks_head (stops.Refused f) start held kept i j k t o b = absurd b
breaks_head stops.Torn start held kept i j k t o b = (held, same_end start held i j k t b.1.1, b.0, o, rw b.1.1 b.1.2)
breaks_head stops.ReadFault start held kept i j k t o b = (held, failed_now start held i j k t b.1 b.2 b.3 b.4, o)
breaks_head stops.Memory start held kept i j k t o b = (held, [], same_end start held i j k t b.1, sym b.0)

-- an answer is decided
pub answers : (x : Answer) (held all kept : List ℕ) (i j : Intake) → Took held all i j → IsDecided x all kept → Answers x held kept i j
answers x held all kept i j t d = record { all = all; took = t; decided = d; short = few_bytes x d.front d.decides }

-- a head that came gives no request
pub judged : (s : Stop) (start held : List ℕ) (i j : Intake) → Took start held i j → Judges s held → Stops s start held i j
judged stops.End start held i j t d = absurd d
judged (stops.Refused f) start held i j t d = (d.0, answers (refused f) start held d.0 i j t d.1)
judged stops.Torn start held i j t d = absurd d
judged stops.ReadFault start held i j t d = absurd d
judged stops.Memory start held i j t d = (held, [], t, refl)

-- the same of what a call gave
pub if_judged : {T : Type 0} (r : Result T Stop) (start bytes held : List ℕ) (i j : Intake) → Took start held i j → bytes ≡ held → IfErr r (λ s. Judges s bytes) → IfErr r (λ s. Stops s start held i j)
if_judged (Ok x) start bytes held i j t e d = tt
if_judged (Err s) start bytes held i j t e d = judged s start held i j t (rw e at d)

pub head_some : (b : List ℕ) (t : HeadText) → IsHead 16_384 b t → 0 < length b
head_some b t i = let k = ap length i.spelled in let m = text_some t i.text in omega (arith, k, m)

pub ready_some : (r : Ready) (bytes : List ℕ) → IsReady r bytes → bytes ≢ []
ready_some r bytes y e =
    let a = ap length e in
    let b = ap length y.whole ∙ length-append y.front y.rest in
    let c = head_some y.front y.text y.is in
    omega (arith, a, b, c)

-- a head came whole, and not yet its body
pub ready_open : (r : Ready) (bytes : List ℕ) (n size : ℕ) → IsReady r bytes → r.framing ≡ Body n → size ≡ r.used + n → OpenBelow size bytes
ready_open r bytes n size y f w more l =
    let k : bytes ++ more ≡ y.front ++ (y.rest ++ more) = ap (λ z. z ++ more) y.whole ∙ append_assoc y.front y.rest more in
    let m = ap length k ∙ length-append y.front (y.rest ++ more) in
    let u = y.used_is in
    open_body (bytes ++ more) y.front (y.rest ++ more) y.text y.read n y.is (subst (Says y.text y.read) f y.says) k (omega (arith, l, w, m, u))

-- still fewer bytes than the message has
pub still_open : (bytes all : List ℕ) (size : ℕ) (i j : Intake) → OpenBelow size bytes → Took bytes all i j → length all < size → IsOpen all
still_open bytes all size i j o t l = rw t.all_is (o t.got (rw t.all_is at l))

pub still_some : (bytes all : List ℕ) (i j : Intake) → Took bytes all i j → bytes ≢ [] → all ≢ []
still_some bytes all i j t some e = some (front bytes t.got (sym t.all_is ∙ e))
  where
    front : (xs ys : List ℕ) → xs ++ ys ≡ [] → xs ≡ []
    front [] ys e = refl
    front (x ∷ xs) ys e = absurd (cc)

-- fields that are refused
pub refused_fields : (r : Ready) (bytes : List ℕ) (f : Refusal) (y : IsReady r bytes) → r.framing ≡ No f → IsDecided (refused f) bytes y.rest
refused_fields r bytes f y e = record {
  front = y.front;
  decides = by_fields y.front y.text y.read f y.is (subst (Says y.text y.read) e y.says);
  whole = y.whole;
}

-- 16,384 bytes without a head
pub long_stops : (start held : List ℕ) (i j : Intake) → Took start held i j → 16_384 ≤ length held → HasNoHead held → Stops (stops.Refused LongHead) start held i j
long_stops start held i j t l n = let d = refuse_long held l (λ u rest k e. absurd (n u rest k e)) in (d.0, answers (refused LongHead) start held d.0 i j t d.1)

-- the parts of a request
pub same_request : (q : Requested) (r : Ready) (h : RequestHead) (body content : List ℕ) → Holds r.head h → body ≡ content
    → q ≡ record { method = r.head.method; target = r.head.target.items; fields = r.head.fields; close = closes r.head.fields; body = body } → q ≡ request_of h content
same_request q r h body content holds b e =
    e ∙ (λ x. record { method = holds.method x; target = holds.target x; fields = holds.fields x; close = closes (holds.fields x); body = b x })

-- a body of a length was read
pub asked_body : (start all body : List ℕ) (i j : Intake) (r : Ready) (n size : ℕ) (q : Requested) → Took start all i j → IsReady r start → r.framing ≡ Body n → size ≡ r.used + n → size ≤ length all
    → body ≡ take (size - r.used) (drop r.used all)
    → q ≡ record { method = r.head.method; target = r.head.target.items; fields = r.head.fields; close = closes r.head.fields; body = body }
    → Answers (asked q) start (drop size all) i j
asked_body start all body i j r n size q t y f w l b e =
    let whole_is : all ≡ y.front ++ (y.rest ++ t.got) = t.all_is ∙ ap (λ z. z ++ t.got) y.whole ∙ append_assoc y.front y.rest t.got in
    let behind : drop r.used all ≡ y.rest ++ t.got = ap (λ z. drop z all) y.used_is ∙ ap (drop (length y.front)) whole_is ∙ drop_at y.front (y.rest ++ t.got) (length y.front) refl in
    let content = take n (drop r.used all) in
    let short : size - r.used ≡ n = omega (arith, w) in
    let body_is : body ≡ content = b ∙ ap (λ z. take z (drop r.used all)) short in
    let sizes = length-take n (drop r.used all) in
    let left = length-drop r.used all in
    let long : length content ≡ n = omega (arith, sizes, left, w, l) in
    let says : Says y.text y.read (Body (length content)) = rw long (subst (Says y.text y.read) f y.says) in
    let rest_is : drop n (drop r.used all) ≡ drop size all = drop-drop n r.used all ∙ ap (λ z. drop z all) (sym w) in
    answers (asked q) start all (drop size all) i j t
    (record {
      front = y.front ++ content;
      decides = rw (same_request q r y.read body content y.holds body_is e) (whole (y.front ++ content) y.front content y.text y.read y.is says refl);
      whole = whole_is ∙ ap (λ z. y.front ++ z) (sym behind ∙ sym (take-append-drop n (drop r.used all)) ∙ ap (λ z. content ++ z) rest_is) ∙ sym (append_assoc y.front content (drop size all));
    })

pub front_is : (r : Ready) (start : List ℕ) (y : IsReady r start) → take r.used start ≡ y.front
front_is r start y = ap (λ z. take z start) y.used_is ∙ ap (take (length y.front)) y.whole ∙ take_at y.front y.rest (length y.front) refl

-- a chunked body was read
pub asked_chunked : (start kept content : List ℕ) (i j : Intake) (r : Ready) (q : Requested) → TookChunks content (take r.used start) start kept i j → IsReady r start → r.framing ≡ Chunks
    → q ≡ record { method = r.head.method; target = r.head.target.items; fields = r.head.fields; close = closes r.head.fields; body = content }
    → Answers (asked q) start kept i j
asked_chunked start kept content i j r q c y f e =
    answers (asked q) start c.all kept i j c.took
    (record {
      front = y.front ++ c.body;
      decides = rw (same_request q r y.read content content y.holds refl e) (chunked (y.front ++ c.body) y.front c.body content y.text y.read y.is (subst (Says y.text y.read) f y.says) c.is refl);
      whole = c.whole ∙ ap (λ z. (z ++ c.body) ++ kept) (front_is r start y);
    })
