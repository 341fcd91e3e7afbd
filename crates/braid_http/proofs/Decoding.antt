-- A chunked body is decoded as its bytes come.
use Rattle.std.proofs.Common.{◌≡◌, ◌≢◌, ℕ, ◌+◌, ◌-◌, ◌*◌, ◌<◌, ◌≤◌, append_assoc, List, [], ◌++◌, refl, ap, sym, subst, ◌∙◌, length, take, drop, flat_map, arith, length-append, append-nil, length-take, length-drop}
use Rattle.std.proofs.lemmas.List.{take-append-drop}
use Rattle.braid_io.specs.Outside.{Intake, Moves}
use Rattle.braid_http.specs.declared.stop.Stop.TheVariants as stops
use Rattle.braid_http.specs.declared.refusal.Refusal.{Refusal}
use Rattle.braid_http.specs.declared.refusal.Refusal.TheVariants.{LongHead, ManyFields, BadHead, Version, BothLengths, BadLength, TooLong, BadChunk}
use Rattle.braid_http.specs.declared.framing.Framing.TheVariants.{Chunks}
use Rattle.braid_http.specs.declared.reading.Ready.{Ready}
use Rattle.braid_http.specs.declared.chunks.Place.{Place}
use Rattle.braid_http.specs.declared.chunks.Place.TheVariants.{Line, Data, Trailer}
use Rattle.braid_http.specs.declared.chunks.Fed.TheVariants.{Passed, Open, Done, Refused}
use Rattle.braid_http.specs.Chunks.{print_chunk}
use Rattle.braid_http.specs.Requests.{refused, bad_chunks, long_chunks, Says, IsOpen}
use Rattle.braid_http.specs.Steps.{IsAfter, IsPlace, Leaves}
use Rattle.braid_http.specs.Asks.{Took}
use Rattle.braid_http.specs.Waits.{IsReady, Stops, TookChunks}
use Rattle.braid_http.proofs.Looking.{looked_more}
use Rattle.braid_http.proofs.Openness.{open_chunked}
use Rattle.braid_http.proofs.Sizes.{chunks_short, cut_short}
use Rattle.braid_http.proofs.Waiting.{took_none, took_more, answers, front_is}

-- `count` bytes of a body were passed behind the head; the others are held
pub record Chunking (head start : List ℕ) (place : Place) (count : ℕ) (held out : List ℕ) (old new : Intake) : Type 0 where
  pub passed : List ℕ
  pub all : List ℕ
  pub took : Took start all old new
  pub whole : all ≡ (head ++ passed) ++ held
  pub count_is : count ≡ length passed
  pub after : IsAfter place passed out
  pub placed : IsPlace place held

pub chunk_start : (r : Ready) (start : List ℕ) (i : Intake) → Chunking (take r.used start) start Line 0 (drop r.used start) [] i i
chunk_start r start i = record {
  passed = [];
  all = start;
  took = took_none start i;
  whole = sym (take-append-drop r.used start) ∙ ap (λ z. z ++ drop r.used start) (sym (append-nil (take r.used start)));
  count_is = refl;
  after = record { chunks = []; each = tt; fits = omega arith; passed_is = refl; out_is = refl };
  placed = tt;
}

pub chunk_passed : (head start held out new : List ℕ) (place next : Place) (n count : ℕ) (i j : Intake) (c : Chunking head start place count held out i j) → Leaves (Passed n next) c.passed held out new
    → Chunking head start next (count + n) (drop n held) new i j
chunk_passed head start held out new place next n count i j c l = record {
  passed = c.passed ++ take n held;
  all = c.all;
  took = c.took;
  whole = c.whole ∙ ap (λ z. (head ++ c.passed) ++ z) (sym (take-append-drop n held)) ∙ regroup head c.passed (take n held) (drop n held);
  count_is = (let k = c.count_is in let s = length-append c.passed (take n held) in let t = length-take n held in let w = l.1 in omega (arith, k, s, t, w));
  after = l.2;
  placed = l.3;
}
  where
    regroup : (a b c e : List ℕ) → (a ++ b) ++ (c ++ e) ≡ (a ++ (b ++ c)) ++ e
    regroup a b c e = simp append_assoc

-- how many bytes were passed at most
after_short : (place : Place) (passed out : List ℕ) → IsAfter place passed out → length passed ≤ 543_162_624
after_short Line passed out a =
    let s = chunks_short a.chunks a.each in
    let p = ap length a.passed_is in
    let f = a.fits in
    omega (arith, s, p, f)
after_short (Data left) passed out a =
    let s = chunks_short a.chunks a.each in
    let p = ap length a.passed_is ∙ length-append (flat_map print_chunk a.chunks) (a.line ++ a.begun) in
    let q = length-append a.line a.begun in
    let c = cut_short a.line a.announces.cut in
    let f = a.fits in
    omega (arith, s, p, q, c, f)
after_short (Trailer look) passed out a =
    let s = chunks_short a.chunks a.each in
    let p = ap length a.passed_is ∙ length-append (flat_map print_chunk a.chunks) a.line in
    let c = cut_short a.line a.announces.cut in
    let f = a.fits in
    omega (arith, s, p, c, f)

pub count_short : (head start held out : List ℕ) (place : Place) (count : ℕ) (i j : Intake) → Chunking head start place count held out i j → count ≤ 543_162_624
count_short head start held out place count i j c = let k = c.count_is in let s = after_short place c.passed out c.after in omega (arith, k, s)

-- the bytes that are there decide nothing
pub chunk_open : (r : Ready) (start held out new : List ℕ) (place next : Place) (count : ℕ) (i j : Intake) (c : Chunking (take r.used start) start place count held out i j) → IsReady r start → r.framing ≡ Chunks
    → Leaves (Open next) c.passed held out new → IsOpen c.all
chunk_open r start held out new place next count i j c y f l =
    let whole : c.all ≡ y.front ++ (c.passed ++ held) = c.whole ∙ ap (λ z. (z ++ c.passed) ++ held) (front_is r start y) ∙ append_assoc y.front c.passed held in
    open_chunked c.all y.front (c.passed ++ held) y.text y.read y.is (subst (Says y.text y.read) f y.says) whole l.0

place_more : (place : Place) (held piece : List ℕ) → IsPlace place held → IsPlace place (held ++ piece)
place_more Line held piece p = tt
place_more (Data left) held piece p = tt
place_more (Trailer look) held piece p = looked_more look held piece p

-- a piece more was read
pub chunk_read : (r : Ready) (start held out new kept piece : List ℕ) (place next : Place) (count : ℕ) (i j k : Intake) (c : Chunking (take r.used start) start place count held out i j) → IsReady r start → r.framing ≡ Chunks
    → Leaves (Open next) c.passed held out new → piece ≢ [] → kept ≡ held ++ piece → Moves piece j k → Chunking (take r.used start) start next count kept new i k
chunk_read r start held out new kept piece place next count i j k c y f l some e m = record {
  passed = c.passed;
  all = c.all ++ piece;
  took = took_more start c.all (c.all ++ piece) piece i j k c.took (chunk_open r start held out new place next count i j c y f l) some refl m;
  whole = ap (λ z. z ++ piece) c.whole ∙ append_assoc (take r.used start ++ c.passed) held piece ∙ ap (λ z. (take r.used start ++ c.passed) ++ z) (sym e);
  count_is = c.count_is;
  after = l.3;
  placed = subst (IsPlace next) (sym e) (place_more next held piece l.4);
}

-- the body is whole
pub chunk_done : (head start held out new : List ℕ) (place : Place) (n count : ℕ) (i j : Intake) (c : Chunking head start place count held out i j) → Leaves (Done n) c.passed held out new → TookChunks new head start (drop n held) i j
chunk_done head start held out new place n count i j c l = record {
  all = c.all;
  body = c.passed ++ take n held;
  took = c.took;
  is = l.1;
  whole = c.whole ∙ ap (λ z. (head ++ c.passed) ++ z) (sym (take-append-drop n held)) ∙ regroup head c.passed (take n held) (drop n held);
}
  where
    regroup : (a b c e : List ℕ) → (a ++ b) ++ (c ++ e) ≡ (a ++ (b ++ c)) ++ e
    regroup a b c e = simp append_assoc

-- the bytes are against a body
pub chunk_refused : (r : Ready) (start held out new : List ℕ) (place : Place) (count : ℕ) (f : Refusal) (i j : Intake) (c : Chunking (take r.used start) start place count held out i j) → IsReady r start → r.framing ≡ Chunks
    → Leaves (Refused f) c.passed held out new → Stops (stops.Refused f) start held i j
chunk_refused r start held out new place count f i j c y is l = go f l
  where
    there : (front rest : List ℕ) → c.passed ++ held ≡ front ++ rest → c.all ≡ (y.front ++ front) ++ rest
    there front rest e = c.whole ∙ ap (λ z. (z ++ c.passed) ++ held) (front_is r start y) ∙ append_assoc y.front c.passed held ∙ ap (λ z. y.front ++ z) e ∙ sym (append_assoc y.front front rest)

    says : Says y.text y.read Chunks
    says = subst (Says y.text y.read) is y.says

    go : (f : Refusal) → Leaves (Refused f) c.passed held out new → Stops (stops.Refused f) start held i j
    go BadChunk a = (
      a.rest,
      answers (refused BadChunk) start c.all a.rest i j c.took
          (record { front = y.front ++ a.front; decides = bad_chunks (y.front ++ a.front) y.front a.front y.text y.read a.chunks y.is says a.ends refl; whole = there a.front a.rest a.whole }),
    )
    go TooLong a = (
      a.rest,
      answers (refused TooLong) start c.all a.rest i j c.took
          (record { front = y.front ++ a.front; decides = long_chunks (y.front ++ a.front) y.front a.front y.text y.read a.chunks y.is says a.ends refl; whole = there a.front a.rest a.whole }),
    )
    go LongHead a = absurd a
    go ManyFields a = absurd a
    go BadHead a = absurd a
    go Version a = absurd a
    go BothLengths a = absurd a
    go BadLength a = absurd a

-- what the decoding falls by
pub falls : (n count : ℕ) (held kept : List ℕ) → kept ≡ drop n held → 0 < n → n ≤ length held → count + n ≤ 543_162_624
    → 3 * (543_162_624 - (count + n)) + (16_384 - length kept) < 3 * (543_162_624 - count) + (16_384 - length held)
falls n count held kept e some within short =
    let k = ap length e in
    let d = length-drop n held in
    omega (arith, k, d, some, within, short)
