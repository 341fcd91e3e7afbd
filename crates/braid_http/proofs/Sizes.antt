-- How many bytes decide an answer.
use Rattle.std.proofs.Common.{append_assoc, sym, subst, Bool, true, false, codes, nat_lt, ◌==◌, if◌then◌else◌, ◌≡◌, ℕ, ◌+◌, ◌*◌, ◌<◌, ◌≤◌, List, [], ◌∷◌, ◌++◌, inl, inr, refl, ap, ◌∙◌, length, flat_map, arith, length-append}
use Rattle.std.specs.List.{AllByRecursion}
use Rattle.std.specs.Str.{str_eq_ignore_ascii_case}
use Rattle.std.specs.Str.Parse.{digits_value}
use Rattle.std.proofs.lemmas.Bool.Decides.{nat_tests}
use Rattle.httparse.specs.Grammar.{RequestHead}
use Rattle.http_header.specs.HeaderMap.{Entries, get_all}
use Rattle.braid_fields.specs.Values.{are_length_digits}
use Rattle.braid_http.specs.declared.refusal.Refusal.TheVariants.{TooLong, BadLength, Version}
use Rattle.braid_http.specs.Fields.{fields_of}
use Rattle.braid_http.specs.declared.framing.Framing.{Framing}
use Rattle.braid_http.specs.declared.framing.Framing.TheVariants.{No, Body, Chunks}
use Rattle.http_header.specs.FieldValue.{FieldValue}
use Rattle.braid_http.specs.Heads.{HeadText, text_bytes}
use Rattle.braid_http.specs.Framings.{body_of, by_length, by_coding, framing_of, framing}
use Rattle.braid_http.specs.Chunks.{IsCut, Chunk, IsChunk, print_chunk, chunk_data, Close, Closes, last, unread, over, departs, long_trailer, EndsChunked, Departs}
use Rattle.braid_http.specs.Requests.{Says, Answer, Decides, FewBytes, StaysDecided}
use Rattle.braid_http.proofs.LineLaws.{text_some}
use Rattle.braid_http.proofs.ChunkLaws.{cut_of}
use Rattle.braid_http.proofs.Decisions.{Shape, long, headed, shape, Verdict, many, bad, fields, takes, chunks}

-- a chunk line has at most 256 bytes
pub cut_short : (l : List ℕ) → IsCut l → length l ≤ 256
cut_short l (inl x) = x.3
cut_short l (inr x) = let k = x.0 in omega (arith, k)

-- chunks have at most 259 bytes for each byte of their data
pub chunks_short : (cs : List Chunk) → AllByRecursion IsChunk cs → length (flat_map print_chunk cs) ≤ 259 * length (chunk_data cs)
chunks_short [] h = omega arith
chunks_short (c ∷ cs) h =
    let more = chunks_short cs h.1 in
    let line = cut_short c.line h.0.announces.cut in
    let some = h.0.some in
    let all = length-append (print_chunk c) (flat_map print_chunk cs) in
    let one = length-append c.line (c.content ++ 13 ∷ 10 ∷ []) in
    let behind = length-append c.content (13 ∷ 10 ∷ []) in
    let data' = length-append c.content (chunk_data cs) in
    omega (arith, more, line, some, all, one, behind, data')

departs_short : (end : List ℕ) → Departs end → length end ≤ 2
departs_short [] d = absurd d
departs_short (x ∷ []) d = omega arith
departs_short (x ∷ y ∷ []) d = omega arith
departs_short (x ∷ y ∷ z ∷ zs) d = absurd d

-- what stands behind the last line, with the chunks before it
more_short : (most total : ℕ) (line more : List ℕ) (k : Close) → total ≤ most → Closes most total line more k → 259 * total + length more ≤ 259 * most + 16_384
more_short most total line more _ t (last a s) = let l = s.short in omega (arith, t, l)
more_short most total line more _ t (unread c n e) = let l = ap length e in omega (arith, t, l)
more_short most total line more _ t (over n a p q e) = let l = ap length e in omega (arith, t, l)
more_short most total line more _ t (departs content end a p q e d) =
    let l = ap length e ∙ length-append content end in
    let m = departs_short end d in
    omega (arith, t, l, m, q)
more_short most total line more _ t (long_trailer a l n) = omega (arith, t, l)

pub body_short : (most : ℕ) (cs : List Chunk) (k : Close) (b : List ℕ) → EndsChunked most cs k b → length b ≤ 259 * most + 16_640
body_short most cs k b e =
    let front = chunks_short cs e.each in
    let line = cut_short e.line (cut_of _ _ _ _ _ e.closes) in
    let more = more_short _ _ _ _ _ e.fits e.closes in
    let all = ap length e.whole ∙ length-append (flat_map print_chunk cs) (e.line ++ e.more) in
    let behind = length-append e.line e.more in
    omega (arith, front, line, more, all, behind)

-- a body that is announced has at most 2,097,152 bytes
Fits : Framing → Type 0
Fits (No f) = Unit {0}
Fits (Body n) = n ≤ 2_097_152
Fits Chunks = Unit {0}

body_fits : (n : ℕ) → Fits (body_of n)
unfolding Fits
body_fits n = go (nat_lt 2_097_152 n) refl
  where
    go : (b : Bool) → nat_lt 2_097_152 n ≡ b → Fits (if b then No TooLong else Body n)
    go true e = tt
    go false e = grind (arith, nat_tests)

length_fits : (value : List ℕ) → Fits (by_length value)
unfolding Fits
length_fits value = go (are_length_digits value)
  where
    go : (b : Bool) → Fits (if b then body_of (digits_value 10 value) else No BadLength)
    go true = body_fits (digits_value 10 value)
    go false = tt

coding_fits : (value : List ℕ) → Fits (by_coding value)
unfolding Fits
coding_fits value = go (str_eq_ignore_ascii_case value (codes "chunked"))
  where
    go : (b : Bool) → Fits (if b then Chunks else No BadLength)
    go true = tt
    go false = tt

lines_fit : (ls cs : List FieldValue) → Fits (framing_of ls cs)
unfolding Fits
lines_fit [] [] = omega arith
lines_fit (l ∷ []) [] = length_fits l.bytes
lines_fit (l ∷ k ∷ ls) [] = tt
lines_fit [] (c ∷ []) = coding_fits c.bytes
lines_fit [] (c ∷ d ∷ cs) = tt
lines_fit (l ∷ ls) (c ∷ cs) = tt

framing_fits : (minor : ℕ) (map : Entries FieldValue) → Fits (framing minor map)
unfolding Fits
framing_fits minor map = go (minor == 0)
  where
    go : (b : Bool) → Fits (if b then No Version else framing_of (get_all map (codes "content-length")) (get_all map (codes "transfer-encoding")))
    go true = tt
    go false = lines_fit (get_all map (codes "content-length")) (get_all map (codes "transfer-encoding"))

pub said_short : (t : HeadText) (h : RequestHead) (n : ℕ) → Says t h (Body n) → n ≤ 2_097_152
unfolding Fits
said_short t h n s = subst Fits (sym s.framing) (framing_fits h.minor (fields_of h.fields))

pub few_bytes : FewBytes
few_bytes x b p = go (shape x b p)
  where
    of : (t : HeadText) (content : List ℕ) (y : Answer) → Verdict t content y → length content ≤ 543_183_616
    of t content _ (many m e) = let k = ap length e in omega (arith, k)
    of t content _ (bad m n e) = let k = ap length e in omega (arith, k)
    of t content _ (fields h f s e) = let k = ap length e in omega (arith, k)
    of t content _ (takes h s) = let k = said_short t h (length content) s in omega (arith, k)
    of t content _ (chunks h cs k s e) = let l = body_short 2_097_152 cs k content e in omega (arith, l)

    go : Shape x b → length b ≤ 543_200_000
    go (long l n i) = omega (arith, l)
    go (headed h) =
        let k = ap length h.whole ∙ length-append (text_bytes h.text) h.content in
        let l = of h.text h.content x h.verdict in
        let m = h.short in
        omega (arith, k, l, m)

pub stays_decided : StaysDecided
stays_decided x bytes rest more d = record {
  front = d.front;
  decides = d.decides;
  whole = ap (λ z. z ++ more) d.whole ∙ append_assoc d.front rest more;
}

pub decides_some : (x : Answer) (b : List ℕ) → Decides x b → 0 < length b
decides_some x b p = go (shape x b p)
  where
    go : Shape x b → 0 < length b
    go (long l n i) = omega (arith, l)
    go (headed h) =
        let k = ap length h.whole ∙ length-append (text_bytes h.text) h.content in
        let m = text_some h.text h.is in
        omega (arith, k, m)
