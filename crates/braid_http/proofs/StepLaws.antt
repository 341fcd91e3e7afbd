-- The steps of decoding a chunked body.
use Rattle.std.proofs.Common.{◌≡◌, ◌≢◌, ℕ, ◌+◌, ◌-◌, ◌<◌, ◌≤◌, append_assoc, List, [], ◌∷◌, ◌++◌, inl, inr, refl, ap, sym, subst, ◌∙◌, length, take, drop, flat_map, arith, length-append, append-nil, length-take, get_or, min}
use Rattle.std.specs.List.{AllByRecursion}
use Rattle.std.proofs.lemmas.List.{take_at, take-append-drop}
use Rattle.std.proofs.lemmas.Grind.{flat_map-append}
use Rattle.httparse.specs.Grammar.{ChunkLine, ReadsChunkLine, print_chunk_line}
use Rattle.httparse.specs.Spans.{IsChunkLineAt}
use Rattle.httparse.proofs.ChunkLemmas.{chunk_line_unique}
use Rattle.braid_ids.specs.Lists.{Lacks}
use Rattle.braid_http.specs.declared.looks.Look.{Look}
use Rattle.braid_http.specs.declared.chunks.Place.TheVariants.{Line, Data, Trailer}
use Rattle.braid_http.specs.declared.chunks.Fed.TheVariants.{Passed, Open, Done}
use Rattle.braid_http.specs.Heads.{HasNoBlock, line, lines}
use Rattle.braid_http.specs.Looks.{IsLooked, IsBlockAt}
use Rattle.braid_http.specs.Chunks.{IsCut, Announces, Chunk, IsChunk, print_chunk, chunk_data, Departs, Close, bad_chunk, too_long, Closes, last, unread, over, departs, long_trailer}
use Rattle.braid_http.specs.Steps.{IsAtLine, IsInData, IsInTrailer, OpenAfter, IsAgainst, Leaves}
use Rattle.braid_http.proofs.Looking.{look_new}
use Rattle.braid_http.proofs.LineLaws.{same_block}
use Rattle.braid_http.proofs.Openness.{open_chunks, open_line, open_data, open_behind, open_trailer}

pub zero_first : (n : ℕ) → 0 + n ≡ n
zero_first n = omega arith

-- open behind whole chunks
open_there : (cs : List Chunk) (passed front bytes : List ℕ) → AllByRecursion IsChunk cs → length (chunk_data cs) ≤ 2_097_152 → passed ≡ flat_map print_chunk cs ++ front
    → OpenAfter 2_097_152 (length (chunk_data cs)) (front ++ bytes) → OpenAfter 2_097_152 0 (passed ++ bytes)
open_there cs passed front bytes each fits e o =
    let z = zero_first (length (chunk_data cs)) in
    let whole : passed ++ bytes ≡ flat_map print_chunk cs ++ (front ++ bytes) = ap (λ y. y ++ bytes) e ∙ append_assoc (flat_map print_chunk cs) front bytes in
    subst (OpenAfter 2_097_152 0) (sym whole) (open_chunks 2_097_152 0 cs (front ++ bytes) each (rw z fits) (rw z o))

cut_some : (l : List ℕ) → IsCut l → 0 < length l
cut_some l (inl c) = let k = ap length c.2 ∙ length-append c.0 (10 ∷ []) in omega (arith, k)
cut_some l (inr c) = let k = c.0 in omega (arith, k)

taken_front : (bytes front rest : List ℕ) → bytes ≡ front ++ rest → take (length front) bytes ≡ front
taken_front bytes front rest e = ap (take (length front)) e ∙ take_at front rest (length front) refl

front_within : (bytes front rest : List ℕ) → bytes ≡ front ++ rest → length front ≤ length bytes
front_within bytes front rest e = let k = ap length e ∙ length-append front rest in omega (arith, k)

-- at a line

pub line_open : (passed out bytes : List ℕ) → Lacks 10 bytes → length bytes < 256 → IsAtLine passed out → Leaves (Open Line) passed bytes out out
line_open passed out bytes h short a = (
  open_there a.chunks passed [] bytes a.each a.fits (a.passed_is ∙ sym (append-nil (flat_map print_chunk a.chunks))) (open_line 2_097_152 (length (chunk_data a.chunks)) bytes h short),
  omega (arith, short),
  refl,
  a,
  tt,
)

against : (close : Close) (passed out bytes line more rest : List ℕ) (a : IsAtLine passed out) → Closes 2_097_152 (length (chunk_data a.chunks)) line more close → bytes ≡ (line ++ more) ++ rest → IsAgainst close (passed ++ bytes)
against close passed out bytes line more rest a c e = record {
  front = flat_map print_chunk a.chunks ++ (line ++ more);
  rest = rest;
  chunks = a.chunks;
  ends = record { each = a.each; fits = a.fits; line = line; more = more; closes = c; whole = refl };
  whole = ap (λ z. z ++ bytes) a.passed_is ∙ ap (λ z. flat_map print_chunk a.chunks ++ z) e ∙ sym (append_assoc (flat_map print_chunk a.chunks) (line ++ more) rest);
}

bare_line : (bytes line rest : List ℕ) → bytes ≡ line ++ rest → bytes ≡ (line ++ []) ++ rest
bare_line bytes line rest e = e ∙ ap (λ z. z ++ rest) (sym (append-nil line))

pub line_bad : (passed out bytes line rest : List ℕ) → IsCut line → ((l : ChunkLine) → ¬ (ReadsChunkLine line l [])) → bytes ≡ line ++ rest → IsAtLine passed out → IsAgainst bad_chunk (passed ++ bytes)
line_bad passed out bytes line rest cut n e a = against bad_chunk passed out bytes line [] rest a (unread cut n refl) (bare_line bytes line rest e)

pub line_over : (passed out bytes line rest : List ℕ) (n total : ℕ) → Announces line n → (n ≡ 0 → ⊥) → 2_097_152 - total < n → length out ≡ total → bytes ≡ line ++ rest → IsAtLine passed out → IsAgainst too_long (passed ++ bytes)
line_over passed out bytes line rest n total a some much size e at =
    let z = ap length at.out_is in
    let f = at.fits in
    against too_long passed out bytes line [] rest at (over n a (positive n some) (omega (arith, z, much, size, f)) refl) (bare_line bytes line rest e)
  where
    positive : (n : ℕ) → (n ≡ 0 → ⊥) → 0 < n
    positive n s = grind (arith, s)

pub line_last : (passed out bytes line rest : List ℕ) (n : ℕ) → Announces line n → n ≡ 0 → bytes ≡ line ++ rest → IsAtLine passed out
    → Leaves (Passed (length line) (Trailer (record { line = 0; seen = 0; full = 0 }))) passed bytes out out
line_last passed out bytes line rest n a zero e at =
    let taken = taken_front bytes line rest e in
    let announced : Announces line 0 = rw zero at a in (
      cut_some line a.cut,
      front_within bytes line rest e,
      record {
        chunks = at.chunks;
        line = line;
        each = at.each;
        announces = announced;
        fits = at.fits;
        passed_is = ap (λ z. passed ++ z) taken ∙ ap (λ z. z ++ line) at.passed_is;
        out_is = at.out_is;
      },
      look_new (drop (length line) bytes),
    )

pub line_data : (passed out bytes line rest : List ℕ) (n total : ℕ) → Announces line n → (n ≡ 0 → ⊥) → n ≤ 2_097_152 - total → length out ≡ total → bytes ≡ line ++ rest → IsAtLine passed out
    → Leaves (Passed (length line) (Data n)) passed bytes out out
line_data passed out bytes line rest n total a some few size e at =
    let taken = taken_front bytes line rest e in
    let z = ap length at.out_is in
    let f = at.fits in
    let p = zero_first n in
    let positive : 0 < n = up n some in (
      cut_some line a.cut,
      front_within bytes line rest e,
      record {
        chunks = at.chunks;
        line = line;
        begun = [];
        each = at.each;
        announces = rw p a;
        some = rw p positive;
        fits = omega (arith, z, f, few, size);
        passed_is = ap (λ z. passed ++ z) taken ∙ ap (λ z. z ++ line) at.passed_is ∙ ap (λ z. flat_map print_chunk at.chunks ++ z) (sym (append-nil line));
        out_is = at.out_is ∙ sym (append-nil (chunk_data at.chunks));
      },
      tt,
    )
  where
    up : (n : ℕ) → (n ≡ 0 → ⊥) → 0 < n
    up n s = grind (arith, s)

-- in data

few_of : (a b n : ℕ) → a + n ≤ b → a ≤ b
few_of a b n l = omega (arith, l)

pub data_open : (left : ℕ) (passed out bytes : List ℕ) → 0 < left → length bytes ≡ 0 → IsInData left passed out → Leaves (Open (Data left)) passed bytes out out
data_open left passed out bytes some none d = (
  open_there d.chunks passed (d.line ++ d.begun) bytes d.each (few_of _ _ _ d.fits) d.passed_is
      (subst (OpenAfter 2_097_152 (length (chunk_data d.chunks))) (sym (append_assoc d.line d.begun bytes))
      (open_data 2_097_152 (length (chunk_data d.chunks)) (length d.begun + left) d.line (d.begun ++ bytes) d.announces d.some d.fits (let k = length-append d.begun bytes in omega (arith, k, none, some)))),
  omega (arith, none),
  refl,
  d,
  tt,
)

pub data_more : (left n : ℕ) (passed out new bytes : List ℕ) → 0 < n → n ≤ left → n ≤ length bytes → new ≡ out ++ take n bytes → IsInData left passed out → Leaves (Passed n (Data (left - n))) passed bytes out new
data_more left n passed out new bytes some few within put d =
    let taken = length-take n bytes in
    let longer = length-append d.begun (take n bytes) in
    let size : length (d.begun ++ take n bytes) + (left - n) ≡ length d.begun + left = omega (arith, taken, longer, few, within) in (
      some,
      within,
      record {
        chunks = d.chunks;
        line = d.line;
        begun = d.begun ++ take n bytes;
        each = d.each;
        announces = rw size d.announces;
        some = rw size d.some;
        fits = rw size d.fits;
        passed_is = ap (λ z. z ++ take n bytes) d.passed_is ∙ append_assoc (flat_map print_chunk d.chunks) (d.line ++ d.begun) (take n bytes) ∙ ap (λ z. flat_map print_chunk d.chunks ++ z) (append_assoc d.line d.begun (take n bytes));
        out_is = put ∙ ap (λ z. z ++ take n bytes) d.out_is ∙ append_assoc (chunk_data d.chunks) d.begun (take n bytes);
      },
      tt,
    )

-- behind data

pub bare_data : (n : ℕ) → n + 0 ≡ n
bare_data n = omega arith

pub behind_open : (passed out bytes : List ℕ) → length bytes < 2 → ((x : ℕ) → bytes ≡ x ∷ [] → x ≡ 13) → IsInData 0 passed out → Leaves (Open (Data 0)) passed bytes out out
behind_open passed out bytes short cr d =
    let z = bare_data (length d.begun) in (
      open_there d.chunks passed (d.line ++ d.begun) bytes d.each (few_of _ _ _ d.fits) d.passed_is
          (subst (OpenAfter 2_097_152 (length (chunk_data d.chunks))) (sym (append_assoc d.line d.begun bytes))
          (open_behind 2_097_152 (length (chunk_data d.chunks)) d.line d.begun bytes (rw z at d.announces) (rw z at d.some) (rw z at d.fits) short cr)),
      omega (arith, short),
      refl,
      d,
      tt,
    )

pub behind_bad : (passed out bytes end rest : List ℕ) → Departs end → bytes ≡ end ++ rest → IsInData 0 passed out → IsAgainst bad_chunk (passed ++ bytes)
behind_bad passed out bytes end rest dep e d =
    let z = bare_data (length d.begun) in
    record {
      front = flat_map print_chunk d.chunks ++ (d.line ++ (d.begun ++ end));
      rest = rest;
      chunks = d.chunks;
      ends = record {
        each = d.each;
        fits = few_of _ _ _ d.fits;
        line = d.line;
        more = d.begun ++ end;
        closes = departs d.begun end (rw z at d.announces) (rw z at d.some) (rw z at d.fits) refl dep;
        whole = refl;
      };
      whole = ap (λ y. y ++ bytes) d.passed_is ∙ ap (λ y. (flat_map print_chunk d.chunks ++ (d.line ++ d.begun)) ++ y) e ∙ regroup (flat_map print_chunk d.chunks) d.line d.begun end rest;
    }
  where
    regroup : (a b c e f : List ℕ) → (a ++ (b ++ c)) ++ (e ++ f) ≡ (a ++ (b ++ (c ++ e))) ++ f
    regroup a b c e f = simp append_assoc

pub all_push : (cs : List Chunk) (c : Chunk) → AllByRecursion IsChunk cs → IsChunk c → AllByRecursion IsChunk (cs ++ c ∷ [])
all_push [] c h i = (i, tt)
all_push (d ∷ cs) c h i = (h.0, all_push cs c h.1 i)

pub behind_done : (passed out bytes rest : List ℕ) → bytes ≡ 13 ∷ 10 ∷ rest → IsInData 0 passed out → Leaves (Passed 2 Line) passed bytes out out
behind_done passed out bytes rest e d =
    let z = bare_data (length d.begun) in
    let c : Chunk = record { line = d.line; content = d.begun } in
    let taken : take 2 bytes ≡ 13 ∷ 10 ∷ [] = taken_front bytes (13 ∷ 10 ∷ []) rest e in
    let gives : chunk_data (d.chunks ++ c ∷ []) ≡ chunk_data d.chunks ++ d.begun =
    flat_map-append (λ (y : Chunk). y.content) d.chunks (c ∷ []) ∙ ap (λ y. chunk_data d.chunks ++ y) (append-nil d.begun) in
    let prints : flat_map print_chunk (d.chunks ++ c ∷ []) ≡ flat_map print_chunk d.chunks ++ print_chunk c =
    flat_map-append print_chunk d.chunks (c ∷ []) ∙ ap (λ y. flat_map print_chunk d.chunks ++ y) (append-nil (print_chunk c)) in
    let size = ap length gives ∙ length-append (chunk_data d.chunks) d.begun in
    let fits = d.fits in
    let long = ap length e in (
      omega arith,
      omega (arith, long),
      record {
        chunks = d.chunks ++ c ∷ [];
        each = all_push d.chunks c d.each (record { announces = rw z at d.announces; some = rw z at d.some });
        fits = omega (arith, size, fits);
        passed_is = ap (λ y. passed ++ y) taken ∙ ap (λ y. y ++ 13 ∷ 10 ∷ []) d.passed_is ∙ regroup (flat_map print_chunk d.chunks) d.line d.begun (13 ∷ 10 ∷ []) ∙ sym prints;
        out_is = d.out_is ∙ sym gives;
      },
      tt,
    )
  where
    regroup : (a b c e : List ℕ) → (a ++ (b ++ c)) ++ e ≡ a ++ (b ++ (c ++ e))
    regroup a b c e = simp append_assoc

-- in a trailer

pub trailer_open : (look : Look) (passed out bytes : List ℕ) → length bytes < 16_384 → HasNoBlock bytes → IsLooked look bytes → IsInTrailer passed out → Leaves (Open (Trailer look)) passed bytes out out
trailer_open look passed out bytes short none looked t = (
  open_there t.chunks passed t.line bytes t.each t.fits t.passed_is (open_trailer 2_097_152 (length (chunk_data t.chunks)) t.line bytes t.announces short none),
  short,
  refl,
  t,
  looked,
)

pub trailer_done : (look : Look) (end : ℕ) (passed out bytes : List ℕ) → end ≤ 16_384 → IsBlockAt end look bytes → IsInTrailer passed out → Leaves (Done end) passed bytes out out
trailer_done look end passed out bytes short b t =
    let whole = b.whole in
    let taken : take end bytes ≡ _ = ap (λ z. take z bytes) b.end_is ∙ taken_front bytes _ b.rest whole in
    let end_is = b.end_is in
    let within = front_within bytes _ b.rest whole in (
      omega (arith, end_is, within),
      record {
        chunks = t.chunks;
        ends = record {
          each = t.each;
          fits = t.fits;
          line = t.line;
          more = take end bytes;
          closes = last t.announces (record { full = b.full; last = b.last; each = b.each; ends = b.ends; whole = taken; short = (let k = ap length taken in omega (arith, k, end_is, short)) });
          whole = ap (λ z. z ++ take end bytes) t.passed_is ∙ append_assoc (flat_map print_chunk t.chunks) t.line (take end bytes);
        };
        gives = t.out_is;
      },
    )

pub trailer_long : (passed out bytes : List ℕ) → 16_384 ≤ length bytes → HasNoBlock (take 16_384 bytes) → IsInTrailer passed out → IsAgainst bad_chunk (passed ++ bytes)
trailer_long passed out bytes long none t =
    let size : length (take 16_384 bytes) ≡ 16_384 = omega (arith, length-take 16_384 bytes, long) in
    record {
      front = flat_map print_chunk t.chunks ++ (t.line ++ take 16_384 bytes);
      rest = drop 16_384 bytes;
      chunks = t.chunks;
      ends = record { each = t.each; fits = t.fits; line = t.line; more = take 16_384 bytes; closes = long_trailer t.announces size none; whole = refl };
      whole = ap (λ z. z ++ bytes) t.passed_is ∙ ap (λ z. (flat_map print_chunk t.chunks ++ t.line) ++ z) (sym (take-append-drop 16_384 bytes)) ∙ regroup (flat_map print_chunk t.chunks) t.line (take 16_384 bytes) (drop 16_384 bytes);
    }
  where
    regroup : (a b c e : List ℕ) → (a ++ b) ++ (c ++ e) ≡ (a ++ (b ++ c)) ++ e
    regroup a b c e = simp append_assoc

-- the bytes behind data, by their first two

pub first_departs : (bytes : List ℕ) → (length bytes ≡ 0 → ⊥) → get_or bytes 0 0 ≢ 13 → (end rest : List ℕ) × Departs end × (bytes ≡ end ++ rest)
first_departs [] some n = absurd (some refl)
first_departs (x ∷ bytes) some n = (x ∷ [], bytes, n, refl)

pub one_cr : (bytes : List ℕ) → length bytes ≡ 1 → get_or bytes 0 0 ≡ 13 → (x : ℕ) → bytes ≡ x ∷ [] → x ≡ 13
one_cr bytes l e x s = sym (ap (λ z. get_or z 0 0) s) ∙ e

pub none_cr : (bytes : List ℕ) → length bytes ≡ 0 → (x : ℕ) → bytes ≡ x ∷ [] → x ≡ 13
none_cr bytes l x s = let k = ap length s in absurd (omega (arith, k, l))

pub second_departs : (bytes : List ℕ) → (length bytes ≡ 0 → ⊥) → (length bytes ≡ 1 → ⊥) → get_or bytes 0 0 ≡ 13 → get_or bytes 1 0 ≢ 10 → (end rest : List ℕ) × Departs end × (bytes ≡ end ++ rest)
second_departs [] some more e n = absurd (some refl)
second_departs (x ∷ []) some more e n = absurd (more refl)
second_departs (x ∷ y ∷ bytes) some more e n = (x ∷ y ∷ [], bytes, (e, n), refl)

pub crlf_first : (bytes : List ℕ) → (length bytes ≡ 0 → ⊥) → (length bytes ≡ 1 → ⊥) → get_or bytes 0 0 ≡ 13 → get_or bytes 1 0 ≡ 10 → (rest : List ℕ) × (bytes ≡ 13 ∷ 10 ∷ rest)
crlf_first [] some more e f = absurd (some refl)
crlf_first (x ∷ []) some more e f = absurd (more refl)
crlf_first (x ∷ y ∷ bytes) some more e f = (bytes, (λ i. e i ∷ f i ∷ bytes))

-- trailers that are too long

pub none_within : (bytes : List ℕ) → HasNoBlock bytes → HasNoBlock (take 16_384 bytes)
none_within bytes n full final rest each ends e =
    n full final (rest ++ drop 16_384 bytes) each ends (sym (take-append-drop 16_384 bytes) ∙ ap (λ z. z ++ drop 16_384 bytes) e ∙ append_assoc (lines full ++ line final) rest (drop 16_384 bytes))

pub far_block : (look : Look) (end : ℕ) (bytes : List ℕ) → 16_384 < end → IsBlockAt end look bytes → HasNoBlock (take 16_384 bytes)
far_block look end bytes far b full final rest each ends e =
    let whole : bytes ≡ (lines full ++ line final) ++ (rest ++ drop 16_384 bytes) = sym (take-append-drop 16_384 bytes) ∙ ap (λ z. z ++ drop 16_384 bytes) e ∙ append_assoc (lines full ++ line final) rest (drop 16_384 bytes) in
    let same = same_block b.full full b.last final b.rest (rest ++ drop 16_384 bytes) b.each each b.ends ends (sym b.whole ∙ whole) in
    let end_is : end ≡ length (lines full ++ line final) = b.end_is ∙ (λ i. length (lines (same.0 i) ++ line (same.1 i))) in
    let size = ap length e ∙ length-append (lines full ++ line final) rest in
    let most = length-take 16_384 bytes in
    omega (arith, end_is, size, most, far)

pub block_within : (look : Look) (end : ℕ) (bytes : List ℕ) → IsBlockAt end look bytes → end ≤ length bytes
block_within look end bytes b = let k = b.end_is in let m = front_within bytes _ b.rest b.whole in omega (arith, k, m)

-- lines that are cut off

pub cut_here : (bytes content after : List ℕ) → Lacks 10 content → take (min (length bytes) 256) bytes ≡ content ++ 10 ∷ after
    → (rest : List ℕ) × IsCut (take (length content + 1) bytes) × (bytes ≡ take (length content + 1) bytes ++ rest)
cut_here bytes content after h e =
    let n = min (length bytes) 256 in
    let whole : bytes ≡ (content ++ 10 ∷ []) ++ (after ++ drop n bytes) =
    sym (take-append-drop n bytes) ∙ ap (λ z. z ++ drop n bytes) e ∙ regroup content after (drop n bytes) in
    let size = length-append content (10 ∷ []) in
    let one : length content + 1 ≡ length (content ++ 10 ∷ []) = omega (arith, size) in
    let is : take (length content + 1) bytes ≡ content ++ 10 ∷ [] = ap (λ z. take z bytes) one ∙ taken_front bytes (content ++ 10 ∷ []) _ whole in
    let long = ap length e ∙ length-append content (10 ∷ after) in
    let most = length-take n bytes in
    let short = ap length is in (
      drop (length content + 1) bytes,
      inl (content, h, is, omega (arith, short, size, long, most)),
      sym (take-append-drop (length content + 1) bytes),
    )
  where
    regroup : (a b c : List ℕ) → (a ++ 10 ∷ b) ++ c ≡ (a ++ 10 ∷ []) ++ (b ++ c)
    regroup a b c = append_assoc a (10 ∷ b) c ∙ sym (append_assoc a (10 ∷ []) (b ++ c))

pub cut_long : (bytes : List ℕ) → Lacks 10 (take (min (length bytes) 256) bytes) → 256 ≤ length (take (min (length bytes) 256) bytes)
    → (rest : List ℕ) × IsCut (take (min (length bytes) 256) bytes) × (bytes ≡ take (min (length bytes) 256) bytes ++ rest)
cut_long bytes h l =
    let n = min (length bytes) 256 in
    let most = length-take n bytes in
    (drop n bytes, inr (omega (arith, most, l), h), sym (take-append-drop n bytes))

pub size_whole : (buf : List ℕ) (len size : ℕ) (l k : ChunkLine) → IsChunkLineAt buf len size l → ReadsChunkLine buf k [] → len ≡ length buf
size_whole buf len size l k at whole =
    let same = chunk_line_unique buf l k (drop len buf) [] at.reads whole in
    let text : buf ≡ print_chunk_line l ++ [] = at.reads.1 ∙ ap (λ (r : List ℕ). print_chunk_line l ++ r) same.1 in
    at.len_is ∙ sym (ap length text ∙ ap length (append-nil (print_chunk_line l)))
