-- The steps of reading what stands around data, and bytes that are taken off a connection.
use Rattle.std.proofs.Common.{◌≡◌, ◌≢◌, ℕ, ◌+◌, ◌-◌, ◌<◌, ◌≤◌, ◌⊎◌, append_assoc, List, [], ◌∷◌, ◌++◌, inl, inr, refl, ap, sym, subst, ◌∙◌, length, flat_map, arith, length-append, append-nil, Some, None}
use Rattle.std.specs.List.{AllByRecursion}
use Rattle.std.specs.Io.KnownBytes.{append_known, prepend_known}
use Rattle.std.proofs.lemmas.Grind.{flat_map-append}
use Rattle.httparse.specs.Grammar.{ChunkLine, ReadsChunkLine}
use Rattle.braid_io.specs.Outside.{Intake}
use Rattle.braid_io.proofs.Known.{append_known-append}
use Rattle.braid_ids.specs.Lists.{Lacks}
use Rattle.braid_http.specs.declared.response.BodyKind.TheVariants as kinds
use Rattle.braid_http.specs.declared.around.TrailerLine.{TrailerLine}
use Rattle.braid_http.specs.declared.around.TrailerLine.TheVariants.{Empty, Cr, Full}
use Rattle.braid_http.specs.Heads.{line, lines, IsFullLine, HasNoBlock}
use Rattle.braid_http.specs.Chunks.{IsCut, Announces, Chunk, IsChunk, print_chunk, chunk_data, IsTrailer, bad_chunk, done, last, unread, departs, long_trailer}
use Rattle.braid_http.specs.Bodies.{IsChunkedBody, IsInLine, IsInChunk, IsBehindChunk, IsBehindLast, in_line, behind_chunk, behind_last, IsAgainst}
use Rattle.braid_http.specs.BodySteps.{IsPartOf, Turns, IsTrailing}
use Rattle.braid_http.specs.Draws.{Draws, DrawsToEnd, DrawsAndFails}
use Rattle.braid_http.proofs.LineLaws.{no_block_in, push_each, lines_push}
use Rattle.braid_http.proofs.StepLaws.{zero_first, all_push}
use Rattle.braid_http.proofs.Waiting.{moves_none, moves_both, prepend-prepend}

-- bytes taken off a connection

pub draws_none : (held : List ℕ) (i : Intake) → Draws [] held held i i
draws_none held i = record { got = []; moves = moves_none i; whole = append-nil held; exact = inl refl }

joined : (a b held mid kept g h : List ℕ) → held ++ g ≡ a ++ mid → mid ++ h ≡ b ++ kept → held ++ (g ++ h) ≡ (a ++ b) ++ kept
joined a b held mid kept g h p q =
    sym (append_assoc held g h) ∙ ap (λ z. z ++ h) p ∙ append_assoc a mid h ∙ ap (λ z. a ++ z) q ∙ sym (append_assoc a b kept)

back_nil : (b kept mid h : List ℕ) → mid ≡ [] → h ≡ [] → mid ++ h ≡ b ++ kept → kept ≡ []
back_nil [] kept mid h m e w = sym w ∙ ap (λ z. z ++ h) m ∙ e
back_nil (x ∷ b) kept mid h m e w = absurd (no (sym (ap (λ z. z ++ h) m ∙ e) ∙ w))
  where
    no : [] ≡ x ∷ (b ++ kept) → ⊥
    no f = cc

exactly : (b kept mid g h : List ℕ) → (g ≡ []) ⊎ (mid ≡ []) → (h ≡ []) ⊎ (kept ≡ []) → mid ++ h ≡ b ++ kept → (g ++ h ≡ []) ⊎ (kept ≡ [])
exactly b kept mid g h x (inr f) w = inr f
exactly b kept mid g h (inl e) (inl f) w = inl (ap (λ z. z ++ h) e ∙ f)
exactly b kept mid g h (inr e) (inl f) w = inr (back_nil b kept mid h e f w)

pub draws_both : (a b held mid kept : List ℕ) (i j k : Intake) → Draws a held mid i j → Draws b mid kept j k → Draws (a ++ b) held kept i k
draws_both a b held mid kept i j k x y = record {
  got = x.got ++ y.got;
  moves = moves_both x.got y.got i j k x.moves y.moves;
  whole = joined a b held mid kept x.got y.got x.whole y.whole;
  exact = exactly b kept mid x.got y.got x.exact y.exact y.whole;
}

pub draws_fail : (a b held mid kept : List ℕ) (i j k : Intake) → Draws a held mid i j → DrawsAndFails b mid kept j k → DrawsAndFails (a ++ b) held kept i k
draws_fail a b held mid kept i j k x y = record {
  got = x.got ++ y.got;
  taken = y.taken ∙ ap (λ z. append_known z y.got) x.moves.taken ∙ append_known-append i.taken x.got y.got;
  left = x.moves.left ∙ ap (prepend_known x.got) y.left ∙ prepend-prepend x.got y.got k.left;
  never_falls = let f = x.moves.faults in let g = y.never_falls in omega (arith, f, g);
  rose = rw x.moves.faults at y.rose;
  whole = joined a b held mid kept x.got y.got x.whole y.whole;
  none = y.none;
}

pub draws_end : (a b held mid kept : List ℕ) (i j k : Intake) → Draws a held mid i j → DrawsToEnd b mid kept j k → DrawsToEnd (a ++ b) held kept i k
draws_end a b held mid kept i j k x y = record { draws = draws_both a b held mid kept i j k x y.draws; none = y.none; at_end = y.at_end }

-- a byte of a line

more_of : (cs : List Chunk) (begun b : List ℕ) (byte : ℕ) → b ≡ flat_map print_chunk cs ++ begun → b ++ byte ∷ [] ≡ flat_map print_chunk cs ++ (begun ++ byte ∷ [])
more_of cs begun b byte e = ap (λ z. z ++ byte ∷ []) e ∙ append_assoc (flat_map print_chunk cs) begun (byte ∷ [])

pub line_last : (old content b : List ℕ) (byte : ℕ) → Announces (old ++ byte ∷ []) 0 → IsInLine old content b → IsTrailing 16_384 Empty content (b ++ byte ∷ [])
line_last old content b byte a i = record {
  chunks = i.chunks;
  last = old ++ byte ∷ [];
  full = [];
  part = [];
  each = i.each;
  announces = a;
  lines_are = tt;
  part_is = refl;
  count = omega arith;
  some = omega arith;
  passed_is = more_of i.chunks old b byte i.passed_is ∙ ap (λ z. flat_map print_chunk i.chunks ++ z) (sym (append-nil (old ++ byte ∷ [])));
  content_is = i.content_is;
}

pub line_data : (old content b : List ℕ) (byte n : ℕ) → Announces (old ++ byte ∷ []) n → 0 < n → IsInLine old content b → IsInChunk n content (b ++ byte ∷ [])
line_data old content b byte n a some i =
    let p = zero_first n in
    record {
      chunks = i.chunks;
      line = old ++ byte ∷ [];
      begun = [];
      each = i.each;
      announces = rw p a;
      some = rw p some;
      passed_is = more_of i.chunks old b byte i.passed_is ∙ ap (λ z. flat_map print_chunk i.chunks ++ z) (sym (append-nil (old ++ byte ∷ [])));
      content_is = i.content_is ∙ sym (append-nil (chunk_data i.chunks));
    }

pub line_bad : (old content b : List ℕ) (byte : ℕ) → IsCut (old ++ byte ∷ []) → ((l : ChunkLine) → ¬ (ReadsChunkLine (old ++ byte ∷ []) l [])) → IsInLine old content b → IsAgainst kinds.Chunked content (b ++ byte ∷ [])
line_bad old content b byte cut n i = record {
  chunked = refl;
  front = b;
  last = byte;
  whole = refl;
  come = in_line old i;
  against = record {
    most = length (chunk_data i.chunks);
    chunks = i.chunks;
    ends = record {
      each = i.each;
      fits = omega arith;
      line = old ++ byte ∷ [];
      more = [];
      closes = unread cut n refl;
      whole = more_of i.chunks old b byte i.passed_is ∙ ap (λ z. flat_map print_chunk i.chunks ++ z) (sym (append-nil (old ++ byte ∷ [])));
    };
  };
}

-- a byte behind data

behind_more : (cs : List Chunk) (l whole end b : List ℕ) (byte : ℕ) → b ≡ flat_map print_chunk cs ++ (l ++ (whole ++ end)) → b ++ byte ∷ [] ≡ flat_map print_chunk cs ++ (l ++ (whole ++ (end ++ byte ∷ [])))
behind_more cs l whole end b byte e = ap (λ z. z ++ byte ∷ []) e ∙ regroup (flat_map print_chunk cs) l whole end (byte ∷ [])
  where
    regroup : (a c d f g : List ℕ) → (a ++ (c ++ (d ++ f))) ++ g ≡ a ++ (c ++ (d ++ (f ++ g)))
    regroup a c d f g = simp append_assoc

pub behind_lf : (content b : List ℕ) (byte : ℕ) → byte ≡ 10 → IsBehindChunk (13 ∷ []) content b → IsInLine [] content (b ++ byte ∷ [])
behind_lf content b byte e i =
    let c : Chunk = record { line = i.line; content = i.whole } in
    let gives : chunk_data (i.chunks ++ c ∷ []) ≡ chunk_data i.chunks ++ i.whole =
    flat_map-append (λ (y : Chunk). y.content) i.chunks (c ∷ []) ∙ ap (λ y. chunk_data i.chunks ++ y) (append-nil i.whole) in
    let prints : flat_map print_chunk (i.chunks ++ c ∷ []) ≡ flat_map print_chunk i.chunks ++ print_chunk c =
    flat_map-append print_chunk i.chunks (c ∷ []) ∙ ap (λ y. flat_map print_chunk i.chunks ++ y) (append-nil (print_chunk c)) in
    record {
      chunks = i.chunks ++ c ∷ [];
      each = all_push i.chunks c i.each (record { announces = i.announces; some = i.some });
      lacks = tt;
      short = omega arith;
      passed_is = behind_more i.chunks i.line i.whole (13 ∷ []) b byte i.passed_is ∙ ap (λ z. flat_map print_chunk i.chunks ++ (i.line ++ (i.whole ++ 13 ∷ z ∷ []))) e
          ∙ sym prints ∙ sym (append-nil (flat_map print_chunk (i.chunks ++ c ∷ [])));
      content_is = i.content_is ∙ sym gives;
    }

against_behind : (content b : List ℕ) (end : List ℕ) (byte : ℕ) → (end ≡ []) ⊎ (end ≡ 13 ∷ []) → Rattle.braid_http.specs.Chunks.Departs (end ++ byte ∷ []) → IsBehindChunk end content b → IsAgainst kinds.Chunked content (b ++ byte ∷ [])
against_behind content b end byte which dep i = record {
  chunked = refl;
  front = b;
  last = byte;
  whole = refl;
  come = behind_chunk end which i;
  against = record {
    most = length (chunk_data i.chunks) + length i.whole;
    chunks = i.chunks;
    ends = record {
      each = i.each;
      fits = omega arith;
      line = i.line;
      more = i.whole ++ (end ++ byte ∷ []);
      closes = departs i.whole (end ++ byte ∷ []) i.announces i.some (omega arith) refl dep;
      whole = behind_more i.chunks i.line i.whole end b byte i.passed_is;
    };
  };
}

pub behind_bad : (content b : List ℕ) (byte : ℕ) → byte ≢ 13 → IsBehindChunk [] content b → IsAgainst kinds.Chunked content (b ++ byte ∷ [])
behind_bad content b byte n i = against_behind content b [] byte (inl refl) n i

pub behind_cr_bad : (content b : List ℕ) (byte : ℕ) → byte ≢ 10 → IsBehindChunk (13 ∷ []) content b → IsAgainst kinds.Chunked content (b ++ byte ∷ [])
behind_cr_bad content b byte n i = against_behind content b (13 ∷ []) byte (inr refl) (refl, n) i

-- a byte of a trailer

part_lacks : (t : TrailerLine) (part : List ℕ) → IsPartOf t part → Lacks 10 part
part_lacks Empty part e = rw e tt
part_lacks Cr part e = rw e ((λ k. cc), tt)
part_lacks Full part f = f.ended

pub trailing_last : (left : ℕ) (t : TrailerLine) (content b : List ℕ) (i : IsTrailing left t content b) → IsBehindLast (lines i.full ++ i.part) content b
trailing_last left t content b i = record {
  chunks = i.chunks;
  line = i.last;
  each = i.each;
  announces = i.announces;
  short = let c = i.count in let s = i.some in omega (arith, c, s);
  none = no_block_in i.full i.part i.lines_are (part_lacks t i.part i.part_is);
  passed_is = i.passed_is;
  content_is = i.content_is;
}

trailing_more : (cs : List Chunk) (l front b : List ℕ) (byte : ℕ) → b ≡ flat_map print_chunk cs ++ (l ++ front) → b ++ byte ∷ [] ≡ flat_map print_chunk cs ++ (l ++ (front ++ byte ∷ []))
trailing_more cs l front b byte e = ap (λ z. z ++ byte ∷ []) e ∙ append_assoc (flat_map print_chunk cs) (l ++ front) (byte ∷ []) ∙ ap (λ z. flat_map print_chunk cs ++ z) (append_assoc l front (byte ∷ []))

-- the last byte that may belong to a trailer does not end it
pub trailing_bad : (left : ℕ) (t u : TrailerLine) (content b : List ℕ) (byte : ℕ) (i : IsTrailing left t content b) → left ≤ 1 → Turns (Some u) i.full i.part byte → IsAgainst kinds.Chunked content (b ++ byte ∷ [])
trailing_bad left t u content b byte i few turn = record {
  chunked = refl;
  front = b;
  last = byte;
  whole = refl;
  come = behind_last (lines i.full ++ i.part) (trailing_last left t content b i);
  against = record {
    most = length (chunk_data i.chunks);
    chunks = i.chunks;
    ends = record {
      each = i.each;
      fits = omega arith;
      line = i.last;
      more = (lines i.full ++ i.part) ++ byte ∷ [];
      closes = long_trailer i.announces (let c = i.count in let s = i.some in let n = length-append (lines i.full ++ i.part) (byte ∷ []) in omega (arith, c, s, few, n))
          (subst HasNoBlock turn.4 (no_block_in turn.0 turn.1 turn.2 (part_lacks u turn.1 turn.3)));
      whole = trailing_more i.chunks i.last (lines i.full ++ i.part) b byte i.passed_is;
    };
  };
}

pub trailing_done : (left : ℕ) (t : TrailerLine) (content b : List ℕ) (byte : ℕ) (i : IsTrailing left t content b) → Turns None i.full i.part byte → IsChunkedBody content (b ++ byte ∷ [])
trailing_done left t content b byte i turn =
    let end : (lines i.full ++ i.part) ++ byte ∷ [] ≡ lines i.full ++ line i.part = append_assoc (lines i.full) i.part (byte ∷ []) ∙ ap (λ z. lines i.full ++ (i.part ++ z ∷ [])) turn.1 in
    record {
      most = length (chunk_data i.chunks);
      is = record {
        chunks = i.chunks;
        ends = record {
          each = i.each;
          fits = omega arith;
          line = i.last;
          more = (lines i.full ++ i.part) ++ byte ∷ [];
          closes = Rattle.braid_http.specs.Chunks.last i.announces
              (record { full = i.full; last = i.part; each = i.lines_are; ends = turn.0; whole = end; short = (let c = i.count in let s = i.some in let n = length-append (lines i.full ++ i.part) (byte ∷ []) in omega (arith, c, s, n)) });
          whole = trailing_more i.chunks i.last (lines i.full ++ i.part) b byte i.passed_is;
        };
        gives = i.content_is;
      };
    }

-- the turns of a line

longer : (full : List (List ℕ)) (part begun : List ℕ) (byte : ℕ) → begun ≡ part ++ byte ∷ [] → lines full ++ begun ≡ (lines full ++ part) ++ byte ∷ []
longer full part begun byte e = ap (λ z. lines full ++ z) e ∙ sym (append_assoc (lines full) part (byte ∷ []))

pub turn_first : (full : List (List ℕ)) (part : List ℕ) (byte : ℕ) → AllByRecursion IsFullLine full → part ≡ [] → byte ≢ 10 → byte ≢ 13 → Turns (Some Full) full part byte
turn_first full part byte each e n m =
    (full, byte ∷ [], each, record { ended = (n, tt); some = λ z. cc; more = λ z. m (cc) }, longer full part (byte ∷ []) byte (ap (λ z. z ++ byte ∷ []) (sym e)))

pub turn_second : (full : List (List ℕ)) (part : List ℕ) (byte : ℕ) → AllByRecursion IsFullLine full → part ≡ 13 ∷ [] → byte ≢ 10 → Turns (Some Full) full part byte
turn_second full part byte each e n =
    (full, 13 ∷ byte ∷ [], each, record { ended = ((λ z. cc), (n, tt)); some = λ z. cc; more = λ z. cc }, longer full part (13 ∷ byte ∷ []) byte (ap (λ z. z ++ byte ∷ []) (sym e)))

lacks_more : (part : List ℕ) (byte : ℕ) → Lacks 10 part → byte ≢ 10 → Lacks 10 (part ++ byte ∷ [])
lacks_more [] byte h n = (n, tt)
lacks_more (x ∷ part) byte h n = (h.0, lacks_more part byte h.1 n)

pub turn_more : (full : List (List ℕ)) (part : List ℕ) (byte : ℕ) → AllByRecursion IsFullLine full → IsFullLine part → byte ≢ 10 → Turns (Some Full) full part byte
turn_more full part byte each f n = (
  full,
  part ++ byte ∷ [],
  each,
  record { ended = lacks_more part byte f.ended n; some = λ z. grown z; more = λ z. two z },
  longer full part (part ++ byte ∷ []) byte refl,
)
  where
    grown : part ++ byte ∷ [] ≡ [] → ⊥
    grown z = let k = ap length z ∙ refl in let l = length-append part (byte ∷ []) in omega (arith, k, l)

    none : (p : List ℕ) → length p ≤ 0 → p ≡ []
    none [] l = refl
    none (x ∷ p) l = absurd (omega (arith, l))

    two : part ++ byte ∷ [] ≡ 13 ∷ [] → ⊥
    two z = let k = ap length z in let l = length-append part (byte ∷ []) in f.some (none part (omega (arith, k, l)))

pub turn_lf : (full : List (List ℕ)) (part : List ℕ) (byte : ℕ) → AllByRecursion IsFullLine full → IsFullLine part → byte ≡ 10 → Turns (Some Empty) full part byte
turn_lf full part byte each f e = (
  full ++ part ∷ [],
  [],
  push_each IsFullLine full part each f,
  refl,
  lines_push full part [] ∙ sym (append_assoc (lines full) part (10 ∷ [])) ∙ ap (λ z. (lines full ++ part) ++ z ∷ []) (sym e),
)
