-- Chunks as they are written are chunks.
use Rattle.std.proofs.Common.{◌≡◌, ℕ, zero, suc, ◌<◌, ◌||◌, ◌&&◌, nat_le, Bool, true, false, append_assoc, append-nil, List, [], ◌∷◌, ◌++◌, inl, inr, refl, ap, sym, subst, ◌∙◌, length, get_or, flat_map, arith, length-append, None, IsTrue}
use Rattle.std.specs.List.{AllByRecursion}
use Rattle.std.specs.Char.{is_ascii_digit, is_ascii_hexdigit}
use Rattle.std.specs.Int.{is_in_range}
use Rattle.httparse.specs.Grammar.{print_chunk_line}
use Rattle.braid_ids.specs.Lists.{Lacks}
use Rattle.braid_http.specs.Chunks.{Announces, Chunk, IsChunk, print_chunk, chunk_data, last}
use Rattle.braid_fields.specs.Chunks.{IsHexDigit, IsHexadecimal, AreWrittenChunks, last_chunk}
use Rattle.braid_http.specs.WrittenChunks.{WritesChunked}
use Rattle.braid_http.proofs.LineLaws.{not_true}

or_more : (a u b : Bool) → IsTrue (a || b) → IsTrue ((a || u) || b)
or_more true u b h = refl
or_more false true b h = refl
or_more false false b h = h

hex_digit : (d : ℕ) → IsHexDigit d → IsTrue (is_ascii_hexdigit d)
hex_digit d h = or_more (is_ascii_digit d) (is_in_range 65 70 d) (nat_le 97 d && nat_le d 102) h

hex_digits : (digits : List ℕ) → AllByRecursion IsHexDigit digits → (k d : ℕ) → k < length digits → IsTrue (is_ascii_hexdigit (get_or digits k d))
hex_digits [] h k d lt = absurd (omega (arith, lt))
hex_digits (x ∷ digits) h zero d lt = hex_digit x h.0
hex_digits (x ∷ digits) h (suc k) d lt = hex_digits digits h.1 k d (omega (arith, lt))

no_lf : (digits : List ℕ) → AllByRecursion IsHexDigit digits → Lacks 10 (digits ++ 13 ∷ [])
no_lf [] h = ((λ k. cc), tt)
no_lf (x ∷ digits) h = ((λ e. not_true (subst IsHexDigit e h.0)), no_lf digits h.1)

printed : (digits : List ℕ) → digits ++ 13 ∷ 10 ∷ [] ≡ print_chunk_line (record { digits = digits; pad = []; extension = None }) ++ []
unfolding print_chunk_line
printed digits = simp append-nil

announces : (n : ℕ) (digits : List ℕ) → IsHexadecimal n digits → Announces (digits ++ 13 ∷ 10 ∷ []) n
announces n digits h =
    let size = length-append digits (13 ∷ 10 ∷ []) in
    let few = h.few in
    record {
      cut = inl (digits ++ 13 ∷ [], no_lf digits h.each, sym (append_assoc digits (13 ∷ []) (10 ∷ [])), omega (arith, size, few));
      line = record { digits = digits; pad = []; extension = None };
      reads = (record { digits = (h.some, h.few, hex_digits digits h.each); pad = λ k d lt. absurd (omega (arith, lt)); extension = tt }, printed digits);
      size = sym h.value;
    }

-- the chunks of pieces
pub record Written (pieces : List (List ℕ)) (b : List ℕ) : Type 0 where
  pub chunks : List Chunk
  pub each : AllByRecursion IsChunk chunks
  pub prints : b ≡ flat_map print_chunk chunks
  pub gives : flat_map (λ (piece : List ℕ). piece) pieces ≡ chunk_data chunks

pub written : (pieces : List (List ℕ)) (b : List ℕ) → AreWrittenChunks pieces b → Written pieces b
written [] b e = record { chunks = []; each = tt; prints = e; gives = refl }
written (piece ∷ pieces) b w =
    let chunk = w.0 in
    let rest = w.1 in
    let one = w.2 in
    let more = written pieces rest w.3 in
    let regroup : (((one.digits ++ 13 ∷ 10 ∷ []) ++ piece) ++ 13 ∷ 10 ∷ []) ≡ (one.digits ++ 13 ∷ 10 ∷ []) ++ (piece ++ 13 ∷ 10 ∷ []) = append_assoc (one.digits ++ 13 ∷ 10 ∷ []) piece (13 ∷ 10 ∷ []) in
    record {
      chunks = record { line = one.digits ++ 13 ∷ 10 ∷ []; content = piece } ∷ more.chunks;
      each = (record { announces = announces (length piece) one.digits one.size; some = one.some }, more.each);
      prints = w.4 ∙ ap (λ z. z ++ rest) (one.whole ∙ regroup) ∙ ap (λ z. ((one.digits ++ 13 ∷ 10 ∷ []) ++ (piece ++ 13 ∷ 10 ∷ [])) ++ z) more.prints;
      gives = ap (λ z. piece ++ z) more.gives;
    }

no_size : IsHexadecimal 0 (48 ∷ [])
no_size = record { some = omega arith; few = omega arith; each = (refl, tt); value = refl; shortest = λ rest e. sym (same rest e) }
  where
    same : (rest : List ℕ) → 48 ∷ [] ≡ 48 ∷ rest → [] ≡ rest
    same rest e = cc

pub writes_chunked : WritesChunked
writes_chunked pieces b w =
    let all = written pieces b w in
    record {
      most = length (chunk_data all.chunks);
      is = record {
        chunks = all.chunks;
        ends = record {
          each = all.each;
          fits = omega arith;
          line = 48 ∷ 13 ∷ 10 ∷ [];
          more = 13 ∷ 10 ∷ [];
          closes = last (announces 0 (48 ∷ []) no_size) (record { full = []; last = 13 ∷ []; each = tt; ends = inr refl; whole = refl; short = omega arith });
          whole = ap (λ z. z ++ last_chunk) all.prints;
        };
        gives = all.gives;
      };
    }
