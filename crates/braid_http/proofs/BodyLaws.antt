-- Chunked bodies, whatever the length of their data: whole ones, what has come of one, and bytes against one.
use Rattle.std.proofs.Common.{◌≡◌, ℕ, ◌+◌, ◌≤◌, append_assoc, List, [], ◌∷◌, ◌++◌, inl, inr, refl, ap, sym, subst, ◌∙◌, length, flat_map, arith}
use Rattle.std.specs.List.{AllByRecursion}
use Rattle.braid_http.specs.Chunks.{Chunk, IsChunk, print_chunk, chunk_data, Close, done, bad_chunk, too_long, Closes, last, unread, over, departs, long_trailer, EndsChunked}
use Rattle.braid_http.specs.Steps.{OpenAfter}
use Rattle.braid_http.specs.Bodies.{IsChunkedBody, HasCome, in_line, in_chunk, behind_chunk, behind_last, IsAgainstChunks, OneChunked, HasOneState}
use Rattle.braid_http.proofs.ChunkLaws.{one_body}
use Rattle.braid_http.proofs.Openness.{open_chunks, open_line, open_data, open_behind, open_trailer}
use Rattle.braid_http.proofs.StepLaws.{zero_first}

raise_closes : (most top total : ℕ) (l m : List ℕ) (k : Close) → most ≤ top → (k ≡ too_long → ⊥) → Closes most total l m k → Closes top total l m k
raise_closes most top total l m _ h n (last a t) = last a t
raise_closes most top total l m _ h n (unread c w e) = unread c w e
raise_closes most top total l m _ h n (over x a p q e) = absurd (n refl)
raise_closes most top total l m _ h n (departs c f a p q g d) = departs c f a p (omega (arith, q, h)) g d
raise_closes most top total l m _ h n (long_trailer a z w) = long_trailer a z w

-- a body that is whole, or against which a byte stands, is so with room for more data
pub raise : (most top : ℕ) (cs : List Chunk) (k : Close) (b : List ℕ) → most ≤ top → (k ≡ too_long → ⊥) → EndsChunked most cs k b → EndsChunked top cs k b
raise most top cs k b h n e =
    let f = e.fits in
    record { each = e.each; fits = omega (arith, f, h); line = e.line; more = e.more; closes = raise_closes most top _ e.line e.more k h n e.closes; whole = e.whole }

pub one_chunked : OneChunked
one_chunked content other b d r s x y e =
    let top = x.most + y.most in
    let p = raise x.most top x.is.chunks done b (omega arith) (λ z. cc) x.is.ends in
    let q = raise y.most top y.is.chunks done d (omega arith) (λ z. cc) y.is.ends in
    let same = one_body top x.is.chunks y.is.chunks done done b d r s p q e in
    (x.is.gives ∙ ap chunk_data same.0 ∙ sym y.is.gives, same.2)

whole_or_against : (content b d r s : List ℕ) → IsChunkedBody content b → IsAgainstChunks d → b ++ r ≡ d ++ s → ⊥
whole_or_against content b d r s x y e =
    let top = x.most + y.most in
    let p = raise x.most top x.is.chunks done b (omega arith) (λ z. cc) x.is.ends in
    let q = raise y.most top y.chunks bad_chunk d (omega arith) (λ z. cc) y.ends in
    let same = (one_body top x.is.chunks y.chunks done bad_chunk b d r s p q e).1 in
    cc

-- from some room on, what has come decides nothing
record OpenFrom (b : List ℕ) : Type 0 where
  least : ℕ
  open_above : (most : ℕ) → least ≤ most → OpenAfter most 0 b

behind_chunks : (cs : List Chunk) (rest b : List ℕ) (n : ℕ) → AllByRecursion IsChunk cs → b ≡ flat_map print_chunk cs ++ rest
    → ((most : ℕ) → length (chunk_data cs) + n ≤ most → OpenAfter most (length (chunk_data cs)) rest) → OpenFrom b
behind_chunks cs rest b n each e o = record {
  least = length (chunk_data cs) + n;
  open_above = λ most h.
      let z = zero_first (length (chunk_data cs)) in
      subst (OpenAfter most 0) (sym e) (open_chunks most 0 cs rest each (omega (arith, h)) (rw z (o most h)));
}

come_open : (content b : List ℕ) → HasCome content b → OpenFrom b
come_open content b (in_line begun i) = behind_chunks i.chunks begun b 0 i.each i.passed_is (λ most h. open_line most _ begun i.lacks i.short)
come_open content b (in_chunk left more i) =
    behind_chunks i.chunks (i.line ++ i.begun) b (length i.begun + left) i.each i.passed_is
    (λ most h. open_data most _ (length i.begun + left) i.line i.begun i.announces i.some h (omega (arith, more)))
come_open content b (behind_chunk end (inl e) i) =
    behind_chunks i.chunks (i.line ++ (i.whole ++ end)) b (length i.whole) i.each i.passed_is
    (λ most h. open_behind most _ i.line i.whole end i.announces i.some h (let k = ap length e in omega (arith, k)) (λ x f. absurd (no_item x (sym e ∙ f))))
  where
    no_item : (x : ℕ) → [] ≡ x ∷ [] → ⊥
    no_item x f = cc
come_open content b (behind_chunk end (inr e) i) =
    behind_chunks i.chunks (i.line ++ (i.whole ++ end)) b (length i.whole) i.each i.passed_is
    (λ most h. open_behind most _ i.line i.whole end i.announces i.some h (let k = ap length e in omega (arith, k)) (λ x f. sym (same_item x (sym e ∙ f))))
  where
    same_item : (x : ℕ) → 13 ∷ [] ≡ x ∷ [] → 13 ≡ x
    same_item x f = cc
come_open content b (behind_last begun i) =
    behind_chunks i.chunks (i.line ++ begun) b 0 i.each i.passed_is (λ most h. open_trailer most _ i.line begun i.announces i.short i.none)

no_end : (most : ℕ) (cs : List Chunk) (k : Close) (b d r : List ℕ) → OpenAfter most 0 b → EndsChunked most cs k d → b ≡ d ++ r → ⊥
no_end most cs k b d r o e w =
    let z = zero_first (length (chunk_data cs)) in
    o cs k e.line e.more r e.each (rw z e.fits) (rw z e.closes) (w ∙ ap (λ u. u ++ r) e.whole ∙ append_assoc (flat_map print_chunk cs) (e.line ++ e.more) r)

whole_or_begun : (content other b d r : List ℕ) → IsChunkedBody content d → HasCome other b → b ≡ d ++ r → ⊥
whole_or_begun content other b d r x c e =
    let o = come_open other b c in
    let top = x.most + o.least in
    no_end top x.is.chunks done b d r (o.open_above top (omega arith)) (raise x.most top x.is.chunks done d (omega arith) (λ z. cc) x.is.ends) e

against_or_begun : (other b d r : List ℕ) → IsAgainstChunks d → HasCome other b → b ≡ d ++ r → ⊥
against_or_begun other b d r x c e =
    let o = come_open other b c in
    let top = x.most + o.least in
    no_end top x.chunks bad_chunk b d r (o.open_above top (omega arith)) (raise x.most top x.chunks bad_chunk d (omega arith) (λ z. cc) x.ends) e

pub has_one_state : HasOneState
has_one_state = record { whole_or_against = whole_or_against; whole_or_begun = whole_or_begun; against_or_begun = against_or_begun }
