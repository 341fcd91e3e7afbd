-- A byte more of a chunk's line that has come in part.
use Rattle.std.proofs.Common.{◌≡◌, ◌≢◌, ℕ, ◌+◌, ◌<◌, ◌≤◌, List, [], ◌∷◌, ◌++◌, inl, inr, refl, ap, sym, subst, ◌∙◌, length, take, set, arith, length-append, length-take}
use Rattle.std.proofs.lemmas.List.{take_more_set}
use Rattle.httparse.specs.Grammar.{ChunkLine, ReadsChunkLine}
use Rattle.braid_ids.specs.Lists.{Lacks}
use Rattle.braid_http.specs.declared.around.Added.{Added}
use Rattle.braid_http.specs.declared.around.Added.TheVariants.{Size, Unread}
use Rattle.braid_http.specs.Chunks.{IsCut, Announces}
use Rattle.braid_http.specs.Draws.{IsLineBegun}
use Rattle.braid_http.specs.BodySteps.{Adds}

lacks_more : (part : List ℕ) (byte : ℕ) → Lacks 10 part → byte ≢ 10 → Lacks 10 (part ++ byte ∷ [])
lacks_more [] byte h n = (n, tt)
lacks_more (x ∷ part) byte h n = (h.0, lacks_more part byte h.1 n)

pub begun_more : (bytes : List ℕ) (len byte : ℕ) → len < length bytes → IsLineBegun (take len bytes) → byte ≢ 10 → len + 1 < 256 → (len + 1 ≤ 255) × IsLineBegun (take (len + 1) (set bytes len byte))
begun_more bytes len byte w i n s =
    let e = take_more_set bytes len byte w in
    let k = length-append (take len bytes) (byte ∷ []) in
    let m = length-take len bytes in
    (omega (arith, s), rw e (record { short = omega (arith, k, m, s, w); lacks = lacks_more (take len bytes) byte i.lacks n }))

pub cut_lf : (bytes : List ℕ) (len byte : ℕ) → len < length bytes → len ≤ 255 → IsLineBegun (take len bytes) → byte ≡ 10 → IsCut (take (len + 1) (set bytes len byte))
cut_lf bytes len byte w s i e =
    let k = length-append (take len bytes) (byte ∷ []) in
    let m = length-take len bytes in
    rw (take_more_set bytes len byte w) (inl (take len bytes, i.lacks, ap (λ z. take len bytes ++ z ∷ []) e, omega (arith, k, m, s, w)))

pub cut_full : (bytes : List ℕ) (len byte : ℕ) → len < length bytes → len ≤ 255 → IsLineBegun (take len bytes) → byte ≢ 10 → 256 ≤ len + 1 → IsCut (take (len + 1) (set bytes len byte))
cut_full bytes len byte w s i n f =
    let k = length-append (take len bytes) (byte ∷ []) in
    let m = length-take len bytes in
    rw (take_more_set bytes len byte w) (inr (omega (arith, k, m, s, w, f), lacks_more (take len bytes) byte i.lacks n))

pub added_size : (bytes : List ℕ) (len byte : ℕ) (old : List ℕ) (size : ℕ) (result : Added) → len < length bytes → take len bytes ≡ old → Announces (take (len + 1) (set bytes len byte)) size → result ≡ Size size → Adds result old [] byte
added_size bytes len byte old size result w v a r =
    let e : take (len + 1) (set bytes len byte) ≡ old ++ byte ∷ [] = take_more_set bytes len byte w ∙ ap (λ z. z ++ byte ∷ []) v in
    rw r (refl, subst (λ z. Announces z size) e a)

pub added_unread : (bytes : List ℕ) (len byte : ℕ) (old : List ℕ) (result : Added) → len < length bytes → take len bytes ≡ old → IsCut (take (len + 1) (set bytes len byte)) → ((l : ChunkLine) → ¬ (ReadsChunkLine (take (len + 1) (set bytes len byte)) l [])) → result ≡ Unread → Adds result old [] byte
added_unread bytes len byte old result w v c n r =
    let e : take (len + 1) (set bytes len byte) ≡ old ++ byte ∷ [] = take_more_set bytes len byte w ∙ ap (λ z. z ++ byte ∷ []) v in
    rw r (refl, subst IsCut e c, (λ l h. n l (subst (λ z. ReadsChunkLine z l []) (sym e) h)))
