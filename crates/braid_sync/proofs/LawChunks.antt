-- The data of a chunked body grows with its bytes.
use Rattle.std.proofs.Common.{◌≡◌, ℕ, ◌+◌, ◌≤◌, ◌<◌, append_assoc, append-nil, List, [], ◌∷◌, ◌++◌, inl, inr, ◌⊎◌, refl, ap, sym, subst, ◌∙◌, length, flat_map, arith, length-append}
use Rattle.std.specs.List.{AllByRecursion}
use Rattle.braid_ids.specs.Lists.{Lacks}
use Rattle.braid_ids.proofs.Splits.{lacks_split}
use Rattle.braid_http.specs.Chunks.{IsCut, Announces, Chunk, IsChunk, print_chunk, chunk_data, done, bad_chunk, Closes, last}
use Rattle.braid_http.specs.Bodies.{IsChunkedBody, HasCome, in_line, in_chunk, behind_chunk, behind_last, IsAgainstChunks}
use Rattle.braid_http.proofs.LineLaws.{line-append}
use Rattle.braid_http.proofs.ChunkLaws.{same_cut, same_size, same_chunk, one_body}
use Rattle.braid_http.proofs.BodyLaws.{raise}
use Rattle.braid_sync.proofs.LawFronts.{shorter_front}

-- What stands behind whole chunks, and the data in it: a part of a line; a line that announces data, and what has come of
-- that and of the CRLF behind it; or the line of the last chunk and more.
data Tail (p t : List ℕ) : Type 0 where
  part_of_line : Lacks 10 t → length t < 256 → p ≡ [] → Tail p t
  with_data : (l : List ℕ) (n : ℕ) (end : List ℕ) → Announces l n → 0 < n → t ≡ l ++ (p ++ end) → length p + length end < n + 2 → (length end ≡ 0) ⊎ (n ≤ length p) → length p ≤ n → Tail p t
  last_line : (l more : List ℕ) → Announces l 0 → t ≡ l ++ more → p ≡ [] → Tail p t

-- chunks, and what stands behind them, with the data of both
pub record Come (content b : List ℕ) : Type 0 where
  chunks : List Chunk
  each : AllByRecursion IsChunk chunks
  part : List ℕ
  tail : List ℕ
  is : Tail part tail
  passed_is : b ≡ flat_map print_chunk chunks ++ tail
  content_is : content ≡ chunk_data chunks ++ part

pub come : (content b : List ℕ) → HasCome content b → Come content b
come content b (in_line begun i) = record {
  chunks = i.chunks;
  each = i.each;
  part = [];
  tail = begun;
  is = part_of_line i.lacks i.short refl;
  passed_is = i.passed_is;
  content_is = i.content_is ∙ sym (append-nil (chunk_data i.chunks));
}
come content b (in_chunk left some i) = record {
  chunks = i.chunks;
  each = i.each;
  part = i.begun;
  tail = i.line ++ i.begun;
  is = with_data i.line (length i.begun + left) [] i.announces i.some (ap (λ t. i.line ++ t) (sym (append-nil i.begun))) (omega arith) (inl refl) (omega arith);
  passed_is = i.passed_is;
  content_is = i.content_is;
}
come content b (behind_chunk end h i) = record {
  chunks = i.chunks;
  each = i.each;
  part = i.whole;
  tail = i.line ++ (i.whole ++ end);
  is = with_data i.line (length i.whole) end i.announces i.some refl (let k = short end h in omega (arith, k)) (inr (omega arith)) (omega arith);
  passed_is = i.passed_is;
  content_is = i.content_is;
}
  where
    short : (end : List ℕ) → (end ≡ []) ⊎ (end ≡ 13 ∷ []) → length end < 2
    short end (inl e) = let k = ap length e in omega (arith, k)
    short end (inr e) = let k = ap length e in omega (arith, k)
come content b (behind_last begun i) = record {
  chunks = i.chunks;
  each = i.each;
  part = [];
  tail = i.line ++ begun;
  is = last_line i.line begun i.announces refl refl;
  passed_is = i.passed_is;
  content_is = i.content_is ∙ sym (append-nil (chunk_data i.chunks));
}

last_announces : (most total : ℕ) (l m : List ℕ) → Closes most total l m done → Announces l 0
last_announces most total l m (last a t) = a

pub whole_come : (content b : List ℕ) → IsChunkedBody content b → Come content b
whole_come content b i =
    let e = i.is.ends in
    record {
      chunks = i.is.chunks;
      each = e.each;
      part = [];
      tail = e.line ++ e.more;
      is = last_line e.line e.more (last_announces _ _ e.line e.more e.closes) refl refl;
      passed_is = e.whole;
      content_is = i.is.gives ∙ sym (append-nil (chunk_data i.is.chunks));
    }

-- a line, whole or too long, is in no part of a line
no_cut : (l z t : List ℕ) → IsCut l → Lacks 10 t → length t < 256 → l ++ z ≡ t → ⊥
no_cut l z t (inl k) h s e = lacks_split 10 t k.0 z h (sym e ∙ ap (λ x. x ++ z) k.2 ∙ line-append k.0 z)
no_cut l z t (inr k) h s e = let n = ap length e ∙ refl in let m = length-append l z in let f = k.0 in omega (arith, n, m, f, s)

-- what stands behind a line that announces n bytes, where a whole line stands at the front
same_line : (l m : List ℕ) (n k : ℕ) (x y : List ℕ) → Announces l n → Announces m k → l ++ x ≡ m ++ y → (n ≡ k) × (x ≡ y)
same_line l m n k x y a b e =
    let p = same_cut l m x y a.cut b.cut e in
    (same_size m n k (subst (λ z. Announces z n) p.0 a) b, p.1)

-- no part of what stands behind chunks has a whole chunk at its front
no_chunk : (c : Chunk) (r p t : List ℕ) → IsChunk c → Tail p t → print_chunk c ++ r ≡ t → ⊥
no_chunk c r p t i (part_of_line h s q) e = no_cut c.line ((c.content ++ 13 ∷ 10 ∷ []) ++ r) t i.announces.cut h s (sym (append_assoc c.line (c.content ++ 13 ∷ 10 ∷ []) r) ∙ e)
no_chunk c r p t i (with_data l n end a some w short at most) e =
    let k = same_line c.line l (length c.content) n ((c.content ++ 13 ∷ 10 ∷ []) ++ r) (p ++ end) i.announces a (sym (append_assoc c.line (c.content ++ 13 ∷ 10 ∷ []) r) ∙ e ∙ w) in
    let size = k.0 in
    let sizes = ap length k.1 in
    omega (arith, size, sizes, short, length-append (c.content ++ 13 ∷ 10 ∷ []) r, length-append c.content (13 ∷ 10 ∷ []), length-append p end)
no_chunk c r p t i (last_line l more a w q) e =
    let k = same_line c.line l (length c.content) 0 ((c.content ++ 13 ∷ 10 ∷ []) ++ r) more i.announces a (sym (append_assoc c.line (c.content ++ 13 ∷ 10 ∷ []) r) ∙ e ∙ w) in
    let size = k.0 in
    let some = i.some in
    omega (arith, size, some)

-- data that has come of a line's, where a whole chunk stands there
tail_in_chunk : (d : Chunk) (s p t x : List ℕ) → IsChunk d → Tail p t → t ++ x ≡ print_chunk d ++ s → (y : List ℕ) × (d.content ≡ p ++ y)
tail_in_chunk d s p t x i (part_of_line h n q) e = (d.content, sym (ap (λ z. z ++ d.content) q))
tail_in_chunk d s p t x i (with_data l n end a some w short at most) e =
    let k = same_line l d.line n (length d.content) ((p ++ end) ++ x) ((d.content ++ 13 ∷ 10 ∷ []) ++ s) a i.announces
    (sym (append_assoc l (p ++ end) x) ∙ ap (λ z. z ++ x) (sym w) ∙ e ∙ append_assoc d.line (d.content ++ 13 ∷ 10 ∷ []) s) in
    let size = k.0 in
    shorter_front p (end ++ x) d.content ((13 ∷ 10 ∷ []) ++ s) (sym (append_assoc p end x) ∙ k.1 ∙ append_assoc d.content (13 ∷ 10 ∷ []) s) (omega (arith, size, most))
tail_in_chunk d s p t x i (last_line l more a w q) e = (d.content, sym (ap (λ z. z ++ d.content) q))

-- the same where no whole chunk stands there
tail_in_tail : (p t x q s : List ℕ) → Tail p t → Tail q s → t ++ x ≡ s → (y : List ℕ) × (q ≡ p ++ y)
tail_in_tail p t x q s (part_of_line h n z) k e = (q, sym (ap (λ w. w ++ q) z))
tail_in_tail p t x q s (last_line l more a w z) k e = (q, sym (ap (λ w. w ++ q) z))
tail_in_tail p t x q s (with_data l n end a some w short at most) (part_of_line h m z) e =
    absurd (no_cut l ((p ++ end) ++ x) s a.cut h m (sym (append_assoc l (p ++ end) x) ∙ ap (λ z. z ++ x) (sym w) ∙ e))
tail_in_tail p t x q s (with_data l n end a some w short at most) (last_line m more b v z) e =
    let k = same_line l m n 0 ((p ++ end) ++ x) more a b (sym (append_assoc l (p ++ end) x) ∙ ap (λ z. z ++ x) (sym w) ∙ e ∙ v) in
    let size = k.0 in
    absurd (omega (arith, size, some))
tail_in_tail p t x q s (with_data l n end a some w short at most) (with_data m k fin b more v brief to high) e =
    let same = same_line l m n k ((p ++ end) ++ x) (q ++ fin) a b (sym (append_assoc l (p ++ end) x) ∙ ap (λ z. z ++ x) (sym w) ∙ e ∙ v) in
    let size = same.0 in
    let behind : p ++ (end ++ x) ≡ q ++ fin = sym (append_assoc p end x) ∙ same.1 in
    let sizes = ap length behind in
    shorter_front p (end ++ x) q fin behind (fits size sizes to)
  where
    fits : n ≡ k → length (p ++ (end ++ x)) ≡ length (q ++ fin) → (length fin ≡ 0) ⊎ (k ≤ length q) → length p ≤ length q
    fits size sizes (inl z) = omega (arith, z, sizes, length-append p (end ++ x), length-append q fin)
    fits size sizes (inr z) = omega (arith, z, size, most)

grows : (cs ds : List Chunk) (p t x q s : List ℕ) → AllByRecursion IsChunk cs → AllByRecursion IsChunk ds → Tail p t → Tail q s
    → flat_map print_chunk cs ++ (t ++ x) ≡ flat_map print_chunk ds ++ s → (y : List ℕ) × (chunk_data ds ++ q ≡ (chunk_data cs ++ p) ++ y)
grows [] [] p t x q s i j k l e = tail_in_tail p t x q s k l e
grows [] (d ∷ ds) p t x q s i j k l e =
    let z = tail_in_chunk d (flat_map print_chunk ds ++ s) p t x j.0 k (e ∙ append_assoc (print_chunk d) (flat_map print_chunk ds) s) in
    (z.0 ++ (chunk_data ds ++ q), append_assoc d.content (chunk_data ds) q ∙ ap (λ w. w ++ (chunk_data ds ++ q)) z.1 ∙ append_assoc p z.0 (chunk_data ds ++ q))
grows (c ∷ cs) [] p t x q s i j k l e = absurd (no_chunk c (flat_map print_chunk cs ++ (t ++ x)) q s i.0 l (sym (append_assoc (print_chunk c) (flat_map print_chunk cs) (t ++ x)) ∙ e))
grows (c ∷ cs) (d ∷ ds) p t x q s i j k l e =
    let one = same_chunk c d (flat_map print_chunk cs ++ (t ++ x)) (flat_map print_chunk ds ++ s) i.0 j.0 (sym (append_assoc (print_chunk c) (flat_map print_chunk cs) (t ++ x)) ∙ e ∙ append_assoc (print_chunk d) (flat_map print_chunk ds) s) in
    let z = grows cs ds p t x q s i.1 j.1 k l one.1 in
    let first : d.content ≡ c.content = ap (λ (w : Chunk). w.content) (sym one.0) in (
      z.0,
      append_assoc d.content (chunk_data ds) q ∙ (λ n. first n ++ z.1 n) ∙ sym (append_assoc c.content (chunk_data cs ++ p) z.0) ∙ ap (λ w. w ++ z.0) (sym (append_assoc c.content (chunk_data cs) p)),
    )

-- the data of more bytes begins with that of fewer
pub come_grows : (c b d e x : List ℕ) → Come c b → Come d e → e ≡ b ++ x → (y : List ℕ) × (d ≡ c ++ y)
come_grows c b d e x i j w =
    let z = grows i.chunks j.chunks i.part i.tail x j.part j.tail i.each j.each i.is j.is (sym (append_assoc (flat_map print_chunk i.chunks) i.tail x) ∙ ap (λ v. v ++ x) (sym i.passed_is) ∙ sym w ∙ j.passed_is) in
    (z.0, j.content_is ∙ z.1 ∙ ap (λ v. v ++ z.0) (sym i.content_is))

-- bytes that are against a chunked body are so with one byte
pub against_same : (b d r s : List ℕ) → IsAgainstChunks b → IsAgainstChunks d → b ++ r ≡ d ++ s → b ≡ d
against_same b d r s x y e =
    let top = x.most + y.most in
    let p = raise x.most top x.chunks bad_chunk b (omega arith) (λ z. cc) x.ends in
    let q = raise y.most top y.chunks bad_chunk d (omega arith) (λ z. cc) y.ends in
    (one_body top x.chunks y.chunks bad_chunk bad_chunk b d r s p q e).2
