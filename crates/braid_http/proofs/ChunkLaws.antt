-- A chunked body is read in one way.
use Rattle.std.proofs.Common.{◌≡◌, ℕ, ◌+◌, ◌-◌, ◌≤◌, append_assoc, List, [], ◌∷◌, ◌++◌, inl, inr, refl, ap, sym, ◌∙◌, length, take, flat_map, arith, length-append}
use Rattle.std.specs.List.{AllByRecursion}
use Rattle.std.proofs.lemmas.List.{append_cancel_left}
use Rattle.httparse.specs.Grammar.{chunk_size}
use Rattle.httparse.proofs.ChunkLemmas.{chunk_line_unique}
use Rattle.braid_ids.specs.Lists.{Lacks}
use Rattle.braid_http.specs.Heads.{line, lines, HasNoBlock}
use Rattle.braid_http.specs.Chunks.{IsCut, Announces, Chunk, IsChunk, print_chunk, chunk_data, IsTrailer, Departs, Close, done, Closes, last, unread, over, departs, long_trailer, OneBody, OneData}
use Rattle.braid_http.proofs.LineLaws.{same_line, same_block}
use Rattle.braid_http.proofs.Fronts.{same_front, cut_front}

-- no LF stands in the first bytes
no_lf : (c d r s : List ℕ) → Lacks 10 d → length (line c) ≤ length d → line c ++ r ≡ d ++ s → ⊥
no_lf [] [] r s h l e = omega (arith, l)
no_lf [] (y ∷ d) r s h l e = h.0 (cc)
no_lf (x ∷ c) [] r s h l e = omega (arith, l)
no_lf (x ∷ c) (y ∷ d) r s h l e =
    let others : line c ++ r ≡ d ++ s = cc in
    let k : length (line c) ≤ length d = omega (arith, l) in
    no_lf c d r s h.1 k others

pub same_cut : (b d r s : List ℕ) → IsCut b → IsCut d → b ++ r ≡ d ++ s → (b ≡ d) × (r ≡ s)
same_cut b d r s (inl x) (inl y) e =
    let p = same_line x.0 y.0 r s x.1 y.1 (ap (λ z. z ++ r) (sym x.2) ∙ e ∙ ap (λ z. z ++ s) y.2) in
    (x.2 ∙ ap line p.0 ∙ sym y.2, p.1)
same_cut b d r s (inl x) (inr y) e =
    let size = ap length x.2 in
    let short = x.3 in
    let full = y.0 in
    absurd (no_lf x.0 d r s y.1 (omega (arith, size, short, full)) (ap (λ z. z ++ r) (sym x.2) ∙ e))
same_cut b d r s (inr x) (inl y) e =
    let size = ap length y.2 in
    let short = y.3 in
    let full = x.0 in
    absurd (no_lf y.0 b s r x.1 (omega (arith, size, short, full)) (ap (λ z. z ++ s) (sym y.2) ∙ sym e))
same_cut b d r s (inr x) (inr y) e =
    let p = same_front b d r s (x.0 ∙ sym y.0) e in
    (p, append_cancel_left b r s (e ∙ ap (λ z. z ++ s) (sym p)))

pub same_size : (b : List ℕ) (n m : ℕ) → Announces b n → Announces b m → n ≡ m
same_size b n m x y = x.size ∙ ap chunk_size (chunk_line_unique b x.line y.line [] [] x.reads y.reads).0 ∙ sym y.size

same_end : (a b r s : List ℕ) → Departs a → Departs b → a ++ r ≡ b ++ s → a ≡ b
same_end [] b r s x y e = absurd x
same_end (a ∷ more) [] r s x y e = absurd y
same_end (a ∷ []) (b ∷ []) r s x y e = let k : a ≡ b = cc in ap (λ z. z ∷ []) k
same_end (a ∷ []) (b ∷ c ∷ []) r s x y e = let k : a ≡ b = cc in absurd (x (k ∙ y.0))
same_end (a ∷ c ∷ []) (b ∷ []) r s x y e = let k : a ≡ b = cc in absurd (y (sym k ∙ x.0))
same_end (a ∷ c ∷ []) (b ∷ d ∷ []) r s x y e = let k : a ≡ b = cc in let l : c ≡ d = cc in cc
same_end (a ∷ c ∷ f ∷ fs) (b ∷ bs) r s x y e = absurd x
same_end (a ∷ []) (b ∷ c ∷ d ∷ ds) r s x y e = absurd y
same_end (a ∷ f ∷ []) (b ∷ c ∷ d ∷ ds) r s x y e = absurd y

no_end : (a r s : List ℕ) → Departs a → a ++ r ≡ 13 ∷ 10 ∷ s → ⊥
no_end [] r s x e = x
no_end (a ∷ []) r s x e = x (cc)
no_end (a ∷ b ∷ []) r s x e = x.1 (cc)
no_end (a ∷ b ∷ c ∷ cs) r s x e = x

no_long_trailer : (b d r s : List ℕ) → IsTrailer b → length d ≡ 16_384 → HasNoBlock d → b ++ r ≡ d ++ s → ⊥
no_long_trailer b d r s t l n e =
    let short = t.short in
    let c = cut_front d b s r l short (sym e) in
    n t.full t.last _ t.each t.ends (c ∙ ap (λ z. z ++ take (16_384 - length b) r) t.whole)

pub cut_of : (most total : ℕ) (l m : List ℕ) (k : Close) → Closes most total l m k → IsCut l
cut_of most total l m _ (last a t) = a.cut
cut_of most total l m _ (unread c n e) = c
cut_of most total l m _ (over n a p q e) = a.cut
cut_of most total l m _ (departs c f a p q e d) = a.cut
cut_of most total l m _ (long_trailer a z n) = a.cut

same_close : (most total : ℕ) (l m w r s : List ℕ) (k j : Close) → Closes most total l m k → Closes most total l w j → m ++ r ≡ w ++ s → (k ≡ j) × (m ≡ w)
same_close most total l m w r s _ _ (last a t) (last b u) e =
    let p = same_block t.full u.full t.last u.last r s t.each u.each t.ends u.ends (ap (λ z. z ++ r) (sym t.whole) ∙ e ∙ ap (λ z. z ++ s) u.whole) in
    (refl, t.whole ∙ (λ i. lines (p.0 i) ++ line (p.1 i)) ∙ sym u.whole)
same_close most total l m w r s _ _ (last a t) (unread c n q) e = absurd (n a.line a.reads)
same_close most total l m w r s _ _ (last a t) (over n b p q f) e = let z = same_size l 0 n a b in absurd (omega (arith, z, p))
same_close most total l m w r s _ _ (last a t) (departs c f b p q g d) e = let z = same_size l 0 (length c) a b in absurd (omega (arith, z, p))
same_close most total l m w r s _ _ (last a t) (long_trailer b z n) e = absurd (no_long_trailer m w r s t z n e)
same_close most total l m w r s _ _ (unread c n q) (last a t) e = absurd (n a.line a.reads)
same_close most total l m w r s _ _ (unread c n q) (unread d o p) e = (refl, q ∙ sym p)
same_close most total l m w r s _ _ (unread c n q) (over k b p g f) e = absurd (n b.line b.reads)
same_close most total l m w r s _ _ (unread c n q) (departs x f b p g h d) e = absurd (n b.line b.reads)
same_close most total l m w r s _ _ (unread c n q) (long_trailer b z o) e = absurd (n b.line b.reads)
same_close most total l m w r s _ _ (over n a p q f) (last b t) e = let z = same_size l n 0 a b in absurd (omega (arith, z, p))
same_close most total l m w r s _ _ (over n a p q f) (unread c o g) e = absurd (o a.line a.reads)
same_close most total l m w r s _ _ (over n a p q f) (over k b x y g) e = (refl, f ∙ sym g)
same_close most total l m w r s _ _ (over n a p q f) (departs c g b x y h d) e = let z = same_size l n (length c) a b in absurd (omega (arith, z, q, y))
same_close most total l m w r s _ _ (over n a p q f) (long_trailer b z o) e = let k = same_size l n 0 a b in absurd (omega (arith, k, p))
same_close most total l m w r s _ _ (departs c f a p q g d) (last b t) e = let z = same_size l (length c) 0 a b in absurd (omega (arith, z, p))
same_close most total l m w r s _ _ (departs c f a p q g d) (unread x o h) e = absurd (o a.line a.reads)
same_close most total l m w r s _ _ (departs c f a p q g d) (over n b x y h) e = let z = same_size l (length c) n a b in absurd (omega (arith, z, q, y))
same_close most total l m w r s _ _ (departs c f a p q g d) (departs x h b y z i v) e =
    let size = same_size l (length c) (length x) a b in
    let regroup = sym (append_assoc c f r) ∙ ap (λ k. k ++ r) (sym g) ∙ e ∙ ap (λ k. k ++ s) i ∙ append_assoc x h s in
    let first = same_front c x (f ++ r) (h ++ s) size regroup in
    let ends = same_end f h r s d v (append_cancel_left c (f ++ r) (h ++ s) (regroup ∙ ap (λ k. k ++ (h ++ s)) (sym first))) in
    (refl, g ∙ (λ k. first k ++ ends k) ∙ sym i)
same_close most total l m w r s _ _ (departs c f a p q g d) (long_trailer b z o) e = let k = same_size l (length c) 0 a b in absurd (omega (arith, k, p))
same_close most total l m w r s _ _ (long_trailer a z n) (last b t) e = absurd (no_long_trailer w m s r t z n (sym e))
same_close most total l m w r s _ _ (long_trailer a z n) (unread c o g) e = absurd (o a.line a.reads)
same_close most total l m w r s _ _ (long_trailer a z n) (over k b x y g) e = let v = same_size l 0 k a b in absurd (omega (arith, v, x))
same_close most total l m w r s _ _ (long_trailer a z n) (departs c f b p q g d) e = let v = same_size l 0 (length c) a b in absurd (omega (arith, v, p))
same_close most total l m w r s _ _ (long_trailer a z n) (long_trailer b y o) e = (refl, same_front m w r s (z ∙ sym y) e)

-- a chunk is no end
pub no_close : (most total : ℕ) (l m rest s : List ℕ) (c : Chunk) (k : Close) → Closes most total l m k → IsChunk c → total + length c.content ≤ most → (l ++ m) ++ rest ≡ print_chunk c ++ s → ⊥
no_close most total l m rest s c k x i fits e =
    let p = same_cut l c.line (m ++ rest) ((c.content ++ 13 ∷ 10 ∷ []) ++ s) (cut_of most total l m k x) i.announces.cut (sym (append_assoc l m rest) ∙ e ∙ append_assoc c.line (c.content ++ 13 ∷ 10 ∷ []) s) in
    go k x (rw p.0 i.announces) p.1
  where
    go : (k : Close) → Closes most total l m k → Announces l (length c.content) → m ++ rest ≡ (c.content ++ 13 ∷ 10 ∷ []) ++ s → ⊥
    go _ (last a t) b e = let z = same_size l 0 (length c.content) a b in let v = i.some in omega (arith, z, v)
    go _ (unread d n q) b e = n b.line b.reads
    go _ (over n a p q f) b e = let z = same_size l n (length c.content) a b in omega (arith, z, q, fits)
    go _ (departs d f a p q g v) b e =
        let size = same_size l (length d) (length c.content) a b in
        let regroup = sym (append_assoc d f rest) ∙ ap (λ z. z ++ rest) (sym g) ∙ e ∙ append_assoc c.content (13 ∷ 10 ∷ []) s in
        let first = same_front d c.content (f ++ rest) (13 ∷ 10 ∷ s) size regroup in
        no_end f rest s v (append_cancel_left d (f ++ rest) (13 ∷ 10 ∷ s) (regroup ∙ ap (λ z. z ++ 13 ∷ 10 ∷ s) (sym first)))
    go _ (long_trailer a z n) b e = let y = same_size l 0 (length c.content) a b in let v = i.some in omega (arith, y, v)

pub same_chunk : (c d : Chunk) (r s : List ℕ) → IsChunk c → IsChunk d → print_chunk c ++ r ≡ print_chunk d ++ s → (c ≡ d) × (r ≡ s)
same_chunk c d r s i j e =
    let p = same_cut c.line d.line ((c.content ++ 13 ∷ 10 ∷ []) ++ r) ((d.content ++ 13 ∷ 10 ∷ []) ++ s) i.announces.cut j.announces.cut (sym (append_assoc c.line (c.content ++ 13 ∷ 10 ∷ []) r) ∙ e ∙ append_assoc d.line (d.content ++ 13 ∷ 10 ∷ []) s) in
    let size = same_size d.line (length c.content) (length d.content) (rw p.0 at i.announces) j.announces in
    let regroup = sym (append_assoc c.content (13 ∷ 10 ∷ []) r) ∙ p.1 ∙ append_assoc d.content (13 ∷ 10 ∷ []) s in
    let first = same_front c.content d.content (13 ∷ 10 ∷ r) (13 ∷ 10 ∷ s) size regroup in
    let behind : 13 ∷ 10 ∷ r ≡ 13 ∷ 10 ∷ s = append_cancel_left c.content (13 ∷ 10 ∷ r) (13 ∷ 10 ∷ s) (regroup ∙ ap (λ z. z ++ 13 ∷ 10 ∷ s) (sym first)) in
    ((λ k. record { line = p.0 k; content = first k }), cc)

same_chunks : (most total : ℕ) (cs ds : List Chunk) (k j : Close) (l m v w r s : List ℕ) → AllByRecursion IsChunk cs → AllByRecursion IsChunk ds
    → total + length (chunk_data cs) ≤ most → total + length (chunk_data ds) ≤ most
    → Closes most (total + length (chunk_data cs)) l m k → Closes most (total + length (chunk_data ds)) v w j
    → flat_map print_chunk cs ++ ((l ++ m) ++ r) ≡ flat_map print_chunk ds ++ ((v ++ w) ++ s) → (cs ≡ ds) × (k ≡ j) × (l ++ m ≡ v ++ w)
same_chunks most total [] [] k j l m v w r s x y f g p q e =
    let c = same_cut l v (m ++ r) (w ++ s) (cut_of _ _ _ _ _ p) (cut_of _ _ _ _ _ q) (sym (append_assoc l m r) ∙ e ∙ append_assoc v w s) in
    let z = same_close most (total + 0) v m w r s k j (rw c.0 at p) q c.1 in
    (refl, z.0, (λ i. c.0 i ++ z.1 i))
same_chunks most total [] (d ∷ ds) k j l m v w r s x y f g p q e =
    let n = length-append d.content (chunk_data ds) in
    absurd (no_close most (total + 0) l m r _ d k p y.0 (omega (arith, g, n)) (e ∙ append_assoc (print_chunk d) (flat_map print_chunk ds) ((v ++ w) ++ s)))
same_chunks most total (c ∷ cs) [] k j l m v w r s x y f g p q e =
    let n = length-append c.content (chunk_data cs) in
    absurd (no_close most (total + 0) v w s _ c j q x.0 (omega (arith, f, n)) (sym e ∙ append_assoc (print_chunk c) (flat_map print_chunk cs) ((l ++ m) ++ r)))
same_chunks most total (c ∷ cs) (d ∷ ds) k j l m v w r s x y f g p q e =
    let one = same_chunk c d _ _ x.0 y.0 (sym (append_assoc (print_chunk c) (flat_map print_chunk cs) ((l ++ m) ++ r)) ∙ e ∙ append_assoc (print_chunk d) (flat_map print_chunk ds) ((v ++ w) ++ s)) in
    let more : (a : List ℕ) (b : List ℕ) → total + length (a ++ b) ≡ (total + length a) + length b = λ a b. let n = length-append a b in omega (arith, n) in
    let a : (total + length d.content) + length (chunk_data cs) ≡ total + length (chunk_data (c ∷ cs)) = sym (more c.content (chunk_data cs) ∙ ap (λ (z : Chunk). (total + length z.content) + length (chunk_data cs)) one.0) in
    let b : (total + length d.content) + length (chunk_data ds) ≡ total + length (chunk_data (d ∷ ds)) = sym (more d.content (chunk_data ds)) in
    let z = same_chunks most (total + length d.content) cs ds k j l m v w r s x.1 y.1 (rw a f) (rw b g) (rw a p) (rw b q) one.1 in
    ((λ i. one.0 i ∷ z.0 i), z.1, z.2)

pub one_body : OneBody
one_body most cs ds k j b d r s x y e =
    let zero_first : (n : ℕ) → 0 + n ≡ n = λ n. omega arith in
    let cz = zero_first (length (chunk_data cs)) in
    let dz = zero_first (length (chunk_data ds)) in
    let group : (a c z : List ℕ) → (a ++ c) ++ z ≡ a ++ (c ++ z) = λ a c z. append_assoc a c z in
    let z = same_chunks most 0 cs ds k j x.line x.more y.line y.more r s x.each y.each (rw cz x.fits) (rw dz y.fits) (rw cz x.closes) (rw dz y.closes)
    (sym (group (flat_map print_chunk cs) (x.line ++ x.more) r) ∙ ap (λ w. w ++ r) (sym x.whole) ∙ e ∙ ap (λ w. w ++ s) y.whole ∙ group (flat_map print_chunk ds) (y.line ++ y.more) s) in
    (z.0, z.1, x.whole ∙ (λ i. flat_map print_chunk (z.0 i) ++ z.2 i) ∙ sym y.whole)

pub one_data : OneData
one_data most content other b x y =
    let same = one_body most x.chunks y.chunks done done b b [] [] x.ends y.ends refl in
    x.gives ∙ ap chunk_data same.0 ∙ sym y.gives
