-- Bytes that decide nothing yet.
use Rattle.std.proofs.Common.{◌≡◌, ℕ, ◌+◌, ◌<◌, ◌≤◌, append_assoc, List, [], ◌∷◌, ◌++◌, inl, inr, refl, ap, sym, subst, ◌∙◌, length, flat_map, arith, length-append, append-nil}
use Rattle.std.specs.List.{AllByRecursion}
use Rattle.std.proofs.lemmas.List.{append_cancel_left}
use Rattle.httparse.specs.Grammar.{RequestHead}
use Rattle.braid_ids.specs.Lists.{Lacks}
use Rattle.braid_ids.proofs.Splits.{lacks_split}
use Rattle.braid_http.specs.declared.framing.Framing.TheVariants.{No, Body, Chunks}
use Rattle.braid_http.specs.Heads.{HeadText, IsHead, text_bytes, HasNoHead, HasNoBlock}
use Rattle.braid_http.specs.Chunks.{IsCut, Announces, Chunk, IsChunk, print_chunk, chunk_data, Departs, Close, Closes, last, unread, over, departs, long_trailer}
use Rattle.braid_http.specs.Requests.{Says, Answer, Decides, IsOpen}
use Rattle.braid_http.specs.Steps.{OpenAfter}
use Rattle.braid_http.proofs.LineLaws.{same_text, line-append}
use Rattle.braid_http.proofs.Fronts.{same_front}
use Rattle.braid_http.proofs.ChunkLaws.{same_cut, same_size, cut_of, no_close, same_chunk}
use Rattle.braid_http.proofs.Decisions.{Verdict, many, bad, fields, takes, chunks, Shape, long, headed, shape, same_said, no_long}

-- without a head, and with fewer bytes than a head may have, nothing is decided
pub open_head : (bytes : List ℕ) → length bytes < 16_384 → HasNoHead bytes → IsOpen bytes
open_head bytes l n x b rest p e = go (shape x b p)
  where
    go : Shape x b → ⊥
    go (long m o i) = let k = ap length e ∙ length-append b rest in omega (arith, k, l, m)
    go (headed h) = n h.text (h.content ++ rest) h.is (e ∙ ap (λ z. z ++ rest) h.whole ∙ append_assoc (text_bytes h.text) h.content rest)

-- what is decided behind a head
record Behind (t : HeadText) (x : Answer) (part rest : List ℕ) : Type 0 where
  content : List ℕ
  verdict : Verdict t content x
  whole : part ≡ content ++ rest

behind : (bytes b part d rest : List ℕ) (t : HeadText) (x : Answer) → IsHead 16_384 b t → bytes ≡ b ++ part → Decides x d → bytes ≡ d ++ rest → Behind t x part rest
behind bytes b part d rest t x i w p e = go (shape x d p)
  where
    same : text_bytes t ++ part ≡ d ++ rest
    same = sym (w ∙ ap (λ z. z ++ part) i.spelled) ∙ e

    go : Shape x d → Behind t x part rest
    go (long m o j) = absurd (no_long d d rest [] part t m o i.text i.short (sym same ∙ sym (append-nil (text_bytes t ++ part))))
    go (headed k) =
        let q = same_text t k.text part (k.content ++ rest) i.text k.is (same ∙ ap (λ z. z ++ rest) k.whole ∙ append_assoc (text_bytes k.text) k.content rest) in
        record { content = k.content; verdict = subst (λ (z : HeadText). Verdict z k.content x) (sym q.0) k.verdict; whole = q.1 }

-- nor where a body of a length has not come whole
pub open_body : (bytes b part : List ℕ) (t : HeadText) (h : RequestHead) (n : ℕ) → IsHead 16_384 b t → Says t h (Body n) → bytes ≡ b ++ part → length part < n → IsOpen bytes
open_body bytes b part t h n i s w l x d rest p e = let k = behind bytes b part d rest t x i w p e in says k.content x k.verdict k.whole
  where
    says : (c : List ℕ) (y : Answer) → Verdict t c y → part ≡ c ++ rest → ⊥
    says c _ (many m f) r = let k = s.few in omega (arith, k, m)
    says c _ (bad m v f) r = v h s.whole
    says c _ (fields k g y f) r = let said = (same_said t h k (Body n) (No g) s y).1 in cc
    says c _ (takes k y) r =
        let said = (same_said t h k (Body n) (Body (length c)) s y).1 in
        let same : n ≡ length c = cc in
        let a = ap length r ∙ length-append c rest in
        omega (arith, a, same, l)
    says c _ (chunks k cs j y z) r = let said = (same_said t h k (Body n) Chunks s y).1 in cc

-- nor where a chunked body is not decided
pub open_chunked : (bytes b part : List ℕ) (t : HeadText) (h : RequestHead) → IsHead 16_384 b t → Says t h Chunks → bytes ≡ b ++ part → OpenAfter 2_097_152 0 part → IsOpen bytes
open_chunked bytes b part t h i s w o x d rest p e = let k = behind bytes b part d rest t x i w p e in says k.content x k.verdict k.whole
  where
    zero_first : (n : ℕ) → 0 + n ≡ n
    zero_first n = omega arith

    says : (c : List ℕ) (y : Answer) → Verdict t c y → part ≡ c ++ rest → ⊥
    says c _ (many m f) r = let k = s.few in omega (arith, k, m)
    says c _ (bad m v f) r = v h s.whole
    says c _ (fields k g y f) r = let said = (same_said t h k Chunks (No g) s y).1 in cc
    says c _ (takes k y) r = let said = (same_said t h k Chunks (Body (length c)) s y).1 in cc
    says c _ (chunks k cs j y z) r =
        let n = zero_first (length (chunk_data cs)) in
        o cs j z.line z.more rest z.each (rw n z.fits) (rw n z.closes)
        (r ∙ ap (λ u. u ++ rest) z.whole ∙ append_assoc (flat_map print_chunk cs) (z.line ++ z.more) rest)

-- a whole chunk decides nothing
pub open_chunk : (most total : ℕ) (c : Chunk) (bytes : List ℕ) → IsChunk c → total + length c.content ≤ most → OpenAfter most (total + length c.content) bytes → OpenAfter most total (print_chunk c ++ bytes)
open_chunk most total c bytes i fits o [] k l m rest each f x e =
    no_close most (total + 0) l m rest bytes c k x i (omega (arith, fits)) (sym e)
open_chunk most total c bytes i fits o (d ∷ ds) k l m rest each f x e =
    let one = same_chunk c d bytes _ i each.0 (e ∙ append_assoc (print_chunk d) (flat_map print_chunk ds) ((l ++ m) ++ rest)) in
    let n = length-append d.content (chunk_data ds) in
    let sum : total + length (chunk_data (d ∷ ds)) ≡ (total + length c.content) + length (chunk_data ds) =
    (let z : length c.content ≡ length d.content = ap (λ (y : Chunk). length y.content) one.0 in omega (arith, n, z)) in
    o ds k l m rest each.1 (rw (← sum) f) (rw (← sum) x) one.1

-- nor do whole chunks
pub open_chunks : (most total : ℕ) (cs : List Chunk) (bytes : List ℕ) → AllByRecursion IsChunk cs → total + length (chunk_data cs) ≤ most → OpenAfter most (total + length (chunk_data cs)) bytes → OpenAfter most total (flat_map print_chunk cs ++ bytes)
open_chunks most total [] bytes each fits o = let z : total + 0 ≡ total = omega arith in rw z at o
open_chunks most total (c ∷ cs) bytes each fits o =
    let n = length-append c.content (chunk_data cs) in
    let sum : total + length (chunk_data (c ∷ cs)) ≡ (total + length c.content) + length (chunk_data cs) = omega (arith, n) in
    subst (OpenAfter most total) (sym (append_assoc (print_chunk c) (flat_map print_chunk cs) bytes))
    (open_chunk most total c (flat_map print_chunk cs ++ bytes) each.0 (omega (arith, fits, n)) (open_chunks most (total + length c.content) cs bytes each.1 (rw sum at fits) (rw sum at o)))

-- the line that stands first among what decides
first_cut : (most total : ℕ) (ds : List Chunk) (k : Close) (l m rest : List ℕ) → AllByRecursion IsChunk ds → Closes most (total + length (chunk_data ds)) l m k
    → (first behind : List ℕ) × IsCut first × (flat_map print_chunk ds ++ ((l ++ m) ++ rest) ≡ first ++ behind)
first_cut most total [] k l m rest each x = (l, m ++ rest, cut_of most (total + 0) l m k x, append_assoc l m rest)
first_cut most total (d ∷ ds) k l m rest each x = (
  d.line,
  (d.content ++ 13 ∷ 10 ∷ []) ++ (flat_map print_chunk ds ++ ((l ++ m) ++ rest)),
  each.0.announces.cut,
  append_assoc (print_chunk d) (flat_map print_chunk ds) ((l ++ m) ++ rest) ∙ append_assoc d.line (d.content ++ 13 ∷ 10 ∷ []) (flat_map print_chunk ds ++ ((l ++ m) ++ rest)),
)

-- a line begun decides nothing
pub open_line : (most total : ℕ) (bytes : List ℕ) → Lacks 10 bytes → length bytes < 256 → OpenAfter most total bytes
open_line most total bytes h short ds k l m rest each f x e =
    let p = first_cut most total ds k l m rest each x in
    go p.0 p.1 p.2 (e ∙ p.3)
  where
    go : (first behind : List ℕ) → IsCut first → bytes ≡ first ++ behind → ⊥
    go first behind (inl c) q = lacks_split 10 bytes c.0 behind h (q ∙ ap (λ z. z ++ behind) c.2 ∙ line-append c.0 behind)
    go first behind (inr c) q = let s = c.0 in let n = ap length q ∙ length-append first behind in omega (arith, s, n, short)

-- nor does data that has not come whole, nor data before a CR alone
pub open_data : (most total n : ℕ) (l data' : List ℕ) → Announces l n → 0 < n → total + n ≤ most → length data' < n → OpenAfter most total (l ++ data')
open_data most total n l begun a some fits short [] k v m rest each f x e =
    let p = same_cut l v begun (m ++ rest) a.cut (cut_of most (total + 0) v m k x) (e ∙ append_assoc v m rest) in
    go k x (rw p.0 at a) p.1
  where
    go : (j : Close) → Closes most (total + 0) v m j → Announces v n → begun ≡ m ++ rest → ⊥
    go _ (last b t) c q = let z = same_size v 0 n b c in omega (arith, z, some)
    go _ (unread d w r) c q = w c.line c.reads
    go _ (over y b g h r) c q = let z = same_size v y n b c in omega (arith, z, h, fits)
    go _ (departs d end b g h r y) c q =
        let z = same_size v (length d) n b c in
        let s = ap length q ∙ length-append m rest in
        let t = ap length r ∙ length-append d end in
        omega (arith, z, s, t, short)
    go _ (long_trailer b y w) c q = let z = same_size v 0 n b c in omega (arith, z, some)
open_data most total n l begun a some fits short (d ∷ ds) k v m rest each f x e =
    let whole = e ∙ append_assoc (print_chunk d) (flat_map print_chunk ds) ((v ++ m) ++ rest) ∙ append_assoc d.line (d.content ++ 13 ∷ 10 ∷ []) (flat_map print_chunk ds ++ ((v ++ m) ++ rest)) in
    let p = same_cut l d.line begun _ a.cut each.0.announces.cut whole in
    let z = same_size d.line n (length d.content) (rw p.0 at a) each.0.announces in
    let s = ap length p.1 ∙ length-append (d.content ++ 13 ∷ 10 ∷ []) (flat_map print_chunk ds ++ ((v ++ m) ++ rest)) in
    let t = length-append d.content (13 ∷ 10 ∷ []) in
    omega (arith, z, s, t, short)

-- nor does whole data, before the two bytes behind it
pub open_behind : (most total : ℕ) (l content end : List ℕ) → Announces l (length content) → 0 < length content → total + length content ≤ most → length end < 2 → ((x : ℕ) → end ≡ x ∷ [] → x ≡ 13) → OpenAfter most total (l ++ (content ++ end))
open_behind most total l content end a some fits short cr [] k v m rest each f x e =
    let p = same_cut l v (content ++ end) (m ++ rest) a.cut (cut_of most (total + 0) v m k x) (e ∙ append_assoc v m rest) in
    go k x (rw p.0 at a) p.1
  where
    ends : (w r : List ℕ) → Departs w → end ≡ w ++ r → ⊥
    ends [] r dep q = dep
    ends (y ∷ []) r dep q =
        let n = ap length q in
        let none : r ≡ [] = empty r (omega (arith, n, short)) in
        dep (cr y (q ∙ ap (λ z. y ∷ z) none))
      where
        empty : (r : List ℕ) → length r ≤ 0 → r ≡ []
        empty [] l = refl
        empty (z ∷ zs) l = absurd (omega (arith, l))
    ends (y ∷ z ∷ []) r dep q = let n = ap length q in omega (arith, n, short)
    ends (y ∷ z ∷ w ∷ ws) r dep q = dep

    go : (j : Close) → Closes most (total + 0) v m j → Announces v (length content) → content ++ end ≡ m ++ rest → ⊥
    go _ (last b t) c q = let z = same_size v 0 (length content) b c in omega (arith, z, some)
    go _ (unread d w r) c q = w c.line c.reads
    go _ (over y b g h r) c q = let z = same_size v y (length content) b c in omega (arith, z, h, fits)
    go _ (departs d w b g h r y) c q =
        let z = same_size v (length d) (length content) b c in
        let regroup = q ∙ ap (λ u. u ++ rest) r ∙ append_assoc d w rest in
        let first = same_front content d end (w ++ rest) (sym z) regroup in
        ends w rest y (append_cancel_left content end (w ++ rest) (regroup ∙ ap (λ u. u ++ (w ++ rest)) (sym first)))
    go _ (long_trailer b y w) c q = let z = same_size v 0 (length content) b c in omega (arith, z, some)
open_behind most total l content end a some fits short cr (d ∷ ds) k v m rest each f x e =
    let whole = e ∙ append_assoc (print_chunk d) (flat_map print_chunk ds) ((v ++ m) ++ rest) ∙ append_assoc d.line (d.content ++ 13 ∷ 10 ∷ []) (flat_map print_chunk ds ++ ((v ++ m) ++ rest)) in
    let p = same_cut l d.line (content ++ end) _ a.cut each.0.announces.cut whole in
    let z = same_size d.line (length content) (length d.content) (rw p.0 at a) each.0.announces in
    let s = ap length p.1 ∙ length-append (d.content ++ 13 ∷ 10 ∷ []) (flat_map print_chunk ds ++ ((v ++ m) ++ rest)) in
    let t = length-append d.content (13 ∷ 10 ∷ []) in
    let u = length-append content end in
    omega (arith, z, s, t, u, short)

-- nor does a trailer begun
pub open_trailer : (most total : ℕ) (l begun : List ℕ) → Announces l 0 → length begun < 16_384 → HasNoBlock begun → OpenAfter most total (l ++ begun)
open_trailer most total l begun a short none [] k v m rest each f x e =
    let p = same_cut l v begun (m ++ rest) a.cut (cut_of most (total + 0) v m k x) (e ∙ append_assoc v m rest) in
    go k x (rw p.0 at a) p.1
  where
    go : (j : Close) → Closes most (total + 0) v m j → Announces v 0 → begun ≡ m ++ rest → ⊥
    go _ (last b t) c q = none t.full t.last rest t.each t.ends (q ∙ ap (λ z. z ++ rest) t.whole)
    go _ (unread d w r) c q = w c.line c.reads
    go _ (over y b g h r) c q = let z = same_size v y 0 b c in omega (arith, z, g)
    go _ (departs d end b g h r y) c q = let z = same_size v (length d) 0 b c in omega (arith, z, g)
    go _ (long_trailer b y w) c q = let s = ap length q ∙ length-append m rest in omega (arith, s, y, short)
open_trailer most total l begun a short none (d ∷ ds) k v m rest each f x e =
    let whole = e ∙ append_assoc (print_chunk d) (flat_map print_chunk ds) ((v ++ m) ++ rest) ∙ append_assoc d.line (d.content ++ 13 ∷ 10 ∷ []) (flat_map print_chunk ds ++ ((v ++ m) ++ rest)) in
    let p = same_cut l d.line begun _ a.cut each.0.announces.cut whole in
    let z = same_size d.line 0 (length d.content) (rw p.0 at a) each.0.announces in
    let s = each.0.some in
    omega (arith, z, s)
