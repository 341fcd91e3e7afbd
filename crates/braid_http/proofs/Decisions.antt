-- The bytes that decide an answer: no such bytes begin others, and they decide one answer.
use Rattle.std.proofs.Common.{◌≡◌, ℕ, ◌-◌, ◌<◌, ◌≤◌, append_assoc, List, [], ◌++◌, refl, ap, sym, ◌∙◌, length, take, arith, append-nil}
use Rattle.httparse.specs.Grammar.{RequestHead}
use Rattle.httparse.proofs.GrammarLemmas.{request_unique}
use Rattle.braid_http.specs.Fields.{IsWhole, fields_of}
use Rattle.braid_http.specs.Framings.{framing}
use Rattle.braid_http.specs.declared.framing.Framing.{Framing}
use Rattle.braid_http.specs.declared.framing.Framing.TheVariants.{No, Body, Chunks}
use Rattle.braid_http.specs.declared.refusal.Refusal.{Refusal}
use Rattle.braid_http.specs.declared.refusal.Refusal.TheVariants.{LongHead, ManyFields, BadHead, TooLong, BadChunk}
use Rattle.braid_http.specs.Chunks.{Chunk, chunk_data, Close, done, bad_chunk, too_long, EndsChunked}
use Rattle.braid_http.specs.Heads.{HeadText, IsHeadText, IsHead, head_bytes, text_bytes, HasNoHead}
use Rattle.braid_http.specs.Requests.{request_of, Says, Answer, asked, refused, Decides, long_head, many_fields, bad_head, by_fields, whole, chunked, bad_chunks, long_chunks}
use Rattle.braid_http.proofs.LineLaws.{same_text}
use Rattle.braid_http.proofs.Fronts.{same_front, cut_front}
use Rattle.braid_http.proofs.ChunkLaws.{one_body}

same_head : (b d r s : List ℕ) (t u : HeadText) → IsHead 16_384 b t → IsHead 16_384 d u → b ++ r ≡ d ++ s → (t ≡ u) × (r ≡ s)
same_head b d r s t u i j e = same_text t u r s i.text j.text (sym (ap (λ z. z ++ r) i.spelled) ∙ e ∙ ap (λ z. z ++ s) j.spelled)

-- how a chunked body is answered
abbrev pub answer_to : RequestHead → List Chunk → Close → Answer
answer_to h cs done = asked (request_of h (chunk_data cs))
answer_to h cs bad_chunk = refused BadChunk
answer_to h cs too_long = refused TooLong

-- what a head and the bytes behind it decide
pub data Verdict (t : HeadText) (content : List ℕ) : Answer → Type 0 where
  many : 65 < length t.full → content ≡ [] → Verdict t content (refused ManyFields)
  bad : length t.full ≤ 65 → ((h : RequestHead) → ¬ (IsWhole (head_bytes t) h)) → content ≡ [] → Verdict t content (refused BadHead)
  fields : (h : RequestHead) (f : Refusal) → Says t h (No f) → content ≡ [] → Verdict t content (refused f)
  takes : (h : RequestHead) → Says t h (Body (length content)) → Verdict t content (asked (request_of h content))
  chunks : (h : RequestHead) (cs : List Chunk) (k : Close) → Says t h Chunks → EndsChunked 2_097_152 cs k content → Verdict t content (answer_to h cs k)

-- what stands behind a head
pub record Headed (x : Answer) (b : List ℕ) : Type 0 where
  pub text : HeadText
  pub content : List ℕ
  pub is : IsHeadText text
  pub short : length (text_bytes text) ≤ 16_384
  pub whole : b ≡ text_bytes text ++ content
  pub verdict : Verdict text content x

pub data Shape (x : Answer) (b : List ℕ) : Type 0 where
  long : length b ≡ 16_384 → HasNoHead b → x ≡ refused LongHead → Shape x b
  headed : Headed x b → Shape x b

bare : (b : List ℕ) (t : HeadText) (x : Answer) → IsHead 16_384 b t → Verdict t [] x → Headed x b
bare b t x i v = record { text = t; content = []; is = i.text; short = i.short; whole = i.spelled ∙ sym (append-nil (text_bytes t)); verdict = v }

pub shape : (x : Answer) (b : List ℕ) → Decides x b → Shape x b
shape _ _ (long_head b l n) = long l n refl
shape _ _ (many_fields b t i m) = headed (bare b t _ i (many m refl))
shape _ _ (bad_head b t i m n) = headed (bare b t _ i (bad m n refl))
shape _ _ (by_fields b t h f i s) = headed (bare b t _ i (fields h f s refl))
shape _ _ (whole b head content t h i s e) =
    headed (record { text = t; content = content; is = i.text; short = i.short; whole = e ∙ ap (λ z. z ++ content) i.spelled; verdict = takes h s })
shape _ _ (chunked b head body content t h i s c e) =
    headed (record {
      text = t;
      content = body;
      is = i.text;
      short = i.short;
      whole = e ∙ ap (λ z. z ++ body) i.spelled;
      verdict = rw (c.gives) (chunks h c.chunks done s c.ends);
    })
shape _ _ (bad_chunks b head body t h cs i s c e) =
    headed (record { text = t; content = body; is = i.text; short = i.short; whole = e ∙ ap (λ z. z ++ body) i.spelled; verdict = chunks h cs bad_chunk s c })
shape _ _ (long_chunks b head body t h cs i s c e) =
    headed (record { text = t; content = body; is = i.text; short = i.short; whole = e ∙ ap (λ z. z ++ body) i.spelled; verdict = chunks h cs too_long s c })

pub same_said : (t : HeadText) (h k : RequestHead) (f g : Framing) → Says t h f → Says t k g → (h ≡ k) × (f ≡ g)
same_said t h k f g x y =
    let s = request_unique (head_bytes t) h k [] [] x.whole.reads y.whole.reads in
    (s.0, x.framing ∙ ap (λ (z : RequestHead). framing z.minor (fields_of z.fields)) s.0 ∙ sym y.framing)

same_nil : (c d : List ℕ) → c ≡ [] → d ≡ [] → c ≡ d
same_nil c d e f = e ∙ sym f

same_verdict : (t : HeadText) (c d r s : List ℕ) (x y : Answer) → Verdict t c x → Verdict t d y → c ++ r ≡ d ++ s → (c ≡ d) × (x ≡ y)
same_verdict t c d r s _ _ (many m e) (many n f) q = (same_nil c d e f, refl)
same_verdict t c d r s _ _ (many m e) (bad n w f) q = absurd (omega (arith, m, n))
same_verdict t c d r s _ _ (many m e) (fields k g y f) q = let n = y.few in absurd (omega (arith, m, n))
same_verdict t c d r s _ _ (many m e) (takes k y) q = let n = y.few in absurd (omega (arith, m, n))
same_verdict t c d r s _ _ (many m e) (chunks k ds j y z) q = let n = y.few in absurd (omega (arith, m, n))
same_verdict t c d r s _ _ (bad m w e) (many n f) q = absurd (omega (arith, m, n))
same_verdict t c d r s _ _ (bad m w e) (bad n v f) q = (same_nil c d e f, refl)
same_verdict t c d r s _ _ (bad m w e) (fields k g y f) q = absurd (w k y.whole)
same_verdict t c d r s _ _ (bad m w e) (takes k y) q = absurd (w k y.whole)
same_verdict t c d r s _ _ (bad m w e) (chunks k ds j y z) q = absurd (w k y.whole)
same_verdict t c d r s _ _ (fields h f x e) (many n g) q = let m = x.few in absurd (omega (arith, m, n))
same_verdict t c d r s _ _ (fields h f x e) (bad n v g) q = absurd (v h x.whole)
same_verdict t c d r s _ _ (fields h f x e) (fields k g y p) q =
    let said = (same_said t h k (No f) (No g) x y).1 in
    let same : f ≡ g = cc in
    (same_nil c d e p, ap refused same)
same_verdict t c d r s _ _ (fields h f x e) (takes k y) q = let said = (same_said t h k (No f) (Body (length d)) x y).1 in absurd (cc)
same_verdict t c d r s _ _ (fields h f x e) (chunks k ds j y z) q = let said = (same_said t h k (No f) Chunks x y).1 in absurd (cc)
same_verdict t c d r s _ _ (takes h x) (many n f) q = let m = x.few in absurd (omega (arith, m, n))
same_verdict t c d r s _ _ (takes h x) (bad n v f) q = absurd (v h x.whole)
same_verdict t c d r s _ _ (takes h x) (fields k g y f) q = let said = (same_said t h k (Body (length c)) (No g) x y).1 in absurd (cc)
same_verdict t c d r s _ _ (takes h x) (takes k y) q =
    let said = same_said t h k (Body (length c)) (Body (length d)) x y in
    let framed = said.1 in
    let lengths : length c ≡ length d = cc in
    let content = same_front c d r s lengths q in
    let head = said.0 in
    (content, cc)
same_verdict t c d r s _ _ (takes h x) (chunks k ds j y z) q = let said = (same_said t h k (Body (length c)) Chunks x y).1 in absurd (cc)
same_verdict t c d r s _ _ (chunks h cs k x z) (many n f) q = let m = x.few in absurd (omega (arith, m, n))
same_verdict t c d r s _ _ (chunks h cs k x z) (bad n v f) q = absurd (v h x.whole)
same_verdict t c d r s _ _ (chunks h cs k x z) (fields j g y f) q = let said = (same_said t h j Chunks (No g) x y).1 in absurd (cc)
same_verdict t c d r s _ _ (chunks h cs k x z) (takes j y) q = let said = (same_said t h j Chunks (Body (length d)) x y).1 in absurd (cc)
same_verdict t c d r s _ _ (chunks h cs k x z) (chunks g ds j y w) q =
    let said = same_said t h g Chunks Chunks x y in
    let same = one_body 2_097_152 cs ds k j c d r s z w q in
    (same.2, (λ i. answer_to (said.0 i) (same.0 i) (same.1 i)))

-- a head of at most 16,384 bytes ends within the first 16,384
pub no_long : (b y rest more content : List ℕ) (t : HeadText) → length b ≡ 16_384 → HasNoHead b → IsHeadText t → length (text_bytes t) ≤ 16_384 → b ++ rest ≡ (text_bytes t ++ content) ++ more → ⊥
no_long b y rest more content t l n i s e =
    n t (take (16_384 - length (text_bytes t)) (content ++ more)) i (cut_front b (text_bytes t) rest (content ++ more) l s (e ∙ append_assoc (text_bytes t) content more))

-- no bytes that decide begin others that do, and they decide one answer
pub one_answer : (x y : Answer) (b d r s : List ℕ) → Decides x b → Decides y d → b ++ r ≡ d ++ s → (b ≡ d) × (x ≡ y)
one_answer x y b d r s p q e = go (shape x b p) (shape y d q)
  where
    go : Shape x b → Shape y d → (b ≡ d) × (x ≡ y)
    go (long l n i) (long m o j) = (same_front b d r s (l ∙ sym m) e, i ∙ sym j)
    go (long l n i) (headed h) = absurd (no_long b d r s h.content h.text l n h.is h.short (e ∙ ap (λ z. z ++ s) h.whole))
    go (headed h) (long l n i) = absurd (no_long d b s r h.content h.text l n h.is h.short (sym e ∙ ap (λ z. z ++ r) h.whole))
    go (headed h) (headed k) =
        let regroup : (a c z : List ℕ) → (a ++ c) ++ z ≡ a ++ (c ++ z) = λ a c z. append_assoc a c z in
        let t = same_text h.text k.text (h.content ++ r) (k.content ++ s) h.is k.is (sym (ap (λ z. z ++ r) h.whole ∙ append_assoc (text_bytes h.text) h.content r) ∙ e ∙ (ap (λ z. z ++ s) k.whole ∙ append_assoc (text_bytes k.text) k.content s)) in
        let v = same_verdict k.text h.content k.content r s x y (rw t.0 at h.verdict) k.verdict t.1 in
        let texts = t.0 in
        let contents = v.0 in
        (h.whole ∙ ap (λ (z : HeadText). text_bytes z ++ h.content) texts ∙ ap (λ z. text_bytes k.text ++ z) contents ∙ sym k.whole, v.1)
