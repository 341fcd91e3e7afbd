-- The bytes that decide a reply: no such bytes begin others, and they decide one answer.
use Rattle.std.proofs.Common.{◌≡◌, ℕ, ◌-◌, ◌<◌, ◌≤◌, append_assoc, List, [], ◌++◌, refl, ap, sym, ◌∙◌, length, take, arith, length-append, Result, Ok, Err}
use Rattle.httparse.specs.Grammar.{ResponseHead, status_code}
use Rattle.httparse.proofs.GrammarLemmas.{response_unique}
use Rattle.braid_http.specs.declared.refusal.Refusal.{Refusal}
use Rattle.braid_http.specs.declared.refusal.Refusal.TheVariants.{LongHead, ManyFields, BadHead}
use Rattle.braid_http.specs.declared.response.BodyKind.{BodyKind}
use Rattle.braid_http.specs.Heads.{HeadText, IsHeadText, IsHead, head_bytes, text_bytes, HasNoHead}
use Rattle.braid_http.specs.Fields.{fields_of}
use Rattle.braid_http.specs.Responses.{IsWholeResponse, SaysReply, kind_of, reply_head_of, ReplyAnswer, replied, refused, DecidesReply, long_head, many_fields, bad_head, by_fields, head, IsReplyOpen, OneReply, ReplyStaysDecided}
use Rattle.braid_http.proofs.LineLaws.{same_text}
use Rattle.braid_http.proofs.Fronts.{same_front, cut_front_at}

-- what a head decides
pub data Verdict (t : HeadText) : ReplyAnswer → Type 0 where
  many : 65 < length t.full → Verdict t (refused ManyFields)
  bad : length t.full ≤ 65 → ((h : ResponseHead) → ¬ (IsWholeResponse (head_bytes t) h)) → Verdict t (refused BadHead)
  fields : (h : ResponseHead) (f : Refusal) → SaysReply t h (Err f) → Verdict t (refused f)
  says : (h : ResponseHead) (kind : BodyKind) → SaysReply t h (Ok kind) → Verdict t (replied (reply_head_of h kind))

-- the bytes are a head, and this is what it decides
pub record Headed (x : ReplyAnswer) (b : List ℕ) : Type 0 where
  pub text : HeadText
  pub is : IsHead 524_288 b text
  pub verdict : Verdict text x

pub data Shape (x : ReplyAnswer) (b : List ℕ) : Type 0 where
  long : length b ≡ 524_288 → HasNoHead b → x ≡ refused LongHead → Shape x b
  headed : Headed x b → Shape x b

pub shape : (x : ReplyAnswer) (b : List ℕ) → DecidesReply x b → Shape x b
shape _ _ (long_head b l n) = long l n refl
shape _ _ (many_fields b t i m) = headed (record { text = t; is = i; verdict = many m })
shape _ _ (bad_head b t i m n) = headed (record { text = t; is = i; verdict = bad m n })
shape _ _ (by_fields b t h f i s) = headed (record { text = t; is = i; verdict = fields h f s })
shape _ _ (head b t h kind i s) = headed (record { text = t; is = i; verdict = says h kind s })

same_said : (t : HeadText) (h k : ResponseHead) (f g : Result BodyKind Refusal) → SaysReply t h f → SaysReply t k g → (h ≡ k) × (f ≡ g)
same_said t h k f g x y =
    let s = response_unique (head_bytes t) h k [] [] x.whole.reads y.whole.reads in
    (s.0, x.kind_is ∙ ap (λ (z : ResponseHead). kind_of (status_code z) (fields_of z.fields)) s.0 ∙ sym y.kind_is)

same_verdict : (t : HeadText) (x y : ReplyAnswer) → Verdict t x → Verdict t y → x ≡ y
same_verdict t _ _ (many m) (many n) = refl
same_verdict t _ _ (many m) (bad n v) = absurd (omega (arith, m, n))
same_verdict t _ _ (many m) (fields k g y) = let n = y.few in absurd (omega (arith, m, n))
same_verdict t _ _ (many m) (says k j y) = let n = y.few in absurd (omega (arith, m, n))
same_verdict t _ _ (bad m w) (many n) = absurd (omega (arith, m, n))
same_verdict t _ _ (bad m w) (bad n v) = refl
same_verdict t _ _ (bad m w) (fields k g y) = absurd (w k y.whole)
same_verdict t _ _ (bad m w) (says k j y) = absurd (w k y.whole)
same_verdict t _ _ (fields h f x) (many n) = let m = x.few in absurd (omega (arith, m, n))
same_verdict t _ _ (fields h f x) (bad n v) = absurd (v h x.whole)
same_verdict t _ _ (fields h f x) (fields k g y) =
    let said = (same_said t h k (Err f) (Err g) x y).1 in
    let same : f ≡ g = cc in
    ap refused same
same_verdict t _ _ (fields h f x) (says k j y) = let said = (same_said t h k (Err f) (Ok j) x y).1 in absurd (cc)
same_verdict t _ _ (says h i x) (many n) = let m = x.few in absurd (omega (arith, m, n))
same_verdict t _ _ (says h i x) (bad n v) = absurd (v h x.whole)
same_verdict t _ _ (says h i x) (fields k g y) = let said = (same_said t h k (Ok i) (Err g) x y).1 in absurd (cc)
same_verdict t _ _ (says h i x) (says k j y) =
    let said = same_said t h k (Ok i) (Ok j) x y in
    let second = said.1 in
    let kinds : i ≡ j = cc in
    (λ z. replied (reply_head_of (said.0 z) (kinds z)))

-- a head of at most 524,288 bytes ends within the first 524,288
no_long : (b rest more : List ℕ) (t : HeadText) → length b ≡ 524_288 → HasNoHead b → IsHeadText t → length (text_bytes t) ≤ 524_288 → b ++ rest ≡ text_bytes t ++ more → ⊥
no_long b rest more t l n i s e = n t (take (524_288 - length (text_bytes t)) more) i (cut_front_at 524_288 b (text_bytes t) rest more l s e)

pub one_reply : OneReply
one_reply x y b d r s p q e = go (shape x b p) (shape y d q)
  where
    go : Shape x b → Shape y d → (b ≡ d) × (x ≡ y)
    go (long l n i) (long m o j) = (same_front b d r s (l ∙ sym m) e, i ∙ sym j)
    go (long l n i) (headed h) = absurd (no_long b r s h.text l n h.is.text h.is.short (e ∙ ap (λ z. z ++ s) h.is.spelled))
    go (headed h) (long l n i) = absurd (no_long d s r h.text l n h.is.text h.is.short (sym e ∙ ap (λ z. z ++ r) h.is.spelled))
    go (headed h) (headed k) =
        let t = same_text h.text k.text r s h.is.text k.is.text (sym (ap (λ z. z ++ r) h.is.spelled) ∙ e ∙ ap (λ z. z ++ s) k.is.spelled) in
        (h.is.spelled ∙ ap text_bytes t.0 ∙ sym k.is.spelled, same_verdict k.text x y (rw t.0 at h.verdict) k.verdict)

pub reply_stays_decided : ReplyStaysDecided
reply_stays_decided x bytes rest more d = record { front = d.front; decides = d.decides; whole = ap (λ z. z ++ more) d.whole ∙ append_assoc d.front rest more }

-- without a head, and with fewer bytes than a head may have, nothing is decided
pub open_reply : (bytes : List ℕ) → length bytes < 524_288 → HasNoHead bytes → IsReplyOpen bytes
open_reply bytes l n x b rest p e = go (shape x b p)
  where
    go : Shape x b → ⊥
    go (long m o i) = let k = ap length e ∙ length-append b rest in omega (arith, k, l, m)
    go (headed h) = n h.text rest h.is.text (e ∙ ap (λ z. z ++ rest) h.is.spelled)
