-- What a head that has come decides.
use Rattle.std.proofs.Common.{◌≡◌, ℕ, ◌-◌, ◌<◌, ◌≤◌, append_assoc, List, ◌++◌, refl, ap, sym, subst, ◌∙◌, length, take, drop, arith, length-append, length-take}
use Rattle.std.proofs.lemmas.List.{take_at, drop_at, take-append-drop}
use Rattle.httparse.specs.Grammar.{RequestHead}
use Rattle.braid_http.specs.declared.refusal.Refusal.TheVariants.{LongHead, ManyFields, BadHead}
use Rattle.braid_http.specs.declared.looks.HeadLook.{HeadLook}
use Rattle.braid_http.specs.declared.reading.Ready.{Ready}
use Rattle.braid_http.specs.Heads.{HeadText, IsHeadText, IsHead, head_bytes, text_bytes, lines, HasNoHead}
use Rattle.braid_http.specs.Fields.{IsWhole}
use Rattle.braid_http.specs.Framings.{framing}
use Rattle.braid_http.specs.HeadReads.{Holds}
use Rattle.braid_http.specs.Looks.{IsHeadAt}
use Rattle.braid_http.specs.Requests.{refused, long_head, many_fields, bad_head, IsDecided}
use Rattle.braid_http.specs.Waits.{IsReady}
use Rattle.braid_http.proofs.LineLaws.{same_text}

pub refuse_long : (bytes : List ℕ) → 16_384 ≤ length bytes → ((t : HeadText) (rest : List ℕ) → IsHeadText t → bytes ≡ text_bytes t ++ rest → 16_384 < length (text_bytes t))
    → (rest : List ℕ) × IsDecided (refused LongHead) bytes rest
refuse_long bytes l n =
    let size : length (take 16_384 bytes) ≡ 16_384 = omega (arith, length-take 16_384 bytes, l) in
    let whole = take-append-drop 16_384 bytes in
    let none : HasNoHead (take 16_384 bytes) = λ t rest i e.
    let far = n t (rest ++ drop 16_384 bytes) i (sym whole ∙ ap (λ z. z ++ drop 16_384 bytes) e ∙ append_assoc (text_bytes t) rest (drop 16_384 bytes)) in
    let k = ap length e ∙ length-append (text_bytes t) rest in
    omega (arith, far, k, size) in
    (drop 16_384 bytes, record { front = take 16_384 bytes; decides = long_head (take 16_384 bytes) size none; whole = sym whole })

-- a head that ends past the limit
pub late_head : (end : ℕ) (look : HeadLook) (bytes : List ℕ) → IsHeadAt end look bytes → 16_384 < end → (rest : List ℕ) × IsDecided (refused LongHead) bytes rest
late_head end look bytes a far =
    let end_is = a.end_is in
    let size = ap length a.whole ∙ length-append (text_bytes a.text) a.rest in
    refuse_long bytes (omega (arith, end_is, size, far))
    (λ t rest i e.
    let s = same_text a.text t a.rest rest a.is i (sym a.whole ∙ e) in
    let m = ap (λ (z : HeadText). length (text_bytes z)) s.0 in
    omega (arith, m, end_is, far))

head_here : (end : ℕ) (look : HeadLook) (bytes : List ℕ) (a : IsHeadAt end look bytes) → end ≤ 16_384 → IsHead 16_384 (text_bytes a.text) a.text
head_here end look bytes a short = let e = a.end_is in record { text = a.is; short = omega (arith, e, short); spelled = refl }

pub many_lines : (end : ℕ) (look : HeadLook) (bytes : List ℕ) → IsHeadAt end look bytes → end ≤ 16_384 → 65 < look.look.full → (rest : List ℕ) × IsDecided (refused ManyFields) bytes rest
many_lines end look bytes a short more =
    let n = a.number in
    (a.rest, record { front = text_bytes a.text; decides = many_fields (text_bytes a.text) a.text (head_here end look bytes a short) (omega (arith, n, more)); whole = a.whole })

-- where the head stands
pub head_slice : (end : ℕ) (look : HeadLook) (bytes : List ℕ) (a : IsHeadAt end look bytes) → take (end - look.start) (drop look.start bytes) ≡ head_bytes a.text
head_slice end look bytes a =
    let begin = lines a.text.blank in
    let start_is = a.start_is in
    let end_is = a.end_is in
    let size = length-append begin (head_bytes a.text) in
    let long : end - look.start ≡ length (head_bytes a.text) = omega (arith, start_is, end_is, size) in
    let behind : drop look.start bytes ≡ head_bytes a.text ++ a.rest =
    ap (λ z. drop z bytes) start_is ∙ ap (drop (length begin)) (a.whole ∙ append_assoc begin (head_bytes a.text) a.rest) ∙ drop_at begin (head_bytes a.text ++ a.rest) (length begin) refl in
    ap (λ z. take z (drop look.start bytes)) long ∙ ap (take (length (head_bytes a.text))) behind ∙ take_at (head_bytes a.text) a.rest (length (head_bytes a.text)) refl

pub unread_head : (end : ℕ) (look : HeadLook) (bytes head : List ℕ) → IsHeadAt end look bytes → end ≤ 16_384 → look.look.full ≤ 65 → head ≡ take (end - look.start) (drop look.start bytes)
    → ((h : RequestHead) → ¬ (IsWhole head h)) → (rest : List ℕ) × IsDecided (refused BadHead) bytes rest
unread_head end look bytes head a short few is none =
    let n = a.number in
    let bad : (h : RequestHead) → ¬ (IsWhole (head_bytes a.text) h) = λ h w. none h (subst (λ z. IsWhole z h) (sym (is ∙ head_slice end look bytes a)) w) in
    (a.rest, record { front = text_bytes a.text; decides = bad_head (text_bytes a.text) a.text (head_here end look bytes a short) (omega (arith, n, few)) bad; whole = a.whole })

pub ready_head : (end : ℕ) (look : HeadLook) (bytes head : List ℕ) (r : Ready) (h : RequestHead) → IsHeadAt end look bytes → end ≤ 16_384 → look.look.full ≤ 65 → head ≡ take (end - look.start) (drop look.start bytes)
    → IsWhole head h → Holds r.head h → r.used ≡ end → r.framing ≡ framing r.head.minor r.head.fields → IsReady r bytes
ready_head end look bytes head r h a short few is w holds used f =
    let n = a.number in
    record {
      text = a.text;
      read = h;
      front = text_bytes a.text;
      rest = a.rest;
      is = head_here end look bytes a short;
      says = record { few = omega (arith, n, few); whole = subst (λ z. IsWhole z h) (is ∙ head_slice end look bytes a) w; framing = f ∙ (λ i. framing (holds.minor i) (holds.fields i)) };
      holds = holds;
      used_is = used ∙ a.end_is;
      whole = a.whole;
    }
