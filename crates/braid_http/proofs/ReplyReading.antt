-- Reading for a reply: what a head that has come decides, and bytes that are read onto those held.
use Rattle.std.proofs.Common.{◌≡◌, ◌≢◌, ℕ, ◌-◌, ◌<◌, ◌≤◌, append_assoc, List, [], ◌++◌, inl, inr, refl, ap, sym, subst, ◌∙◌, length, take, drop, map, fold, All, arith, length-append, append-nil, length-take, Result, Ok, Err}
use Rattle.std.specs.Io.KnownBytes.{prepend_known}
use Rattle.std.proofs.lemmas.List.{drop_at, take-append-drop}
use Rattle.braid_io.specs.Outside.{Intake, Moves, Rose}
use Rattle.httparse.specs.Grammar.{ResponseHead, ReadsResponse}
use Rattle.httparse.specs.Spans.{header_bytes, IsResponseOf}
use Rattle.httparse.specs.declared.spans.ResponseSpans.{ResponseSpans}
use Rattle.httparse.specs.declared.spans.HeaderSpan.{HeaderSpan}
use Rattle.braid_http.specs.declared.refusal.Refusal.{Refusal}
use Rattle.braid_http.specs.declared.refusal.Refusal.TheVariants.{LongHead, ManyFields, BadHead}
use Rattle.braid_http.specs.declared.stop.Stop.{Stop}
use Rattle.braid_http.specs.declared.stop.Stop.TheVariants as stops
use Rattle.braid_http.specs.declared.looks.HeadLook.{HeadLook}
use Rattle.braid_http.specs.declared.response.BodyKind.{BodyKind}
use Rattle.braid_http.specs.declared.response.ResponseParts.{ResponseParts}
use Rattle.braid_http.specs.Heads.{HeadText, IsHeadText, IsHead, head_bytes, text_bytes, HasNoHead}
use Rattle.braid_http.specs.Fields.{append_named}
use Rattle.braid_http.specs.HeadReads.{IsGoodAt}
use Rattle.braid_http.specs.Looks.{IsHeadAt}
use Rattle.braid_http.specs.Waits.{Breaks}
use Rattle.braid_http.specs.Responses.{IsWholeResponse, SaysReply, kind_of, reply_head_of, replied, refused, long_head, many_fields, bad_head, by_fields, head, IsReplyDecided, IsReplyOpen}
use Rattle.braid_http.specs.ResponseReads.{HoldsReply}
use Rattle.braid_http.specs.Replying.{TookForReply, TookForReplyAndFailed, Replies, replied_of}
use Rattle.braid_http.proofs.LineLaws.{same_text}
use Rattle.braid_http.proofs.WholeLemmas.{all_short, same_fields, few_fields, ends_there}
use Rattle.braid_http.proofs.Judging.{head_slice}
use Rattle.braid_http.proofs.Waiting.{moves_none, moves_both}

-- what the parser finds is the head that the bytes are
pub whole_response : (bytes : List ℕ) (headers : List HeaderSpan) (spans : ResponseSpans) (r : ResponseParts) → IsResponseOf bytes headers spans
    → spans.len ≡ length bytes → length headers ≡ 64 → All (IsGoodAt bytes) (take spans.headers headers)
    → r.status ≡ spans.code → 100 ≤ spans.code
    → r.fields ≡ fold append_named [] (map (header_bytes bytes) (take spans.headers headers))
    → (h : ResponseHead) × IsWholeResponse bytes h × HoldsReply r h
whole_response bytes headers spans r found len room good status high fields =
    let h = found.0 in
    let at = found.1 in
    let code = at.code in (
      h,
      record {
        reads = subst (λ (rest : List ℕ). ReadsResponse bytes h rest) (ends_there bytes spans.len len) at.reads;
        few = few_fields bytes headers spans.headers 64 h.fields at.fields room;
        names = all_short bytes (take spans.headers headers) h.fields at.fields good;
        status = omega (arith, code, high);
      },
      record {
        status = status ∙ at.code;
        fields = same_fields bytes (take spans.headers headers) h.fields r.fields at.fields fields;
      },
    )

refuse_long : (bytes : List ℕ) → 524_288 ≤ length bytes → ((t : HeadText) (rest : List ℕ) → IsHeadText t → bytes ≡ text_bytes t ++ rest → 524_288 < length (text_bytes t))
    → (rest : List ℕ) × IsReplyDecided (refused LongHead) bytes rest
refuse_long bytes l n =
    let size : length (take 524_288 bytes) ≡ 524_288 = omega (arith, length-take 524_288 bytes, l) in
    let whole = take-append-drop 524_288 bytes in
    let none : HasNoHead (take 524_288 bytes) = λ t rest i e.
    let far = n t (rest ++ drop 524_288 bytes) i (sym whole ∙ ap (λ z. z ++ drop 524_288 bytes) e ∙ append_assoc (text_bytes t) rest (drop 524_288 bytes)) in
    let k = ap length e ∙ length-append (text_bytes t) rest in
    omega (arith, far, k, size) in
    (drop 524_288 bytes, record { front = take 524_288 bytes; decides = long_head (take 524_288 bytes) size none; whole = sym whole })

-- a head that ends past the limit
pub late_reply : (end : ℕ) (look : HeadLook) (bytes : List ℕ) → IsHeadAt end look bytes → 524_288 < end → (rest : List ℕ) × IsReplyDecided (refused LongHead) bytes rest
late_reply end look bytes a far =
    let end_is = a.end_is in
    let size = ap length a.whole ∙ length-append (text_bytes a.text) a.rest in
    refuse_long bytes (omega (arith, end_is, size, far))
    (λ t rest i e.
    let s = same_text a.text t a.rest rest a.is i (sym a.whole ∙ e) in
    let m = ap (λ (z : HeadText). length (text_bytes z)) s.0 in
    omega (arith, m, end_is, far))

head_here : (end : ℕ) (look : HeadLook) (bytes : List ℕ) (a : IsHeadAt end look bytes) → end ≤ 524_288 → IsHead 524_288 (text_bytes a.text) a.text
head_here end look bytes a short = let e = a.end_is in record { text = a.is; short = omega (arith, e, short); spelled = refl }

pub many_reply_lines : (end : ℕ) (look : HeadLook) (bytes : List ℕ) → IsHeadAt end look bytes → end ≤ 524_288 → 65 < look.look.full → (rest : List ℕ) × IsReplyDecided (refused ManyFields) bytes rest
many_reply_lines end look bytes a short more =
    let n = a.number in
    (a.rest, record { front = text_bytes a.text; decides = many_fields (text_bytes a.text) a.text (head_here end look bytes a short) (omega (arith, n, more)); whole = a.whole })

pub unread_reply : (end : ℕ) (look : HeadLook) (bytes piece : List ℕ) → IsHeadAt end look bytes → end ≤ 524_288 → look.look.full ≤ 65 → piece ≡ take (end - look.start) (drop look.start bytes)
    → ((h : ResponseHead) → ¬ (IsWholeResponse piece h)) → (rest : List ℕ) × IsReplyDecided (refused BadHead) bytes rest
unread_reply end look bytes piece a short few is none =
    let n = a.number in
    let worse : (h : ResponseHead) → ¬ (IsWholeResponse (head_bytes a.text) h) = λ h w. none h (subst (λ z. IsWholeResponse z h) (sym (is ∙ head_slice end look bytes a)) w) in
    (a.rest, record { front = text_bytes a.text; decides = bad_head (text_bytes a.text) a.text (head_here end look bytes a short) (omega (arith, n, few)) worse; whole = a.whole })

said_here : (end : ℕ) (look : HeadLook) (bytes piece : List ℕ) (r : ResponseParts) (h : ResponseHead) (kind : Result BodyKind Refusal) (a : IsHeadAt end look bytes) → look.look.full ≤ 65 → piece ≡ take (end - look.start) (drop look.start bytes)
    → IsWholeResponse piece h → HoldsReply r h → kind ≡ kind_of r.status r.fields → SaysReply a.text h kind
said_here end look bytes piece r h kind a few is w holds k =
    let n = a.number in
    record {
      few = omega (arith, n, few);
      whole = subst (λ z. IsWholeResponse z h) (is ∙ head_slice end look bytes a) w;
      kind_is = k ∙ (λ i. kind_of (holds.status i) (holds.fields i));
    }

pub refused_reply : (end : ℕ) (look : HeadLook) (bytes piece : List ℕ) (r : ResponseParts) (h : ResponseHead) (f : Refusal) → IsHeadAt end look bytes → end ≤ 524_288 → look.look.full ≤ 65 → piece ≡ take (end - look.start) (drop look.start bytes)
    → IsWholeResponse piece h → HoldsReply r h → Err f ≡ kind_of r.status r.fields → (rest : List ℕ) × IsReplyDecided (refused f) bytes rest
refused_reply end look bytes piece r h f a short few is w holds k = (
  a.rest,
  record {
    front = text_bytes a.text;
    decides = by_fields (text_bytes a.text) a.text h f (head_here end look bytes a short) (said_here end look bytes piece r h (Err f) a few is w holds k);
    whole = a.whole;
  },
)

pub whole_reply : (end : ℕ) (look : HeadLook) (bytes piece : List ℕ) (r : ResponseParts) (h : ResponseHead) (kind : BodyKind) → IsHeadAt end look bytes → end ≤ 524_288 → look.look.full ≤ 65 → piece ≡ take (end - look.start) (drop look.start bytes)
    → IsWholeResponse piece h → HoldsReply r h → Ok kind ≡ kind_of r.status r.fields
    → (end ≤ length bytes) × IsReplyDecided (replied (record { status = r.status; fields = r.fields; body = kind })) bytes (drop end bytes)
whole_reply end look bytes piece r h kind a short few is w holds k =
    let end_is = a.end_is in
    let size = ap length a.whole ∙ length-append (text_bytes a.text) a.rest in
    let same : reply_head_of h kind ≡ record { status = r.status; fields = r.fields; body = kind } = λ i. record { status = sym holds.status i; fields = sym holds.fields i; body = kind } in
    let rest : drop end bytes ≡ a.rest = ap (λ z. drop z bytes) end_is ∙ ap (drop (length (text_bytes a.text))) a.whole ∙ drop_at (text_bytes a.text) a.rest (length (text_bytes a.text)) refl in (
      omega (arith, end_is, size),
      record {
        front = text_bytes a.text;
        decides = subst (λ z. Rattle.braid_http.specs.Responses.DecidesReply (replied z) (text_bytes a.text)) same
            (head (text_bytes a.text) a.text h kind (head_here end look bytes a short) (said_here end look bytes piece r h (Ok kind) a few is w holds k));
        whole = a.whole ∙ ap (λ z. text_bytes a.text ++ z) (sym rest);
      },
    )

-- bytes are read

pub took_none : (held : List ℕ) (i : Intake) → TookForReply held held i i
took_none held i = record { got = []; all_is = sym (append-nil held); moves = moves_none i; needed = inl refl }

pub took_more : (held all kept piece : List ℕ) (i j k : Intake) → TookForReply held all i j → IsReplyOpen all → piece ≢ [] → kept ≡ all ++ piece → Moves piece j k → TookForReply held kept i k
took_more held all kept piece i j k t o some e m = record {
  got = t.got ++ piece;
  all_is = e ∙ ap (λ z. z ++ piece) t.all_is ∙ append_assoc held t.got piece;
  moves = moves_both t.got piece i j k t.moves m;
  needed = inr (t.got, piece, refl, some, rw t.all_is at o);
}

failed_now : (held all : List ℕ) (i j k : Intake) → TookForReply held all i j → k.taken ≡ j.taken → k.left ≡ j.left → j.faults ≤ k.faults → Rose j.faults k.faults → TookForReplyAndFailed held all i k
failed_now held all i j k t taken left never rose = record {
  got = t.got;
  all_is = t.all_is;
  taken = taken ∙ t.moves.taken;
  left = t.moves.left ∙ ap (prepend_known t.got) (sym left);
  never_falls = let f = t.moves.faults in omega (arith, f, never);
  rose = rw t.moves.faults at rose;
  needed = t.needed;
}

same_end : (held all : List ℕ) (i j k : Intake) → TookForReply held all i j → k ≡ j → TookForReply held all i k
same_end held all i j k t s = rw s t

-- a read gave nothing
pub breaks_reply : (s : Stop) (start held kept : List ℕ) (i j k : Intake) → TookForReply start held i j → IsReplyOpen held → Breaks s held kept j k → Replies (replied_of s) start kept i k
breaks_reply stops.End start held kept i j k t o b = absurd b
breaks_reply (stops.Refused f) start held kept i j k t o b = absurd b
breaks_reply stops.Torn start held kept i j k t o b = rw b.0 (same_end start held i j k t b.1, o, rw b.1 b.2)
breaks_reply stops.ReadFault start held kept i j k t o b = rw b.0 (failed_now start held i j k t b.1 b.2 b.3 b.4, o)
breaks_reply stops.Memory start held kept i j k t o b = rw b.0 (same_end start held i j k t b.1)

-- 524,288 bytes without a head
pub long_reply : (start held : List ℕ) (i j : Intake) → TookForReply start held i j → 524_288 ≤ length held → HasNoHead held → Replies (replied_of (stops.Refused LongHead)) start held i j
long_reply start held i j t l n = let d = refuse_long held l (λ u rest k e. absurd (n u rest k e)) in (d.0, record { all = held; took = t; decided = d.1 })
