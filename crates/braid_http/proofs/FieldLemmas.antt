-- One more span of a section.
use Rattle.std.proofs.Common.{◌≡◌, ◌<◌, ◌+◌, ℕ, suc, List, [], ◌∷◌, ◌++◌, take, length, All, map, fold, subst, sym, ap, ◌∙◌, slice_index_or, arith}
use Rattle.std.proofs.lemmas.List.{map_push}
use Rattle.std.proofs.lemmas.List.Sums.{fold_push}
use Rattle.std.proofs.lemmas.List.Elements.{All-push}
use Rattle.std.proofs.Math.Seq.{take-suc}
use Rattle.httparse.specs.Spans.{header_bytes}
use Rattle.httparse.specs.declared.spans.HeaderSpan.{HeaderSpan}
use Rattle.http_header.specs.HeaderMap.{Entries}
use Rattle.http_header.specs.FieldValue.{FieldValue}
use Rattle.braid_http.specs.Fields.{append_named}
use Rattle.braid_http.specs.HeadReads.{IsGoodAt}

pub record IsFilled (bytes : List ℕ) (spans : List HeaderSpan) (m : Entries FieldValue) : Type 0 where
  pub fields : m ≡ fold append_named [] (map (header_bytes bytes) spans)
  pub good : All (IsGoodAt bytes) spans

pushed : (bytes : List ℕ) (spans : List HeaderSpan) (x : HeaderSpan) (m : Entries FieldValue) → IsFilled bytes spans m
    → IsGoodAt bytes x → IsFilled bytes (spans ++ x ∷ []) (append_named m (header_bytes bytes x))
pushed bytes spans x m h good = record {
  fields = ap (λ (n : Entries FieldValue). append_named n (header_bytes bytes x)) h.fields
      ∙ sym (ap (fold append_named []) (map_push (header_bytes bytes) spans x)
      ∙ fold_push append_named [] (map (header_bytes bytes) spans) (header_bytes bytes x));
  good = All-push (IsGoodAt bytes) spans x h.good good;
}

pub one_more : (bytes : List ℕ) (spans : List HeaderSpan) (i : ℕ) (d : HeaderSpan) (m n : Entries FieldValue)
    → i < length spans → IsFilled bytes (take i spans) m
    → n ≡ append_named m (header_bytes bytes (slice_index_or spans i d)) → IsGoodAt bytes (slice_index_or spans i d)
    → IsFilled bytes (take (i + 1) spans) n
one_more bytes spans i d m n lt h new good =
    let x = slice_index_or spans i d in
    let next : i + 1 ≡ suc i = omega arith in
    let front : take (i + 1) spans ≡ take i spans ++ x ∷ [] =
    ap (λ (k : ℕ). take k spans) next ∙ take-suc spans i d lt in
    subst (λ (xs : List HeaderSpan). IsFilled bytes xs n) (sym front)
    (subst (λ (k : Entries FieldValue). IsFilled bytes (take i spans ++ x ∷ []) k) (sym new) (pushed bytes (take i spans) x m h good))
