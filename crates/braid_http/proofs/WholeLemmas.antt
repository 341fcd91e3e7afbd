-- What the head that the parser finds has to do with the head that the bytes are.
use Rattle.std.proofs.Common.{arith, drop, length-take, ◌≡◌, ◌≤◌, ℕ, List, [], take, length, All, map, fold, subst, sym, ap, ◌∙◌}
use Rattle.std.proofs.lemmas.List.Elements.{All-map}
use Rattle.std.proofs.lemmas.List.{length-map, get_or-map}
use Rattle.httparse.specs.Grammar.{Field, IsField, RequestHead, ReadsRequest, is_token_byte as parsed_token_byte, IsToken as IsParsedToken, is_value_byte}
use Rattle.httparse.specs.Spans.{header_bytes, span_bytes, name_and_value, AreFieldsAt, IsRequestOf}
use Rattle.httparse.specs.declared.spans.RequestSpans.{RequestSpans}
use Rattle.httparse.specs.declared.spans.HeaderSpan.{HeaderSpan}
use Rattle.std.proofs.Math.Seq.{drop-length}
use Rattle.httparse.proofs.TrimLemmas.{AllPass-trim_ows}
use Rattle.http_header.specs.HeaderMap.{Entries}
use Rattle.http_header.specs.FieldValue.{FieldValue}
use Rattle.http_header.specs.Token.{IsToken, is_token_byte}
use Rattle.braid_http.specs.Fields.{append_named, fields_of, IsWhole}
use Rattle.braid_http.specs.HeadReads.{IsGood, IsGoodAt, Holds}
use Rattle.braid_http.specs.declared.head.Head.{Head}

-- the two crates mean the same by a token
pub same_token : (bytes : List ℕ) → IsParsedToken bytes → IsToken bytes
unfolding parsed_token_byte is_token_byte
same_token bytes h = h

pub good_field : (f : Field) → IsField f → length f.name ≤ 65535 → IsGood (name_and_value f)
good_field f h short = record {
  name = (same_token f.name h.name, short);
  value = AllPass-trim_ows is_value_byte f.raw h.raw;
}

from_map : {X Y : Type 0} (P : Y → Type 0) (f : X → Y) (xs : List X) → All P (map f xs) → All (λ x. P (f x)) xs
from_map P f xs h = λ k d lt. subst P (get_or-map f xs k d (f d) lt) (h k (f d) (rw length-map lt))

pub all_good : (bytes : List ℕ) (spans : List HeaderSpan) (fields : List Field) → map (header_bytes bytes) spans ≡ map name_and_value fields
    → All IsField fields → All (λ f. length f.name ≤ 65535) fields → All (IsGoodAt bytes) spans
all_good bytes spans fields same valid short =
    from_map IsGood (header_bytes bytes) spans
    (subst (λ (xs : List (List ℕ × List ℕ)). All IsGood xs) (sym same)
    (All-map IsGood name_and_value fields (λ k d lt. good_field _ (valid k d lt) (short k d lt))))

pub all_short : (bytes : List ℕ) (spans : List HeaderSpan) (fields : List Field) → map (header_bytes bytes) spans ≡ map name_and_value fields
    → All (IsGoodAt bytes) spans → All (λ f. length f.name ≤ 65535) fields
all_short bytes spans fields same good =
    let all : All IsGood (map name_and_value fields) =
    subst (λ (xs : List (List ℕ × List ℕ)). All IsGood xs) same (All-map IsGood (header_bytes bytes) spans good) in
    λ k d lt. (from_map IsGood name_and_value fields all k d lt).name.1

pub same_fields : (bytes : List ℕ) (spans : List HeaderSpan) (fields : List Field) (m : Entries FieldValue)
    → map (header_bytes bytes) spans ≡ map name_and_value fields
    → m ≡ fold append_named [] (map (header_bytes bytes) spans) → m ≡ fields_of fields
same_fields bytes spans fields m same is = is ∙ ap (fold append_named []) same

-- there are no more fields than spans
pub few_fields : (bytes : List ℕ) (headers : List HeaderSpan) (count n : ℕ) (fields : List Field)
    → AreFieldsAt bytes headers count fields → length headers ≡ n → length fields ≤ n
few_fields bytes headers count n fields same is =
    let lengths : length (map (header_bytes bytes) (take count headers)) ≡ length (map name_and_value fields) = ap length same in
    let left = length-map (take count headers) (header_bytes bytes) in
    let right = length-map fields name_and_value in
    let cut = length-take count headers in
    omega arith

-- a head as long as the bytes leaves none of them
pub ends_there : (bytes : List ℕ) (len : ℕ) → len ≡ length bytes → drop len bytes ≡ []
ends_there bytes len is = ap (λ (n : ℕ). drop n bytes) is ∙ drop-length bytes

pub whole_of : (bytes : List ℕ) (headers : List HeaderSpan) (spans : RequestSpans) (r : Head) → IsRequestOf bytes headers spans
    → spans.len ≡ length bytes → length headers ≡ 64 → All (IsGoodAt bytes) (take spans.headers headers)
    → r.method ≡ span_bytes bytes spans.method → r.target.items ≡ span_bytes bytes spans.path → r.minor ≡ spans.version
    → r.fields ≡ fold append_named [] (map (header_bytes bytes) (take spans.headers headers))
    → (h : RequestHead) × IsWhole bytes h × Holds r h
whole_of bytes headers spans r found len room good method target minor fields =
    let h = found.0 in
    let at = found.1 in (
      h,
      record {
        reads = subst (λ (rest : List ℕ). ReadsRequest bytes h rest) (ends_there bytes spans.len len) at.reads;
        few = few_fields bytes headers spans.headers 64 h.fields at.fields room;
        names = all_short bytes (take spans.headers headers) h.fields at.fields good;
      },
      record {
        method = method ∙ at.method;
        target = target ∙ at.path;
        minor = minor ∙ at.version;
        fields = same_fields bytes (take spans.headers headers) h.fields r.fields at.fields fields;
      },
    )
