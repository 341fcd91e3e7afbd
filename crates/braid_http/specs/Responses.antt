-- Which bytes decide the head of a connection's next reply (RFC 9112, sections 2 to 6, in the profile of
-- docs/FORMATS.md).
use Rattle.std.specs.Prelude.{◌≡◌, ℕ, ◌≤◌, ◌<◌, ◌||◌, List, [], ◌∷◌, ◌++◌, length, All, Result, Ok, Err, codes, if◌then◌else◌, nat_eq}
use Rattle.std.specs.Str.{str_eq_ignore_ascii_case}
use Rattle.std.specs.Str.Parse.{digits_value}
use Rattle.httparse.specs.Grammar.{ResponseHead, ReadsResponse, status_code}
use Rattle.http_header.specs.HeaderMap.{Entries, get_all}
use Rattle.http_header.specs.FieldValue.{FieldValue}
use Rattle.braid_fields.specs.Values.{are_length_digits}
use Rattle.braid_http.specs.declared.refusal.Refusal.{Refusal}
use Rattle.braid_http.specs.declared.refusal.Refusal.TheVariants.{LongHead, ManyFields, BadHead, BothLengths, BadLength}
use Rattle.braid_http.specs.declared.response.BodyKind.{BodyKind}
use Rattle.braid_http.specs.declared.response.BodyKind.TheVariants.{Length, Chunked, ToClose}
use Rattle.braid_http.specs.declared.response.ReplyHead.{ReplyHead}
use Rattle.braid_http.specs.Heads.{HeadText, IsHead, head_bytes, HasNoHead}
use Rattle.braid_http.specs.Fields.{fields_of}

-- by the one value of `Content-Length`: 1 to 15 digits
abbrev pub kind_by_length : List ℕ → Result BodyKind Refusal
kind_by_length value = if are_length_digits value then Ok (Length (digits_value 10 value)) else Err BadLength

-- by the one value of `Transfer-Encoding`: `chunked` in any case
abbrev pub kind_by_coding : List ℕ → Result BodyKind Refusal
kind_by_coding value = if str_eq_ignore_ascii_case value (codes "chunked") then Ok Chunked else Err BadLength

-- by the values of `Content-Length` and those of `Transfer-Encoding`; with neither the body ends with the connection
abbrev pub kind_by_values : List FieldValue → List FieldValue → Result BodyKind Refusal
kind_by_values [] [] = Ok ToClose
kind_by_values (l ∷ []) [] = kind_by_length l.bytes
kind_by_values (l ∷ k ∷ ls) [] = Err BadLength
kind_by_values [] (c ∷ []) = kind_by_coding c.bytes
kind_by_values [] (c ∷ d ∷ cs) = Err BadLength
kind_by_values (l ∷ ls) (c ∷ cs) = Err BothLengths

-- the replies 204 and 304 have no body, whatever their fields announce
abbrev pub kind_for : ℕ → Result BodyKind Refusal → Result BodyKind Refusal
kind_for status (Ok kind) = if nat_eq status 204 || nat_eq status 304 then Ok (Length 0) else Ok kind
kind_for status (Err f) = Err f

-- by the status and the fields of a reply's head
abbrev pub kind_of : ℕ → Entries FieldValue → Result BodyKind Refusal
kind_of status fields =
    kind_for status
    (kind_by_values (get_all fields (codes "content-length")) (get_all fields (codes "transfer-encoding")))

-- the bytes are exactly the response head h, as `httparse` reads it by default with room for 64 fields; its status is 100
-- at least, and no field's name has more than 65,535 bytes, which is all that `http` and `http_header` refuse beside
pub record IsWholeResponse (bytes : List ℕ) (h : ResponseHead) : Type 0 where
  pub reads : ReadsResponse bytes h []
  pub few : length h.fields ≤ 64
  pub names : All (λ f. length f.name ≤ 65535) h.fields
  pub status : 100 ≤ status_code h

-- the reply's head of a response head and the kind of its body
abbrev pub reply_head_of : ResponseHead → BodyKind → ReplyHead
reply_head_of h kind = record { status = status_code h; fields = fields_of h.fields; body = kind }

-- the head is read as h, has at most 64 lines between its first line and the empty one, and frames its body so
pub record SaysReply (t : HeadText) (h : ResponseHead) (kind : Result BodyKind Refusal) : Type 0 where
  pub few : length t.full ≤ 65
  pub whole : IsWholeResponse (head_bytes t) h
  pub kind_is : kind ≡ kind_of (status_code h) (fields_of h.fields)

-- what a connection's next bytes are, where a reply is awaited: its head, or its refusal
pub data ReplyAnswer : Type 0 where
  replied : ReplyHead → ReplyAnswer
  refused : Refusal → ReplyAnswer

-- With the last of the bytes the answer is decided. Each row has the bytes up to and with that one:
-- 524,288 bytes in which no head ends; a head with more than 64 lines between its first line and the empty one; a head
-- that is not read; a head whose fields are refused; a head.
pub data DecidesReply : ReplyAnswer → List ℕ → Type 0 where
  long_head : (b : List ℕ) → length b ≡ 524_288 → HasNoHead b → DecidesReply (refused LongHead) b
  many_fields : (b : List ℕ) (t : HeadText) → IsHead 524_288 b t → 65 < length t.full
      → DecidesReply (refused ManyFields) b
  bad_head : (b : List ℕ) (t : HeadText) → IsHead 524_288 b t → length t.full ≤ 65
      → ((h : ResponseHead) → ¬ (IsWholeResponse (head_bytes t) h)) → DecidesReply (refused BadHead) b
  by_fields : (b : List ℕ) (t : HeadText) (h : ResponseHead) (f : Refusal) → IsHead 524_288 b t → SaysReply t h (Err f)
      → DecidesReply (refused f) b
  head : (b : List ℕ) (t : HeadText) (h : ResponseHead) (kind : BodyKind) → IsHead 524_288 b t → SaysReply t h (Ok kind)
      → DecidesReply (replied (reply_head_of h kind)) b

-- a front of the bytes decides the answer, and these are behind it
pub record IsReplyDecided (x : ReplyAnswer) (bytes rest : List ℕ) : Type 0 where
  pub front : List ℕ
  pub decides : DecidesReply x front
  pub whole : bytes ≡ front ++ rest

-- the bytes decide no reply
abbrev pub IsReplyOpen : List ℕ → Type 0
IsReplyOpen bytes = (x : ReplyAnswer) (b rest : List ℕ) → DecidesReply x b → bytes ≡ b ++ rest → ⊥

-- no bytes that decide a reply begin others that do, and they decide one answer
abbrev pub OneReply : Type 0
OneReply =
    (x y : ReplyAnswer) (b d r s : List ℕ) → DecidesReply x b → DecidesReply y d → b ++ r ≡ d ++ s → (b ≡ d) × (x ≡ y)

-- what is decided of a reply stays decided, whatever bytes follow
abbrev pub ReplyStaysDecided : Type 0
ReplyStaysDecided =
    (x : ReplyAnswer) (bytes rest more : List ℕ) → IsReplyDecided x bytes rest
    → IsReplyDecided x (bytes ++ more) (rest ++ more)
