-- Which bytes decide the answer to a connection's next request (RFC 9112, sections 2 to 7, in the profile of
-- docs/FORMATS.md).
use Rattle.std.specs.Prelude.{◌≡◌, ℕ, ◌≤◌, ◌<◌, List, ◌++◌, length}
use Rattle.httparse.specs.Grammar.{RequestHead}
use Rattle.braid_http.specs.declared.request.Request.{Request}
use Rattle.braid_http.specs.declared.refusal.Refusal.{Refusal}
use Rattle.braid_http.specs.declared.refusal.Refusal.TheVariants.{LongHead, ManyFields, BadHead, TooLong, BadChunk}
use Rattle.braid_http.specs.declared.framing.Framing.{Framing}
use Rattle.braid_http.specs.declared.framing.Framing.TheVariants.{No, Body, Chunks}
use Rattle.braid_http.specs.Heads.{HeadText, IsHead, head_bytes, HasNoHead}
use Rattle.braid_http.specs.Fields.{IsWhole, fields_of}
use Rattle.braid_http.specs.Framings.{framing, closes}
use Rattle.braid_http.specs.Chunks.{Chunk, EndsChunked, IsChunked, bad_chunk, too_long}

-- the request of a head and its body
abbrev pub request_of : RequestHead → List ℕ → Request
request_of h content =
    record {
      method = h.method;
      target = h.target;
      fields = fields_of h.fields;
      close =
          closes (fields_of h.fields);
      body = content;
    }

-- the head is read as h, has at most 64 lines between its first line and the empty one, and frames its body so
pub record Says (t : HeadText) (h : RequestHead) (f : Framing) : Type 0 where
  pub few : length t.full ≤ 65
  pub whole : IsWhole (head_bytes t) h
  pub framing : f ≡ framing h.minor (fields_of h.fields)

-- what a connection's next bytes are answered by: their request, or its refusal
pub data Answer : Type 0 where
  asked : Request → Answer
  refused : Refusal → Answer

-- With the last of the bytes the answer is decided. Each row has the bytes up to and with that one:
-- 16,384 bytes in which no head ends; a head with more than 64 lines between its first line and the empty one; a head
-- that is not read; a head whose version or fields are refused; a head and a body of its length; a head and a chunked
-- body; a head and chunks up to the byte that is against them, or up to the line that announces too much.
pub data Decides : Answer → List ℕ → Type 0 where
  long_head : (b : List ℕ) → length b ≡ 16_384 → HasNoHead b → Decides (refused LongHead) b
  many_fields : (b : List ℕ) (t : HeadText) → IsHead 16_384 b t → 65 < length t.full → Decides (refused ManyFields) b
  bad_head : (b : List ℕ) (t : HeadText) → IsHead 16_384 b t → length t.full ≤ 65
      → ((h : RequestHead) → ¬ (IsWhole (head_bytes t) h)) → Decides (refused BadHead) b
  by_fields : (b : List ℕ) (t : HeadText) (h : RequestHead) (f : Refusal) → IsHead 16_384 b t → Says t h (No f)
      → Decides (refused f) b
  whole : (b head content : List ℕ) (t : HeadText) (h : RequestHead) → IsHead 16_384 head t
      → Says t h (Body (length content)) → b ≡ head ++ content → Decides (asked (request_of h content)) b
  chunked : (b head body content : List ℕ) (t : HeadText) (h : RequestHead) → IsHead 16_384 head t → Says t h Chunks
      → IsChunked 2_097_152 content body → b ≡ head ++ body → Decides (asked (request_of h content)) b
  bad_chunks : (b head body : List ℕ) (t : HeadText) (h : RequestHead) (cs : List Chunk) → IsHead 16_384 head t
      → Says t h Chunks → EndsChunked 2_097_152 cs bad_chunk body → b ≡ head ++ body → Decides (refused BadChunk) b
  long_chunks : (b head body : List ℕ) (t : HeadText) (h : RequestHead) (cs : List Chunk) → IsHead 16_384 head t
      → Says t h Chunks → EndsChunked 2_097_152 cs too_long body → b ≡ head ++ body → Decides (refused TooLong) b

-- a front of the bytes decides the answer, and these are behind it
pub record IsDecided (x : Answer) (bytes rest : List ℕ) : Type 0 where
  pub front : List ℕ
  pub decides : Decides x front
  pub whole : bytes ≡ front ++ rest

-- the bytes decide nothing
abbrev pub IsOpen : List ℕ → Type 0
IsOpen bytes = (x : Answer) (b rest : List ℕ) → Decides x b → bytes ≡ b ++ rest → ⊥

-- no bytes that decide begin others that do, and they decide one answer
abbrev pub OneAnswer : Type 0
OneAnswer = (x y : Answer) (b d r s : List ℕ) → Decides x b → Decides y d → b ++ r ≡ d ++ s → (b ≡ d) × (x ≡ y)

-- what is decided stays decided, whatever bytes follow
abbrev pub StaysDecided : Type 0
StaysDecided = (x : Answer) (bytes rest more : List ℕ) → IsDecided x bytes rest
    → IsDecided x (bytes ++ more) (rest ++ more)

-- at most 543,200,000 bytes belong to a request or stand up to the byte that shows its refusal
abbrev pub FewBytes : Type 0
FewBytes = (x : Answer) (b : List ℕ) → Decides x b → length b ≤ 543_200_000
