-- The bytes of the replies (RFC 9112, sections 4 to 7; Braid-HTTP's subscription with status 209), and the statuses of
-- the refusals.
use Rattle.std.specs.Prelude.{◌≡◌, ℕ, ◌+◌, ◌<◌, ◌||◌, Bool, true, false, List, [], ◌∷◌, ◌++◌, length, flat_map, codes, decimal, encode_utf8_all, if◌then◌else◌, nat_eq}
use Rattle.std.specs.List.{AllByRecursion}
use Rattle.braid_ids.specs.Identifiers.{IsIdentifier, spelled_id}
use Rattle.braid_change.specs.Spellings.{list_text}
use Rattle.braid_http.specs.declared.refusal.Refusal.{Refusal as Refusing}
use Rattle.braid_http.specs.declared.refusal.Refusal.TheVariants.{LongHead, ManyFields, BadHead, Version, BothLengths, BadLength, TooLong, BadChunk}
use Rattle.braid_http.specs.declared.reply.Reply.{Reply}
use Rattle.braid_http.specs.declared.reply.Reply.TheVariants.{Text, Stored, Error, Subscription}

-- the status of a refusal
abbrev pub refusal_status : Refusing → ℕ
refusal_status LongHead = 431
refusal_status ManyFields = 431
refusal_status BadHead = 400
refusal_status Version = 505
refusal_status BothLengths = 400
refusal_status BadLength = 400
refusal_status TooLong = 413
refusal_status BadChunk = 400

-- the name of a refusal
abbrev pub refusal_name : Refusing → List ℕ
refusal_name LongHead = codes "LongHead"
refusal_name ManyFields = codes "ManyFields"
refusal_name BadHead = codes "BadHead"
refusal_name Version = codes "Version"
refusal_name BothLengths = codes "BothLengths"
refusal_name BadLength = codes "BadLength"
refusal_name TooLong = codes "TooLong"
refusal_name BadChunk = codes "BadChunk"

-- the phrase of an error's status; the statuses without one are no error's
abbrev pub phrase_of : ℕ → List ℕ
phrase_of status =
    if nat_eq status 400 then codes "Bad Request"
    else if nat_eq status 404 then codes "Not Found"
    else if nat_eq status 405 then codes "Method Not Allowed"
    else if nat_eq status 409 then codes "Conflict"
    else if nat_eq status 413 then codes "Content Too Large"
    else if nat_eq status 422 then codes "Unprocessable Content"
    else if nat_eq status 431 then codes "Request Header Fields Too Large"
    else if nat_eq status 505 then codes "HTTP Version Not Supported"
    else if nat_eq status 507 then codes "Insufficient Storage"
    else []

-- the status has a phrase
abbrev pub HasPhrase : ℕ → Type 0
HasPhrase status = 0 < length (phrase_of status)

-- the field of a text's type
abbrev pub type_line : List ℕ
type_line = codes "Content-Type: text/plain; charset=utf-8"

-- an error's line on the methods that there are
abbrev pub allow_lines : ℕ → List (List ℕ)
allow_lines status = if nat_eq status 405 then codes "Allow: GET, PUT" ∷ [] else []

-- the lines of a reply's head, without their ends and but for `Connection: close`
abbrev pub head_lines : Reply → List (List ℕ)
head_lines (Text version text) =
    codes "HTTP/1.1 200 OK"
    ∷ (codes "Version:" ++ list_text version)
    ∷ codes "Merge-Type: ti-text"
    ∷ type_line
    ∷ (codes "Content-Length: " ++ decimal (length (encode_utf8_all text)))
    ∷ []
head_lines (Stored id) =
    codes "HTTP/1.1 200 OK"
    ∷ (codes "Version: " ++ spelled_id id)
    ∷ codes "Content-Length: 0"
    ∷ []
head_lines (Error status reason close) =
    (codes "HTTP/1.1 " ++ decimal status ++ codes " " ++ phrase_of status)
    ∷ allow_lines status
    ++ type_line
    ∷ (codes "Content-Length: " ++ decimal (length reason + 1))
    ∷ []
head_lines (Subscription current) =
    codes "HTTP/1.1 209 Subscription"
    ∷ codes "Subscribe: true"
    ∷ (codes "Current-Version:" ++ list_text current)
    ∷ codes "Merge-Type: ti-text"
    ∷ type_line
    ∷ codes "Transfer-Encoding: chunked"
    ∷ []

-- what stands behind the head: a text, or a reason and a LF. The chunks of a subscription follow later
abbrev pub content_of : Reply → List ℕ
content_of (Text version text) = encode_utf8_all text
content_of (Stored id) = []
content_of (Error status reason close) = reason ++ codes "\n"
content_of (Subscription current) = []

-- whether a reply closes the connection by itself
abbrev pub has_close : Reply → Bool
has_close (Text version text) = false
has_close (Stored id) = false
has_close (Error status reason close) = close
has_close (Subscription current) = true

-- the last field line of a reply that closes the connection
abbrev pub close_lines : Bool → List (List ℕ)
close_lines true = codes "Connection: close" ∷ []
close_lines false = []

-- a line with its end
abbrev pub ended : List ℕ → List ℕ
ended content = content ++ codes "\r\n"

-- the bytes of a reply: its lines, an empty one and its content. Where the request asked to close, or the reply does,
-- `Connection: close` is the last line
abbrev pub reply_text : Bool → Reply → List ℕ
reply_text asked reply =
    flat_map ended (head_lines reply ++ close_lines (asked || has_close reply)) ++ codes "\r\n" ++ content_of reply

-- the reply can be written: an error's status has a phrase
abbrev pub IsWritable : Reply → Type 0
IsWritable (Text version text) = Unit {0}
IsWritable (Stored id) = Unit {0}
IsWritable (Error status reason close) = HasPhrase status
IsWritable (Subscription current) = Unit {0}

-- the line that closes the connection can be put into the reply: it has none and is no subscription, and what it names
-- are identifiers, as those of every `Frontier` and `Id` are
abbrev pub IsClosable : Reply → Type 0
IsClosable (Text version text) = AllByRecursion IsIdentifier version
IsClosable (Stored id) = IsIdentifier id
IsClosable (Error status reason close) = close ≡ false
IsClosable (Subscription current) = ⊥
