-- What a whole request head says: `httparse` reads it, `http` takes its method and `http_header` its fields.
use Rattle.std.specs.Prelude.{ℕ, ◌≤◌, List, [], length, All, map, fold}
use Rattle.httparse.specs.Grammar.{Field, RequestHead, ReadsRequest}
use Rattle.httparse.specs.Spans.{name_and_value}
use Rattle.http_header.specs.Token.{lowercase}
use Rattle.http_header.specs.FieldValue.{FieldValue, plain_value}
use Rattle.http_header.specs.HeaderMap.{Entries, append}

-- fields with one more line, of which the name counts in lower case
unfoldable pub append_named : Entries FieldValue → List ℕ × List ℕ → Entries FieldValue
append_named m p = append m (lowercase p.0) (plain_value p.1)

-- the fields of a head's lines, in their order
abbrev pub fields_of : List Field → Entries FieldValue
fields_of fields = fold append_named [] (map name_and_value fields)

-- the bytes are exactly the request head h, as `httparse` reads it by default with room for 64 fields, and no field's
-- name has more than 65,535 bytes, which is all that `http` and `http_header` refuse beside
pub record IsWhole (bytes : List ℕ) (h : RequestHead) : Type 0 where
  pub reads : ReadsRequest bytes h []
  pub few : length h.fields ≤ 64
  pub names : All (λ f. length f.name ≤ 65535) h.fields
