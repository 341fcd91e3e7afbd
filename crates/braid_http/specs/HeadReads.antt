-- What reading a whole head gives.
use Rattle.std.specs.Prelude.{◌≡◌, ℕ, List}
use Rattle.httparse.specs.Grammar.{RequestHead}
use Rattle.httparse.specs.Spans.{header_bytes}
use Rattle.httparse.specs.declared.spans.HeaderSpan.{HeaderSpan}
use Rattle.http_header.specs.FieldName.{IsFieldName}
use Rattle.http_header.specs.FieldValue.{IsFieldValue}
use Rattle.braid_http.specs.declared.head.Head.{Head}
use Rattle.braid_http.specs.Fields.{fields_of}

-- `http_header` takes the name and the value
pub record IsGood (p : List ℕ × List ℕ) : Type 0 where
  pub name : IsFieldName p.0
  pub value : IsFieldValue p.1

-- the same of the bytes that spans cover
abbrev pub IsGoodAt : List ℕ → HeaderSpan → Type 0
IsGoodAt bytes s = IsGood (header_bytes bytes s)

-- r holds the parts of h
pub record Holds (r : Head) (h : RequestHead) : Type 0 where
  pub method : r.method ≡ h.method
  pub target : r.target.items ≡ h.target
  pub minor : r.minor ≡ h.minor
  pub fields : r.fields ≡ fields_of h.fields
