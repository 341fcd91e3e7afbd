-- What reading a whole response head gives.
use Rattle.std.specs.Prelude.{◌≡◌}
use Rattle.httparse.specs.Grammar.{ResponseHead, status_code}
use Rattle.braid_http.specs.declared.response.ResponseParts.{ResponseParts}
use Rattle.braid_http.specs.Fields.{fields_of}

-- r holds the parts of h
pub record HoldsReply (r : ResponseParts) (h : ResponseHead) : Type 0 where
  pub status : r.status ≡ status_code h
  pub fields : r.fields ≡ fields_of h.fields
