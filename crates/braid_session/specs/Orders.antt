-- The order in which a request is denied before the book is looked at: each row a test and a denial, and the first row that
-- passes counts.
use Rattle.std.specs.Prelude.{ℕ, ◌==◌, ◌||◌, ◌&&◌, not, nat_le, Bool, true, false, List, [], ◌∷◌, ◌++◌, length, map, codes, Option, Some, None, bytes_eq, if◌then◌else◌}
use Rattle.http_header.specs.HeaderMap.{get_all}
use Rattle.http_header.specs.FieldValue.{FieldValue}
use Rattle.braid_fields.specs.Known.{is_there}
use Rattle.braid_fields.specs.Table.{is_encoded, is_repeated, is_other_merge_type, is_no_list, members_of, has_bad_id}
use Rattle.braid_http.specs.declared.request.Request.{Request}
use Rattle.braid_session.specs.declared.serving.Serving.{Serving}
use Rattle.braid_session.specs.declared.denial.Denial.{Denial}
use Rattle.braid_session.specs.declared.denial.Denial.TheVariants.{Method, Encoded, Path, OtherMergeType, NotServed, BadList, BadId}

-- what is served: PUTs and subscriptions
abbrev pub serving_now : Serving
serving_now = record { puts = true; subscriptions = true }

-- the values of the lines of a field, which is named in lower case, in the order of the lines
abbrev pub values_of : Request → List ℕ → List (List ℕ)
values_of q name = map (λ (v : FieldValue). v.bytes) (get_all q.fields name)

-- whether there is a line of a field
abbrev pub has_field : Request → List ℕ → Bool
has_field q name = is_there (values_of q name)

-- whether it is a GET
abbrev pub is_get : Request → Bool
is_get q = bytes_eq q.method (codes "GET")

-- whether it is a PUT
abbrev pub is_put : Request → Bool
is_put q = bytes_eq q.method (codes "PUT")

-- whether a GET is a subscription: it has the field `Subscribe`
abbrev pub is_subscription : Request → Bool
is_subscription q = has_field q (codes "subscribe")

-- whether a target names a resource: it begins with `/` and has at most 1,024 bytes
abbrev pub names_resource : List ℕ → Bool
names_resource [] = false
names_resource (byte ∷ bytes) = (byte == 47) && nat_le (length (byte ∷ bytes)) 1_024

-- the lines of the list that a GET uses: `Parents` of a subscription, and `Version` of any other
abbrev pub list_in_use : Request → List (List ℕ)
list_in_use q = if is_subscription q then values_of q (codes "parents") else values_of q (codes "version")

-- whether the method is one that is served
abbrev pub is_served : Serving → Request → Bool
is_served s q = is_get q || (s.puts && is_put q)

-- whether a GET is of a form that is not served: a subscription with `Version`, or where there are none; or no
-- subscription, with `Parents`
abbrev pub is_other_form : Serving → Request → Bool
is_other_form s q = if is_subscription q then has_field q (codes "version") || not s.subscriptions else has_field q (codes "parents")

-- a test that was made, and the denial where it passed
abbrev pub Row : Type 0
Row = Bool × Denial

-- the denial of the first row whose test passed, where there is one
abbrev pub first_denial : List Row → Option Denial
first_denial [] = None
first_denial (row ∷ rows) = if row.0 then Some row.1 else first_denial rows

-- rows on every request
abbrev pub rows_of_any : Serving → Request → List Row
rows_of_any s q =
    (not (is_served s q), Method)
    ∷ (is_encoded (values_of q (codes "content-encoding")), Encoded)
    ∷ (not (names_resource q.target), Path)
    ∷ []

-- rows on the form of a GET
abbrev pub rows_of_form : Serving → Request → List Row
rows_of_form s q =
    (is_repeated (values_of q (codes "merge-type")) || is_other_merge_type (values_of q (codes "merge-type")), OtherMergeType)
    ∷ (is_other_form s q, NotServed)
    ∷ []

-- rows on the lines of the list that a GET uses
abbrev pub rows_of_list : List (List ℕ) → List Row
rows_of_list values =
    (is_no_list values, BadList)
    ∷ (has_bad_id (members_of values), BadId)
    ∷ []

-- rows on a GET
abbrev pub rows_of_get : Serving → Request → List Row
rows_of_get s q = rows_of_form s q ++ rows_of_list (list_in_use q)

-- the rows on a request, but for what the reading of a PUT says
abbrev pub rows_of : Serving → Request → List Row
rows_of s q = rows_of_any s q ++ (if is_get q then rows_of_get s q else [])

-- why a request is denied by its head, where it is
abbrev pub denial_of : Serving → Request → Option Denial
denial_of s q = first_denial (rows_of s q)
