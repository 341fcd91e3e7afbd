-- The bytes of a client's requests (RFC 9112, sections 3 to 6; the fields of Braid-HTTP).
use Rattle.std.specs.Prelude.{ℕ, List, [], ◌∷◌, ◌++◌, length, flat_map, codes, decimal, encode_utf8_all}
use Rattle.braid_ids.specs.Identifiers.{spelled_id}
use Rattle.braid_change.specs.declared.change.Change.{Change}
use Rattle.braid_change.specs.declared.change.Change.TheVariants.{Body, Patches}
use Rattle.braid_change.specs.Spellings.{list_text, patch_text}
use Rattle.braid_http.specs.declared.call.Call.{Call}
use Rattle.braid_http.specs.declared.call.Call.TheVariants.{Subscribe, Put}
use Rattle.braid_http.specs.Replies.{type_line, ended}

-- the content of a change: the bytes of a body, or what an update's canonical spelling has behind the empty line of its
-- head, which is each patch as listed and one last CRLF
abbrev pub put_content : Change → List ℕ
put_content (Body text) = encode_utf8_all text
put_content (Patches patches) = flat_map patch_text patches ++ codes "\r\n"

-- the line on the number of patches, where there are patches
abbrev pub count_lines : Change → List (List ℕ)
count_lines (Body text) = []
count_lines (Patches patches) = (codes "Patches: " ++ decimal (length patches)) ∷ []

-- the lines of a request's head, without their ends
abbrev pub call_lines : Call → List (List ℕ)
call_lines (Subscribe server path parents) =
    (codes "GET " ++ path ++ codes " HTTP/1.1")
    ∷ (codes "Host: " ++ server)
    ∷ codes "Subscribe: true"
    ∷ (codes "Parents:" ++ list_text parents)
    ∷ codes "Merge-Type: ti-text"
    ∷ []
call_lines (Put server path update) =
    (codes "PUT " ++ path ++ codes " HTTP/1.1")
    ∷ (codes "Host: " ++ server)
    ∷ (codes "Version: " ++ spelled_id update.id)
    ∷ (codes "Parents:" ++ list_text update.parents)
    ∷ codes "Merge-Type: ti-text"
    ∷ type_line
    ∷ (count_lines update.change ++ (codes "Content-Length: " ++ decimal (length (put_content update.change))) ∷ [])

-- what stands behind the head
abbrev pub call_content : Call → List ℕ
call_content (Subscribe server path parents) = []
call_content (Put server path update) = put_content update.change

-- the bytes of a request: its lines, an empty one and its content
abbrev pub request_text : Call → List ℕ
request_text call = flat_map ended (call_lines call) ++ codes "\r\n" ++ call_content call
