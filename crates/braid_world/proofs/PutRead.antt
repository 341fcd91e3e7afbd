-- A client's PUT is read as that request, and means that its update is stored.
use Rattle.std.proofs.Common.{◌≡◌, ℕ, ◌+◌, ◌≤◌, ◌<◌, ◌==◌, ◌||◌, ◌&&◌, nat_lt, not, if◌then◌else◌, Bool, true, false, cond, IsTrue, List, [], ◌∷◌, ◌++◌, refl, sym, ap, subst, ◌∙◌, inr, length, length-append, append_assoc, append-nil, flat_map, map, codes, decimal, encode_utf8_all, All, Option, Some, None, is_none, unwrap_or, Result, Ok, Err, arith}
use Rattle.std.specs.List.{AllByRecursion}
use Rattle.std.specs.Str.Parse.{digits_value}
use Rattle.std.proofs.lemmas.Str.{IsUtf8-from_ascii}
use Rattle.std.proofs.lemmas.Bool.{le-ltb, or_from}
use Rattle.std.proofs.lemmas.List.Elements.{All-from_recursion}
use Rattle.httparse.specs.Grammar.{crlf, Field, RequestHead, IsField, IsRequestHead, print_request, is_token_byte, is_uri_byte, trim_ows}
use Rattle.http_header.specs.HeaderMap.{Entries}
use Rattle.http_header.specs.FieldValue.{FieldValue, plain_value}
use Rattle.braid_ids.specs.Identifiers.{IsIdentifier, spelled_id, spelled_ids}
use Rattle.braid_ids.specs.Frontiers.{IsRising, rising_ids}
use Rattle.braid_ids.proofs.Inserted.{rising_itself}
use Rattle.braid_change.specs.declared.patch.Patch.{Patch}
use Rattle.braid_change.specs.declared.change.Change.{Change}
use Rattle.braid_change.specs.declared.change.Change.TheVariants.{Body, Patches}
use Rattle.braid_change.specs.Changes.{IsShaped, AreScalars}
use Rattle.braid_change.specs.Updates.{UpdateView, IsUpdate}
use Rattle.braid_change.specs.Spellings.{list_text, patch_text}
use Rattle.braid_fields.specs.Places.{IsServer, IsPath}
use Rattle.braid_fields.specs.declared.reason.Reason.{Reason}
use Rattle.braid_fields.specs.declared.reason.Reason.TheVariants as reasons
use Rattle.braid_fields.specs.declared.plan.Plan.{Plan}
use Rattle.braid_fields.specs.declared.plan.Asks.TheVariants as asks
use Rattle.braid_fields.specs.Values.{strings_in_value, count_in_value, are_length_digits}
use Rattle.braid_fields.specs.Table.{first_of, has_bad_id, members_of, is_encoded, is_other_merge_type, judge_put}
use Rattle.braid_grammar.specs.Streams.{no_line, one_more}
use Rattle.braid_grammar.specs.Puts.{IsPutReading, SpellsPut}
use Rattle.braid_grammar.proofs.Lengths.{spelled_len, parents_len, number_len}
use Rattle.braid_http.specs.declared.call.Call.TheVariants.{Put}
use Rattle.braid_http.specs.declared.request.Request.{Request}
use Rattle.braid_http.specs.declared.framing.Framing.{Framing}
use Rattle.braid_http.specs.declared.framing.Framing.TheVariants as framings
use Rattle.braid_http.specs.declared.refusal.Refusal.TheVariants as refusals
use Rattle.braid_http.specs.Heads.{HeadText, head_bytes, text_bytes, IsFullLine}
use Rattle.braid_http.specs.Fields.{append_named, fields_of, IsWhole}
use Rattle.braid_http.specs.Framings.{framing, closes}
use Rattle.braid_http.specs.Requests.{asked, request_of, Decides, whole}
use Rattle.braid_http.specs.Replies.{type_line, ended}
use Rattle.braid_http.specs.Calls.{put_content, count_lines, request_text}
use Rattle.braid_session.specs.declared.serving.Serving.{Serving}
use Rattle.braid_session.specs.declared.wish.Wish.TheVariants.{Store}
use Rattle.braid_session.specs.declared.denial.Denial.TheVariants.{Method, Encoded, Path}
use Rattle.braid_session.specs.Orders.{names_resource, denial_of, first_denial}
use Rattle.braid_session.specs.Wishes.{Means, wanted, put, parts_of}
use Rattle.braid_sync.proofs.LawWritten.{Each, each_of, each_append, each_list, each_id, trimmed, ids_read, good_ids, with_cr, full_line, literal_line, ended_lines, field, field_is, token_of}
use Rattle.braid_world.proofs.AskRead.{head_printed, lines_printed, Visible, path_is, server_is, ascii_of, visible_each, uri_byte, is_visible, all_map, names_path}
use Rattle.braid_world.proofs.Numbers.{number_measured, number_value, number_trimmed, number_each, count_read}
use Rattle.braid_world.proofs.PatchContents.{content_is, fronts, last_gap, last_is_gap, fronts_are, fronts_spelled, texts_len, gap_behind}

-- its head, where these are the number of its patches, if it has any, and the length of its content

abbrev count_field : Option ℕ → List Field
count_field None = []
count_field (Some n) = field (codes "Patches") (codes " " ++ decimal n) ∷ []

abbrev put_fields : List ℕ → List ℕ → List ℕ → Option ℕ → ℕ → List Field
put_fields server v x o n =
    field (codes "Host") (codes " " ++ server)
    ∷ field (codes "Version") (codes " " ++ v)
    ∷ field (codes "Parents") x
    ∷ field (codes "Merge-Type") (codes " ti-text")
    ∷ field (codes "Content-Type") (codes " text/plain; charset=utf-8")
    ∷ (count_field o ++ field (codes "Content-Length") (codes " " ++ decimal n) ∷ [])

abbrev put_head : List ℕ → List ℕ → List ℕ → List ℕ → Option ℕ → ℕ → RequestHead
put_head server path v x o n = record { blank = []; method = codes "PUT"; target = path; minor = 1; line_end = crlf; fields = put_fields server v x o n; last = crlf }

abbrev count_line : Option ℕ → List (List ℕ)
count_line None = []
count_line (Some n) = (codes "Patches: " ++ decimal n) ∷ []

abbrev put_lines : List ℕ → List ℕ → List ℕ → List ℕ → Option ℕ → ℕ → List (List ℕ)
put_lines server path v x o n =
    (codes "PUT " ++ path ++ codes " HTTP/1.1")
    ∷ (codes "Host: " ++ server)
    ∷ (codes "Version: " ++ v)
    ∷ (codes "Parents:" ++ x)
    ∷ codes "Merge-Type: ti-text"
    ∷ type_line
    ∷ (count_line o ++ (codes "Content-Length: " ++ decimal n) ∷ [])

put_printed : (server path v x : List ℕ) (o : Option ℕ) (n : ℕ) → flat_map ended (put_lines server path v x o n) ++ codes "\r\n" ≡ print_request (put_head server path v x o n)
put_printed server path v x None n =
    lines_printed (codes "PUT ") path ((codes "Host: " ++ server) ∷ (codes "Version: " ++ v) ∷ (codes "Parents:" ++ x) ∷ codes "Merge-Type: ti-text" ∷ type_line ∷ (codes "Content-Length: " ++ decimal n) ∷ [])
    ∙ sym (head_printed (codes "PUT") path (put_fields server v x None n))
put_printed server path v x (Some k) n =
    lines_printed (codes "PUT ") path ((codes "Host: " ++ server) ∷ (codes "Version: " ++ v) ∷ (codes "Parents:" ++ x) ∷ codes "Merge-Type: ti-text" ∷ type_line ∷ (codes "Patches: " ++ decimal k) ∷ (codes "Content-Length: " ++ decimal n) ∷ [])
    ∙ sym (head_printed (codes "PUT") path (put_fields server v x (Some k) n))

-- its fields, read: these values stand between white space
abbrev counted : Option (List ℕ) → Entries FieldValue
counted None = []
counted (Some k) = (codes "patches", plain_value k ∷ []) ∷ []

abbrev put_entries : List ℕ → List ℕ → List ℕ → Option (List ℕ) → List ℕ → Entries FieldValue
put_entries y v x o n =
    (codes "host", plain_value y ∷ [])
    ∷ (codes "version", plain_value v ∷ [])
    ∷ (codes "parents", plain_value x ∷ [])
    ∷ (codes "merge-type", plain_value (codes "ti-text") ∷ [])
    ∷ (codes "content-type", plain_value (codes "text/plain; charset=utf-8") ∷ [])
    ∷ (counted o ++ (codes "content-length", plain_value n ∷ []) ∷ [])

abbrev trimmed_count : Option ℕ → Option (List ℕ)
trimmed_count None = None
trimmed_count (Some n) = Some (trim_ows (codes " " ++ decimal n))

put_entries_are : (server v x : List ℕ) (o : Option ℕ) (n : ℕ)
    → fields_of (put_fields server v x o n) ≡ put_entries (trim_ows (codes " " ++ server)) (trim_ows (codes " " ++ v)) (trim_ows x) (trimmed_count o) (trim_ows (codes " " ++ decimal n))
unfolding append_named trim_ows
put_entries_are server v x None n = refl
put_entries_are server v x (Some k) n = refl

-- the numbers of a change
abbrev pub count_of : Change → Option ℕ
count_of (Body text) = None
count_of (Patches patches) = Some (length patches)

abbrev spelled_count : Option ℕ → Option (List ℕ)
spelled_count None = None
spelled_count (Some n) = Some (decimal n)

abbrev content_len : UpdateView → ℕ
content_len u = length (put_content u.change)

-- the fields and the request
abbrev pub fields_for : List ℕ → UpdateView → Entries FieldValue
fields_for server u = put_entries (trim_ows (codes " " ++ server)) (spelled_id u.id) (spelled_ids u.parents) (spelled_count (count_of u.change)) (decimal (content_len u))

abbrev pub put_for : List ℕ → List ℕ → UpdateView → Request
put_for server path u = record { method = codes "PUT"; target = path; fields = fields_for server u; close = false; body = put_content u.change }

-- the content is short

few_patches : (u : UpdateView) → IsUpdate u → (n : ℕ) → count_of u.change ≡ Some n → n ≤ 1_000
few_patches u h n e = go u.change h.built.shaped e
  where
    go : (c : Change) → IsShaped c → count_of c ≡ Some n → n ≤ 1_000
    go (Body text) s e = cc
    go (Patches ps) s e = let few = s.few in let same : length ps ≡ n = cc in omega (arith, few, same)

pub short_content : (u : UpdateView) → IsUpdate u → length (put_content u.change) ≤ 2_097_152
short_content u h = go u.change h.built.shaped
  where
    go : (c : Change) → IsShaped c → length (put_content c) ≤ 2_097_152
    go (Body text) s = let short = s.short in omega (arith, short)
    go (Patches ps) s = let few = s.few in let short = s.short in let t = texts_len 0 ps s.listed s.numbered short in omega (arith, few, short, t, length-append (flat_map patch_text ps) (codes "\r\n"))

-- its fields are read so

id_trimmed : (id : List ℕ) → trim_ows (codes " " ++ spelled_id id) ≡ spelled_id id
id_trimmed id = subst (λ (x : List ℕ). trim_ows (codes " " ++ x) ≡ x) (append-nil (spelled_id id)) (trimmed (id ∷ []))

count_trimmed : (o : Option ℕ) → ((n : ℕ) → o ≡ Some n → n ≤ 1_000) → trimmed_count o ≡ spelled_count o
count_trimmed None few = refl
count_trimmed (Some n) few = ap (λ (x : List ℕ). Some x) (number_trimmed n (let h = few n refl in omega (arith, h)))

abbrev fields_of_put : List ℕ → UpdateView → List Field
fields_of_put server u = put_fields server (spelled_id u.id) (list_text u.parents) (count_of u.change) (content_len u)

put_fields_are : (server : List ℕ) (u : UpdateView) → IsUpdate u → fields_of (fields_of_put server u) ≡ fields_for server u
put_fields_are server u h =
    let n = short_content u h in
    let i = id_trimmed u.id in
    let p = trimmed u.parents in
    let c = count_trimmed (count_of u.change) (few_patches u h) in
    let l = number_trimmed (content_len u) (omega (arith, n)) in
    put_entries_are server (spelled_id u.id) (list_text u.parents) (count_of u.change) (content_len u)
    ∙ (λ z. put_entries (trim_ows (codes " " ++ server)) (i z) (p z) (c z) (l z))

-- it does not ask to close
put_closes : (y v x : List ℕ) (o : Option (List ℕ)) (n : List ℕ) → closes (put_entries y v x o n) ≡ false
unfolding closes
put_closes y v x None n = refl
put_closes y v x (Some k) n = refl

abbrev head_of_put : List ℕ → List ℕ → UpdateView → RequestHead
head_of_put server path u = put_head server path (spelled_id u.id) (list_text u.parents) (count_of u.change) (content_len u)

put_request_is : (server path : List ℕ) (u : UpdateView) → IsUpdate u → request_of (head_of_put server path u) (put_content u.change) ≡ put_for server path u
put_request_is server path u h =
    let e = put_fields_are server u h in
    let c = ap closes e ∙ put_closes (trim_ows (codes " " ++ server)) (spelled_id u.id) (spelled_ids u.parents) (spelled_count (count_of u.change)) (decimal (content_len u)) in
    λ i. record { method = codes "PUT"; target = path; fields = e i; close = c i; body = put_content u.change }

-- its body is as long as the field says

abbrev framed_by : List ℕ → Framing
framed_by value = if are_length_digits value then (if nat_lt 2_097_152 (digits_value 10 value) then framings.No refusals.TooLong else framings.Body (digits_value 10 value)) else framings.No refusals.BadLength

put_framed : (y v x : List ℕ) (o : Option (List ℕ)) (n : List ℕ) → framing 1 (put_entries y v x o n) ≡ framed_by n
put_framed y v x None n = refl
put_framed y v x (Some k) n = refl

framed_so : (n : ℕ) → n ≤ 2_097_152 → framed_by (decimal n) ≡ framings.Body n
framed_so n l =
    let value = decimal n in
    ap (λ (t : Bool). if t then (if nat_lt 2_097_152 (digits_value 10 value) then framings.No refusals.TooLong else framings.Body (digits_value 10 value)) else framings.No refusals.BadLength) (number_measured n (omega (arith, l)))
    ∙ ap (λ (k : ℕ). if nat_lt 2_097_152 k then framings.No refusals.TooLong else framings.Body k) (number_value n (omega (arith, l)))
    ∙ ap (λ (t : Bool). if t then framings.No refusals.TooLong else framings.Body n) (le-ltb 2_097_152 n l)

-- the lines of its head

count_is : (c : Change) → count_lines c ≡ count_line (count_of c)
count_is (Body text) = refl
count_is (Patches ps) = refl

abbrev lines_of_put : List ℕ → List ℕ → UpdateView → List (List ℕ)
lines_of_put server path u = put_lines server path (spelled_id u.id) (list_text u.parents) (count_of u.change) (content_len u)

put_text_is : (server path : List ℕ) (u : UpdateView) → request_text (Put server path u) ≡ (flat_map ended (lines_of_put server path u) ++ codes "\r\n") ++ put_content u.change
put_text_is server path u = ap (λ (c : List (List ℕ)). (flat_map ended ((codes "PUT " ++ path ++ codes " HTTP/1.1") ∷ (codes "Host: " ++ server) ∷ (codes "Version: " ++ spelled_id u.id) ∷ (codes "Parents:" ++ list_text u.parents) ∷ codes "Merge-Type: ti-text" ∷ type_line ∷ (c ++ (codes "Content-Length: " ++ decimal (content_len u)) ∷ [])) ++ codes "\r\n") ++ put_content u.change) (count_is u.change)

abbrev put_head_text : List ℕ → List ℕ → List ℕ → List ℕ → Option ℕ → ℕ → HeadText
put_head_text server path v x o n = record { blank = []; full = map with_cr (put_lines server path v x o n); last = 13 ∷ [] }

put_bytes : (server path v x : List ℕ) (o : Option ℕ) (n : ℕ) → flat_map ended (put_lines server path v x o n) ++ codes "\r\n" ≡ text_bytes (put_head_text server path v x o n)
put_bytes server path v x o n = ap (λ (z : List ℕ). z ++ codes "\r\n") (ended_lines (put_lines server path v x o n))

abbrev count_len : Option ℕ → ℕ
count_len None = 0
count_len (Some n) = length (decimal n)

put_length : (server path v x : List ℕ) (o : Option ℕ) (n : ℕ) → length (flat_map ended (put_lines server path v x o n) ++ codes "\r\n") ≤ length server + length path + length v + length x + count_len o + length (decimal n) + 300
put_length server path v x None n = simp length-append (omega arith)
put_length server path v x (Some k) n = simp length-append (omega arith)

line_with : (name value : List ℕ) → Each name → Each value → 0 < length name → IsFullLine (with_cr (name ++ value))
line_with name value n v some = full_line (name ++ value) (each_append name value n v) (let k = length-append name value in omega (arith, k, some))

-- each of the numbers is small
abbrev Small : Option ℕ → Type 0
Small o = (n : ℕ) → o ≡ Some n → n ≤ 1_000

last_full : (o : Option ℕ) (n : ℕ) → Small o → n ≤ 2_097_152 → AllByRecursion IsFullLine (map with_cr (count_line o ++ (codes "Content-Length: " ++ decimal n) ∷ []))
last_full None n few l = (line_with (codes "Content-Length: ") (decimal n) (each_of (codes "Content-Length: ") refl) (number_each n (omega (arith, l))) (omega arith), tt)
last_full (Some k) n few l = (
  line_with (codes "Patches: ") (decimal k) (each_of (codes "Patches: ") refl) (number_each k (let h = few k refl in omega (arith, h))) (omega arith),
  (line_with (codes "Content-Length: ") (decimal n) (each_of (codes "Content-Length: ") refl) (number_each n (omega (arith, l))) (omega arith), tt),
)

put_full : (server path v x : List ℕ) (o : Option ℕ) (n : ℕ) → Visible server → Visible path → Each v → Each x → Small o → n ≤ 2_097_152 → AllByRecursion IsFullLine (map with_cr (put_lines server path v x o n))
put_full server path v x o n sv pv vv xv few l = (
  full_line (codes "PUT " ++ path ++ codes " HTTP/1.1") (each_append (codes "PUT " ++ path) (codes " HTTP/1.1") (each_append (codes "PUT ") path (each_of (codes "PUT ") refl) (visible_each path pv)) (each_of (codes " HTTP/1.1") refl))
      (let k = length-append (codes "PUT " ++ path) (codes " HTTP/1.1") in let j = length-append (codes "PUT ") path in omega (arith, k, j)),
  (
    line_with (codes "Host: ") server (each_of (codes "Host: ") refl) (visible_each server sv) (omega arith),
    (
      line_with (codes "Version: ") v (each_of (codes "Version: ") refl) vv (omega arith),
      (
        line_with (codes "Parents:") x (each_of (codes "Parents:") refl) xv (omega arith),
        (literal_line (codes "Merge-Type: ti-text") refl (omega arith), (literal_line type_line refl (omega arith), last_full o n few l)),
      ),
    ),
  ),
)

raw_with : (value : List ℕ) → Each value → Each (codes " " ++ value)
raw_with value v = each_append (codes " ") value (each_of (codes " ") refl) v

abbrev AreFields : List Field → Type 0
AreFields fs = AllByRecursion IsField fs

last_fields : (o : Option ℕ) (n : ℕ) → Small o → n ≤ 2_097_152 → AreFields (count_field o ++ field (codes "Content-Length") (codes " " ++ decimal n) ∷ [])
unfolding is_token_byte
last_fields None n few l = (field_is (codes "Content-Length") (codes " " ++ decimal n) (omega arith) refl (raw_with (decimal n) (number_each n (omega (arith, l)))), tt)
last_fields (Some k) n few l = (
  field_is (codes "Patches") (codes " " ++ decimal k) (omega arith) refl (raw_with (decimal k) (number_each k (let h = few k refl in omega (arith, h)))),
  (field_is (codes "Content-Length") (codes " " ++ decimal n) (omega arith) refl (raw_with (decimal n) (number_each n (omega (arith, l)))), tt),
)

put_fields_good : (server v x : List ℕ) (o : Option ℕ) (n : ℕ) → Visible server → Each v → Each x → Small o → n ≤ 2_097_152 → All IsField (put_fields server v x o n)
unfolding is_token_byte
put_fields_good server v x o n sv vv xv few l = All-from_recursion IsField (put_fields server v x o n) (
  field_is (codes "Host") (codes " " ++ server) (omega arith) refl (raw_with server (visible_each server sv)),
  (
    field_is (codes "Version") (codes " " ++ v) (omega arith) refl (raw_with v vv),
    (
      field_is (codes "Parents") x (omega arith) refl xv,
      (
        field_is (codes "Merge-Type") (codes " ti-text") (omega arith) refl (each_of (codes " ti-text") refl),
        (field_is (codes "Content-Type") (codes " text/plain; charset=utf-8") (omega arith) refl (each_of (codes " text/plain; charset=utf-8") refl), last_fields o n few l),
      ),
    ),
  ),
)

put_is : (server path v x : List ℕ) (o : Option ℕ) (n : ℕ) → Visible server → IsPath path → Each v → Each x → Small o → n ≤ 2_097_152 → IsRequestHead (put_head server path v x o n)
unfolding is_token_byte
put_is server path v x o n sv p vv xv few l = record {
  method = (omega arith, All-from_recursion (λ b. IsTrue (is_token_byte b)) (codes "PUT") (token_of (codes "PUT") refl));
  target = (omega (arith, ap length p.begins, length-append (codes "/") p.more), All-from_recursion (λ b. IsTrue (is_uri_byte b)) path (all_map (λ b. is_visible b ≡ true) (λ b. IsTrue (is_uri_byte b)) path uri_byte (path_is path p)));
  target_text = IsUtf8-from_ascii path (ascii_of path (path_is path p));
  minor = omega arith;
  fields = put_fields_good server v x o n sv vv xv few l;
}

put_names : (server v x : List ℕ) (o : Option ℕ) (n : ℕ) → AllByRecursion (λ (f : Field). length f.name ≤ 65535) (put_fields server v x o n)
put_names server v x None n = (omega arith, (omega arith, (omega arith, (omega arith, (omega arith, (omega arith, tt))))))
put_names server v x (Some k) n = (omega arith, (omega arith, (omega arith, (omega arith, (omega arith, (omega arith, (omega arith, tt)))))))

few_fields : (server v x : List ℕ) (o : Option ℕ) (n : ℕ) → length (put_fields server v x o n) ≤ 64
few_fields server v x None n = omega arith
few_fields server v x (Some k) n = omega arith

few_lines : (server path v x : List ℕ) (o : Option ℕ) (n : ℕ) → length (map with_cr (put_lines server path v x o n)) ≤ 65
few_lines server path v x None n = omega arith
few_lines server path v x (Some k) n = omega arith

some_lines : (server path v x : List ℕ) (o : Option ℕ) (n : ℕ) → 0 < length (map with_cr (put_lines server path v x o n))
some_lines server path v x o n = omega arith

put_whole : (server path v x : List ℕ) (o : Option ℕ) (n : ℕ) → Visible server → IsPath path → Each v → Each x → Small o → n ≤ 2_097_152 → IsWhole (head_bytes (put_head_text server path v x o n)) (put_head server path v x o n)
put_whole server path v x o n sv p vv xv few l = record {
  reads = (put_is server path v x o n sv p vv xv few l, sym (put_bytes server path v x o n) ∙ put_printed server path v x o n ∙ sym (append-nil (print_request (put_head server path v x o n))));
  few = few_fields server v x o n;
  names = All-from_recursion (λ (f : Field). length f.name ≤ 65535) (put_fields server v x o n) (put_names server v x o n);
}

-- it is decided as this request
pub put_decides : (server path : List ℕ) (u : UpdateView) → IsServer server → IsPath path → IsUpdate u → Decides (asked (put_for server path u)) (request_text (Put server path u))
put_decides server path u sv p h =
    let v = spelled_id u.id in
    let x = list_text u.parents in
    let o = count_of u.change in
    let n = content_len u in
    let few = few_patches u h in
    let l = short_content u h in
    let vv = each_id u.id h.identifier in
    let xv = each_list u.parents h.identifiers in
    let head = flat_map ended (lines_of_put server path u) ++ codes "\r\n" in
    subst (λ (q : Request). Decides (asked q) (request_text (Put server path u))) (put_request_is server path u h)
    (whole (request_text (Put server path u)) head (put_content u.change) (put_head_text server path v x o n) (put_head server path v x o n)
    (record { text = record { blank = tt; full = put_full server path v x o n (server_is server sv) (path_is path p) vv xv few l; some = some_lines server path v x o n; last = inr refl }; short = put_short few l; spelled = put_bytes server path v x o n })
    (record { few = few_lines server path v x o n; whole = put_whole server path v x o n (server_is server sv) p vv xv few l; framing = sym (framed_here l) })
    (put_text_is server path u))
  where
    framed_here : content_len u ≤ 2_097_152 → framing 1 (fields_of (fields_of_put server u)) ≡ framings.Body (content_len u)
    framed_here l =
        ap (framing 1) (put_fields_are server u h)
        ∙ put_framed (trim_ows (codes " " ++ server)) (spelled_id u.id) (spelled_ids u.parents) (spelled_count (count_of u.change)) (decimal (content_len u))
        ∙ framed_so (content_len u) l

    count_short : (o : Option ℕ) → Small o → count_len o ≤ 10
    count_short None few = omega arith
    count_short (Some k) few = number_len k (let f = few k refl in omega (arith, f))

    put_short : Small (count_of u.change) → content_len u ≤ 2_097_152 → length (text_bytes (put_head_text server path (spelled_id u.id) (list_text u.parents) (count_of u.change) (content_len u))) ≤ 16_384
    put_short few l =
        let e = ap length (put_bytes server path (spelled_id u.id) (list_text u.parents) (count_of u.change) (content_len u)) in
        let k = put_length server path (spelled_id u.id) (list_text u.parents) (count_of u.change) (content_len u) in
        let i = spelled_len u.id h.identifier in
        let ps = parents_len u.parents h.identifiers in
        let fp = h.built.few_parents in
        let c = count_short (count_of u.change) few in
        let m = number_len (content_len u) (omega (arith, l)) in
        let a = sv.short in
        let b = p.short in
        omega (arith, e, k, i, ps, fp, c, m, a, b)

-- what it means

-- what the rows say of a head with these strings, where its content has no fault
abbrev names_judged : Option (List (List ℕ)) → Option (List (List ℕ)) → (List ℕ → List (List ℕ) → Result Plan Reason) → Result Plan Reason
names_judged v w pass =
    cond (is_none v || is_none w) (Err reasons.BadList) (cond (length (unwrap_or v []) == 0) (Err reasons.NoVersion) (cond (nat_lt 1 (length (unwrap_or v []))) (Err reasons.ManyVersions)
    (cond (has_bad_id (unwrap_or v []) || has_bad_id (unwrap_or w [])) (Err reasons.BadId) (cond (nat_lt 32 (length (rising_ids (unwrap_or w [])))) (Err reasons.TooManyParents)
    (pass (first_of (unwrap_or v [])) (rising_ids (unwrap_or w [])))))))

id_read : (id : List ℕ) → IsIdentifier id → strings_in_value (spelled_id id) ≡ Some (id ∷ [])
id_read id h = ap strings_in_value (sym (append-nil (spelled_id id))) ∙ ids_read (id ∷ []) (h, tt)

names_pass : (id : List ℕ) (parents : List (List ℕ)) (pass : List ℕ → List (List ℕ) → Result Plan Reason) → IsIdentifier id → AllByRecursion IsIdentifier parents → IsRising parents → length parents ≤ 32
    → names_judged (strings_in_value (spelled_id id)) (strings_in_value (spelled_ids parents)) pass ≡ pass id parents
names_pass id parents pass h k r l =
    let same : rising_ids parents ≡ parents = rising_itself parents r in
    let bad : has_bad_id (id ∷ []) || has_bad_id parents ≡ false = or_from _ _ (good_ids (id ∷ []) (h, tt)) (good_ids parents k) in
    let few : nat_lt 32 (length parents) ≡ false = le-ltb 32 (length parents) l in
    (λ i. names_judged (id_read id h i) (ids_read parents k i) pass)
    ∙ (λ i. cond (bad i) (Err reasons.BadId) (cond (nat_lt 32 (length (same i))) (Err reasons.TooManyParents) (pass id (same i))))
    ∙ ap (λ (t : Bool). cond t (Err reasons.TooManyParents) (pass id parents)) few

abbrev body_judged : ℕ → List ℕ → List (List ℕ) → Result Plan Reason
body_judged n id parents = cond (nat_lt 1_048_576 (0 + n)) (Err reasons.TooLong) (Ok (record { id = id; parents = parents; asks = asks.Body n }))

abbrev patches_judged : Option ℕ → List ℕ → List (List ℕ) → Result Plan Reason
patches_judged o id parents =
    cond (is_none o) (Err reasons.BadCount) (cond (nat_lt 1_000 (unwrap_or o 0)) (Err reasons.TooManyPatches) (Ok (record { id = id; parents = parents; asks = asks.Patches (unwrap_or o 0) })))

-- an update of these parts
abbrev update_of : List ℕ → List (List ℕ) → Change → UpdateView
update_of id parents change = record { id = id; parents = parents; change = change }

body_so : (server path id : List ℕ) (parents : List (List ℕ)) (text : List ℕ)
    → judge_put (length (encode_utf8_all text)) (parts_of (put_for server path (update_of id parents (Body text)))) ≡ names_judged (strings_in_value (spelled_id id)) (strings_in_value (spelled_ids parents)) (body_judged (length (encode_utf8_all text)))
unfolding judge_put members_of is_encoded is_other_merge_type
body_so server path id parents text = refl

patches_so : (server path id : List ℕ) (parents : List (List ℕ)) (ps : List Patch)
    → judge_put (length (put_content (Patches ps))) (parts_of (put_for server path (update_of id parents (Patches ps)))) ≡ names_judged (strings_in_value (spelled_id id)) (strings_in_value (spelled_ids parents)) (patches_judged (count_in_value (decimal (length ps))))
unfolding judge_put members_of is_encoded is_other_merge_type
patches_so server path id parents ps = refl

put_read : (server path : List ℕ) (u : UpdateView) → IsUpdate u → IsPutReading (parts_of (put_for server path u)) (put_content u.change) (Ok u)
put_read server path u h = go u.change h.built.shaped h.built.scalar
  where
    go : (c : Change) → IsShaped c → AreScalars c → SpellsPut (update_of u.id u.parents c) (parts_of (put_for server path (update_of u.id u.parents c))) (put_content c)
    go (Body text) s sc =
        let n = length (encode_utf8_all text) in
        record {
          plan = record { id = u.id; parents = u.parents; asks = asks.Body n };
          planned = body_so server path u.id u.parents text ∙ names_pass u.id u.parents (body_judged n) h.identifier h.identifiers h.rising h.built.few_parents
              ∙ ap (λ (t : Bool). cond t (Err reasons.TooLong) (Ok (record { id = u.id; parents = u.parents; asks = asks.Body n }))) (le-ltb 1_048_576 (0 + n) (let short = s.short in omega (arith, short)));
          id = refl;
          parents = refl;
          whole = record { content = encode_utf8_all text; gap = []; spells = content_is text sc; is_gap = no_line; spelled = sym (append-nil (encode_utf8_all text)) };
        }
    go (Patches ps) s sc =
        let n = length ps in
        let few : n ≤ 1_000 = s.few in
        record {
          plan = record { id = u.id; parents = u.parents; asks = asks.Patches n };
          planned = patches_so server path u.id u.parents ps ∙ names_pass u.id u.parents (patches_judged (count_in_value (decimal n))) h.identifier h.identifiers h.rising h.built.few_parents
              ∙ ap (λ (o : Option ℕ). patches_judged o u.id u.parents) (count_read n (omega (arith, few)))
              ∙ ap (λ (t : Bool). cond t (Err reasons.TooManyPatches) (Ok (record { id = u.id; parents = u.parents; asks = asks.Patches n }))) (le-ltb 1_000 n few);
          id = refl;
          parents = refl;
          whole = record {
            content = fronts [] ps;
            gap = last_gap [] ps ++ codes "\r\n";
            spells = (refl, fronts_spelled 0 0 [] ps no_line s.listed s.numbered sc (let short = s.short in omega (arith, short)));
            is_gap = gap_behind (last_gap [] ps) (codes "\r\n") (last_is_gap [] ps no_line) (one_more (codes "\r\n") [] refl no_line);
            spelled = ap (λ (z : List ℕ). z ++ codes "\r\n") (fronts_are [] ps) ∙ append_assoc (fronts [] ps) (last_gap [] ps) (codes "\r\n");
          };
        }

no_denial : (a b : Bool) → a ≡ true → b ≡ true → first_denial ((not (a && true), Method) ∷ (false, Encoded) ∷ (not b, Path) ∷ []) ≡ None
no_denial a b e f = rw (e, f) refl

undenied_so : (s : Serving) (server path id : List ℕ) (parents : List (List ℕ)) (c : Change) → s.puts ≡ true → IsPath path → denial_of s (put_for server path (update_of id parents c)) ≡ None
unfolding is_encoded
undenied_so s server path id parents (Body text) on p = no_denial s.puts (names_resource path) on (names_path path p)
undenied_so s server path id parents (Patches ps) on p = no_denial s.puts (names_resource path) on (names_path path p)

put_undenied : (s : Serving) (server path : List ℕ) (u : UpdateView) → s.puts ≡ true → IsPath path → denial_of s (put_for server path u) ≡ None
put_undenied s server path u on p = undenied_so s server path u.id u.parents u.change on p

pub put_means : (s : Serving) (server path : List ℕ) (u : UpdateView) → s.puts ≡ true → IsPath path → IsUpdate u → Means s (put_for server path u) (wanted (Store u))
put_means s server path u on p h = put u (put_undenied s server path u on p) refl (put_read server path u h)
