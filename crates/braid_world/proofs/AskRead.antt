-- A client's request for a subscription is read as that request, and means that subscription.
use Rattle.std.proofs.Common.{◌≡◌, ℕ, zero, suc, ◌+◌, ◌≤◌, ◌<◌, ◌==◌, ◌||◌, ◌&&◌, nat_le, not, Bool, true, false, IsTrue, List, [], ◌∷◌, ◌++◌, refl, sym, ap, subst, ◌∙◌, inr, length, length-append, append_assoc, append-nil, flat_map, map, codes, All, Option, None, is_none, unwrap_or, arith}
use Rattle.std.specs.List.{AllByRecursion, list_all, list_any}
use Rattle.std.specs.Str.{IsAscii}
use Rattle.std.proofs.lemmas.Str.{IsUtf8-from_ascii}
use Rattle.std.proofs.lemmas.Bool.{and_parts, le-leb, eqb-true}
use Rattle.std.proofs.lemmas.Bool.Decides.{nat_tests}
use Rattle.std.proofs.lemmas.List.Elements.{All-from_recursion}
use Rattle.httparse.specs.Grammar.{crlf, Field, RequestHead, IsField, IsRequestHead, print_field, print_end, print_request, is_token_byte, is_uri_byte, is_value_byte, trim_ows}
use Rattle.http_header.specs.HeaderMap.{Entries}
use Rattle.http_header.specs.FieldValue.{FieldValue, plain_value}
use Rattle.braid_ids.specs.Identifiers.{IsIdentifier, spelled_ids}
use Rattle.braid_ids.specs.Frontiers.{IsRising, rising_ids}
use Rattle.braid_ids.proofs.Inserted.{rising_itself}
use Rattle.braid_change.specs.Spellings.{list_text}
use Rattle.braid_shelf.specs.ByteClasses.{is_letter, is_digit, is_lower}
use Rattle.braid_fields.specs.Places.{IsServer, IsPath, is_path_byte}
use Rattle.braid_fields.specs.Table.{has_bad_id, members_of, is_no_list, is_encoded, is_other_merge_type}
use Rattle.braid_http.specs.declared.call.Call.TheVariants.{Subscribe}
use Rattle.braid_http.specs.declared.request.Request.{Request}
use Rattle.braid_http.specs.declared.framing.Framing.TheVariants.{Body}
use Rattle.braid_http.specs.Heads.{HeadText, head_bytes, text_bytes, IsFullLine}
use Rattle.braid_http.specs.Fields.{append_named, fields_of, IsWhole}
use Rattle.braid_http.specs.Framings.{framing, closes}
use Rattle.braid_http.specs.Requests.{asked, request_of, Decides, whole}
use Rattle.braid_http.specs.Replies.{ended}
use Rattle.braid_http.specs.Calls.{request_text}
use Rattle.braid_session.specs.declared.serving.Serving.{Serving}
use Rattle.braid_session.specs.declared.wish.Wish.TheVariants.{Watch}
use Rattle.braid_session.specs.declared.denial.Denial.TheVariants.{Path, NotServed, BadList, BadId}
use Rattle.braid_session.specs.Orders.{names_resource, denial_of, first_denial}
use Rattle.braid_session.specs.Wishes.{Means, wanted, get}
use Rattle.braid_world.proofs.HeadRead.{list_short}
use Rattle.braid_sync.proofs.LawWritten.{Each, each_of, each_append, each_list, trimmed, ids_read, good_ids, with_cr, full_line, literal_line, ended_lines, field, field_is, token_of}

-- its head, where the list of its parents is spelled so

abbrev ask_fields : List ℕ → List ℕ → List Field
ask_fields server x =
    field (codes "Host") (codes " " ++ server)
    ∷ field (codes "Subscribe") (codes " true")
    ∷ field (codes "Parents") x
    ∷ field (codes "Merge-Type") (codes " ti-text")
    ∷ []

abbrev ask_head : List ℕ → List ℕ → List ℕ → RequestHead
ask_head server path x = record { blank = []; method = codes "GET"; target = path; minor = 1; line_end = crlf; fields = ask_fields server x; last = crlf }

abbrev ask_lines : List ℕ → List ℕ → List ℕ → List (List ℕ)
ask_lines server path x =
    (codes "GET " ++ path ++ codes " HTTP/1.1")
    ∷ (codes "Host: " ++ server)
    ∷ codes "Subscribe: true"
    ∷ (codes "Parents:" ++ x)
    ∷ codes "Merge-Type: ti-text"
    ∷ []

-- fields, and lines, with what stands behind them
abbrev pub nested : List Field → List ℕ → List ℕ
nested [] z = z
nested (f ∷ fs) z = f.name ++ (58 ∷ (f.raw ++ (print_end f.end ++ nested fs z)))

section_is : (fs : List Field) (z : List ℕ) → flat_map print_field fs ++ z ≡ nested fs z
section_is [] z = refl
section_is (f ∷ fs) z =
    append_assoc (print_field f) (flat_map print_field fs) z ∙ ap (λ (t : List ℕ). print_field f ++ t) (section_is fs z)
    ∙ append_assoc (f.name ++ 58 ∷ f.raw) (print_end f.end) (nested fs z) ∙ append_assoc f.name (58 ∷ f.raw) (print_end f.end ++ nested fs z)

abbrev pub nested_lines : List (List ℕ) → List ℕ → List ℕ
nested_lines [] z = z
nested_lines (l ∷ ls) z = l ++ (codes "\r\n" ++ nested_lines ls z)

lines_are : (ls : List (List ℕ)) (z : List ℕ) → flat_map ended ls ++ z ≡ nested_lines ls z
lines_are [] z = refl
lines_are (l ∷ ls) z = append_assoc (ended l) (flat_map ended ls) z ∙ ap (λ (t : List ℕ). ended l ++ t) (lines_are ls z) ∙ append_assoc l (codes "\r\n") (nested_lines ls z)

head_regroup : (m sp t v e s : List ℕ) → (((m ++ (sp ++ t)) ++ (sp ++ v)) ++ e) ++ s ≡ m ++ (sp ++ (t ++ (sp ++ (v ++ (e ++ s)))))
head_regroup m sp t v e s = simp append_assoc

-- the head of a request is its lines
pub head_printed : (m t : List ℕ) (fs : List Field) → print_request (record { blank = []; method = m; target = t; minor = 1; line_end = crlf; fields = fs; last = crlf }) ≡ m ++ (32 ∷ (t ++ (codes " HTTP/1.1\r\n" ++ nested fs (codes "\r\n"))))
unfolding print_request
head_printed m t fs =
    head_regroup m (32 ∷ []) t (codes "HTTP/1.1") (codes "\r\n") (flat_map print_field fs ++ codes "\r\n")
    ∙ ap (λ (s : List ℕ). m ++ (32 ∷ (t ++ (codes " HTTP/1.1\r\n" ++ s)))) (section_is fs (codes "\r\n"))

pub lines_printed : (m t : List ℕ) (ls : List (List ℕ)) → flat_map ended ((m ++ t ++ codes " HTTP/1.1") ∷ ls) ++ codes "\r\n" ≡ m ++ (t ++ (codes " HTTP/1.1\r\n" ++ nested_lines ls (codes "\r\n")))
lines_printed m t ls =
    lines_are ((m ++ t ++ codes " HTTP/1.1") ∷ ls) (codes "\r\n")
    ∙ append_assoc (m ++ t) (codes " HTTP/1.1") (codes "\r\n" ++ nested_lines ls (codes "\r\n"))
    ∙ append_assoc m t (codes " HTTP/1.1" ++ (codes "\r\n" ++ nested_lines ls (codes "\r\n")))

ask_printed : (server path x : List ℕ) → flat_map ended (ask_lines server path x) ++ codes "\r\n" ≡ print_request (ask_head server path x)
ask_printed server path x =
    lines_printed (codes "GET ") path ((codes "Host: " ++ server) ∷ codes "Subscribe: true" ∷ (codes "Parents:" ++ x) ∷ codes "Merge-Type: ti-text" ∷ [])
    ∙ sym (head_printed (codes "GET") path (ask_fields server x))

abbrev ask_entries : List ℕ → List ℕ → Entries FieldValue
ask_entries y x =
    (codes "host", plain_value y ∷ [])
    ∷ (codes "subscribe", plain_value (codes "true") ∷ [])
    ∷ (codes "parents", plain_value x ∷ [])
    ∷ (codes "merge-type", plain_value (codes "ti-text") ∷ [])
    ∷ []

ask_entries_are : (server x : List ℕ) → fields_of (ask_fields server x) ≡ ask_entries (trim_ows (codes " " ++ server)) (trim_ows x)
unfolding append_named trim_ows
ask_entries_are server x = refl

-- the request that it is
abbrev pub asked_for : List ℕ → List ℕ → List (List ℕ) → Request
asked_for server path F = record { method = codes "GET"; target = path; fields = ask_entries (trim_ows (codes " " ++ server)) (spelled_ids F); close = false; body = [] }

ask_closes : (y x : List ℕ) → closes (ask_entries y x) ≡ false
unfolding closes
ask_closes y x = refl

request_is : (server path : List ℕ) (F : List (List ℕ)) → request_of (ask_head server path (list_text F)) [] ≡ asked_for server path F
request_is server path F =
    let e = ask_entries_are server (list_text F) ∙ ap (ask_entries (trim_ows (codes " " ++ server))) (trimmed F) in
    let c = ap closes e ∙ ask_closes (trim_ows (codes " " ++ server)) (spelled_ids F) in
    λ i. record { method = codes "GET"; target = path; fields = e i; close = c i; body = [] }

-- the bytes that it may have

abbrev pub is_visible : ℕ → Bool
is_visible b = nat_le 33 b && nat_le b 126

any_visible : (signs : List ℕ) (b : ℕ) → list_all is_visible signs ≡ true → list_any (λ sign. b == sign) signs ≡ true → is_visible b ≡ true
any_visible [] b h k = cc
any_visible (s ∷ signs) b h k = let p = and_parts (is_visible s) (list_all is_visible signs) h in go (any_visible signs b p.1) (b == s) refl k
  where
    go : (list_any (λ sign. b == sign) signs ≡ true → is_visible b ≡ true) → (t : Bool) → (b == s) ≡ t → (t || list_any (λ sign. b == sign) signs) ≡ true → is_visible b ≡ true
    go later true e m = subst (λ (x : ℕ). is_visible x ≡ true) (sym (eqb-true b s e)) (and_parts (is_visible s) (list_all is_visible signs) h).0
    go later false e m = later m

either_true : (a b : Bool) (P : Type 0) → (a ≡ true → P) → (b ≡ true → P) → (a || b) ≡ true → P
either_true true b P f g h = f refl
either_true false b P f g h = g h

between : (low high b : ℕ) → 33 ≤ low → high ≤ 126 → (nat_le low b && nat_le b high) ≡ true → is_visible b ≡ true
between low high b l h e = let p = and_parts (nat_le low b) (nat_le b high) e in grind (arith, nat_tests, p.0, p.1)

path_visible : (b : ℕ) → is_path_byte b ≡ true → is_visible b ≡ true
path_visible b h = either_true (is_letter b || is_digit b) (list_any (λ sign. b == sign) (codes "-._~!$&'()*+,;=:@%/?")) (is_visible b ≡ true)
    (λ k. either_true (is_letter b) (is_digit b) (is_visible b ≡ true)
    (λ m. either_true (is_lower b) (nat_le 65 b && nat_le b 90) (is_visible b ≡ true) (between 97 122 b (omega arith) (omega arith)) (between 65 90 b (omega arith) (omega arith)) m)
    (between 48 57 b (omega arith) (omega arith)) k)
    (any_visible (codes "-._~!$&'()*+,;=:@%/?") b refl) h

pub uri_byte : (b : ℕ) → is_visible b ≡ true → is_uri_byte b ≡ true
uri_byte b h = let p = and_parts (nat_le 33 b) (nat_le b 126) h in grind (arith, nat_tests, p.0, p.1)

value_byte : (b : ℕ) → is_visible b ≡ true → is_value_byte b ≡ true
value_byte b h = let p = and_parts (nat_le 33 b) (nat_le b 126) h in grind (arith, nat_tests, p.0, p.1)

below : (b : ℕ) → is_visible b ≡ true → b < 128
below b h = let p = and_parts (nat_le 33 b) (nat_le b 126) h in grind (arith, nat_tests, p.0, p.1)

-- each byte of a path and of a server's address is visible
abbrev pub Visible : List ℕ → Type 0
Visible xs = AllByRecursion (λ (b : ℕ). is_visible b ≡ true) xs

pub all_map : (P Q : ℕ → Type 0) (xs : List ℕ) → ((b : ℕ) → P b → Q b) → AllByRecursion P xs → AllByRecursion Q xs
all_map P Q [] f h = tt
all_map P Q (x ∷ xs) f h = (f x h.0, all_map P Q xs f h.1)

pub path_is : (path : List ℕ) → IsPath path → Visible path
path_is path p = all_map (λ b. is_path_byte b ≡ true) (λ b. is_visible b ≡ true) path path_visible p.allowed

pub server_is : (server : List ℕ) → IsServer server → Visible server
server_is server s = s.visible

pub ascii_of : (xs : List ℕ) → Visible xs → IsAscii xs
ascii_of [] h i = omega arith
ascii_of (x ∷ xs) h zero = below x h.0
ascii_of (x ∷ xs) h (suc i) = ascii_of xs h.1 i

pub visible_each : (xs : List ℕ) → Visible xs → Each xs
visible_each xs h = all_map (λ b. is_visible b ≡ true) (λ b. IsTrue (is_value_byte b)) xs value_byte h

-- lengths

ask_length : (server path x : List ℕ) → length (flat_map ended (ask_lines server path x) ++ codes "\r\n") ≤ length server + length path + length x + 200
ask_length server path x = simp length-append (omega arith)

-- the lines of the head

abbrev ask_text : List ℕ → List ℕ → List ℕ → HeadText
ask_text server path x = record { blank = []; full = map with_cr (ask_lines server path x); last = 13 ∷ [] }

ask_full : (server path x : List ℕ) → Visible server → Visible path → Each x → AllByRecursion IsFullLine (map with_cr (ask_lines server path x))
ask_full server path x sv pv h = (
  full_line (codes "GET " ++ path ++ codes " HTTP/1.1") (each_append (codes "GET " ++ path) (codes " HTTP/1.1") (each_append (codes "GET ") path (each_of (codes "GET ") refl) (visible_each path pv)) (each_of (codes " HTTP/1.1") refl))
      (let k = length-append (codes "GET " ++ path) (codes " HTTP/1.1") in let j = length-append (codes "GET ") path in omega (arith, k, j)),
  (
    full_line (codes "Host: " ++ server) (each_append (codes "Host: ") server (each_of (codes "Host: ") refl) (visible_each server sv)) (let k = length-append (codes "Host: ") server in omega (arith, k)),
    (
      literal_line (codes "Subscribe: true") refl (omega arith),
      (full_line (codes "Parents:" ++ x) (each_append (codes "Parents:") x (each_of (codes "Parents:") refl) h) (let k = length-append (codes "Parents:") x in omega (arith, k)), (literal_line (codes "Merge-Type: ti-text") refl (omega arith), tt)),
    ),
  ),
)

ask_bytes : (server path x : List ℕ) → flat_map ended (ask_lines server path x) ++ codes "\r\n" ≡ text_bytes (ask_text server path x)
ask_bytes server path x = ap (λ (z : List ℕ). z ++ codes "\r\n") (ended_lines (ask_lines server path x))

ask_fields_are : (server x : List ℕ) → Visible server → Each x → All IsField (ask_fields server x)
unfolding is_token_byte
ask_fields_are server x sv h = All-from_recursion IsField (ask_fields server x) (
  field_is (codes "Host") (codes " " ++ server) (omega arith) refl (each_append (codes " ") server (each_of (codes " ") refl) (visible_each server sv)),
  (
    field_is (codes "Subscribe") (codes " true") (omega arith) refl (each_of (codes " true") refl),
    (field_is (codes "Parents") x (omega arith) refl h, (field_is (codes "Merge-Type") (codes " ti-text") (omega arith) refl (each_of (codes " ti-text") refl), tt)),
  ),
)

ask_is : (server path x : List ℕ) → Visible server → IsPath path → Each x → IsRequestHead (ask_head server path x)
unfolding is_token_byte
ask_is server path x sv p h = record {
  method = (omega arith, All-from_recursion (λ b. IsTrue (is_token_byte b)) (codes "GET") (token_of (codes "GET") refl));
  target = (omega (arith, ap length p.begins, length-append (codes "/") p.more), All-from_recursion (λ b. IsTrue (is_uri_byte b)) path (all_map (λ b. is_visible b ≡ true) (λ b. IsTrue (is_uri_byte b)) path uri_byte (path_is path p)));
  target_text = IsUtf8-from_ascii path (ascii_of path (path_is path p));
  minor = omega arith;
  fields = ask_fields_are server x sv h;
}

ask_whole : (server path x : List ℕ) → Visible server → IsPath path → Each x → IsWhole (head_bytes (ask_text server path x)) (ask_head server path x)
ask_whole server path x sv p h = record {
  reads = (ask_is server path x sv p h, sym (ask_bytes server path x) ∙ ask_printed server path x ∙ sym (append-nil (print_request (ask_head server path x))));
  few = omega arith;
  names = All-from_recursion (λ (f : Field). length f.name ≤ 65535) (ask_fields server x) (omega arith, (omega arith, (omega arith, (omega arith, tt))));
}

-- it is decided as this request
pub ask_decides : (server path : List ℕ) (F : List (List ℕ)) → IsServer server → IsPath path → AllByRecursion IsIdentifier F → length F ≤ 32 → Decides (asked (asked_for server path F)) (request_text (Subscribe server path F))
ask_decides server path F sv p ids few =
    let x = list_text F in
    let h = each_list F ids in
    let text : request_text (Subscribe server path F) ≡ text_bytes (ask_text server path x) = append-nil _ ∙ ask_bytes server path x in
    subst (λ (q : Request). Decides (asked q) (request_text (Subscribe server path F))) (request_is server path F)
    (whole (request_text (Subscribe server path F)) (request_text (Subscribe server path F)) [] (ask_text server path x) (ask_head server path x)
    (record { text = record { blank = tt; full = ask_full server path x (server_is server sv) (path_is path p) h; some = omega arith; last = inr refl }; short = ask_short server path F sv p ids few; spelled = text })
    (record { few = omega arith; whole = ask_whole server path x (server_is server sv) p h; framing = sym (ask_framed server x) })
    (sym (append-nil (request_text (Subscribe server path F)))))
  where
    ask_framed : (server x : List ℕ) → framing 1 (fields_of (ask_fields server x)) ≡ Body 0
    ask_framed server x = ap (framing 1) (ask_entries_are server x)

    ask_short : (server path : List ℕ) (F : List (List ℕ)) → IsServer server → IsPath path → AllByRecursion IsIdentifier F → length F ≤ 32 → length (text_bytes (ask_text server path (list_text F))) ≤ 16_384
    ask_short server path F sv p ids few =
        let l = list_short F ids in
        let e = ap length (ask_bytes server path (list_text F)) in
        let n = ask_length server path (list_text F) in
        omega (arith, l, e, n, sv.short, p.short, few)

-- what it means

pub names_path : (path : List ℕ) → IsPath path → names_resource path ≡ true
names_path path p = subst (λ (x : List ℕ). names_resource x ≡ true) (sym p.begins) (le-leb (length (47 ∷ p.more)) 1_024 (omega (arith, p.short, ap length p.begins)))

pub denial_so : (a b c d : Bool) → a ≡ true → b ≡ true → c ≡ false → d ≡ false → first_denial ((not a, Path) ∷ (not b, NotServed) ∷ (c, BadList) ∷ (d, BadId) ∷ []) ≡ None
denial_so a b c d e f g h = rw (e, f, g, h) refl

watched_is : (F : List (List ℕ)) → AllByRecursion IsIdentifier F → IsRising F → rising_ids (members_of (spelled_ids F ∷ [])) ≡ F
unfolding members_of
watched_is F ids rising = ap (λ (o : Option (List (List ℕ))). rising_ids (unwrap_or o [])) (ids_read F ids) ∙ rising_itself F rising

no_bad : (F : List (List ℕ)) → AllByRecursion IsIdentifier F → has_bad_id (members_of (spelled_ids F ∷ [])) ≡ false
unfolding members_of
no_bad F ids = ap (λ (o : Option (List (List ℕ))). has_bad_id (unwrap_or o [])) (ids_read F ids) ∙ good_ids F ids

undenied : (s : Serving) (server path : List ℕ) (F : List (List ℕ)) → s.subscriptions ≡ true → IsPath path → AllByRecursion IsIdentifier F → denial_of s (asked_for server path F) ≡ None
unfolding is_other_merge_type is_encoded
undenied s server path F on p ids =
    denial_so (names_resource path) s.subscriptions (is_no_list (spelled_ids F ∷ [])) (has_bad_id (members_of (spelled_ids F ∷ []))) (names_path path p) on (ap is_none (ids_read F ids)) (no_bad F ids)

pub ask_means : (s : Serving) (server path : List ℕ) (F : List (List ℕ)) → s.subscriptions ≡ true → IsPath path → AllByRecursion IsIdentifier F → IsRising F → Means s (asked_for server path F) (wanted (Watch F))
ask_means s server path F on p ids rising = subst (λ (w : List (List ℕ)). Means s (asked_for server path F) (wanted (Watch w))) (watched_is F ids rising) (get (undenied s server path F on p ids) refl)
