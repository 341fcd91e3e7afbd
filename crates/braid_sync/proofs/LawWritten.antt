-- The reply of a subscription as it is written is read as one.
use Rattle.std.proofs.Common.{◌≡◌, ℕ, suc, ◌≤◌, ◌<◌, ◌==◌, ◌||◌, Bool, true, false, IsTrue, if◌then◌else◌, append_assoc, append-nil, List, [], ◌∷◌, ◌++◌, inr, refl, ap, sym, subst, ◌∙◌, length, map, reverse, get_or, flat_map, codes, All, Result, Ok, Err, Option, Some, is_none, unwrap_or, nat_le, arith, length-append}
use Rattle.std.specs.List.{AllByRecursion, list_all}
use Rattle.std.specs.Char.{is_ascii_digit}
use Rattle.std.proofs.lemmas.Bool.{and_parts, le-leb, le-ltb, ne_eqb}
use Rattle.std.proofs.lemmas.List.{reverse-append}
use Rattle.std.proofs.lemmas.List.Elements.{All-from_recursion}
use Rattle.httparse.specs.Grammar.{crlf, Field, ResponseHead, IsField, IsResponseHead, print_response, is_token_byte, is_value_byte, skip_ows, trim_ows}
use Rattle.httparse.proofs.TrimLemmas.{trim_ows_space}
use Rattle.http_header.specs.HeaderMap.{Entries}
use Rattle.http_header.specs.FieldValue.{FieldValue, plain_value}
use Rattle.braid_ids.specs.Lists.{Lacks}
use Rattle.braid_ids.specs.Identifiers.{IsIdentifier, IsPrintable, escaped, spelled_id, spelled_ids}
use Rattle.braid_ids.specs.Frontiers.{rising_ids}
use Rattle.braid_ids.proofs.Spelled.{alone, after, escape_of}
use Rattle.braid_ids.proofs.Splits.{lacks_append}
use Rattle.braid_shelf.proofs.Listed.{ids_listed}
use Rattle.braid_change.specs.Updates.{UpdateView}
use Rattle.braid_change.specs.Spellings.{list_text}
use Rattle.braid_fields.specs.Values.{strings_in_value}
use Rattle.braid_fields.specs.Table.{is_bad_id, has_bad_id, members_of, is_other_merge_type}
use Rattle.braid_fields.proofs.ValueReading.{strings_law}
use Rattle.braid_grammar.specs.Streams.{IsStream}
use Rattle.braid_stream.specs.Readers.{most_bytes}
use Rattle.braid_http.specs.declared.response.ReplyHead.{ReplyHead}
use Rattle.braid_http.specs.declared.response.BodyKind.TheVariants.{Chunked}
use Rattle.braid_http.specs.declared.reply.Reply.TheVariants.{Subscription}
use Rattle.braid_http.specs.Heads.{line, lines, IsFullLine, HeadText, head_bytes, text_bytes}
use Rattle.braid_http.specs.Fields.{append_named, fields_of}
use Rattle.braid_http.specs.Bodies.{IsChunkedBody}
use Rattle.braid_http.specs.Responses.{kind_of, IsWholeResponse, reply_head_of, replied, DecidesReply, head as decides_head}
use Rattle.braid_http.specs.Replies.{type_line, ended, reply_text}
use Rattle.braid_sync.specs.declared.end.SyncEnd.{SyncEnd}
use Rattle.braid_sync.specs.declared.end.SyncEnd.TheVariants as ends
use Rattle.braid_sync.specs.Judging.{judge}
use Rattle.braid_sync.specs.Laws.{IsSubscriptionOf, WrittenIsWhole}

-- bytes that may stand in a field's value

abbrev pub Each : List ℕ → Type 0
Each xs = AllByRecursion (λ b. IsTrue (is_value_byte b)) xs

pub each_of : (xs : List ℕ) → list_all is_value_byte xs ≡ true → Each xs
each_of [] e = tt
each_of (x ∷ xs) e = let p = and_parts (is_value_byte x) (list_all is_value_byte xs) e in (p.0, each_of xs p.1)

pub each_append : (xs ys : List ℕ) → Each xs → Each ys → Each (xs ++ ys)
each_append [] ys h k = k
each_append (x ∷ xs) ys h k = (h.0, each_append xs ys h.1 k)

each_lacks : (xs : List ℕ) → Each xs → Lacks 10 xs
each_lacks [] h = tt
each_lacks (x ∷ xs) h = (λ e. (let k : is_value_byte 10 ≡ true = subst (λ y. is_value_byte y ≡ true) e h.0 in cc), each_lacks xs h.1)

printable_value : (b : ℕ) → IsPrintable b → IsTrue (is_value_byte b)
printable_value b p = value b (le-leb 32 b p.0) (ne_eqb b 127 (λ e. (let k = p.1 in omega (arith, k, e))))
  where
    either : (t : Bool) → (t || true) ≡ true
    either true = refl
    either false = refl

    value : (b : ℕ) → nat_le 32 b ≡ true → (b == 127) ≡ false → is_value_byte b ≡ true
    value b l n = rw (l, n) (either (b == 9))

each_escaped : (b : ℕ) → IsPrintable b → Each (escaped b)
each_escaped b h =
    elim (escape_of b) [
      | alone n m is ↦ subst Each (sym is) (printable_value b h, tt)
      | after is ↦ subst Each (sym is) (refl, (printable_value b h, tt))
    ]

each_inside : (bytes : List ℕ) → ((k : ℕ) → k < length bytes → IsPrintable (get_or bytes k 0)) → Each (flat_map escaped bytes)
each_inside [] h = tt
each_inside (b ∷ bytes) h = each_append (escaped b) (flat_map escaped bytes) (each_escaped b (h 0 (omega arith))) (each_inside bytes (λ k l. h (suc k) (omega (arith, l))))

pub each_id : (id : List ℕ) → IsIdentifier id → Each (spelled_id id)
each_id id h = (refl, each_append (flat_map escaped id) (34 ∷ []) (each_inside id h.printable) (refl, tt))

abbrev next_id : List ℕ → List ℕ
next_id other = 44 ∷ 32 ∷ spelled_id other

each_others : (ids : List (List ℕ)) → AllByRecursion IsIdentifier ids → Each (flat_map next_id ids)
each_others [] h = tt
each_others (id ∷ ids) h = (refl, (refl, each_append (spelled_id id) (flat_map next_id ids) (each_id id h.0) (each_others ids h.1)))

pub each_list : (ids : List (List ℕ)) → AllByRecursion IsIdentifier ids → Each (list_text ids)
each_list [] h = tt
each_list (id ∷ ids) h = (refl, each_append (spelled_id id) (flat_map next_id ids) (each_id id h.0) (each_others ids h.1))

-- what stands between the white space of the field of the version

record EndsQuoted (xs : List ℕ) : Type 0 where
  front : List ℕ
  is : xs ≡ front ++ 34 ∷ []

quoted : (front : List ℕ) (ids : List (List ℕ)) → EndsQuoted (front ++ 34 ∷ flat_map next_id ids)
quoted front [] = record { front = front; is = refl }
quoted front (id ∷ ids) =
    let inner : 34 ∷ flat_map next_id (id ∷ ids) ≡ (34 ∷ 44 ∷ 32 ∷ 34 ∷ flat_map escaped id) ++ 34 ∷ flat_map next_id ids =
    ap (λ x. 34 ∷ 44 ∷ 32 ∷ 34 ∷ x) (append_assoc (flat_map escaped id) (34 ∷ []) (flat_map next_id ids)) in
    let k = quoted (front ++ (34 ∷ 44 ∷ 32 ∷ 34 ∷ flat_map escaped id)) ids in
    record { front = k.front; is = ap (λ x. front ++ x) inner ∙ sym (append_assoc front (34 ∷ 44 ∷ 32 ∷ 34 ∷ flat_map escaped id) (34 ∷ flat_map next_id ids)) ∙ k.is }

ids_quoted : (id : List ℕ) (ids : List (List ℕ)) → EndsQuoted (spelled_ids (id ∷ ids))
ids_quoted id ids =
    let k = quoted (34 ∷ flat_map escaped id) ids in
    record { front = k.front; is = ap (λ x. 34 ∷ x) (append_assoc (flat_map escaped id) (34 ∷ []) (flat_map next_id ids)) ∙ k.is }

back_same : (xs : List ℕ) → EndsQuoted xs → skip_ows (reverse xs) ≡ reverse xs
back_same xs q =
    let e : reverse xs ≡ 34 ∷ reverse q.front = ap reverse q.is ∙ reverse-append q.front (34 ∷ []) in
    ap skip_ows e ∙ sym e

pub trimmed : (ids : List (List ℕ)) → trim_ows (list_text ids) ≡ spelled_ids ids
unfolding trim_ows
trimmed [] = refl
trimmed (id ∷ ids) = trim_ows_space (spelled_ids (id ∷ ids)) refl (back_same (spelled_ids (id ∷ ids)) (ids_quoted id ids))

pub ids_read : (ids : List (List ℕ)) → AllByRecursion IsIdentifier ids → strings_in_value (spelled_ids ids) ≡ Some ids
ids_read ids h = (strings_law (spelled_ids ids) ids).1 (ids_listed ids h)

neither : (a b : Bool) → a ≡ false → b ≡ false → (a || b) ≡ false
neither a b e f = rw (e, f) refl

pub good_ids : (ids : List (List ℕ)) → AllByRecursion IsIdentifier ids → has_bad_id ids ≡ false
unfolding has_bad_id
good_ids [] h = refl
good_ids (id ∷ ids) h =
    let some = h.0.some in
    neither (is_bad_id id) _ (neither (length id == 0) _ (ne_eqb (length id) 0 (λ e. omega (arith, some, e))) (le-ltb 128 (length id) h.0.short)) (good_ids ids h.1)

-- the head, whose version is spelled so

abbrev pub field : List ℕ → List ℕ → Field
field name raw = record { name = name; raw = raw; end = crlf }

abbrev pub fields_with : List ℕ → List Field
fields_with x =
    field (codes "Subscribe") (codes " true")
    ∷ field (codes "Current-Version") x
    ∷ field (codes "Merge-Type") (codes " ti-text")
    ∷ field (codes "Content-Type") (codes " text/plain; charset=utf-8")
    ∷ field (codes "Transfer-Encoding") (codes " chunked")
    ∷ field (codes "Connection") (codes " close")
    ∷ []

abbrev pub head_with : List ℕ → ResponseHead
head_with x = record { blank = []; minor = 1; digits = codes "209"; reason = Some (codes "Subscription"); line_end = crlf; fields = fields_with x; last = crlf }

abbrev pub lines_with : List ℕ → List (List ℕ)
lines_with x =
    codes "HTTP/1.1 209 Subscription"
    ∷ codes "Subscribe: true"
    ∷ (codes "Current-Version:" ++ x)
    ∷ codes "Merge-Type: ti-text"
    ∷ type_line
    ∷ codes "Transfer-Encoding: chunked"
    ∷ codes "Connection: close"
    ∷ []

printed : (x : List ℕ) → flat_map ended (lines_with x) ++ codes "\r\n" ≡ print_response (head_with x)
unfolding print_response
printed x = simp append_assoc

pub text_is : (V : List (List ℕ)) → reply_text false (Subscription V) ≡ flat_map ended (lines_with (list_text V)) ++ codes "\r\n"
text_is V = append-nil _

-- its fields

abbrev entries_with : List ℕ → Entries FieldValue
entries_with x =
    (codes "subscribe", plain_value (codes "true") ∷ [])
    ∷ (codes "current-version", plain_value x ∷ [])
    ∷ (codes "merge-type", plain_value (codes "ti-text") ∷ [])
    ∷ (codes "content-type", plain_value (codes "text/plain; charset=utf-8") ∷ [])
    ∷ (codes "transfer-encoding", plain_value (codes "chunked") ∷ [])
    ∷ (codes "connection", plain_value (codes "close") ∷ [])
    ∷ []

entries_are : (x : List ℕ) → fields_of (fields_with x) ≡ entries_with (trim_ows x)
unfolding append_named trim_ows
entries_are x = refl

kind_with : (x : List ℕ) → kind_of 209 (entries_with x) ≡ Ok Chunked
kind_with x = refl

-- the version that it names

abbrev version_judged : Option (List (List ℕ)) → Result (List (List ℕ)) SyncEnd
version_judged o = if is_none o || has_bad_id (unwrap_or o []) then Err ends.BadCurrent else Ok (rising_ids (unwrap_or o []))

pub reply_with : List ℕ → ReplyHead
reply_with x = record { status = 209; fields = entries_with x; body = Chunked }

judged_so : (x : List ℕ) → judge (reply_with x) ≡ version_judged (strings_in_value x)
unfolding reply_with members_of is_other_merge_type
judged_so x = refl

judged_ids : (ids : List (List ℕ)) → has_bad_id ids ≡ false → version_judged (Some ids) ≡ Ok (rising_ids ids)
judged_ids ids h = ap (λ (t : Bool). if t then Err ends.BadCurrent else Ok (rising_ids ids)) h

pub judged_with : (V : List (List ℕ)) → AllByRecursion IsIdentifier V → judge (reply_with (spelled_ids V)) ≡ Ok (rising_ids V)
judged_with V h = judged_so (spelled_ids V) ∙ ap version_judged (ids_read V h) ∙ judged_ids V (good_ids V h)

-- the lines of the head, each with its CR

pub with_cr : List ℕ → List ℕ
with_cr content = content ++ 13 ∷ []

pub full_line : (c : List ℕ) → Each c → 0 < length c → IsFullLine (with_cr c)
unfolding with_cr
full_line c h some =
    let long = length-append c (13 ∷ []) in
    record {
      ended = lacks_append 10 c (13 ∷ []) (each_lacks c h) ((λ k. cc), tt);
      some = λ e. (let k = ap length e in omega (arith, k, long));
      more = λ e. (let k = ap length e in omega (arith, k, long, some));
    }

pub ended_lines : (ls : List (List ℕ)) → flat_map ended ls ≡ lines (map with_cr ls)
unfolding with_cr
ended_lines [] = refl
ended_lines (l ∷ ls) = ap (λ z. z ++ flat_map ended ls) (sym (append_assoc l (13 ∷ []) (10 ∷ []))) ∙ ap (λ z. line (l ++ 13 ∷ []) ++ z) (ended_lines ls)

pub literal_line : (c : List ℕ) → list_all is_value_byte c ≡ true → 0 < length c → IsFullLine (with_cr c)
literal_line c e some = full_line c (each_of c e) some

full_lines : (x : List ℕ) → Each x → AllByRecursion IsFullLine (map with_cr (lines_with x))
full_lines x h = (
  literal_line (codes "HTTP/1.1 209 Subscription") refl (omega arith),
  (
    literal_line (codes "Subscribe: true") refl (omega arith),
    (
      full_line (codes "Current-Version:" ++ x) (each_append (codes "Current-Version:") x (each_of (codes "Current-Version:") refl) h) (let k = length-append (codes "Current-Version:") x in omega (arith, k)),
      (
        literal_line (codes "Merge-Type: ti-text") refl (omega arith),
        (literal_line type_line refl (omega arith), (literal_line (codes "Transfer-Encoding: chunked") refl (omega arith), (literal_line (codes "Connection: close") refl (omega arith), tt))),
      ),
    ),
  ),
)

abbrev pub text_with : List ℕ → HeadText
text_with x = record { blank = []; full = map with_cr (lines_with x); last = 13 ∷ [] }

pub text_bytes_are : (x : List ℕ) → flat_map ended (lines_with x) ++ codes "\r\n" ≡ text_bytes (text_with x)
text_bytes_are x = ap (λ z. z ++ codes "\r\n") (ended_lines (lines_with x))

-- it is read as this head

pub token_of : (xs : List ℕ) → list_all is_token_byte xs ≡ true → AllByRecursion (λ b. IsTrue (is_token_byte b)) xs
token_of [] e = tt
token_of (x ∷ xs) e = let p = and_parts (is_token_byte x) (list_all is_token_byte xs) e in (p.0, token_of xs p.1)

pub field_is : (name raw : List ℕ) → 0 < length name → list_all is_token_byte name ≡ true → Each raw → IsField (field name raw)
field_is name raw some e h = record { name = (some, All-from_recursion (λ b. IsTrue (is_token_byte b)) name (token_of name e)); raw = All-from_recursion (λ b. IsTrue (is_value_byte b)) raw h }

fields_are : (x : List ℕ) → Each x → All IsField (fields_with x)
unfolding is_token_byte
fields_are x h = All-from_recursion IsField (fields_with x) (
  field_is (codes "Subscribe") (codes " true") (omega arith) refl (each_of (codes " true") refl),
  (
    field_is (codes "Current-Version") x (omega arith) refl h,
    (
      field_is (codes "Merge-Type") (codes " ti-text") (omega arith) refl (each_of (codes " ti-text") refl),
      (
        field_is (codes "Content-Type") (codes " text/plain; charset=utf-8") (omega arith) refl (each_of (codes " text/plain; charset=utf-8") refl),
        (
          field_is (codes "Transfer-Encoding") (codes " chunked") (omega arith) refl (each_of (codes " chunked") refl),
          (field_is (codes "Connection") (codes " close") (omega arith) refl (each_of (codes " close") refl), tt),
        ),
      ),
    ),
  ),
)

head_is : (x : List ℕ) → Each x → IsResponseHead (head_with x)
head_is x h = record {
  minor = omega arith;
  digits = (refl, All-from_recursion (λ b. IsTrue (is_ascii_digit b)) (codes "209") (refl, (refl, (refl, tt))));
  reason = All-from_recursion (λ b. IsTrue (is_value_byte b)) (codes "Subscription") (each_of (codes "Subscription") refl);
  fields = fields_are x h;
}

names_are : (x : List ℕ) → All (λ (f : Field). length f.name ≤ 65535) (fields_with x)
names_are x = All-from_recursion (λ (f : Field). length f.name ≤ 65535) (fields_with x) (omega arith, (omega arith, (omega arith, (omega arith, (omega arith, (omega arith, tt))))))

whole_is : (x : List ℕ) → Each x → IsWholeResponse (head_bytes (text_with x)) (head_with x)
whole_is x h = record {
  reads = (head_is x h, sym (text_bytes_are x) ∙ printed x ∙ sym (append-nil (print_response (head_with x))));
  few = omega arith;
  names = names_are x;
  status = omega arith;
}

pub decided_with : (x : List ℕ) → Each x → length (text_bytes (text_with x)) ≤ 524_288 → DecidesReply (replied (reply_head_of (head_with x) Chunked)) (text_bytes (text_with x))
decided_with x h short =
    decides_head (text_bytes (text_with x)) (text_with x) (head_with x) Chunked
    (record { text = record { blank = tt; full = full_lines x h; some = omega arith; last = inr refl }; short = short; spelled = refl })
    (record { few = omega arith; whole = whole_is x h; kind_is = sym (ap (kind_of 209) (entries_are x) ∙ kind_with (trim_ows x)) })

pub reply_is : (V : List (List ℕ)) → reply_head_of (head_with (list_text V)) Chunked ≡ reply_with (spelled_ids V)
unfolding reply_with
reply_is V =
    let e = entries_are (list_text V) ∙ ap entries_with (trimmed V) in
    λ i. record { status = 209; fields = e i; body = Chunked }

subscription : (V : List (List ℕ)) (body content : List ℕ) (us : List UpdateView) (text : List ℕ) → AllByRecursion IsIdentifier V → IsChunkedBody content body → IsStream us content → length content < most_bytes
    → DecidesReply (replied (reply_with (spelled_ids V))) text → IsSubscriptionOf (rising_ids V) us (text ++ body)
unfolding reply_with
subscription V body content us text ids is stream short d = record {
  head = reply_with (spelled_ids V);
  body = body;
  content = content;
  more = [];
  decided = record { front = text; decides = d; whole = ap (λ t. text ++ t) (sym (append-nil body)) };
  judged = judged_with V ids;
  is = is;
  framed = λ e. cc;
  stream = stream;
  short = short;
}

pub written_is_whole : WrittenIsWhole
written_is_whole V body content us ids is stream short head_short =
    let h = each_list V ids in
    let text = text_is V ∙ text_bytes_are (list_text V) in
    let small = subst (λ t. length t ≤ 524_288) text head_short in
    let decides = subst (λ (k : ReplyHead). DecidesReply (replied k) (text_bytes (text_with (list_text V)))) (reply_is V) (decided_with (list_text V) h small) in
    subscription V body content us (reply_text false (Subscription V)) ids is stream short (subst (DecidesReply (replied (reply_with (spelled_ids V)))) (sym text) decides)
