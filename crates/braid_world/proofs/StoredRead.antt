-- The replies to a PUT that is stored, or for which there is no room, are read as they were written.
use Rattle.std.proofs.Common.{◌≡◌, ℕ, ◌+◌, ◌≤◌, ◌<◌, ◌^◌, true, false, IsTrue, List, [], ◌∷◌, ◌++◌, refl, sym, ap, ◌∙◌, inr, length, length-append, append_assoc, append-nil, flat_map, map, codes, decimal, All, Ok, Some, arith}
use Rattle.std.specs.List.{AllByRecursion}
use Rattle.std.specs.Str.Parse.{digits_value}
use Rattle.std.specs.Char.{is_ascii_digit}
use Rattle.std.proofs.lemmas.Fmt.{decimal_step, decimal_digit}
use Rattle.std.proofs.lemmas.List.Elements.{All-from_recursion}
use Rattle.httparse.specs.Grammar.{crlf, Field, ResponseHead, IsField, IsResponseHead, print_response, is_token_byte, is_value_byte, trim_ows}
use Rattle.http_header.specs.HeaderMap.{Entries}
use Rattle.http_header.specs.FieldValue.{FieldValue, plain_value}
use Rattle.braid_ids.specs.Identifiers.{IsIdentifier, spelled_id}
use Rattle.braid_fields.specs.Values.{are_length_digits}
use Rattle.braid_grammar.proofs.Lengths.{spelled_len, number_len}
use Rattle.braid_text.specs.declared.room.Which.{Which}
use Rattle.braid_text.specs.declared.room.Which.TheVariants.{Resources, Versions, Elements, Deletions, Width}
use Rattle.braid_text.specs.Rooms.{which_name}
use Rattle.braid_store.specs.Answers.{limit_of}
use Rattle.braid_http.specs.declared.reply.Reply.{Reply}
use Rattle.braid_http.specs.declared.reply.Reply.TheVariants.{Stored, Error}
use Rattle.braid_http.specs.declared.response.ReplyHead.{ReplyHead}
use Rattle.braid_http.specs.declared.response.BodyKind.TheVariants.{Length}
use Rattle.braid_http.specs.Heads.{HeadText, head_bytes, text_bytes, IsFullLine}
use Rattle.braid_http.specs.Fields.{append_named, fields_of}
use Rattle.braid_http.specs.Responses.{kind_of, IsWholeResponse, reply_head_of, replied, DecidesReply, head as decides_head}
use Rattle.braid_http.specs.Replies.{type_line, ended, reply_text}
use Rattle.braid_sync.proofs.LawWritten.{Each, each_of, each_append, each_id, with_cr, full_line, literal_line, ended_lines, field, field_is}
use Rattle.braid_world.proofs.Numbers.{number_measured, number_value, number_trimmed, number_each}

-- A reply is written as a head that is read with this status, and a content of so many bytes, which the head tells.
pub record IsRead (reply : Reply) (status n : ℕ) : Type 0 where
  pub front : List ℕ
  pub content : List ℕ
  pub head : ReplyHead
  pub decides : DecidesReply (replied head) front
  pub status_is : head.status ≡ status
  pub body_is : head.body ≡ Length n
  pub written : reply_text false reply ≡ front ++ content
  pub long : length content ≡ n

-- a reply that is stored

abbrev stored_lines : List ℕ → List (List ℕ)
stored_lines v = codes "HTTP/1.1 200 OK" ∷ (codes "Version: " ++ v) ∷ codes "Content-Length: 0" ∷ []

abbrev stored_fields : List ℕ → List Field
stored_fields v = field (codes "Version") (codes " " ++ v) ∷ field (codes "Content-Length") (codes " 0") ∷ []

abbrev stored_head : List ℕ → ResponseHead
stored_head v = record { blank = []; minor = 1; digits = codes "200"; reason = Some (codes "OK"); line_end = crlf; fields = stored_fields v; last = crlf }

stored_printed : (v : List ℕ) → flat_map ended (stored_lines v) ++ codes "\r\n" ≡ print_response (stored_head v)
unfolding print_response
stored_printed v = simp append_assoc

abbrev stored_entries : List ℕ → Entries FieldValue
stored_entries v = (codes "version", plain_value v ∷ []) ∷ (codes "content-length", plain_value (codes "0") ∷ []) ∷ []

stored_fields_are : (v : List ℕ) → fields_of (stored_fields v) ≡ stored_entries (trim_ows (codes " " ++ v))
unfolding append_named trim_ows
stored_fields_are v = refl

stored_kind : (v : List ℕ) → kind_of 200 (stored_entries v) ≡ Ok (Length 0)
stored_kind v = refl

abbrev stored_text : List ℕ → HeadText
stored_text v = record { blank = []; full = map with_cr (stored_lines v); last = 13 ∷ [] }

stored_bytes : (v : List ℕ) → flat_map ended (stored_lines v) ++ codes "\r\n" ≡ text_bytes (stored_text v)
stored_bytes v = ap (λ (z : List ℕ). z ++ codes "\r\n") (ended_lines (stored_lines v))

stored_length : (v : List ℕ) → length (flat_map ended (stored_lines v) ++ codes "\r\n") ≤ length v + 100
stored_length v = simp length-append (omega arith)

stored_full : (v : List ℕ) → Each v → AllByRecursion IsFullLine (map with_cr (stored_lines v))
stored_full v h = (
  literal_line (codes "HTTP/1.1 200 OK") refl (omega arith),
  (full_line (codes "Version: " ++ v) (each_append (codes "Version: ") v (each_of (codes "Version: ") refl) h) (let k = length-append (codes "Version: ") v in omega (arith, k)), (literal_line (codes "Content-Length: 0") refl (omega arith), tt)),
)

stored_good : (v : List ℕ) → Each v → All IsField (stored_fields v)
unfolding is_token_byte
stored_good v h = All-from_recursion IsField (stored_fields v) (
  field_is (codes "Version") (codes " " ++ v) (omega arith) refl (each_append (codes " ") v (each_of (codes " ") refl) h),
  (field_is (codes "Content-Length") (codes " 0") (omega arith) refl (each_of (codes " 0") refl), tt),
)

stored_is : (v : List ℕ) → Each v → IsResponseHead (stored_head v)
stored_is v h = record {
  minor = omega arith;
  digits = (refl, All-from_recursion (λ b. IsTrue (is_ascii_digit b)) (codes "200") (refl, (refl, (refl, tt))));
  reason = All-from_recursion (λ b. IsTrue (is_value_byte b)) (codes "OK") (each_of (codes "OK") refl);
  fields = stored_good v h;
}

stored_whole : (v : List ℕ) → Each v → IsWholeResponse (head_bytes (stored_text v)) (stored_head v)
stored_whole v h = record {
  reads = (stored_is v h, sym (stored_bytes v) ∙ stored_printed v ∙ sym (append-nil (print_response (stored_head v))));
  few = omega arith;
  names = All-from_recursion (λ (f : Field). length f.name ≤ 65535) (stored_fields v) (omega arith, (omega arith, tt));
  status = omega arith;
}

pub stored_read : (id : List ℕ) → IsIdentifier id → IsRead (Stored id) 200 0
stored_read id i =
    let v = spelled_id id in
    let h = each_id id i in
    record {
      front = text_bytes (stored_text v);
      content = [];
      head = reply_head_of (stored_head v) (Length 0);
      decides = decides_head (text_bytes (stored_text v)) (stored_text v) (stored_head v) (Length 0)
          (record { text = record { blank = tt; full = stored_full v h; some = omega arith; last = inr refl }; short = (let e = ap length (stored_bytes v) in let k = stored_length v in let m = spelled_len id i in omega (arith, e, k, m)); spelled = refl })
          (record { few = omega arith; whole = stored_whole v h; kind_is = sym (ap (kind_of 200) (stored_fields_are v) ∙ stored_kind (trim_ows (codes " " ++ v))) });
      status_is = refl;
      body_is = refl;
      written = ap (λ (z : List ℕ). z ++ []) (stored_bytes v);
      long = refl;
    }

-- a reply that there is no room

abbrev full_lines : ℕ → List (List ℕ)
full_lines n = codes "HTTP/1.1 507 Insufficient Storage" ∷ type_line ∷ (codes "Content-Length: " ++ decimal n) ∷ []

abbrev full_fields : ℕ → List Field
full_fields n = field (codes "Content-Type") (codes " text/plain; charset=utf-8") ∷ field (codes "Content-Length") (codes " " ++ decimal n) ∷ []

abbrev full_head : ℕ → ResponseHead
full_head n = record { blank = []; minor = 1; digits = codes "507"; reason = Some (codes "Insufficient Storage"); line_end = crlf; fields = full_fields n; last = crlf }

full_printed : (n : ℕ) → flat_map ended (full_lines n) ++ codes "\r\n" ≡ print_response (full_head n)
unfolding print_response
full_printed n = simp append_assoc

abbrev full_entries : List ℕ → Entries FieldValue
full_entries v = (codes "content-type", plain_value (codes "text/plain; charset=utf-8") ∷ []) ∷ (codes "content-length", plain_value v ∷ []) ∷ []

full_fields_are : (n : ℕ) → fields_of (full_fields n) ≡ full_entries (trim_ows (codes " " ++ decimal n))
unfolding append_named trim_ows
full_fields_are n = refl

full_kind : (v : List ℕ) (n : ℕ) → are_length_digits v ≡ true → digits_value 10 v ≡ n → kind_of 507 (full_entries v) ≡ Ok (Length n)
full_kind v n e f = rw (e, f) refl

abbrev full_text : ℕ → HeadText
full_text n = record { blank = []; full = map with_cr (full_lines n); last = 13 ∷ [] }

full_bytes : (n : ℕ) → flat_map ended (full_lines n) ++ codes "\r\n" ≡ text_bytes (full_text n)
full_bytes n = ap (λ (z : List ℕ). z ++ codes "\r\n") (ended_lines (full_lines n))

full_length : (n : ℕ) → length (flat_map ended (full_lines n) ++ codes "\r\n") ≤ length (decimal n) + 200
full_length n = simp length-append (omega arith)

module _ (n : ℕ) (small : n < 2 ^ 32) where
  number : Each (decimal n)
  number = number_each n small

  full_full : AllByRecursion IsFullLine (map with_cr (full_lines n))
  full_full = (
    literal_line (codes "HTTP/1.1 507 Insufficient Storage") refl (omega arith),
    (
      literal_line type_line refl (omega arith),
      (full_line (codes "Content-Length: " ++ decimal n) (each_append (codes "Content-Length: ") (decimal n) (each_of (codes "Content-Length: ") refl) number) (let k = length-append (codes "Content-Length: ") (decimal n) in omega (arith, k)), tt),
    ),
  )

  full_good : All IsField (full_fields n)
  unfolding is_token_byte
  full_good = All-from_recursion IsField (full_fields n) (
    field_is (codes "Content-Type") (codes " text/plain; charset=utf-8") (omega arith) refl (each_of (codes " text/plain; charset=utf-8") refl),
    (field_is (codes "Content-Length") (codes " " ++ decimal n) (omega arith) refl (each_append (codes " ") (decimal n) (each_of (codes " ") refl) number), tt),
  )

  full_is : IsResponseHead (full_head n)
  full_is = record {
    minor = omega arith;
    digits = (refl, All-from_recursion (λ b. IsTrue (is_ascii_digit b)) (codes "507") (refl, (refl, (refl, tt))));
    reason = All-from_recursion (λ b. IsTrue (is_value_byte b)) (codes "Insufficient Storage") (each_of (codes "Insufficient Storage") refl);
    fields = full_good;
  }

  full_whole : IsWholeResponse (head_bytes (full_text n)) (full_head n)
  full_whole = record {
    reads = (full_is, sym (full_bytes n) ∙ full_printed n ∙ sym (append-nil (print_response (full_head n))));
    few = omega arith;
    names = All-from_recursion (λ (f : Field). length f.name ≤ 65535) (full_fields n) (omega arith, (omega arith, tt));
    status = omega arith;
  }

  full_decides : length (decimal n) ≤ 10 → DecidesReply (replied (reply_head_of (full_head n) (Length n))) (text_bytes (full_text n))
  full_decides few = decides_head (text_bytes (full_text n)) (full_text n) (full_head n) (Length n)
      (record { text = record { blank = tt; full = full_full; some = omega arith; last = inr refl }; short = (let e = ap length (full_bytes n) in let k = full_length n in omega (arith, e, k, few)); spelled = refl })
      (record { few = omega arith; whole = full_whole; kind_is = sym (ap (kind_of 507) (full_fields_are n) ∙ full_kind (trim_ows (codes " " ++ decimal n)) n (ap are_length_digits (number_trimmed n small) ∙ number_measured n small) (ap (digits_value 10) (number_trimmed n small) ∙ number_value n small)) })

-- why there is none
abbrev pub full_reason : Which → ℕ → List ℕ
full_reason which limit = codes "Full " ++ which_name which ++ codes " " ++ decimal limit

reason_short : (which : Which) → length (full_reason which (limit_of which)) ≤ 100
reason_short which = let d = decimal_short which in let n = name_short which in omega (arith, d, n, length-append (codes "Full " ++ which_name which ++ codes " ") (decimal (limit_of which)), length-append (codes "Full " ++ which_name which) (codes " "), length-append (codes "Full ") (which_name which))
  where
    name_short : (which : Which) → length (which_name which) ≤ 20
    name_short Resources = omega arith
    name_short Versions = omega arith
    name_short Elements = omega arith
    name_short Deletions = omega arith
    name_short Width = omega arith

    limit_small : (which : Which) → limit_of which < 2 ^ 32
    limit_small Resources = omega arith
    limit_small Versions = omega arith
    limit_small Elements = omega arith
    limit_small Deletions = omega arith
    limit_small Width = omega arith

    decimal_short : (which : Which) → length (decimal (limit_of which)) ≤ 10
    decimal_short which = number_len (limit_of which) (limit_small which)

five_hundred_seven : decimal 507 ≡ codes "507"
five_hundred_seven =
    decimal_step 507 (omega arith) (omega arith)
    ∙ ap (λ (z : List ℕ). z ++ 55 ∷ []) (decimal_step 50 (omega arith) (omega arith) ∙ ap (λ (z : List ℕ). z ++ 48 ∷ []) (decimal_digit 5 (omega arith)))

full_written : (reason : List ℕ) → reply_text false (Error 507 reason false) ≡ (flat_map ended (full_lines (length reason + 1)) ++ codes "\r\n") ++ (reason ++ codes "\n")
full_written reason = ap (λ (d : List ℕ). (flat_map ended ((codes "HTTP/1.1 " ++ d ++ codes " " ++ codes "Insufficient Storage") ∷ type_line ∷ (codes "Content-Length: " ++ decimal (length reason + 1)) ∷ []) ++ codes "\r\n") ++ (reason ++ codes "\n")) five_hundred_seven

pub full_read : (which : Which) → IsRead (Error 507 (full_reason which (limit_of which)) false) 507 (length (full_reason which (limit_of which)) + 1)
full_read which =
    let reason = full_reason which (limit_of which) in
    let n = length reason + 1 in
    let short = reason_short which in
    let small : n < 2 ^ 32 = omega (arith, short) in
    record {
      front = text_bytes (full_text n);
      content = reason ++ codes "\n";
      head = reply_head_of (full_head n) (Length n);
      decides = full_decides n small (number_len n small);
      status_is = refl;
      body_is = refl;
      written = full_written reason ∙ ap (λ (z : List ℕ). z ++ (reason ++ codes "\n")) (full_bytes n);
      long = length-append reason (codes "\n");
    }
