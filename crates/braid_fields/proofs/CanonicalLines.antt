-- The lines of a canonical spelling hold their fields.
use Rattle.std.proofs.Common.{◌≡◌, ℕ, suc, ◌<◌, ◌^◌, true, false, inr, Some, List, [], ◌∷◌, ◌++◌, length, get_or, codes, decimal, flat_map, refl, sym, ap, ◌∙◌, subst, arith, append_assoc, append-nil}
use Rattle.std.specs.List.{AllByRecursion}
use Rattle.std.proofs.lemmas.Bool.{and_parts, and_from, le-leb}
use Rattle.std.proofs.lemmas.Str.Parse.{IsNumeralModel, numerals_by_value, tells_all_ascii_digits}
use Rattle.std.proofs.lemmas.Fmt.{digits_decimal}
use Rattle.std.specs.Char.{is_ascii_digit}
use Rattle.std.specs.Str.{all_ascii_digits}
use Rattle.std.specs.Str.Parse.{digits_value}
use Rattle.braid_ids.specs.Identifiers.{IsPrintable, IsIdentifier, escaped, spelled_id, spelled_ids}
use Rattle.braid_ids.proofs.Spelled.{alone, after, escape_of}
use Rattle.braid_shelf.specs.ByteClasses.{Are, begins, is_blank, is_printable}
use Rattle.braid_shelf.proofs.Passing.{Are-append}
use Rattle.braid_change.specs.Spellings.{range_text}
use Rattle.braid_fields.specs.Lines.{ends}
use Rattle.braid_fields.specs.Fields.{IsName, is_in_value, IsPadded, field_of}
use Rattle.braid_fields.specs.Canonical.{version_line, parents_line, patches_line, length_line, range_line}
use Rattle.braid_fields.proofs.Padding.{ends_last}
use Rattle.braid_fields.proofs.Computed.{field_line}

-- a name, a colon, a space and a value
spaced_line : (name value : List ℕ) → IsName name → Are is_in_value value → begins is_blank value ≡ false → ends is_blank value ≡ false
    → field_of (name ++ 58 ∷ 32 ∷ (value ++ 13 ∷ 10 ∷ [])) ≡ Some (record { name = name; value = value })
spaced_line name value n v b e =
    let padded : IsPadded value (32 ∷ value) = record { before = 32 ∷ []; after = []; before_blank = (refl, tt); after_blank = tt; begins_so = b; ends_so = e; spelled = ap (λ x. 32 ∷ x) (sym (append-nil value)) } in
    field_line name value (name ++ 58 ∷ 32 ∷ (value ++ 13 ∷ 10 ∷ []))
    (record {
      content = name ++ 58 ∷ 32 ∷ value;
      end = 13 ∷ 10 ∷ [];
      field = record { padded = 32 ∷ value; is_name = n; value_bytes = v; is_padded = padded; spelled = refl };
      is_end = inr refl;
      spelled = sym (append_assoc name (58 ∷ 32 ∷ value) (13 ∷ 10 ∷ []));
    })

-- a name and a colon alone
bare_line : (name : List ℕ) → IsName name → field_of (name ++ 58 ∷ 13 ∷ 10 ∷ []) ≡ Some (record { name = name; value = [] })
bare_line name n =
    let padded : IsPadded [] [] = record { before = []; after = []; before_blank = tt; after_blank = tt; begins_so = refl; ends_so = refl; spelled = refl } in
    field_line name [] (name ++ 58 ∷ 13 ∷ 10 ∷ [])
    (record {
      content = name ++ 58 ∷ [];
      end = 13 ∷ 10 ∷ [];
      field = record { padded = []; is_name = n; value_bytes = tt; is_padded = padded; spelled = refl };
      is_end = inr refl;
      spelled = sym (append_assoc name (58 ∷ []) (13 ∷ 10 ∷ []));
    })

-- the bytes of spelled identifiers

pub are_printable : (bytes : List ℕ) → ((k : ℕ) → k < length bytes → IsPrintable (get_or bytes k 0)) → Are is_printable bytes
are_printable [] h = tt
are_printable (byte ∷ bytes) h =
    let first = h 0 (omega arith) in
    (and_from _ _ (le-leb 0x20 byte first.0) (le-leb byte 0x7e first.1), are_printable bytes (λ k l. h (suc k) (omega (arith, l))))

printable_value : (byte : ℕ) → is_printable byte ≡ true → is_in_value byte ≡ true
printable_value byte e = grind arith

escaped_value : (byte : ℕ) → is_printable byte ≡ true → Are is_in_value (escaped byte)
escaped_value byte h =
    elim (escape_of byte) [
      | alone n m is ↦ subst (Are is_in_value) (sym is) (printable_value byte h, tt)
      | after is ↦ subst (Are is_in_value) (sym is) (refl, (printable_value byte h, tt))
    ]

escaped_values : (bytes : List ℕ) → Are is_printable bytes → Are is_in_value (flat_map escaped bytes)
escaped_values [] h = tt
escaped_values (byte ∷ bytes) h = Are-append is_in_value (escaped byte) (flat_map escaped bytes) (escaped_value byte h.0) (escaped_values bytes h.1)

id_value : (id : List ℕ) → IsIdentifier id → Are is_in_value (spelled_id id)
id_value id h = (refl, Are-append is_in_value (flat_map escaped id) (34 ∷ []) (escaped_values id (are_printable id h.printable)) (refl, tt))

abbrev next_id : List ℕ → List ℕ
next_id other = 44 ∷ 32 ∷ spelled_id other

others_value : (ids : List (List ℕ)) → AllByRecursion IsIdentifier ids → Are is_in_value (flat_map next_id ids)
others_value [] h = tt
others_value (id ∷ ids) h = (refl, (refl, Are-append is_in_value (spelled_id id) (flat_map next_id ids) (id_value id h.0) (others_value ids h.1)))

quote_ends : (front : List ℕ) (ids : List (List ℕ)) → ends is_blank (front ++ 34 ∷ flat_map next_id ids) ≡ false
quote_ends front [] = ends_last is_blank front 34
quote_ends front (id ∷ ids) =
    let inner : 34 ∷ flat_map next_id (id ∷ ids) ≡ (34 ∷ 44 ∷ 32 ∷ 34 ∷ flat_map escaped id) ++ 34 ∷ flat_map next_id ids =
    ap (λ x. 34 ∷ 44 ∷ 32 ∷ 34 ∷ x) (append_assoc (flat_map escaped id) (34 ∷ []) (flat_map next_id ids)) in
    ap (λ x. ends is_blank (front ++ x)) inner ∙ ap (ends is_blank) (sym (append_assoc front (34 ∷ 44 ∷ 32 ∷ 34 ∷ flat_map escaped id) (34 ∷ flat_map next_id ids)))
    ∙ quote_ends (front ++ (34 ∷ 44 ∷ 32 ∷ 34 ∷ flat_map escaped id)) ids

pub version_field : (id : List ℕ) → IsIdentifier id → field_of (version_line id) ≡ Some (record { name = codes "Version"; value = spelled_id id })
version_field id h =
    spaced_line (codes "Version") (spelled_id id) (record { some = omega arith; bytes = (refl, (refl, (refl, (refl, (refl, (refl, (refl, tt))))))) }) (id_value id h) refl (ends_last is_blank (34 ∷ flat_map escaped id) 34)

parents_is_name : IsName (codes "Parents")
parents_is_name = record { some = omega arith; bytes = (refl, (refl, (refl, (refl, (refl, (refl, (refl, tt))))))) }

pub parents_field : (parents : List (List ℕ)) → AllByRecursion IsIdentifier parents → field_of (parents_line parents) ≡ Some (record { name = codes "Parents"; value = spelled_ids parents })
parents_field [] h = bare_line (codes "Parents") parents_is_name
parents_field (id ∷ ids) h =
    spaced_line (codes "Parents") (spelled_ids (id ∷ ids)) parents_is_name (Are-append is_in_value (spelled_id id) (flat_map next_id ids) (id_value id h.0) (others_value ids h.1)) refl
    (ap (λ x. ends is_blank (34 ∷ x)) (append_assoc (flat_map escaped id) (34 ∷ []) (flat_map next_id ids)) ∙ quote_ends (34 ∷ flat_map escaped id) ids)

-- the bytes of numbers

own : IsNumeralModel (λ ds. all_ascii_digits ds ≡ true) (digits_value 10)
own = numerals_by_value _ tells_all_ascii_digits

digit_value : (byte : ℕ) → is_ascii_digit byte ≡ true → is_in_value byte ≡ true
digit_value byte e = grind arith

digit_solid : (byte : ℕ) → is_ascii_digit byte ≡ true → is_blank byte ≡ false
digit_solid byte e = grind arith

digits_value_bytes : (digits : List ℕ) → all_ascii_digits digits ≡ true → Are is_in_value digits
digits_value_bytes [] h = tt
digits_value_bytes (d ∷ digits) h = let p = and_parts (is_ascii_digit d) (all_ascii_digits digits) h in (digit_value d p.0, digits_value_bytes digits p.1)

digits_begin : (digits : List ℕ) → all_ascii_digits digits ≡ true → begins is_blank digits ≡ false
digits_begin [] h = refl
digits_begin (d ∷ digits) h = digit_solid d (and_parts (is_ascii_digit d) (all_ascii_digits digits) h).0

digits_end : (digits : List ℕ) → all_ascii_digits digits ≡ true → ends is_blank digits ≡ false
digits_end [] h = refl
digits_end (d ∷ []) h = digit_solid d (and_parts (is_ascii_digit d) true h).0
digits_end (d ∷ e ∷ digits) h = digits_end (e ∷ digits) (and_parts (is_ascii_digit d) (all_ascii_digits (e ∷ digits)) h).1

pub decimal_digits : (n : ℕ) → n < 2 ^ 64 → all_ascii_digits (decimal n) ≡ true
decimal_digits n small = digits_decimal own n small

pub length_field : (n : ℕ) → n < 2 ^ 64 → field_of (length_line n) ≡ Some (record { name = codes "Content-Length"; value = decimal n })
length_field n small =
    let d = decimal_digits n small in
    spaced_line (codes "Content-Length") (decimal n) (record { some = omega arith; bytes = (refl, (refl, (refl, (refl, (refl, (refl, (refl, (refl, (refl, (refl, (refl, (refl, (refl, (refl, tt)))))))))))))) })
    (digits_value_bytes (decimal n) d) (digits_begin (decimal n) d) (digits_end (decimal n) d)

pub patches_field : (n : ℕ) → n < 2 ^ 64 → field_of (patches_line n) ≡ Some (record { name = codes "Patches"; value = decimal n })
patches_field n small =
    let d = decimal_digits n small in
    spaced_line (codes "Patches") (decimal n) (record { some = omega arith; bytes = (refl, (refl, (refl, (refl, (refl, (refl, (refl, tt))))))) }) (digits_value_bytes (decimal n) d) (digits_begin (decimal n) d) (digits_end (decimal n) d)

range_flat : (start end : ℕ) → range_text start end ≡ codes "text [" ++ (decimal start ++ 58 ∷ (decimal end ++ 93 ∷ []))
range_flat start end = simp append_assoc

range_bytes : (start end : ℕ) → start < 2 ^ 64 → end < 2 ^ 64 → Are is_in_value (range_text start end)
range_bytes start end s e =
    let behind : Are is_in_value (decimal start ++ 58 ∷ (decimal end ++ 93 ∷ [])) =
    Are-append is_in_value (decimal start) (58 ∷ (decimal end ++ 93 ∷ [])) (digits_value_bytes (decimal start) (decimal_digits start s))
    (refl, Are-append is_in_value (decimal end) (93 ∷ []) (digits_value_bytes (decimal end) (decimal_digits end e)) (refl, tt)) in
    let whole : Are is_in_value (codes "text [" ++ (decimal start ++ 58 ∷ (decimal end ++ 93 ∷ []))) = (refl, (refl, (refl, (refl, (refl, (refl, behind)))))) in
    subst (Are is_in_value) (sym (range_flat start end)) whole

range_ends : (start end : ℕ) → ends is_blank (range_text start end) ≡ false
range_ends start end =
    let last : codes "text [" ++ (decimal start ++ 58 ∷ (decimal end ++ 93 ∷ [])) ≡ (codes "text [" ++ (decimal start ++ 58 ∷ decimal end)) ++ 93 ∷ [] =
    ap (λ x. codes "text [" ++ x) (sym (append_assoc (decimal start) (58 ∷ decimal end) (93 ∷ []))) in
    ap (ends is_blank) (range_flat start end ∙ last) ∙ ends_last is_blank (codes "text [" ++ (decimal start ++ 58 ∷ decimal end)) 93

range_begins : (start end : ℕ) → begins is_blank (range_text start end) ≡ false
range_begins start end = ap (begins is_blank) (range_flat start end)

pub range_field : (start end : ℕ) → start < 2 ^ 64 → end < 2 ^ 64 → field_of (range_line start end) ≡ Some (record { name = codes "Content-Range"; value = range_text start end })
range_field start end s e =
    spaced_line (codes "Content-Range") (range_text start end) (record { some = omega arith; bytes = (refl, (refl, (refl, (refl, (refl, (refl, (refl, (refl, (refl, (refl, (refl, (refl, (refl, tt))))))))))))) })
    (range_bytes start end s e) (range_begins start end) (range_ends start end)
