-- The content of a PUT of patches is their spellings, each after a gap, and a gap behind them; and it is short.
use Rattle.std.proofs.Common.{◌≡◌, ℕ, ◌+◌, ◌*◌, ◌<◌, ◌≤◌, ◌^◌, true, List, [], ◌∷◌, ◌++◌, length, flat_map, codes, decimal, encode_utf8_all, refl, sym, ap, subst, ◌∙◌, append_assoc, arith, length-append}
use Rattle.std.proofs.lemmas.List.{append-nil}
use Rattle.std.specs.Str.{all_scalars}
use Rattle.braid_change.specs.declared.patch.Patch.{Patch}
use Rattle.braid_change.specs.Changes.{patches_content, AreListed, AreNumbered, HaveScalars}
use Rattle.braid_change.specs.Spellings.{range_text, patch_text}
use Rattle.braid_fields.specs.Canonical.{length_line, range_line, patch_fields, plan_of_patch}
use Rattle.braid_fields.proofs.CanonicalLines.{length_field, range_field}
use Rattle.braid_fields.proofs.CanonicalHeads.{canonical_patch}
use Rattle.braid_grammar.specs.Lines.{join}
use Rattle.braid_grammar.specs.Readings.{patch_len}
use Rattle.braid_grammar.specs.Streams.{IsGap, no_line, one_more, HoldsField, HoldFields, IsFields, IsContent, SpellsPatch, SpellPatches}
use Rattle.braid_fields.specs.Fields.{Field}
use Rattle.braid_grammar.proofs.FieldLines.{field_read}
use Rattle.braid_grammar.proofs.Readers.{limit_is}
use Rattle.braid_grammar.proofs.Lengths.{number_len}

-- the lines of a head, and an empty line
abbrev head_of_lines : List (List ℕ) → List ℕ
head_of_lines lines = join lines ++ codes "\r\n"

fields_of_lines : (fs : List Field) (lines : List (List ℕ)) → 1 ≤ length lines → HoldFields fs lines → IsFields fs (head_of_lines lines)
fields_of_lines fs lines s h = record { lines = lines; last = codes "\r\n"; some = s; fields = h; empty = refl; spelled = refl }

around_len : (a b c : List ℕ) → length (a ++ (b ++ c)) ≡ length a + length b + length c
around_len a b c = omega (arith, length-append a (b ++ c), length-append b c)

two_len : (a b last : List ℕ) → length (join (a ∷ b ∷ []) ++ last) ≡ length a + length b + length last
two_len a b last = omega (arith, length-append (a ++ (b ++ [])) last, length-append a (b ++ []), length-append b [])

-- an empty line, and more of a gap
crlf_gap : (rest : List ℕ) → IsGap rest → IsGap (codes "\r\n" ++ rest)
crlf_gap rest k = one_more (codes "\r\n") rest refl k

pub content_is : (text : List ℕ) → all_scalars text ≡ true → IsContent (length (encode_utf8_all text)) text (encode_utf8_all text)
content_is text s = record { len = refl; is_text = record { scalar = s; spelled = refl } }

-- the head of a patch and its content
abbrev patch_front : Patch → List ℕ
patch_front p = head_of_lines (length_line (patch_len p) ∷ range_line p.start p.end ∷ []) ++ encode_utf8_all p.text

regroup_patch : (l d c r x e : List ℕ) → (((l ++ d) ++ (c ++ r)) ++ x) ++ (((c ++ c) ++ e) ++ c) ≡ ((join ((l ++ (d ++ c)) ∷ (r ++ (x ++ c)) ∷ []) ++ c) ++ e) ++ c
regroup_patch l d c r x e = simp append_assoc

patch_is : (p : Patch) → patch_text p ≡ patch_front p ++ codes "\r\n"
patch_is p = regroup_patch (codes "Content-Length: ") (decimal (patch_len p)) (codes "\r\n") (codes "Content-Range: ") (range_text p.start p.end) (encode_utf8_all p.text)

range_len : (s e : ℕ) → s < 2 ^ 32 → e < 2 ^ 32 → length (range_text s e) ≤ 28
range_len s e h k =
    omega (arith, length-append (codes "text [" ++ decimal s ++ codes ":" ++ decimal e) (codes "]"), length-append (codes "text [" ++ decimal s ++ codes ":") (decimal e), around_len (codes "text [") (decimal s) (codes ":"), number_len s h, number_len e k)

-- a head has at most 77 bytes
front_len : (p : Patch) → p.start ≤ p.end → p.end < 2 ^ 32 → patch_len p < 2 ^ 32 → length (head_of_lines (length_line (patch_len p) ∷ range_line p.start p.end ∷ [])) ≤ 77
front_len p b c small =
    let start : p.start < 2 ^ 32 = omega arith in
    omega (arith, two_len (length_line (patch_len p)) (range_line p.start p.end) (codes "\r\n"), around_len (codes "Content-Length: ") (decimal (patch_len p)) (codes "\r\n"), around_len (codes "Content-Range: ") (range_text p.start p.end) (codes "\r\n"), number_len (patch_len p) small, range_len p.start p.end start c)

patch_spelled : (used before : ℕ) (p : Patch) → before ≤ p.start → p.start ≤ p.end → p.end < 2 ^ 32 → all_scalars p.text ≡ true → used + patch_len p ≤ 1_048_576 → SpellsPatch used before p (patch_front p)
patch_spelled used before p a b c s d =
    let n : ℕ = patch_len p in
    let small : n < 2 ^ 32 = omega arith in
    let length_is : HoldsField (record { name = codes "Content-Length"; value = decimal n }) (length_line n) = field_read _ (length_line n) (length_field n (omega arith)) in
    let range_is : HoldsField (record { name = codes "Content-Range"; value = range_text p.start p.end }) (range_line p.start p.end) = field_read _ (range_line p.start p.end) (range_field p.start p.end (omega arith) (omega arith)) in
    record {
      fields = patch_fields p;
      plan = plan_of_patch p;
      head = head_of_lines (length_line n ∷ range_line p.start p.end ∷ []);
      content = encode_utf8_all p.text;
      is_head = record {
        is_fields = fields_of_lines (patch_fields p) (length_line n ∷ range_line p.start p.end ∷ []) (omega arith) (length_is, (range_is, tt));
        short = omega (arith, limit_is, front_len p b c small);
      };
      judged = canonical_patch used before p a b c d;
      range = (refl, refl);
      is_content = content_is p.text s;
      spelled = refl;
    }

-- patches with a gap before the first, and an empty line before each later one
abbrev pub fronts : List ℕ → List Patch → List ℕ
fronts gap [] = []
fronts gap (p ∷ ps) = gap ++ (patch_front p ++ fronts (codes "\r\n") ps)

-- what is left behind the last of them
abbrev pub last_gap : List ℕ → List Patch → List ℕ
last_gap gap [] = gap
last_gap gap (p ∷ ps) = last_gap (codes "\r\n") ps

pub last_is_gap : (gap : List ℕ) (ps : List Patch) → IsGap gap → IsGap (last_gap gap ps)
last_is_gap gap [] k = k
last_is_gap gap (p ∷ ps) k = last_is_gap (codes "\r\n") ps (crlf_gap [] no_line)

pub fronts_are : (gap : List ℕ) (ps : List Patch) → gap ++ flat_map patch_text ps ≡ fronts gap ps ++ last_gap gap ps
fronts_are gap [] = append-nil gap
fronts_are gap (p ∷ ps) =
    ap (λ t. gap ++ (t ++ flat_map patch_text ps)) (patch_is p)
    ∙ ap (λ t. gap ++ t) (append_assoc (patch_front p) (codes "\r\n") (flat_map patch_text ps))
    ∙ ap (λ t. gap ++ (patch_front p ++ t)) (fronts_are (codes "\r\n") ps)
    ∙ ap (λ t. gap ++ t) (sym (append_assoc (patch_front p) (fronts (codes "\r\n") ps) (last_gap (codes "\r\n") ps)))
    ∙ sym (append_assoc gap (patch_front p ++ fronts (codes "\r\n") ps) (last_gap (codes "\r\n") ps))

pub fronts_spelled : (used before : ℕ) (gap : List ℕ) (ps : List Patch) → IsGap gap → AreListed before ps → AreNumbered ps → HaveScalars ps → used + length (patches_content ps) ≤ 1_048_576 → SpellPatches used before ps (fronts gap ps)
fronts_spelled used before gap [] g l n s d = refl
fronts_spelled used before gap (p ∷ ps) g l n s d =
    let len = length-append (encode_utf8_all p.text) (patches_content ps) in
    record {
      gap = gap;
      first = patch_front p;
      rest = fronts (codes "\r\n") ps;
      is_gap = g;
      is_first = patch_spelled used before p l.0 l.1 n.0 s.0 (omega (arith, len));
      is_rest = fronts_spelled (used + patch_len p) p.end (codes "\r\n") ps (crlf_gap [] no_line) l.2 n.1 s.1 (omega (arith, len));
      spelled = refl;
    }

-- the spellings of patches are little longer than their contents
pub texts_len : (before : ℕ) (ps : List Patch) → AreListed before ps → AreNumbered ps → length (patches_content ps) ≤ 1_048_576 → length (flat_map patch_text ps) ≤ length (patches_content ps) + 79 * length ps
texts_len before [] l n d = omega arith
texts_len before (p ∷ ps) l n d =
    let len = length-append (encode_utf8_all p.text) (patches_content ps) in
    let small : patch_len p < 2 ^ 32 = omega (arith, len, d) in
    let head = head_of_lines (length_line (patch_len p) ∷ range_line p.start p.end ∷ []) in
    omega (arith, len, d, texts_len p.end ps l.2 n.1 (omega (arith, len, d)), length-append (patch_text p) (flat_map patch_text ps), ap length (patch_is p), length-append (patch_front p) (codes "\r\n"), length-append head (encode_utf8_all p.text), front_len p l.1 n.0 small)

pub gap_behind : (g h : List ℕ) → IsGap g → IsGap h → IsGap (g ++ h)
gap_behind g h no_line k = k
gap_behind g h (one_more l rest e i) k = subst IsGap (sym (append_assoc l rest h)) (one_more l (rest ++ h) e (gap_behind rest h i k))
