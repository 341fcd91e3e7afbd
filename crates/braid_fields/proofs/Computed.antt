-- The field that is computed of a line is the field of that line.
use Rattle.std.proofs.Common.{◌≡◌, ℕ, ◌==◌, ◌&&◌, not, Bool, true, false, cond, inl, inr, ◌↔◌, Option, Some, None, MatchOption, option_map, append_assoc, List, [], ◌∷◌, ◌++◌, length, refl, sym, ap, ◌∙◌, subst, eqb-true}
use Rattle.std.proofs.lemmas.Bool.{and_parts, and_from, ltb-true, lt-ltb, ne_eqb}
use Rattle.std.proofs.lemmas.List.{append_cancel_right, nil_from_length}
use Rattle.std.specs.List.{list_all}
use Rattle.braid_ids.specs.Lists.{Lacks}
use Rattle.braid_ids.proofs.Splits.{lacks_split}
use Rattle.braid_shelf.specs.ByteClasses.{Are, begins, is_blank}
use Rattle.braid_shelf.specs.Reading.{front_of, after}
use Rattle.braid_shelf.proofs.Passing.{front_after, after_stops, front_is, after_is}
use Rattle.braid_fields.specs.Lines.{IsLineEnd, ends, ends_line, content_of}
use Rattle.braid_fields.specs.Fields.{is_in_name, IsName, is_in_value, IsPadded, IsField, IsFieldLine, Field, is_name, without_end, trimmed, is_no_colon, field_from, field_in, field_of}
use Rattle.braid_fields.specs.Cuts.{EndsInBlanks, CutsEnd}
use Rattle.braid_fields.proofs.Padding.{all_are, are_all, padded_same, both_ends, ends_last}
use Rattle.braid_fields.proofs.FieldReading.{lacks_lf, lacks_cr, name_lacks}
use Rattle.braid_fields.proofs.Contents.{content_cut, content_is, line_ends}

blank_end : (byte : ℕ) (bytes front : List ℕ) → list_all is_blank (byte ∷ bytes) ≡ false → EndsInBlanks bytes front → ends is_blank (byte ∷ front) ≡ false
blank_end byte bytes [] n e = go (is_blank byte) refl
  where
    go : (t : Bool) → is_blank byte ≡ t → t ≡ false
    go false h = refl
    go true h = sym (ap (λ (x : Bool). x && list_all is_blank bytes) h ∙ are_all is_blank bytes (subst (Are is_blank) (sym e.cut) e.are_blank)) ∙ n
blank_end byte bytes (x ∷ front) n e = e.stops

pub ends_cut : (bytes : List ℕ) → EndsInBlanks bytes (without_end bytes)
ends_cut [] = record { blanks = []; are_blank = tt; stops = refl; cut = refl }
ends_cut (byte ∷ bytes) = go (list_all is_blank (byte ∷ bytes)) refl (ends_cut bytes)
  where
    go : (t : Bool) → list_all is_blank (byte ∷ bytes) ≡ t → EndsInBlanks bytes (without_end bytes) → EndsInBlanks (byte ∷ bytes) (cond t [] (byte ∷ without_end bytes))
    go true h later = record { blanks = byte ∷ bytes; are_blank = all_are is_blank (byte ∷ bytes) h; stops = refl; cut = refl }
    go false h later = record { blanks = later.blanks; are_blank = later.are_blank; stops = blank_end byte bytes (without_end bytes) h later; cut = ap (λ x. byte ∷ x) later.cut }

pub trimmed_padded : (bytes : List ℕ) → IsPadded (trimmed bytes) bytes
trimmed_padded bytes =
    both_ends bytes (after is_blank bytes) (trimmed bytes) refl (ends_cut (after is_blank bytes))

name_is : (name : List ℕ) → is_name name ≡ true → IsName name
name_is name e = let p = and_parts _ (list_all is_in_name name) e in record { some = ltb-true 0 (length name) p.0; bytes = all_are is_in_name name p.1 }

is_name_of : (name : List ℕ) → IsName name → is_name name ≡ true
is_name_of name n = and_from _ _ (lt-ltb 0 (length name) n.some) (are_all is_in_name name n.bytes)

no_colon : (byte : ℕ) → is_no_colon byte ≡ false → byte ≡ 58
no_colon byte e = eqb-true byte 58 (go (byte == 58) e)
  where
    go : (t : Bool) → not t ≡ false → t ≡ true
    go true e = refl
    go false e = absurd cc

lacks_colon : (bytes : List ℕ) → Lacks 58 bytes → Are is_no_colon bytes
lacks_colon [] h = tt
lacks_colon (byte ∷ bytes) h = (ap not (ne_eqb byte 58 h.0), lacks_colon bytes h.1)

from_field : (content name rest : List ℕ) (f : Field) → name ++ rest ≡ content → begins is_no_colon rest ≡ false → field_from name rest ≡ Some f → IsField f.name f.value content
from_field content name [] f w s e = absurd cc
from_field content name (colon ∷ padded) f w s e = go (is_name name && list_all is_in_value (trimmed padded)) refl e
  where
    go : (t : Bool) → is_name name && list_all is_in_value (trimmed padded) ≡ t → cond t (Some (record { name = name; value = trimmed padded })) None ≡ Some f → IsField f.name f.value content
    go true h e =
        let same : record { name = name; value = trimmed padded } ≡ f = cc in
        let p = and_parts (is_name name) (list_all is_in_value (trimmed padded)) h in
        let found : IsField name (trimmed padded) content =
        record {
          padded = padded;
          is_name = name_is name p.0;
          value_bytes = all_are is_in_value (trimmed padded) p.1;
          is_padded = trimmed_padded padded;
          spelled = sym w ∙ ap (λ (x : ℕ). name ++ x ∷ padded) (no_colon colon s);
        } in
        subst (λ (g : Field). IsField g.name g.value content) same found
    go false h e = absurd cc

in_content : (content : List ℕ) (f : Field) → field_in content ≡ Some f → IsField f.name f.value content
in_content content f e = from_field content (front_of is_no_colon content) (after is_no_colon content) f (front_after is_no_colon content) (after_stops is_no_colon content) e

abbrev some_field : List ℕ → List ℕ → Option Field
some_field name value = Some (record { name = name; value = value })

from_parts : (name value padded : List ℕ) → IsName name → Are is_in_value value → IsPadded value padded → field_from name (58 ∷ padded) ≡ some_field name value
from_parts name value padded n v p =
    let same : trimmed padded ≡ value = padded_same (trimmed padded) value padded (trimmed_padded padded) p in
    let test : is_name name && list_all is_in_value value ≡ true = and_from _ _ (is_name_of name n) (are_all is_in_value value v) in
    ap (λ (x : List ℕ). cond (is_name name && list_all is_in_value x) (some_field name x) None) same ∙ ap (λ (t : Bool). cond t (some_field name value) None) test

of_content : (name value content : List ℕ) → IsField name value content → field_in content ≡ Some (record { name = name; value = value })
of_content name value content f =
    let colon : Are is_no_colon name = lacks_colon name (name_lacks name value content f) in
    let front : front_of is_no_colon content ≡ name = ap (front_of is_no_colon) f.spelled ∙ front_is is_no_colon name (58 ∷ f.padded) colon refl in
    let back : after is_no_colon content ≡ 58 ∷ f.padded = ap (after is_no_colon) f.spelled ∙ after_is is_no_colon name (58 ∷ f.padded) colon refl in
    ap (λ x. field_from x (after is_no_colon content)) front ∙ ap (field_from name) back ∙ from_parts name value f.padded f.is_name f.value_bytes f.is_padded

line_field : (line : List ℕ) (f : Field) → field_of line ≡ Some f → IsFieldLine f.name f.value line
unfolding field_of
line_field line f e = go (ends_line line) refl e
  where
    go : (t : Bool) → ends_line line ≡ t → cond t (field_in (content_of line)) None ≡ Some f → IsFieldLine f.name f.value line
    go true h e =
        let c = content_cut line h in
        record { content = content_of line; end = c.0; field = in_content (content_of line) f e; is_end = c.1; spelled = c.2 }
    go false h e = absurd cc

pub field_line : (name value line : List ℕ) → IsFieldLine name value line → field_of line ≡ Some (record { name = name; value = value })
unfolding field_of
field_line name value line f =
    let ended : ends_line line ≡ true = ap ends_line f.spelled ∙ line_ends f.content f.end f.is_end in
    let inside : content_of line ≡ f.content = ap content_of f.spelled ∙ content_is f.content f.end (lacks_lf name value f.content f.field) (lacks_cr name value f.content f.field) f.is_end in
    ap (λ (t : Bool). cond t (field_in (content_of line)) None) ended ∙ ap field_in inside ∙ of_content name value f.content f.field

-- the field that is computed of a line is the field of that line, and none is computed of another
pub field_law : (line : List ℕ) (f : Field) → field_of line ≡ Some f ↔ IsFieldLine f.name f.value line
field_law line f = (line_field line f, field_line f.name f.value line)

-- the line of a content and what stood before its LF
line_of : (name value line front content : List ℕ) → IsField name value content → line ≡ front ++ 10 ∷ [] → CutsEnd front content → IsFieldLine name value line
line_of name value line front content f e (inl h) =
    record { content = content; end = 13 ∷ 10 ∷ []; field = f; is_end = inr refl; spelled = e ∙ ap (λ x. x ++ 10 ∷ []) h ∙ append_assoc content (13 ∷ []) (10 ∷ []) }
line_of name value line front content f e (inr h) = record { content = content; end = 10 ∷ []; field = f; is_end = inl refl; spelled = e ∙ ap (λ x. x ++ 10 ∷ []) h.0 }

-- the content of the line of a field
of_line : (name value line front content : List ℕ) → IsFieldLine name value line → line ≡ front ++ 10 ∷ [] → CutsEnd front content → IsField name value content
of_line name value line front content f e c = subst (IsField name value) (go f.is_end c) f.field
  where
    lacks : Lacks 13 f.content
    lacks = lacks_cr name value f.content f.field

    go : IsLineEnd f.end → CutsEnd front content → f.content ≡ content
    go (inl l) c =
        let same : front ≡ f.content = append_cancel_right front f.content (10 ∷ []) (sym e ∙ f.spelled ∙ ap (λ x. f.content ++ x) l) in
        elim c [ inl h ↦ absurd (lacks_split 13 f.content content [] lacks (sym same ∙ h)) | inr h ↦ sym same ∙ h.0 ]
    go (inr l) c =
        let same : front ≡ f.content ++ 13 ∷ [] = append_cancel_right front (f.content ++ 13 ∷ []) (10 ∷ []) (sym e ∙ f.spelled ∙ ap (λ x. f.content ++ x) l ∙ sym (append_assoc f.content (13 ∷ []) (10 ∷ []))) in
        elim c [ inl h ↦ append_cancel_right f.content content (13 ∷ []) (sym same ∙ h) | inr h ↦ absurd (h.1 f.content same) ]

-- what is read of a line that is split off at its LF and its CR
pub field_read : {X : Type 0} (view : X → Field) (r : Option X) (line front content : List ℕ) → line ≡ front ++ 10 ∷ [] → CutsEnd front content
    → MatchOption r ((name value : List ℕ) → IsField name value content → ⊥) (λ x. IsField (view x).name (view x).value content) → option_map view r ≡ field_of line
field_read view (Some x) line front content e c h = sym (field_line (view x).name (view x).value line (line_of (view x).name (view x).value line front content h e c))
field_read view None line front content e c h = go (field_of line) refl
  where
    go : (o : Option Field) → field_of line ≡ o → None ≡ o
    go None k = refl
    go (Some f) k = absurd (h f.name f.value (of_line f.name f.value line front content (line_field line f k) e c))

-- a line that does not end in LF has no field
pub no_line : (line : List ℕ) → ends_line line ≡ false → field_of line ≡ None
unfolding field_of
no_line line e = ap (λ (t : Bool). cond t (field_in (content_of line)) None) e

pub no_bytes : (line : List ℕ) → length line ≡ 0 → None ≡ field_of line
no_bytes line e = sym (no_line line (ap ends_line (nil_from_length line e)))

pub other_end : (line front : List ℕ) (last : ℕ) → line ≡ front ++ last ∷ [] → (last ≡ 10 → ⊥) → None ≡ field_of line
other_end line front last e n = sym (no_line line (ap ends_line e ∙ ends_last (λ byte. byte == 10) front last ∙ ne_eqb last 10 n))
