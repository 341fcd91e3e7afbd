-- A field is read in one way from a content.
use Rattle.std.proofs.Common.{◌≡◌, ◌≢◌, ℕ, Bool, true, false, List, [], ◌∷◌, ◌++◌, refl, sym, ◌∙◌, subst}
use Rattle.braid_ids.specs.Lists.{Lacks}
use Rattle.braid_ids.proofs.Splits.{lacks_append, one_split}
use Rattle.braid_shelf.specs.ByteClasses.{Are, is_blank}
use Rattle.braid_fields.specs.Fields.{is_in_name, IsName, is_in_value, IsPadded, IsField}
use Rattle.braid_fields.proofs.Padding.{padded_same}

passing_lacks : (test : ℕ → Bool) (byte : ℕ) → test byte ≡ false → (bytes : List ℕ) → Are test bytes → Lacks byte bytes
passing_lacks test byte n [] h = tt
passing_lacks test byte n (x ∷ bytes) h = (λ e. (let k : test byte ≡ true = subst (λ y. test y ≡ true) e h.0 in cc), passing_lacks test byte n bytes h.1)

-- a byte that is neither of a name nor of a value, no blank and no colon stands nowhere in a content
field_lacks : (byte : ℕ) → is_in_name byte ≡ false → is_in_value byte ≡ false → is_blank byte ≡ false → 58 ≢ byte → (name value content : List ℕ) → IsField name value content → Lacks byte content
field_lacks byte n v b c name value content f =
    let p = f.is_padded in
    let inner : Lacks byte (p.before ++ (value ++ p.after)) =
    lacks_append byte p.before (value ++ p.after) (passing_lacks is_blank byte b p.before p.before_blank)
    (lacks_append byte value p.after (passing_lacks is_in_value byte v value f.value_bytes) (passing_lacks is_blank byte b p.after p.after_blank)) in
    let padded : Lacks byte f.padded = subst (Lacks byte) (sym p.spelled) inner in
    subst (Lacks byte) (sym f.spelled) (lacks_append byte name (58 ∷ f.padded) (passing_lacks is_in_name byte n name f.is_name.bytes) (c, padded))

pub lacks_lf : (name value content : List ℕ) → IsField name value content → Lacks 10 content
lacks_lf name value content f = field_lacks 10 refl refl refl (λ e. cc) name value content f

pub lacks_cr : (name value content : List ℕ) → IsField name value content → Lacks 13 content
lacks_cr name value content f = field_lacks 13 refl refl refl (λ e. cc) name value content f

pub name_lacks : (name value content : List ℕ) → IsField name value content → Lacks 58 name
name_lacks name value content f = passing_lacks is_in_name 58 refl name f.is_name.bytes

-- a field's content is split at its first colon
pub colon_split : (left right name value content : List ℕ) → Lacks 58 left → content ≡ left ++ 58 ∷ right → (f : IsField name value content) → (left ≡ name) × (right ≡ f.padded)
colon_split left right name value content l e f = one_split 58 left right name f.padded l (name_lacks name value content f) (sym e ∙ f.spelled)

-- what is found of a field that is split at its first colon
pub name_found : (name value left right content : List ℕ) → IsField name value content → Lacks 58 left → content ≡ left ++ 58 ∷ right → IsName left
name_found name value left right content f l e = subst IsName (sym (colon_split left right name value content l e f).0) f.is_name

pub value_found : (name value left right found content : List ℕ) → IsField name value content → Lacks 58 left → content ≡ left ++ 58 ∷ right → IsPadded found right → Are is_in_value found
value_found name value left right found content f l e p =
    let k = colon_split left right name value content l e f in
    subst (Are is_in_value) (padded_same value found right (subst (IsPadded value) (sym k.1) f.is_padded) p) f.value_bytes
