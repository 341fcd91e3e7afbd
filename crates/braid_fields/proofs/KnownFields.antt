-- What one field more adds to the known fields.
use Rattle.std.proofs.Common.{◌≡◌, ℕ, Bool, true, false, cond, List, [], ◌∷◌, ◌++◌, length, map, filter, codes, bytes_eq, refl, sym, ap, ◌∙◌, arith, Result, Ok, Err, OnOk, length-append}
use Rattle.std.specs.Str.{str_to_ascii_lowercase, str_eq_ignore_ascii_case}
use Rattle.std.proofs.lemmas.Bool.{lt-ltb}
use Rattle.std.proofs.lemmas.Slice.Eq.{bytes_eq-Decides}
use Rattle.braid_fields.specs.declared.known_name.KnownName.{KnownName}
use Rattle.braid_fields.specs.declared.known_name.KnownName.TheVariants.{Version, Parents, MergeType, Patches, ContentLength, ContentRange, ContentEncoding, TransferEncoding, Other}
use Rattle.braid_ids.specs.declared.memory.Memory.{Memory}
use Rattle.braid_fields.specs.declared.parts.HeadFields.{HeadFields}
use Rattle.braid_fields.specs.Fields.{Field}
use Rattle.braid_fields.specs.Known.{has_name, values_of, is_there, known}
use Rattle.braid_fields.specs.KnownNames.{IsNamed, with_value}

abbrev added : Bool → List ℕ → List (List ℕ) → List (List ℕ)
added t value values = cond t (values ++ value ∷ []) values

values_more : (name : List ℕ) (fs : List Field) (f : Field) → values_of name (fs ++ f ∷ []) ≡ added (has_name name f) f.value (values_of name fs)
values_more name [] f = go (has_name name f)
  where
    go : (t : Bool) → map (λ (g : Field). g.value) (cond t (f ∷ []) []) ≡ added t f.value []
    go true = refl
    go false = refl
values_more name (g ∷ fs) f = go (has_name name g) (has_name name f) (values_more name fs f)
  where
    go : (s t : Bool) → values_of name (fs ++ f ∷ []) ≡ added t f.value (values_of name fs)
        → map (λ (h : Field). h.value) (cond s (g ∷ filter (has_name name) (fs ++ f ∷ [])) (filter (has_name name) (fs ++ f ∷ [])))
        ≡ added t f.value (map (λ (h : Field). h.value) (cond s (g ∷ filter (has_name name) fs) (filter (has_name name) fs)))
    go true true e = ap (λ (x : List (List ℕ)). g.value ∷ x) e
    go true false e = ap (λ (x : List (List ℕ)). g.value ∷ x) e
    go false t e = e

there_more : (t : Bool) (value : List ℕ) (values : List (List ℕ)) → is_there (added t value values) ≡ cond t true (is_there values)
there_more true value values = lt-ltb 0 (length (values ++ value ∷ [])) (omega (arith, length-append values (value ∷ [])))
there_more false value values = refl

abbrev with_lower : List ℕ → List ℕ → HeadFields → HeadFields
with_lower name value h = record {
  parts = record {
    version = added (bytes_eq name (str_to_ascii_lowercase (codes "Version"))) value h.parts.version;
    parents = added (bytes_eq name (str_to_ascii_lowercase (codes "Parents"))) value h.parts.parents;
    merge_type = added (bytes_eq name (str_to_ascii_lowercase (codes "Merge-Type"))) value h.parts.merge_type;
    patches = added (bytes_eq name (str_to_ascii_lowercase (codes "Patches"))) value h.parts.patches;
    length = added (bytes_eq name (str_to_ascii_lowercase (codes "Content-Length"))) value h.parts.length;
    range = added (bytes_eq name (str_to_ascii_lowercase (codes "Content-Range"))) value h.parts.range;
    encoding = added (bytes_eq name (str_to_ascii_lowercase (codes "Content-Encoding"))) value h.parts.encoding;
  };
  has_transfer_encoding = cond (bytes_eq name (str_to_ascii_lowercase (codes "Transfer-Encoding"))) true h.has_transfer_encoding;
}

known_so : (fs : List Field) (f : Field) → known (fs ++ f ∷ []) ≡ with_lower (str_to_ascii_lowercase f.name) f.value (known fs)
unfolding known
known_so fs f = λ i. record {
  parts = record {
    version = values_more (codes "Version") fs f i;
    parents = values_more (codes "Parents") fs f i;
    merge_type = values_more (codes "Merge-Type") fs f i;
    patches = values_more (codes "Patches") fs f i;
    length = values_more (codes "Content-Length") fs f i;
    range = values_more (codes "Content-Range") fs f i;
    encoding = values_more (codes "Content-Encoding") fs f i;
  };
  has_transfer_encoding = (ap is_there (values_more (codes "Transfer-Encoding") fs f) ∙ there_more (has_name (codes "Transfer-Encoding") f) f.value (values_of (codes "Transfer-Encoding") fs)) i;
}

lowered : (name known : List ℕ) → str_eq_ignore_ascii_case name known ≡ true → str_to_ascii_lowercase name ≡ str_to_ascii_lowercase known
lowered name known e = (bytes_eq-Decides (str_to_ascii_lowercase name) (str_to_ascii_lowercase known)).0 e

with_so : (k : KnownName) (name value : List ℕ) (h : HeadFields) → IsNamed k name → with_lower (str_to_ascii_lowercase name) value h ≡ with_value k value h
with_so Version name value h n = ap (λ (l : List ℕ). with_lower l value h) (lowered name (codes "Version") n)
with_so Parents name value h n = ap (λ (l : List ℕ). with_lower l value h) (lowered name (codes "Parents") n)
with_so MergeType name value h n = ap (λ (l : List ℕ). with_lower l value h) (lowered name (codes "Merge-Type") n)
with_so Patches name value h n = ap (λ (l : List ℕ). with_lower l value h) (lowered name (codes "Patches") n)
with_so ContentLength name value h n = ap (λ (l : List ℕ). with_lower l value h) (lowered name (codes "Content-Length") n)
with_so ContentRange name value h n = ap (λ (l : List ℕ). with_lower l value h) (lowered name (codes "Content-Range") n)
with_so ContentEncoding name value h n = ap (λ (l : List ℕ). with_lower l value h) (lowered name (codes "Content-Encoding") n)
with_so TransferEncoding name value h n = ap (λ (l : List ℕ). with_lower l value h) (lowered name (codes "Transfer-Encoding") n)
with_so Other name value h n = λ i. record {
  parts = record {
    version = added (n.0 i) value h.parts.version;
    parents = added (n.1 i) value h.parts.parents;
    merge_type = added (n.2 i) value h.parts.merge_type;
    patches = added (n.3 i) value h.parts.patches;
    length = added (n.4 i) value h.parts.length;
    range = added (n.5 i) value h.parts.range;
    encoding = added (n.6 i) value h.parts.encoding;
  };
  has_transfer_encoding = cond (n.7 i) true h.has_transfer_encoding;
}

-- one field more
pub known_more : (k : KnownName) (name value : List ℕ) (h new : HeadFields) → IsNamed k name → new ≡ with_value k value h → (fs : List Field) → h ≡ known fs → new ≡ known (fs ++ record { name = name; value = value } ∷ [])
known_more k name value h new n e fs s =
    e ∙ ap (λ (x : HeadFields). with_value k value x) s ∙ sym (with_so k name value (known fs) n) ∙ sym (known_so fs (record { name = name; value = value }))

pub field_added : (r : Result (Unit {0}) Memory) (k : KnownName) (name value : List ℕ) (h new : HeadFields) → IsNamed k name → OnOk r (new ≡ with_value k value h)
    → OnOk r ((fs : List Field) → h ≡ known fs → new ≡ known (fs ++ record { name = name; value = value } ∷ []))
field_added (Ok x) k name value h new n e = λ fs s. known_more k name value h new n e fs s
field_added (Err x) k name value h new n e = tt
