-- Field lines and status lines, as lines of bytes.
use Rattle.std.proofs.Common.{◌≡◌, ℕ, true, List, [], ◌∷◌, ◌++◌, Some, sym, ap, ◌∙◌, append_assoc, inl, inr}
use Rattle.braid_ids.specs.Lists.{Lacks}
use Rattle.braid_fields.specs.Fields.{Field, field_of, IsFieldLine}
use Rattle.braid_fields.specs.Statuses.{is_status, is_good_status, IsStatusLine}
use Rattle.braid_fields.proofs.FieldReading.{lacks_lf}
use Rattle.braid_fields.proofs.Computed.{field_law}
use Rattle.braid_fields.proofs.StatusReading.{good_law, good_taken}
use Rattle.braid_grammar.specs.Lines.{IsLine}

lacks_append : (byte : ℕ) (a b : List ℕ) → Lacks byte a → Lacks byte b → Lacks byte (a ++ b)
lacks_append byte [] b h k = k
lacks_append byte (x ∷ a) b h k = (h.0, lacks_append byte a b h.1 k)

-- a field line has no LF but its last byte
pub field_line_is_line : (name value line : List ℕ) → IsFieldLine name value line → IsLine line
field_line_is_line name value line k =
    let lacks : Lacks 10 k.content = lacks_lf name value k.content k.field in
    elim k.is_end [
      | inl e ↦ record { inside = k.content; lacks = lacks; ends = k.spelled ∙ ap (λ t. k.content ++ t) e }
      | inr e ↦ record {
        inside = k.content ++ 13 ∷ [];
        lacks = lacks_append 10 k.content (13 ∷ []) lacks (λ e. cc, tt);
        ends = k.spelled ∙ ap (λ t. k.content ++ t) e ∙ sym (append_assoc k.content (13 ∷ []) (10 ∷ []));
      }
    ]

pub field_read : (f : Field) (line : List ℕ) → field_of line ≡ Some f → IsFieldLine f.name f.value line
field_read f line e = (field_law line f).0 e

pub field_told : (f : Field) (line : List ℕ) → IsFieldLine f.name f.value line → field_of line ≡ Some f
field_told f line k = (field_law line f).1 k

pub status_told : (line : List ℕ) → IsStatusLine line → (is_status line ≡ true) × (is_good_status line ≡ true)
status_told line k = let g = (good_law line).1 k in (good_taken line g, g)
