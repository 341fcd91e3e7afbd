-- What the grammar of streams needs of lines and heads.
use Rattle.std.proofs.Common.{◌≡◌, ◌≢◌, ℕ, Bool, true, false, inl, inr, Some, List, [], ◌∷◌, ◌++◌, codes, refl, sym, ap, ◌∙◌, subst, append_assoc, arith}
use Rattle.braid_shelf.specs.ByteClasses.{Are}
use Rattle.braid_shelf.specs.Reading.{after}
use Rattle.braid_shelf.proofs.Passing.{after_is}
use Rattle.braid_fields.specs.Lines.{is_empty_line}
use Rattle.braid_fields.specs.Fields.{is_in_name, Field, IsFieldLine, field_of}
use Rattle.braid_fields.specs.Statuses.{BeginsStatus, is_status}
use Rattle.braid_fields.proofs.Contents.{not_empty}
use Rattle.braid_fields.proofs.Computed.{field_law}
use Rattle.braid_fields.proofs.StatusReading.{taken_law}

-- a field line begins with its name and a colon
record Named (line : List ℕ) : Type 0 where
  first : ℕ
  name : List ℕ
  rest : List ℕ
  in_name : is_in_name first ≡ true
  more : Are is_in_name name
  cut : line ≡ (first ∷ name) ++ 58 ∷ rest

named : (line : List ℕ) (f : Field) → field_of line ≡ Some f → Named line
named line f e = go f.name ((field_law line f).0 e)
  where
    go : (name : List ℕ) → IsFieldLine name f.value line → Named line
    go [] l = absurd (let s = l.field.is_name.some in omega arith)
    go (first ∷ name) l = record {
      first = first;
      name = name;
      rest = l.field.padded ++ l.end;
      in_name = l.field.is_name.bytes.0;
      more = l.field.is_name.bytes.1;
      cut = l.spelled ∙ ap (λ x. x ++ l.end) l.field.spelled ∙ append_assoc (first ∷ name) (58 ∷ l.field.padded) l.end;
    }

unlike : (test : ℕ → Bool) (a b : ℕ) → test a ≡ true → test b ≡ false → a ≢ b
unlike test a b s t e = let k : test b ≡ true = subst (λ x. test x ≡ true) e s in cc

apart : (a b : ℕ) (x y line : List ℕ) → a ≢ b → line ≡ a ∷ x → line ≡ b ∷ y → ⊥
apart a b x y line n e f = n (let k : a ∷ x ≡ b ∷ y = sym e ∙ f in cc)

-- no field line is empty
pub field_not_empty : (line : List ℕ) (f : Field) → field_of line ≡ Some f → is_empty_line line ≡ false
field_not_empty line f e =
    let n = named line f e in
    ap is_empty_line n.cut ∙ not_empty n.first (n.name ++ 58 ∷ n.rest) (unlike is_in_name n.first 10 n.in_name refl) (unlike is_in_name n.first 13 n.in_name refl)

-- no field line is taken for a status line
pub field_not_status : (line : List ℕ) (f : Field) → field_of line ≡ Some f → is_status line ≡ false
field_not_status line f e = go (is_status line) refl
  where
    n : Named line
    n = named line f e

    behind : after is_in_name line ≡ 58 ∷ n.rest
    behind = ap (after is_in_name) n.cut ∙ after_is is_in_name (n.first ∷ n.name) (58 ∷ n.rest) (n.in_name, n.more) refl

    none : BeginsStatus line → ⊥
    none s =
        elim s.spelled [
          | inl h ↦ apart 58 32 n.rest s.rest (after is_in_name line) (λ e. cc) behind (ap (after is_in_name) h ∙ after_is is_in_name (codes "HTTP") (32 ∷ s.rest) (refl, (refl, (refl, (refl, tt)))) refl)
          | inr h ↦ apart 58 47 n.rest s.rest (after is_in_name line) (λ e. cc) behind (ap (after is_in_name) h ∙ after_is is_in_name (codes "HTTP") (47 ∷ s.rest) (refl, (refl, (refl, (refl, tt)))) refl)
        ]

    go : (t : Bool) → is_status line ≡ t → t ≡ false
    go true h = absurd (none ((taken_law line).0 h))
    go false h = refl

-- no line that is taken for a status line is empty
pub status_not_empty : (line : List ℕ) → is_status line ≡ true → is_empty_line line ≡ false
status_not_empty line e =
    let s = (taken_law line).0 e in
    elim s.spelled [ inl h ↦ ap is_empty_line h | inr h ↦ ap is_empty_line h ]
