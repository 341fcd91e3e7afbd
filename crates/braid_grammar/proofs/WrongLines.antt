-- Which lines are good, and which one is wrong, where lines are no head.
use Rattle.std.proofs.Common.{◌≡◌, ℕ, ◌+◌, true, false, List, [], ◌∷◌, ◌++◌, length, refl, sym, ap, ◌∙◌, cond, arith, length-append, inl, inr, ◌⊎◌, Option, Some, None}
use Rattle.std.specs.List.{AllByRecursion}
use Rattle.braid_fields.specs.declared.reason.Reason.{Reason}
use Rattle.braid_fields.specs.declared.reason.Reason.TheVariants.{BadLine, BadStatus}
use Rattle.braid_fields.specs.Lines.{is_empty_line}
use Rattle.braid_fields.specs.Fields.{Field, field_of, IsFieldLine}
use Rattle.braid_fields.specs.Statuses.{is_status, is_good_status, IsStatusLine}
use Rattle.braid_fields.proofs.StatusReading.{taken_law, good_law}
use Rattle.braid_grammar.specs.Lines.{IsLine, join}
use Rattle.braid_grammar.specs.Heads.{Verdict, Open, Wrong, Closed, behind, with_field, fields_of, some_fields_of, head_of}
use Rattle.braid_grammar.specs.Streams.{HoldFields}
use Rattle.braid_grammar.specs.FaultPlaces.{Owner, AnUpdate, APatch, AreGood, IsTakenForStatus, IsWrongLine, other_form, no_field_line, no_field_yet}
use Rattle.braid_grammar.proofs.Cut.{chosen}
use Rattle.braid_grammar.proofs.FieldLines.{field_read, field_told, status_told}

-- field lines, and then a line that is neither empty nor a field line
record WrongField (k : ℕ) (r : Reason) (ls : List (List ℕ)) : Type 0 where
  held : List Field
  before : List (List ℕ)
  line : List ℕ
  others : List (List ℕ)
  good : HoldFields held before
  some : is_empty_line line ≡ false
  none : field_of line ≡ None
  whole : ls ≡ before ++ (line ∷ others)
  place : k ≡ length (join before)
  reason : r ≡ BadLine

-- an empty line comes first
pub record EmptyFirst (k : ℕ) (r : Reason) (ls : List (List ℕ)) : Type 0 where
  pub first : List ℕ
  pub others : List (List ℕ)
  pub empty : is_empty_line first ≡ true
  pub whole : ls ≡ first ∷ others
  pub place : k ≡ 0
  pub reason : r ≡ BadLine

-- good lines of a head of this owner, and then the line that is wrong
pub record WrongBy (owner : Owner) (k : ℕ) (r : Reason) (ls : List (List ℕ)) : Type 0 where
  pub statuses : List (List ℕ)
  pub fields : List (List ℕ)
  pub line : List ℕ
  pub others : List (List ℕ)
  pub good : AreGood owner statuses fields
  pub wrong : IsWrongLine owner statuses fields line r
  pub whole : ls ≡ (statuses ++ fields) ++ (line ∷ others)
  pub place : k ≡ length (join (statuses ++ fields))

behind_wrong : (n : ℕ) (gs : List Field) (v : Verdict) (k : ℕ) (r : Reason) → behind n gs v ≡ Wrong k r → (j : ℕ) × (v ≡ Wrong j r) × (k ≡ n + j)
behind_wrong n gs Open k r e = absurd (cc)
behind_wrong n gs (Wrong j s) k r e = (j, ap (Wrong j) (let same : s ≡ r = cc in same), cc)
behind_wrong n gs (Closed hs j) k r e = absurd (cc)

field_wrong : (o : Option Field) (n : ℕ) (v : Verdict) (k : ℕ) (r : Reason) → with_field o n v ≡ Wrong k r → ((o ≡ None) × (k ≡ 0) × (r ≡ BadLine)) ⊎ ((f : Field) × (j : ℕ) × (o ≡ Some f) × (v ≡ Wrong j r) × (k ≡ n + j))
field_wrong None n v k r e = inl (refl, cc, cc)
field_wrong (Some f) n v k r e = let p = behind_wrong n (f ∷ []) v k r e in inr (f, p.0, refl, p.1, p.2)

no_field : (l : List ℕ) → field_of l ≡ None → (name value : List ℕ) → IsFieldLine name value l → ⊥
no_field l e name value h = let k = field_told (record { name = name; value = value }) l h in let f : Field = record { name = name; value = value } in let w : None ≡ Some f = sym e ∙ k in cc

no_status : (l : List ℕ) → is_good_status l ≡ false → IsStatusLine l → ⊥
no_status l e s = let k = (status_told l s).1 in let w : false ≡ true = sym e ∙ k in cc

later_wrong : (l : List ℕ) (f : Field) (ls : List (List ℕ)) (k j : ℕ) (r : Reason) → field_of l ≡ Some f → k ≡ length l + j → WrongField j r ls → WrongField k r (l ∷ ls)
later_wrong l f ls k j r h e w =
    record {
      held = f ∷ w.held;
      before = l ∷ w.before;
      line = w.line;
      others = w.others;
      good = (field_read f l h, w.good);
      some = w.some;
      none = w.none;
      whole = ap (λ t. l ∷ t) w.whole;
      place = let p : k ≡ length (l ++ join w.before) = omega (arith, e, w.place, length-append l (join w.before)) in p;
      reason = w.reason;
    }

line_wrong : (l : List ℕ) (ls : List (List ℕ)) (k : ℕ) (r : Reason) → is_empty_line l ≡ false → with_field (field_of l) (length l) (fields_of ls) ≡ Wrong k r → ((j : ℕ) → fields_of ls ≡ Wrong j r → WrongField j r ls) → WrongField k r (l ∷ ls)
line_wrong l ls k r some e rec = elim (field_wrong (field_of l) (length l) (fields_of ls) k r e) [
  | inl n ↦ record { held = []; before = []; line = l; others = ls; good = tt; some = some; none = n.0; whole = refl; place = n.1; reason = n.2 }
  | inr p ↦ later_wrong l p.0 ls k p.1 r p.2 p.4 (rec p.1 p.3)
]

fields_wrong : (ls : List (List ℕ)) (k : ℕ) (r : Reason) → fields_of ls ≡ Wrong k r → WrongField k r ls
fields_wrong [] k r e = absurd (cc)
fields_wrong (l ∷ ls) k r e = elim (chosen (is_empty_line l) (Closed [] (length l)) (with_field (field_of l) (length l) (fields_of ls))) [
  | inl c ↦ absurd (cc)
  | inr c ↦ line_wrong l ls k r c.0 (sym c.1 ∙ e) (λ j d. fields_wrong ls j r d)
]

some_fields_wrong : (ls : List (List ℕ)) (k : ℕ) (r : Reason) → some_fields_of ls ≡ Wrong k r → WrongField k r ls ⊎ EmptyFirst k r ls
some_fields_wrong [] k r e = absurd (cc)
some_fields_wrong (l ∷ ls) k r e = elim (chosen (is_empty_line l) (Wrong 0 BadLine) (with_field (field_of l) (length l) (fields_of ls))) [
  | inl c ↦
      let w : Wrong 0 BadLine ≡ Wrong k r = sym c.1 ∙ e in
      inr (record { first = l; others = ls; empty = c.0; whole = refl; place = cc; reason = cc })
  | inr c ↦ inl (line_wrong l ls k r c.0 (sym c.1 ∙ e) (λ j d. fields_wrong ls j r d))
]

-- a line that is no field line, where no line is taken for a status line
bad_line : (owner : Owner) (statuses : List (List ℕ)) (k : ℕ) (r : Reason) (ls : List (List ℕ)) (w : WrongField k r ls) → (IsTakenForStatus owner statuses w.before w.line → ⊥) → IsWrongLine owner statuses w.before w.line r
bad_line owner statuses k r ls w h = rw w.reason (no_field_line w.some (no_field w.line w.none) h)

patch_wrong : (used before : ℕ) (ls : List (List ℕ)) (k : ℕ) (r : Reason) → some_fields_of ls ≡ Wrong k r → WrongBy (APatch used before) k r ls ⊎ EmptyFirst k r ls
patch_wrong used before ls k r e = elim (some_fields_wrong ls k r e) [
  | inr w ↦ inr w
  | inl w ↦ inl (record {
    statuses = [];
    fields = w.before;
    line = w.line;
    others = w.others;
    good = record { held = w.held; few = omega arith; are_statuses = tt; are_fields = w.good };
    wrong = bad_line (APatch used before) [] k r ls w (λ t. let e = t.of_update in cc);
    whole = w.whole;
    place = w.place;
  })
]

-- without a status line
plain_wrong : (l : List ℕ) (ls : List (List ℕ)) (k : ℕ) (r : Reason) → is_status l ≡ false → some_fields_of (l ∷ ls) ≡ Wrong k r → WrongBy AnUpdate k r (l ∷ ls) ⊎ EmptyFirst k r (l ∷ ls)
plain_wrong l ls k r plain e = elim (some_fields_wrong (l ∷ ls) k r e) [
  | inr w ↦ inr w
  | inl w ↦ inl (record {
    statuses = [];
    fields = w.before;
    line = w.line;
    others = w.others;
    good = record { held = w.held; few = omega arith; are_statuses = tt; are_fields = w.good };
    wrong = bad_line AnUpdate [] k r (l ∷ ls) w (λ t. not_taken w.before w.line w.others w.whole t);
    whole = w.whole;
    place = w.place;
  })
]
  where
    not_taken : (before : List (List ℕ)) (line : List ℕ) (others : List (List ℕ)) → l ∷ ls ≡ before ++ (line ∷ others) → IsTakenForStatus AnUpdate [] before line → ⊥
    not_taken [] line others w t =
        let same : l ≡ line = cc in
        let taken : is_status line ≡ true = (taken_law line).1 t.begins in
        let bad : false ≡ true = sym plain ∙ (ap is_status same ∙ taken) in
        cc
    not_taken (x ∷ before) line others w t = let e = t.no_field in cc

-- behind a status line
status_wrong : (l : List ℕ) (ls : List (List ℕ)) (k j : ℕ) (r : Reason) → IsLine l → is_good_status l ≡ true → k ≡ length l + j → WrongField j r ls ⊎ EmptyFirst j r ls → WrongBy AnUpdate k r (l ∷ ls)
status_wrong l ls k j r is g e h = elim h [
  | inl w ↦ record {
    statuses = l ∷ [];
    fields = w.before;
    line = w.line;
    others = w.others;
    good = record { held = w.held; few = omega arith; are_statuses = ((is, (good_law l).0 g), tt); are_fields = w.good };
    wrong = bad_line AnUpdate (l ∷ []) j r ls w (λ t. let e = t.no_status in cc);
    whole = ap (λ t. l ∷ t) w.whole;
    place = let p : k ≡ length (l ++ join w.before) = omega (arith, e, w.place, length-append l (join w.before)) in p;
  }
  | inr w ↦ record {
    statuses = l ∷ [];
    fields = [];
    line = w.first;
    others = w.others;
    good = record { held = []; few = omega arith; are_statuses = ((is, (good_law l).0 g), tt); are_fields = tt };
    wrong = rw w.reason (no_field_yet refl refl w.empty);
    whole = ap (λ t. l ∷ t) w.whole;
    place = let p : k ≡ length (l ++ []) = omega (arith, e, w.place, length-append l []) in p;
  }
]

update_wrong : (ls : List (List ℕ)) (k : ℕ) (r : Reason) → AllByRecursion IsLine ls → head_of ls ≡ Wrong k r → WrongBy AnUpdate k r ls ⊎ EmptyFirst k r ls
update_wrong [] k r all e = absurd (cc)
update_wrong (l ∷ ls) k r all e = elim (chosen (is_status l) (cond (is_good_status l) (behind (length l) [] (some_fields_of ls)) (Wrong 0 BadStatus)) (some_fields_of (l ∷ ls))) [
  | inl c ↦ elim (chosen (is_good_status l) (behind (length l) [] (some_fields_of ls)) (Wrong 0 BadStatus)) [
    | inl d ↦ let p = behind_wrong (length l) [] (some_fields_of ls) k r (sym d.1 ∙ (sym c.1 ∙ e)) in inl (status_wrong l ls k p.0 r all.0 d.0 p.2 (some_fields_wrong ls p.0 r p.1))
    | inr d ↦
        let w : Wrong 0 BadStatus ≡ Wrong k r = sym d.1 ∙ (sym c.1 ∙ e) in
        let r_is : r ≡ BadStatus = cc in
        let k_is : k ≡ 0 = cc in
        let taken : IsTakenForStatus AnUpdate [] [] l = record { of_update = refl; no_status = refl; no_field = refl; begins = (taken_law l).0 c.0 } in
        inl (record {
          statuses = [];
          fields = [];
          line = l;
          others = ls;
          good = record { held = []; few = omega arith; are_statuses = tt; are_fields = tt };
          wrong = rw r_is (other_form taken (no_status l d.0));
          whole = refl;
          place = k_is;
        })
  ]
  | inr c ↦ plain_wrong l ls k r c.0 (sym c.1 ∙ e)
]

-- what lines say of a head of this owner
abbrev pub verdict_of : Owner → List (List ℕ) → Verdict
verdict_of AnUpdate ls = head_of ls
verdict_of (APatch used before) ls = some_fields_of ls

-- which line is wrong, unless an empty line comes first
pub lines_wrong : (owner : Owner) (ls : List (List ℕ)) (k : ℕ) (r : Reason) → AllByRecursion IsLine ls → verdict_of owner ls ≡ Wrong k r → WrongBy owner k r ls ⊎ EmptyFirst k r ls
lines_wrong AnUpdate ls k r all e = update_wrong ls k r all e
lines_wrong (APatch used before) ls k r all e = patch_wrong used before ls k r e
