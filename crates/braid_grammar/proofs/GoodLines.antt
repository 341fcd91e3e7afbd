-- What lines say that are good, alone or before a wrong one; and that lines which say nothing yet are good.
use Rattle.std.proofs.Common.{◌≡◌, ℕ, ◌+◌, ◌≤◌, true, false, List, [], ◌∷◌, ◌++◌, length, refl, sym, ap, ◌∙◌, cond, arith, length-append, inl, inr, Option, Some, None}
use Rattle.std.proofs.lemmas.Bool.{cases_Bool}
use Rattle.std.proofs.lemmas.List.{append-nil}
use Rattle.std.specs.List.{AllByRecursion}
use Rattle.braid_fields.specs.declared.reason.Reason.{Reason}
use Rattle.braid_fields.specs.declared.reason.Reason.TheVariants.{BadLine, BadStatus}
use Rattle.braid_fields.specs.Lines.{is_empty_line}
use Rattle.braid_fields.specs.Fields.{Field, field_of, IsFieldLine}
use Rattle.braid_fields.specs.Statuses.{is_status, is_good_status, IsStatusLine}
use Rattle.braid_fields.proofs.ForStreams.{field_not_empty, field_not_status}
use Rattle.braid_fields.proofs.StatusReading.{taken_law, good_law}
use Rattle.braid_grammar.specs.Lines.{IsLine, join}
use Rattle.braid_grammar.specs.Heads.{Verdict, Open, Wrong, Closed, behind, with_field, fields_of, some_fields_of, head_of}
use Rattle.braid_grammar.specs.Streams.{HoldFields}
use Rattle.braid_grammar.specs.FaultPlaces.{Owner, AnUpdate, APatch, AreGood, IsWrongLine, other_form, no_field_line, no_field_yet}
use Rattle.braid_grammar.proofs.Cut.{chosen}
use Rattle.braid_grammar.proofs.FieldLines.{field_read, field_told, status_told}
use Rattle.braid_grammar.proofs.Spelled.{are_lines_of, all_join, status_lines}
use Rattle.braid_grammar.proofs.WrongLines.{verdict_of}

-- good lines of a head of this owner
pub record GoodBy (owner : Owner) (ls : List (List ℕ)) : Type 0 where
  pub statuses : List (List ℕ)
  pub fields : List (List ℕ)
  pub good : AreGood owner statuses fields
  pub whole : ls ≡ statuses ++ fields

behind_open : (n : ℕ) (gs : List Field) (v : Verdict) → behind n gs v ≡ Open → v ≡ Open
behind_open n gs Open e = refl
behind_open n gs (Wrong j s) e = absurd (cc)
behind_open n gs (Closed hs j) e = absurd (cc)

field_open : (o : Option Field) (n : ℕ) (v : Verdict) → with_field o n v ≡ Open → (f : Field) × (o ≡ Some f) × (v ≡ Open)
field_open None n v e = absurd (cc)
field_open (Some f) n v e = (f, refl, behind_open n (f ∷ []) v e)

line_open : (l : List ℕ) (ls : List (List ℕ)) → with_field (field_of l) (length l) (fields_of ls) ≡ Open → (fields_of ls ≡ Open → (fs : List Field) × HoldFields fs ls) → (fs : List Field) × HoldFields fs (l ∷ ls)
line_open l ls e rec =
    let p = field_open (field_of l) (length l) (fields_of ls) e in
    let k = rec p.2 in (p.0 ∷ k.0, (field_read p.0 l p.1, k.1))

fields_open : (ls : List (List ℕ)) → fields_of ls ≡ Open → (fs : List Field) × HoldFields fs ls
fields_open [] e = ([], tt)
fields_open (l ∷ ls) e = elim (chosen (is_empty_line l) (Closed [] (length l)) (with_field (field_of l) (length l) (fields_of ls))) [
  | inl c ↦ absurd (cc)
  | inr c ↦ line_open l ls (sym c.1 ∙ e) (λ d. fields_open ls d)
]

some_open : (ls : List (List ℕ)) → some_fields_of ls ≡ Open → (fs : List Field) × HoldFields fs ls
some_open [] e = ([], tt)
some_open (l ∷ ls) e = elim (chosen (is_empty_line l) (Wrong 0 BadLine) (with_field (field_of l) (length l) (fields_of ls))) [
  | inl c ↦ absurd (cc)
  | inr c ↦ line_open l ls (sym c.1 ∙ e) (λ d. fields_open ls d)
]

plain_good : (owner : Owner) (ls : List (List ℕ)) → (fs : List Field) × HoldFields fs ls → GoodBy owner ls
plain_good owner ls h = record { statuses = []; fields = ls; good = record { held = h.0; few = omega arith; are_statuses = tt; are_fields = h.1 }; whole = refl }

head_good : (ls : List (List ℕ)) → AllByRecursion IsLine ls → head_of ls ≡ Open → GoodBy AnUpdate ls
head_good [] all e = plain_good AnUpdate [] ([], tt)
head_good (l ∷ ls) all e = elim (chosen (is_status l) (cond (is_good_status l) (behind (length l) [] (some_fields_of ls)) (Wrong 0 BadStatus)) (some_fields_of (l ∷ ls))) [
  | inl c ↦ elim (chosen (is_good_status l) (behind (length l) [] (some_fields_of ls)) (Wrong 0 BadStatus)) [
    | inl d ↦
        let h = some_open ls (behind_open (length l) [] (some_fields_of ls) (sym d.1 ∙ (sym c.1 ∙ e))) in
        record { statuses = l ∷ []; fields = ls; good = record { held = h.0; few = omega arith; are_statuses = ((all.0, (good_law l).0 d.0), tt); are_fields = h.1 }; whole = refl }
    | inr d ↦ absurd (cc)
  ]
  | inr c ↦ plain_good AnUpdate (l ∷ ls) (some_open (l ∷ ls) (sym c.1 ∙ e))
]

-- lines that say nothing yet are good
pub open_good : (owner : Owner) (ls : List (List ℕ)) → AllByRecursion IsLine ls → verdict_of owner ls ≡ Open → GoodBy owner ls
open_good AnUpdate ls all e = head_good ls all e
open_good (APatch used before) ls all e = plain_good (APatch used before) ls (some_open ls e)

-- field lines say nothing yet
fields_say : (fs : List Field) (ls : List (List ℕ)) → HoldFields fs ls → fields_of ls ≡ Open
fields_say [] [] h = refl
fields_say (f ∷ fs) (l ∷ ls) h =
    let holds : field_of l ≡ Some f = field_told f l h.0 in
    let some : is_empty_line l ≡ false = field_not_empty l f holds in
    rw (some, holds) (ap (behind (length l) (f ∷ [])) (fields_say fs ls h.1))
fields_say [] (l ∷ ls) h = absurd h
fields_say (f ∷ fs) [] h = absurd h

some_say : (fs : List Field) (ls : List (List ℕ)) → HoldFields fs ls → some_fields_of ls ≡ Open
some_say [] [] h = refl
some_say (f ∷ fs) (l ∷ ls) h =
    let some : is_empty_line l ≡ false = field_not_empty l f (field_told f l h.0) in
    let k : fields_of (l ∷ ls) ≡ Open = fields_say (f ∷ fs) (l ∷ ls) h in
    rw some (rw some at k)
some_say [] (l ∷ ls) h = absurd h
some_say (f ∷ fs) [] h = absurd h

plain_say : (fs : List Field) (ls more : List (List ℕ)) → HoldFields fs ls → 1 ≤ length ls → head_of (ls ++ more) ≡ some_fields_of (ls ++ more)
plain_say fs [] more h s = absurd (omega arith)
plain_say [] (l ∷ ls) more h s = absurd h
plain_say (f ∷ fs) (l ∷ ls) more h s = let p : is_status l ≡ false = field_not_status l f (field_told f l h.0) in rw p refl

update_open : (statuses fields : List (List ℕ)) → AreGood AnUpdate statuses fields → head_of (statuses ++ fields) ≡ Open
update_open [] [] g = refl
update_open [] (l ∷ ls) g = ap head_of (sym (append-nil (l ∷ ls))) ∙ plain_say g.held (l ∷ ls) [] g.are_fields (omega arith) ∙ ap some_fields_of (append-nil (l ∷ ls)) ∙ some_say g.held (l ∷ ls) g.are_fields
update_open (s ∷ []) ls g = let w = status_told s g.are_statuses.0.1 in rw (w.0, w.1) (ap (behind (length s) []) (some_say g.held ls g.are_fields))
update_open (s ∷ t ∷ st) ls g = absurd (let f = g.few in omega arith)

-- good lines say nothing yet
pub good_open : (owner : Owner) (statuses fields : List (List ℕ)) → AreGood owner statuses fields → verdict_of owner (statuses ++ fields) ≡ Open
good_open AnUpdate statuses fields g = update_open statuses fields g
good_open (APatch used before) [] fields g = some_say g.held fields g.are_fields
good_open (APatch used before) (s ∷ st) fields g = absurd (let f = g.few in omega arith)

-- field lines, and then a line that is neither empty nor a field line
fields_then_wrong : (fs : List Field) (ls : List (List ℕ)) (line : List ℕ) (more : List (List ℕ)) → HoldFields fs ls → is_empty_line line ≡ false → field_of line ≡ None → fields_of (ls ++ line ∷ more) ≡ Wrong (length (join ls)) BadLine
fields_then_wrong [] [] line more h e n = rw (e, n) refl
fields_then_wrong (f ∷ fs) (l ∷ ls) line more h e n =
    let holds : field_of l ≡ Some f = field_told f l h.0 in
    let some : is_empty_line l ≡ false = field_not_empty l f holds in
    rw (some, holds) (ap (behind (length l) (f ∷ [])) (fields_then_wrong fs ls line more h.1 e n) ∙ ap (λ k. Wrong k BadLine) (sym (length-append l (join ls))))
fields_then_wrong [] (l ∷ ls) line more h e n = absurd h
fields_then_wrong (f ∷ fs) [] line more h e n = absurd h

some_then_wrong : (fs : List Field) (ls : List (List ℕ)) (line : List ℕ) (more : List (List ℕ)) → HoldFields fs ls → is_empty_line line ≡ false → field_of line ≡ None → some_fields_of (ls ++ line ∷ more) ≡ Wrong (length (join ls)) BadLine
some_then_wrong [] [] line more h e n = rw (e, n) refl
some_then_wrong (f ∷ fs) (l ∷ ls) line more h e n =
    let some : is_empty_line l ≡ false = field_not_empty l f (field_told f l h.0) in
    let w : fields_of (l ∷ (ls ++ line ∷ more)) ≡ Wrong (length (join (l ∷ ls))) BadLine = fields_then_wrong (f ∷ fs) (l ∷ ls) line more h e n in
    rw some (rw some at w)
some_then_wrong [] (l ∷ ls) line more h e n = absurd h
some_then_wrong (f ∷ fs) [] line more h e n = absurd h

none_field : (line : List ℕ) → ((name value : List ℕ) → IsFieldLine name value line → ⊥) → field_of line ≡ None
none_field line h = go (field_of line) refl
  where
    go : (o : Option Field) → field_of line ≡ o → o ≡ None
    go None e = refl
    go (Some f) e = absurd (h f.name f.value (field_read f line e))

other_status : (line : List ℕ) → (IsStatusLine line → ⊥) → is_good_status line ≡ false
other_status line h = elim (cases_Bool (is_good_status line)) [ inl e ↦ absurd (h ((good_law line).0 e)) | inr e ↦ e ]

-- behind a status line
behind_status : (s : List ℕ) (ls : List (List ℕ)) (k : ℕ) (r : Reason) → IsStatusLine s → some_fields_of ls ≡ Wrong k r → head_of (s ∷ ls) ≡ Wrong (length s + k) r
behind_status s ls k r h e = let w = status_told s h in rw (w.0, w.1) (ap (behind (length s) []) e)

update_wrong : (statuses fields : List (List ℕ)) (line : List ℕ) (more : List (List ℕ)) (r : Reason) → AreGood AnUpdate statuses fields → IsWrongLine AnUpdate statuses fields line r → head_of ((statuses ++ fields) ++ line ∷ more) ≡ Wrong (length (join (statuses ++ fields))) r
update_wrong [] [] line more r g (other_form t n) = let taken : is_status line ≡ true = (taken_law line).1 t.begins in let bad = other_status line n in rw (taken, bad) refl
update_wrong [] (l ∷ ls) line more r g (other_form t n) = absurd (let e = t.no_field in cc)
update_wrong (s ∷ st) ls line more r g (other_form t n) = absurd (let e = t.no_status in cc)
update_wrong [] [] line more r g (no_field_line e n t) = elim (cases_Bool (is_status line)) [
  | inl p ↦ absurd (t (record { of_update = refl; no_status = refl; no_field = refl; begins = (taken_law line).0 p }))
  | inr p ↦ rw p (some_then_wrong [] [] line more tt e (none_field line n))
]
update_wrong [] (l ∷ ls) line more r g (no_field_line e n t) = plain_say g.held (l ∷ ls) (line ∷ more) g.are_fields (omega arith) ∙ some_then_wrong g.held (l ∷ ls) line more g.are_fields e (none_field line n)
update_wrong (s ∷ []) ls line more r g (no_field_line e n t) =
    behind_status s (ls ++ line ∷ more) (length (join ls)) BadLine g.are_statuses.0.1 (some_then_wrong g.held ls line more g.are_fields e (none_field line n))
    ∙ ap (λ k. Wrong k BadLine) (sym (length-append s (join ls)))
update_wrong (s ∷ []) [] line more r g (no_field_yet one none e) =
    behind_status s (line ∷ more) 0 BadLine g.are_statuses.0.1 (rw e refl) ∙ ap (λ k. Wrong k BadLine) (sym (length-append s []))
update_wrong [] ls line more r g (no_field_yet one none e) = absurd (omega arith)
update_wrong (s ∷ []) (l ∷ ls) line more r g (no_field_yet one none e) = absurd (cc)
update_wrong (s ∷ u ∷ st) ls line more r g w = absurd (let f = g.few in omega arith)

patch_wrong : (used before : ℕ) (fields : List (List ℕ)) (line : List ℕ) (more : List (List ℕ)) (r : Reason) → AreGood (APatch used before) [] fields → IsWrongLine (APatch used before) [] fields line r → some_fields_of (fields ++ line ∷ more) ≡ Wrong (length (join fields)) r
patch_wrong used before ls line more r g (other_form t n) = absurd (let e = t.of_update in cc)
patch_wrong used before ls line more r g (no_field_line e n t) = some_then_wrong g.held ls line more g.are_fields e (none_field line n)
patch_wrong used before ls line more r g (no_field_yet one none e) = absurd (omega arith)

-- good lines and then a wrong one say its place
pub good_then_wrong : (owner : Owner) (statuses fields : List (List ℕ)) (line : List ℕ) (more : List (List ℕ)) (r : Reason) → AreGood owner statuses fields → IsWrongLine owner statuses fields line r
    → verdict_of owner ((statuses ++ fields) ++ line ∷ more) ≡ Wrong (length (join (statuses ++ fields))) r
good_then_wrong AnUpdate statuses fields line more r g w = update_wrong statuses fields line more r g w
good_then_wrong (APatch used before) [] fields line more r g w = patch_wrong used before fields line more r g w
good_then_wrong (APatch used before) (s ∷ st) fields line more r g w = absurd (let f = g.few in omega arith)

-- good lines are lines
pub good_lines : (owner : Owner) (statuses fields : List (List ℕ)) → AreGood owner statuses fields → AllByRecursion IsLine (statuses ++ fields)
good_lines owner statuses fields g = all_join IsLine statuses fields (status_lines statuses g.are_statuses) (are_lines_of g.held fields g.are_fields)
