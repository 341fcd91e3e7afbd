-- Where a fault stands: what is wrong there, from the first byte of its head on.
use Rattle.std.proofs.Common.{◌≡◌, ℕ, ◌+◌, ◌≤◌, true, false, List, [], ◌∷◌, ◌++◌, length, take, drop, refl, sym, ap, subst, ◌∙◌, append_assoc, ltb, cond, arith, length-append, inl, inr, ◌⊎◌, Result, Ok, Err}
use Rattle.std.proofs.lemmas.Bool.{ltb-false}
use Rattle.std.proofs.lemmas.List.{append-nil, take-append-drop, length-take-le}
use Rattle.std.specs.List.{AllByRecursion}
use Rattle.std.specs.Str.{chars, is_utf8}
use Rattle.braid_change.specs.Texts.{IsTextOf}
use Rattle.braid_fields.specs.declared.reason.Reason.{Reason}
use Rattle.braid_fields.specs.declared.reason.Reason.TheVariants.{HeadTooLong, NotText}
use Rattle.braid_fields.specs.Fields.{Field}
use Rattle.braid_fields.specs.Table.{judge_patch}
use Rattle.braid_grammar.specs.Lines.{IsLine, lines_of, begun_from, join}
use Rattle.braid_grammar.specs.Heads.{Verdict, Open, Wrong, Closed}
use Rattle.braid_grammar.specs.Outcomes.{Outcome, Part, Bad, Whole, then_read, head_limit, settle, head_at, content_at, or_bad}
use Rattle.braid_grammar.specs.Readings.{patch_at}
use Rattle.braid_grammar.specs.Streams.{BeginsNoEmptyLine}
use Rattle.braid_grammar.specs.FaultPlaces.{Owner, APatch, IsTooLong, IsWrongBehind, by_line, by_length, by_head, by_content}
use Rattle.braid_grammar.proofs.Cut.{chosen, are_lines, lines_join, begun_lacks}
use Rattle.braid_grammar.proofs.Characters.{text_is_utf8}
use Rattle.braid_grammar.proofs.WrongLines.{verdict_of, WrongBy, EmptyFirst, lines_wrong}
use Rattle.braid_grammar.proofs.GoodLines.{open_good}
use Rattle.braid_grammar.proofs.Back.{window, patch_head_back, join_split}

-- from a place on: what is wrong, and where
pub record WrongFrom (owner : Owner) (b : List ℕ) (at to : ℕ) (r : Reason) : Type 0 where
  pub k : ℕ
  pub place : to ≡ at + k
  pub wrong : IsWrongBehind owner b k r

-- a thing that is whole, and then a fault
pub record Then {A B : Type 0} (o : Outcome A) (f : A → ℕ → List ℕ → Outcome B) (to : ℕ) (r : Reason) : Type 0 where
  pub value : A
  pub at : ℕ
  pub mid : List ℕ
  pub one : o ≡ Whole value at mid
  pub two : f value at mid ≡ Bad to r

pub then_bad : {A B : Type 0} (o : Outcome A) (f : A → ℕ → List ℕ → Outcome B) (to : ℕ) (r : Reason) → then_read o f ≡ Bad to r → (o ≡ Bad to r) ⊎ Then o f to r
then_bad Part f to r e = absurd (cc)
then_bad {A} (Bad at s) f to r e =
    let to_is : at ≡ to = cc in
    let r_is : s ≡ r = cc in
    inl (let same : ◌≡◌ {A = Outcome A} (Bad at s) (Bad to r) = cc in same)
then_bad (Whole x at mid) f to r e = inr (record { value = x; at = at; mid = mid; one = refl; two = e })

pub judged_bad : {A B : Type 0} (at : ℕ) (j : Result A Reason) (f : A → Outcome B) (to : ℕ) (r : Reason) → or_bad at j f ≡ Bad to r → ((j ≡ Err r) × (to ≡ at)) ⊎ ((x : A) × (j ≡ Ok x) × (f x ≡ Bad to r))
judged_bad at (Ok x) f to r e = inr (x, refl, e)
judged_bad at (Err s) f to r e = inl (ap Err (let same : s ≡ r = cc in same), cc)

settled_bad : (at : ℕ) (b : List ℕ) (v : Verdict) (to : ℕ) (r : Reason) → settle at b v ≡ Bad to r → ((v ≡ Open) × (head_limit ≤ length b) × (to ≡ at) × (r ≡ HeadTooLong)) ⊎ ((k : ℕ) × (v ≡ Wrong k r) × (to ≡ at + k))
settled_bad at b Open to r e = elim (chosen {A = Outcome (List Field)} (ltb (length b) head_limit) Part (Bad at HeadTooLong)) [
  | inl c ↦ absurd (cc)
  | inr c ↦ let w : ◌≡◌ {A = Outcome (List Field)} (Bad at HeadTooLong) (Bad to r) = sym c.1 ∙ e in inl (refl, ltb-false _ _ c.0, cc, cc)
]
settled_bad at b (Wrong k s) to r e = inr (k, ap (Wrong k) (let same : s ≡ r = cc in same), cc)
settled_bad at b (Closed fs n) to r e = absurd (cc)

-- as many bytes as a head may have, whose lines are good
too_long : (owner : Owner) (b : List ℕ) → head_limit ≤ length b → verdict_of owner (lines_of (take head_limit b)) ≡ Open → IsTooLong owner b
too_long owner b l v =
    let first : List ℕ = take head_limit b in
    let g = open_good owner (lines_of first) (are_lines [] first tt) v in
    let whole : join (g.statuses ++ g.fields) ++ begun_from [] first ≡ first = ap (λ t. join t ++ begun_from [] first) (sym g.whole) ∙ lines_join [] first in
    let size : length first ≡ head_limit = length-take-le head_limit b l in
    record {
      statuses = g.statuses;
      fields = g.fields;
      begun = begun_from [] first;
      more = drop head_limit b;
      good = g.good;
      no_end = begun_lacks [] first tt;
      long = let long : length (join (g.statuses ++ g.fields)) + length (begun_from [] first) ≡ head_limit = omega (arith, ap length whole, size, length-append (join (g.statuses ++ g.fields)) (begun_from [] first)) in long;
      spelled = sym (take-append-drop head_limit b) ∙ ap (λ t. t ++ drop head_limit b) (sym whole) ∙ append_assoc (join (g.statuses ++ g.fields)) (begun_from [] first) (drop head_limit b);
    }

-- one of many lines is one
one_of : (P : List ℕ → Type 0) (front : List (List ℕ)) (line : List ℕ) (others : List (List ℕ)) → AllByRecursion P (front ++ (line ∷ others)) → P line
one_of P [] line others h = h.0
one_of P (x ∷ front) line others h = one_of P front line others h.1

-- the line that is wrong, in the bytes
line_stands : (owner : Owner) (b : List ℕ) (k : ℕ) (r : Reason) → WrongBy owner k r (lines_of (take head_limit b)) → IsWrongBehind owner b k r
line_stands owner b k r w =
    let good : List ℕ = join (w.statuses ++ w.fields) in
    let front : List (List ℕ) = (w.statuses ++ w.fields) ++ w.line ∷ [] in
    let cut = window b (join front) front w.others (length (join front)) (w.whole ∙ sym (append_assoc (w.statuses ++ w.fields) (w.line ∷ []) w.others)) refl refl in
    let two : join front ≡ good ++ w.line = join_split (w.statuses ++ w.fields) (w.line ∷ []) ∙ ap (λ t. good ++ t) (append-nil w.line) in
    by_line (record {
      statuses = w.statuses;
      fields = w.fields;
      line = w.line;
      more = drop (length (join front)) b;
      good = w.good;
      is_line = one_of IsLine (w.statuses ++ w.fields) w.line w.others (subst (λ ls. AllByRecursion IsLine ls) w.whole (are_lines [] (take head_limit b) tt));
      wrong = w.wrong;
      short = let short : length good + length w.line ≤ head_limit = omega (arith, cut.1, ap length two, length-append good w.line) in short;
      place = w.place;
      spelled = cut.0 ∙ ap (λ t. t ++ drop (length (join front)) b) two ∙ append_assoc good w.line (drop (length (join front)) b);
    })

-- an empty line comes first
empty_stands : (b : List ℕ) (k : ℕ) (r : Reason) → BeginsNoEmptyLine b → EmptyFirst k r (lines_of (take head_limit b)) → ⊥
empty_stands b k r h w =
    let cut = window b (join (w.first ∷ [])) (w.first ∷ []) w.others (length (join (w.first ∷ []))) w.whole refl refl in
    h w.first (drop (length (join (w.first ∷ []))) b) w.empty (cut.0 ∙ ap (λ t. t ++ drop (length (join (w.first ∷ []))) b) (append-nil w.first))

-- a head that is wrong
pub head_bad : (owner : Owner) (at : ℕ) (b : List ℕ) (to : ℕ) (r : Reason) → BeginsNoEmptyLine b → head_at (verdict_of owner) at b ≡ Bad to r → WrongFrom owner b at to r
head_bad owner at b to r h e = elim (settled_bad at b (verdict_of owner (lines_of (take head_limit b))) to r e) [
  | inl s ↦ record { k = 0; place = omega (arith, s.2); wrong = by_length refl s.3 (too_long owner b s.1 s.0) }
  | inr s ↦ elim (lines_wrong owner (lines_of (take head_limit b)) s.0 r (are_lines [] (take head_limit b) tt) s.1) [
    | inl w ↦ record { k = s.0; place = s.2; wrong = line_stands owner b s.0 r w }
    | inr w ↦ absurd (empty_stands b s.0 r h w)
  ]
]

-- a content of this length that is no text
pub record ContentBad (n at : ℕ) (b : List ℕ) (to : ℕ) (r : Reason) : Type 0 where
  pub content : List ℕ
  pub more : List ℕ
  pub len : n ≡ length content
  pub no_text : (text : List ℕ) → IsTextOf text content → ⊥
  pub place : to ≡ at
  pub reason : r ≡ NotText
  pub spelled : b ≡ content ++ more

pub content_bad : (n at : ℕ) (b : List ℕ) (to : ℕ) (r : Reason) → content_at n at b ≡ Bad to r → ContentBad n at b to r
content_bad n at b to r e = elim (chosen (ltb (length b) n) Part (cond (is_utf8 (take n b)) (Whole (chars (take n b)) (at + n) (drop n b)) (Bad at NotText))) [
  | inl c ↦ absurd (cc)
  | inr c ↦ elim (chosen (is_utf8 (take n b)) (Whole (chars (take n b)) (at + n) (drop n b)) (Bad at NotText)) [
    | inl d ↦ absurd (cc)
    | inr d ↦
        let w : ◌≡◌ {A = Outcome (List ℕ)} (Bad at NotText) (Bad to r) = sym d.1 ∙ (sym c.1 ∙ e) in
        let to_is : to ≡ at = cc in
        let r_is : r ≡ NotText = cc in
        record { content = take n b; more = drop n b; len = sym (length-take-le n b (ltb-false _ _ c.0)); no_text = not_text (take n b) d.0; place = to_is; reason = r_is; spelled = sym (take-append-drop n b) }
  ]
]
  where
    not_text : (c : List ℕ) → is_utf8 c ≡ false → (text : List ℕ) → IsTextOf text c → ⊥
    not_text c d text k = let u = text_is_utf8 text c k in let w : false ≡ true = sym d ∙ u in cc

-- a patch that is wrong
pub patch_bad : (used before at : ℕ) (b : List ℕ) (to : ℕ) (r : Reason) → BeginsNoEmptyLine b → patch_at used before at b ≡ Bad to r → WrongFrom (APatch used before) b at to r
patch_bad used before at b to r h e = elim (then_bad (head_at (verdict_of (APatch used before)) at b) _ to r e) [
  | inl w ↦ head_bad (APatch used before) at b to r h w
  | inr t ↦ let f = patch_head_back t.value at b t.at t.mid t.one in elim (judged_bad at (judge_patch used before t.value) _ to r t.two) [
    | inl j ↦ record { k = 0; place = omega (arith, j.1); wrong = by_head refl (record { fields = t.value; head = f.bytes; more = t.mid; is_head = f.is; against = j.0; spelled = f.spelled }) }
    | inr j ↦ elim (then_bad (content_at j.0.len t.at t.mid) _ to r j.2) [
      | inl w ↦
          let c = content_bad j.0.len t.at t.mid to r w in
          record {
            k = length f.bytes;
            place = c.place ∙ f.place;
            wrong = by_content c.reason (record {
              fields = t.value;
              head = f.bytes;
              content = c.content;
              more = c.more;
              is_head = f.is;
              asks = (j.0, j.1, c.len);
              no_text = c.no_text;
              place = refl;
              spelled = f.spelled ∙ ap (λ s. f.bytes ++ s) c.spelled;
            });
          }
      | inr c ↦ absurd (let d = c.two in cc)
    ]
  ]
]
