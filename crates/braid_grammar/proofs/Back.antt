-- What is read is spelled so.
use Rattle.std.proofs.Common.{◌≡◌, ℕ, zero, suc, ◌+◌, ◌≤◌, true, false, List, [], ◌∷◌, ◌++◌, length, take, drop, refl, sym, ap, subst, ◌∙◌, append_assoc, eqb, ltb, cond, arith, length-append, inl, inr, Ok, Err, Result}
use Rattle.std.proofs.lemmas.Bool.{cases_Bool, ltb-false}
use Rattle.std.proofs.lemmas.List.{append-nil, take-append-drop, drop_at, length-take-le, length-take}
use Rattle.std.specs.List.{AllByRecursion}
use Rattle.std.specs.Str.{chars, is_utf8}
use Rattle.braid_change.specs.declared.patch.Patch.{Patch}
use Rattle.braid_change.specs.declared.change.Change.{Change}
use Rattle.braid_change.specs.declared.change.Change.TheVariants.{Body, Patches}
use Rattle.braid_change.specs.Texts.{IsTextOf}
use Rattle.braid_change.specs.Updates.{UpdateView}
use Rattle.braid_fields.specs.declared.reason.Reason.{Reason}
use Rattle.braid_fields.specs.declared.reason.Reason.TheVariants.{BadLine, BadStatus, HeadTooLong, NotText}
use Rattle.braid_fields.specs.declared.plan.Asks.{Asks}
use Rattle.braid_fields.specs.declared.plan.Asks.TheVariants as asks
use Rattle.braid_fields.specs.Lines.{is_empty_line}
use Rattle.braid_fields.specs.Fields.{Field, field_of}
use Rattle.braid_fields.specs.Statuses.{is_status, is_good_status}
use Rattle.braid_fields.specs.Table.{judge_head, judge_patch}
use Rattle.braid_grammar.specs.Lines.{IsLine, lines_of, begun_from, join}
use Rattle.braid_grammar.specs.Heads.{Verdict, Open, Wrong, Closed, behind, with_field, fields_of, some_fields_of, head_of}
use Rattle.braid_grammar.specs.Outcomes.{Outcome, Part, Bad, Whole, then_read, head_limit, settle, head_at, content_at, past_gap, or_bad}
use Rattle.braid_grammar.specs.Readings.{patch_len, patch_of, patch_at, patches_at, change_at, update_at, next_at}
use Rattle.braid_grammar.specs.Streams.{IsEmptyLine, IsGap, no_line, one_more, HoldFields, IsPatchHead, HoldsStatus, IsHead, IsContent, SpellsPatch, SpellPatches, SpellsChange, SpellsUpdate}
use Rattle.braid_grammar.proofs.Cut.{chosen, lines_join, are_lines}
use Rattle.braid_fields.proofs.StatusReading.{good_law}
use Rattle.braid_grammar.proofs.FieldLines.{field_read}
use Rattle.braid_grammar.proofs.Characters.{chars_are_text}
use Rattle.braid_grammar.proofs.Stable.{behind_closed, field_closed}

-- a value was read, and then the next
pub record Twice {A B : Type 0} (o : Outcome A) (f : A → ℕ → List ℕ → Outcome B) (y : B) (to : ℕ) (rest : List ℕ) : Type 0 where
  pub value : A
  pub at : ℕ
  pub mid : List ℕ
  pub one : o ≡ Whole value at mid
  pub two : f value at mid ≡ Whole y to rest

pub then_whole : {A B : Type 0} (o : Outcome A) (f : A → ℕ → List ℕ → Outcome B) (y : B) (to : ℕ) (rest : List ℕ) → then_read o f ≡ Whole y to rest → Twice o f y to rest
then_whole Part f y to rest e = absurd (cc)
then_whole (Bad at r) f y to rest e = absurd (cc)
then_whole (Whole x at mid) f y to rest e = record { value = x; at = at; mid = mid; one = refl; two = e }

pub or_whole : {A B : Type 0} (at : ℕ) (r : Result A Reason) (f : A → Outcome B) (y : B) (to : ℕ) (rest : List ℕ) → or_bad at r f ≡ Whole y to rest → (x : A) × (r ≡ Ok x) × (f x ≡ Whole y to rest)
or_whole at (Ok x) f y to rest e = (x, refl, e)
or_whole at (Err r) f y to rest e = absurd (cc)

-- what stands before and after the gap that is passed over
pub record Past {A : Type 0} (f : ℕ → List ℕ → Outcome A) (at : ℕ) (b : List ℕ) : Type 0 where
  pub gap : List ℕ
  pub first : List ℕ
  pub is_gap : IsGap gap
  pub spelled : b ≡ gap ++ first
  pub reads : past_gap f at b ≡ f (at + length gap) first

none_passed : {A : Type 0} (f : ℕ → List ℕ → Outcome A) (at : ℕ) (b : List ℕ) → past_gap f at b ≡ f at b → Past f at b
none_passed f at b e = record { gap = []; first = b; is_gap = no_line; spelled = refl; reads = e ∙ ap (λ n. f n b) (let n : at ≡ at + 0 = omega arith in n) }

one_passed : {A : Type 0} (f : ℕ → List ℕ → Outcome A) (at n : ℕ) (l b c : List ℕ) → is_empty_line l ≡ true → n ≡ length l → c ≡ l ++ b → past_gap f at c ≡ past_gap f (at + n) b → Past f (at + n) b → Past f at c
one_passed f at n l b c i k s e p =
    record {
      gap = l ++ p.gap;
      first = p.first;
      is_gap = one_more l p.gap i p.is_gap;
      spelled = s ∙ ap (λ t. l ++ t) p.spelled ∙ sym (append_assoc l p.gap p.first);
      reads = e ∙ p.reads ∙ ap (λ m. f m p.first) (let m : at + n + length p.gap ≡ at + length (l ++ p.gap) = omega (arith, length-append l p.gap) in m);
    }

pub gap_back : {A : Type 0} (f : ℕ → List ℕ → Outcome A) (at : ℕ) (b : List ℕ) → Past f at b
gap_back f at [] = none_passed f at [] refl
gap_back f at (b ∷ []) = elim (cases_Bool (eqb b 10)) [
  | inl e ↦ one_passed f at 1 (b ∷ []) [] (b ∷ []) e refl refl (rw e refl) (none_passed f (at + 1) [] refl)
  | inr e ↦ none_passed f at (b ∷ []) (rw e refl)
]
gap_back f at (b ∷ c ∷ bs) = elim (cases_Bool (eqb b 10)) [
  | inl e ↦ one_passed f at 1 (b ∷ []) (c ∷ bs) (b ∷ c ∷ bs) e refl refl (rw e refl) (gap_back f (at + 1) (c ∷ bs))
  | inr e ↦ elim (cases_Bool (eqb b 13)) [
    | inl d ↦ elim (cases_Bool (eqb c 10)) [
      | inl g ↦ one_passed f at 2 (b ∷ c ∷ []) bs (b ∷ c ∷ bs) (rw d g) refl refl (rw (e, d, g) refl) (gap_back f (at + 2) bs)
      | inr g ↦ none_passed f at (b ∷ c ∷ bs) (rw (e, d, g) refl)
    ]
    | inr d ↦ none_passed f at (b ∷ c ∷ bs) (rw (e, d) refl)
  ]
]

pub record ContentFront (n : ℕ) (text : List ℕ) (at : ℕ) (b : List ℕ) (to : ℕ) (rest : List ℕ) : Type 0 where
  pub bytes : List ℕ
  pub is_content : IsContent n text bytes
  pub spelled : b ≡ bytes ++ rest
  pub place : to ≡ at + length bytes

pub content_back : (n at : ℕ) (b text : List ℕ) (to : ℕ) (rest : List ℕ) → content_at n at b ≡ Whole text to rest → ContentFront n text at b to rest
content_back n at b text to rest e = elim (chosen (ltb (length b) n) Part (cond (is_utf8 (take n b)) (Whole (chars (take n b)) (at + n) (drop n b)) (Bad at NotText))) [
  | inl c ↦ absurd (cc)
  | inr c ↦ elim (chosen (is_utf8 (take n b)) (Whole (chars (take n b)) (at + n) (drop n b)) (Bad at NotText)) [
    | inl d ↦
        let len : length (take n b) ≡ n = length-take-le n b (ltb-false _ _ c.0) in
        let w : Whole text to rest ≡ Whole (chars (take n b)) (at + n) (drop n b) = sym e ∙ (c.1 ∙ d.1) in
        let r : rest ≡ drop n b = cc in
        let t : to ≡ at + n = cc in
        let x : text ≡ chars (take n b) = cc in
        record { bytes = take n b; is_content = record { len = len; is_text = subst (λ s. IsTextOf s (take n b)) (sym x) (chars_are_text (take n b) d.0) }; spelled = sym (take-append-drop n b) ∙ ap (λ z. take n b ++ z) (sym r); place = t ∙ ap (λ z. at + z) (sym len) }
    | inr d ↦ absurd (cc)
  ]
]

-- which lines closed a head
pub record ClosedBy (fs : List Field) (n : ℕ) (ls : List (List ℕ)) : Type 0 where
  pub lines : List (List ℕ)
  pub last : List ℕ
  pub others : List (List ℕ)
  pub fields : HoldFields fs lines
  pub empty : IsEmptyLine last
  pub whole : ls ≡ lines ++ (last ∷ others)
  pub len : n ≡ length (join lines ++ last)

one_back : (l : List ℕ) (ls : List (List ℕ)) (fs : List Field) (n : ℕ) → IsLine l → AllByRecursion IsLine ls → is_empty_line l ≡ false → with_field (field_of l) (length l) (fields_of ls) ≡ Closed fs n
    → ((hs : List Field) (j : ℕ) → fields_of ls ≡ Closed hs j → ClosedBy hs j ls) → (c : ClosedBy fs n (l ∷ ls)) × (1 ≤ length c.lines)
one_back l ls fs n k all some e rec =
    let p = field_closed (field_of l) (length l) (fields_of ls) fs n e in
    let c = rec p.1 p.2 p.4 in (
      record {
        lines = l ∷ c.lines;
        last = c.last;
        others = c.others;
        fields = subst (λ x. HoldFields x (l ∷ c.lines)) (sym p.5) (field_read p.0 l p.3, c.fields);
        empty = c.empty;
        whole = ap (λ t. l ∷ t) c.whole;
        len = let m : n ≡ length ((l ++ join c.lines) ++ c.last) = omega (arith, p.6, c.len, length-append (l ++ join c.lines) c.last, length-append l (join c.lines), length-append (join c.lines) c.last) in m;
      },
      omega arith,
    )

pub fields_back : (ls : List (List ℕ)) (fs : List Field) (n : ℕ) → AllByRecursion IsLine ls → fields_of ls ≡ Closed fs n → ClosedBy fs n ls
fields_back [] fs n all e = absurd (cc)
fields_back (l ∷ ls) fs n all e = elim (chosen (is_empty_line l) (Closed [] (length l)) (with_field (field_of l) (length l) (fields_of ls))) [
  | inl c ↦
      let k : n ≡ length l = cc in
      let f : fs ≡ [] = cc in
      record { lines = []; last = l; others = ls; fields = rw f tt; empty = c.0; whole = refl; len = k }
  | inr c ↦ (one_back l ls fs n all.0 all.1 c.0 (sym c.1 ∙ e) (λ hs j h. fields_back ls hs j all.1 h)).0
]

pub some_back : (ls : List (List ℕ)) (fs : List Field) (n : ℕ) → AllByRecursion IsLine ls → some_fields_of ls ≡ Closed fs n → (c : ClosedBy fs n ls) × (1 ≤ length c.lines)
some_back [] fs n all e = absurd (cc)
some_back (l ∷ ls) fs n all e = elim (chosen (is_empty_line l) (Wrong 0 BadLine) (with_field (field_of l) (length l) (fields_of ls))) [
  | inl c ↦ absurd (cc)
  | inr c ↦ one_back l ls fs n all.0 all.1 c.0 (sym c.1 ∙ e) (λ hs j h. fields_back ls hs j all.1 h)
]

-- which lines, with a status line or without, closed a head
pub record HeadBy (fs : List Field) (n : ℕ) (ls : List (List ℕ)) : Type 0 where
  pub status : List (List ℕ)
  pub few : length status ≤ 1
  pub good : AllByRecursion HoldsStatus status
  pub behind_it : List (List ℕ)
  pub size : ℕ
  pub by : ClosedBy fs size behind_it
  pub some : 1 ≤ length by.lines
  pub whole : ls ≡ status ++ behind_it
  pub len : n ≡ length (join status) + size

pub heads_back : (ls : List (List ℕ)) (fs : List Field) (n : ℕ) → AllByRecursion IsLine ls → head_of ls ≡ Closed fs n → HeadBy fs n ls
heads_back [] fs n all e = absurd (cc)
heads_back (l ∷ ls) fs n all e = elim (chosen (is_status l) (cond (is_good_status l) (behind (length l) [] (some_fields_of ls)) (Wrong 0 BadStatus)) (some_fields_of (l ∷ ls))) [
  | inl c ↦ elim (chosen (is_good_status l) (behind (length l) [] (some_fields_of ls)) (Wrong 0 BadStatus)) [
    | inl d ↦
        let p = behind_closed (length l) [] (some_fields_of ls) fs n (sym d.1 ∙ (sym c.1 ∙ e)) in
        let b = some_back ls fs p.1 all.1 (p.2 ∙ ap (λ x. Closed x p.1) (sym p.3)) in
        record { status = l ∷ []; few = omega arith; good = ((all.0, (good_law l).0 d.0), tt); behind_it = ls; size = p.1; by = b.0; some = b.1; whole = refl; len = let k : n ≡ length (l ++ []) + p.1 = omega (arith, p.4, length-append l []) in k }
    | inr d ↦ absurd (cc)
  ]
  | inr c ↦
      let b = some_back (l ∷ ls) fs n all (sym c.1 ∙ e) in
      record { status = []; few = omega arith; good = tt; behind_it = l ∷ ls; size = n; by = b.0; some = b.1; whole = refl; len = let k : n ≡ 0 + n = omega arith in k }
]

-- what stands at the front, and behind it
pub record Front (P : List ℕ → Type 0) (at : ℕ) (b : List ℕ) (to : ℕ) (rest : List ℕ) : Type 0 where
  pub bytes : List ℕ
  pub is : P bytes
  pub spelled : b ≡ bytes ++ rest
  pub place : to ≡ at + length bytes

pub join_split : (a b : List (List ℕ)) → join (a ++ b) ≡ join a ++ join b
join_split [] b = refl
join_split (x ∷ a) b = ap (λ t. x ++ t) (join_split a b) ∙ sym (append_assoc x (join a) (join b))

-- the verdict behind a head that was read
pub settled : (at : ℕ) (b : List ℕ) (v : Verdict) (fs : List Field) (to : ℕ) (rest : List ℕ) → settle at b v ≡ Whole fs to rest → (n : ℕ) × (v ≡ Closed fs n) × (to ≡ at + n) × (rest ≡ drop n b)
settled at b Open fs to rest e = elim (chosen {A = Outcome (List Field)} (ltb (length b) head_limit) Part (Bad at HeadTooLong)) [ inl c ↦ absurd (cc) | inr c ↦ absurd (cc) ]
settled at b (Wrong k r) fs to rest e = absurd (cc)
settled at b (Closed gs n) fs to rest e = (n, ap (λ x. Closed x n) (let h : gs ≡ fs = cc in h), cc, cc)

-- the first of the lines of a window are the front of the bytes
pub window : (b h : List ℕ) (front others : List (List ℕ)) (n : ℕ) → lines_of (take head_limit b) ≡ front ++ others → h ≡ join front → n ≡ length h → (b ≡ h ++ drop n b) × (n ≤ head_limit)
window b h front others n e j l =
    let w : take head_limit b ≡ h ++ (join others ++ begun_from [] (take head_limit b)) =
    sym (lines_join [] (take head_limit b)) ∙ ap (λ t. join t ++ begun_from [] (take head_limit b)) e ∙ ap (λ t. t ++ begun_from [] (take head_limit b)) (join_split front others ∙ ap (λ t. t ++ join others) (sym j)) ∙ append_assoc h (join others) (begun_from [] (take head_limit b)) in
    let whole : b ≡ h ++ ((join others ++ begun_from [] (take head_limit b)) ++ drop head_limit b) =
    sym (take-append-drop head_limit b) ∙ ap (λ t. t ++ drop head_limit b) w ∙ append_assoc h (join others ++ begun_from [] (take head_limit b)) (drop head_limit b) in
    let d : drop n b ≡ (join others ++ begun_from [] (take head_limit b)) ++ drop head_limit b = ap (drop n) whole ∙ drop_at h _ n (sym l) in
    (whole ∙ ap (λ t. h ++ t) (sym d), omega (arith, ap length w, length-append h (join others ++ begun_from [] (take head_limit b)), length-take head_limit b))

pub head_back : (fs : List Field) (at : ℕ) (b : List ℕ) (to : ℕ) (rest : List ℕ) → head_at head_of at b ≡ Whole fs to rest → Front (IsHead fs) at b to rest
head_back fs at b to rest e =
    let s = settled at b (head_of (lines_of (take head_limit b))) fs to rest e in
    let k = heads_back (lines_of (take head_limit b)) fs s.0 (are_lines [] (take head_limit b) tt) s.1 in
    let h : List ℕ = join k.status ++ (join k.by.lines ++ k.by.last) in
    let j : h ≡ join (k.status ++ (k.by.lines ++ k.by.last ∷ [])) = sym (join_split k.status (k.by.lines ++ k.by.last ∷ []) ∙ ap (λ t. join k.status ++ t) (join_split k.by.lines (k.by.last ∷ []) ∙ ap (λ t. join k.by.lines ++ t) (append-nil k.by.last))) in
    let l : lines_of (take head_limit b) ≡ (k.status ++ (k.by.lines ++ k.by.last ∷ [])) ++ k.by.others =
    k.whole ∙ ap (λ t. k.status ++ t) (k.by.whole ∙ sym (append_assoc k.by.lines (k.by.last ∷ []) k.by.others)) ∙ sym (append_assoc k.status (k.by.lines ++ k.by.last ∷ []) k.by.others) in
    let n : s.0 ≡ length h = omega (arith, k.len, k.by.len, length-append (join k.status) (join k.by.lines ++ k.by.last)) in
    let w = window b h (k.status ++ (k.by.lines ++ k.by.last ∷ [])) k.by.others s.0 l j n in
    record {
      bytes = h;
      is = record {
        status = k.status;
        fields = join k.by.lines ++ k.by.last;
        few = k.few;
        good = k.good;
        rest = record { lines = k.by.lines; last = k.by.last; some = k.some; fields = k.by.fields; empty = k.by.empty; spelled = refl };
        spelled = refl;
        short = let short : length h ≤ head_limit = omega (arith, w.1, n) in short;
      };
      spelled = w.0 ∙ ap (λ t. h ++ t) (sym s.3);
      place = s.2 ∙ ap (λ t. at + t) n;
    }

pub patch_head_back : (fs : List Field) (at : ℕ) (b : List ℕ) (to : ℕ) (rest : List ℕ) → head_at some_fields_of at b ≡ Whole fs to rest → Front (IsPatchHead fs) at b to rest
patch_head_back fs at b to rest e =
    let s = settled at b (some_fields_of (lines_of (take head_limit b))) fs to rest e in
    let k = some_back (lines_of (take head_limit b)) fs s.0 (are_lines [] (take head_limit b) tt) s.1 in
    let h : List ℕ = join k.0.lines ++ k.0.last in
    let j : h ≡ join (k.0.lines ++ k.0.last ∷ []) = sym (join_split k.0.lines (k.0.last ∷ []) ∙ ap (λ t. join k.0.lines ++ t) (append-nil k.0.last)) in
    let l : lines_of (take head_limit b) ≡ (k.0.lines ++ k.0.last ∷ []) ++ k.0.others = k.0.whole ∙ sym (append_assoc k.0.lines (k.0.last ∷ []) k.0.others) in
    let n : s.0 ≡ length h = k.0.len in
    let w = window b h (k.0.lines ++ k.0.last ∷ []) k.0.others s.0 l j n in
    record {
      bytes = h;
      is = record {
        is_fields = record { lines = k.0.lines; last = k.0.last; some = k.1; fields = k.0.fields; empty = k.0.empty; spelled = refl };
        short = let short : length h ≤ head_limit = omega (arith, w.1, n) in short;
      };
      spelled = w.0 ∙ ap (λ t. h ++ t) (sym s.3);
      place = s.2 ∙ ap (λ t. at + t) n;
    }

-- one thing and then another
join_fronts : (b h r c rest : List ℕ) → b ≡ h ++ r → r ≡ c ++ rest → b ≡ (h ++ c) ++ rest
join_fronts b h r c rest e d = e ∙ ap (λ t. h ++ t) d ∙ sym (append_assoc h c rest)

join_places : (at a to : ℕ) (h c : List ℕ) → a ≡ at + length h → to ≡ a + length c → to ≡ at + length (h ++ c)
join_places at a to h c e d = omega (arith, length-append h c)

pub patch_back : (used before at : ℕ) (b : List ℕ) (p : Patch) (to : ℕ) (rest : List ℕ) → patch_at used before at b ≡ Whole p to rest → Front (SpellsPatch used before p) at b to rest
patch_back used before at b p to rest e =
    let t = then_whole (head_at some_fields_of at b) _ p to rest e in
    let h = patch_head_back t.value at b t.at t.mid t.one in
    let o = or_whole at (judge_patch used before t.value) _ p to rest t.two in
    let v = then_whole (content_at o.0.len t.at t.mid) _ p to rest o.2 in
    let c = content_back o.0.len t.at t.mid v.value v.at v.mid v.one in
    let same : patch_of o.0 v.value ≡ p = cc in
    let to_is : v.at ≡ to = cc in
    let rest_is : v.mid ≡ rest = cc in
    record {
      bytes = h.bytes ++ c.bytes;
      is = record {
        fields = t.value;
        plan = o.0;
        head = h.bytes;
        content = c.bytes;
        is_head = h.is;
        judged = o.1;
        range = (ap (λ (q : Patch). q.start) (sym same), ap (λ (q : Patch). q.end) (sym same));
        is_content = subst (λ x. IsContent o.0.len x c.bytes) (ap (λ (q : Patch). q.text) same) c.is_content;
        spelled = refl;
      };
      spelled = join_fronts b h.bytes t.mid c.bytes rest h.spelled (c.spelled ∙ ap (λ t. c.bytes ++ t) rest_is);
      place = join_places at t.at to h.bytes c.bytes h.place (sym to_is ∙ c.place);
    }

pub patches_back : (n used before at : ℕ) (b : List ℕ) (ps : List Patch) (to : ℕ) (rest : List ℕ) → patches_at n used before at b ≡ Whole ps to rest → Front (λ c. (length ps ≡ n) × SpellPatches used before ps c) at b to rest
patches_back zero used before at b ps to rest e =
    let k : ps ≡ [] = cc in
    let t : to ≡ at = cc in
    let r : b ≡ rest = cc in
    record { bytes = []; is = subst (λ x. (length x ≡ 0) × SpellPatches used before x []) (sym k) (refl, refl); spelled = r; place = omega (arith, t) }
patches_back (suc n) used before at b ps to rest e =
    let t = then_whole (past_gap (patch_at used before) at b) _ ps to rest e in
    let g = gap_back (patch_at used before) at b in
    let p = patch_back used before (at + length g.gap) g.first t.value t.at t.mid (sym g.reads ∙ t.one) in
    let v = then_whole (patches_at n (used + patch_len t.value) t.value.end t.at t.mid) _ ps to rest t.two in
    let q = patches_back n (used + patch_len t.value) t.value.end t.at t.mid v.value v.at v.mid v.one in
    let same : ps ≡ t.value ∷ v.value = cc in
    let to_is : to ≡ v.at = cc in
    let rest_is : v.mid ≡ rest = cc in
    record {
      bytes = g.gap ++ (p.bytes ++ q.bytes);
      is = subst (λ x. (length x ≡ suc n) × SpellPatches used before x (g.gap ++ (p.bytes ++ q.bytes))) (sym same) (ap suc q.is.0, record { gap = g.gap; first = p.bytes; rest = q.bytes; is_gap = g.is_gap; is_first = p.is; is_rest = q.is.1; spelled = refl });
      spelled = join_fronts b g.gap g.first (p.bytes ++ q.bytes) rest g.spelled (join_fronts g.first p.bytes t.mid q.bytes rest p.spelled (q.spelled ∙ ap (λ t. q.bytes ++ t) rest_is));
      place = omega (arith, to_is, q.place, p.place, length-append g.gap (p.bytes ++ q.bytes), length-append p.bytes q.bytes);
    }

pub change_back : (a : Asks) (at : ℕ) (b : List ℕ) (c : Change) (to : ℕ) (rest : List ℕ) → change_at a at b ≡ Whole c to rest → Front (SpellsChange a c) at b to rest
change_back (asks.Body n) at b c to rest e =
    let v = then_whole (content_at n at b) _ c to rest e in
    let k = content_back n at b v.value v.at v.mid v.one in
    let same : c ≡ Body v.value = cc in
    let to_is : to ≡ v.at = cc in
    let rest_is : v.mid ≡ rest = cc in
    record { bytes = k.bytes; is = subst (λ x. SpellsChange (asks.Body n) x k.bytes) (sym same) k.is_content; spelled = k.spelled ∙ ap (λ t. k.bytes ++ t) rest_is; place = to_is ∙ k.place }
change_back (asks.OnePatch plan) at b c to rest e =
    let v = then_whole (content_at plan.len at b) _ c to rest e in
    let k = content_back plan.len at b v.value v.at v.mid v.one in
    let same : c ≡ Patches (patch_of plan v.value ∷ []) = cc in
    let to_is : to ≡ v.at = cc in
    let rest_is : v.mid ≡ rest = cc in
    record {
      bytes = k.bytes;
      is = subst (λ x. SpellsChange (asks.OnePatch plan) x k.bytes) (sym same) (record { patch = patch_of plan v.value; one = refl; range = (refl, refl); is_content = k.is_content });
      spelled = k.spelled ∙ ap (λ t. k.bytes ++ t) rest_is;
      place = to_is ∙ k.place;
    }
change_back (asks.Patches n) at b c to rest e =
    let v = then_whole (patches_at n 0 0 at b) _ c to rest e in
    let k = patches_back n 0 0 at b v.value v.at v.mid v.one in
    let same : c ≡ Patches v.value = cc in
    let to_is : to ≡ v.at = cc in
    let rest_is : v.mid ≡ rest = cc in
    record { bytes = k.bytes; is = subst (λ x. SpellsChange (asks.Patches n) x k.bytes) (sym same) k.is; spelled = k.spelled ∙ ap (λ t. k.bytes ++ t) rest_is; place = to_is ∙ k.place }

pub update_back : (at : ℕ) (b : List ℕ) (u : UpdateView) (to : ℕ) (rest : List ℕ) → update_at at b ≡ Whole u to rest → Front (SpellsUpdate u) at b to rest
update_back at b u to rest e =
    let t = then_whole (head_at head_of at b) _ u to rest e in
    let h = head_back t.value at b t.at t.mid t.one in
    let o = or_whole at (judge_head t.value) _ u to rest t.two in
    let v = then_whole (change_at o.0.asks t.at t.mid) _ u to rest o.2 in
    let c = change_back o.0.asks t.at t.mid v.value v.at v.mid v.one in
    let same : u ≡ record { id = o.0.id; parents = o.0.parents; change = v.value } = cc in
    let to_is : v.at ≡ to = cc in
    let rest_is : v.mid ≡ rest = cc in
    record {
      bytes = h.bytes ++ c.bytes;
      is = record { fields = t.value; plan = o.0; head = h.bytes; content = c.bytes; is_head = h.is; judged = o.1; id = ap (λ (w : UpdateView). w.id) same; parents = ap (λ (w : UpdateView). w.parents) same; change = subst (λ x. SpellsChange o.0.asks x c.bytes) (sym (ap (λ (w : UpdateView). w.change) same)) c.is; spelled = refl };
      spelled = join_fronts b h.bytes t.mid c.bytes rest h.spelled (c.spelled ∙ ap (λ t. c.bytes ++ t) rest_is);
      place = join_places at t.at to h.bytes c.bytes h.place (sym to_is ∙ c.place);
    }

-- what is next, after its gap
pub record Next (u : UpdateView) (at : ℕ) (b : List ℕ) (to : ℕ) (rest : List ℕ) : Type 0 where
  pub gap : List ℕ
  pub first : List ℕ
  pub is_gap : IsGap gap
  pub is_first : SpellsUpdate u first
  pub spelled : b ≡ gap ++ (first ++ rest)
  pub place : to ≡ at + length gap + length first

pub next_back : (at : ℕ) (b : List ℕ) (u : UpdateView) (to : ℕ) (rest : List ℕ) → next_at at b ≡ Whole u to rest → Next u at b to rest
next_back at b u to rest e =
    let g = gap_back update_at at b in
    let s = update_back (at + length g.gap) g.first u to rest (sym g.reads ∙ e) in
    record { gap = g.gap; first = s.bytes; is_gap = g.is_gap; is_first = s.is; spelled = g.spelled ∙ ap (λ t. g.gap ++ t) s.spelled; place = s.place }
