-- What lines that have ended say of a head.
use Rattle.std.proofs.Common.{◌≡◌, ℕ, ◌+◌, ◌≤◌, true, false, List, [], ◌∷◌, ◌++◌, length, take, drop, refl, sym, ap, subst, ◌∙◌, append_assoc, ltb, arith, Option, Some, None}
use Rattle.std.proofs.lemmas.Bool.{le-ltb}
use Rattle.std.proofs.lemmas.List.{append-nil, length-drop, take_all, drop_all, take-append-drop}
use Rattle.std.specs.Option.{is_some}
use Rattle.std.proofs.lemmas.List.Elements.{filter_map-append}
use Rattle.braid_ids.specs.Lists.{Lacks}
use Rattle.braid_fields.specs.declared.reason.Reason.{Reason}
use Rattle.braid_fields.specs.declared.reason.Reason.TheVariants.{HeadTooLong}
use Rattle.braid_fields.specs.Lines.{is_empty_line}
use Rattle.braid_fields.specs.Fields.{Field, field_of}
use Rattle.braid_fields.proofs.ForStreams.{field_not_empty, field_not_status}
use Rattle.braid_grammar.specs.Lines.{IsLine, lines_of}
use Rattle.braid_grammar.specs.Heads.{Verdict, Open, Wrong, Closed, behind}
use Rattle.braid_grammar.specs.Outcomes.{Bad, Whole, head_limit, settle, head_at}
use Rattle.braid_grammar.proofs.Cut.{lines_line, lines_lack}
use Rattle.braid_grammar.proofs.Stable.{Extends, IsJudge, head_stable}
use Rattle.braid_frame.specs.declared.state.Awaits.{Awaits}
use Rattle.braid_frame.specs.declared.state.Awaits.TheVariants.{UpdateHead, PatchHead, FirstField, MoreFields}
use Rattle.braid_frame.specs.HeadLines.{awaited, fields_in, BeginsWithLine, BeginsSo, AreLines, LineEnded, IsFirst, GoesOn, IsLineLen}

pub behind_twice : (n m : ℕ) (fs gs : List Field) (v : Verdict) → behind n fs (behind m gs v) ≡ behind (n + m) (fs ++ gs) v
behind_twice n m fs gs Open = refl
behind_twice n m fs gs (Wrong k r) = ap (λ t. Wrong t r) (let e : n + (m + k) ≡ (n + m) + k = omega arith in e)
behind_twice n m fs gs (Closed hs k) = ap (λ t. Closed t (n + (m + k))) (sym (append_assoc fs gs hs)) ∙ ap (Closed ((fs ++ gs) ++ hs)) (let e : n + (m + k) ≡ (n + m) + k = omega arith in e)

pub fields_more : (ls ms : List (List ℕ)) → fields_in (ls ++ ms) ≡ fields_in ls ++ fields_in ms
fields_more ls ms = filter_map-append field_of ls ms

-- an empty line holds no field
pub no_field : (l : List ℕ) → is_empty_line l ≡ true → fields_in (l ∷ []) ≡ []
no_field l e = go (field_of l) refl
  where
    go : (o : Option Field) → field_of l ≡ o → fields_in (l ∷ []) ≡ []
    go None h = rw h refl
    go (Some f) h = let both : true ≡ false = sym e ∙ field_not_empty l f h in absurd (cc)

module _ (judge : List (List ℕ) → Verdict) (kept : List ℕ) (line : ℕ) (awaits : Awaits) (k : LineEnded judge kept line awaits) where
  last_len : line + length (drop line kept) ≡ length kept
  last_len = omega (arith, length-drop line kept, k.within)

  -- its first line is not empty, unless the line that ended is the first
  pub ended_begins : (IsFirst awaits → is_empty_line (drop line kept) ≡ false) → BeginsWithLine kept
  ended_begins some = go awaits some k.begins
    where
      first : (n : ℕ) → n ≡ 0 → is_empty_line (drop n kept) ≡ false → IsLine (drop n kept) → BeginsWithLine kept
      first n e h i = record { line = drop n kept; rest = []; is_line = i; some = h; spelled = sym (append-nil kept) ∙ ap (λ m. drop m kept ++ []) (sym e) }

      go : (a : Awaits) → (IsFirst a → is_empty_line (drop line kept) ≡ false) → BeginsSo a kept k.before line → BeginsWithLine kept
      go UpdateHead h b = first line b.0 (h tt) k.is_line
      go PatchHead h b = first line b.0 (h tt) k.is_line
      go FirstField h b = b
      go MoreFields h b = b

  -- the verdict with the line that ended, and others after it
  judged : (ls : List (List ℕ)) → judge (lines_of kept ++ ls) ≡ behind line (fields_in k.before) (awaited awaits (drop line kept ∷ ls))
  judged ls = ap (λ t. judge (t ++ ls)) k.lines ∙ ap judge (append_assoc k.before (drop line kept ∷ []) ls) ∙ k.goes_on (drop line kept ∷ ls)

  one_judged : judge (lines_of kept) ≡ behind line (fields_in k.before) (awaited awaits (drop line kept ∷ []))
  one_judged = ap judge (sym (append-nil (lines_of kept))) ∙ judged []

  -- it is fine: the head goes on behind it
  pub ended_fine : (next : Awaits) → GoesOn awaits (drop line kept) next → AreLines judge kept (length kept) next
  ended_fine next g = record {
    within = omega arith;
    begun = k.begun ∙ sym (drop_all (length kept) kept (omega arith));
    goes_on = λ ls.
        judged ls
        ∙ ap (behind line (fields_in k.before)) (g.goes_on ls)
        ∙ behind_twice line (length (drop line kept)) (fields_in k.before) (fields_in (drop line kept ∷ [])) (awaited next ls)
        ∙ ap (λ n. behind n (fields_in k.before ++ fields_in (drop line kept ∷ [])) (awaited next ls)) last_len
        ∙ ap (λ fs. behind (length kept) fs (awaited next ls)) (sym (ap fields_in k.lines ∙ fields_more k.before (drop line kept ∷ [])));
    begins = later next g.later (ended_begins (λ _. g.some));
  }
    where
      later : (a : Awaits) → (IsFirst a → ⊥) → BeginsWithLine kept → BeginsSo a kept (lines_of kept) (length kept)
      later UpdateHead h b = absurd (h tt)
      later PatchHead h b = absurd (h tt)
      later FirstField h b = b
      later MoreFields h b = b

  -- it is wrong
  pub ended_wrong : (r : Reason) → awaited awaits (drop line kept ∷ []) ≡ Wrong 0 r → judge (lines_of kept) ≡ Wrong line r
  ended_wrong r e = one_judged ∙ ap (behind line (fields_in k.before)) e ∙ ap (λ n. Wrong n r) (let z : line + 0 ≡ line = omega arith in z)

-- the empty line that ends a head
pub ended_last : (judge : List (List ℕ) → Verdict) (kept : List ℕ) (line : ℕ) → LineEnded judge kept line MoreFields → is_empty_line (drop line kept) ≡ true → judge (lines_of kept) ≡ Closed (fields_in (lines_of kept)) (length kept)
ended_last judge kept line k e =
    let closed : awaited MoreFields (drop line kept ∷ []) ≡ Closed [] (length (drop line kept)) = rw e refl in
    let fields : fields_in (lines_of kept) ≡ fields_in k.before ++ [] = ap fields_in k.lines ∙ fields_more k.before (drop line kept ∷ []) ∙ ap (λ t. fields_in k.before ++ t) (no_field (drop line kept) e) in
    one_judged judge kept line MoreFields k ∙ ap (behind line (fields_in k.before)) closed ∙ ap (λ fs. Closed fs (line + length (drop line kept))) (sym fields) ∙ ap (Closed (fields_in (lines_of kept))) (last_len judge kept line MoreFields k)

-- nothing is wrong with lines of which the head goes on
pub still_open : (judge : List (List ℕ) → Verdict) (kept : List ℕ) (line : ℕ) (awaits : Awaits) → AreLines judge kept line awaits → judge (lines_of kept) ≡ Open
still_open judge kept line awaits k = ap judge (sym (append-nil (lines_of kept))) ∙ k.goes_on [] ∙ ap (behind line (fields_in (lines_of kept))) (none awaits)
  where
    none : (a : Awaits) → awaited a [] ≡ Open
    none UpdateHead = refl
    none PatchHead = refl
    none FirstField = refl
    none MoreFields = refl

-- a head within the limit, by what its lines say
pub by_verdict : (judge : List (List ℕ) → Verdict) (at : ℕ) (kept : List ℕ) (v : Verdict) → length kept ≤ head_limit → judge (lines_of kept) ≡ v → head_at judge at kept ≡ settle at kept v
by_verdict judge at kept v s e = ap (λ t. settle at kept (judge (lines_of t))) (take_all head_limit kept s) ∙ ap (settle at kept) e

pub full_head : (judge : List (List ℕ) → Verdict) (at : ℕ) (kept : List ℕ) → judge (lines_of kept) ≡ Open → length kept ≡ head_limit → head_at judge at kept ≡ Bad at HeadTooLong
full_head judge at kept o l =
    let full : ltb (length kept) head_limit ≡ false = le-ltb (length kept) head_limit (omega (arith, l)) in
    by_verdict judge at kept Open (omega (arith, l)) o ∙ rw full refl

pub wrong_head : (judge : List (List ℕ) → Verdict) (at : ℕ) (kept : List ℕ) (line : ℕ) (r : Reason) → judge (lines_of kept) ≡ Wrong line r → length kept ≤ head_limit → head_at judge at kept ≡ Bad (at + line) r
wrong_head judge at kept line r w s = by_verdict judge at kept (Wrong line r) s w

-- a head that is whole, whatever follows it
pub whole_head : (judge : List (List ℕ) → Verdict) → IsJudge judge → (at : ℕ) (kept : List ℕ) (fs : List Field) → length kept ≤ head_limit → judge (lines_of kept) ≡ Closed fs (length kept) → (more : List ℕ) → head_at judge at (kept ++ more) ≡ Whole fs (at + length kept) more
whole_head judge j at kept fs s e more =
    let w : head_at judge at kept ≡ Whole fs (at + length kept) [] = by_verdict judge at kept (Closed fs (length kept)) s e ∙ ap (Whole fs (at + length kept)) (drop_all (length kept) kept (omega arith)) in
    subst (λ o. Extends o (head_at judge at (kept ++ more)) more) w (head_stable judge j at kept more)

-- a field line: the head goes on behind it
pub field_goes_on : (awaits : Awaits) (l : List ℕ) → is_empty_line l ≡ false → is_some (field_of l) ≡ true → GoesOn awaits l MoreFields
field_goes_on awaits l e s = go (field_of l) refl
  where
    by_field : (a : Awaits) (f : Field) → field_of l ≡ Some f → (ls : List (List ℕ)) → awaited a (l ∷ ls) ≡ behind (length l) (fields_in (l ∷ [])) (awaited MoreFields ls)
    by_field UpdateHead f h ls = let n = field_not_status l f h in rw (n, e, h) refl
    by_field PatchHead f h ls = rw (e, h) refl
    by_field FirstField f h ls = rw (e, h) refl
    by_field MoreFields f h ls = rw (e, h) refl

    go : (o : Option Field) → field_of l ≡ o → GoesOn awaits l MoreFields
    go None h = absurd (let z : false ≡ true = sym (ap is_some h) ∙ s in cc)
    go (Some f) h = record { some = e; later = λ x. x; goes_on = by_field awaits f h }

-- the field of a line, where it holds one
abbrev pub found_in : Option Field → List Field
found_in None = []
found_in (Some f) = f ∷ []

-- the fields of a head's lines, up to and with one more line
pub fields_line : (head rest line after : List ℕ) (n : ℕ) (fs : List Field) (o : Option Field) → IsLineLen rest (Some n) → line ≡ take n rest → after ≡ drop n rest → o ≡ field_of line → fields_in (lines_of head) ≡ fs ++ fields_in (lines_of rest) → fields_in (lines_of head) ≡ (fs ++ found_in o) ++ fields_in (lines_of after)
fields_line head rest line after n fs o k l a f e =
    let lines : lines_of rest ≡ line ∷ lines_of after = ap lines_of (sym (take-append-drop n rest)) ∙ lines_line (take n rest) (drop n rest) k.2 ∙ ap (λ t. t ∷ lines_of (drop n rest)) (sym l) ∙ ap (λ t. line ∷ lines_of t) (sym a) in
    e ∙ ap (λ ls. fs ++ fields_in ls) lines ∙ ap (λ t. fs ++ t) (fields_more (line ∷ []) (lines_of after) ∙ ap (λ t. t ++ fields_in (lines_of after)) (one (field_of line) refl)) ∙ sym (append_assoc fs (found_in o) (fields_in (lines_of after)))
  where
    one : (q : Option Field) → field_of line ≡ q → fields_in (line ∷ []) ≡ found_in o
    one None h = rw h (ap found_in (let z : None ≡ o = sym (f ∙ h) in z))
    one (Some g) h = rw h (ap found_in (let z : Some g ≡ o = sym (f ∙ h) in z))

-- no line ends in what is left
pub fields_end : (head rest : List ℕ) (fs : List Field) → Lacks 10 rest → fields_in (lines_of head) ≡ fs ++ fields_in (lines_of rest) → fs ≡ fields_in (lines_of head)
fields_end head rest fs h e =
    let none : lines_of rest ≡ [] = ap lines_of (sym (append-nil rest)) ∙ lines_lack [] rest [] h in
    sym (e ∙ ap (λ ls. fs ++ fields_in ls) none ∙ append-nil fs)
