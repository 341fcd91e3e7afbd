-- Lines of a head as more bytes of it are kept.
use Rattle.std.proofs.Common.{◌≡◌, ◌≢◌, ℕ, ◌+◌, ◌-◌, ◌<◌, ◌≤◌, true, false, min, List, [], ◌∷◌, ◌++◌, length, take, drop, refl, sym, ap, subst, ◌∙◌, append_assoc, arith, length-append, eqb, eq-eqb, inl, inr, ◌⊎◌, Some}
use Rattle.std.proofs.lemmas.List.{append-nil, drop-append-le, length-take, take-take}
use Rattle.std.proofs.lemmas.Bool.{cases_order, cases_Bool}
use Rattle.braid_ids.specs.Lists.{Lacks}
use Rattle.braid_fields.specs.Lines.{is_empty_line}
use Rattle.braid_grammar.specs.Lines.{IsLine, lines_from, lines_of, begun_from}
use Rattle.braid_grammar.specs.Heads.{Verdict, Open, Wrong, Closed, behind, head_of, some_fields_of}
use Rattle.braid_grammar.specs.Outcomes.{head_limit}
use Rattle.braid_grammar.specs.Streams.{IsGap, no_line, one_more}
use Rattle.braid_grammar.proofs.Cut.{lines_more, begun_more, lines_lack, begun_lack, lines_line}
use Rattle.braid_grammar.proofs.Spelled.{Begins, line_of_empty}
use Rattle.braid_frame.specs.declared.state.Awaits.{Awaits}
use Rattle.braid_frame.specs.declared.state.Awaits.TheVariants.{UpdateHead, PatchHead, FirstField, MoreFields}
use Rattle.braid_frame.specs.declared.lines.Kept.TheVariants.{Line, Part}
use Rattle.braid_frame.specs.HeadLines.{awaited, fields_in, BeginsWithLine, BeginsSo, AreLines, LineEnded, IsLineLen, Keeps, KeepsLine}

-- the longest head has 16,384 bytes
pub limit_is : head_limit ≡ 16_384
unfolding head_limit
limit_is = refl

-- a line has its end at least
pub line_some : (l : List ℕ) → IsLine l → 1 ≤ length l
line_some l k = omega (arith, ap length k.ends, length-append k.inside (10 ∷ []))

pub as_begins : (b : List ℕ) → BeginsWithLine b → Begins b
as_begins b k = record { line = k.line; rest = k.rest; is_line = k.is_line; some = k.some; spelled = k.spelled }

pub begins_more : (b more : List ℕ) → BeginsWithLine b → BeginsWithLine (b ++ more)
begins_more b more k = record { line = k.line; rest = k.rest ++ more; is_line = k.is_line; some = k.some; spelled = ap (λ t. t ++ more) k.spelled ∙ append_assoc k.line k.rest more }

-- a line that is not empty is no gap
pub begins_no_gap : (b : List ℕ) → BeginsWithLine b → IsGap b → ⊥
begins_no_gap b k no_line = omega (arith, ap length k.spelled, length-append k.line k.rest, line_some k.line k.is_line)
begins_no_gap b k (one_more l rest e g) =
    let lines : l ∷ lines_of rest ≡ k.line ∷ lines_of k.rest = sym (lines_line l rest (line_of_empty l e)) ∙ ap lines_of k.spelled ∙ lines_line k.line k.rest k.is_line in
    let same : l ≡ k.line = cc in
    let both : true ≡ false = sym e ∙ ap is_empty_line same ∙ k.some in
    cc

-- no byte of a longer list either
pub lacks_push : (byte : ℕ) (s : List ℕ) (b : ℕ) → Lacks byte s → b ≢ byte → Lacks byte (s ++ b ∷ [])
lacks_push byte [] b h e = (e, tt)
lacks_push byte (c ∷ cs) b h e = (h.0, lacks_push byte cs b h.1 e)

lacks_both : (byte : ℕ) (s t : List ℕ) → Lacks byte s → Lacks byte t → Lacks byte (s ++ t)
lacks_both byte [] t h k = k
lacks_both byte (c ∷ cs) t h k = (h.0, lacks_both byte cs t h.1 k)

pub lacks_line : (s : List ℕ) (b : ℕ) → Lacks 10 s → b ≡ 10 → IsLine (s ++ b ∷ [])
lacks_line s b h e = record { inside = s; lacks = h; ends = ap (λ x. s ++ x ∷ []) e }

begun_lacks : (s b : List ℕ) → Lacks 10 s → Lacks 10 (begun_from s b)
begun_lacks s [] h = h
begun_lacks s (b ∷ bs) h = elim (cases_Bool (eqb b 10)) [
  | inl e ↦ rw e (begun_lacks [] bs tt)
  | inr e ↦ rw e (begun_lacks (s ++ b ∷ []) bs (lacks_push 10 s b h (λ same. let w : true ≡ false = sym (eq-eqb b 10 same) ∙ e in cc)))
]

-- behind no byte and no field
pub behind_none : (v : Verdict) → behind 0 [] v ≡ v
behind_none Open = refl
behind_none (Wrong k r) = ap (λ n. Wrong n r) (let n : 0 + k ≡ k = omega arith in n)
behind_none (Closed fs k) = ap (Closed fs) (let n : 0 + k ≡ k = omega arith in n)

module _ (judge : List (List ℕ) → Verdict) (kept x : List ℕ) (line : ℕ) (awaits : Awaits) (k : AreLines judge kept line awaits) where
  -- the line that had begun, with what came
  begun_is : begun_from [] kept ++ x ≡ drop line (kept ++ x)
  begun_is = ap (λ t. t ++ x) k.begun ∙ sym (drop-append-le line kept x k.within)

  within_more : line ≤ length (kept ++ x)
  within_more = omega (arith, k.within, length-append kept x)

  begins_so_more : (a : Awaits) → BeginsSo a kept (lines_of kept) line → BeginsSo a (kept ++ x) (lines_of kept) line
  begins_so_more UpdateHead h = h
  begins_so_more PatchHead h = h
  begins_so_more FirstField h = begins_more kept x h
  begins_so_more MoreFields h = begins_more kept x h

  -- no line has ended
  pub still_lines : Lacks 10 x → AreLines judge (kept ++ x) line awaits
  still_lines h =
      let none : lines_from (begun_from [] kept) x ≡ [] = ap (lines_from (begun_from [] kept)) (sym (append-nil x)) ∙ lines_lack (begun_from [] kept) x [] h in
      let same : lines_of (kept ++ x) ≡ lines_of kept = lines_more [] kept x ∙ ap (λ t. lines_of kept ++ t) none ∙ append-nil (lines_of kept) in
      record {
        within = within_more;
        begun = begun_more [] kept x ∙ begun_lack (begun_from [] kept) x h ∙ begun_is;
        goes_on = λ ls. ap (λ t. judge (t ++ ls)) same ∙ k.goes_on ls ∙ ap (λ t. behind line (fields_in t) (awaited awaits ls)) (sym same);
        begins = subst (λ ls. BeginsSo awaits (kept ++ x) ls line) (sym same) (begins_so_more awaits k.begins);
      }

  -- a line has ended
  pub line_ended : IsLine x → LineEnded judge (kept ++ x) line awaits
  line_ended h =
      let end : begun_from [] kept ++ x ≡ (begun_from [] kept ++ h.inside) ++ 10 ∷ [] = ap (λ t. begun_from [] kept ++ t) h.ends ∙ sym (append_assoc (begun_from [] kept) h.inside (10 ∷ [])) in
      let one : lines_from (begun_from [] kept) x ≡ drop line (kept ++ x) ∷ [] =
      ap (lines_from (begun_from [] kept)) h.ends ∙ lines_lack (begun_from [] kept) h.inside (10 ∷ []) h.lacks ∙ ap (λ t. t ∷ []) (sym end ∙ begun_is) in
      record {
        before = lines_of kept;
        lines = lines_more [] kept x ∙ ap (λ t. lines_of kept ++ t) one;
        is_line = record { inside = begun_from [] kept ++ h.inside; lacks = lacks_both 10 (begun_from [] kept) h.inside (begun_lacks [] kept tt) h.lacks; ends = sym begun_is ∙ end };
        begun = begun_more [] kept x ∙ ap (begun_from (begun_from [] kept)) h.ends ∙ begun_more (begun_from [] kept) h.inside (10 ∷ []);
        within = within_more;
        goes_on = k.goes_on;
        begins = begins_so_more awaits k.begins;
      }

-- nothing is kept
pub no_lines : (judge : List (List ℕ) → Verdict) (awaits : Awaits) → BeginsSo awaits [] [] 0 → ((ls : List (List ℕ)) → judge ls ≡ awaited awaits ls) → AreLines judge [] 0 awaits
no_lines judge awaits b same = record { within = omega arith; begun = refl; goes_on = λ ls. same ls ∙ sym (behind_none (awaited awaits ls)); begins = b }

-- where nothing is kept a head begins
pub clean_update : (kept : List ℕ) (line : ℕ) → kept ≡ [] → line ≡ 0 → AreLines head_of kept line UpdateHead × (length kept < head_limit)
clean_update kept line k l = rw (k, l) (no_lines head_of UpdateHead (refl, refl) (λ ls. refl), omega (arith, limit_is))

pub clean_patch : (kept : List ℕ) (line : ℕ) → kept ≡ [] → line ≡ 0 → AreLines some_fields_of kept line PatchHead × (length kept < head_limit)
clean_patch kept line k l = rw (k, l) (no_lines some_fields_of PatchHead (refl, refl) (λ ls. refl), omega (arith, limit_is))

-- the front of a piece that was kept
pub keeps_front : (old new piece : List ℕ) (most count : ℕ) → most ≡ min (length piece) (16_384 - length old) → 0 < count → count ≤ length (take most piece) → length old < head_limit → new ≡ old ++ take count piece → Keeps old new piece count
keeps_front old new piece most count m some room short e = record {
  kept = e;
  some = some;
  within = omega (arith, length-take most piece);
  short = omega (arith, limit_is, ap length e, length-append old (take count piece), length-take count piece, length-take most piece);
}

pub keeps_line : (old new piece : List ℕ) (most count : ℕ) → most ≡ min (length piece) (16_384 - length old) → IsLineLen (take most piece) (Some count) → length old < head_limit → new ≡ old ++ take count piece → KeepsLine old new piece (Line count)
keeps_line old new piece most count m k short e =
    let l : count ≤ most = omega (arith, k.1, length-take most piece) in
    (keeps_front old new piece most count m k.0 k.1 short e, subst IsLine (take-take count most piece l) k.2)

-- where no line ends in it, the piece or the head's room is used up
pub part_ends : (old new piece : List ℕ) (most : ℕ) → most ≡ min (length piece) (16_384 - length old) → length old < head_limit → new ≡ old ++ take most piece → (most ≡ length piece) ⊎ (length new ≡ head_limit)
part_ends old new piece most m short e = go (cases_order most (length piece))
  where
    go : (most ≡ length piece) ⊎ ((most < length piece) ⊎ (length piece < most)) → (most ≡ length piece) ⊎ (length new ≡ head_limit)
    go (inl h) = inl h
    go (inr (inl h)) = inr (omega (arith, limit_is, m, h, short, ap length e, length-append old (take most piece), length-take most piece))
    go (inr (inr h)) = absurd (omega (arith, m, h))

pub keeps_part : (old new piece : List ℕ) (most : ℕ) → most ≡ min (length piece) (16_384 - length old) → 0 < length piece → Lacks 10 (take most piece) → length old < head_limit → new ≡ old ++ take most piece → KeepsLine old new piece (Part most)
keeps_part old new piece most m some k short e = (
  keeps_front old new piece most most m (omega (arith, limit_is)) (omega (arith, length-take most piece)) short e,
  k,
  part_ends old new piece most m short e,
)
