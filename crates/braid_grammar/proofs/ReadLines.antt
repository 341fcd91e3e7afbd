-- Reading lines of whole slices.
use Rattle.std.proofs.Common.{◌≡◌, ◌≢◌, ℕ, ◌+◌, true, false, List, [], ◌∷◌, ◌++◌, length, codes, refl, sym, ap, ◌∙◌, append_assoc, arith, ◌<◌, length-append, subst, inl, inr, Some, None, Result, min, take, ltb, ◌≤◌}
use Rattle.std.proofs.lemmas.Bool.{cases_Bool, lt-ltb, le-ltb, ltb-true, ltb-false}
use Rattle.std.proofs.lemmas.List.{append-nil, take_all, length-take}
use Rattle.std.specs.List.{AllByRecursion}
use Rattle.std.specs.Result.{IfOk}
use Rattle.braid_ids.specs.Lists.{Lacks}
use Rattle.braid_fields.specs.declared.parts.HeadFields.{HeadFields}
use Rattle.braid_ids.specs.declared.memory.Memory.{Memory}
use Rattle.braid_fields.specs.declared.reason.Reason.{Reason}
use Rattle.braid_fields.specs.declared.reason.Reason.TheVariants.{BadLine, BadStatus, HeadTooLong}
use Rattle.braid_fields.specs.Statuses.{is_status, is_good_status}
use Rattle.braid_fields.specs.Lines.{is_empty_line}
use Rattle.braid_fields.specs.Fields.{Field, field_of}
use Rattle.braid_fields.specs.Known.{known}
use Rattle.braid_fields.proofs.Contents.{empty_law}
use Rattle.braid_grammar.specs.declared.found.Found.{Found}
use Rattle.braid_grammar.specs.declared.head.HeadKind.{HeadKind}
use Rattle.braid_grammar.specs.declared.head.HeadKind.TheVariants.{OfUpdate, OfPatch}
use Rattle.braid_grammar.specs.declared.head.LinesVerdict.{LinesVerdict}
use Rattle.braid_grammar.specs.declared.head.LinesVerdict.TheVariants as said
use Rattle.braid_grammar.specs.Lines.{IsLine, join, lines_of, lines_from, begun_from}
use Rattle.braid_grammar.specs.Heads.{Verdict, Open, Wrong, Closed, behind, with_field, fields_of, some_fields_of, head_of}
use Rattle.braid_grammar.specs.Outcomes.{Part, Bad, head_limit, settle, head_at}
use Rattle.braid_grammar.specs.Streams.{IsEmptyLine, IsGap, no_line, one_more}
use Rattle.braid_grammar.specs.FaultPlaces.{Owner, AnUpdate, APatch}
use Rattle.braid_grammar.specs.Readers.{IsBehindGap, judge_of, IsVerdict, IsWithin, FindsHead}
use Rattle.braid_grammar.proofs.Cut.{lines_line, lines_lack, lines_join, are_lines}
use Rattle.braid_grammar.proofs.Stable.{judge_fields, judge_heads}
use Rattle.braid_grammar.proofs.Readers.{limit_is}
use Rattle.braid_grammar.proofs.WrongLines.{verdict_of, lines_wrong}
use Rattle.braid_grammar.proofs.Back.{join_split}
use Rattle.braid_grammar.proofs.Canonical.{gap_append}

-- bytes that begin with neither end of a line begin with no empty line
pub no_empty_front : (bytes : List ℕ) → ((rest : List ℕ) → bytes ≢ codes "\n" ++ rest) → ((rest : List ℕ) → bytes ≢ codes "\r\n" ++ rest) → (line rest : List ℕ) → IsEmptyLine line → bytes ≡ line ++ rest → ⊥
no_empty_front bytes h k line rest i e = elim ((empty_law line).0 i) [
  | inl w ↦ h rest (e ∙ ap (λ t. t ++ rest) w)
  | inr w ↦ k rest (e ∙ ap (λ t. t ++ rest) w)
]

-- a gap stands before the rest
pub record IsGapBefore (bytes rest : List ℕ) : Type 0 where
  pub gap : List ℕ
  pub is_gap : IsGap gap
  pub spelled : bytes ≡ gap ++ rest

pub gap_begins : (bytes : List ℕ) → IsGapBefore bytes bytes
gap_begins bytes = record { gap = []; is_gap = no_line; spelled = refl }

pub gap_goes_on : (bytes rest line next : List ℕ) → IsGapBefore bytes rest → IsEmptyLine line → rest ≡ line ++ next → IsGapBefore bytes next
gap_goes_on bytes rest line next g i e = record {
  gap = g.gap ++ line;
  is_gap = gap_append g.gap line g.is_gap (subst IsGap (append-nil line) (one_more line [] i no_line));
  spelled = g.spelled ∙ ap (λ t. g.gap ++ t) e ∙ sym (append_assoc g.gap line next);
}

pub gap_ends : (bytes rest : List ℕ) → IsGapBefore bytes rest → ((line more : List ℕ) → IsEmptyLine line → rest ≡ line ++ more → ⊥) → IsBehindGap bytes rest
gap_ends bytes rest g h = record { gap = g.gap; is_gap = g.is_gap; stops = h; spelled = g.spelled }

pub gap_shorter : (line rest next : List ℕ) → IsEmptyLine line → rest ≡ line ++ next → length next < length rest
gap_shorter [] rest next i e = absurd (cc)
gap_shorter (x ∷ line) rest next i e = omega (arith, ap length e, length-append (x ∷ line) next)

-- bytes in which no line ends
pub no_lines : (bytes : List ℕ) → Lacks 10 bytes → lines_of bytes ≡ []
no_lines bytes h = ap (lines_from []) (sym (append-nil bytes)) ∙ lines_lack [] bytes [] h

-- bytes that begin with a line
pub lines_begin : (bytes line rest : List ℕ) → IsLine line → bytes ≡ line ++ rest → lines_of bytes ≡ line ∷ lines_of rest
lines_begin bytes line rest k e = ap (lines_from []) e ∙ lines_line line rest k

pub behind_nothing : (v : Verdict) → behind 0 [] v ≡ v
behind_nothing Open = refl
behind_nothing (Wrong k r) = ap (λ n. Wrong n r) (let e : 0 + k ≡ k = omega arith in e)
behind_nothing (Closed fs k) = ap (Closed fs) (let e : 0 + k ≡ k = omega arith in e)

pub behind_twice : (n k : ℕ) (fs gs : List Field) (v : Verdict) → behind n fs (behind k gs v) ≡ behind (n + k) (fs ++ gs) v
behind_twice n k fs gs Open = refl
behind_twice n k fs gs (Wrong j r) = ap (λ m. Wrong m r) (let e : n + (k + j) ≡ n + k + j = omega arith in e)
behind_twice n k fs gs (Closed hs j) = rw (sym (append_assoc fs gs hs)) (ap (Closed ((fs ++ gs) ++ hs)) (let e : n + (k + j) ≡ n + k + j = omega arith in e))

-- the field lines that were passed have these known fields, and what follows them says the rest
pub record ArePassed (before : ℕ) (bytes : List ℕ) (fields : HeadFields) (count : ℕ) (rest : List ℕ) : Type 0 where
  pub passed : List Field
  pub known : fields ≡ known passed
  pub said : behind before [] (fields_of (lines_of bytes)) ≡ behind count passed (fields_of (lines_of rest))
  pub room : count + length rest ≡ before + length bytes

pub none_passed : (before : ℕ) (bytes : List ℕ) (fields : HeadFields) → fields ≡ known [] → ArePassed before bytes fields before bytes
none_passed before bytes fields e = record { passed = []; known = e; said = refl; room = refl }

-- what a line says where it is not empty
pub line_says : (line rest : List ℕ) (bytes : List ℕ) → IsLine line → bytes ≡ line ++ rest → is_empty_line line ≡ false → fields_of (lines_of bytes) ≡ with_field (field_of line) (length line) (fields_of (lines_of rest))
line_says line rest bytes k e some = ap fields_of (lines_begin bytes line rest k e) ∙ rw some refl

pub one_passed : (before : ℕ) (bytes : List ℕ) (fields new : HeadFields) (count : ℕ) (rest line next : List ℕ) (f : Field) → ArePassed before bytes fields count rest → IsLine line → rest ≡ line ++ next → is_empty_line line ≡ false → field_of line ≡ Some f
    → ((fs : List Field) → fields ≡ known fs → new ≡ known (fs ++ f ∷ [])) → ArePassed before bytes new (count + length line) next
one_passed before bytes fields new count rest line next f p k e some holds add = record {
  passed = p.passed ++ f ∷ [];
  known = add p.passed p.known;
  said = p.said ∙ ap (behind count p.passed) (line_says line next rest k e some ∙ ap (λ o. with_field o (length line) (fields_of (lines_of next))) holds) ∙ behind_twice count (length line) p.passed (f ∷ []) (fields_of (lines_of next));
  room = omega (arith, p.room, ap length e, length-append line next);
}

pub passed_wrong : (before : ℕ) (bytes : List ℕ) (fields : HeadFields) (count : ℕ) (rest line next : List ℕ) → ArePassed before bytes fields count rest → IsLine line → rest ≡ line ++ next → is_empty_line line ≡ false → field_of line ≡ None
    → behind before [] (fields_of (lines_of bytes)) ≡ Wrong count BadLine
passed_wrong before bytes fields count rest line next p k e some holds =
    p.said ∙ ap (behind count p.passed) (line_says line next rest k e some ∙ ap (λ o. with_field o (length line) (fields_of (lines_of next))) holds) ∙ ap (λ n. Wrong n BadLine) (let z : count + 0 ≡ count = omega arith in z)

pub passed_open : (before : ℕ) (bytes : List ℕ) (fields : HeadFields) (count : ℕ) (rest : List ℕ) → ArePassed before bytes fields count rest → Lacks 10 rest → behind before [] (fields_of (lines_of bytes)) ≡ Open
passed_open before bytes fields count rest p h = p.said ∙ ap (λ ls. behind count p.passed (fields_of ls)) (no_lines rest h)

-- field lines that begin with a line that is not empty
pub some_are : (bytes line rest : List ℕ) → IsLine line → bytes ≡ line ++ rest → is_empty_line line ≡ false → some_fields_of (lines_of bytes) ≡ fields_of (lines_of bytes)
some_are bytes line rest k e some = let ls = lines_begin bytes line rest k e in rw (ls, some) refl

pub head_is_plain : (bytes line rest : List ℕ) → IsLine line → bytes ≡ line ++ rest → is_status line ≡ false → head_of (lines_of bytes) ≡ behind 0 [] (some_fields_of (lines_of bytes))
head_is_plain bytes line rest k e plain = let ls = lines_begin bytes line rest k e in rw (ls, plain) (sym (behind_nothing (some_fields_of (line ∷ lines_of rest))))

pub head_is_bad : (bytes line rest : List ℕ) → IsLine line → bytes ≡ line ++ rest → is_status line ≡ true → is_good_status line ≡ false → head_of (lines_of bytes) ≡ Wrong 0 BadStatus
head_is_bad bytes line rest k e status bad = let ls = lines_begin bytes line rest k e in rw (ls, status, bad) refl

pub head_has_status : (bytes line rest : List ℕ) → IsLine line → bytes ≡ line ++ rest → is_status line ≡ true → is_good_status line ≡ true → head_of (lines_of bytes) ≡ behind (length line) [] (some_fields_of (lines_of rest))
head_has_status bytes line rest k e status good = let ls = lines_begin bytes line rest k e in rw (ls, status, good) refl

-- the same verdict in an answer that may be want of memory
pub said_same : (r : Result LinesVerdict Memory) (v w : Verdict) → v ≡ w → IfOk r (λ said. IsVerdict said w) → IfOk r (λ said. IsVerdict said v)
said_same r v w e h = subst (λ x. IfOk r (λ said. IsVerdict said x)) (sym e) h

-- what lines say stands within them
lines_len : (bytes : List ℕ) → length (join (lines_of bytes)) ≤ length bytes
lines_len bytes = omega (arith, ap length (lines_join [] bytes), length-append (join (lines_of bytes)) (begun_from [] bytes))

join_len : (before : List (List ℕ)) (line : List ℕ) (others ls : List (List ℕ)) → ls ≡ before ++ (line ∷ others) → length (join before) ≤ length (join ls)
join_len before line others ls e = omega (arith, ap length (ap join e ∙ join_split before (line ∷ others)), length-append (join before) (join (line ∷ others)))

wrong_within : (owner : Owner) (ls : List (List ℕ)) (k : ℕ) (r : Reason) → AllByRecursion IsLine ls → verdict_of owner ls ≡ Wrong k r → k ≤ length (join ls)
wrong_within owner ls k r all e = elim (lines_wrong owner ls k r all e) [
  | inl w ↦ omega (arith, w.place, join_len (w.statuses ++ w.fields) w.line w.others ls w.whole)
  | inr w ↦ omega (arith, w.place)
]

pub within : (kind : HeadKind) (bytes : List ℕ) (said : LinesVerdict) → IsVerdict said (judge_of kind (lines_of bytes)) → IsWithin said (length bytes)
within kind bytes said.Open h = tt
within OfUpdate bytes (said.Wrong k r) h = omega (arith, wrong_within AnUpdate (lines_of bytes) k r (are_lines [] bytes tt) h, lines_len bytes)
within OfPatch bytes (said.Wrong k r) h = omega (arith, wrong_within (APatch 0 0) (lines_of bytes) k r (are_lines [] bytes tt) h, lines_len bytes)
within OfUpdate bytes (said.Closed fields k) h = omega (arith, judge_heads.within (lines_of bytes) h.0 k h.2, lines_len bytes)
within OfPatch bytes (said.Closed fields k) h = omega (arith, judge_fields.within (lines_of bytes) h.0 k h.2, lines_len bytes)

-- more bytes, of which these are the window
pub within_more : (said : LinesVerdict) (n m : ℕ) → n ≤ m → IsWithin said n → IsWithin said m
within_more said.Open n m l h = tt
within_more (said.Wrong k r) n m l h = omega arith
within_more (said.Closed fields k) n m l h = omega arith

pub window_is : (n : ℕ) (bytes : List ℕ) → n ≡ min (length bytes) head_limit → take n bytes ≡ take head_limit bytes
window_is n bytes e = ap (λ m. take m bytes) e ∙ take_least (length bytes) head_limit bytes refl
  where
    take_least : (n limit : ℕ) (bytes : List ℕ) → n ≡ length bytes → take (min n limit) bytes ≡ take limit bytes
    take_least n limit bytes e = elim (cases_Bool (ltb n limit)) [
      | inl l ↦ let m : min n limit ≡ length bytes = omega (arith, ltb-true n limit l) in rw m (take_all (length bytes) bytes (omega arith) ∙ sym (take_all limit bytes (omega (arith, ltb-true n limit l))))
      | inr l ↦ let m : min n limit ≡ limit = omega (arith, ltb-false n limit l) in rw m refl
    ]

-- what is found where lines say so
pub found_open : (at n : ℕ) (bytes : List ℕ) (v : Verdict) → n ≡ length bytes → n < head_limit → v ≡ Open → settle at bytes v ≡ Part
found_open at n bytes v e l h = let c : ltb (length bytes) head_limit ≡ true = lt-ltb (length bytes) head_limit (omega arith) in rw (h, c) refl

pub found_long : (at n : ℕ) (bytes : List ℕ) (v : Verdict) → n ≡ length bytes → head_limit ≤ n → v ≡ Open → settle at bytes v ≡ Bad at HeadTooLong
found_long at n bytes v e l h = let c : ltb (length bytes) head_limit ≡ false = le-ltb (length bytes) head_limit (omega arith) in rw (h, c) refl

-- the head that is found is the one that the window's lines say
pub head_found : (kind : HeadKind) (n at : ℕ) (bytes : List ℕ) (said : LinesVerdict) (found : Found HeadFields) → n ≡ min (length bytes) 16_384 → IsVerdict said (judge_of kind (lines_of (take n bytes)))
    → ((v : Verdict) → IsVerdict said v → FindsHead found (settle at bytes v)) → FindsHead found (head_at (judge_of kind) at bytes)
head_found kind n at bytes said found m h f =
    let w : take n bytes ≡ take head_limit bytes = window_is n bytes (m ∙ ap (λ x. min (length bytes) x) (sym limit_is)) in
    f (judge_of kind (lines_of (take head_limit bytes))) (subst (λ t. IsVerdict said (judge_of kind (lines_of t))) w h)

pub head_within : (kind : HeadKind) (n : ℕ) (bytes : List ℕ) (said : LinesVerdict) → IsVerdict said (judge_of kind (lines_of (take n bytes))) → IsWithin said (length bytes)
head_within kind n bytes said h = within_more said (length (take n bytes)) (length bytes) (omega (arith, length-take n bytes)) (within kind (take n bytes) said h)
