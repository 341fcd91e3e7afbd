-- Status lines: what is computed of a line is what it is; and no line of fields, and no empty line, is taken for one.
use Rattle.std.proofs.Common.{◌≡◌, ℕ, ◌&&◌, ◌||◌, Bool, true, false, cond, inl, inr, ◌⊎◌, ◌↔◌, List, [], ◌∷◌, ◌++◌, length, take, drop, codes, nat_eq, refl, sym, ap, ◌∙◌, eqb-true}
use Rattle.std.proofs.Math.Seq.{take-append_seam, drop-append_seam}
use Rattle.std.proofs.lemmas.Bool.{and_parts, and_from, or_cases}
use Rattle.std.proofs.lemmas.List.{take-append-drop}
use Rattle.std.proofs.lemmas.Slice.Eq.{bytes_eq-Decides}
use Rattle.std.specs.List.{starts_with}
use Rattle.braid_shelf.specs.ByteClasses.{begins, is_space}
use Rattle.braid_fields.specs.Lines.{IsLineEnd, is_empty_line, ends_line, content_of}
use Rattle.braid_fields.specs.Statuses.{IsProtocol, IsPhrase, IsStatusLine, BeginsStatus, is_status, ends_phrase, has_phrase, is_good_status}
use Rattle.braid_fields.proofs.Contents.{empty_law, not_empty, content_cut, line_ends}

pub or_left : (x y : Bool) → x ≡ true → (x || y) ≡ true
or_left x y e = ap (λ (z : Bool). z || y) e

pub or_right : (x y : Bool) → y ≡ true → (x || y) ≡ true
or_right true y e = refl
or_right false y e = e

-- what begins with these bytes
pub starts_cut : (line front : List ℕ) → starts_with nat_eq line front ≡ true → line ≡ front ++ drop (length front) line
starts_cut line front e =
    sym (take-append-drop (length front) line) ∙ ap (λ x. x ++ drop (length front) line) (sym ((bytes_eq-Decides front (take (length front) line)).0 e))

pub cut_starts : (front rest : List ℕ) → starts_with nat_eq (front ++ rest) front ≡ true
cut_starts front rest = (bytes_eq-Decides front (take (length front) (front ++ rest))).1 (sym (take-append_seam front rest))

-- a phrase and the end of its line
record Ending (rest : List ℕ) : Type 0 where
  phrase : List ℕ
  end : List ℕ
  is_phrase : IsPhrase phrase
  is_end : IsLineEnd end
  cut : rest ≡ phrase ++ end

spaced : (rest : List ℕ) → begins is_space rest ≡ true → ends_line rest ≡ true → Ending rest
spaced [] b e = absurd cc
spaced (byte ∷ more) b e =
    let space : byte ≡ 32 = eqb-true byte 32 b in
    let c = content_cut (byte ∷ more) e in
    let inside : content_of (byte ∷ more) ≡ 32 ∷ content_of more = ap (λ (x : ℕ). content_of (x ∷ more)) space ∙ ap (λ (t : Bool). cond t [] (32 ∷ content_of more)) (not_empty 32 more (λ x. cc) (λ x. cc)) in
    record { phrase = content_of (byte ∷ more); end = c.0; is_phrase = inr (content_of more, inside); is_end = c.1; cut = c.2 }

phrase_cut : (rest : List ℕ) → ends_phrase rest ≡ true → Ending rest
phrase_cut rest e =
    elim (or_cases (is_empty_line rest) (begins is_space rest && ends_line rest) e) [
      | inl h ↦ record { phrase = []; end = rest; is_phrase = inl refl; is_end = (empty_law rest).0 h; cut = refl }
      | inr h ↦ (let p = and_parts (begins is_space rest) (ends_line rest) h in spaced rest p.0 p.1)
    ]

phrase_ends : (phrase end : List ℕ) → IsPhrase phrase → IsLineEnd end → ends_phrase (phrase ++ end) ≡ true
phrase_ends phrase end (inl e) l = or_left (is_empty_line (phrase ++ end)) _ (ap (λ x. is_empty_line (x ++ end)) e ∙ (empty_law end).1 l)
phrase_ends phrase end (inr (more, e)) l =
    or_right (is_empty_line (phrase ++ end)) (begins is_space (phrase ++ end) && ends_line (phrase ++ end))
    (and_from _ _ (ap (λ x. begins is_space (x ++ end)) e) (line_ends phrase end l))

has_cut : (front line : List ℕ) → has_phrase front line ≡ true → (e : Ending (drop (length front) line)) × (line ≡ front ++ (e.phrase ++ e.end))
has_cut front line h =
    let p = and_parts (starts_with nat_eq line front) (ends_phrase (drop (length front) line)) h in
    let e = phrase_cut (drop (length front) line) p.1 in
    (e, starts_cut line front p.0 ∙ ap (λ x. front ++ x) e.cut)

cut_has : (front line phrase end : List ℕ) → IsPhrase phrase → IsLineEnd end → line ≡ front ++ (phrase ++ end) → has_phrase front line ≡ true
cut_has front line phrase end p l e =
    ap (has_phrase front) e ∙ and_from _ _ (cut_starts front (phrase ++ end)) (ap ends_phrase (drop-append_seam front (phrase ++ end)) ∙ phrase_ends phrase end p l)

good_line : (line : List ℕ) → is_good_status line ≡ true → IsStatusLine line
unfolding is_good_status
good_line line e =
    elim (or_cases (has_phrase (codes "HTTP 200") line) (has_phrase (codes "HTTP/1.1 200") line) e) [
      | inl h ↦ (let c = has_cut (codes "HTTP 200") line h in
          record { protocol = codes "HTTP"; phrase = c.0.phrase; end = c.0.end; is_protocol = inl refl; is_phrase = c.0.is_phrase; is_end = c.0.is_end; spelled = c.1 })
      | inr h ↦ (let c = has_cut (codes "HTTP/1.1 200") line h in
          record { protocol = codes "HTTP/1.1"; phrase = c.0.phrase; end = c.0.end; is_protocol = inr refl; is_phrase = c.0.is_phrase; is_end = c.0.is_end; spelled = c.1 })
    ]

line_good : (line : List ℕ) → IsStatusLine line → is_good_status line ≡ true
unfolding is_good_status
line_good line s = go s.is_protocol
  where
    go : IsProtocol s.protocol → has_phrase (codes "HTTP 200") line || has_phrase (codes "HTTP/1.1 200") line ≡ true
    go (inl e) = or_left _ (has_phrase (codes "HTTP/1.1 200") line) (cut_has (codes "HTTP 200") line s.phrase s.end s.is_phrase s.is_end (s.spelled ∙ ap (λ x. x ++ (codes " 200" ++ (s.phrase ++ s.end))) e))
    go (inr e) = or_right (has_phrase (codes "HTTP 200") line) _ (cut_has (codes "HTTP/1.1 200") line s.phrase s.end s.is_phrase s.is_end (s.spelled ∙ ap (λ x. x ++ (codes " 200" ++ (s.phrase ++ s.end))) e))

-- a line has the form of a status line where the test says so
pub good_law : (line : List ℕ) → is_good_status line ≡ true ↔ IsStatusLine line
good_law line = (good_line line, line_good line)

taken_line : (line : List ℕ) → is_status line ≡ true → BeginsStatus line
unfolding is_status
taken_line line e =
    elim (or_cases (starts_with nat_eq line (codes "HTTP ")) (starts_with nat_eq line (codes "HTTP/")) e) [
      | inl h ↦ record { rest = drop 5 line; spelled = inl (starts_cut line (codes "HTTP ") h) }
      | inr h ↦ record { rest = drop 5 line; spelled = inr (starts_cut line (codes "HTTP/") h) }
    ]

line_taken : (line : List ℕ) → BeginsStatus line → is_status line ≡ true
unfolding is_status
line_taken line s =
    elim s.spelled [
      | inl e ↦ or_left _ (starts_with nat_eq line (codes "HTTP/")) (ap (λ x. starts_with nat_eq x (codes "HTTP ")) e ∙ cut_starts (codes "HTTP ") s.rest)
      | inr e ↦ or_right (starts_with nat_eq line (codes "HTTP ")) _ (ap (λ x. starts_with nat_eq x (codes "HTTP/")) e ∙ cut_starts (codes "HTTP/") s.rest)
    ]

-- a line is taken for a status line where it begins so
pub taken_law : (line : List ℕ) → is_status line ≡ true ↔ BeginsStatus line
taken_law line = (taken_line line, line_taken line)

-- a line in the form of a status line is taken for one
pub good_taken : (line : List ℕ) → is_good_status line ≡ true → is_status line ≡ true
good_taken line e = go (good_line line e)
  where
    go : IsStatusLine line → is_status line ≡ true
    go s = line_taken line (record { rest = rest s.is_protocol; spelled = spelled s.is_protocol })
      where
        rest : IsProtocol s.protocol → List ℕ
        rest (inl h) = codes "200" ++ (s.phrase ++ s.end)
        rest (inr h) = codes "1.1 200" ++ (s.phrase ++ s.end)

        spelled : (p : IsProtocol s.protocol) → (line ≡ codes "HTTP " ++ rest p) ⊎ (line ≡ codes "HTTP/" ++ rest p)
        spelled (inl h) = inl (s.spelled ∙ ap (λ x. x ++ (codes " 200" ++ (s.phrase ++ s.end))) h)
        spelled (inr h) = inr (s.spelled ∙ ap (λ x. x ++ (codes " 200" ++ (s.phrase ++ s.end))) h)
