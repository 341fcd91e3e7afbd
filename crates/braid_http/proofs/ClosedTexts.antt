-- The head of a reply is lines that are not empty, and ends at its first empty one.
use Rattle.std.proofs.Common.{◌≡◌, ◌≢◌, ℕ, zero, suc, ◌+◌, ◌-◌, ◌<◌, ◌≤◌, ◌==◌, not, ◌/◌, ◌%◌, Bool, true, false, if◌then◌else◌, append_assoc, List, [], ◌∷◌, ◌++◌, inr, refl, ap, sym, subst, ◌∙◌, length, take, drop, map, flat_map, codes, decimal, encode_utf8_all, arith, length-append, append-nil, nat_eq, get_or}
use Rattle.std.specs.List.{AllByRecursion, list_all}
use Rattle.std.specs.Fmt.{digits, digits_onto, digit_glyph}
use Rattle.std.proofs.lemmas.Bool.{and_parts}
use Rattle.std.proofs.lemmas.Bool.Decides.{nat_tests}
use Rattle.std.proofs.lemmas.List.{take_at, drop_at}
use Rattle.std.proofs.lemmas.Grind.{flat_map-append}
use Rattle.braid_ids.specs.Lists.{Lacks}
use Rattle.braid_ids.specs.Identifiers.{IsIdentifier, IsPrintable, escaped, spelled_id}
use Rattle.braid_ids.proofs.Splits.{lacks_append}
use Rattle.braid_ids.proofs.Spelled.{alone, after, escape_of}
use Rattle.braid_change.specs.Spellings.{list_text}
use Rattle.braid_http.specs.declared.looks.Look.{Look}
use Rattle.braid_http.specs.declared.reply.Reply.{Reply}
use Rattle.braid_http.specs.declared.reply.Reply.TheVariants.{Text, Stored, Error, Subscription}
use Rattle.braid_http.specs.Heads.{line, lines, IsFullLine, HasNoBlock}
use Rattle.braid_http.specs.Looks.{IsBlockAt}
use Rattle.braid_http.specs.Replies.{phrase_of, allow_lines, type_line, head_lines, content_of, has_close, close_lines, ended, reply_text, IsClosable}
use Rattle.braid_http.proofs.LineLaws.{same_block}

-- bytes without a LF

lacks_all : (xs : List ℕ) → list_all (λ x. not (x == 10)) xs ≡ true → Lacks 10 xs
lacks_all [] e = tt
lacks_all (x ∷ xs) e =
    let p = and_parts (not (x == 10)) (list_all (λ x. not (x == 10)) xs) e in
    (λ k. (let same : not (10 == 10) ≡ true = subst (λ y. not (y == 10) ≡ true) k p.0 in cc), lacks_all xs p.1)

lacks_either : (b : Bool) (xs ys : List ℕ) → Lacks 10 xs → Lacks 10 ys → Lacks 10 (if b then xs else ys)
lacks_either true xs ys h k = h
lacks_either false xs ys h k = k

lacks_phrase : (status : ℕ) → Lacks 10 (phrase_of status)
lacks_phrase status =
    lacks_either (nat_eq status 400) _ _ (lacks_all (codes "Bad Request") refl)
    (lacks_either (nat_eq status 404) _ _ (lacks_all (codes "Not Found") refl)
    (lacks_either (nat_eq status 405) _ _ (lacks_all (codes "Method Not Allowed") refl)
    (lacks_either (nat_eq status 409) _ _ (lacks_all (codes "Conflict") refl)
    (lacks_either (nat_eq status 413) _ _ (lacks_all (codes "Content Too Large") refl)
    (lacks_either (nat_eq status 422) _ _ (lacks_all (codes "Unprocessable Content") refl)
    (lacks_either (nat_eq status 431) _ _ (lacks_all (codes "Request Header Fields Too Large") refl)
    (lacks_either (nat_eq status 505) _ _ (lacks_all (codes "HTTP Version Not Supported") refl)
    (lacks_either (nat_eq status 507) _ _ (lacks_all (codes "Insufficient Storage") refl) tt))))))))

glyph_apart : (d : ℕ) → digit_glyph false d ≢ 10
glyph_apart d e = grind (arith, nat_tests)

lacks_digits : (k n : ℕ) (acc : List ℕ) → Lacks 10 acc → Lacks 10 (digits_onto k 10 false n acc)
lacks_digits zero n acc h = h
lacks_digits (suc k) n acc h =
    lacks_either (n / 10 == 0) _ _ (glyph_apart (n % 10), h) (lacks_digits k (n / 10) (digit_glyph false (n % 10) ∷ acc) (glyph_apart (n % 10), h))

lacks_decimal : (n : ℕ) → Lacks 10 (decimal n)
unfolding digits
lacks_decimal n = lacks_digits 64 n [] tt

lacks_escaped : (byte : ℕ) → byte ≢ 10 → Lacks 10 (escaped byte)
lacks_escaped byte h =
    elim (escape_of byte) [
      | alone n m is ↦ subst (Lacks 10) (sym is) (h, tt)
      | after is ↦ subst (Lacks 10) (sym is) ((λ k. cc), (h, tt))
    ]

lacks_each : (bytes : List ℕ) → ((k : ℕ) → k < length bytes → IsPrintable (get_or bytes k 0)) → Lacks 10 (flat_map escaped bytes)
lacks_each [] h = tt
lacks_each (byte ∷ bytes) h =
    let first = h 0 (omega arith) in
    lacks_append 10 (escaped byte) (flat_map escaped bytes) (lacks_escaped byte (λ e. (let low = first.0 in omega (arith, low, e)))) (lacks_each bytes (λ k l. h (suc k) (omega (arith, l))))

lacks_id : (id : List ℕ) → IsIdentifier id → Lacks 10 (spelled_id id)
lacks_id id h = ((λ k. cc), lacks_append 10 (flat_map escaped id) (34 ∷ []) (lacks_each id h.printable) ((λ k. cc), tt))

lacks_others : (ids : List (List ℕ)) → AllByRecursion IsIdentifier ids → Lacks 10 (flat_map (λ other. 44 ∷ 32 ∷ spelled_id other) ids)
lacks_others [] h = tt
lacks_others (id ∷ ids) h = ((λ k. cc), ((λ k. cc), lacks_append 10 (spelled_id id) (flat_map (λ other. 44 ∷ 32 ∷ spelled_id other) ids) (lacks_id id h.0) (lacks_others ids h.1)))

lacks_list : (ids : List (List ℕ)) → AllByRecursion IsIdentifier ids → Lacks 10 (list_text ids)
lacks_list [] h = tt
lacks_list (id ∷ ids) h = ((λ k. cc), lacks_append 10 (spelled_id id) (flat_map (λ other. 44 ∷ 32 ∷ spelled_id other) ids) (lacks_id id h.0) (lacks_others ids h.1))

-- lines with their CR

with_cr : List ℕ → List ℕ
with_cr content = content ++ 13 ∷ []

abbrev IsHeadLine : List ℕ → Type 0
IsHeadLine content = Lacks 10 content × (0 < length content)

full_line : (c : List ℕ) → IsHeadLine c → IsFullLine (with_cr c)
unfolding with_cr
full_line c h =
    let long = length-append c (13 ∷ []) in
    let some = h.1 in
    record {
      ended = lacks_append 10 c (13 ∷ []) h.0 ((λ k. cc), tt);
      some = λ e. (let k = ap length e in omega (arith, k, long));
      more = λ e. (let k = ap length e in omega (arith, k, long, some));
    }

full_lines : (ls : List (List ℕ)) → AllByRecursion IsHeadLine ls → AllByRecursion IsFullLine (map with_cr ls)
full_lines [] h = tt
full_lines (l ∷ ls) h = (full_line l h.0, full_lines ls h.1)

ended_lines : (ls : List (List ℕ)) → flat_map ended ls ≡ lines (map with_cr ls)
unfolding with_cr
ended_lines [] = refl
ended_lines (l ∷ ls) = ap (λ z. z ++ flat_map ended ls) (sym (append_assoc l (13 ∷ []) (10 ∷ []))) ∙ ap (λ z. line (l ++ 13 ∷ []) ++ z) (ended_lines ls)

both : (xs ys : List (List ℕ)) → AllByRecursion IsHeadLine xs → AllByRecursion IsHeadLine ys → AllByRecursion IsHeadLine (xs ++ ys)
both [] ys a b = b
both (x ∷ xs) ys a b = (a.0, both xs ys a.1 b)

allowed : (b : Bool) → AllByRecursion IsHeadLine (if b then codes "Allow: GET, PUT" ∷ [] else [])
allowed true = ((lacks_all (codes "Allow: GET, PUT") refl, omega arith), tt)
allowed false = tt

literal : (xs ys : List ℕ) → list_all (λ x. not (x == 10)) xs ≡ true → 0 < length xs → Lacks 10 ys → IsHeadLine (xs ++ ys)
literal xs ys e some h = (lacks_append 10 xs ys (lacks_all xs e) h, (let k = length-append xs ys in omega (arith, k, some)))

alone_line : (xs : List ℕ) → list_all (λ x. not (x == 10)) xs ≡ true → 0 < length xs → IsHeadLine xs
alone_line xs e some = (lacks_all xs e, some)

head_full : (r : Reply) → IsClosable r → AllByRecursion IsHeadLine (head_lines r)
head_full (Text version text) h = (
  alone_line (codes "HTTP/1.1 200 OK") refl (omega arith),
  (
    literal (codes "Version:") (list_text version) refl (omega arith) (lacks_list version h),
    (
      alone_line (codes "Merge-Type: ti-text") refl (omega arith),
      (alone_line type_line refl (omega arith), (literal (codes "Content-Length: ") (decimal (length (encode_utf8_all text))) refl (omega arith) (lacks_decimal (length (encode_utf8_all text))), tt)),
    ),
  ),
)
head_full (Stored id) h = (
  alone_line (codes "HTTP/1.1 200 OK") refl (omega arith),
  (literal (codes "Version: ") (spelled_id id) refl (omega arith) (lacks_id id h), (alone_line (codes "Content-Length: 0") refl (omega arith), tt)),
)
head_full (Error status reason close) h =
    let first : IsHeadLine (codes "HTTP/1.1 " ++ decimal status ++ codes " " ++ phrase_of status) = (
      lacks_append 10 (codes "HTTP/1.1 " ++ decimal status ++ codes " ") (phrase_of status)
          (lacks_append 10 (codes "HTTP/1.1 " ++ decimal status) (codes " ") (lacks_append 10 (codes "HTTP/1.1 ") (decimal status) (lacks_all (codes "HTTP/1.1 ") refl) (lacks_decimal status)) (lacks_all (codes " ") refl))
          (lacks_phrase status),
      omega arith,
    ) in
    both ((codes "HTTP/1.1 " ++ decimal status ++ codes " " ++ phrase_of status) ∷ allow_lines status) _ (first, allowed (nat_eq status 405)) (
      alone_line type_line refl (omega arith),
      (literal (codes "Content-Length: ") (decimal (length reason + 1)) refl (omega arith) (lacks_decimal (length reason + 1)), tt),
    )
head_full (Subscription current) h = absurd h

-- a reply that can be closed closes nothing by itself
plain_close : (r : Reply) → IsClosable r → has_close r ≡ false
plain_close (Text version text) h = refl
plain_close (Stored id) h = refl
plain_close (Error status reason close) h = h
plain_close (Subscription current) h = absurd h

open_text : (r : Reply) → IsClosable r → reply_text false r ≡ flat_map ended (head_lines r) ++ (13 ∷ 10 ∷ [] ++ content_of r)
open_text r h =
    ap (λ z. flat_map ended (head_lines r ++ close_lines z) ++ codes "\r\n" ++ content_of r) (plain_close r h)
    ∙ ap (λ z. flat_map ended z ++ codes "\r\n" ++ content_of r) (append-nil (head_lines r))
    ∙ append_assoc (flat_map ended (head_lines r)) (codes "\r\n") (content_of r)

closed_text : (r : Reply) → (flat_map ended (head_lines r) ++ codes "Connection: close\r\n\r\n") ++ content_of r ≡ reply_text true r
closed_text r =
    let cut = flat_map-append ended (head_lines r) (codes "Connection: close" ∷ []) in
    ap (λ z. z ++ content_of r) (sym (append_assoc (flat_map ended (head_lines r)) (codes "Connection: close\r\n") (codes "\r\n")))
    ∙ ap (λ z. z ++ codes "\r\n" ++ content_of r) (sym cut)

as_block : (r : Reply) (bytes : List ℕ) → IsClosable r → bytes ≡ reply_text false r → bytes ≡ (lines (map with_cr (head_lines r)) ++ line (13 ∷ [])) ++ content_of r
as_block r bytes h e =
    e ∙ open_text r h ∙ ap (λ z. z ++ (13 ∷ 10 ∷ [] ++ content_of r)) (ended_lines (head_lines r)) ∙ sym (append_assoc (lines (map with_cr (head_lines r))) (13 ∷ 10 ∷ []) (content_of r))

pub has_block : (r : Reply) (bytes : List ℕ) → IsClosable r → bytes ≡ reply_text false r → HasNoBlock bytes → ⊥
has_block r bytes h e n = n (map with_cr (head_lines r)) (13 ∷ []) (content_of r) (full_lines (head_lines r) (head_full r h)) (inr refl) (as_block r bytes h e)

-- where the head's lines end, and where the content begins
pub record Splits (r : Reply) (bytes : List ℕ) (end : ℕ) : Type 0 where
  pub some : 2 ≤ end
  pub within : end ≤ length bytes
  pub head : take (end - 2) bytes ≡ flat_map ended (head_lines r)
  pub content : drop end bytes ≡ content_of r

pub splits : (r : Reply) (bytes : List ℕ) (end : ℕ) (look : Look) → IsClosable r → bytes ≡ reply_text false r → IsBlockAt end look bytes → Splits r bytes end
splits r bytes end look h e b =
    let whole = as_block r bytes h e in
    let front = lines (map with_cr (head_lines r)) in
    let same = same_block b.full (map with_cr (head_lines r)) b.last (13 ∷ []) b.rest (content_of r) b.each (full_lines (head_lines r) (head_full r h)) b.ends (inr refl) (sym b.whole ∙ whole) in
    let end_is : end ≡ length (front ++ 13 ∷ 10 ∷ []) = b.end_is ∙ (λ i. length (lines (same.0 i) ++ line (same.1 i))) in
    let size = length-append front (13 ∷ 10 ∷ []) in
    let long = ap length whole ∙ length-append (front ++ 13 ∷ 10 ∷ []) (content_of r) in
    let short : end - 2 ≡ length front = omega (arith, end_is, size) in
    record {
      some = omega (arith, end_is, size);
      within = omega (arith, end_is, long);
      head = ap (λ z. take z bytes) short ∙ ap (take (length front)) (whole ∙ append_assoc front (13 ∷ 10 ∷ []) (content_of r)) ∙ take_at front (13 ∷ 10 ∷ [] ++ content_of r) (length front) refl ∙ sym (ended_lines (head_lines r));
      content = ap (λ z. drop z bytes) end_is ∙ ap (drop (length (front ++ 13 ∷ 10 ∷ []))) whole ∙ drop_at (front ++ 13 ∷ 10 ∷ []) (content_of r) (length (front ++ 13 ∷ 10 ∷ [])) refl;
    }

pub closes_reply : (r : Reply) (o0 o1 o2 head content : List ℕ) → o0 ≡ head → o1 ≡ o0 ++ codes "Connection: close\r\n\r\n" → o2 ≡ o1 ++ content → head ≡ flat_map ended (head_lines r) → content ≡ content_of r → o2 ≡ reply_text true r
closes_reply r o0 o1 o2 head content a b d e f =
    d ∙ ap (λ z. z ++ content) (b ∙ ap (λ z. z ++ codes "Connection: close\r\n\r\n") (a ∙ e)) ∙ ap (λ z. (flat_map ended (head_lines r) ++ codes "Connection: close\r\n\r\n") ++ z) f ∙ closed_text r
