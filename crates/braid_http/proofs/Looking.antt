-- Bytes are looked at line by line.
use Rattle.std.proofs.Common.{Option, Some, None, MatchOption, ◌≡◌, ◌≢◌, ℕ, ◌+◌, ◌-◌, ◌<◌, ◌≤◌, append_assoc, List, [], ◌∷◌, ◌++◌, inl, inr, refl, ap, sym, subst, ◌∙◌, length, take, drop, arith, length-append, append-nil}
use Rattle.std.specs.List.{AllByRecursion}
use Rattle.std.proofs.lemmas.List.{take_at, drop_at, take-append-drop}
use Rattle.braid_ids.specs.Lists.{Lacks}
use Rattle.braid_ids.proofs.Splits.{lacks_append}
use Rattle.braid_http.specs.declared.looks.Look.{Look}
use Rattle.braid_http.specs.declared.looks.HeadLook.{HeadLook}
use Rattle.braid_http.specs.Heads.{line, lines, IsEmptyLine, IsFullLine, HasNoHead, HasNoBlock, BeginsFull}
use Rattle.braid_http.specs.Looks.{IsLineFrom, IsLooked, IsBlockAt, IsHeadLooked, IsHeadAt}
use Rattle.braid_http.proofs.LineLaws.{full_of, push_each, lines_push, no_block_in, line-append, no_head}

abbrev no_look : Look
no_look = record { line = 0; seen = 0; full = 0 }

pub look_new : (bytes : List ℕ) → IsLooked no_look bytes
look_new bytes = record { full = []; begun = []; rest = bytes; each = tt; lacks = tt; whole = refl; number = refl; line_at = refl; seen_to = refl }

pub looked_more : (look : Look) (bytes more : List ℕ) → IsLooked look bytes → IsLooked look (bytes ++ more)
looked_more look bytes more l = record {
  full = l.full;
  begun = l.begun;
  rest = l.rest ++ more;
  each = l.each;
  lacks = l.lacks;
  whole = ap (λ z. z ++ more) l.whole ∙ append_assoc (lines l.full) (l.begun ++ l.rest) more ∙ ap (λ z. lines l.full ++ z) (append_assoc l.begun l.rest more);
  number = l.number;
  line_at = l.line_at;
  seen_to = l.seen_to;
}

-- what was not looked at
pub behind_seen : (look : Look) (bytes : List ℕ) (l : IsLooked look bytes) → drop look.seen bytes ≡ l.rest
behind_seen look bytes l =
    let whole : bytes ≡ (lines l.full ++ l.begun) ++ l.rest = l.whole ∙ sym (append_assoc (lines l.full) l.begun l.rest) in
    ap (λ z. drop z bytes) (l.seen_to ∙ sym (length-append (lines l.full) l.begun)) ∙ ap (drop (length (lines l.full ++ l.begun))) whole ∙ drop_at (lines l.full ++ l.begun) l.rest (length (lines l.full ++ l.begun)) refl

-- the line that ends next
pub record Ends (look : Look) (bytes content : List ℕ) (end : ℕ) (l : IsLooked look bytes) : Type 0 where
  pub after : List ℕ
  pub lacks : Lacks 10 content
  pub whole : bytes ≡ lines l.full ++ (content ++ 10 ∷ after)
  pub end_is : end ≡ length (lines l.full) + length content + 1

pub ends_next : (look : Look) (bytes content : List ℕ) (end : ℕ) (l : IsLooked look bytes) → IsLineFrom bytes look.line look.seen content end → Ends look bytes content end l
ends_next look bytes content end l f =
    let rest : l.rest ≡ f.front ++ 10 ∷ f.after = sym (behind_seen look bytes l) ∙ f.behind in
    let whole : bytes ≡ lines l.full ++ ((l.begun ++ f.front) ++ 10 ∷ f.after) =
    l.whole ∙ ap (λ z. lines l.full ++ (l.begun ++ z)) rest ∙ ap (λ z. lines l.full ++ z) (sym (append_assoc l.begun f.front (10 ∷ f.after))) in
    let line_is = l.line_at in
    let seen_is = l.seen_to in
    let both = length-append l.begun f.front in
    let size : (look.seen + length f.front) - look.line ≡ length (l.begun ++ f.front) = omega (arith, line_is, seen_is, both) in
    let begins : drop look.line bytes ≡ (l.begun ++ f.front) ++ 10 ∷ f.after =
    ap (λ z. drop z bytes) line_is ∙ ap (drop (length (lines l.full))) whole ∙ drop_at (lines l.full) ((l.begun ++ f.front) ++ 10 ∷ f.after) (length (lines l.full)) refl in
    let is : content ≡ l.begun ++ f.front =
    f.content_is ∙ ap (λ z. take z (drop look.line bytes)) size ∙ ap (take (length (l.begun ++ f.front))) begins ∙ take_at (l.begun ++ f.front) (10 ∷ f.after) (length (l.begun ++ f.front)) refl in
    let end_is = f.end_is in
    let long = ap length is in
    record {
      after = f.after;
      lacks = subst (Lacks 10) (sym is) (lacks_append 10 l.begun f.front l.lacks f.lacks);
      whole = whole ∙ ap (λ z. lines l.full ++ (z ++ 10 ∷ f.after)) (sym is);
      end_is = omega (arith, end_is, seen_is, both, long);
    }

-- a full line was passed
pub look_on : (look : Look) (bytes content : List ℕ) (end : ℕ) (l : IsLooked look bytes) → IsLineFrom bytes look.line look.seen content end → (IsEmptyLine content → ⊥)
    → IsLooked (record { line = end; seen = end; full = look.full + 1 }) bytes
look_on look bytes content end l f n =
    let e = ends_next look bytes content end l f in
    let size = ap length (lines_push l.full content []) ∙ length-append (lines l.full) (content ++ 10 ∷ []) in
    let bare = ap length (append-nil (lines (l.full ++ content ∷ []))) in
    let one = length-append content (10 ∷ []) in
    let at = e.end_is in
    let number = l.number in
    let more = length-append l.full (content ∷ []) in
    let end_at : end ≡ length (lines (l.full ++ content ∷ [])) = omega (arith, size, bare, one, at) in
    record {
      full = l.full ++ content ∷ [];
      begun = [];
      rest = e.after;
      each = push_each IsFullLine l.full content l.each (full_of content e.lacks n);
      lacks = tt;
      whole = e.whole ∙ sym (lines_push l.full content e.after);
      number = omega (arith, number, more);
      line_at = end_at;
      seen_to = omega (arith, end_at);
    }

-- the empty line came
pub look_end : (look : Look) (bytes content : List ℕ) (end : ℕ) (l : IsLooked look bytes) → IsLineFrom bytes look.line look.seen content end → IsEmptyLine content → IsBlockAt end look bytes
look_end look bytes content end l f i =
    let e = ends_next look bytes content end l f in
    let at = e.end_is in
    let size = length-append (lines l.full) (line content) in
    let one = length-append content (10 ∷ []) in
    record {
      full = l.full;
      last = content;
      rest = e.after;
      each = l.each;
      ends = i;
      whole = e.whole ∙ ap (λ z. lines l.full ++ z) (sym (line-append content e.after)) ∙ sym (append_assoc (lines l.full) (line content) e.after);
      number = l.number;
      end_is = omega (arith, at, size, one);
    }

-- no line ends any more
pub look_all : (look : Look) (bytes : List ℕ) (l : IsLooked look bytes) → Lacks 10 (drop look.seen bytes)
    → HasNoBlock bytes × IsLooked (record { line = look.line; seen = length bytes; full = look.full }) bytes
look_all look bytes l h =
    let rest : Lacks 10 l.rest = subst (Lacks 10) (behind_seen look bytes l) h in
    let begun : Lacks 10 (l.begun ++ l.rest) = lacks_append 10 l.begun l.rest l.lacks rest in
    let none : HasNoBlock bytes = λ full last more each ends e. no_block_in l.full (l.begun ++ l.rest) l.each begun full last more each ends (sym l.whole ∙ e) in (
      none,
      record {
        full = l.full;
        begun = l.begun ++ l.rest;
        rest = [];
        each = l.each;
        lacks = begun;
        whole = l.whole ∙ ap (λ z. lines l.full ++ z) (sym (append-nil (l.begun ++ l.rest)));
        number = l.number;
        line_at = l.line_at;
        seen_to = ap length l.whole ∙ length-append (lines l.full) (l.begun ++ l.rest);
      },
    )

pub full_fits : (look : Look) (bytes : List ℕ) → IsLooked look bytes → look.full ≤ length bytes
full_fits look bytes l =
    let n = l.number in
    let k = ap length l.whole ∙ length-append (lines l.full) (l.begun ++ l.rest) in
    let m = count l.full in
    omega (arith, n, k, m)
  where
    count : (fs : List (List ℕ)) → length fs ≤ length (lines fs)
    count [] = omega arith
    count (f ∷ fs) = let a = count fs in let b = length-append (line f) (lines fs) in let c = length-append f (10 ∷ []) in omega (arith, a, b, c)

pub head_new : (bytes : List ℕ) → IsHeadLooked (record { start = 0; look = no_look }) bytes
head_new bytes = record { blank = []; behind = bytes; each = tt; whole = refl; start_is = refl; looked = look_new bytes }

pub head_more : (look : HeadLook) (bytes more : List ℕ) → IsHeadLooked look bytes → IsHeadLooked look (bytes ++ more)
head_more look bytes more h = record {
  blank = h.blank;
  behind = h.behind ++ more;
  each = h.each;
  whole = ap (λ z. z ++ more) h.whole ∙ append_assoc (lines h.blank) h.behind more;
  start_is = h.start_is;
  looked = looked_more look.look h.behind more h.looked;
}

pub behind_start : (look : HeadLook) (bytes : List ℕ) (h : IsHeadLooked look bytes) → drop look.start bytes ≡ h.behind
behind_start look bytes h =
    ap (λ z. drop z bytes) h.start_is ∙ ap (drop (length (lines h.blank))) h.whole ∙ drop_at (lines h.blank) h.behind (length (lines h.blank)) refl

pub start_within : (look : HeadLook) (bytes : List ℕ) → IsHeadLooked look bytes → look.start ≤ length bytes
start_within look bytes h = let a = h.start_is in let b = ap length h.whole ∙ length-append (lines h.blank) h.behind in omega (arith, a, b)

all_append : (P : List ℕ → Type 0) (xs ys : List (List ℕ)) → AllByRecursion P xs → AllByRecursion P ys → AllByRecursion P (xs ++ ys)
all_append P [] ys a b = b
all_append P (x ∷ xs) ys a b = (a.0, all_append P xs ys a.1 b)

lines_append : (xs ys : List (List ℕ)) → lines (xs ++ ys) ≡ lines xs ++ lines ys
lines_append [] ys = refl
lines_append (x ∷ xs) ys = ap (λ z. line x ++ z) (lines_append xs ys) ∙ sym (append_assoc (line x) (lines xs) (lines ys))

-- more empty lines were passed
pub head_passed : (look : HeadLook) (bytes rest : List ℕ) (blank : List (List ℕ)) (start : ℕ) → IsHeadLooked look bytes → AllByRecursion IsEmptyLine blank → drop look.start bytes ≡ lines blank ++ rest
    → start ≡ length bytes - length rest → IsHeadLooked (record { start = start; look = no_look }) bytes
head_passed look bytes rest blank start h each e at =
    let behind : h.behind ≡ lines blank ++ rest = sym (behind_start look bytes h) ∙ e in
    let whole : bytes ≡ lines (h.blank ++ blank) ++ rest =
    h.whole ∙ ap (λ z. lines h.blank ++ z) behind ∙ sym (append_assoc (lines h.blank) (lines blank) rest) ∙ ap (λ z. z ++ rest) (sym (lines_append h.blank blank)) in
    let size = ap length whole ∙ length-append (lines (h.blank ++ blank)) rest in
    record {
      blank = h.blank ++ blank;
      behind = rest;
      each = all_append IsEmptyLine h.blank blank h.each each;
      whole = whole;
      start_is = omega (arith, at, size);
      looked = look_new rest;
    }

pub begins_passed : (bytes rest : List ℕ) (start : ℕ) (blank : List (List ℕ)) (old : ℕ) → drop old bytes ≡ lines blank ++ rest → old ≤ length bytes → start ≡ length bytes - length rest → BeginsFull rest → BeginsFull (drop start bytes)
begins_passed bytes rest start blank old e within at f =
    let whole : bytes ≡ (take old bytes ++ lines blank) ++ rest = sym (take-append-drop old bytes) ∙ ap (λ z. take old bytes ++ z) e ∙ sym (append_assoc (take old bytes) (lines blank) rest) in
    let size = ap length whole ∙ length-append (take old bytes ++ lines blank) rest in
    let place : start ≡ length (take old bytes ++ lines blank) = omega (arith, at, size) in
    let is : drop start bytes ≡ rest = ap (λ z. drop z bytes) place ∙ ap (drop (length (take old bytes ++ lines blank))) whole ∙ drop_at (take old bytes ++ lines blank) rest (length (take old bytes ++ lines blank)) refl in
    rw is f

-- no head has come
pub no_head_yet : (look : HeadLook) (bytes : List ℕ) (l : Look) → IsHeadLooked look bytes → BeginsFull (drop look.start bytes) → HasNoBlock (drop look.start bytes) → IsLooked l (drop look.start bytes)
    → HasNoHead bytes × IsHeadLooked (record { start = look.start; look = l }) bytes
no_head_yet look bytes l h f n i =
    let behind = behind_start look bytes h in (
      no_head bytes h.behind h.blank h.each h.whole (rw (← behind) f) (rw (← behind) n),
      record { blank = h.blank; behind = h.behind; each = h.each; whole = h.whole; start_is = h.start_is; looked = subst (IsLooked l) behind i },
    )

-- a head has come
pub head_found : (look : HeadLook) (bytes : List ℕ) (l : Look) (end : ℕ) → IsHeadLooked look bytes → BeginsFull (drop look.start bytes) → IsBlockAt end l (drop look.start bytes)
    → IsHeadAt (look.start + end) (record { start = look.start; look = l }) bytes
head_found look bytes l end h f b =
    let whole : bytes ≡ lines h.blank ++ ((lines b.full ++ line b.last) ++ b.rest) = h.whole ∙ ap (λ z. lines h.blank ++ z) (sym (behind_start look bytes h) ∙ b.whole) in
    let start_is = h.start_is in
    let end_is = b.end_is in
    let size = length-append (lines h.blank) (lines b.full ++ line b.last) in
    record {
      text = record { blank = h.blank; full = b.full; last = b.last };
      rest = b.rest;
      is = record { blank = h.each; full = b.each; some = some b.full b.whole; last = b.ends };
      whole = whole ∙ sym (append_assoc (lines h.blank) (lines b.full ++ line b.last) b.rest);
      number = b.number;
      start_is = start_is;
      end_is = omega (arith, start_is, end_is, size);
    }
  where
    some : (gs : List (List ℕ)) → drop look.start bytes ≡ (lines gs ++ line b.last) ++ b.rest → 0 < length gs
    some [] e = absurd (f b.last b.rest b.ends e)
    some (g ∷ gs) e = omega arith

pub blank_crlf : (bytes rest : List ℕ) → bytes ≡ 13 ∷ 10 ∷ rest → (content : List ℕ) × IsEmptyLine content × (bytes ≡ line content ++ rest)
blank_crlf bytes rest e = (13 ∷ [], inr refl, e)

pub blank_none : (bytes : List ℕ) → ((rest : List ℕ) → bytes ≢ 10 ∷ rest) → ((rest : List ℕ) → bytes ≢ 13 ∷ 10 ∷ rest) → BeginsFull bytes
blank_none bytes n m content rest (inl e) f = n rest (f ∙ ap (λ z. line z ++ rest) e)
blank_none bytes n m content rest (inr e) f = m rest (f ∙ ap (λ z. line z ++ rest) e)

pub blank_or : {B : Type 0} (now : B → List ℕ) (bytes : List ℕ) (r : Option B) → ((rest : List ℕ) → bytes ≢ (10 ∷ []) ++ rest)
    → MatchOption r ((rest : List ℕ) → bytes ≢ (13 ∷ 10 ∷ []) ++ rest) (λ x. bytes ≡ (13 ∷ 10 ∷ []) ++ now x)
    → MatchOption r (BeginsFull bytes) (λ x. (content : List ℕ) × IsEmptyLine content × (bytes ≡ line content ++ now x))
blank_or now bytes None n m = blank_none bytes n m
blank_or now bytes (Some x) n e = blank_crlf bytes (now x) e
