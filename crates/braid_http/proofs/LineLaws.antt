-- Bytes are lines in one way.
use Rattle.std.proofs.Common.{◌≡◌, ℕ, ◌+◌, ◌<◌, ◌≤◌, append_assoc, List, [], ◌∷◌, ◌++◌, inl, inr, refl, ap, sym, ◌∙◌, length, take, arith, length-append, append-nil, ◌-◌, false, IsTrue}
use Rattle.std.proofs.lemmas.List.{take_at}
use Rattle.std.specs.List.{AllByRecursion}
use Rattle.braid_ids.specs.Lists.{Lacks}
use Rattle.braid_ids.proofs.Splits.{one_split, lacks_split}
use Rattle.braid_http.specs.Heads.{line, lines, IsEmptyLine, IsFullLine, HeadText, IsHeadText, head_bytes, text_bytes, HasNoHead, HasNoBlock, BeginsFull}

pub line-append : (c rest : List ℕ) → line c ++ rest ≡ c ++ 10 ∷ rest
line-append c rest = append_assoc c (10 ∷ []) rest

pub empty_lacks : (c : List ℕ) → IsEmptyLine c → Lacks 10 c
empty_lacks c (inl e) = rw e tt
empty_lacks c (inr e) = rw e ((λ k. cc), tt)

pub not_both : (c d : List ℕ) → IsEmptyLine c → IsFullLine d → c ≡ d → ⊥
not_both c d (inl e) f s = f.some (sym s ∙ e)
not_both c d (inr e) f s = f.more (sym s ∙ e)

pub same_line : (c d x y : List ℕ) → Lacks 10 c → Lacks 10 d → line c ++ x ≡ line d ++ y → (c ≡ d) × (x ≡ y)
same_line c d x y h k e = one_split 10 c x d y h k (sym (line-append c x) ∙ e ∙ line-append d y)

pub no_line : (bytes c rest : List ℕ) → Lacks 10 bytes → bytes ≡ line c ++ rest → ⊥
no_line bytes c rest h e = lacks_split 10 bytes c rest h (e ∙ line-append c rest)

pub full_of : (c : List ℕ) → Lacks 10 c → (IsEmptyLine c → ⊥) → IsFullLine c
full_of c h n = record { ended = h; some = λ e. n (inl e); more = λ e. n (inr e) }

-- the lines before the first empty one, it, and what follows
pub same_block : (fs gs : List (List ℕ)) (a b x y : List ℕ) → AllByRecursion IsFullLine fs → AllByRecursion IsFullLine gs → IsEmptyLine a → IsEmptyLine b
    → (lines fs ++ line a) ++ x ≡ (lines gs ++ line b) ++ y → (fs ≡ gs) × (a ≡ b) × (x ≡ y)
same_block [] [] a b x y f g i j e =
    let s = same_line a b x y (empty_lacks a i) (empty_lacks b j) e in (refl, s.0, s.1)
same_block [] (k ∷ gs) a b x y f g i j e =
    let s = same_line a k x _ (empty_lacks a i) g.0.ended (e ∙ append_assoc (line k ++ lines gs) (line b) y ∙ append_assoc (line k) (lines gs) (line b ++ y)) in
    absurd (not_both a k i g.0 s.0)
same_block (k ∷ fs) [] a b x y f g i j e =
    let s = same_line b k y _ (empty_lacks b j) f.0.ended (sym e ∙ append_assoc (line k ++ lines fs) (line a) x ∙ append_assoc (line k) (lines fs) (line a ++ x)) in
    absurd (not_both b k j f.0 s.0)
same_block (k ∷ fs) (m ∷ gs) a b x y f g i j e =
    let regroup : (c : List ℕ) (cs : List (List ℕ)) (d z : List ℕ) → (lines (c ∷ cs) ++ line d) ++ z ≡ line c ++ ((lines cs ++ line d) ++ z) =
    λ c cs d z. ap (λ w. w ++ z) (append_assoc (line c) (lines cs) (line d)) ∙ append_assoc (line c) (lines cs ++ line d) z in
    let s = same_line k m _ _ f.0.ended g.0.ended (sym (regroup k fs a x) ∙ e ∙ regroup m gs b y) in
    let p = same_block fs gs a b x y f.1 g.1 i j s.1 in
    let first = s.0 in
    let others = p.0 in
    (cc, p.1, p.2)

lines_front : (bs : List (List ℕ)) (c x : List ℕ) → lines (c ∷ bs) ++ x ≡ line c ++ (lines bs ++ x)
lines_front bs c x = append_assoc (line c) (lines bs) x

-- a block begins with a full line where it has one
record Front (fs : List (List ℕ)) (a x : List ℕ) : Type 0 where
  first : List ℕ
  others : List ℕ
  full : IsFullLine first
  is : (lines fs ++ line a) ++ x ≡ line first ++ others

front_of : (fs : List (List ℕ)) (a x : List ℕ) → AllByRecursion IsFullLine fs → 0 < length fs → Front fs a x
front_of [] a x f s = absurd (omega (arith, s))
front_of (k ∷ fs) a x f s = record {
  first = k;
  others = (lines fs ++ line a) ++ x;
  full = f.0;
  is = ap (λ w. w ++ x) (append_assoc (line k) (lines fs) (line a)) ∙ append_assoc (line k) (lines fs ++ line a) x;
}

pub same_blank : (bs cs fs gs : List (List ℕ)) (a b x y : List ℕ) → AllByRecursion IsEmptyLine bs → AllByRecursion IsEmptyLine cs → AllByRecursion IsFullLine fs → AllByRecursion IsFullLine gs
    → 0 < length fs → 0 < length gs → IsEmptyLine a → IsEmptyLine b
    → lines bs ++ ((lines fs ++ line a) ++ x) ≡ lines cs ++ ((lines gs ++ line b) ++ y) → (bs ≡ cs) × (fs ≡ gs) × (a ≡ b) × (x ≡ y)
same_blank [] [] fs gs a b x y m n f g p q i j e = let s = same_block fs gs a b x y f g i j e in (refl, s.0, s.1, s.2)
same_blank [] (c ∷ cs) fs gs a b x y m n f g p q i j e =
    let w = front_of fs a x f p in
    let s = same_line c w.first _ _ (empty_lacks c n.0) w.full.ended (sym (lines_front cs c ((lines gs ++ line b) ++ y)) ∙ sym e ∙ w.is) in
    absurd (not_both c w.first n.0 w.full s.0)
same_blank (c ∷ bs) [] fs gs a b x y m n f g p q i j e =
    let w = front_of gs b y g q in
    let s = same_line c w.first _ _ (empty_lacks c m.0) w.full.ended (sym (lines_front bs c ((lines fs ++ line a) ++ x)) ∙ e ∙ w.is) in
    absurd (not_both c w.first m.0 w.full s.0)
same_blank (c ∷ bs) (d ∷ cs) fs gs a b x y m n f g p q i j e =
    let s = same_line c d _ _ (empty_lacks c m.0) (empty_lacks d n.0) (sym (lines_front bs c ((lines fs ++ line a) ++ x)) ∙ e ∙ lines_front cs d ((lines gs ++ line b) ++ y)) in
    let t = same_blank bs cs fs gs a b x y m.1 n.1 f g p q i j s.1 in
    let first = s.0 in
    let others = t.0 in
    (cc, t.1, t.2, t.3)

-- a head ends in one place
pub same_text : (t u : HeadText) (x y : List ℕ) → IsHeadText t → IsHeadText u → text_bytes t ++ x ≡ text_bytes u ++ y → (t ≡ u) × (x ≡ y)
same_text t u x y i j e =
    let s = same_blank t.blank u.blank t.full u.full t.last u.last x y i.blank j.blank i.full j.full i.some j.some i.last j.last
    (sym (append_assoc (lines t.blank) (head_bytes t) x) ∙ e ∙ append_assoc (lines u.blank) (head_bytes u) y) in
    (λ k. record { blank = s.0 k; full = s.1 k; last = s.2 k }, s.3)

-- empty lines were passed
pub record Blanks (rest bytes : List ℕ) : Type 0 where
  pub blank : List (List ℕ)
  pub each : AllByRecursion IsEmptyLine blank
  pub whole : bytes ≡ lines blank ++ rest

pub push_each : (P : List ℕ → Type 0) (cs : List (List ℕ)) (c : List ℕ) → AllByRecursion P cs → P c → AllByRecursion P (cs ++ c ∷ [])
push_each P [] c h p = (p, tt)
push_each P (d ∷ cs) c h p = (h.0, push_each P cs c h.1 p)

pub lines_push : (cs : List (List ℕ)) (c rest : List ℕ) → lines (cs ++ c ∷ []) ++ rest ≡ lines cs ++ (c ++ 10 ∷ rest)
lines_push [] c rest = ap (λ w. w ++ rest) (append-nil (line c)) ∙ line-append c rest
lines_push (d ∷ cs) c rest = append_assoc (line d) (lines (cs ++ c ∷ [])) rest ∙ ap (λ w. line d ++ w) (lines_push cs c rest) ∙ sym (append_assoc (line d) (lines cs) (c ++ 10 ∷ rest))

pub blank_more : (rest bytes c after : List ℕ) → Blanks rest bytes → IsEmptyLine c → rest ≡ c ++ 10 ∷ after → Blanks after bytes
blank_more rest bytes c after b i e = record {
  blank = b.blank ++ c ∷ [];
  each = push_each _ b.blank c b.each i;
  whole = b.whole ∙ ap (λ w. lines b.blank ++ w) e ∙ sym (lines_push b.blank c after);
}

-- full lines were passed
pub record Fulls (count : ℕ) (rest bytes : List ℕ) : Type 0 where
  pub full : List (List ℕ)
  pub each : AllByRecursion IsFullLine full
  pub whole : bytes ≡ lines full ++ rest
  pub number : count ≡ length full
  pub few : count + length rest ≤ length bytes

pub no_block_in : (fs : List (List ℕ)) (rest : List ℕ) → AllByRecursion IsFullLine fs → Lacks 10 rest → HasNoBlock (lines fs ++ rest)
no_block_in [] rest f h [] last x g i e = no_line rest last x h e
no_block_in [] rest f h (k ∷ gs) last x g i e =
    no_line rest k ((lines gs ++ line last) ++ x) h (e ∙ ap (λ w. w ++ x) (append_assoc (line k) (lines gs) (line last)) ∙ append_assoc (line k) (lines gs ++ line last) x)
no_block_in (c ∷ fs) rest f h [] last x g i e =
    let s = same_line last c x _ (empty_lacks last i) f.0.ended (sym e ∙ append_assoc (line c) (lines fs) rest) in
    not_both last c i f.0 s.0
no_block_in (c ∷ fs) rest f h (k ∷ gs) last x g i e =
    let s = same_line c k _ _ f.0.ended g.0.ended (sym (append_assoc (line c) (lines fs) rest) ∙ e ∙ ap (λ w. w ++ x) (append_assoc (line k) (lines gs) (line last)) ∙ append_assoc (line k) (lines gs ++ line last) x) in
    no_block_in fs rest f.1 h gs last x g.1 i s.1

pub record Block (bytes : List ℕ) (count : ℕ) (after : List ℕ) : Type 0 where
  pub full : List (List ℕ)
  pub last : List ℕ
  pub each : AllByRecursion IsFullLine full
  pub ends : IsEmptyLine last
  pub number : count ≡ length full
  pub whole : bytes ≡ (lines full ++ line last) ++ after

pub no_head : (bytes start : List ℕ) (blank : List (List ℕ)) → AllByRecursion IsEmptyLine blank → bytes ≡ lines blank ++ start → BeginsFull start → HasNoBlock start → HasNoHead bytes
no_head bytes start blank each whole begins none t rest i e = go blank t.blank each i.blank (sym whole ∙ e ∙ append_assoc (lines t.blank) (head_bytes t) rest)
  where
    go : (bs cs : List (List ℕ)) → AllByRecursion IsEmptyLine bs → AllByRecursion IsEmptyLine cs → lines bs ++ start ≡ lines cs ++ (head_bytes t ++ rest) → ⊥
    go [] [] m n e = none t.full t.last rest i.full i.last e
    go [] (c ∷ cs) m n e = begins c (lines cs ++ (head_bytes t ++ rest)) n.0 (e ∙ lines_front cs c (head_bytes t ++ rest))
    go (b ∷ bs) [] m n e =
        let w = front_of t.full t.last rest i.full i.some in
        let s = same_line b w.first _ _ (empty_lacks b m.0) w.full.ended (sym (lines_front bs b start) ∙ e ∙ w.is) in
        not_both b w.first m.0 w.full s.0
    go (b ∷ bs) (c ∷ cs) m n e =
        let s = same_line b c _ _ (empty_lacks b m.0) (empty_lacks c n.0) (sym (lines_front bs b start) ∙ e ∙ lines_front cs c (head_bytes t ++ rest)) in
        go bs cs m.1 n.1 s.1

-- the head of those lines, and where it stands
pub head_at : (bytes start rest front : List ℕ) (count : ℕ) (blank : List (List ℕ)) → AllByRecursion IsEmptyLine blank → bytes ≡ lines blank ++ start → BeginsFull start
    → (full : List (List ℕ)) (last : List ℕ) → AllByRecursion IsFullLine full → IsEmptyLine last → count ≡ length full → start ≡ (lines full ++ line last) ++ rest
    → front ≡ take (length start - length rest) start
    → (t : HeadText) × IsHeadText t × (front ≡ head_bytes t) × (count ≡ length t.full) × (bytes ≡ text_bytes t ++ rest)
head_at bytes start rest front count blank each whole begins full last f i n s cut = (
  record { blank = blank; full = full; last = last },
  record { blank = each; full = f; some = some full s; last = i },
  cut ∙ front_is,
  n,
  whole ∙ ap (λ w. lines blank ++ w) s ∙ sym (append_assoc (lines blank) (lines full ++ line last) rest),
)
  where
    some : (gs : List (List ℕ)) → start ≡ (lines gs ++ line last) ++ rest → 0 < length gs
    some [] e = absurd (begins last rest i e)
    some (g ∷ gs) e = omega arith

    front_is : take (length start - length rest) start ≡ lines full ++ line last
    front_is =
        let b = lines full ++ line last in
        let l = ap length s ∙ length-append b rest in
        let k : length start - length rest ≡ length b = omega (arith, l) in
        ap (λ z. take z start) k ∙ ap (take (length b)) s ∙ take_at b rest (length b) refl

pub not_true : IsTrue false → ⊥
not_true e = cc

pub text_some : (t : HeadText) → IsHeadText t → 0 < length (text_bytes t)
text_some t i = let k = length-append (lines t.blank) (head_bytes t) in let m = go t.full i.some in omega (arith, k, m)
  where
    go : (fs : List (List ℕ)) → 0 < length fs → 0 < length (lines fs ++ line t.last)
    go [] l = absurd (omega (arith, l))
    go (c ∷ cs) l =
        let k = length-append (lines (c ∷ cs)) (line t.last) in
        let m = length-append t.last (10 ∷ []) in
        omega (arith, k, m)
