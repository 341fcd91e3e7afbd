-- A pass and a bell that go through one request after the other.
use Rattle.std.proofs.Common.{◌≡◌, ℕ, ◌+◌, ◌-◌, ◌<◌, ◌≤◌, Option, None, Some, zero, suc, false, List, [], ◌∷◌, ◌++◌, refl, ap, sym, ◌∙◌, subst, length, arith, append-nil, append_assoc, length-append}
use Rattle.std.specs.List.{AllByRecursion}
use Rattle.std.proofs.lemmas.List.{map-append, length-map}
use Rattle.braid_io.specs.Bells.{Ringing, Waits}
use Rattle.braid_io.specs.declared.bell.Rang.TheVariants.{Again}
use Rattle.braid_io.specs.Outside.{HasOne, one_fewer, next_count}
use Rattle.braid_hall.specs.Passes.{PassView}
use Rattle.braid_store.specs.declared.entry.Entry.{Entry}
use Rattle.braid_session.specs.Sessions.{Placed, entries_of}
use Rattle.braid_session.specs.Ends.{ArePlaced, AreLengths, none, stayed, grew, AreFound, none_found, passed_by, added_to, Passed, risen, Rung}
use Rattle.braid_session.specs.Watches.{IsHeard, more_by}
use Rattle.braid_session.proofs.Growing.{places_stay}

pub passed_none : (p : PassView Entry) → p.held ≡ false → Passed p p [] []
passed_none p idle = record {
  hall = refl;
  number = refl;
  away = refl;
  idle = idle;
  made = refl;
  ended = refl;
  opened = refl;
  opening = refl;
  begins = ([], sym (append-nil p.seen));
  alone = λ n a. record { seen = sym (append-nil p.seen); lengths = none (length p.seen) };
  between = none_found (length p.seen) (length p.seen) (omega arith);
  gained = sym (append-nil p.marks);
  turns = omega arith;
  mine = sym (append-nil p.mine);
  placed = tt;
}

plus_none : (n : ℕ) → n + 0 ≡ n
plus_none n = omega arith

plus_one : (n k : ℕ) → n + (suc k) ≡ suc (n + k)
plus_one n k = omega arith

lengths_both : (n : ℕ) (ms ns : List ℕ) (es fs : List Placed) → AreLengths n ms es → AreLengths (n + length es) ns fs → AreLengths n (ms ++ ns) (es ++ fs)
lengths_both n _ ns _ fs (none _) y = subst (λ k. AreLengths k ns fs) (plus_none n) y
lengths_both n _ ns _ fs (stayed _ ms es x) y = stayed n (ms ++ ns) (es ++ fs) (lengths_both n ms ns es fs x y)
lengths_both n _ ns _ fs (grew _ e ms es x) y =
    grew n e (ms ++ ns) (es ++ fs) (lengths_both (n + 1) ms ns es fs x (subst (λ k. AreLengths k ns fs) (go (length es)) y))
  where
    go : (k : ℕ) → n + (suc k) ≡ (n + 1) + k
    go k = omega arith

found_lower : (a b c : ℕ) (ns : List ℕ) (fs : List Placed) → a ≤ b → AreFound b ns fs c → AreFound a ns fs c
found_lower a b c _ _ l (none_found _ _ k) = none_found a c (omega (arith, l, k))
found_lower a b c _ fs l (passed_by _ n _ marks _ k x) = passed_by a n c marks fs (omega (arith, l, k)) x
found_lower a b c _ _ l (added_to _ n _ e marks entries k x) = added_to a n c e marks entries (omega (arith, l, k)) x

found_both : (a b c : ℕ) (ms ns : List ℕ) (es fs : List Placed) → AreFound a ms es b → AreFound b ns fs c → AreFound a (ms ++ ns) (es ++ fs) c
found_both a b c _ ns _ fs (none_found _ _ l) y = found_lower a b c ns fs l y
found_both a b c _ ns es fs (passed_by _ n _ marks _ l x) y = passed_by a n c (marks ++ ns) (es ++ fs) l (found_both n b c marks ns es fs x y)
found_both a b c _ ns _ fs (added_to _ n _ e marks entries l x) y = added_to a n c e (marks ++ ns) (entries ++ fs) l (found_both (n + 1) b c marks ns entries fs x y)

found_order : (low high : ℕ) (marks : List ℕ) (entries : List Placed) → AreFound low marks entries high → low ≤ high
found_order low high _ _ (none_found _ _ l) = l
found_order low high _ es (passed_by _ n _ marks _ l x) = let k = found_order n high marks es x in omega (arith, l, k)
found_order low high _ _ (added_to _ n _ e marks entries l x) = let k = found_order (n + 1) high marks entries x in omega (arith, l, k)

pub within : (low high : ℕ) (marks : List ℕ) (entries : List Placed) → AreFound low marks entries high → AllByRecursion (λ n. n ≤ high) marks
within low high _ _ (none_found _ _ l) = tt
within low high _ es (passed_by _ n _ marks _ l x) = (found_order n high marks es x, within n high marks es x)
within low high _ _ (added_to _ n _ e marks entries l x) =
    (let k = found_order (n + 1) high marks entries x in omega (arith, k), within (n + 1) high marks entries x)

placed_both : (book : List Entry) (es fs : List Placed) → ArePlaced book es → ArePlaced book fs → ArePlaced book (es ++ fs)
placed_both book [] fs h k = k
placed_both book (p ∷ es) fs h k = (h.0, placed_both book es fs h.1 k)

entries_both : (es fs : List Placed) → entries_of (es ++ fs) ≡ entries_of es ++ entries_of fs
entries_both es fs = map-append (λ (p : Placed). p.1) es fs

after_both : (xs : List Entry) (x y z : List Entry) (es fs : List Placed) → y ≡ x ++ entries_of es → z ≡ y ++ entries_of fs → z ≡ x ++ entries_of (es ++ fs)
after_both xs x y z es fs a b = b ∙ ap (λ w. w ++ entries_of fs) a ∙ append_assoc x (entries_of es) (entries_of fs) ∙ ap (λ w. x ++ w) (sym (entries_both es fs))

pub passed_both : (p q r : PassView Entry) (ms ns : List ℕ) (es fs : List Placed) → Passed p q ms es → Passed q r ns fs → Passed p r (ms ++ ns) (es ++ fs)
passed_both p q r ms ns es fs a b = record {
  hall = b.hall ∙ a.hall;
  number = b.number ∙ a.number;
  away = b.away ∙ a.away;
  idle = b.idle;
  made = b.made ∙ a.made;
  ended = b.ended ∙ a.ended;
  opened = b.opened ∙ a.opened;
  opening = b.opening ∙ a.opening;
  begins = (a.begins.0 ++ b.begins.0, b.begins.1 ∙ ap (λ z. z ++ b.begins.0) a.begins.1 ∙ append_assoc p.seen a.begins.0 b.begins.0);
  alone = λ n w.
      let k = a.alone n w in
      let l = b.alone (a.number ∙ n) (a.away ∙ w) in
      let long : length q.seen ≡ length p.seen + length es =
      ap length k.seen ∙ length-append p.seen (entries_of es) ∙ ap (λ z. length p.seen + z) (length-map es (λ (p : Placed). p.1)) in
      record {
        seen = after_both [] p.seen q.seen r.seen es fs k.seen l.seen;
        lengths = lengths_both (length p.seen) ms ns es fs k.lengths (subst (λ z. AreLengths z ns fs) long l.lengths);
      };
  between = found_both (length p.seen) (length q.seen) (length r.seen) ms ns es fs a.between b.between;
  gained = b.gained ∙ ap (λ z. z ++ ns) a.gained ∙ append_assoc p.marks ms ns;
  turns = let x = a.turns in let y = b.turns in let l = length-append ms ns in omega (arith, x, y, l);
  mine = after_both [] p.mine q.mine r.mine es fs a.mine b.mine;
  placed = placed_both r.seen es fs (rw b.begins.1 (places_stay q.seen b.begins.0 es a.placed)) b.placed;
}

risen_more : (j k n : ℕ) → risen (j + k) n ≡ risen k (risen j n)
risen_more j zero n = ap (λ m. risen m n) (plus_none j)
risen_more j (suc k) n = ap (λ m. risen m n) (plus_one j k) ∙ ap next_count (risen_more j k n)

pub rung_both : (es fs : List Placed) (a b c : Ringing) → Rung (length es) a b → Rung (length fs) b c → Rung (length (es ++ fs)) a c
rung_both es fs a b c x y =
    y ∙ ap (λ (z : Ringing). record z { rings = risen (length fs) z.rings }) x
    ∙ ap (λ k. record a { rings = k }) (sym (risen_more (length es) (length fs) a.rings) ∙ ap (λ k. risen k a.rings) (sym (length-append es fs)))

pub more_both : (j k : ℕ) (o : Option ℕ) → more_by j (more_by k o) ≡ more_by (j + k) o
more_both j k None = refl
more_both j k (Some n) = ap Some (go n)
  where
    go : (n : ℕ) → (n + k) + j ≡ n + (j + k)
    go n = omega arith

pub more_none : (o : Option ℕ) → o ≡ more_by 0 o
more_none None = refl
more_none (Some n) = ap Some (go n)
  where
    go : (n : ℕ) → n ≡ n + 0
    go n = omega arith

pub one_left : (o : Option ℕ) → HasOne o → o ≡ more_by 1 (one_fewer o)
one_left None h = refl
one_left (Some n) h = ap Some (go n h)
  where
    go : (n : ℕ) → 0 < n → n ≡ (n - 1) + 1
    go n h = omega (arith, h)

pub heard_none : (a : Ringing) → IsHeard 0 0 a a
heard_none a = record { answers = more_none a.answers; agains = refl; rings = refl }

pub heard_and : (i j k l : ℕ) (a b c : Ringing) → IsHeard i k a b → IsHeard j l b c → IsHeard (i + j) (k + l) a c
heard_and i j k l a b c x y = record {
  answers = x.answers ∙ ap (more_by i) y.answers ∙ more_both i j c.answers;
  agains = y.agains ∙ ap (risen j) x.agains ∙ sym (risen_more i j a.agains);
  rings = y.rings ∙ ap (risen l) x.rings ∙ sym (risen_more k l a.rings);
}

pub heard_both : (i j : ℕ) (es fs : List Placed) (a b c : Ringing) → IsHeard i (length es) a b → IsHeard j (length fs) b c → IsHeard (i + j) (length (es ++ fs)) a c
heard_both i j es fs a b c x y = subst (λ (k : ℕ). IsHeard (i + j) k a c) (sym (length-append es fs)) (heard_and i j (length es) (length fs) a b c x y)

-- a bell that was only rung, and then answered Agains
pub heard_then : (i k : ℕ) (a b c : Ringing) → Rung k a b → IsHeard i 0 b c → IsHeard i k a c
heard_then i k a b c x y = record {
  answers = sym (ap (λ (z : Ringing). z.answers) x) ∙ y.answers;
  agains = y.agains ∙ ap (λ (z : Ringing). risen i z.agains) x;
  rings = y.rings ∙ ap (λ (z : Ringing). z.rings) x;
}

pub heard_rung : (k : ℕ) (a b : Ringing) → Rung k a b → IsHeard 0 k a b
heard_rung k a b x = heard_then 0 k a b b x (heard_none b)

-- one Again more
pub heard_again : (i : ℕ) (a b c : Ringing) → IsHeard i 0 a b → Waits Again b c → IsHeard (i + 1) 0 a c
heard_again i a b c x w = heard_and i 1 0 0 a b c x
    (record {
      answers = one_left b.answers w.0 ∙ ap (more_by 1) (sym (ap (λ (z : Ringing). z.answers) w.1));
      agains = ap (λ (z : Ringing). z.agains) w.1;
      rings = ap (λ (z : Ringing). z.rings) w.1;
    })
