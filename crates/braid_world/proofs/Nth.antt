-- What a cursor gives after so many calls, and which identifiers are foreign.
use Rattle.std.proofs.Common.{◌≡◌, ◌≢◌, ℕ, ◌<◌, ◌≤◌, ◌+◌, ◌^◌, List, [], ◌∷◌, Bool, true, false, not, ◌&&◌, refl, sym, ap, subst, ◌∙◌, arith, length, take, drop, filter, Option, Some, None, suc, zero, is_some, get_or}
use Rattle.std.proofs.lemmas.List.{drop_all, take_all}
use Rattle.std.specs.List.{slice_get, AllByRecursion}
use Rattle.std.specs.Option.{MatchOption}
use Rattle.braid_ids.specs.Agents.{agent_name}
use Rattle.braid_change.specs.Updates.{UpdateView}
use Rattle.braid_text.specs.Sent.{is_outside, sent}
use Rattle.braid_store.specs.declared.entry.Entry.{Entry}
use Rattle.braid_store.specs.Books.{of_path}
use Rattle.braid_store.specs.Cursors.{CursorView, IsFit, IsNext, left_past}
use Rattle.braid_outbox.specs.declared.world.Side.{Side}
use Rattle.braid_outbox.specs.Replicas.{number}
use Rattle.braid_outbox.specs.Worlds.{is_foreign}
use Rattle.braid_outbox.proofs.Names.{number_is, number_name}

-- a cursor has passed so many of the updates that were left, or all of them
pub record HasPassed (B : List Entry) (old : CursorView) (k : ℕ) (c : CursorView) : Type 0 where
  pub left : left_past (of_path B old.path) old.from c.passed ≡ drop k (left_past (of_path B old.path) old.from old.passed)
  pub kept : c ≡ record old { passed = c.passed }
  pub fits : IsFit B c

-- the rest of a list
drop_suc : {A : Type 0} (xs : List A) (k : ℕ) (x : A) (r : List A) → drop k xs ≡ x ∷ r → drop (suc k) xs ≡ r
drop_suc [] zero x r h = cc
drop_suc [] (suc k) x r h = cc
drop_suc (y ∷ xs) zero x r h = cc
drop_suc (y ∷ xs) (suc k) x r h = drop_suc xs k x r h

rest_of : {A : Type 0} (xs : List A) (k : ℕ) (x : A) (r : List A) → drop k xs ≡ x ∷ r → drop (k + 1) xs ≡ r
rest_of xs k x r h = let f : suc k ≡ k + 1 = omega arith in subst (λ (n : ℕ). drop n xs ≡ r) f (drop_suc xs k x r h)

none_behind : {A : Type 0} (xs : List A) (k n : ℕ) → drop k xs ≡ [] → k ≤ n → drop n xs ≡ []
none_behind [] k n h l = drop_all n [] (omega arith)
none_behind (x ∷ xs) zero n h l = cc
none_behind (x ∷ xs) (suc k) zero h l = absurd (omega (arith, l))
none_behind (x ∷ xs) (suc k) (suc n) h l = none_behind xs k n h (omega (arith, l))

at_drop : {A : Type 0} (xs : List A) (k : ℕ) (x : A) (r : List A) → drop k xs ≡ x ∷ r → slice_get xs k ≡ Some x
at_drop [] zero x r h = cc
at_drop [] (suc k) x r h = cc
at_drop (y ∷ xs) zero x r h = let e : y ≡ x = cc in ap Some e
at_drop (y ∷ xs) (suc k) x r h = at_drop xs k x r h

past_drop : {A : Type 0} (xs : List A) (k : ℕ) → drop k xs ≡ [] → slice_get xs k ≡ None
past_drop [] k h = refl
past_drop (y ∷ xs) zero h = cc
past_drop (y ∷ xs) (suc k) h = past_drop xs k h

-- nothing is left behind a whole history
left_at_end : (H : List UpdateView) (F : List (List ℕ)) → left_past H F (length H) ≡ []
left_at_end H F = ap (filter (is_outside H F)) (drop_all (length H) H (omega arith))

pub passed_none : (B : List Entry) (c : CursorView) → IsFit B c → HasPassed B c 0 c
passed_none B c fits = record { left = refl; kept = refl; fits = fits }

pub passed_next : (B : List Entry) (old c d : CursorView) (k : ℕ) (u : UpdateView) → HasPassed B old k c → IsNext (of_path B c.path) c.from c.passed (Some u) d.passed → d ≡ record c { passed = d.passed } → IsFit B d → HasPassed B old (k + 1) d
passed_next B old c d k u p next same fits = record {
  left = sym (rest_of (left_past (of_path B old.path) old.from old.passed) k u (left_past (of_path B old.path) old.from d.passed) (sym p.left ∙ subst (λ (v : CursorView). left_past (of_path B v.path) v.from c.passed ≡ u ∷ left_past (of_path B v.path) v.from d.passed) p.kept next.0));
  kept = same ∙ ap (λ (v : CursorView). record v { passed = d.passed }) p.kept;
  fits = fits;
}

pub passed_all : (B : List Entry) (old c d : CursorView) (k n : ℕ) → HasPassed B old k c → IsNext (of_path B c.path) c.from c.passed None d.passed → d ≡ record c { passed = d.passed } → IsFit B d → k ≤ n → HasPassed B old n d
passed_all B old c d k n p next same fits l = record {
  left = subst (λ (m : ℕ). left_past H old.from m ≡ []) (sym end) (left_at_end H old.from) ∙ sym (none_behind (left_past H old.from old.passed) k n (sym p.left ∙ none) l);
  kept = same ∙ ap (λ (v : CursorView). record v { passed = d.passed }) p.kept;
  fits = fits;
}
  where
    H : List UpdateView
    H = of_path B old.path

    none : left_past H old.from c.passed ≡ []
    none = subst (λ (v : CursorView). left_past (of_path B v.path) v.from c.passed ≡ []) p.kept next.0

    end : d.passed ≡ length H
    end = subst (λ (v : CursorView). d.passed ≡ length (of_path B v.path)) p.kept next.1

-- the update at a place of what is sent
pub nth_found : (H : List UpdateView) (F : List (List ℕ)) (n k m : ℕ) (u : UpdateView) → left_past H F n ≡ drop k (left_past H F 0) → IsNext H F n (Some u) m → Some u ≡ slice_get (sent H F) k
nth_found H F n k m u e next = sym (at_drop (sent H F) k u (left_past H F m) (sym e ∙ next.0))

pub nth_none : (H : List UpdateView) (F : List (List ℕ)) (n k m : ℕ) → left_past H F n ≡ drop k (left_past H F 0) → IsNext H F n None m → None ≡ slice_get (sent H F) k
nth_none H F n k m e next = sym (past_drop (sent H F) k (sym e ∙ next.0))

-- the number of an agent's version, where an identifier is one's
pub number_told : (a v : List ℕ) (o : Option ℕ) → MatchOption o ((k : ℕ) → 1 ≤ k → k < 2 ^ 64 → v ≢ agent_name a k) (λ k. (1 ≤ k) × (k < 2 ^ 64) × (v ≡ agent_name a k)) → number a v ≡ o
number_told a v None h = go (number a v) refl
  where
    go : (o : Option ℕ) → number a v ≡ o → number a v ≡ None
    go None e = e
    go (Some k) e = let p = number_is a v k e in absurd (h k (omega (arith, p.1)) p.2 p.0)
number_told a v (Some k) h = ap (number a) h.2 ∙ number_name a k (omega (arith, h.0)) h.1

-- what was read at a place stands there
pub get_read : {A : Type 0} (xs : List A) (k : ℕ) (x : A) → k < length xs → x ≡ get_or xs k x → slice_get xs k ≡ Some x
get_read [] k x h e = absurd (omega (arith, h))
get_read (y ∷ xs) zero x h e = ap Some (sym e)
get_read (y ∷ xs) (suc k) x h e = get_read xs k x (omega (arith, h)) e

pub get_far : {A : Type 0} (xs : List A) (k : ℕ) → length xs ≤ k → slice_get xs k ≡ None
get_far [] k h = refl
get_far (y ∷ xs) zero h = absurd (omega (arith, h))
get_far (y ∷ xs) (suc k) h = get_far xs k (omega (arith, h))

pub all_read : {A : Type 0} (P : A → Type 0) (xs : List A) (k : ℕ) (x : A) → AllByRecursion P xs → k < length xs → x ≡ get_or xs k x → P x
all_read P [] k x a h e = absurd (omega (arith, h))
all_read P (y ∷ xs) zero x a h e = subst P (sym e) a.0
all_read P (y ∷ xs) (suc k) x a h e = all_read P xs k x a.1 (omega (arith, h)) e

-- one side more
with_rest : (b : Bool) (v : List ℕ) (xs ys : List Side) → (is_foreign v xs ≡ true → is_foreign v ys ≡ true) → (b && is_foreign v xs) ≡ true → (b && is_foreign v ys) ≡ true
with_rest true v xs ys f h = f h
with_rest false v xs ys f h = h

pub foreign_more : (v : List ℕ) (ss : List Side) (i : ℕ) (s : Side) → slice_get ss i ≡ Some s → number s.agent v ≡ None → is_foreign v (take i ss) ≡ true → is_foreign v (take (suc i) ss) ≡ true
foreign_more v [] i s e n h = cc
foreign_more v (x ∷ ss) zero s e n h = let f : x ≡ s = cc in ap (λ (o : Option ℕ). not (is_some o) && true) (ap (λ (t : Side). number t.agent v) f ∙ n)
foreign_more v (x ∷ ss) (suc i) s e n h = with_rest (not (is_some (number x.agent v))) v (take i ss) (take (suc i) ss) (foreign_more v ss i s e n) h

-- a side with a name
no_rest : (b c : Bool) → c ≡ false → (b && c) ≡ false
no_rest true c h = h
no_rest false c h = refl

pub not_foreign : (v : List ℕ) (ss : List Side) (i : ℕ) (s : Side) (k : ℕ) → slice_get ss i ≡ Some s → number s.agent v ≡ Some k → is_foreign v ss ≡ false
not_foreign v [] i s k e n = cc
not_foreign v (x ∷ ss) zero s k e n = let f : x ≡ s = cc in ap (λ (o : Option ℕ). not (is_some o) && is_foreign v ss) (ap (λ (t : Side). number t.agent v) f ∙ n)
not_foreign v (x ∷ ss) (suc i) s k e n = no_rest (not (is_some (number x.agent v))) (is_foreign v ss) (not_foreign v ss i s k e n)

-- what the answer on a side's agent says
abbrev IsNumbered : List ℕ → List ℕ → Option ℕ → Type 0
IsNumbered a v o = MatchOption o ((k : ℕ) → 1 ≤ k → k < 2 ^ 64 → v ≢ agent_name a k) (λ k. (1 ≤ k) × (k < 2 ^ 64) × (v ≡ agent_name a k))

pub foreign_step : (v : List ℕ) (ss : List Side) (i : ℕ) (s : Side) (o : Option ℕ) → i < length ss → s ≡ get_or ss i s → IsNumbered s.agent v o → o ≡ None → is_foreign v (take i ss) ≡ true → is_foreign v (take (i + 1) ss) ≡ true
foreign_step v ss i s o l e is none h =
    let step : suc i ≡ i + 1 = omega arith in
    subst (λ (n : ℕ). is_foreign v (take n ss) ≡ true) step (foreign_more v ss i s (get_read ss i s l e) (number_told s.agent v o is ∙ none) h)

pub foreign_not : (v : List ℕ) (ss : List Side) (i : ℕ) (s : Side) (o : Option ℕ) (k : ℕ) → i < length ss → s ≡ get_or ss i s → IsNumbered s.agent v o → o ≡ Some k → false ≡ is_foreign v ss
foreign_not v ss i s o k l e is some = sym (not_foreign v ss i s k (get_read ss i s l e) (number_told s.agent v o is ∙ some))

pub foreign_all : (v : List ℕ) (ss : List Side) (i : ℕ) → length ss ≤ i → is_foreign v (take i ss) ≡ true → true ≡ is_foreign v ss
foreign_all v ss i l h = sym h ∙ ap (is_foreign v) (take_all i ss l)

-- what the next call of a cursor gives that passed so many
at_path : (B : List Entry) (path : List ℕ) (F : List (List ℕ)) (c d : CursorView) (o : Option UpdateView) (m : ℕ) → c.path ≡ path → c.from ≡ F → d ≡ record c { passed = d.passed } → IsNext (of_path B d.path) d.from d.passed o m → IsNext (of_path B path) F d.passed o m
at_path B path F c d o m p f same n =
    subst (λ (G : List (List ℕ)). IsNext (of_path B path) G d.passed o m) (ap (λ (x : CursorView). x.from) same ∙ f)
    (subst (λ (q : List ℕ). IsNext (of_path B q) d.from d.passed o m) (ap (λ (x : CursorView). x.path) same ∙ p) n)

left_here : (B : List Entry) (path : List ℕ) (F : List (List ℕ)) (c d : CursorView) (k : ℕ) → c.path ≡ path → c.from ≡ F → c.passed ≡ 0 → left_past (of_path B c.path) c.from d.passed ≡ drop k (left_past (of_path B c.path) c.from c.passed)
    → left_past (of_path B path) F d.passed ≡ drop k (left_past (of_path B path) F 0)
left_here B path F c d k p f z h =
    subst (λ (n : ℕ). left_past (of_path B path) F d.passed ≡ drop k (left_past (of_path B path) F n)) z
    (subst (λ (G : List (List ℕ)). left_past (of_path B path) G d.passed ≡ drop k (left_past (of_path B path) G c.passed)) f
    (subst (λ (q : List ℕ). left_past (of_path B q) c.from d.passed ≡ drop k (left_past (of_path B q) c.from c.passed)) p h))

pub given_some : (B : List Entry) (path : List ℕ) (F : List (List ℕ)) (c d : CursorView) (k m : ℕ) (u : UpdateView) → c.path ≡ path → c.from ≡ F → c.passed ≡ 0 → left_past (of_path B c.path) c.from d.passed ≡ drop k (left_past (of_path B c.path) c.from c.passed)
    → d ≡ record c { passed = d.passed } → IsNext (of_path B d.path) d.from d.passed (Some u) m → Some u ≡ slice_get (sent (of_path B path) F) k
given_some B path F c d k m u p f z left same next = nth_found (of_path B path) F d.passed k m u (left_here B path F c d k p f z left) (at_path B path F c d (Some u) m p f same next)

pub given_none : (B : List Entry) (path : List ℕ) (F : List (List ℕ)) (c d : CursorView) (k m : ℕ) → c.path ≡ path → c.from ≡ F → c.passed ≡ 0 → left_past (of_path B c.path) c.from d.passed ≡ drop k (left_past (of_path B c.path) c.from c.passed)
    → d ≡ record c { passed = d.passed } → IsNext (of_path B d.path) d.from d.passed None m → None ≡ slice_get (sent (of_path B path) F) k
given_none B path F c d k m p f z left same next = nth_none (of_path B path) F d.passed k m (left_here B path F c d k p f z left) (at_path B path F c d None m p f same next)
