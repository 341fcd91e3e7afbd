-- The answer of a book is the one that fits, and there is one.
use Rattle.std.proofs.Common.{◌≡◌, ◌≢◌, ℕ, ◌<◌, ◌≤◌, List, [], ◌∷◌, ◌++◌, Bool, true, false, cond, nat_lt, reverse, Option, Some, None, length, unwrap_or, refl, sym, ap, subst, ◌∙◌, arith, inl, inr, ◌⊎◌, zero, suc}
use Rattle.std.specs.List.{Contains}
use Rattle.std.specs.Option.{option_map}
use Rattle.std.proofs.lemmas.Bool.{cases_lt}
use Rattle.std.proofs.lemmas.Bool.Decides.{nat_tests}
use Rattle.braid_ids.specs.Identifiers.{IsIdentifier}
use Rattle.braid_ids.specs.Frontiers.{IsRising}
use Rattle.braid_change.specs.Updates.{UpdateView, IsBuilt}
use Rattle.braid_change.specs.Splices.{first_past}
use Rattle.braid_text.specs.Versions.{text_in, versions_in}
use Rattle.braid_text.specs.Histories.{IsLegal, MayFollow}
use Rattle.braid_text.specs.declared.room.Room.{Room}
use Rattle.braid_text.specs.declared.room.Which.{Which}
use Rattle.braid_text.specs.declared.room.Which.TheVariants.{Resources, Versions, Elements, Deletions, Width}
use Rattle.braid_text.specs.declared.accept.Accept.{Accept}
use Rattle.braid_text.specs.declared.accept.Accept.TheVariants as accepts
use Rattle.braid_text.specs.Refusals.{same_update, find_in, first_missing, first_full, first_there, judge_held, refusal_in}
use Rattle.braid_text.specs.Answers.{needs_of, refusal_to, answer_to, HasRoom, IsAnswer}
use Rattle.braid_text.proofs.Answered.{is_answer}
use Rattle.braid_text.proofs.Public.{only_answer}
use Rattle.braid_store.specs.declared.entry.Entry.{Entry}
use Rattle.braid_store.specs.declared.put.Put.{Put}
use Rattle.braid_store.specs.declared.put.Put.TheVariants.{New, Known, Clash, UnknownParent, OutOfRange, Full, Memory}
use Rattle.braid_store.specs.Books.{Counts, counts_at, of_path, IsLegalBook}
use Rattle.braid_store.specs.Answers.{limit_of, count_of, place_of, IsWithin, IsFirstOver, IsPut, refused_as, first_over, counted_answer, answered, put_answer}

-- an answer that a history may refuse with, whatever room there is
abbrev pub IsRefusal : Accept → Type 0
IsRefusal accepts.New = ⊥
IsRefusal accepts.Known = Unit {0}
IsRefusal (accepts.Clash v) = Unit {0}
IsRefusal (accepts.UnknownParent v) = Unit {0}
IsRefusal (accepts.OutOfRange patch len) = Unit {0}
IsRefusal (accepts.Full which need left) = ⊥
IsRefusal accepts.Memory = ⊥

is_held_refusal : (u : UpdateView) (held : Option UpdateView) (a : Accept) → judge_held u held ≡ Some a → IsRefusal a
is_held_refusal u None a h = cc
is_held_refusal u (Some w) a h = go (same_update u w) h
  where
    go : (b : Bool) → Some (cond b accepts.Known (accepts.Clash u.id)) ≡ Some a → IsRefusal a
    go true h = let e : accepts.Known ≡ a = cc in subst IsRefusal e tt
    go false h = let e : accepts.Clash u.id ≡ a = cc in subst IsRefusal e tt

first_is : (x y : Option Accept) (a : Accept) → ((b : Accept) → x ≡ Some b → IsRefusal b) → ((b : Accept) → y ≡ Some b → IsRefusal b) → first_there x y ≡ Some a → IsRefusal a
first_is (Some b) y a p q h = p a h
first_is None y a p q h = q a h

pub is_refusal : (us : List UpdateView) (u : UpdateView) (a : Accept) → refusal_in us u ≡ Some a → IsRefusal a
is_refusal us u a h = first_is (judge_held u (find_in u.id us)) _ a (is_held_refusal u (find_in u.id us)) (λ b k. first_is (option_map accepts.UnknownParent (first_missing u.parents us)) _ b (missing (first_missing u.parents us)) (past (first_past (text_in (versions_in us) u.parents) u.change)) k) h
  where
    missing : (o : Option (List ℕ)) (b : Accept) → option_map accepts.UnknownParent o ≡ Some b → IsRefusal b
    missing None b k = cc
    missing (Some v) b k = let e : accepts.UnknownParent v ≡ b = cc in subst IsRefusal e tt

    past : (o : Option ℕ) (b : Accept) → option_map (λ (n : ℕ). accepts.OutOfRange n (length (text_in (versions_in us) u.parents))) o ≡ Some b → IsRefusal b
    past None b k = cc
    past (Some n) b k = let e : accepts.OutOfRange n (length (text_in (versions_in us) u.parents)) ≡ b = cc in subst IsRefusal e tt

-- there is room for all that is needed where there is as much
not_below_itself : (n : ℕ) → nat_lt n n ≡ false
not_below_itself n = grind (arith, nat_tests)

none_full : (need : Room) → first_full need need ≡ None
none_full need =
    ap (λ (b : Bool). cond b (Some (accepts.Full Versions need.versions need.versions)) (cond (nat_lt need.elements need.elements) (Some (accepts.Full Elements need.elements need.elements)) (cond (nat_lt need.deletions need.deletions) (Some (accepts.Full Deletions need.deletions need.deletions)) (cond (nat_lt need.width need.width) (Some (accepts.Full Width need.width need.width)) None)))) (not_below_itself need.versions)
    ∙ ap (λ (b : Bool). cond b (Some (accepts.Full Elements need.elements need.elements)) (cond (nat_lt need.deletions need.deletions) (Some (accepts.Full Deletions need.deletions need.deletions)) (cond (nat_lt need.width need.width) (Some (accepts.Full Width need.width need.width)) None))) (not_below_itself need.elements)
    ∙ ap (λ (b : Bool). cond b (Some (accepts.Full Deletions need.deletions need.deletions)) (cond (nat_lt need.width need.width) (Some (accepts.Full Width need.width need.width)) None)) (not_below_itself need.deletions)
    ∙ ap (λ (b : Bool). cond b (Some (accepts.Full Width need.width need.width)) None) (not_below_itself need.width)

enough : (need : Room) → HasRoom need need
enough need = record { versions = omega arith; elements = omega arith; deletions = omega arith; width = omega arith }

-- with as much room as is needed the answer is the refusal, or New
roomy : (H : List UpdateView) (u : UpdateView) → answer_to (needs_of H u) H u ≡ unwrap_or (refusal_to H u) accepts.New
roomy H u = ap (λ (o : Option Accept). unwrap_or (first_there (refusal_to H u) o) accepts.New) (none_full (needs_of H u)) ∙ go (refusal_to H u)
  where
    go : (o : Option Accept) → unwrap_or (first_there o None) accepts.New ≡ unwrap_or o accepts.New
    go None = refl
    go (Some a) = refl

pub fits_roomy : (H : List UpdateView) (u : UpdateView) → IsLegal H → IsIdentifier u.id → IsRising u.parents → IsBuilt u.parents u.change → IsAnswer (needs_of H u) H u (unwrap_or (refusal_to H u) accepts.New)
fits_roomy H u legal identifier rising built = subst (IsAnswer (needs_of H u) H u) (roomy H u) (is_answer (needs_of H u) H u legal rising identifier built)

pub one_roomy : (H : List UpdateView) (u : UpdateView) → IsLegal H → IsRising u.parents → (a : Accept) → IsAnswer (needs_of H u) H u a → a ≢ accepts.Memory → a ≡ unwrap_or (refusal_to H u) accepts.New
one_roomy H u legal rising a is other = only_answer (needs_of H u) H u legal rising a is other ∙ roomy H u

-- a refusal that fits is the history's, and an update that may follow has none
refused_by : (o : Option Accept) (a : Accept) → a ≡ unwrap_or o accepts.New → IsRefusal a → o ≡ Some a
refused_by None a e r = absurd (subst IsRefusal e r)
refused_by (Some b) a e r = ap Some (sym e)

none_refused : (H : List UpdateView) (u : UpdateView) → IsLegal H → IsRising u.parents → MayFollow H u → refusal_to H u ≡ None
none_refused H u legal rising follows = go (refusal_to H u) refl (one_roomy H u legal rising accepts.New (follows, enough (needs_of H u)) (λ e. cc))
  where
    go : (o : Option Accept) → refusal_to H u ≡ o → accepts.New ≡ unwrap_or (refusal_to H u) accepts.New → refusal_to H u ≡ None
    go None e h = e
    go (Some b) e h = absurd (let f : b ≡ accepts.New = sym (h ∙ ap (λ (o : Option Accept). unwrap_or o accepts.New) e) in subst IsRefusal f (is_refusal (reverse H) u b e))

-- the first count over its limit
below : (limit n : ℕ) → nat_lt limit n ≡ false → n ≤ limit
below limit n h = grind (arith, nat_tests)

above : (limit n : ℕ) → nat_lt limit n ≡ true → limit < n
above limit n h = grind (arith, nat_tests)

not_over : (limit n : ℕ) → n ≤ limit → nat_lt limit n ≡ false
not_over limit n h = grind (arith, nat_tests)

is_over : (limit n : ℕ) → limit < n → nat_lt limit n ≡ true
is_over limit n h = grind (arith, nat_tests)

-- what the first count over its limit says
abbrev pub FirstOver : Counts → Option Which → Type 0
FirstOver c None = IsWithin c
FirstOver c (Some which) = IsFirstOver c which

pub first_over_is : (c : Counts) → FirstOver c (first_over c)
first_over_is c = r (nat_lt 4_096 c.resources) refl
  where
    after_elements : Option Which
    after_elements = cond (nat_lt 33_554_432 c.deletions) (Some Deletions) (cond (nat_lt 1_000 c.width) (Some Width) None)

    w : (b : Bool) → nat_lt 1_000 c.width ≡ b → c.resources ≤ 4_096 → c.versions ≤ 262_144 → c.elements ≤ 16_777_216 → c.deletions ≤ 33_554_432 → FirstOver c (cond b (Some Width) None)
    w true h hr hv he hd = record { over = above 1_000 c.width h; first = λ earlier. go earlier }
      where
        go : (earlier : Which) → place_of earlier < 4 → count_of c earlier ≤ limit_of earlier
        go Resources l = hr
        go Versions l = hv
        go Elements l = he
        go Deletions l = hd
        go Width l = absurd (omega (arith, l))
    w false h hr hv he hd = go
      where
        go : (which : Which) → count_of c which ≤ limit_of which
        go Resources = hr
        go Versions = hv
        go Elements = he
        go Deletions = hd
        go Width = below 1_000 c.width h

    d : (b : Bool) → nat_lt 33_554_432 c.deletions ≡ b → c.resources ≤ 4_096 → c.versions ≤ 262_144 → c.elements ≤ 16_777_216 → FirstOver c (cond b (Some Deletions) (cond (nat_lt 1_000 c.width) (Some Width) None))
    d true h hr hv he = record { over = above 33_554_432 c.deletions h; first = λ earlier. go earlier }
      where
        go : (earlier : Which) → place_of earlier < 3 → count_of c earlier ≤ limit_of earlier
        go Resources l = hr
        go Versions l = hv
        go Elements l = he
        go Deletions l = absurd (omega (arith, l))
        go Width l = absurd (omega (arith, l))
    d false h hr hv he = w (nat_lt 1_000 c.width) refl hr hv he (below 33_554_432 c.deletions h)

    e : (b : Bool) → nat_lt 16_777_216 c.elements ≡ b → c.resources ≤ 4_096 → c.versions ≤ 262_144 → FirstOver c (cond b (Some Elements) after_elements)
    e true h hr hv = record { over = above 16_777_216 c.elements h; first = λ earlier. go earlier }
      where
        go : (earlier : Which) → place_of earlier < 2 → count_of c earlier ≤ limit_of earlier
        go Resources l = hr
        go Versions l = hv
        go Elements l = absurd (omega (arith, l))
        go Deletions l = absurd (omega (arith, l))
        go Width l = absurd (omega (arith, l))
    e false h hr hv = d (nat_lt 33_554_432 c.deletions) refl hr hv (below 16_777_216 c.elements h)

    v : (b : Bool) → nat_lt 262_144 c.versions ≡ b → c.resources ≤ 4_096 → FirstOver c (cond b (Some Versions) (cond (nat_lt 16_777_216 c.elements) (Some Elements) after_elements))
    v true h hr = record { over = above 262_144 c.versions h; first = λ earlier. go earlier }
      where
        go : (earlier : Which) → place_of earlier < 1 → count_of c earlier ≤ limit_of earlier
        go Resources l = hr
        go Versions l = absurd (omega (arith, l))
        go Elements l = absurd (omega (arith, l))
        go Deletions l = absurd (omega (arith, l))
        go Width l = absurd (omega (arith, l))
    v false h hr = e (nat_lt 16_777_216 c.elements) refl hr (below 262_144 c.versions h)

    r : (b : Bool) → nat_lt 4_096 c.resources ≡ b → FirstOver c (cond b (Some Resources) (cond (nat_lt 262_144 c.versions) (Some Versions) (cond (nat_lt 16_777_216 c.elements) (Some Elements) after_elements)))
    r true h = record { over = above 4_096 c.resources h; first = λ earlier l. absurd (omega (arith, l)) }
    r false h = v (nat_lt 262_144 c.versions) refl (below 4_096 c.resources h)

-- one count at most is the first over its limit, and none where none is over
which_at : ℕ → Which
which_at zero = Resources
which_at (suc zero) = Versions
which_at (suc (suc zero)) = Elements
which_at (suc (suc (suc zero))) = Deletions
which_at (suc (suc (suc (suc n)))) = Width

at_its_place : (which : Which) → which_at (place_of which) ≡ which
unfolding which_at
at_its_place Resources = refl
at_its_place Versions = refl
at_its_place Elements = refl
at_its_place Deletions = refl
at_its_place Width = refl

places_apart : (x y : Which) → place_of x ≡ place_of y → x ≡ y
places_apart x y e = sym (at_its_place x) ∙ ap which_at e ∙ at_its_place y

one_first : (c : Counts) (x y : Option Which) → FirstOver c x → FirstOver c y → x ≡ y
one_first c None None f g = refl
one_first c None (Some y) f g = absurd (let here = f y in let over = g.over in omega (arith, here, over))
one_first c (Some x) None f g = absurd (let here = g x in let over = f.over in omega (arith, here, over))
one_first c (Some x) (Some y) f g = ap Some (places_apart x y (go (cases_lt (place_of x) (place_of y)) (cases_lt (place_of y) (place_of x))))
  where
    no_earlier : place_of x < place_of y → ⊥
    no_earlier l = let here = g.first x l in let over = f.over in omega (arith, here, over)

    no_later : place_of y < place_of x → ⊥
    no_later l = let here = f.first y l in let over = g.over in omega (arith, here, over)

    go : (place_of x < place_of y) ⊎ (place_of y ≤ place_of x) → (place_of y < place_of x) ⊎ (place_of x ≤ place_of y) → place_of x ≡ place_of y
    go (inl l) k = absurd (no_earlier l)
    go (inr l) (inl k) = absurd (no_later k)
    go (inr l) (inr k) = omega (arith, l, k)

pub first_over_one : (c : Counts) (o : Option Which) → FirstOver c o → first_over c ≡ o
first_over_one c o f = one_first c (first_over c) o (first_over_is c) f

-- the answer that is told fits
counted_fits : (B : List Entry) (e : Entry) → MayFollow (of_path B e.path) e.update → (o : Option Which) → FirstOver (counts_at (B ++ e ∷ []) e.path) o → IsPut B e (counted_answer o)
counted_fits B e follows None f = (follows, f)
counted_fits B e follows (Some which) f = (follows, f, refl)

refused_fits : (B : List Entry) (e : Entry) (a : Accept) → IsRefusal a → IsAnswer (needs_of (of_path B e.path) e.update) (of_path B e.path) e.update a → IsPut B e (refused_as a)
refused_fits B e accepts.New r is = absurd r
refused_fits B e accepts.Known r is = is
refused_fits B e (accepts.Clash v) r is = is
refused_fits B e (accepts.UnknownParent v) r is = is
refused_fits B e (accepts.OutOfRange patch len) r is = is
refused_fits B e (accepts.Full which need left) r is = absurd r
refused_fits B e accepts.Memory r is = absurd r

pub fits : (B : List Entry) (e : Entry) → IsLegalBook B → IsIdentifier e.update.id → IsRising e.update.parents → IsBuilt e.update.parents e.update.change → IsPut B e (put_answer B e)
fits B e legal identifier rising built = go (refusal_to (of_path B e.path) e.update) refl (fits_roomy (of_path B e.path) e.update (legal e.path) identifier rising built)
  where
    go : (o : Option Accept) → refusal_to (of_path B e.path) e.update ≡ o → IsAnswer (needs_of (of_path B e.path) e.update) (of_path B e.path) e.update (unwrap_or (refusal_to (of_path B e.path) e.update) accepts.New) → IsPut B e (put_answer B e)
    go None h is =
        let follows = (subst (λ (o : Option Accept). IsAnswer (needs_of (of_path B e.path) e.update) (of_path B e.path) e.update (unwrap_or o accepts.New)) h is).0 in
        subst (λ (o : Option Accept). IsPut B e (answered B e o)) (sym h) (counted_fits B e follows (first_over (counts_at (B ++ e ∷ []) e.path)) (first_over_is (counts_at (B ++ e ∷ []) e.path)))
    go (Some a) h is =
        subst (λ (o : Option Accept). IsPut B e (answered B e o)) (sym h) (refused_fits B e a (is_refusal (reverse (of_path B e.path)) e.update a h) (subst (λ (o : Option Accept). IsAnswer (needs_of (of_path B e.path) e.update) (of_path B e.path) e.update (unwrap_or o accepts.New)) h is))

-- and no other fits but want of memory
pub one : (B : List Entry) (e : Entry) → IsLegalBook B → IsRising e.update.parents → (a : Put) → IsPut B e a → a ≢ Memory → a ≡ put_answer B e
one B e legal rising a is other = go a is other
  where
    told : (x : Accept) → IsRefusal x → IsAnswer (needs_of (of_path B e.path) e.update) (of_path B e.path) e.update x → x ≢ accepts.Memory → refused_as x ≡ put_answer B e
    told x r fit apart = sym (ap (answered B e) (refused_by (refusal_to (of_path B e.path) e.update) x (one_roomy (of_path B e.path) e.update (legal e.path) rising x fit apart) r))

    counted : (o : Option Which) → MayFollow (of_path B e.path) e.update → FirstOver (counts_at (B ++ e ∷ []) e.path) o → counted_answer o ≡ put_answer B e
    counted o follows f = ap counted_answer (sym (first_over_one (counts_at (B ++ e ∷ []) e.path) o f)) ∙ sym (ap (answered B e) (none_refused (of_path B e.path) e.update (legal e.path) rising follows))

    go : (b : Put) → IsPut B e b → b ≢ Memory → b ≡ put_answer B e
    go New is other = counted None is.0 is.1
    go Known is other = told accepts.Known tt is (λ e. cc)
    go (Clash v) is other = told (accepts.Clash v) tt is (λ e. cc)
    go (UnknownParent v) is other = told (accepts.UnknownParent v) tt is (λ e. cc)
    go (OutOfRange patch len) is other = told (accepts.OutOfRange patch len) tt is (λ e. cc)
    go (Full which limit) is other = ap (λ (n : ℕ). Full which n) is.2 ∙ counted (Some which) is.0 is.1
    go Memory is other = absurd (other refl)

pub only_known : (B : List Entry) (e : Entry) → IsLegalBook B → IsRising e.update.parents → Contains (of_path B e.path) e.update → (a : Put) → IsPut B e a → a ≡ Known
only_known B e legal rising c a is = go a is
  where
    same : (b : Put) → IsPut B e b → b ≢ Memory → b ≡ Known
    same b fit other = one B e legal rising b fit other ∙ sym (one B e legal rising Known c (λ h. cc))

    go : (b : Put) → IsPut B e b → b ≡ Known
    go New fit = same New fit (λ h. cc)
    go Known fit = refl
    go (Clash v) fit = same (Clash v) fit (λ h. cc)
    go (UnknownParent v) fit = same (UnknownParent v) fit (λ h. cc)
    go (OutOfRange patch len) fit = same (OutOfRange patch len) fit (λ h. cc)
    go (Full which limit) fit = same (Full which limit) fit (λ h. cc)
    go Memory fit = absurd (fit c)
