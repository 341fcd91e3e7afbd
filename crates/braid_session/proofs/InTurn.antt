-- Answers whose marks stand in the history as their requests follow one another.
use Rattle.std.proofs.Common.{◌≡◌, ℕ, Bool, ◌+◌, ◌≤◌, ◌⊎◌, inl, inr, List, [], ◌∷◌, ◌++◌, refl, sym, ap, subst, ◌∙◌, length, append_assoc, Some, arith}
use Rattle.std.specs.List.{AllByRecursion, slice_get}
use Rattle.std.proofs.lemmas.List.{append-nil}
use Rattle.braid_store.specs.declared.entry.Entry.{Entry}
use Rattle.braid_http.specs.declared.request.Request.{Request}
use Rattle.braid_http.specs.Replies.{reply_text}
use Rattle.braid_session.specs.declared.serving.Serving.{Serving}
use Rattle.braid_session.specs.Answers.{Answers, denial_reply}
use Rattle.braid_session.specs.Sessions.{Placed, placed_at, Course, goes_on, watched, Says, none, direct, turn, watches}
use Rattle.braid_session.specs.Ends.{ArePlaced, AreFound, none_found, passed_by, added_to}
use Rattle.braid_session.specs.InTurn.{StandAt, AreInTurn, SaysInTurn}
use Rattle.braid_session.proofs.Growing.{SameFronts, longer_fronts, slice_get_front}

-- a subscription goes on with nothing
ends_watched : (b : Bool) → watched b ≡ goes_on → ⊥
ends_watched b e = cc

-- from a lower mark on, and to a higher one

pub lower : (s : Serving) (by : ℕ) (book : List Entry) (qs : List Request) (marks : List ℕ) (entries : List Placed) (text : List ℕ) (course : Course) (a b c : ℕ) → a ≤ b
    → (x : Says s by book qs marks entries text course) → AreInTurn s by book qs marks entries text course x b c → AreInTurn s by book qs marks entries text course x a c
lower s by book _ _ _ _ _ a b c l none t = omega (arith, l, t)
lower s by book _ _ _ _ _ a b c l (direct q d qs marks entries text course m x) t = lower s by book qs marks entries text course a b c l x t
lower s by book _ _ _ _ _ a b c l (turn q wish n reply es qs marks entries text course m w x) t = ((let k = t.0 in omega (arith, l, k)), t.1, t.2)
lower s by book _ _ _ _ _ a b c l (watches q from n marks stopped m held) t = ((let k = t.0 in omega (arith, l, k)), t.1, t.2)

higher : (s : Serving) (by : ℕ) (book : List Entry) (qs : List Request) (marks : List ℕ) (entries : List Placed) (text : List ℕ) (course : Course) (a b c : ℕ) → b ≤ c
    → (x : Says s by book qs marks entries text course) → AreInTurn s by book qs marks entries text course x a b → AreInTurn s by book qs marks entries text course x a c
higher s by book _ _ _ _ _ a b c l none t = omega (arith, l, t)
higher s by book _ _ _ _ _ a b c l (direct q d qs marks entries text course m x) t = higher s by book qs marks entries text course a b c l x t
higher s by book _ _ _ _ _ a b c l (turn q wish n reply es qs marks entries text course m w x) t = (t.0, t.1, higher s by book qs marks entries text course (n + length es) b c l x t.2)
higher s by book _ _ _ _ _ a b c l (watches q from n marks stopped m held) t = (t.0, t.1, (let k = t.2 in omega (arith, l, k)))

pub to_higher : (s : Serving) (by : ℕ) (book : List Entry) (qs : List Request) (marks : List ℕ) (entries : List Placed) (text : List ℕ) (course : Course) (a b c : ℕ) → b ≤ c
    → SaysInTurn s by book qs marks entries text course a b → SaysInTurn s by book qs marks entries text course a c
to_higher s by book qs marks entries text course a b c l x = record { says = x.says; in_turn = higher s by book qs marks entries text course a b c l x.says x.in_turn }

-- on a longer history

stand_longer : (book later : List Entry) (n : ℕ) (es : List Entry) → StandAt book n es → StandAt (book ++ later) n es
stand_longer book later n [] h = tt
stand_longer book later n (e ∷ es) h = (slice_get_front book later n e h.0, stand_longer book later (n + 1) es h.1)

longer : (s : Serving) (by : ℕ) (book later : List Entry) (qs : List Request) (marks : List ℕ) (entries : List Placed) (text : List ℕ) (course : Course) (a b : ℕ)
    → SameFronts book (book ++ later) marks → course ≡ goes_on → (x : Says s by book qs marks entries text course) → AreInTurn s by book qs marks entries text course x a b
    → SaysInTurn s by (book ++ later) qs marks entries text course a b
longer s by book later _ _ _ _ _ a b h e none t = record { says = none; in_turn = t }
longer s by book later _ marks _ _ _ a b h e (direct q d qs _ entries text course m x) t =
    let y = longer s by book later qs marks entries text course a b h e x t in record { says = direct q d qs marks entries text course m y.says; in_turn = y.in_turn }
longer s by book later _ _ _ _ _ a b h e (turn q wish n reply es qs marks entries text course m w x) t =
    let y = longer s by book later qs marks entries text course (n + length es) b h.1 e x t.2 in
    record {
      says = turn q wish n reply es qs marks entries text course m (subst (λ (B : List Entry). Answers B by q.target wish reply es) h.0 w) y.says;
      in_turn = (t.0, stand_longer book later n es t.1, y.in_turn);
    }
longer s by book later _ _ _ _ _ a b h e (watches q from n marks stopped m held) t = absurd (ends_watched stopped e)

pub stays_in_turn : (s : Serving) (by : ℕ) (book later : List Entry) (qs : List Request) (marks : List ℕ) (entries : List Placed) (text : List ℕ) (a b : ℕ)
    → AllByRecursion (λ n. n ≤ length book) marks → SaysInTurn s by book qs marks entries text goes_on a b → SaysInTurn s by (book ++ later) qs marks entries text goes_on a b
stays_in_turn s by book later qs marks entries text a b h x = longer s by book later qs marks entries text goes_on a b (longer_fronts book later marks h) refl x.says x.in_turn

-- answers that follow answers

both : (s : Serving) (by : ℕ) (book : List Entry) (qs rs : List Request) (ms ns : List ℕ) (es fs : List Placed) (t u : List ℕ) (c course : Course) (low middle high : ℕ)
    → c ≡ goes_on → (x : Says s by book qs ms es t c) → AreInTurn s by book qs ms es t c x low middle → SaysInTurn s by book rs ns fs u course middle high
    → SaysInTurn s by book (qs ++ rs) (ms ++ ns) (es ++ fs) (t ++ u) course low high
both s by book _ rs _ ns _ fs _ u _ course low middle high e none k y = record { says = y.says; in_turn = lower s by book rs ns fs u course low middle high k y.says y.in_turn }
both s by book _ rs _ ns _ fs _ u _ course low middle high e (direct q d qs ms es t c m x) k y =
    let z = both s by book qs rs ms ns es fs t u c course low middle high e x k y in
    rw (append_assoc (reply_text q.close (denial_reply d)) t u) (record { says = direct q d (qs ++ rs) (ms ++ ns) (es ++ fs) (t ++ u) course m z.says; in_turn = z.in_turn })
both s by book _ rs _ ns _ fs _ u _ course low middle high e (turn q wish n reply new qs ms es t c m a x) k y =
    let z = both s by book qs rs ms ns es fs t u c course (n + length new) middle high e x k.2 y in
    rw (append_assoc (reply_text q.close reply) t u, append_assoc (placed_at n new) es fs)
    (record { says = turn q wish n reply new (qs ++ rs) (ms ++ ns) (es ++ fs) (t ++ u) course m a z.says; in_turn = (k.0, k.1, z.in_turn) })
both s by book _ rs _ ns _ fs _ u _ course low middle high e (watches q from n marks stopped m held) k y = absurd (ends_watched stopped e)

pub says_both_in_turn : (s : Serving) (by : ℕ) (book : List Entry) (qs rs : List Request) (ms ns : List ℕ) (es fs : List Placed) (t u : List ℕ) (course : Course) (low middle high : ℕ)
    → SaysInTurn s by book qs ms es t goes_on low middle → SaysInTurn s by book rs ns fs u course middle high
    → SaysInTurn s by book (qs ++ rs) (ms ++ ns) (es ++ fs) (t ++ u) course low high
says_both_in_turn s by book qs rs ms ns es fs t u course low middle high x y = both s by book qs rs ms ns es fs t u goes_on course low middle high refl x.says x.in_turn y

-- one request

no_marks : (s : Serving) (by : ℕ) (book : List Entry) (qs : List Request) (marks : List ℕ) (entries : List Placed) (text : List ℕ) (course : Course) → Says s by book qs marks entries text course → qs ≡ [] → (marks ≡ []) × (entries ≡ [])
no_marks s by book _ _ _ _ _ none e = (refl, refl)
no_marks s by book _ _ _ _ _ (direct q d qs marks entries text course m x) e = absurd (cc)
no_marks s by book _ _ _ _ _ (turn q wish n reply es qs marks entries text course m w x) e = absurd (cc)
no_marks s by book _ _ _ _ _ (watches q from n marks stopped m held) e = absurd (cc)

nothing_in_turn : (s : Serving) (by : ℕ) (book : List Entry) (qs : List Request) (marks : List ℕ) (entries : List Placed) (text : List ℕ) (course : Course) (low high : ℕ) → low ≤ high
    → (x : Says s by book qs marks entries text course) → qs ≡ [] → AreInTurn s by book qs marks entries text course x low high
nothing_in_turn s by book _ _ _ _ _ low high l none e = l
nothing_in_turn s by book _ _ _ _ _ low high l (direct q d qs marks entries text course m x) e = absurd (cc)
nothing_in_turn s by book _ _ _ _ _ low high l (turn q wish n reply es qs marks entries text course m w x) e = absurd (cc)
nothing_in_turn s by book _ _ _ _ _ low high l (watches q from n marks stopped m held) e = absurd (cc)

first_of : (a : ℕ) (xs : List ℕ) (b : ℕ) (ys : List ℕ) → a ∷ xs ≡ b ∷ ys → a ≡ b
first_of a xs b ys e = cc

others_of : (a : ℕ) (xs : List ℕ) (b : ℕ) (ys : List ℕ) → a ∷ xs ≡ b ∷ ys → xs ≡ ys
others_of a xs b ys e = cc

found_low : (low high : ℕ) (marks : List ℕ) (ps : List Placed) → AreFound low marks ps high → low ≤ high
found_low low high _ _ (none_found _ _ l) = l
found_low low high _ ps (passed_by _ n _ marks _ l x) = let k = found_low n high marks ps x in omega (arith, l, k)
found_low low high _ _ (added_to _ n _ e marks entries l x) = let k = found_low (n + 1) high marks entries x in omega (arith, l, k)

found_none : (low high : ℕ) (marks : List ℕ) (ps : List Placed) → AreFound low marks ps high → marks ≡ [] → (ps ≡ []) × (low ≤ high)
found_none low high _ _ (none_found _ _ l) e = (refl, l)
found_none low high _ ps (passed_by _ n _ marks _ l x) e = absurd (cc)
found_none low high _ _ (added_to _ n _ entry marks entries l x) e = absurd (cc)

-- what a single mark tells: nothing was added there, or one entry
abbrev AddsOne : ℕ → ℕ → List Placed → Type 0
AddsOne n high ps = ((ps ≡ []) × (n ≤ high)) ⊎ ((e : Entry) × (ps ≡ (n, e) ∷ []) × (n + 1 ≤ high))

found_one : (low n high : ℕ) (marks : List ℕ) (ps : List Placed) → AreFound low marks ps high → marks ≡ n ∷ [] → (low ≤ n) × AddsOne n high ps
found_one low n high _ _ (none_found _ _ l) e = absurd (cc)
found_one low n high _ ps (passed_by _ m _ marks _ l x) e =
    let same = first_of m marks n [] e in
    let end = found_none m high marks ps x (others_of m marks n [] e) in
    (subst (λ (i : ℕ). low ≤ i) same l, inl (end.0, subst (λ (i : ℕ). i ≤ high) same end.1))
found_one low n high _ _ (added_to _ m _ entry marks entries l x) e =
    let same = first_of m marks n [] e in
    let end = found_none (m + 1) high marks entries x (others_of m marks n [] e) in
    (subst (λ (i : ℕ). low ≤ i) same l, inr (entry, (λ i. (same i, entry) ∷ end.0 i), subst (λ (i : ℕ). i + 1 ≤ high) same end.1))

none_there : (n : ℕ) (es : List Entry) → placed_at n es ≡ [] → length es ≡ 0
none_there n [] e = refl
none_there n (y ∷ es) e = absurd (cc)

one_there : (n : ℕ) (es : List Entry) (x : Entry) → placed_at n es ≡ (n, x) ∷ [] → length es ≡ 1
one_there n [] x e = absurd (cc)
one_there n (y ∷ es) x e = let k : placed_at n es ≡ [] = cc in let l = none_there n es k in omega (arith, l)

adds_few : (n high : ℕ) (es : List Entry) → AddsOne n high (placed_at n es) → (length es ≤ 1) × (n + length es ≤ high)
adds_few n high es (inl (e, l)) = let k = none_there n es e in (omega (arith, k), omega (arith, k, l))
adds_few n high es (inr (x, e, l)) = let k = one_there n es x e in (omega (arith, k), omega (arith, k, l))

-- entries at one place, of which there is one at most, stand there
stand_placed : (book : List Entry) (n : ℕ) (es : List Entry) → ArePlaced book (placed_at n es) → length es ≤ 1 → StandAt book n es
stand_placed book n [] h l = tt
stand_placed book n (e ∷ []) h l = (h.0, tt)
stand_placed book n (e ∷ f ∷ es) h l = absurd (omega (arith, l))

one : (s : Serving) (by : ℕ) (book : List Entry) (q : Request) (qs : List Request) (marks : List ℕ) (entries : List Placed) (text : List ℕ) (course : Course) (low high : ℕ)
    → (x : Says s by book qs marks entries text course) → qs ≡ q ∷ [] → course ≡ goes_on → AreFound low marks entries high → ArePlaced book entries → AreInTurn s by book qs marks entries text course x low high
one s by book q _ _ _ _ _ low high none e c found placed = absurd (cc)
one s by book q _ marks entries _ _ low high (direct p d qs _ _ text course m x) e c found placed =
    nothing_in_turn s by book qs marks entries text course low high (found_low low high marks entries found) x (behind p qs q [] e)
  where
    behind : (a : Request) (xs : List Request) (b : Request) (ys : List Request) → a ∷ xs ≡ b ∷ ys → xs ≡ ys
    behind a xs b ys e = cc
one s by book q _ _ _ _ _ low high (turn p wish n reply es qs marks entries text course m w x) e c found placed =
    let empty = behind p qs q [] e in
    let no = no_marks s by book qs marks entries text course x empty in
    let whole : placed_at n es ++ entries ≡ placed_at n es = ap (λ (z : List Placed). placed_at n es ++ z) no.1 ∙ append-nil (placed_at n es) in
    let f = found_one low n high (n ∷ marks) (placed_at n es ++ entries) found (ap (λ (z : List ℕ). n ∷ z) no.0) in
    let few = adds_few n high es (subst (AddsOne n high) whole f.1) in
    (f.0, stand_placed book n es (subst (ArePlaced book) whole placed) few.0, nothing_in_turn s by book qs marks entries text course (n + length es) high few.1 x empty)
  where
    behind : (a : Request) (xs : List Request) (b : Request) (ys : List Request) → a ∷ xs ≡ b ∷ ys → xs ≡ ys
    behind a xs b ys e = cc
one s by book q _ _ _ _ _ low high (watches p from n marks stopped m held) e c found placed = absurd (ends_watched stopped c)

pub one_in_turn : (s : Serving) (by : ℕ) (book : List Entry) (q : Request) (marks : List ℕ) (entries : List Placed) (text : List ℕ) (low high : ℕ)
    → Says s by book (q ∷ []) marks entries text goes_on → AreFound low marks entries high → ArePlaced book entries → SaysInTurn s by book (q ∷ []) marks entries text goes_on low high
one_in_turn s by book q marks entries text low high x found placed = record { says = x; in_turn = one s by book q (q ∷ []) marks entries text goes_on low high x refl refl found placed }
