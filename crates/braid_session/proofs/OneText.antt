-- A legal history, the bytes and the marks determine the text of a session.
use Rattle.std.proofs.Common.{◌≡◌, ℕ, ◌+◌, ◌<◌, ◌⊎◌, inl, inr, Bool, true, false, true≢false, ◌||◌, List, [], ◌∷◌, ◌++◌, refl, ap, sym, ◌∙◌, subst, length, take, arith, length-append, append-nil}
use Rattle.std.specs.Prelude.{nat_le}
use Rattle.std.proofs.lemmas.List.{append_cancel_left}
use Rattle.std.proofs.lemmas.Grind.{common_steps}
use Rattle.braid_graph.specs.Entries.{HoldsAll}
use Rattle.braid_text.specs.Histories.{graph_of}
use Rattle.braid_store.specs.declared.entry.Entry.{Entry}
use Rattle.braid_store.specs.Books.{of_path, IsLegalBook}
use Rattle.braid_http.specs.declared.request.Request.{Request}
use Rattle.braid_http.specs.declared.reply.Reply.{Reply}
use Rattle.braid_http.specs.Replies.{reply_text}
use Rattle.braid_http.specs.Requests.{Answer, asked, refused, Decides, IsDecided}
use Rattle.braid_http.specs.Cuts.{Cuts, is_over, Tail, nothing, part, refusal, unseen, Stands, TailIs}
use Rattle.braid_http.proofs.CutLaws.{one_cut}
use Rattle.braid_http.proofs.Decisions.{one_answer}
use Rattle.braid_http.proofs.Sizes.{decides_some}
use Rattle.braid_session.specs.declared.serving.Serving.{Serving}
use Rattle.braid_session.specs.declared.wish.Wish.{Wish}
use Rattle.braid_session.specs.declared.wish.Wish.TheVariants.{Watch}
use Rattle.braid_session.specs.Wishes.{Means, denied, wanted}
use Rattle.braid_session.specs.Answers.{Answers, denial_reply}
use Rattle.braid_session.specs.Sessions.{Placed, Course, goes_on, watched, Says, none, direct, turn, watches, watch_text, last_chunk, tail_text, Answered, NeedsTurn, WholeText, UnmarkedText, WatchedText, SessionText, whole, unmarked, watching}
use Rattle.braid_session.specs.Laws.{GoAlike, OneText, OneTextUnwatched}
use Rattle.braid_session.proofs.OneAnswers.{denied_or_wanted, one_denial, one_wish, holdable, legal_take, one_reply, no_reply}
use Rattle.braid_session.proofs.Replying.{unwatched}

pub same_from : (f g : List (List ℕ)) → Watch f ≡ Watch g → f ≡ g
same_from f g e = cc

pub same_stop : (a b : Bool) → watched a ≡ watched b → a ≡ b
same_stop a b e = cc

-- a subscription that begins at what is held is answered by no reply
pub watched_alone : (s : Serving) (by : ℕ) (book : List Entry) (q : Request) (from : List (List ℕ)) (n : ℕ) (wish : Wish) (reply : Reply) (es : List Entry)
    → Means s q (wanted (Watch from)) → HoldsAll (graph_of (of_path (take n book) q.target)) from → Means s q (wanted wish) → Answers (take n book) by q.target wish reply es → ⊥
watched_alone s by book q from n wish reply es m h k a =
    no_reply (take n book) by q.target from reply es h (subst (λ (w : Wish). Answers (take n book) by q.target w reply es) (one_wish s q wish (Watch from) k m) a)

-- the same requests with the same marks are answered by one text
same_says : (s : Serving) (by : ℕ) (book : List Entry) (qs : List Request) (marks : List ℕ) (es fs : List Placed) (t u : List ℕ) (c d : Course)
    → IsLegalBook book → Says s by book qs marks es t c → Says s by book qs marks fs u d → GoAlike c d × (c ≡ d → t ≡ u)
same_says s by book _ _ _ _ _ _ _ _ legal none none = (tt, λ e. refl)
same_says s by book _ _ _ _ _ _ c d legal (direct q a qs marks es t _ m x) (direct _ b _ _ fs u _ k y) =
    let p = same_says s by book qs marks es fs t u c d legal x y in
    (p.0, λ e. (λ i. reply_text q.close (denial_reply (one_denial s q a b m k i)) ++ p.1 e i))
same_says s by book _ _ _ _ _ _ _ _ legal (direct q a qs _ es t _ m x) (turn _ wish n reply new _ marks fs u _ k b y) = absurd (denied_or_wanted s q a wish m k)
same_says s by book _ _ _ _ _ _ _ _ legal (direct q a _ _ es t _ m x) (watches _ from n marks stopped k held) = absurd (denied_or_wanted s q a (Watch from) m k)
same_says s by book _ _ _ _ _ _ _ _ legal (turn q wish n reply new qs marks es t _ k b x) (direct _ a _ _ fs u _ m y) = absurd (denied_or_wanted s q a wish m k)
same_says s by book _ _ _ _ _ _ c d legal (turn q wish n reply new qs marks es t _ k b x) (turn _ other _ second more _ _ fs u _ m a y) =
    let p = same_says s by book qs marks es fs t u c d legal x y in
    let w : wish ≡ other = one_wish s q wish other k m in
    let same : reply ≡ second =
    one_reply (take n book) by q.target other reply second new more (legal_take n book legal) (holdable s q other m) (subst (λ (z : Wish). Answers (take n book) by q.target z reply new) w b) a in
    (p.0, λ e. (λ i. reply_text q.close (same i) ++ p.1 e i))
same_says s by book _ _ _ _ _ _ _ _ legal (turn q wish n reply new _ _ es t _ k b x) (watches _ from _ marks stopped m held) = absurd (watched_alone s by book q from n wish reply new m held k b)
same_says s by book _ _ _ _ _ _ _ _ legal (watches q from n marks stopped m held) (direct _ a _ _ fs u _ k y) = absurd (denied_or_wanted s q a (Watch from) k m)
same_says s by book _ _ _ _ _ _ _ _ legal (watches q from n marks stopped m held) (turn _ wish _ reply new _ _ fs u _ k b y) = absurd (watched_alone s by book q from n wish reply new m held k b)
same_says s by book _ _ _ _ _ _ _ _ legal (watches q from n marks stopped m held) (watches _ other _ _ ended k kept) =
    let w : from ≡ other = same_from from other (one_wish s q (Watch from) (Watch other) m k) in
    (tt, λ e. (λ i. watch_text book q.target (w i) n marks ++ last_chunk (same_stop stopped ended e i)))

pub head : (a b : Request) (xs ys : List Request) → a ∷ xs ≡ b ∷ ys → a ≡ b
head a b xs ys e = cc

pub rest_of : (a b : Request) (xs ys : List Request) → a ∷ xs ≡ b ∷ ys → xs ≡ ys
rest_of a b xs ys e = cc

pub not_none : (xs ys : List Request) (b : Request) → [] ≡ xs ++ b ∷ ys → ⊥
not_none [] ys b e = cc
not_none (a ∷ xs) ys b e = cc

pub first_mark : (m n : ℕ) (ms ns : List ℕ) → m ∷ ms ≡ n ∷ ns → m ≡ n
first_mark m n ms ns e = cc

pub more_marks : (m n : ℕ) (ms ns : List ℕ) → m ∷ ms ≡ n ∷ ns → ms ≡ ns
more_marks m n ms ns e = cc

pub not_watched : (b : Bool) → watched b ≡ goes_on → ⊥
not_watched b e = cc

-- with all marks taken, no request that needs a turn is answered behind
no_mark : (s : Serving) (by : ℕ) (book : List Entry) (qs ps more : List Request) (q : Request) (wish : Wish) (marks ms ns : List ℕ) (es fs : List Placed) (t u : List ℕ) (c d : Course)
    → Says s by book qs marks es t c → c ≡ goes_on → Means s q (wanted wish) → Says s by book ps ms fs u d → ps ≡ qs ++ q ∷ more → marks ≡ ms ++ ns → ⊥
no_mark s by book _ _ more q wish _ _ ns _ _ _ _ _ _ none g m none e k = not_none [] more q e
no_mark s by book _ _ more q wish _ _ ns _ _ _ _ _ _ none g m (direct p a qs ms es t c l y) e k =
    denied_or_wanted s q a wish (subst (λ (z : Request). Means s z (denied a)) (head p q qs more e) l) m
no_mark s by book _ _ more q wish _ _ ns _ _ _ _ _ _ none g m (turn p w n reply new qs ms es t c l a y) e k = no_list n (ms ++ ns) k
  where
    no_list : (n : ℕ) (ns : List ℕ) → [] ≡ n ∷ ns → ⊥
    no_list n ns e = cc
no_mark s by book _ _ more q wish _ _ ns _ _ _ _ _ _ none g m (watches p from n ms stopped l held) e k = no_list n (ms ++ ns) k
  where
    no_list : (n : ℕ) (ns : List ℕ) → [] ≡ n ∷ ns → ⊥
    no_list n ns e = cc
no_mark s by book _ _ more q wish _ _ ns _ _ _ _ _ _ (direct p a qs marks es t c h x) g m none e k = not_none (p ∷ qs) more q e
no_mark s by book _ _ more q wish _ _ ns _ _ _ _ _ _ (direct p a qs marks es t c h x) g m (direct r b rs ms fs u d l y) e k =
    no_mark s by book qs rs more q wish marks ms ns es fs t u c d x g m y (rest_of r p rs (qs ++ q ∷ more) e) k
no_mark s by book _ _ more q wish _ _ ns _ _ _ _ _ _ (direct p a qs marks es t c h x) g m (turn r w n reply new rs ms fs u d l b y) e k =
    denied_or_wanted s p a w h (subst (λ (z : Request). Means s z (wanted w)) (head r p rs (qs ++ q ∷ more) e) l)
no_mark s by book _ _ more q wish _ _ ns _ _ _ _ _ _ (direct p a qs marks es t c h x) g m (watches r from n ms stopped l held) e k =
    not_none qs more q (rest_of r p [] (qs ++ q ∷ more) e)
no_mark s by book _ _ more q wish _ _ ns _ _ _ _ _ _ (turn p w n reply new qs marks es t c h b x) g m none e k = not_none (p ∷ qs) more q e
no_mark s by book _ _ more q wish _ _ ns _ _ _ _ _ _ (turn p w n reply new qs marks es t c h b x) g m (direct r a rs ms fs u d l y) e k =
    denied_or_wanted s p a w (subst (λ (z : Request). Means s z (denied a)) (head r p rs (qs ++ q ∷ more) e) l) h
no_mark s by book _ _ more q wish _ _ ns _ _ _ _ _ _ (turn p w n reply new qs marks es t c h b x) g m (turn r v n2 second others rs ms fs u d l a y) e k =
    no_mark s by book qs rs more q wish marks ms ns es fs t u c d x g m y (rest_of r p rs (qs ++ q ∷ more) e) (more_marks n n2 marks (ms ++ ns) k)
no_mark s by book _ _ more q wish _ _ ns _ _ _ _ _ _ (turn p w n reply new qs marks es t c h b x) g m (watches r from n2 ms stopped l held) e k =
    not_none qs more q (rest_of r p [] (qs ++ q ∷ more) e)
no_mark s by book _ _ more q wish _ _ ns _ _ _ _ _ _ (watches p from n marks stopped h held) g m y e k = not_watched stopped g

-- nothing is answered behind a subscription
nothing_behind : (s : Serving) (by : ℕ) (book : List Entry) (qs ps more : List Request) (q : Request) (marks ms ns : List ℕ) (es fs : List Placed) (t u : List ℕ) (b : Bool) (c d : Course)
    → Says s by book qs marks es t c → c ≡ watched b → Says s by book ps ms fs u d → ps ≡ qs ++ q ∷ more → marks ≡ ms ++ ns → ⊥
nothing_behind s by book _ _ more q _ _ ns _ _ _ _ b _ _ none g y e k = not_watched b (sym g)
nothing_behind s by book _ _ more q _ _ ns _ _ _ _ b _ _ (direct p a qs marks es t c h x) g none e k = not_none (p ∷ qs) more q e
nothing_behind s by book _ _ more q _ _ ns _ _ _ _ b _ _ (direct p a qs marks es t c h x) g (direct r f rs ms fs u d l y) e k =
    nothing_behind s by book qs rs more q marks ms ns es fs t u b c d x g y (rest_of r p rs (qs ++ q ∷ more) e) k
nothing_behind s by book _ _ more q _ _ ns _ _ _ _ b _ _ (direct p a qs marks es t c h x) g (turn r w n reply new rs ms fs u d l f y) e k =
    denied_or_wanted s p a w h (subst (λ (z : Request). Means s z (wanted w)) (head r p rs (qs ++ q ∷ more) e) l)
nothing_behind s by book _ _ more q _ _ ns _ _ _ _ b _ _ (direct p a qs marks es t c h x) g (watches r from n ms stopped l held) e k =
    not_none qs more q (rest_of r p [] (qs ++ q ∷ more) e)
nothing_behind s by book _ _ more q _ _ ns _ _ _ _ b _ _ (turn p w n reply new qs marks es t c h f x) g none e k = not_none (p ∷ qs) more q e
nothing_behind s by book _ _ more q _ _ ns _ _ _ _ b _ _ (turn p w n reply new qs marks es t c h f x) g (direct r a rs ms fs u d l y) e k =
    denied_or_wanted s p a w (subst (λ (z : Request). Means s z (denied a)) (head r p rs (qs ++ q ∷ more) e) l) h
nothing_behind s by book _ _ more q _ _ ns _ _ _ _ b _ _ (turn p w n reply new qs marks es t c h f x) g (turn r v n2 second others rs ms fs u d l a y) e k =
    nothing_behind s by book qs rs more q marks ms ns es fs t u b c d x g y (rest_of r p rs (qs ++ q ∷ more) e) (more_marks n n2 marks (ms ++ ns) k)
nothing_behind s by book _ _ more q _ _ ns _ _ _ _ b _ _ (turn p w n reply new qs marks es t c h f x) g (watches r from n2 ms stopped l held) e k =
    not_none qs more q (rest_of r p [] (qs ++ q ∷ more) e)
nothing_behind s by book _ _ more q _ _ ns _ _ _ _ b _ _ (watches p from n marks stopped h held) g none e k = not_none (p ∷ []) more q e
nothing_behind s by book _ _ more q _ _ ns _ _ _ _ b _ _ (watches p from n marks stopped h held) g (direct r a rs ms fs u d l y) e k =
    denied_or_wanted s p a (Watch from) (subst (λ (z : Request). Means s z (denied a)) (head r p rs (q ∷ more) e) l) h
nothing_behind s by book _ _ more q _ _ ns _ _ _ _ b _ _ (watches p from n marks stopped h held) g (turn r w n2 reply new rs ms fs u d l f y) e k =
    let same : r ≡ p = head r p rs (q ∷ more) e in
    let mark : n2 ≡ n = sym (first_mark n n2 marks (ms ++ ns) k) in
    watched_alone s by book p from n w reply new h held (subst (λ (z : Request). Means s z (wanted w)) same l)
    (subst (λ (z : Request). Answers (take n book) by z.target w reply new) same (subst (λ (z : ℕ). Answers (take z book) by r.target w reply new) mark f))
nothing_behind s by book _ _ more q _ _ ns _ _ _ _ b _ _ (watches p from n marks stopped h held) g (watches r other n2 ms ended l kept) e k =
    not_none [] more q (rest_of r p [] (q ∷ more) e)

never_empty : (x : Answer) (b rest : List ℕ) → Decides x b → [] ≡ b ++ rest → ⊥
never_empty x b rest d e = let k = ap length e ∙ length-append b rest in let s = decides_some x b d in omega (arith, k, s)

-- where a request stands, no tail does
no_tail : (a : Tail) (q : Request) (rest behind : List ℕ) → Stands a rest → IsDecided (asked q) rest behind → ⊥
no_tail nothing q rest behind s d = never_empty (asked q) d.front behind d.decides (sym s ∙ d.whole)
no_tail part q rest behind s d = s.1 (asked q) d.front behind d.decides d.whole
no_tail (refusal f) q rest behind s d = go (one_answer (refused f) (asked q) s.0 d.front s.1 behind s.2 d.decides (sym s.3 ∙ d.whole)).1
  where
    go : refused f ≡ asked q → ⊥
    go e = cc
no_tail unseen q rest behind s d = s

-- what stands behind requests: nothing more of the list, or the next one, which may follow
abbrev pub Behind : Bool → List ℕ → List Request → List ℕ → Type 0
Behind over r [] s = r ≡ s
Behind over r (q ∷ qs) s = (over ≡ false) × (after : List ℕ) × IsDecided (asked q) r after

-- one list of requests goes on from the other
pub record GoesOn (over : Bool) (qs ps : List Request) (r s : List ℕ) : Type 0 where
  pub more : List Request
  pub longer : ps ≡ qs ++ more
  pub behind : Behind over r more s

not_over : (n : ℕ) (closed : Bool) → n < 10_000 → closed ≡ false → closed || nat_le 10_000 n ≡ false
not_over n true l e = absurd (true≢false e)
not_over n false l e = grind (arith, common_steps)

-- of two cuts of the same bytes one goes on from the other
pub compared : (n : ℕ) (closed : Bool) (bytes : List ℕ) (qs ps : List Request) (r s : List ℕ) → Cuts n closed bytes qs r → Cuts n closed bytes ps s
    → GoesOn (is_over n closed qs) qs ps r s ⊎ GoesOn (is_over n closed ps) ps qs s r
compared n closed bytes [] [] r s c d = inl (record { more = []; longer = refl; behind = sym c ∙ d })
compared n closed bytes [] (p ∷ ps) r s c d =
    inl (record { more = p ∷ ps; longer = refl; behind = (not_over n closed d.0 d.1, d.3, record { front = d.2; decides = d.4; whole = sym c ∙ d.5 }) })
compared n closed bytes (q ∷ qs) [] r s c d =
    inr (record { more = q ∷ qs; longer = refl; behind = (not_over n closed c.0 c.1, c.3, record { front = c.2; decides = c.4; whole = sym d ∙ c.5 }) })
compared n closed bytes (q ∷ qs) (p ∷ ps) r s c d =
    let w = one_answer (asked q) (asked p) c.2 d.2 c.3 d.3 c.4 d.4 (sym c.5 ∙ d.5) in
    let same : q ≡ p = alike w.1 in
    let behind : c.3 ≡ d.3 = append_cancel_left c.2 c.3 d.3 (sym c.5 ∙ d.5 ∙ ap (λ z. z ++ d.3) (sym w.0)) in
    let cut : Cuts (n + 1) q.close c.3 ps s = rw (← ap (λ (z : Request). z.close) same, ← behind) at d.6 in
    go same (compared (n + 1) q.close c.3 qs ps r s c.6 cut)
  where
    alike : asked q ≡ asked p → q ≡ p
    alike e = cc

    go : q ≡ p → GoesOn (is_over (n + 1) q.close qs) qs ps r s ⊎ GoesOn (is_over (n + 1) q.close ps) ps qs s r
        → GoesOn (is_over (n + 1) q.close qs) (q ∷ qs) (p ∷ ps) r s ⊎ GoesOn (is_over (n + 1) p.close ps) (p ∷ ps) (q ∷ qs) s r
    go e (inl g) = inl (record { more = g.more; longer = (λ i. sym e i ∷ g.longer i); behind = g.behind })
    go e (inr g) = inr (record { more = g.more; longer = (λ i. e i ∷ g.longer i); behind = subst (λ (b : Bool). Behind b s g.more r) (ap (λ (z : Request). is_over (n + 1) z.close ps) e) g.behind })

-- how a text stops: a tail stands, or a request for which no mark is left, or it ends in a subscription
pub data Stops (s : Serving) (over : Bool) (rest : List ℕ) : Course → Type 0 where
  at_tail : (tail : Tail) → TailIs over tail rest → Stops s over rest goes_on
  at_turn : over ≡ false → NeedsTurn s rest → Stops s over rest goes_on
  at_watch : (b : Bool) → Stops s over rest (watched b)

-- behind which no request follows, with the same marks or with the first of them
pub none_behind : (s : Serving) (by : ℕ) (book : List Entry) (over : Bool) (r v : List ℕ) (qs ps : List Request) (marks ms ns : List ℕ) (es fs : List Placed) (t u : List ℕ) (c d : Course) (more : List Request)
    → Says s by book qs marks es t c → Stops s over r c → Says s by book ps ms fs u d → ps ≡ qs ++ more → marks ≡ ms ++ ns → Behind over r more v → (ps ≡ qs) × (r ≡ v)
none_behind s by book over r v qs ps marks ms ns es fs t u c d [] x h y e k b = (e ∙ append-nil qs, b)
none_behind s by book over r v qs ps marks ms ns es fs t u _ d (q ∷ more) x (at_tail tail is) y e k b = absurd (no_tail tail q r b.1 (subst (λ (w : Bool). TailIs w tail r) b.0 is) b.2)
none_behind s by book over r v qs ps marks ms ns es fs t u _ d (q ∷ more) x (at_turn o n) y e k b =
    let same = (one_answer (asked q) (asked n.request) b.2.front n.decided.front b.1 n.rest b.2.decides n.decided.decides (sym b.2.whole ∙ n.decided.whole)).1 in
    absurd (no_mark s by book qs ps more q n.wish marks ms ns es fs t u goes_on d x refl (subst (λ (z : Request). Means s z (wanted n.wish)) (sym (alike n.request same)) n.means) y e k)
  where
    alike : (p : Request) → asked q ≡ asked p → q ≡ p
    alike p e = cc
none_behind s by book over r v qs ps marks ms ns es fs t u _ d (q ∷ more) x (at_watch w) y e k b = absurd (nothing_behind s by book qs ps more q marks ms ns es fs t u w (watched w) d x refl y e k)

-- what two texts of the same bytes and marks say
pub record Parts (s : Serving) (by : ℕ) (book : List Entry) (r marks front : List ℕ) (course : Course) (requests : List Request) (rest : List ℕ) : Type 0 where
  pub entries : List Placed
  pub answered : Answered s by book r requests rest marks entries front course
  pub stops : Stops s (is_over 0 false requests) rest course

pub whole_parts : (s : Serving) (by : ℕ) (book : List Entry) (r marks text : List ℕ) (w : WholeText s by book r marks text) → Parts s by book r marks w.front goes_on w.requests w.rest
whole_parts s by book r marks text w = record { entries = w.entries; answered = w.answered; stops = at_tail w.tail w.tail_is }

pub unmarked_parts : (s : Serving) (by : ℕ) (book : List Entry) (r marks text : List ℕ) (w : UnmarkedText s by book r marks text) → Parts s by book r marks text goes_on w.requests w.rest
unmarked_parts s by book r marks text w = record { entries = w.entries; answered = w.answered; stops = at_turn w.not_over w.next }

pub watched_parts : (s : Serving) (by : ℕ) (book : List Entry) (r marks text : List ℕ) (stopped : Bool) (w : WatchedText s by book r marks text stopped) → Parts s by book r marks text (watched stopped) w.requests w.rest
watched_parts s by book r marks text stopped w = record { entries = w.entries; answered = w.answered; stops = at_watch stopped }

-- two such are of the same requests, behind which the same stands
same_parts : (s : Serving) (by : ℕ) (book : List Entry) (r marks t u : List ℕ) (c d : Course) (qs ps : List Request) (v w : List ℕ)
    → Parts s by book r marks t c qs v → Parts s by book r marks u d ps w → (qs ≡ ps) × (v ≡ w)
same_parts s by book r marks t u c d qs ps v w x y = go (compared 0 false r qs ps v w x.answered.cut y.answered.cut)
  where
    go : GoesOn (is_over 0 false qs) qs ps v w ⊎ GoesOn (is_over 0 false ps) ps qs w v → (qs ≡ ps) × (v ≡ w)
    go (inl g) =
        let k = none_behind s by book (is_over 0 false qs) v w qs ps marks marks [] x.entries y.entries t u c d g.more x.answered.says x.stops y.answered.says g.longer (sym (append-nil marks)) g.behind in
        (sym k.0, k.1)
    go (inr g) =
        let k = none_behind s by book (is_over 0 false ps) w v ps qs marks marks [] y.entries x.entries u t d c g.more y.answered.says y.stops x.answered.says g.longer (sym (append-nil marks)) g.behind in
        (k.0, sym k.1)

-- and so their fronts go on alike, and are one
same_fronts : (s : Serving) (by : ℕ) (book : List Entry) (r marks t u : List ℕ) (c d : Course) {qs ps : List Request} {v w : List ℕ} → IsLegalBook book
    → Parts s by book r marks t c qs v → Parts s by book r marks u d ps w → GoAlike c d × (c ≡ d → t ≡ u)
same_fronts s by book r marks t u c d {qs} {ps} {v} {w} legal x y =
    let k = same_parts s by book r marks t u c d qs ps v w x y in
    same_says s by book ps marks x.entries y.entries t u c d legal (subst (λ (rs : List Request). Says s by book rs marks x.entries t c) k.0 x.answered.says) y.answered.says

-- one tail stands behind the same requests
same_tail : (bytes : List ℕ) (qs ps : List Request) (rest over : List ℕ) (a b : Tail) → Cuts 0 false bytes qs rest → TailIs (is_over 0 false qs) a rest → Cuts 0 false bytes ps over → TailIs (is_over 0 false ps) b over → a ≡ b
same_tail bytes qs ps rest over a b c s d t = (one_cut bytes qs ps a b (record { rest = rest; cut = c; tail_is = s }) (record { rest = over; cut = d; tail_is = t })).1

-- where a tail stands, no request does
tail_or_turn : (s : Serving) (by : ℕ) (book : List Entry) (r marks t u : List ℕ) {qs ps : List Request} {v w : List ℕ} → Parts s by book r marks t goes_on qs v → Parts s by book r marks u goes_on ps w
    → (tail : Tail) → TailIs (is_over 0 false qs) tail v → is_over 0 false ps ≡ false → NeedsTurn s w → ⊥
tail_or_turn s by book r marks t u {qs} {ps} {v} {w} x y tail k o n =
    let e = same_parts s by book r marks t u goes_on goes_on qs ps v w x y in
    let over : is_over 0 false qs ≡ false = ap (is_over 0 false) e.0 ∙ o in
    no_tail tail n.request v n.rest (subst (λ (b : Bool). TailIs b tail v) over k) (subst (λ (z : List ℕ). IsDecided (asked n.request) z n.rest) (sym e.1) n.decided)

pub one_text : OneText
one_text s by book r marks text other _ _ legal (whole _ x) (whole _ y) =
    let f = same_fronts s by book r marks x.front y.front goes_on goes_on legal (whole_parts s by book r marks text x) (whole_parts s by book r marks other y) in
    let e : x.tail ≡ y.tail = same_tail r x.requests y.requests x.rest y.rest x.tail y.tail x.answered.cut x.tail_is y.answered.cut y.tail_is in
    (tt, λ h. x.spells ∙ (λ i. f.1 refl i ++ tail_text (e i)) ∙ sym y.spells)
one_text s by book r marks text other _ _ legal (whole _ x) (unmarked _ y) =
    absurd (tail_or_turn s by book r marks x.front other (whole_parts s by book r marks text x) (unmarked_parts s by book r marks other y) x.tail x.tail_is y.not_over y.next)
one_text s by book r marks text other _ _ legal (whole _ x) (watching _ stopped y) =
    absurd (same_fronts s by book r marks x.front other goes_on (watched stopped) legal (whole_parts s by book r marks text x) (watched_parts s by book r marks other stopped y)).0
one_text s by book r marks text other _ _ legal (unmarked _ x) (whole _ y) =
    absurd (tail_or_turn s by book r marks y.front text (whole_parts s by book r marks other y) (unmarked_parts s by book r marks text x) y.tail y.tail_is x.not_over x.next)
one_text s by book r marks text other _ _ legal (unmarked _ x) (unmarked _ y) =
    same_fronts s by book r marks text other goes_on goes_on legal (unmarked_parts s by book r marks text x) (unmarked_parts s by book r marks other y)
one_text s by book r marks text other _ _ legal (unmarked _ x) (watching _ stopped y) =
    absurd (same_fronts s by book r marks text other goes_on (watched stopped) legal (unmarked_parts s by book r marks text x) (watched_parts s by book r marks other stopped y)).0
one_text s by book r marks text other _ _ legal (watching _ stopped x) (whole _ y) =
    absurd (same_fronts s by book r marks text y.front (watched stopped) goes_on legal (watched_parts s by book r marks text stopped x) (whole_parts s by book r marks other y)).0
one_text s by book r marks text other _ _ legal (watching _ stopped x) (unmarked _ y) =
    absurd (same_fronts s by book r marks text other (watched stopped) goes_on legal (watched_parts s by book r marks text stopped x) (unmarked_parts s by book r marks other y)).0
one_text s by book r marks text other _ _ legal (watching _ stopped x) (watching _ ended y) =
    same_fronts s by book r marks text other (watched stopped) (watched ended) legal (watched_parts s by book r marks text stopped x) (watched_parts s by book r marks other ended y)

-- where there are no subscriptions, the requests are answered without one
says_unwatched : (s : Serving) (by : ℕ) (book : List Entry) (qs : List Request) (marks : List ℕ) (es : List Placed) (t : List ℕ) (c : Course)
    → s.subscriptions ≡ false → Says s by book qs marks es t c → c ≡ goes_on
says_unwatched s by book _ _ _ _ _ h none = refl
says_unwatched s by book _ _ _ _ c h (direct q d qs marks es t _ m x) = says_unwatched s by book qs marks es t c h x
says_unwatched s by book _ _ _ _ c h (turn q wish n reply new qs marks es t _ m a x) = says_unwatched s by book qs marks es t c h x
says_unwatched s by book _ _ _ _ _ h (watches q from n marks stopped m held) = absurd (unwatched s q from h m)

text_unwatched : (s : Serving) (by : ℕ) (book : List Entry) (r marks t : List ℕ) (c : Course) → s.subscriptions ≡ false → SessionText s by book r marks t c → c ≡ goes_on
text_unwatched s by book r marks _ _ h (whole text w) = refl
text_unwatched s by book r marks _ _ h (unmarked text w) = refl
text_unwatched s by book r marks _ _ h (watching text stopped w) = says_unwatched s by book w.requests marks w.entries text (watched stopped) h w.answered.says

pub one_text_unwatched : OneTextUnwatched
one_text_unwatched s by book r marks text other course end h legal x y =
    (one_text s by book r marks text other course end legal x y).1 (text_unwatched s by book r marks text course h x ∙ sym (text_unwatched s by book r marks other end h y))
