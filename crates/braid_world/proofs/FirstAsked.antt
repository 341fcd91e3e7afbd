-- What a session answers first, where the bytes sent begin with a request; and that it answers nothing more behind the last.
use Rattle.std.proofs.Common.{◌≡◌, ℕ, ◌+◌, ◌≤◌, ◌<◌, ◌||◌, nat_le, Bool, true, false, List, [], ◌∷◌, ◌++◌, refl, sym, ap, subst, ◌∙◌, length, length-append, take, Some, arith}
use Rattle.std.proofs.lemmas.Bool.{leb-true}
use Rattle.std.proofs.lemmas.List.{append_cancel_left}
use Rattle.braid_change.specs.Updates.{UpdateView}
use Rattle.braid_graph.specs.Entries.{HoldsAll}
use Rattle.braid_text.specs.Histories.{graph_of}
use Rattle.braid_store.specs.declared.entry.Entry.{Entry}
use Rattle.braid_store.specs.declared.put.Put.{Put}
use Rattle.braid_store.specs.Answers.{IsPut}
use Rattle.braid_store.specs.Books.{of_path}
use Rattle.braid_http.specs.declared.request.Request.{Request}
use Rattle.braid_http.specs.declared.reply.Reply.{Reply}
use Rattle.braid_http.specs.Replies.{reply_text}
use Rattle.braid_http.specs.Requests.{asked, refused, Decides}
use Rattle.braid_http.specs.Cuts.{Cuts, is_over, Tail, nothing, part, refusal, unseen, Stands, TailIs}
use Rattle.braid_http.proofs.Decisions.{one_answer}
use Rattle.braid_http.proofs.Sizes.{decides_some}
use Rattle.braid_session.specs.declared.serving.Serving.{Serving}
use Rattle.braid_session.specs.declared.wish.Wish.{Wish}
use Rattle.braid_session.specs.declared.wish.Wish.TheVariants.{Read, Watch, Store}
use Rattle.braid_session.specs.Wishes.{Means, wanted}
use Rattle.braid_session.specs.Answers.{Answers, found, not_found, answered, not_held, entry_of, put_reply, put_entries}
use Rattle.braid_session.specs.Sessions.{Placed, Course, goes_on, watched, Says, none, direct, turn, watches, watch_text, last_chunk}
use Rattle.braid_session.specs.Pieces.{last_mark, NeverFall}
use Rattle.braid_session.proofs.OneAnswers.{denied_or_wanted, one_wish}
use Rattle.braid_session.proofs.OneText.{watched_alone, same_from}
use Rattle.braid_session.specs.InTurn.{StandAt, AreInTurn}

-- requests begin with this one, and the others are those of what stands behind it
pub record FirstIs (k : ℕ) (q : Request) (after : List ℕ) (qs : List Request) (rest : List ℕ) : Type 0 where
  pub others : List Request
  pub are : qs ≡ q ∷ others
  pub cut : Cuts (k + 1) q.close after others rest

not_over : (k : ℕ) → k < 10_000 → is_over k false [] ≡ false
not_over k l = go (nat_le 10_000 k) refl
  where
    go : (t : Bool) → nat_le 10_000 k ≡ t → (false || t) ≡ false
    go true e = absurd (let h : 10_000 ≤ k = leb-true 10_000 k e in omega (arith, l, h))
    go false e = refl

same_asked : (p q : Request) → asked p ≡ asked q → p ≡ q
same_asked p q e = cc

-- where the bytes hold a request, none of the tails stands
no_tail : (tail : Tail) (q : Request) (b after rest : List ℕ) → Decides (asked q) b → rest ≡ b ++ after → Stands tail rest → ⊥
no_tail nothing q b after rest d e h =
    let some = decides_some (asked q) b d in
    omega (arith, some, ap length h, ap length e, length-append b after)
no_tail part q b after rest d e h = h.1 (asked q) b after d e
no_tail (refusal f) q b after rest d e h = (let same : refused f ≡ asked q = (one_answer (refused f) (asked q) h.0 b h.1 after h.2 d (sym h.3 ∙ e)).1 in cc)
no_tail unseen q b after rest d e h = h

-- where the bytes begin with a request, and none is left out, there is one
has_first : (k : ℕ) (q : Request) (b after bytes : List ℕ) (qs : List Request) (rest : List ℕ) (tail : Tail)
    → Decides (asked q) b → bytes ≡ b ++ after → k < 10_000 → Cuts k false bytes qs rest → TailIs (is_over k false qs) tail rest → qs ≡ [] → ⊥
has_first k q b after bytes [] rest tail d e l cut t empty = no_tail tail q b after rest d (sym cut ∙ e) (subst (λ (o : Bool). TailIs o tail rest) (not_over k l) t)
has_first k q b after bytes (p ∷ ps) rest tail d e l cut t empty = cc

-- why no more requests are answered: they are over, or a tail stands; or the last is a subscription
abbrev pub Stops : ℕ → List Request → List ℕ → Course → Type 0
Stops k qs rest goes_on = (tail : Tail) × TailIs (is_over k false qs) tail rest
Stops k qs rest (watched stopped) = Unit {0}

-- a subscription is a request
not_none : (s : Serving) (by : ℕ) (book : List Entry) (qs : List Request) (marks : List ℕ) (entries : List Placed) (text : List ℕ) (course : Course) (stopped : Bool)
    → Says s by book qs marks entries text course → course ≡ watched stopped → qs ≡ [] → ⊥
not_none s by book _ _ _ _ _ stopped none e f = cc
not_none s by book _ _ _ _ _ stopped (direct q d qs marks entries text course n x) e f = cc
not_none s by book _ _ _ _ _ stopped (turn q wish n reply es qs marks entries text course w a x) e f = cc
not_none s by book _ _ _ _ _ stopped (watches q from n marks b w held) e f = cc

some_request : (s : Serving) (by : ℕ) (book : List Entry) (k : ℕ) (q : Request) (b after bytes : List ℕ) (qs : List Request) (rest marks : List ℕ) (entries : List Placed) (text : List ℕ) (course : Course)
    → Decides (asked q) b → bytes ≡ b ++ after → k < 10_000 → Cuts k false bytes qs rest → Says s by book qs marks entries text course → Stops k qs rest course → qs ≡ [] → ⊥
some_request s by book k q b after bytes qs rest marks entries text goes_on d e l cut x stops empty = has_first k q b after bytes qs rest stops.0 d e l cut stops.1 empty
some_request s by book k q b after bytes qs rest marks entries text (watched stopped) d e l cut x stops empty = not_none s by book qs marks entries text (watched stopped) stopped x refl empty

pub first_asked : (s : Serving) (by : ℕ) (book : List Entry) (k : ℕ) (q : Request) (b after bytes : List ℕ) (qs : List Request) (rest marks : List ℕ) (entries : List Placed) (text : List ℕ) (course : Course)
    → Decides (asked q) b → bytes ≡ b ++ after → k < 10_000 → Cuts k false bytes qs rest → Says s by book qs marks entries text course → Stops k qs rest course → FirstIs k q after qs rest
first_asked s by book k q b after bytes [] rest marks entries text course d e l cut x stops = absurd (some_request s by book k q b after bytes [] rest marks entries text course d e l cut x stops refl)
first_asked s by book k q b after bytes (p ∷ ps) rest marks entries text course d e l (few, stays, c, behind, decides, split, more) x stops =
    let same = one_answer (asked p) (asked q) c b behind after decides d (sym split ∙ e) in
    let one : p ≡ q = same_asked p q same.1 in
    let rests : behind ≡ after = append_cancel_left b behind after (ap (λ (z : List ℕ). z ++ behind) (sym same.0) ∙ sym split ∙ e) in
    record {
      others = ps;
      are = ap (λ (z : Request). z ∷ ps) one;
      cut = subst (λ (z : Request). Cuts (k + 1) z.close after ps rest) one (subst (λ (z : List ℕ). Cuts (k + 1) p.close z ps rest) rests more);
    }

-- behind the last request nothing is answered
pub none_asked : (k : ℕ) (closed : Bool) (qs : List Request) (rest : List ℕ) → Cuts k closed [] qs rest → (qs ≡ []) × (rest ≡ [])
none_asked k closed [] rest cut = (refl, sym cut)
none_asked k closed (q ∷ qs) rest (few, stays, c, behind, decides, split, more) =
    absurd (let some = decides_some (asked q) c decides in omega (arith, some, ap length split, length-append c behind))

-- where nothing more is asked, the marks are at their end
pub none_above : (s : Serving) (by : ℕ) (book : List Entry) (qs : List Request) (marks : List ℕ) (entries : List Placed) (text : List ℕ) (course : Course) (low high : ℕ)
    → (x : Says s by book qs marks entries text course) → AreInTurn s by book qs marks entries text course x low high → qs ≡ [] → low ≤ high
none_above s by book _ _ _ _ _ low high none t e = t
none_above s by book _ _ _ _ _ low high (direct q d qs marks entries text course n x) t e = cc
none_above s by book _ _ _ _ _ low high (turn q wish n reply es qs marks entries text course w a x) t e = cc
none_above s by book _ _ _ _ _ low high (watches q from n marks stopped w held) t e = cc

-- An update that is to be stored is put at the next mark.
pub record IsStored (s : Serving) (by : ℕ) (book : List Entry) (q : Request) (u : UpdateView) (qs : List Request) (text : List ℕ) (course : Course) (low high : ℕ) : Type 0 where
  pub mark : ℕ
  pub answer : Put
  pub reply : Reply
  pub marks : List ℕ
  pub entries : List Placed
  pub more : List ℕ
  pub is_put : IsPut (take mark book) (entry_of by q.target u) answer
  pub replied : put_reply u.id answer ≡ Some reply
  pub says : Says s by book qs marks entries more course
  pub spelled : text ≡ reply_text q.close reply ++ more
  pub above : low ≤ mark
  pub stands : StandAt book mark (put_entries (entry_of by q.target u) answer)
  pub in_turn : AreInTurn s by book qs marks entries more course says (mark + length (put_entries (entry_of by q.target u) answer)) high

-- what is answered to a wish to store
record PutAnswered (B : List Entry) (by : ℕ) (path : List ℕ) (u : UpdateView) (reply : Reply) (es : List Entry) : Type 0 where
  answer : Put
  is_put : IsPut B (entry_of by path u) answer
  replied : put_reply u.id answer ≡ Some reply
  adds : es ≡ put_entries (entry_of by path u) answer

put_answered : (B : List Entry) (by : ℕ) (path : List ℕ) (wish : Wish) (reply : Reply) (es : List Entry) (u : UpdateView) → Answers B by path wish reply es → wish ≡ Store u → PutAnswered B by path u reply es
put_answered B by path _ _ _ u (found at got x) e = absurd (let k : Read at ≡ Store u = e in cc)
put_answered B by path _ _ _ u (not_found at fault reply x y) e = absurd (let k : Read at ≡ Store u = e in cc)
put_answered B by path _ _ _ u (answered v answer reply is r) e =
    let same : v ≡ u = same_stored v u e in
    subst (λ (w : UpdateView). PutAnswered B by path w reply (put_entries (entry_of by path v) answer)) same (record { answer = answer; is_put = is; replied = r; adds = refl })
  where
    same_stored : (v u : UpdateView) → Store v ≡ Store u → v ≡ u
    same_stored v u e = cc
put_answered B by path _ _ _ u (not_held from id x) e = absurd (let k : Watch from ≡ Store u = e in cc)

pub stored : (s : Serving) (by : ℕ) (book : List Entry) (q : Request) (u : UpdateView) (qs : List Request) (marks : List ℕ) (entries : List Placed) (text : List ℕ) (course : Course) (low high : ℕ)
    → Means s q (wanted (Store u)) → (x : Says s by book (q ∷ qs) marks entries text course) → AreInTurn s by book (q ∷ qs) marks entries text course x low high → IsStored s by book q u qs text course low high
stored s by book q u qs _ _ _ _ low high m (direct _ d _ marks entries text course n x) t = absurd (denied_or_wanted s q d (Store u) n m)
stored s by book q u qs _ _ _ _ low high m (turn _ wish n reply es _ marks entries text course w a x) t =
    let p = put_answered (take n book) by q.target wish reply es u a (one_wish s q wish (Store u) w m) in
    record {
      mark = n;
      answer = p.answer;
      reply = reply;
      marks = marks;
      entries = entries;
      more = text;
      is_put = p.is_put;
      replied = p.replied;
      says = x;
      spelled = refl;
      above = t.0;
      stands = subst (StandAt book n) p.adds t.1;
      in_turn = subst (λ (new : List Entry). AreInTurn s by book qs marks entries text course x (n + length new) high) p.adds t.2;
    }
stored s by book q u qs _ _ _ _ low high m (watches _ from n marks stopped w held) t = absurd (let k : Watch from ≡ Store u = one_wish s q (Watch from) (Store u) w m in cc)

-- A subscription that begins at what is held is served.
pub record IsWatched (book : List Entry) (q : Request) (from : List (List ℕ)) (n : ℕ) (marks : List ℕ) (text : List ℕ) (course : Course) (high : ℕ) : Type 0 where
  pub stopped : Bool
  pub course_is : course ≡ watched stopped
  pub spelled : text ≡ watch_text book q.target from n marks ++ last_chunk stopped
  pub rising : NeverFall n marks
  pub below : last_mark n marks ≤ high

pub watched_so : (s : Serving) (by : ℕ) (book : List Entry) (q : Request) (from : List (List ℕ)) (qs : List Request) (n : ℕ) (marks : List ℕ) (all : List ℕ) (entries : List Placed) (text : List ℕ) (course : Course) (low high : ℕ)
    → Means s q (wanted (Watch from)) → HoldsAll (graph_of (of_path (take n book) q.target)) from → all ≡ n ∷ marks
    → (x : Says s by book (q ∷ qs) all entries text course) → AreInTurn s by book (q ∷ qs) all entries text course x low high → IsWatched book q from n marks text course high
watched_so s by book q from qs n marks _ _ _ _ low high m h e (direct _ d _ ms entries text course w x) t = absurd (denied_or_wanted s q d (Watch from) w m)
watched_so s by book q from qs n marks _ _ _ _ low high m h e (turn _ wish k reply es _ ms entries text course w a x) t =
    absurd (watched_alone s by book q from k wish reply es m (subst (λ (i : ℕ). HoldsAll (graph_of (of_path (take i book) q.target)) from) (sym (first_same k ms n marks e)) h) w a)
  where
    first_same : (a : ℕ) (xs : List ℕ) (b : ℕ) (ys : List ℕ) → a ∷ xs ≡ b ∷ ys → a ≡ b
    first_same a xs b ys e = cc
watched_so s by book q from qs n marks _ _ _ _ low high m h e (watches _ other k ms stopped w held) t =
    let f : other ≡ from = same_from other from (one_wish s q (Watch other) (Watch from) w m) in
    let a : k ≡ n = first_same k ms n marks e in
    let b : ms ≡ marks = others_same k ms n marks e in
    record {
      stopped = stopped;
      course_is = refl;
      spelled = λ i. watch_text book q.target (f i) (a i) (b i) ++ last_chunk stopped;
      rising = subst (λ (xs : List ℕ). NeverFall n xs) b (subst (λ (i : ℕ). NeverFall i ms) a t.1);
      below = subst (λ (xs : List ℕ). last_mark n xs ≤ high) b (subst (λ (i : ℕ). last_mark i ms ≤ high) a t.2);
    }
  where
    first_same : (a : ℕ) (xs : List ℕ) (b : ℕ) (ys : List ℕ) → a ∷ xs ≡ b ∷ ys → a ≡ b
    first_same a xs b ys e = cc

    others_same : (a : ℕ) (xs : List ℕ) (b : ℕ) (ys : List ℕ) → a ∷ xs ≡ b ∷ ys → xs ≡ ys
    others_same a xs b ys e = cc
