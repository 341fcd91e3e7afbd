-- Where a session was broken off, what was written is a front of its text.
use Rattle.std.proofs.Common.{◌≡◌, ℕ, ◌+◌, ◌<◌, ◌⊎◌, inl, inr, Bool, true, false, ◌||◌, List, [], ◌∷◌, ◌++◌, refl, ap, sym, ◌∙◌, subst, take, drop, length, append-nil, append_assoc, arith}
use Rattle.std.specs.Prelude.{nat_le}
use Rattle.std.specs.Io.KnownBytes.{append_known}
use Rattle.std.proofs.lemmas.Grind.{common_steps}
use Rattle.braid_io.proofs.Known.{append_known-append}
use Rattle.braid_io.specs.Outside.{Outflow, HasNone}
use Rattle.braid_store.specs.declared.entry.Entry.{Entry}
use Rattle.braid_store.specs.Books.{of_path, IsLegalBook}
use Rattle.braid_store.specs.Cursors.{sent_of}
use Rattle.braid_graph.specs.Entries.{HoldsAll}
use Rattle.braid_text.specs.Histories.{graph_of}
use Rattle.braid_http.specs.declared.request.Request.{Request}
use Rattle.braid_http.specs.declared.refusal.Refusal.{Refusal}
use Rattle.braid_http.specs.Replies.{reply_text}
use Rattle.braid_http.specs.Requests.{asked, IsDecided}
use Rattle.braid_http.specs.Cuts.{Cuts, is_over, refusal, Stands, TailIs}
use Rattle.braid_stream.specs.Chunked.{chunks}
use Rattle.braid_session.specs.declared.serving.Serving.{Serving}
use Rattle.braid_session.specs.declared.wish.Wish.{Wish}
use Rattle.braid_session.specs.declared.wish.Wish.TheVariants.{Watch}
use Rattle.braid_session.specs.declared.session.SessionEnd.{SessionEnd}
use Rattle.braid_session.specs.declared.session.SessionEnd.TheVariants.{Closed, Stopped, Spent, Refused, Torn, ReadFault, WriteFault, Worn, Memory}
use Rattle.braid_session.specs.Wishes.{Means, denied, wanted}
use Rattle.braid_session.specs.Answers.{Answers, denial_reply}
use Rattle.braid_session.specs.Sessions.{Placed, Course, goes_on, watched, Says, none, direct, turn, watches, chunks_or_beat, subscription_head, further, watch_text, last_chunk, WholeText, WatchedText, SessionText, whole, unmarked, watching, tail_text, refusal_reply}
use Rattle.braid_session.specs.Ends.{Done, MayFollow, BreaksOff, Ends}
use Rattle.braid_session.specs.Watches.{BellUse, EndsWatch, EndsWatching}
use Rattle.braid_session.specs.Fits.{EndsUnwatched}
use Rattle.braid_session.specs.Laws.{MayStop, WroteFront}
use Rattle.braid_session.proofs.Following.{says_both}
use Rattle.braid_session.proofs.OneAnswers.{denied_or_wanted, one_denial, one_wish, holdable, legal_take, one_reply}
use Rattle.braid_session.proofs.OneText.{watched_alone, same_from, same_stop, head, rest_of, not_none, first_mark, more_marks, not_watched, Parts, GoesOn, compared, none_behind, whole_parts, unmarked_parts, watched_parts, one_text}

-- a text that begins with another
abbrev pub Begins : List ℕ → List ℕ → Type 0
Begins front text = (rest : List ℕ) × (text ≡ front ++ rest)

begins_more : (lead front text : List ℕ) → Begins front text → Begins (lead ++ front) (lead ++ text)
begins_more lead front text (rest, e) = (rest, ap (λ z. lead ++ z) e ∙ sym (append_assoc lead front rest))

begins_behind : (front text more : List ℕ) → Begins front text → Begins front (text ++ more)
begins_behind front text more (rest, e) = (rest ++ more, ap (λ z. z ++ more) e ∙ append_assoc front rest more)

begins_both : (a b c : List ℕ) → Begins a b → Begins b c → Begins a c
begins_both a b c (x, e) (y, f) = (x ++ y, f ∙ ap (λ z. z ++ y) e ∙ append_assoc a x y)

-- no last chunk was written
abbrev pub IsUnstopped : Course → Type 0
IsUnstopped c = (c ≡ goes_on) ⊎ (c ≡ watched false)

unstopped : (b : Bool) → IsUnstopped (watched b) → b ≡ false
unstopped b (inl e) = absurd (not_watched b e)
unstopped b (inr e) = same_stop b false e

-- what further marks of a subscription say begins with what the first of them say
further_front : (book : List Entry) (path : List ℕ) (from : List (List ℕ)) (passed : ℕ) (ms ns : List ℕ) → Begins (further book path from passed ms) (further book path from passed (ms ++ ns))
further_front book path from passed [] ns = (further book path from passed ns, refl)
further_front book path from passed (n ∷ ms) ns =
    begins_more (chunks_or_beat (drop passed (sent_of book path from n))) (further book path from (length (sent_of book path from n)) ms)
    (further book path from (length (sent_of book path from n)) (ms ++ ns)) (further_front book path from (length (sent_of book path from n)) ms ns)

watch_front : (book : List Entry) (path : List ℕ) (from : List (List ℕ)) (n : ℕ) (ms ns : List ℕ) → Begins (watch_text book path from n ms) (watch_text book path from n (ms ++ ns))
watch_front book path from n ms ns =
    begins_more (subscription_head (take n book) path ++ chunks (sent_of book path from n)) (further book path from (length (sent_of book path from n)) ms)
    (further book path from (length (sent_of book path from n)) (ms ++ ns)) (further_front book path from (length (sent_of book path from n)) ms ns)

-- what further requests and marks say begins with what the first of them say
says_front : (s : Serving) (by : ℕ) (book : List Entry) (qs ps rs : List Request) (ms ns marks : List ℕ) (es fs : List Placed) (t u : List ℕ) (c d : Course)
    → IsLegalBook book → Says s by book qs ms es t c → IsUnstopped c → Says s by book ps marks fs u d → ps ≡ qs ++ rs → marks ≡ ms ++ ns → Begins t u
says_front s by book _ ps rs _ ns marks _ fs _ u _ d legal none g y e k = (u, refl)
says_front s by book _ _ rs _ ns _ _ _ _ _ _ _ legal (direct q a qs ms es t c m x) g none e k = absurd (not_none [] (qs ++ rs) q e)
says_front s by book _ _ rs _ ns _ _ _ _ _ _ _ legal (direct q a qs ms es t c m x) g (direct p b ps marks fs u d l y) e k =
    let same : p ≡ q = head p q ps (qs ++ rs) e in
    let lead : reply_text q.close (denial_reply a) ≡ reply_text p.close (denial_reply b) =
    (λ i. reply_text (sym same i).close (denial_reply (one_denial s q a b m (subst (λ (z : Request). Means s z (denied b)) same l) i))) in
    subst (λ (w : List ℕ). Begins (reply_text q.close (denial_reply a) ++ t) (w ++ u)) lead
    (begins_more (reply_text q.close (denial_reply a)) t u (says_front s by book qs ps rs ms ns marks es fs t u c d legal x g y (rest_of p q ps (qs ++ rs) e) k))
says_front s by book _ _ rs _ ns _ _ _ _ _ _ _ legal (direct q a qs ms es t c m x) g (turn p wish n reply new ps marks fs u d l b y) e k =
    absurd (denied_or_wanted s q a wish m (subst (λ (z : Request). Means s z (wanted wish)) (head p q ps (qs ++ rs) e) l))
says_front s by book _ _ rs _ ns _ _ _ _ _ _ _ legal (direct q a qs ms es t c m x) g (watches p from n marks stopped l held) e k =
    absurd (denied_or_wanted s q a (Watch from) m (subst (λ (z : Request). Means s z (wanted (Watch from))) (head p q [] (qs ++ rs) e) l))
says_front s by book _ _ rs _ ns _ _ _ _ _ _ _ legal (turn q wish n reply new qs ms es t c m a x) g none e k = absurd (not_none [] (qs ++ rs) q e)
says_front s by book _ _ rs _ ns _ _ _ _ _ _ _ legal (turn q wish n reply new qs ms es t c m a x) g (direct p b ps marks fs u d l y) e k =
    absurd (denied_or_wanted s q b wish (subst (λ (z : Request). Means s z (denied b)) (head p q ps (qs ++ rs) e) l) m)
says_front s by book _ _ rs _ ns _ _ _ _ _ _ _ legal (turn q wish n reply new qs ms es t c m a x) g (turn p other n2 second more ps marks fs u d l b y) e k =
    let same : p ≡ q = head p q ps (qs ++ rs) e in
    let mark : n2 ≡ n = first_mark n2 n marks (ms ++ ns) k in
    let means : Means s q (wanted other) = subst (λ (z : Request). Means s z (wanted other)) same l in
    let first : Answers (take n book) by q.target other reply new = subst (λ (z : Wish). Answers (take n book) by q.target z reply new) (one_wish s q wish other m means) a in
    let then : Answers (take n book) by q.target other second more =
    subst (λ (z : Request). Answers (take n book) by z.target other second more) same (subst (λ (z : ℕ). Answers (take z book) by p.target other second more) mark b) in
    let alike : reply ≡ second = one_reply (take n book) by q.target other reply second new more (legal_take n book legal) (holdable s q other means) first then in
    let lead : reply_text q.close reply ≡ reply_text p.close second = (λ i. reply_text (sym same i).close (alike i)) in
    subst (λ (z : List ℕ). Begins (reply_text q.close reply ++ t) (z ++ u)) lead
    (begins_more (reply_text q.close reply) t u (says_front s by book qs ps rs ms ns marks es fs t u c d legal x g y (rest_of p q ps (qs ++ rs) e) (more_marks n2 n marks (ms ++ ns) k)))
says_front s by book _ _ rs _ ns _ _ _ _ _ _ _ legal (turn q wish n reply new qs ms es t c m a x) g (watches p from n2 marks stopped l held) e k =
    let same : q ≡ p = sym (head p q [] (qs ++ rs) e) in
    let mark : n ≡ n2 = sym (first_mark n2 n marks (ms ++ ns) k) in
    absurd (watched_alone s by book p from n2 wish reply new l held (subst (λ (z : Request). Means s z (wanted wish)) same m)
    (subst (λ (z : Request). Answers (take n2 book) by z.target wish reply new) same (subst (λ (z : ℕ). Answers (take z book) by q.target wish reply new) mark a)))
says_front s by book _ _ rs _ ns _ _ _ _ _ _ _ legal (watches q from n ms stopped m held) g none e k = absurd (not_none [] rs q e)
says_front s by book _ _ rs _ ns _ _ _ _ _ _ _ legal (watches q from n ms stopped m held) g (direct p b ps marks fs u d l y) e k =
    absurd (denied_or_wanted s q b (Watch from) (subst (λ (z : Request). Means s z (denied b)) (head p q ps rs e) l) m)
says_front s by book _ _ rs _ ns _ _ _ _ _ _ _ legal (watches q from n ms stopped m held) g (turn p other n2 second more ps marks fs u d l b y) e k =
    let same : p ≡ q = head p q ps rs e in
    let mark : n2 ≡ n = first_mark n2 n marks (ms ++ ns) k in
    absurd (watched_alone s by book q from n other second more m held (subst (λ (z : Request). Means s z (wanted other)) same l)
    (subst (λ (z : Request). Answers (take n book) by z.target other second more) same (subst (λ (z : ℕ). Answers (take z book) by p.target other second more) mark b)))
says_front s by book _ _ rs _ ns _ _ _ _ _ _ _ legal (watches q from n ms stopped m held) g (watches p other n2 marks ended l kept) e k =
    let same : p ≡ q = head p q [] rs e in
    let mark : n2 ≡ n = first_mark n2 n marks (ms ++ ns) k in
    let more : marks ≡ ms ++ ns = more_marks n2 n marks (ms ++ ns) k in
    let alike : from ≡ other = same_from from other (one_wish s q (Watch from) (Watch other) m (subst (λ (z : Request). Means s z (wanted (Watch other))) same l)) in
    let text : watch_text book q.target from n (ms ++ ns) ≡ watch_text book p.target other n2 marks = (λ i. watch_text book (sym same i).target (alike i) (sym mark i) (sym more i)) in
    subst (λ (b : Bool). Begins (watch_text book q.target from n ms ++ last_chunk b) (watch_text book p.target other n2 marks ++ last_chunk ended)) (sym (unstopped stopped g))
    (subst (λ (w : List ℕ). Begins (watch_text book q.target from n ms ++ last_chunk false) (w ++ last_chunk ended)) text
    (begins_behind (watch_text book q.target from n ms ++ []) (watch_text book q.target from n (ms ++ ns)) (last_chunk ended)
    (subst (λ (w : List ℕ). Begins w (watch_text book q.target from n (ms ++ ns))) (sym (append-nil (watch_text book q.target from n ms)))
    (watch_front book q.target from n ms ns))))

-- what was answered with the first of the marks is a front of what stands for all of them
parts_front : (s : Serving) (by : ℕ) (book : List Entry) (r : List ℕ) (qs ps : List Request) (v w ms ns marks : List ℕ) (es : List Placed) (t u : List ℕ) (c d : Course)
    → IsLegalBook book → IsUnstopped c → Cuts 0 false r qs v → Says s by book qs ms es t c → marks ≡ ms ++ ns → Parts s by book r marks u d ps w → Begins t u
parts_front s by book r qs ps v w ms ns marks es t u c d legal free cut x k y = go (compared 0 false r qs ps v w cut y.answered.cut)
  where
    go : GoesOn (is_over 0 false qs) qs ps v w ⊎ GoesOn (is_over 0 false ps) ps qs w v → Begins t u
    go (inl g) = says_front s by book qs ps g.more ms ns marks es y.entries t u c d legal x free y.answered.says g.longer k
    go (inr g) =
        let same = none_behind s by book (is_over 0 false ps) w v ps qs marks ms ns y.entries es u t d c g.more y.answered.says y.stops x g.longer k g.behind in
        says_front s by book qs ps [] ms ns marks es y.entries t u c d legal x free y.answered.says (sym same.0 ∙ sym (append-nil qs)) k

text_front : (s : Serving) (by : ℕ) (book : List Entry) (r : List ℕ) (qs : List Request) (v ms ns marks : List ℕ) (es : List Placed) (t text : List ℕ) (c course : Course)
    → IsLegalBook book → IsUnstopped c → Cuts 0 false r qs v → Says s by book qs ms es t c → marks ≡ ms ++ ns → SessionText s by book r marks text course → Begins t text
text_front s by book r qs v ms ns marks es t _ c _ legal free cut x k (whole text w) =
    subst (Begins t) (sym w.spells) (begins_behind t w.front (tail_text w.tail) (parts_front s by book r qs w.requests v w.rest ms ns marks es t w.front c goes_on legal free cut x k (whole_parts s by book r marks text w)))
text_front s by book r qs v ms ns marks es t _ c _ legal free cut x k (unmarked text w) =
    parts_front s by book r qs w.requests v w.rest ms ns marks es t text c goes_on legal free cut x k (unmarked_parts s by book r marks text w)
text_front s by book r qs v ms ns marks es t _ c _ legal free cut x k (watching text stopped w) =
    parts_front s by book r qs w.requests v w.rest ms ns marks es t text c (watched stopped) legal free cut x k (watched_parts s by book r marks text stopped w)

-- one request more in a cut
pub cut_more : (n : ℕ) (closed : Bool) (bytes : List ℕ) (qs : List Request) (q : Request) (v rest : List ℕ) → Cuts n closed bytes qs v → is_over n closed qs ≡ false → IsDecided (asked q) v rest
    → Cuts n closed bytes (qs ++ q ∷ []) rest
cut_more n closed bytes [] q v rest c o d = (few n closed o, still n closed o, d.front, rest, d.decides, c ∙ d.whole, refl)
  where
    few : (n : ℕ) (b : Bool) → b || nat_le 10_000 n ≡ false → n < 10_000
    few n true o = cc
    few n false o = grind (arith, common_steps)

    still : (n : ℕ) (b : Bool) → b || nat_le 10_000 n ≡ false → b ≡ false
    still n true o = cc
    still n false o = refl
cut_more n closed bytes (p ∷ ps) q v rest c o d = (c.0, c.1, c.2, c.3, c.4, c.5, cut_more (n + 1) p.close c.3 ps q v rest c.6 o d)

-- what was written of a text
abbrev WroteOf : Outflow → Outflow → List ℕ → Type 0
WroteOf before after text = (front rest : List ℕ) × (text ≡ front ++ rest) × (after.written ≡ append_known before.written front)

-- what was written of a text, or, of a subscription whose bell has ended, of the text with its last chunk
abbrev WroteOrLast : Course → BellUse → Outflow → Outflow → List ℕ → Type 0
WroteOrLast course heard before after text =
    (last front rest : List ℕ) × MayStop course heard last × (text ++ last ≡ front ++ rest) × (after.written ≡ append_known before.written front)

plain : (course : Course) (heard : BellUse) (before after : Outflow) (text : List ℕ) → WroteOf before after text → WroteOrLast course heard before after text
plain course heard before after text (front, rest, e, w) = ([], front, rest, inl refl, append-nil text ∙ e, w)

broken_off : (before after : Outflow) (first other text : List ℕ) → BreaksOff first other before after → Begins (first ++ other) text → WroteOf before after text
broken_off before after first other text b t =
    let k = begins_both (first ++ b.then.front) (first ++ other) text (begins_more first b.then.front other (b.then.rest, b.then.whole)) t in (
      first ++ b.then.front,
      k.0,
      k.1,
      b.then.written ∙ ap (λ z. append_known z b.then.front) b.first.written ∙ append_known-append before.written first b.then.front,
    )

-- the text is that of all requests and of a refusal
same_whole : (s : Serving) (by : ℕ) (book : List Entry) (r marks front text : List ℕ) (course : Course) → IsLegalBook book → WholeText s by book r marks front → SessionText s by book r marks text course → front ≡ text
same_whole s by book r marks front _ _ legal w (whole text y) = (one_text s by book r marks front text goes_on goes_on legal (whole front w) (whole text y)).1 refl
same_whole s by book r marks front _ _ legal w (unmarked text y) = (one_text s by book r marks front text goes_on goes_on legal (whole front w) (unmarked text y)).1 refl
same_whole s by book r marks front _ _ legal w (watching text stopped y) =
    absurd (one_text s by book r marks front text goes_on (watched stopped) legal (whole front w) (watching text stopped y)).0

refused : (qs : List Request) (f : Refusal) (rest : List ℕ) → is_over 0 false qs ≡ false → Stands (refusal f) rest → TailIs (is_over 0 false qs) (refusal f) rest
refused qs f rest o s = rw o s

neither : (end : SessionEnd) → (end ≡ WriteFault → ⊥) → (end ≡ Memory → ⊥) → (end ≡ WriteFault) ⊎ (end ≡ Memory) → ⊥
neither end a b (inl e) = a e
neither end a b (inr e) = b e

-- the text of a subscription, and what stands before its last chunk
record IsStoppable (s : Serving) (by : ℕ) (book : List Entry) (q : Request) (marks t : List ℕ) (stopped : Bool) : Type 0 where
  base : List ℕ
  is : t ≡ base ++ last_chunk stopped
  says : (b : Bool) → Says s by book (q ∷ []) marks [] (base ++ last_chunk b) (watched b)

no_requests : (q : Request) (qs : List Request) → q ∷ qs ≡ [] → ⊥
no_requests q qs e = cc

ends_nowhere : (s : Serving) (by : ℕ) (book : List Entry) (qs : List Request) (marks : List ℕ) (es : List Placed) (t : List ℕ) (c : Course) (stopped : Bool)
    → Says s by book qs marks es t c → qs ≡ [] → c ≡ watched stopped → ⊥
ends_nowhere s by book _ _ _ _ _ stopped none e k = not_watched stopped (sym k)
ends_nowhere s by book _ _ _ _ _ stopped (direct q d qs marks es t c m x) e k = no_requests q qs e
ends_nowhere s by book _ _ _ _ _ stopped (turn q wish n reply new qs marks es t c m a x) e k = no_requests q qs e
ends_nowhere s by book _ _ _ _ _ stopped (watches q from n marks ended m held) e k = no_requests q [] e

stoppable : (s : Serving) (by : ℕ) (book : List Entry) (qs : List Request) (q : Request) (marks : List ℕ) (es : List Placed) (t : List ℕ) (c : Course) (stopped : Bool)
    → Says s by book qs marks es t c → qs ≡ q ∷ [] → c ≡ watched stopped → IsStoppable s by book q marks t stopped
stoppable s by book _ q _ _ _ _ stopped none e k = absurd (not_watched stopped (sym k))
stoppable s by book _ q _ _ _ _ stopped (direct p d qs marks es t c m x) e k = absurd (ends_nowhere s by book qs marks es t c stopped x (rest_of p q qs [] e) k)
stoppable s by book _ q _ _ _ _ stopped (turn p wish n reply new qs marks es t c m a x) e k = absurd (ends_nowhere s by book qs marks es t c stopped x (rest_of p q qs [] e) k)
stoppable s by book _ q _ _ _ _ stopped (watches p from n marks ended m held) e k =
    let same : p ≡ q = head p q [] [] e in
    let stop : ended ≡ stopped = same_stop ended stopped k in
    record {
      base = watch_text book q.target from n marks;
      is = (λ i. watch_text book (same i).target from n marks ++ last_chunk (stop i));
      says = λ b. watches q from n marks b (subst (λ (z : Request). Means s z (wanted (Watch from))) same m)
          (subst (λ (z : Request). HoldsAll (graph_of (of_path (take n book) z.target)) from) same held);
    }

-- the whole text of a session that ends in a subscription
pub watched_whole : (s : Serving) (by : ℕ) (book : List Entry) (r : List ℕ) (d : Done) (q : Request) (rest marks t : List ℕ) (stopped : Bool)
    → Cuts 0 false r d.requests d.rest → MayFollow d → IsDecided (asked q) d.rest rest → Says s by book d.requests d.marks d.entries d.text goes_on
    → Says s by book (q ∷ []) marks [] t (watched stopped) → WatchedText s by book r (d.marks ++ marks) (d.text ++ t) stopped
watched_whole s by book r d q rest marks t stopped cut o is x y = record {
  requests = d.requests ++ q ∷ [];
  rest = rest;
  entries = d.entries ++ [];
  answered = record {
    cut = cut_more 0 false r d.requests q d.rest rest cut o is;
    says = says_both s by book d.requests (q ∷ []) d.marks marks d.entries [] d.text t goes_on (watched stopped) refl x y;
  };
}

-- with its last chunk, it begins no text but one whose bell has ended
stopped_front : (s : Serving) (by : ℕ) (book : List Entry) (r : List ℕ) (d : Done) (q : Request) (rest marks t : List ℕ) (heard : BellUse) (text : List ℕ) (course : Course)
    → IsLegalBook book → Cuts 0 false r d.requests d.rest → MayFollow d → IsDecided (asked q) d.rest rest → Says s by book d.requests d.marks d.entries d.text goes_on
    → Says s by book (q ∷ []) marks [] t (watched false) → HasNone heard.left → SessionText s by book r (d.marks ++ marks) text course
    → (last : List ℕ) × MayStop course heard last × Begins (d.text ++ (t ++ last_chunk true)) (text ++ last)
stopped_front s by book r d q rest marks t heard text course legal cut o is x y silent other = go course other
  where
    parts : IsStoppable s by book q marks t false
    parts = stoppable s by book (q ∷ []) q marks [] t (watched false) false y refl refl

    text_of : (b : Bool) → SessionText s by book r (d.marks ++ marks) (d.text ++ (parts.base ++ last_chunk b)) (watched b)
    text_of b = watching (d.text ++ (parts.base ++ last_chunk b)) b (watched_whole s by book r d q rest marks (parts.base ++ last_chunk b) b cut o is x (parts.says b))

    base_is : t ≡ parts.base
    base_is = parts.is ∙ append-nil parts.base

    go : (course : Course) → SessionText s by book r (d.marks ++ marks) text course → (last : List ℕ) × MayStop course heard last × Begins (d.text ++ (t ++ last_chunk true)) (text ++ last)
    go goes_on other = absurd (one_text s by book r (d.marks ++ marks) (d.text ++ (parts.base ++ last_chunk true)) text (watched true) goes_on legal (text_of true) other).0
    go (watched true) other =
        let e = (one_text s by book r (d.marks ++ marks) (d.text ++ (parts.base ++ last_chunk true)) text (watched true) (watched true) legal (text_of true) other).1 refl in
        ([], inl refl, ([], ap (λ (z : List ℕ). z ++ []) (sym e ∙ ap (λ (z : List ℕ). d.text ++ (z ++ last_chunk true)) (sym base_is))))
    go (watched false) other =
        let e = (one_text s by book r (d.marks ++ marks) (d.text ++ (parts.base ++ last_chunk false)) text (watched false) (watched false) legal (text_of false) other).1 refl in
        let whole : text ++ last_chunk true ≡ (d.text ++ (t ++ last_chunk true)) ++ [] =
        ap (λ (z : List ℕ). z ++ last_chunk true) (sym e ∙ ap (λ (z : List ℕ). d.text ++ z) (append-nil parts.base))
        ∙ append_assoc d.text parts.base (last_chunk true)
        ∙ ap (λ (z : List ℕ). d.text ++ (z ++ last_chunk true)) (sym base_is)
        ∙ sym (append-nil (d.text ++ (t ++ last_chunk true))) in
        (last_chunk true, inr (refl, silent, refl), ([], whole))

pub wrote_front : WroteFront
wrote_front s note by book look entries heard from to before after x legal which text course y = ended x.ends
  where
    go : (end : SessionEnd) → (end ≡ WriteFault) ⊎ (end ≡ Memory) → Ends end s by book look x.done note.marks.items entries to before after → WroteOf before after text
    go WriteFault h (o, inl (ms, es, reply, i, k, l, b)) =
        broken_off before after x.done.text reply text b
        (text_front s by book x.r (x.done.requests ++ i.request ∷ []) i.rest (x.done.marks ++ ms) [] note.marks.items (x.done.entries ++ es) (x.done.text ++ reply) text goes_on course legal (inl refl)
        (cut_more 0 false x.r x.done.requests i.request x.done.rest i.rest x.answered.cut o i.decided)
        (says_both s by book x.done.requests (i.request ∷ []) x.done.marks ms x.done.entries es x.done.text reply goes_on goes_on refl x.answered.says i.says)
        (k ∙ sym (append-nil (x.done.marks ++ ms))) y)
    go WriteFault h (o, inr (g, f, t, b)) =
        let w : WholeText s by book x.r note.marks.items (x.done.text ++ reply_text false (refusal_reply f)) = rw g.0 (record {
          requests = x.done.requests;
          rest = x.done.rest;
          entries = x.done.entries;
          front = x.done.text;
          tail = refusal f;
          answered = x.answered;
          tail_is = refused x.done.requests f x.done.rest o t;
          spells = refl;
        }) in
        broken_off before after x.done.text (reply_text false (refusal_reply f)) text b
        ([], sym (same_whole s by book x.r note.marks.items (x.done.text ++ reply_text false (refusal_reply f)) text course legal w y) ∙ sym (append-nil (x.done.text ++ reply_text false (refusal_reply f))))
    go Memory h (o, w, inl g) =
        let k = text_front s by book x.r x.done.requests x.done.rest x.done.marks [] note.marks.items x.done.entries x.done.text text goes_on course legal (inl refl) x.answered.cut x.answered.says
        (g.0 ∙ sym (append-nil x.done.marks)) y in
        (x.done.text, k.0, k.1, w.written)
    go Memory h (o, w, inr (n, es, i, e, l)) =
        let k = text_front s by book x.r x.done.requests x.done.rest x.done.marks (n ∷ []) note.marks.items x.done.entries x.done.text text goes_on course legal (inl refl) x.answered.cut x.answered.says e y in
        (x.done.text, k.0, k.1, w.written)
    go Closed h e = absurd (neither Closed (λ z. cc) (λ z. cc) h)
    go Stopped h e = absurd e
    go Spent h e = absurd (neither Spent (λ z. cc) (λ z. cc) h)
    go (Refused status) h e = absurd (neither (Refused status) (λ z. cc) (λ z. cc) h)
    go Torn h e = absurd (neither Torn (λ z. cc) (λ z. cc) h)
    go ReadFault h e = absurd (neither ReadFault (λ z. cc) (λ z. cc) h)
    go Worn h e = absurd (neither Worn (λ z. cc) (λ z. cc) h)

    -- what was written behind the requests before, where it is a front of what follows them
    behind : (e : EndsWatching note.end s by book look x.done note.marks.items entries heard x.begun before after) (t front rest : List ℕ) → t ≡ front ++ rest
        → after.written ≡ append_known e.middle.written front → (last : List ℕ) × MayStop course heard last × Begins (x.done.text ++ t) (text ++ last)
        → WroteOrLast course heard before after text
    behind e t front rest is w (last, may, b) =
        let k = begins_both (x.done.text ++ front) (x.done.text ++ t) (text ++ last) (begins_more x.done.text front t (rest, is)) b in
        (last, x.done.text ++ front, k.0, may, k.1, w ∙ ap (λ z. append_known z front) e.wrote.written ∙ append_known-append before.written x.done.text front)

    -- what the first of its turns say is a front of the text
    turns : (e : EndsWatching note.end s by book look x.done note.marks.items entries heard x.begun before after) (ms last t : List ℕ)
        → Says s by book (e.request ∷ []) ms [] t (watched false) → e.taken ≡ ms ++ last → (last_bytes : List ℕ) × MayStop course heard last_bytes × Begins (x.done.text ++ t) (text ++ last_bytes)
    turns e ms last t w k = (
      [],
      inl refl,
      subst (Begins (x.done.text ++ t)) (sym (append-nil text))
          (text_front s by book x.r (x.done.requests ++ e.request ∷ []) e.rest (x.done.marks ++ ms) last note.marks.items (x.done.entries ++ []) (x.done.text ++ t) text (watched false) course legal (inr refl)
          (cut_more 0 false x.r x.done.requests e.request x.done.rest e.rest x.answered.cut e.follows e.decided)
          (says_both s by book x.done.requests (e.request ∷ []) x.done.marks ms x.done.entries [] x.done.text t goes_on (watched false) refl x.answered.says w)
          (e.marks_are ∙ ap (λ z. x.done.marks ++ z) k ∙ sym (append_assoc x.done.marks ms last)) y),
    )

    watch : (e : EndsWatching note.end s by book look x.done note.marks.items entries heard x.begun before after) (end : SessionEnd) → (end ≡ WriteFault) ⊎ (end ≡ Memory)
        → EndsWatch end s by book look e.request e.taken heard x.begun e.middle after → WroteOrLast course heard before after text
    watch e WriteFault h (head, t, w, n, inl (b, a, broken)) =
        behind e (head ++ t) broken.front (broken.rest ++ t) (ap (λ z. z ++ t) broken.whole ∙ append_assoc broken.front broken.rest t) broken.written (turns e e.taken [] (head ++ t) w.says (sym (append-nil e.taken)))
    watch e WriteFault h (head, t, w, n, inr (inl (b, off))) =
        behind e (head ++ t) (head ++ off.then.front) off.then.rest (ap (λ z. head ++ z) off.then.whole ∙ sym (append_assoc head off.then.front off.then.rest))
        (off.then.written ∙ ap (λ z. append_known z off.then.front) off.first.written ∙ append_known-append e.middle.written head off.then.front)
        (turns e e.taken [] (head ++ t) w.says (sym (append-nil e.taken)))
    watch e WriteFault h (head, t, w, n, inr (inr (b, silent, off))) =
        behind e ((head ++ t) ++ last_chunk true) ((head ++ t) ++ off.then.front) off.then.rest
        (ap (λ z. (head ++ t) ++ z) off.then.whole ∙ sym (append_assoc (head ++ t) off.then.front off.then.rest))
        (off.then.written ∙ ap (λ z. append_known z off.then.front) off.first.written ∙ append_known-append e.middle.written (head ++ t) off.then.front)
        (stopped_front s by book x.r x.done e.request e.rest e.taken (head ++ t) heard text course legal x.answered.cut e.follows e.decided x.answered.says w.says silent
        (subst (λ (ms : List ℕ). SessionText s by book x.r ms text course) e.marks_are y))
    watch e Memory h (ms, last, head, t, k, l, w, wrote, c, b) =
        behind e (head ++ t) (head ++ t) [] (sym (append-nil (head ++ t))) wrote.written (turns e ms last (head ++ t) w.says k)
    watch e Closed h w = absurd w
    watch e Stopped h w = absurd (neither Stopped (λ z. cc) (λ z. cc) h)
    watch e Spent h w = absurd w
    watch e (Refused status) h w = absurd w
    watch e Torn h w = absurd w
    watch e ReadFault h w = absurd w
    watch e Worn h w = absurd (neither Worn (λ z. cc) (λ z. cc) h)

    ended : EndsUnwatched note.end s by book look x.done note.marks.items entries heard x.begun to before after ⊎ EndsWatching note.end s by book look x.done note.marks.items entries heard x.begun before after
        → WroteOrLast course heard before after text
    ended (inl e) = plain course heard before after text (go note.end which e.ends)
    ended (inr e) = watch e note.end which e.ends
