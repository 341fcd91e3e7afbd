-- What each end says of the whole text.
use Rattle.std.proofs.Common.{◌≡◌, ◌≢◌, ℕ, ◌⊎◌, inl, inr, Bool, true, false, List, [], ◌∷◌, ◌++◌, refl, sym, ◌∙◌, subst, append-nil, arith}
use Rattle.braid_io.specs.Outside.{Outflow, Rose, HasNone, WritesAll}
use Rattle.braid_store.specs.declared.entry.Entry.{Entry}
use Rattle.braid_http.specs.declared.request.Request.{Request}
use Rattle.braid_http.specs.Requests.{IsOpen}
use Rattle.braid_http.specs.Cuts.{is_over, Tail, nothing, part, refusal, unseen, Stands, TailIs, Requests}
use Rattle.braid_http.proofs.CutLaws.{one_cut}
use Rattle.braid_session.specs.declared.serving.Serving.{Serving}
use Rattle.braid_session.specs.declared.session.SessionEnd.{SessionEnd}
use Rattle.braid_session.specs.declared.session.SessionEnd.TheVariants.{Closed, Stopped, Spent, Refused, Torn, ReadFault, WriteFault, Worn, Memory}
use Rattle.braid_session.specs.Sessions.{goes_on, watched, Says, Answered, WholeText, UnmarkedText, WatchedText, tail_text}
use Rattle.braid_session.specs.Ends.{Done, BreaksOff, Ends}
use Rattle.braid_session.specs.Watches.{BellUse, EndsWatch, EndsWatching}
use Rattle.braid_session.specs.Fits.{EndsUnwatched}
use Rattle.braid_session.specs.Laws.{WroteAll, Completes}
use Rattle.braid_session.proofs.Goings.{writes_both}
use Rattle.braid_session.proofs.Fronts.{watched_whole}

-- a text that was written whole, at this end
abbrev Wrote : SessionEnd → Serving → ℕ → List Entry → List ℕ → List ℕ → BellUse → Outflow → Outflow → Type 0
Wrote end s by book r marks heard before after =
    (text : List ℕ) × WritesAll text before after × (end ≢ Worn → end ≢ Stopped → WholeText s by book r marks text)
    × (end ≡ Stopped → WatchedText s by book r marks text true × HasNone heard.left)
    × (end ≡ Worn → UnmarkedText s by book r marks text ⊎ WatchedText s by book r marks text false)

tail_is : (qs : List Request) (tail : Tail) (rest : List ℕ) → is_over 0 false qs ≡ false → Stands tail rest → TailIs (is_over 0 false qs) tail rest
tail_is qs tail rest o s = rw o s

unseen_is : (qs : List Request) (rest : List ℕ) → is_over 0 false qs ≡ true → TailIs (is_over 0 false qs) unseen rest
unseen_is qs rest o = rw o refl

with_tail : (end : SessionEnd) (s : Serving) (by : ℕ) (book : List Entry) (r : List ℕ) (d : Done) (marks : List ℕ) (tail : Tail) (heard : BellUse) (before after : Outflow)
    → (end ≡ Worn → ⊥) → (end ≡ Stopped → ⊥) → Answered s by book r d.requests d.rest d.marks d.entries d.text goes_on → marks ≡ d.marks → TailIs (is_over 0 false d.requests) tail d.rest
    → WritesAll (d.text ++ tail_text tail) before after → Wrote end s by book r marks heard before after
with_tail end s by book r d marks tail heard before after n o a e t w = (
  d.text ++ tail_text tail,
  w,
  (λ x y. rw e (record { requests = d.requests; rest = d.rest; entries = d.entries; front = d.text; tail = tail; answered = a; tail_is = t; spells = refl })),
  (λ x. absurd (o x)),
  (λ x. absurd (n x)),
)

alone : (end : SessionEnd) (s : Serving) (by : ℕ) (book : List Entry) (r : List ℕ) (d : Done) (marks : List ℕ) (tail : Tail) (heard : BellUse) (before after : Outflow)
    → (end ≡ Worn → ⊥) → (end ≡ Stopped → ⊥) → Answered s by book r d.requests d.rest d.marks d.entries d.text goes_on → marks ≡ d.marks → TailIs (is_over 0 false d.requests) tail d.rest
    → tail_text tail ≡ [] → WritesAll d.text before after → Wrote end s by book r marks heard before after
alone end s by book r d marks tail heard before after m o a e t n w =
    with_tail end s by book r d marks tail heard before after m o a e t (rw (n, append-nil d.text) w)

-- what stands where nothing is decided
open_tail : (rest : List ℕ) → IsOpen rest → (tail : Tail) × Stands tail rest × (tail_text tail ≡ [])
open_tail [] o = (nothing, refl, refl)
open_tail (x ∷ xs) o = (part, ((λ e. cc), o), refl)

pub wrote_all : WroteAll
wrote_all s note by book look entries heard from to before after x n m = ended x.ends
  where
    go : (end : SessionEnd) → end ≢ WriteFault → end ≢ Memory → Ends end s by book look x.done note.marks.items entries to before after
        → Wrote end s by book x.r note.marks.items heard before after
    go Closed n m (g, w, inl c) =
        alone Closed s by book x.r x.done note.marks.items nothing heard before after (λ e. cc) (λ e. cc) x.answered g.0 (tail_is x.done.requests nothing x.done.rest c.0 c.1) refl w
    go Closed n m (g, w, inr c) = alone Closed s by book x.r x.done note.marks.items unseen heard before after (λ e. cc) (λ e. cc) x.answered g.0 (unseen_is x.done.requests x.done.rest c.0) refl w
    go Stopped n m e = absurd e
    go Spent n m (g, w, o, c) = alone Spent s by book x.r x.done note.marks.items unseen heard before after (λ e. cc) (λ e. cc) x.answered g.0 (unseen_is x.done.requests x.done.rest o) refl w
    go (Refused status) n m (g, o, f, t, k, w) =
        with_tail (Refused status) s by book x.r x.done note.marks.items (refusal f) heard before after (λ e. cc) (λ e. cc) x.answered g.0 (tail_is x.done.requests (refusal f) x.done.rest o t) w
    go Torn n m (g, w, o, t, l) = alone Torn s by book x.r x.done note.marks.items part heard before after (λ e. cc) (λ e. cc) x.answered g.0 (tail_is x.done.requests part x.done.rest o t) refl w
    go ReadFault n m (g, w, o, t) =
        let k = open_tail x.done.rest t in
        alone ReadFault s by book x.r x.done note.marks.items k.0 heard before after (λ e. cc) (λ e. cc) x.answered g.0 (tail_is x.done.requests k.0 x.done.rest o k.1) k.2 w
    go WriteFault n m e = absurd (n refl)
    go Worn n m (g, w, o, t, l) = (
      x.done.text,
      w,
      (λ e k. absurd (e refl)),
      (λ e. cc),
      (λ e. inl (rw g.0 (record { requests = x.done.requests; rest = x.done.rest; entries = x.done.entries; answered = x.answered; not_over = o; next = t }))),
    )
    go Memory n m e = absurd (m refl)

    -- the text up to a subscription, and what it says
    watched_text : (e : EndsWatching note.end s by book look x.done note.marks.items entries heard x.begun before after) (t : List ℕ) (stopped : Bool)
        → Says s by book (e.request ∷ []) e.taken [] t (watched stopped) → WatchedText s by book x.r note.marks.items (x.done.text ++ t) stopped
    watched_text e t stopped y =
        subst (λ (ms : List ℕ). WatchedText s by book x.r ms (x.done.text ++ t) stopped) (sym e.marks_are)
        (watched_whole s by book x.r x.done e.request e.rest e.taken t stopped x.answered.cut e.follows e.decided x.answered.says y)

    watch : (e : EndsWatching note.end s by book look x.done note.marks.items entries heard x.begun before after) (end : SessionEnd) → end ≢ WriteFault → end ≢ Memory
        → EndsWatch end s by book look e.request e.taken heard x.begun e.middle after → Wrote end s by book x.r note.marks.items heard before after
    watch e Closed n m w = absurd w
    watch e Stopped n m (head, t, w, o, c, none, b) = (
      x.done.text ++ (head ++ t),
      writes_both x.done.text (head ++ t) before e.middle after e.wrote o,
      (λ k j. absurd (j refl)),
      (λ k. (watched_text e (head ++ t) true w.says, none)),
      (λ k. cc),
    )
    watch e Spent n m w = absurd w
    watch e (Refused status) n m w = absurd w
    watch e Torn n m w = absurd w
    watch e ReadFault n m w = absurd w
    watch e WriteFault n m w = absurd (n refl)
    watch e Worn n m (head, t, w, o, c, l, b) = (
      x.done.text ++ (head ++ t),
      writes_both x.done.text (head ++ t) before e.middle after e.wrote o,
      (λ k j. absurd (k refl)),
      (λ k. cc),
      (λ k. inr (watched_text e (head ++ t) false w.says)),
    )
    watch e Memory n m w = absurd (m refl)

    ended : EndsUnwatched note.end s by book look x.done note.marks.items entries heard x.begun to before after ⊎ EndsWatching note.end s by book look x.done note.marks.items entries heard x.begun before after
        → Wrote note.end s by book x.r note.marks.items heard before after
    ended (inl e) = go note.end n m e.ends
    ended (inr e) = watch e note.end n m e.ends

-- nothing, or what is not looked at
abbrev IsLast : Tail → Type 0
IsLast tail = (tail ≡ nothing) ⊎ (tail ≡ unseen)

-- no other tail stands behind the requests of the bytes
other_tail : (r : List ℕ) (qs ps : List Request) (tail end : Tail) → IsLast tail → Requests r qs tail → Requests r ps end → (nothing ≡ end → ⊥) → (unseen ≡ end → ⊥) → ⊥
other_tail r qs ps tail end (inl e) a b n u = n (sym e ∙ (one_cut r qs ps tail end a b).1)
other_tail r qs ps tail end (inr e) a b n u = u (sym e ∙ (one_cut r qs ps tail end a b).1)

rose_after : (before after : Outflow) (text other : List ℕ) → BreaksOff text other before after → Rose before.faults after.faults
rose_after before after text other b = rw b.first.faults at b.then.rose

pub completes : Completes
completes s note by book look entries heard from to before after x qs tail reads writes early last all = ended x.ends
  where
    cut : (end : Tail) → is_over 0 false x.done.requests ≡ false → Stands end x.done.rest → Requests x.r x.done.requests end
    cut end o t = record { rest = x.done.rest; cut = x.answered.cut; tail_is = tail_is x.done.requests end x.done.rest o t }

    go : (end : SessionEnd) → note.end ≡ end → Ends end s by book look x.done note.marks.items entries to before after
        → (note.end ≡ Closed) ⊎ ((note.end ≡ Stopped) ⊎ ((note.end ≡ Spent) ⊎ (note.end ≡ Memory)))
    go Closed e c = inl e
    go Stopped e c = absurd c
    go Spent e c = inr (inr (inl e))
    go (Refused status) e (g, o, f, t, k, w) = absurd (other_tail x.r qs x.done.requests tail (refusal f) last all (cut (refusal f) o t) (λ u. cc) (λ u. cc))
    go Torn e (g, w, o, t, l) = absurd (other_tail x.r qs x.done.requests tail part last all (cut part o t) (λ u. cc) (λ u. cc))
    go ReadFault e c = absurd (reads (x.faults.1 e).1)
    go WriteFault e (o, inl (ms, es, reply, i, k, l, b)) = absurd (writes (rose_after before after x.done.text reply b))
    go WriteFault e (o, inr (g, f, t, b)) = absurd (writes (rose_after before after x.done.text _ b))
    go Worn e (g, w, o, t, l) = absurd (omega (arith, early, l))
    go Memory e c = inr (inr (inr e))

    watch : (w : EndsWatching note.end s by book look x.done note.marks.items entries heard x.begun before after) (end : SessionEnd) → note.end ≡ end
        → EndsWatch end s by book look w.request w.taken heard x.begun w.middle after
        → (note.end ≡ Closed) ⊎ ((note.end ≡ Stopped) ⊎ ((note.end ≡ Spent) ⊎ (note.end ≡ Memory)))
    watch w Closed e c = absurd c
    watch w Stopped e c = inr (inl e)
    watch w Spent e c = absurd c
    watch w (Refused status) e c = absurd c
    watch w Torn e c = absurd c
    watch w ReadFault e c = absurd c
    watch w WriteFault e (head, t, i, n, inl (b, a, broken)) = absurd (writes (subst (λ (k : ℕ). Rose k after.faults) w.wrote.faults broken.rose))
    watch w WriteFault e (head, t, i, n, inr (inl (b, off))) = absurd (writes (subst (λ (k : ℕ). Rose k after.faults) w.wrote.faults (rose_after w.middle after head t off)))
    watch w WriteFault e (head, t, i, n, inr (inr (b, none, off))) = absurd (writes (subst (λ (k : ℕ). Rose k after.faults) w.wrote.faults (rose_after w.middle after (head ++ t) _ off)))
    watch w Worn e (head, t, i, o, n, late, b) = absurd (omega (arith, early, late))
    watch w Memory e c = inr (inr (inr e))

    ended : EndsUnwatched note.end s by book look x.done note.marks.items entries heard x.begun to before after ⊎ EndsWatching note.end s by book look x.done note.marks.items entries heard x.begun before after
        → (note.end ≡ Closed) ⊎ ((note.end ≡ Stopped) ⊎ ((note.end ≡ Spent) ⊎ (note.end ≡ Memory)))
    ended (inl e) = go note.end refl e.ends
    ended (inr e) = watch e note.end refl e.ends
