-- Session text on a history that grows.
use Rattle.std.proofs.Common.{◌≡◌, ℕ, ◌≤◌, Bool, List, [], ◌∷◌, ◌++◌, ◌⊎◌, inl, inr, refl, ap, sym, ◌∙◌, subst, length, take, drop, Some, true, false, arith, length-append}
use Rattle.std.specs.List.{AllByRecursion, slice_get}
use Rattle.std.proofs.lemmas.List.{take-append-le, get_or_append_left}
use Rattle.std.proofs.lemmas.Option.{slice_get_within, slice_get-get_or, get_or_from_slice_get}
use Rattle.braid_store.specs.declared.entry.Entry.{Entry}
use Rattle.braid_store.specs.Books.{of_path}
use Rattle.braid_text.specs.Sent.{sent}
use Rattle.braid_stream.specs.Chunked.{chunks}
use Rattle.braid_store.specs.Cursors.{sent_of}
use Rattle.braid_graph.specs.Entries.{HoldsAll}
use Rattle.braid_text.specs.Histories.{graph_of}
use Rattle.braid_io.specs.Outside.{Intake, Outflow}
use Rattle.braid_http.specs.declared.request.Request.{Request}
use Rattle.braid_session.specs.declared.serving.Serving.{Serving}
use Rattle.braid_session.specs.declared.session.SessionEnd.{SessionEnd}
use Rattle.braid_session.specs.declared.session.SessionEnd.TheVariants.{Closed, Stopped, Spent, Refused, Torn, ReadFault, WriteFault, Worn, Memory}
use Rattle.braid_session.specs.Answers.{Answers, MayAdd}
use Rattle.braid_session.specs.Sessions.{Placed, Course, goes_on, watched, Says, none, direct, turn, watches, chunks_or_beat, further, watch_text, last_chunk, subscription_head, Answered, SessionText, whole, unmarked, watching}
use Rattle.braid_session.specs.Ends.{Done, GainsThese, Ends}
use Rattle.braid_session.specs.Watches.{BellUse, IsWatch, EndsWatch, EndsWatching}
use Rattle.braid_session.specs.Fits.{EndsUnwatched}
use Rattle.braid_session.specs.Laws.{StaysAsItGrows, TextStays, PlacesStay, FitsLonger}

-- two books have the same fronts up to each of the marks
abbrev pub SameFronts : List Entry → List Entry → List ℕ → Type 0
SameFronts book other marks = AllByRecursion (λ (n : ℕ). take n book ≡ take n other) marks

pub further_same : (book other : List Entry) (path : List ℕ) (from : List (List ℕ)) (passed : ℕ) (marks : List ℕ)
    → SameFronts book other marks → further book path from passed marks ≡ further other path from passed marks
further_same book other path from passed [] h = refl
further_same book other path from passed (n ∷ marks) h =
    let same : sent_of book path from n ≡ sent_of other path from n = ap (λ (b : List Entry). sent (of_path b path) from) h.0 in
    ap (λ z. chunks_or_beat (drop passed z) ++ further book path from (length z) marks) same
    ∙ ap (λ w. chunks_or_beat (drop passed (sent_of other path from n)) ++ w) (further_same book other path from (length (sent_of other path from n)) marks h.1)

watch_same : (book other : List Entry) (path : List ℕ) (from : List (List ℕ)) (n : ℕ) (marks : List ℕ)
    → take n book ≡ take n other → SameFronts book other marks → watch_text book path from n marks ≡ watch_text other path from n marks
watch_same book other path from n marks front h =
    let same : sent_of book path from n ≡ sent_of other path from n = ap (λ (b : List Entry). sent (of_path b path) from) front in
    ap (λ (b : List Entry). subscription_head b path ++ chunks (sent_of book path from n) ++ further book path from (length (sent_of book path from n)) marks) front
    ∙ ap (λ z. subscription_head (take n other) path ++ chunks z ++ further book path from (length z) marks) same
    ∙ ap (λ w. subscription_head (take n other) path ++ chunks (sent_of other path from n) ++ w) (further_same book other path from (length (sent_of other path from n)) marks h)

-- what is said on one of them is said on the other
pub says_on : (s : Serving) (by : ℕ) (book other : List Entry) (qs : List Request) (marks : List ℕ) (entries : List Placed) (text : List ℕ) (course : Course)
    → SameFronts book other marks → Says s by book qs marks entries text course → Says s by other qs marks entries text course
says_on s by book other _ _ _ _ _ h none = none
says_on s by book other _ marks _ _ _ h (direct q d qs _ entries text course m x) = direct q d qs marks entries text course m (says_on s by book other qs marks entries text course h x)
says_on s by book other _ _ _ _ _ h (turn q wish n reply es qs marks entries text course m a x) =
    turn q wish n reply es qs marks entries text course m (subst (λ (b : List Entry). Answers b by q.target wish reply es) h.0 a) (says_on s by book other qs marks entries text course h.1 x)
says_on s by book other _ _ _ _ _ h (watches q from n marks stopped m held) =
    subst (λ t. Says s by other (q ∷ []) (n ∷ marks) [] (t ++ last_chunk stopped) (watched stopped))
    (sym (watch_same book other q.target from n marks h.0 h.1))
    (watches q from n marks stopped m (subst (λ (b : List Entry). HoldsAll (graph_of (of_path b q.target)) from) h.0 held))

-- a book and a longer one
pub longer_fronts : (book later : List Entry) (marks : List ℕ) → AllByRecursion (λ n. n ≤ length book) marks → SameFronts book (book ++ later) marks
longer_fronts book later [] h = tt
longer_fronts book later (n ∷ marks) h = (sym (take-append-le n book later h.0), longer_fronts book later marks h.1)

pub shorter_fronts : (book later : List Entry) (marks : List ℕ) → AllByRecursion (λ n. n ≤ length book) marks → SameFronts (book ++ later) book marks
shorter_fronts book later [] h = tt
shorter_fronts book later (n ∷ marks) h = (take-append-le n book later h.0, shorter_fronts book later marks h.1)

pub stays : StaysAsItGrows
stays s by book later qs marks entries text course h x = says_on s by book (book ++ later) qs marks entries text course (longer_fronts book later marks h) x

answered_on : (s : Serving) (by : ℕ) (book other : List Entry) (r : List ℕ) (qs : List Request) (rest marks : List ℕ) (entries : List Placed) (text : List ℕ) (course : Course)
    → SameFronts book other marks → Answered s by book r qs rest marks entries text course → Answered s by other r qs rest marks entries text course
answered_on s by book other r qs rest marks entries text course h a = record { cut = a.cut; says = says_on s by book other qs marks entries text course h a.says }

text_on : (s : Serving) (by : ℕ) (book other : List Entry) (r marks text : List ℕ) (course : Course) → SameFronts book other marks → SessionText s by book r marks text course → SessionText s by other r marks text course
text_on s by book other r marks _ _ h (whole text w) = whole text (record {
  requests = w.requests;
  rest = w.rest;
  entries = w.entries;
  front = w.front;
  tail = w.tail;
  answered = answered_on s by book other r w.requests w.rest marks w.entries w.front goes_on h w.answered;
  tail_is = w.tail_is;
  spells = w.spells;
})
text_on s by book other r marks _ _ h (unmarked text w) = unmarked text (record {
  requests = w.requests;
  rest = w.rest;
  entries = w.entries;
  answered = answered_on s by book other r w.requests w.rest marks w.entries text goes_on h w.answered;
  not_over = w.not_over;
  next = w.next;
})
text_on s by book other r marks _ _ h (watching text stopped w) = watching text stopped (record {
  requests = w.requests;
  rest = w.rest;
  entries = w.entries;
  answered = answered_on s by book other r w.requests w.rest marks w.entries text (watched stopped) h w.answered;
})

pub text_stays : TextStays
text_stays s by book later r marks text course h =
    (text_on s by book (book ++ later) r marks text course (longer_fronts book later marks h), text_on s by (book ++ later) book r marks text course (shorter_fronts book later marks h))

pub slice_get_front : (book later : List Entry) (i : ℕ) (x : Entry) → slice_get book i ≡ Some x → slice_get (book ++ later) i ≡ Some x
slice_get_front book later i x h =
    let l = slice_get_within book i x h in
    let n = length-append book later in
    slice_get-get_or (book ++ later) i x (omega (arith, l, n)) ∙ ap Some (get_or_append_left book later x i l ∙ get_or_from_slice_get book i x x h)

pub places_stay : PlacesStay
places_stay book later [] h = tt
places_stay book later (p ∷ es) h = (slice_get_front book later p.0 p.1 h.0, places_stay book later es h.1)

pub fronts_first : (book other : List Entry) (marks more : List ℕ) → SameFronts book other (marks ++ more) → SameFronts book other marks
fronts_first book other [] more h = tt
fronts_first book other (n ∷ marks) more h = (h.0, fronts_first book other marks more h.1)

fronts_then : (book other : List Entry) (marks more : List ℕ) → SameFronts book other (marks ++ more) → SameFronts book other more
fronts_then book other [] more h = h
fronts_then book other (n ∷ marks) more h = fronts_then book other marks more h.1

-- what was answered took its marks from the first of the session's
done_fronts : (end : SessionEnd) (s : Serving) (by : ℕ) (book other : List Entry) (look : ℕ) (d : Done) (marks : List ℕ) (entries : List Placed) (intake : Intake) (before after : Outflow)
    → SameFronts book other marks → Ends end s by book look d marks entries intake before after → SameFronts book other d.marks
done_fronts end s by book other look d marks entries intake before after h e = go end e
  where
    these : GainsThese d marks entries → SameFronts book other d.marks
    these g = subst (SameFronts book other) g.0 h

    go : (end : SessionEnd) → Ends end s by book look d marks entries intake before after → SameFronts book other d.marks
    go Closed e = these e.0
    go Stopped e = absurd e
    go Spent e = these e.0
    go (Refused status) e = these e.0
    go Torn e = these e.0
    go ReadFault e = these e.0
    go WriteFault (o, inl (ms, es, reply, i, k, l, b)) = fronts_first book other d.marks ms (subst (SameFronts book other) k h)
    go WriteFault (o, inr (g, f, t, b)) = these g
    go Worn e = these e.0
    go Memory (o, w, inl g) = these g
    go Memory (o, w, inr (n, es, i, k, l)) = fronts_first book other d.marks (n ∷ []) (subst (SameFronts book other) k h)

ends_on : (end : SessionEnd) (s : Serving) (by : ℕ) (book other : List Entry) (look : ℕ) (d : Done) (marks : List ℕ) (entries : List Placed) (intake : Intake) (before after : Outflow)
    → SameFronts book other marks → Ends end s by book look d marks entries intake before after → Ends end s by other look d marks entries intake before after
ends_on Closed s by book other look d marks entries intake before after h e = e
ends_on Stopped s by book other look d marks entries intake before after h e = e
ends_on Spent s by book other look d marks entries intake before after h e = e
ends_on (Refused status) s by book other look d marks entries intake before after h e = e
ends_on Torn s by book other look d marks entries intake before after h e = e
ends_on ReadFault s by book other look d marks entries intake before after h e = e
ends_on WriteFault s by book other look d marks entries intake before after h (o, inl (ms, es, reply, i, k, l, b)) = (
  o,
  inl (
    ms,
    es,
    reply,
    record {
      request = i.request;
      rest = i.rest;
      decided = i.decided;
      says = says_on s by book other (i.request ∷ []) ms es reply goes_on (fronts_then book other d.marks ms (subst (SameFronts book other) k h)) i.says;
    },
    k,
    l,
    b,
  ),
)
ends_on WriteFault s by book other look d marks entries intake before after h (o, inr c) = (o, inr c)
ends_on Worn s by book other look d marks entries intake before after h e = e
ends_on Memory s by book other look d marks entries intake before after h (o, w, inl g) = (o, w, inl g)
ends_on Memory s by book other look d marks entries intake before after h (o, w, inr (n, es, i, k, l)) = (
  o,
  w,
  inr (
    n,
    es,
    record {
      next = i.next;
      added = subst (λ (b : List Entry). MayAdd b by i.next.request.target i.next.wish es) (fronts_then book other d.marks (n ∷ []) (subst (SameFronts book other) k h)).0 i.added;
    },
    k,
    l,
  ),
)

-- a subscription is answered on the one as on the other
is_watch_on : (s : Serving) (by : ℕ) (book other : List Entry) (q : Request) (marks head text : List ℕ) (stopped : Bool) → SameFronts book other marks
    → IsWatch s by book q marks head text stopped → IsWatch s by other q marks head text stopped
is_watch_on s by book other q marks head text stopped h w = record {
  first = w.first;
  later = w.later;
  marks_are = w.marks_are;
  head_is = w.head_is ∙ ap (λ (b : List Entry). subscription_head b q.target) (subst (SameFronts book other) w.marks_are h).0;
  says = says_on s by book other (q ∷ []) marks [] (head ++ text) (watched stopped) h w.says;
}

watch_on : (end : SessionEnd) (s : Serving) (by : ℕ) (book other : List Entry) (look : ℕ) (q : Request) (marks : List ℕ) (heard : BellUse) (begun : Bool) (before after : Outflow)
    → SameFronts book other marks → EndsWatch end s by book look q marks heard begun before after → EndsWatch end s by other look q marks heard begun before after
watch_on Closed s by book other look q marks heard begun before after h e = e
watch_on Stopped s by book other look q marks heard begun before after h (head, text, w, o, c, n, b) =
    (head, text, is_watch_on s by book other q marks head text true h w, o, c, n, b)
watch_on Spent s by book other look q marks heard begun before after h e = e
watch_on (Refused status) s by book other look q marks heard begun before after h e = e
watch_on Torn s by book other look q marks heard begun before after h e = e
watch_on ReadFault s by book other look q marks heard begun before after h e = e
watch_on WriteFault s by book other look q marks heard begun before after h (head, text, w, n, e) =
    (head, text, is_watch_on s by book other q marks head text false h w, n, e)
watch_on Worn s by book other look q marks heard begun before after h (head, text, w, o, c, l, b) =
    (head, text, is_watch_on s by book other q marks head text false h w, o, c, l, b)
watch_on Memory s by book other look q marks heard begun before after h (ms, last, head, text, k, l, w, o, c, b) =
    (ms, last, head, text, k, l, is_watch_on s by book other q ms head text false (fronts_first book other ms last (subst (SameFronts book other) k h)) w, o, c, b)

-- how a session ends that ends in none, or in one
abbrev EndsSo : SessionEnd → Serving → ℕ → List Entry → ℕ → Done → List ℕ → List Placed → BellUse → Bool → Intake → Outflow → Outflow → Type 0
EndsSo end s by book look d marks entries heard begun intake before after =
    EndsUnwatched end s by book look d marks entries heard begun intake before after ⊎ EndsWatching end s by book look d marks entries heard begun before after

so_fronts : (end : SessionEnd) (s : Serving) (by : ℕ) (book other : List Entry) (look : ℕ) (d : Done) (marks : List ℕ) (entries : List Placed) (heard : BellUse) (begun : Bool) (intake : Intake) (before after : Outflow)
    → SameFronts book other marks → EndsSo end s by book look d marks entries heard begun intake before after → SameFronts book other d.marks
so_fronts end s by book other look d marks entries heard begun intake before after h (inl e) = done_fronts end s by book other look d marks entries intake before after h e.ends
so_fronts end s by book other look d marks entries heard begun intake before after h (inr e) = fronts_first book other d.marks e.taken (subst (SameFronts book other) e.marks_are h)

so_on : (end : SessionEnd) (s : Serving) (by : ℕ) (book other : List Entry) (look : ℕ) (d : Done) (marks : List ℕ) (entries : List Placed) (heard : BellUse) (begun : Bool) (intake : Intake) (before after : Outflow)
    → SameFronts book other marks → EndsSo end s by book look d marks entries heard begun intake before after → EndsSo end s by other look d marks entries heard begun intake before after
so_on end s by book other look d marks entries heard begun intake before after h (inl e) = inl (record {
  not_heard = e.not_heard;
  not_begun = e.not_begun;
  ends = ends_on end s by book other look d marks entries intake before after h e.ends;
})
so_on end s by book other look d marks entries heard begun intake before after h (inr e) = inr (record {
  follows = e.follows;
  request = e.request;
  rest = e.rest;
  decided = e.decided;
  taken = e.taken;
  marks_are = e.marks_are;
  entries_are = e.entries_are;
  middle = e.middle;
  wrote = e.wrote;
  ends = watch_on end s by book other look e.request e.taken heard begun e.middle after (fronts_then book other d.marks e.taken (subst (SameFronts book other) e.marks_are h)) e.ends;
})

pub fits_longer : FitsLonger
fits_longer s note by book later look entries heard from to before after h x = record {
  r = x.r;
  done = x.done;
  begun = x.begun;
  taken = x.taken;
  left = x.left;
  faults = x.faults;
  answered = answered_on s by book (book ++ later) x.r x.done.requests x.done.rest x.done.marks x.done.entries x.done.text goes_on
      (so_fronts note.end s by book (book ++ later) look x.done note.marks.items entries heard x.begun to before after fronts x.ends) x.answered;
  count = x.count;
  placed = places_stay book later entries x.placed;
  ends = so_on note.end s by book (book ++ later) look x.done note.marks.items entries heard x.begun to before after fronts x.ends;
}
  where
    fronts : SameFronts book (book ++ later) note.marks.items
    fronts = longer_fronts book later note.marks.items h
