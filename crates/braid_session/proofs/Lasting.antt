-- A session at a door that fits a book fits each longer one.
use Rattle.std.proofs.Common.{◌≡◌, ℕ, ◌≤◌, Bool, ◌⊎◌, inl, inr, List, [], ◌∷◌, ◌++◌, refl, sym, subst, length, arith, length-append}
use Rattle.std.specs.List.{AllByRecursion}
use Rattle.braid_io.specs.Outside.{Intake, Outflow}
use Rattle.braid_hall.specs.Histories.{IsPrefix}
use Rattle.braid_store.specs.declared.entry.Entry.{Entry}
use Rattle.braid_http.specs.declared.request.Request.{Request}
use Rattle.braid_session.specs.declared.serving.Serving.{Serving}
use Rattle.braid_session.specs.declared.session.SessionEnd.{SessionEnd}
use Rattle.braid_session.specs.declared.session.SessionEnd.TheVariants.{Closed, Stopped, Spent, Refused, Torn, ReadFault, WriteFault, Worn, Memory}
use Rattle.braid_session.specs.declared.session.SessionNote.{SessionNote}
use Rattle.braid_session.specs.Sessions.{Placed}
use Rattle.braid_session.specs.Ends.{Done, Ends}
use Rattle.braid_session.specs.Watches.{BellUse, EndsWatch, EndsWatching}
use Rattle.braid_session.specs.Fits.{EndsUnwatched, Fits}
use Rattle.braid_session.specs.Doors.{Session, FitsVisit}
use Rattle.braid_session.proofs.Growing.{fits_longer}

pub all_both : {X : Type 0} (P : X → Type 0) (xs ys : List X) → AllByRecursion P xs → AllByRecursion P ys → AllByRecursion P (xs ++ ys)
all_both P [] ys h k = k
all_both P (x ∷ xs) ys h k = (h.0, all_both P xs ys h.1 k)

pub all_two : {X : Type 0} (P Q R : X → Type 0) (xs : List X) → ((x : X) → P x → Q x → R x) → AllByRecursion P xs → AllByRecursion Q xs → AllByRecursion R xs
all_two P Q R [] f h k = tt
all_two P Q R (x ∷ xs) f h k = (f x h.0 k.0, all_two P Q R xs f h.1 k.1)

-- a later look is as good a cause
ends_look : (end : SessionEnd) (s : Serving) (by : ℕ) (book : List Entry) (look top : ℕ) (d : Done) (marks : List ℕ) (entries : List Placed) (intake : Intake) (before after : Outflow)
    → (end ≡ Worn → look ≤ top) → Ends end s by book look d marks entries intake before after → Ends end s by book top d marks entries intake before after
ends_look Closed s by book look top d marks entries intake before after h e = e
ends_look Stopped s by book look top d marks entries intake before after h e = e
ends_look Spent s by book look top d marks entries intake before after h e = e
ends_look (Refused status) s by book look top d marks entries intake before after h e = e
ends_look Torn s by book look top d marks entries intake before after h e = e
ends_look ReadFault s by book look top d marks entries intake before after h e = e
ends_look WriteFault s by book look top d marks entries intake before after h e = e
ends_look Worn s by book look top d marks entries intake before after h (g, w, o, n, k) = let l = h refl in (g, w, o, n, omega (arith, l, k))
ends_look Memory s by book look top d marks entries intake before after h e = e

watch_look : (end : SessionEnd) (s : Serving) (by : ℕ) (book : List Entry) (look top : ℕ) (q : Request) (marks : List ℕ) (heard : BellUse) (begun : Bool) (before after : Outflow)
    → (end ≡ Worn → look ≤ top) → EndsWatch end s by book look q marks heard begun before after → EndsWatch end s by book top q marks heard begun before after
watch_look Closed s by book look top q marks heard begun before after h e = e
watch_look Stopped s by book look top q marks heard begun before after h e = e
watch_look Spent s by book look top q marks heard begun before after h e = e
watch_look (Refused status) s by book look top q marks heard begun before after h e = e
watch_look Torn s by book look top q marks heard begun before after h e = e
watch_look ReadFault s by book look top q marks heard begun before after h e = e
watch_look WriteFault s by book look top q marks heard begun before after h e = e
watch_look Worn s by book look top q marks heard begun before after h (head, text, w, o, n, k, b) = let l = h refl in (head, text, w, o, n, omega (arith, l, k), b)
watch_look Memory s by book look top q marks heard begun before after h e = e

fits_look : (s : Serving) (note : SessionNote) (by : ℕ) (book : List Entry) (look top : ℕ) (entries : List Placed) (heard : BellUse) (from to : Intake) (before after : Outflow)
    → (note.end ≡ Worn → look ≤ top) → Fits s note by book look entries heard from to before after → Fits s note by book top entries heard from to before after
fits_look s note by book look top entries heard from to before after h x = record {
  r = x.r;
  done = x.done;
  begun = x.begun;
  taken = x.taken;
  left = x.left;
  faults = x.faults;
  answered = x.answered;
  count = x.count;
  placed = x.placed;
  ends = go x.ends;
}
  where
    go : EndsUnwatched note.end s by book look x.done note.marks.items entries heard x.begun to before after ⊎ EndsWatching note.end s by book look x.done note.marks.items entries heard x.begun before after
        → EndsUnwatched note.end s by book top x.done note.marks.items entries heard x.begun to before after ⊎ EndsWatching note.end s by book top x.done note.marks.items entries heard x.begun before after
    go (inl e) = inl (record {
      not_heard = e.not_heard;
      not_begun = e.not_begun;
      ends = ends_look note.end s by book look top x.done note.marks.items entries to before after h e.ends;
    })
    go (inr e) = inr (record {
      follows = e.follows;
      request = e.request;
      rest = e.rest;
      decided = e.decided;
      taken = e.taken;
      marks_are = e.marks_are;
      entries_are = e.entries_are;
      middle = e.middle;
      wrote = e.wrote;
      ends = watch_look note.end s by book look top e.request e.taken heard x.begun e.middle after h e.ends;
    })

lasting : (s : Serving) (by : ℕ) (book later : List Entry) (look top : ℕ) (x : Session) → FitsVisit s by book look x → (x.note.end ≡ Worn → look ≤ top)
    → FitsVisit s by (book ++ later) top x
lasting s by book later look top x f h = record {
  from = f.from;
  before = f.before;
  fresh = f.fresh;
  fits = fits_look s x.note by (book ++ later) look top x.entries x.heard f.from x.visit.intake f.before x.visit.outflow h
      (fits_longer s x.note by book later look x.entries x.heard f.from x.visit.intake f.before x.visit.outflow f.within f.fits);
  within = all_two (λ n. n ≤ length book) (λ n. n ≤ length book) (λ n. n ≤ length (book ++ later)) x.note.marks.items
      (λ n a b. let k = length-append book later in omega (arith, a, k)) f.within f.within;
}

-- on a book that begins with the first, and with a later look where the session was refused a turn
pub fits_later : (s : Serving) (by : ℕ) (book longer : List Entry) (look top : ℕ) (x : Session) → FitsVisit s by book look x → IsPrefix book longer
    → (x.note.end ≡ Worn → look ≤ top) → FitsVisit s by longer top x
fits_later s by book longer look top x f p h = subst (λ (b : List Entry). FitsVisit s by b top x) (sym p.1) (lasting s by book p.0 look top x f h)
