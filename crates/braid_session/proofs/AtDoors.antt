-- Sessions of a door, one after another.
use Rattle.std.proofs.Common.{◌≡◌, ℕ, ◌≤◌, ◌+◌, false, List, [], ◌∷◌, ◌++◌, Option, None, Some, refl, ap, sym, ◌∙◌, subst, length, arith, append_assoc, append-nil, length-append}
use Rattle.std.specs.Prelude.{flat_map}
use Rattle.std.specs.List.{AllByRecursion}
use Rattle.std.proofs.lemmas.List.{map-append}
use Rattle.braid_io.specs.Outside.{Intake, Outflow, Rose, IsNewLink, joint_count}
use Rattle.braid_io.specs.Bells.{Ringing}
use Rattle.braid_io.specs.Doors.{Visit, Doorway, Admits, PutsBack}
use Rattle.braid_hall.specs.Passes.{PassView}
use Rattle.braid_store.specs.declared.entry.Entry.{Entry}
use Rattle.braid_session.specs.declared.serving.Serving.{Serving}
use Rattle.braid_session.specs.declared.session.SessionEnd.TheVariants as ends
use Rattle.braid_session.specs.declared.session.SessionNote.{SessionNote}
use Rattle.braid_session.specs.declared.worker.WorkerEnd.{WorkerEnd}
use Rattle.braid_session.specs.declared.worker.WorkerEnd.TheVariants.{DoorEnd, DoorFault, Worn, Memory}
use Rattle.braid_session.specs.Sessions.{Placed}
use Rattle.braid_session.specs.Ends.{Passed}
use Rattle.braid_session.specs.Watches.{BellUse, IsHeard, more_by}
use Rattle.braid_session.specs.Fits.{Serves}
use Rattle.braid_session.specs.Doors.{Session, FitsVisit, notes_of, marks_of, added_of, agains_of, HeardInTurn, visits_of, with_visits, read_faults_with, write_faults_with, Visited, DoorFaultsOnlyAt, EndsWorker}
use Rattle.braid_session.specs.DoorSteps.{ServesLink, IsUnserved, Accepted, HasServed, HasEnded}
use Rattle.braid_session.proofs.Passing.{passed_none, passed_both, more_both, more_none, one_left, heard_none, heard_both, within}
use Rattle.braid_session.proofs.Lasting.{fits_later, all_both, all_two}

-- the session of a link that was put back so
abbrev pub session_of : (note : SessionNote) → List Placed → BellUse → Intake → Outflow → Session
session_of note entries heard intake outflow = record { note = note; entries = entries; heard = heard; visit = record { intake = intake; outflow = outflow } }

fits_of : (s : Serving) (note : SessionNote) (p q : PassView Entry) (from to : Intake) (before after : Outflow) (bell rung : Ringing)
    → (x : Serves s note p q from to before after bell rung) → IsNewLink from before → FitsVisit s q.number q.seen q.look (session_of note x.entries x.heard to after)
fits_of s note p q from to before after bell rung x fresh = record {
  from = from;
  before = before;
  fresh = fresh;
  fits = x.fits;
  within = within (length p.seen) (length q.seen) note.marks.items x.entries x.passed.between;
}

-- one link came and was put back
visited_one : (old middle new : Doorway) (from to : Intake) (before after : Outflow) → Admits from before old middle → PutsBack to after middle new
    → Visited ((record { intake = to; outflow = after }) ∷ []) old new
visited_one old middle new from to before after a b = record {
  served = b.served ∙ ap (λ (d : Doorway). with_visits d.served ((record { intake = to; outflow = after }) ∷ [])) a.moved;
  left = one_left old.left a.some ∙ ap (more_by 1) (sym (b.left ∙ ap (λ (d : Doorway). d.left) a.moved));
  up = b.up old.up (ap (λ (d : Doorway). d.up) a.moved);
  link_read_faults = b.link_read_faults ∙ ap (λ (d : Doorway). joint_count d.link_read_faults to.faults) a.moved;
  link_write_faults = b.link_write_faults ∙ ap (λ (d : Doorway). joint_count d.link_write_faults after.faults) a.moved;
}

pub link_served : (s : Serving) (note : SessionNote) (p q : PassView Entry) (from to : Intake) (before after : Outflow) (bell rung : Ringing)
    (notes more : List SessionNote) (old middle new : Doorway) → Admits from before old middle → (x : Serves s note p q from to before after bell rung)
    → PutsBack to after middle new → more ≡ notes ++ note ∷ []
    → ServesLink s (session_of note x.entries x.heard to after) p q notes more old new bell rung
link_served s note p q from to before after bell rung notes more old middle new a x b noted = record {
  fits = fits_of s note p q from to before after bell rung x a.fresh;
  noted = noted;
  passed = x.passed;
  rings = x.rings;
  left = x.left;
  door = visited_one old middle new from to before after a b;
  faults = b.faults ∙ ap (λ (d : Doorway). d.faults) a.moved;
}

-- one link came, and its session was the last; or another may follow
pub accepted_last : (s : Serving) (note : SessionNote) (p q : PassView Entry) (from to : Intake) (before after : Outflow) (bell rung : Ringing)
    (notes more : List SessionNote) (old middle new : Doorway) → Admits from before old middle → Serves s note p q from to before after bell rung
    → PutsBack to after middle new → more ≡ notes ++ note ∷ [] → note.end ≡ ends.Worn → Accepted s (Some Worn) p q notes more old new bell rung
accepted_last s note p q from to before after bell rung notes more old middle new a x b noted is =
    (session_of note x.entries x.heard to after, link_served s note p q from to before after bell rung notes more old middle new a x b noted, is)

pub accepted_one : (s : Serving) (note : SessionNote) (p q : PassView Entry) (from to : Intake) (before after : Outflow) (bell rung : Ringing)
    (notes more : List SessionNote) (old middle new : Doorway) → Admits from before old middle → Serves s note p q from to before after bell rung
    → PutsBack to after middle new → more ≡ notes ++ note ∷ [] → (note.end ≡ ends.Worn → ⊥) → Accepted s None p q notes more old new bell rung
accepted_one s note p q from to before after bell rung notes more old middle new a x b noted not =
    (session_of note x.entries x.heard to after, link_served s note p q from to before after bell rung notes more old middle new a x b noted, not)

all_visits : (o : Option (List Visit)) (vs ws : List Visit) → with_visits (with_visits o vs) ws ≡ with_visits o (vs ++ ws)
all_visits None vs ws = refl
all_visits (Some us) vs ws = ap Some (append_assoc us vs ws)

no_visits : (o : Option (List Visit)) → o ≡ with_visits o []
no_visits None = refl
no_visits (Some us) = ap Some (sym (append-nil us))

read_both : (n : ℕ) (vs ws : List Visit) → read_faults_with (read_faults_with n vs) ws ≡ read_faults_with n (vs ++ ws)
read_both n [] ws = refl
read_both n (v ∷ vs) ws = read_both (joint_count n v.intake.faults) vs ws

write_both : (n : ℕ) (vs ws : List Visit) → write_faults_with (write_faults_with n vs) ws ≡ write_faults_with n (vs ++ ws)
write_both n [] ws = refl
write_both n (v ∷ vs) ws = write_both (joint_count n v.outflow.faults) vs ws

visited_none : (d : Doorway) → Visited [] d d
visited_none d = record { served = no_visits d.served; left = more_none d.left; up = refl; link_read_faults = refl; link_write_faults = refl }

visited_both : (a b c : Doorway) (vs ws : List Visit) → Visited vs a b → Visited ws b c → Visited (vs ++ ws) a c
visited_both a b c vs ws x y = record {
  served = y.served ∙ ap (λ z. with_visits z ws) x.served ∙ all_visits a.served vs ws;
  left = x.left ∙ ap (more_by (length vs)) y.left ∙ more_both (length vs) (length ws) c.left ∙ ap (λ k. more_by k c.left) (sym (length-append vs ws));
  up = y.up ∙ x.up;
  link_read_faults = y.link_read_faults ∙ ap (λ n. read_faults_with n ws) x.link_read_faults ∙ read_both a.link_read_faults vs ws;
  link_write_faults = y.link_write_faults ∙ ap (λ n. write_faults_with n ws) x.link_write_faults ∙ write_both a.link_write_faults vs ws;
}

flat_last : {A : Type 0} (f : Session → List A) (xs : List Session) (x : Session) → flat_map f xs ++ f x ≡ flat_map f (xs ++ x ∷ [])
flat_last f [] x = sym (append-nil (f x))
flat_last f (y ∷ ys) x = append_assoc (f y) (flat_map f ys) (f x) ∙ ap (λ z. f y ++ z) (flat_last f ys x)

agains_last : (xs : List Session) (x : Session) → agains_of (xs ++ x ∷ []) ≡ agains_of xs + x.heard.agains
agains_last [] x = go x.heard.agains
  where
    go : (n : ℕ) → n + 0 ≡ 0 + n
    go n = omega arith
agains_last (y ∷ ys) x = ap (λ (n : ℕ). y.heard.agains + n) (agains_last ys x) ∙ go y.heard.agains (agains_of ys) x.heard.agains
  where
    go : (i j k : ℕ) → i + (j + k) ≡ (i + j) + k
    go i j k = omega arith

-- one session more uses the bell behind the others
turn_last : (told left : Option ℕ) (xs : List Session) (x : Session) → HeardInTurn told xs left → left ≡ more_by x.heard.agains x.heard.left
    → HeardInTurn told (xs ++ x ∷ []) x.heard.left
turn_last told left [] x h l = (sym h ∙ l, refl)
turn_last told left (y ∷ ys) x h l = (h.0, turn_last y.heard.left left ys x h.1 l)

pub served_none : (s : Serving) (p : PassView Entry) (d : Doorway) (bell : Ringing) → p.held ≡ false → HasServed s [] p p d d bell bell
served_none s p d bell idle = record {
  sessions = [];
  noted = refl;
  fit = tt;
  passed = passed_none p idle;
  rings = heard_none bell;
  in_turn = refl;
  door = visited_none d;
  faults = refl;
  none_worn = tt;
}

module _ (s : Serving) (p q r : PassView Entry) (notes more : List SessionNote) (a b c : Doorway) (bell rung again : Ringing) where
  -- what sessions left, and one more: as long as each of those before had its turns
  fit_more : (h : HasServed s notes p q a b bell rung) (x : Session) → ServesLink s x q r notes more b c rung again → AllByRecursion (FitsVisit s r.number r.seen r.look) (h.sessions ++ x ∷ [])
  fit_more h x l = all_both (FitsVisit s r.number r.seen r.look) h.sessions (x ∷ [])
      (all_two (FitsVisit s q.number q.seen q.look) (λ (y : Session). y.note.end ≡ ends.Worn → ⊥) (FitsVisit s r.number r.seen r.look) h.sessions
      (λ y f n. subst (λ (k : ℕ). FitsVisit s k r.seen r.look y) (sym l.passed.number)
      (fits_later s q.number q.seen r.seen q.look r.look y f l.passed.begins (λ e. absurd (n e)))) h.fit h.none_worn)
      (l.fits, tt)

  passed_more : (h : HasServed s notes p q a b bell rung) (x : Session) → ServesLink s x q r notes more b c rung again
      → Passed p r (marks_of (h.sessions ++ x ∷ [])) (added_of (h.sessions ++ x ∷ []))
  passed_more h x l = subst (λ (z : List ℕ × List Placed). Passed p r z.0 z.1)
      (λ i. (flat_last (λ (y : Session). y.note.marks.items) h.sessions x i, flat_last (λ (y : Session). y.entries) h.sessions x i))
      (passed_both p q r (marks_of h.sessions) x.note.marks.items (added_of h.sessions) x.entries h.passed l.passed)

  rings_more : (h : HasServed s notes p q a b bell rung) (x : Session) → ServesLink s x q r notes more b c rung again
      → IsHeard (agains_of (h.sessions ++ x ∷ [])) (length (added_of (h.sessions ++ x ∷ []))) bell again
  rings_more h x l = subst (λ (k : ℕ). IsHeard k (length (added_of (h.sessions ++ x ∷ []))) bell again) (sym (agains_last h.sessions x))
      (subst (λ z. IsHeard (agains_of h.sessions + x.heard.agains) (length z) bell again) (flat_last (λ (y : Session). y.entries) h.sessions x)
      (heard_both (agains_of h.sessions) x.heard.agains (added_of h.sessions) x.entries bell rung again h.rings l.rings))

  turn_more : (h : HasServed s notes p q a b bell rung) (x : Session) → ServesLink s x q r notes more b c rung again
      → HeardInTurn bell.answers (h.sessions ++ x ∷ []) again.answers
  turn_more h x l = subst (λ (o : Option ℕ). HeardInTurn bell.answers (h.sessions ++ x ∷ []) o) l.left
      (turn_last bell.answers rung.answers h.sessions x h.in_turn (l.rings.answers ∙ ap (more_by x.heard.agains) (sym l.left)))

  door_more : (h : HasServed s notes p q a b bell rung) (x : Session) → ServesLink s x q r notes more b c rung again → Visited (visits_of (h.sessions ++ x ∷ [])) a c
  door_more h x l = subst (λ z. Visited z a c) (sym (map-append (λ (y : Session). y.visit) h.sessions (x ∷ [])))
      (visited_both a b c (visits_of h.sessions) (x.visit ∷ []) h.door l.door)

  noted_more : (h : HasServed s notes p q a b bell rung) (x : Session) → ServesLink s x q r notes more b c rung again → more ≡ notes_of (h.sessions ++ x ∷ [])
  noted_more h x l = l.noted ∙ ap (λ z. z ++ x.note ∷ []) h.noted ∙ sym (map-append (λ (y : Session). y.note) h.sessions (x ∷ []))

  pub served_more : HasServed s notes p q a b bell rung → Accepted s None q r notes more b c rung again → HasServed s more p r a c bell again
  served_more h (x, l, n) = record {
    sessions = h.sessions ++ x ∷ [];
    noted = noted_more h x l;
    fit = fit_more h x l;
    passed = passed_more h x l;
    rings = rings_more h x l;
    in_turn = turn_more h x l;
    door = door_more h x l;
    faults = l.faults ∙ h.faults;
    none_worn = all_both (λ (y : Session). y.note.end ≡ ends.Worn → ⊥) h.sessions (x ∷ []) h.none_worn (n, tt);
  }

  -- what sessions left, where nothing was served behind them
  ended_so : (end : WorkerEnd) (h : HasServed s notes p q a b bell rung) → IsUnserved q r notes more rung again → Visited (visits_of h.sessions) a c
      → DoorFaultsOnlyAt end a.faults c.faults → EndsWorker end h.sessions c → HasEnded s end more p r a c bell again
  ended_so end h u door faults ends = record {
    sessions = h.sessions;
    noted = u.noted ∙ h.noted;
    fit = subst (λ (z : PassView Entry). AllByRecursion (FitsVisit s z.number z.seen z.look) h.sessions) (sym u.pass) h.fit;
    passed = subst (λ (z : PassView Entry). Passed p z (marks_of h.sessions) (added_of h.sessions)) (sym u.pass) h.passed;
    rings = subst (λ (w : Ringing). IsHeard (agains_of h.sessions) (length (added_of h.sessions)) bell w) (sym u.rings) h.rings;
    in_turn = subst (λ (w : Ringing). HeardInTurn bell.answers h.sessions w.answers) (sym u.rings) h.in_turn;
    door = door;
    faults = faults;
    ends = ends;
  }

  same_door : (h : HasServed s notes p q a b bell rung) → c ≡ b → Visited (visits_of h.sessions) a c
  same_door h e = subst (λ (z : Doorway). Visited (visits_of h.sessions) a z) (sym e) h.door

  same_faults : (h : HasServed s notes p q a b bell rung) → c ≡ b → c.faults ≡ a.faults
  same_faults h e = ap (λ (z : Doorway). z.faults) e ∙ h.faults

  pub ended : (end : WorkerEnd) → HasServed s notes p q a b bell rung → Accepted s (Some end) q r notes more b c rung again → HasEnded s end more p r a c bell again
  ended DoorEnd h (u, e, none) = ended_so DoorEnd h u (same_door h e) ((λ z. same_faults h e), (λ z. absurd (cc z))) (h.none_worn, none)
  ended DoorFault h (u, e, risen, rose) = ended_so DoorFault h u
      (subst (λ (z : Doorway). Visited (visits_of h.sessions) a z) (sym e)
      (record { served = h.door.served; left = h.door.left; up = h.door.up; link_read_faults = h.door.link_read_faults; link_write_faults = h.door.link_write_faults }))
      ((λ z. absurd (z refl)), (λ z. (subst (λ n. n ≤ c.faults) h.faults risen, subst (λ n. Rose n c.faults) h.faults rose))) h.none_worn
  ended Worn h (x, l, is) = record {
    sessions = h.sessions ++ x ∷ [];
    noted = noted_more h x l;
    fit = fit_more h x l;
    passed = passed_more h x l;
    rings = rings_more h x l;
    in_turn = turn_more h x l;
    door = door_more h x l;
    faults = ((λ z. l.faults ∙ h.faults), (λ z. absurd (cc z)));
    ends = (h.sessions, x, refl, h.none_worn, is);
  }
  ended Memory h (u, e) = ended_so Memory h u (same_door h e) ((λ z. same_faults h e), (λ z. absurd (cc z))) h.none_worn
