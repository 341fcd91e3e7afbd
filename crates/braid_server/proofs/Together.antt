-- What workers left that ran beside one another, once their passes were joined and the hall was closed.
use Rattle.std.proofs.Common.{◌≡◌, ℕ, zero, suc, ◌+◌, ◌<◌, ◌≤◌, ◌==◌, false, List, [], ◌∷◌, ◌++◌, refl, ap, sym, ◌∙◌, subst, length, arith, length-append}
use Rattle.std.specs.Prelude.{All, Contains}
use Rattle.std.specs.List.{AllByRecursion, AllZip}
use Rattle.std.proofs.lemmas.List.{length-map}
use Rattle.std.proofs.lemmas.List.Elements.{length_all_zip}
use Rattle.atomic_table.specs.Seated.{TableId}
use Rattle.braid_io.specs.Bells.{Ringing}
use Rattle.braid_io.specs.Doors.{Doorway}
use Rattle.braid_hall.specs.Histories.{IsPrefix, added_by}
use Rattle.braid_hall.specs.Views.{total}
use Rattle.braid_hall.specs.Passes.{PassView, AccountsFor, first_pass, new_pass}
use Rattle.braid_hall.specs.Many.{AreAway, KeepsPass, JoinsAll, SplitsAll, IsClosed}
use Rattle.braid_hall.proofs.ManyPasses.{away_rests, away_runs}
use Rattle.braid_store.specs.declared.entry.Entry.{Entry}
use Rattle.braid_session.specs.declared.session.SessionNote.{SessionNote}
use Rattle.braid_session.specs.declared.worker.WorkerNote.{WorkerNote}
use Rattle.braid_session.specs.Sessions.{Placed, entries_of}
use Rattle.braid_session.specs.Ends.{AreFound, none_found, passed_by, added_to}
use Rattle.braid_session.specs.Orders.{serving_now}
use Rattle.braid_session.specs.Doors.{Session, FitsVisit, marks_of, added_of}
use Rattle.braid_session.proofs.Lasting.{fits_later}
use Rattle.braid_server.specs.declared.worker.Worker.{Worker}
use Rattle.braid_server.specs.Workers.{IsReady, RanDoor, pairs_of, passes_of, worker_notes, turns_of, WorksOn, WorkOn, HaveWorked}
use Rattle.braid_server.proofs.Closing.{by_of, AreNew, accounts_for, none_seen, none_open, new_passes, none_above, none_first, looked}
use Rattle.braid_server.proofs.Lists.{all_each, all_mapped, each_mapped, zip_mapped, total_mapped, total_lengths, none_passes, all_two}

raise : (low high top : ℕ) (marks : List ℕ) (entries : List Placed) → AreFound low marks entries high → high ≤ top → AreFound low marks entries top
raise low high top _ _ (none_found _ _ l) h = none_found low top (omega (arith, l, h))
raise low high top _ es (passed_by _ n _ marks _ l x) h = passed_by low n top marks es l (raise n high top marks es x h)
raise low high top _ _ (added_to _ n _ e marks entries l x) h = added_to low n top e marks entries l (raise (n + 1) high top marks entries x h)

prefix_long : (xs ys : List Entry) → IsPrefix xs ys → length xs ≤ length ys
prefix_long xs ys p = let e = ap length p.1 in let l = length-append xs p.0 in omega (arith, e, l)

module _ {D L : Type 0} (doorway : D → Doorway) (ringing : L → Ringing) where
  keeps_pass : (v w : Worker D L) → RanDoor doorway ringing v w → KeepsPass v.pass w.pass
  keeps_pass v w d = record { hall = d.passed.hall; number = d.passed.number; away = d.passed.away; idle = d.passed.idle }

  -- the passes that are away belong to workers that may run
  pub ready_of : (hall : TableId) (root : PassView Entry) (ws : List (Worker D L)) → AreAway hall root (passes_of ws) → All (λ w. IsReady hall w) ws
  ready_of hall root ws a = all_mapped (λ (q : PassView Entry). (q.hall ≡ hall) × (q.held ≡ false)) (λ (w : Worker D L). w.pass) ws (away_rests hall root (passes_of ws) a)

  -- they are away still after the workers ran
  pub away_of : (hall : TableId) (root : PassView Entry) (vs ws : List (Worker D L)) → AreAway hall root (passes_of vs) → AllZip (RanDoor doorway ringing) vs ws
      → AreAway hall root (passes_of ws)
  away_of hall root vs ws a ran =
      away_runs hall root (passes_of vs) (passes_of ws) a (zip_mapped (RanDoor doorway ringing) KeepsPass (λ (w : Worker D L). w.pass) vs ws keeps_pass ran)

-- what the last pass knows of a pass that it joined
pub record IsJoined (last q : PassView Entry) : Type 0 where
  pub begins : IsPrefix q.seen last.seen
  pub looks : q.look ≤ last.look
  pub ended : Contains last.ended (q.number, q.mine)

module _ {D L : Type 0} (doorway : D → Doorway) (ringing : L → Ringing) (p last : PassView Entry) (top : ℕ) (high : last.look ≤ top) where
  -- one worker
  works_on : p.seen ≡ [] → last.opening ≡ [] → AccountsFor by_of last last.seen → (n : ℕ) (v w : Worker D L) → RanDoor doorway ringing v w
      → v.pass ≡ record (new_pass p) { number = n + 1 } → IsJoined last w.pass
      → WorksOn last.seen top (n + 1) w.note (doorway v.door) (doorway w.door) (ringing v.bell) (ringing w.bell)
  works_on none opening accounts n v w d new joined = record {
    sessions = d.sessions;
    pass = d.pass ∙ number;
    noted = d.noted;
    fit = all_two (FitsVisit serving_now w.pass.number w.pass.seen w.pass.look) (FitsVisit serving_now w.pass.number w.pass.seen w.pass.look)
        (FitsVisit serving_now (n + 1) last.seen top) d.sessions
        (λ x f g. subst (λ (k : ℕ). FitsVisit serving_now k last.seen top x) same
        (fits_later serving_now w.pass.number w.pass.seen last.seen w.pass.look top x f joined.begins (λ e. let l = joined.looks in omega (arith, l, high)))) d.fit d.fit;
    own = sym (ap (λ (o : List Entry). added_by by_of o (n + 1) last.seen) opening)
        ∙ sym (accounts.only (n + 1) w.pass.mine (subst (λ (m : ℕ). Contains last.ended (m, w.pass.mine)) same joined.ended))
        ∙ (d.passed.mine ∙ ap (λ (z : PassView Entry). z.mine ++ entries_of (added_of d.sessions)) new);
    found = raise 0 (length w.pass.seen) (length last.seen) (marks_of d.sessions) (added_of d.sessions)
        (subst (λ (k : ℕ). AreFound k (marks_of d.sessions) (added_of d.sessions) (length w.pass.seen)) (ap (λ (z : PassView Entry). length z.seen) new ∙ ap length none) d.passed.between)
        (prefix_long w.pass.seen last.seen joined.begins);
    rings = d.rings;
    in_turn = d.in_turn;
    door = d.door;
    faults = d.faults;
    ends = d.ends;
  }
    where
      number : v.pass.number ≡ n + 1
      number = ap (λ (z : PassView Entry). z.number) new

      same : w.pass.number ≡ n + 1
      same = d.passed.number ∙ number

  work_on : p.seen ≡ [] → last.opening ≡ [] → AccountsFor by_of last last.seen → (n : ℕ) (vs ws : List (Worker D L)) → AllZip (RanDoor doorway ringing) vs ws
      → AreNew p n (passes_of vs) → AllByRecursion (λ (w : Worker D L). IsJoined last w.pass) ws
      → WorkOn doorway ringing last.seen top n (pairs_of vs) (pairs_of ws) (worker_notes ws)
  unfolding AreNew
  work_on none opening accounts n [] [] ran new joined = tt
  work_on none opening accounts n [] (w ∷ ws) ran new joined = absurd ran
  work_on none opening accounts n (v ∷ vs) [] ran new joined = absurd ran
  work_on none opening accounts n (v ∷ vs) (w ∷ ws) ran new joined =
      (works_on none opening accounts n v w ran.0 new.0 joined.0, work_on none opening accounts (n + 1) vs ws ran.1 new.1 joined.1)

module _ {D L : Type 0} (doorway : D → Doorway) (ringing : L → Ringing) (p : PassView Entry) where
  -- the turns of the passes are the marks of the notes
  turns_are : (n : ℕ) (vs ws : List (Worker D L)) → AllZip (RanDoor doorway ringing) vs ws → AreNew p n (passes_of vs)
      → total (λ (q : PassView Entry). q.turns) (passes_of ws) ≡ turns_of (worker_notes ws)
  unfolding AreNew
  turns_are n [] [] ran new = refl
  turns_are n [] (w ∷ ws) ran new = absurd ran
  turns_are n (v ∷ vs) [] ran new = absurd ran
  turns_are n (v ∷ vs) (w ∷ ws) ran new =
      let d = ran.0 in
      let zero : v.pass.turns ≡ 0 = ap (λ (z : PassView Entry). z.turns) new.0 in
      let turns = d.passed.turns in
      let marks : length (marks_of d.sessions) ≡ total (λ (x : Session). length x.note.marks.items) d.sessions = total_lengths (λ (x : Session). x.note.marks.items) d.sessions in
      let notes : total (λ (m : SessionNote). length m.marks.items) w.note.sessions ≡ total (λ (x : Session). length x.note.marks.items) d.sessions =
      ap (total (λ (m : SessionNote). length m.marks.items)) d.noted ∙ total_mapped (λ (m : SessionNote). length m.marks.items) (λ (x : Session). x.note) d.sessions in
      let rest = turns_are (n + 1) vs ws ran.1 new.1 in
      omega (arith, zero, turns, marks, notes, rest)

-- the numbers of the entries
numbered : (top : ℕ) (history : List Entry) → AllByRecursion (λ (e : Entry). e.by ≤ top) history → AllByRecursion (λ (e : Entry). (e.by == 0) ≡ false) history
    → AllByRecursion (λ (e : Entry). (0 < e.by) × (e.by ≤ top)) history
numbered top history h k = all_two (λ (e : Entry). e.by ≤ top) (λ (e : Entry). (e.by == 0) ≡ false) (λ (e : Entry). (0 < e.by) × (e.by ≤ top)) history (λ e a b. (above e.by b, a)) h k
  where
    above : (n : ℕ) → (n == 0) ≡ false → 0 < n
    above zero e = absurd (cc e)
    above (suc n) e = omega arith

-- Workers ran on the passes that a new hall's first pass split off, and the hall was closed.
pub have_worked : {D L : Type 0} (doorway : D → Doorway) (ringing : L → Ringing) (hall : TableId) (p root : PassView Entry) (vs ws : List (Worker D L)) (passes : List (PassView Entry)) (count : ℕ)
    (given : List (D × L)) (history : List Entry) → p ≡ first_pass hall 0 [] → SplitsAll hall p count root passes → passes_of vs ≡ passes → pairs_of vs ≡ given
    → AllZip (RanDoor doorway ringing) vs ws → IsClosed by_of root (passes_of ws) history
    → HaveWorked doorway ringing given (pairs_of ws) (worker_notes ws) history
have_worked doorway ringing hall p root vs ws passes count given history first split same pairs ran closed = record {
  each = subst (λ (h : List Entry). WorkOn doorway ringing h (turns_of (worker_notes ws)) 0 given (pairs_of ws) (worker_notes ws)) (sym closed.seen)
      (subst (λ z. WorkOn doorway ringing last.seen (turns_of (worker_notes ws)) 0 z (pairs_of ws) (worker_notes ws)) pairs
      (work_on doorway ringing p last (turns_of (worker_notes ws)) high (none_seen hall p root passes backs count history first split closed)
      (none_open hall p root passes backs count history first split closed) (accounts_for hall p root passes backs count history first split closed) 0 vs ws ran new joined));
  numbers = subst (λ (h : List Entry). AllByRecursion (λ (e : Entry). (0 < e.by) × (e.by ≤ length (worker_notes ws))) h) (sym closed.seen)
      (numbered (length (worker_notes ws)) last.seen below
      (none_passes (λ (e : Entry). e.by == 0) last.seen (none_first hall p root passes backs count history first split closed)));
}
  where
    last : PassView Entry
    last = closed.last

    backs : List (PassView Entry)
    backs = passes_of ws

    joins : JoinsAll root (passes_of ws) last
    joins = closed.joins_all

    new : AreNew p 0 (passes_of vs)
    new = subst (AreNew p 0) (sym same) (new_passes hall p root passes backs count history first split closed)

    joined : AllByRecursion (λ (w : Worker _ _). IsJoined last w.pass) ws
    joined = each_mapped (IsJoined last) (λ (w : Worker _ _). w.pass) ws
        (all_two (λ (q : PassView Entry). IsPrefix q.seen last.seen) (λ (q : PassView Entry). (q.look ≤ last.look) × Contains last.ended (q.number, q.mine)) (IsJoined last) (passes_of ws)
        (λ q a b. record { begins = a; looks = b.0; ended = b.1 })
        (all_each (λ (q : PassView Entry). IsPrefix q.seen last.seen) (passes_of ws) joins.each)
        (all_two (λ (q : PassView Entry). q.look ≤ last.look) (λ (q : PassView Entry). Contains last.ended (q.number, q.mine)) (λ (q : PassView Entry). (q.look ≤ last.look) × Contains last.ended (q.number, q.mine)) (passes_of ws)
        (λ q a b. (a, b))
        (all_each (λ (q : PassView Entry). q.look ≤ last.look) (passes_of ws) joins.looks)
        (all_each (λ (q : PassView Entry). Contains last.ended (q.number, q.mine)) (passes_of ws) joins.ended)))

    many : length passes ≡ length (worker_notes ws)
    many =
        ap length (sym same) ∙ length-map vs (λ (w : Worker _ _). w.pass)
        ∙ length_all_zip (RanDoor doorway ringing) vs ws ran ∙ sym (length-map ws (λ (w : Worker _ _). w.note))

    below : AllByRecursion (λ (e : Entry). e.by ≤ length (worker_notes ws)) last.seen
    below = subst (λ (m : ℕ). AllByRecursion (λ (e : Entry). e.by ≤ m) last.seen) many (none_above hall p root passes backs count history first split closed)

    high : last.look ≤ turns_of (worker_notes ws)
    high =
        let l = looked hall p root passes backs count history first split closed in
        let n = turns_are doorway ringing p 0 vs ws ran new in
        omega (arith, l, n)

-- the same of lists that are what the workers left
pub work_left : {D L : Type 0} (doorway : D → Doorway) (ringing : L → Ringing) (hall : TableId) (p root : PassView Entry) (vs ws : List (Worker D L)) (passes : List (PassView Entry)) (count : ℕ)
    (given after : List (D × L)) (backs : List (PassView Entry)) (notes : List WorkerNote) (history : List Entry) → p ≡ first_pass hall 0 [] → SplitsAll hall p count root passes
    → passes_of vs ≡ passes → pairs_of vs ≡ given → AllZip (RanDoor doorway ringing) vs ws → after ≡ pairs_of ws → backs ≡ passes_of ws → notes ≡ worker_notes ws
    → IsClosed by_of root backs history → HaveWorked doorway ringing given after notes history
work_left doorway ringing hall p root vs ws passes count given after backs notes history first split same pairs ran doors_are passes_are notes_are closed =
    subst (λ (d : List _). HaveWorked doorway ringing given d notes history) (sym doors_are)
    (subst (λ (n : List WorkerNote). HaveWorked doorway ringing given (pairs_of ws) n history) (sym notes_are)
    (have_worked doorway ringing hall p root vs ws passes count given history first split same pairs ran (subst (λ (b : List (PassView Entry)). IsClosed by_of root b history) passes_are closed)))
