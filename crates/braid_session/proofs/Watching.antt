-- A subscription that goes on from turn to turn.
use Rattle.std.proofs.Common.{◌≡◌, ℕ, ◌+◌, ◌≤◌, suc, ◌⊎◌, inl, inr, Bool, true, false, List, [], ◌∷◌, ◌++◌, Some, None, refl, ap, sym, ◌∙◌, subst, length, take, drop, arith, append-nil, append_assoc, length-append}
use Rattle.std.specs.Io.KnownBytes.{append_known}
use Rattle.std.proofs.lemmas.List.{take-append-le}
use Rattle.std.proofs.Math.Seq.{take-append_seam, drop-append_seam}
use Rattle.std.specs.Prelude.{filter}
use Rattle.braid_io.specs.Outside.{Outflow, WritesAll, WritesPart, Rose, HasNone}
use Rattle.braid_io.specs.Bells.{Ringing, Waits}
use Rattle.braid_io.specs.declared.bell.Rang.TheVariants.{Again}
use Rattle.braid_io.proofs.Known.{append_known-append}
use Rattle.braid_change.specs.Updates.{UpdateView}
use Rattle.braid_graph.specs.Entries.{HoldsAll}
use Rattle.braid_text.specs.Histories.{graph_of, IsLegal}
use Rattle.braid_text.specs.Sent.{is_outside, sent}
use Rattle.braid_stream.specs.Chunked.{chunks}
use Rattle.braid_hall.specs.Histories.{IsPrefix}
use Rattle.braid_hall.specs.Passes.{PassView}
use Rattle.braid_store.specs.declared.entry.Entry.{Entry}
use Rattle.braid_store.specs.Books.{of_path, IsLegalBook}
use Rattle.braid_store.specs.Cursors.{CursorView, IsFit, left_past, sent_of}
use Rattle.braid_store.proofs.Paths.{of_path_append}
use Rattle.braid_store.proofs.Later.{left_longer, sent_of_longer}
use Rattle.braid_http.specs.declared.request.Request.{Request}
use Rattle.braid_session.specs.declared.serving.Serving.{Serving}
use Rattle.braid_session.specs.declared.session.SessionEnd.{SessionEnd}
use Rattle.braid_session.specs.declared.session.SessionEnd.TheVariants.{Closed, Stopped, Spent, Refused, Torn, ReadFault, WriteFault, Worn, Memory}
use Rattle.braid_session.specs.declared.watch.Opening.{Opening}
use Rattle.braid_session.specs.Sessions.{watched, Says, watches, chunks_or_beat, further, watch_text, last_chunk, subscription_head}
use Rattle.braid_session.specs.Ends.{Passed, BreaksOff}
use Rattle.braid_session.specs.Watches.{IsHeard, IsWatch, EndsWatch}
use Rattle.braid_session.specs.WatchSteps.{StandsBehind, Looked, Stayed, TookFurther, BegunBy, GoesOn, WentOn, text_behind, WatchesOn}
use Rattle.braid_session.specs.Pieces.{last_mark}
use Rattle.braid_session.specs.Steps.{EndsIn}
use Rattle.braid_session.proofs.Growing.{further_same, shorter_fronts}
use Rattle.braid_session.proofs.Passing.{passed_none, passed_both, within, heard_none, heard_again}
use Rattle.braid_session.proofs.Goings.{writes_both}

last_more : (n : ℕ) (ms : List ℕ) (m : ℕ) → last_mark n (ms ++ m ∷ []) ≡ m
last_more n [] m = refl
last_more n (k ∷ ks) m = last_more k ks m

-- what one mark more adds
further_more : (B : List Entry) (path : List ℕ) (from : List (List ℕ)) (n : ℕ) (ms : List ℕ) (m : ℕ)
    → further B path from (length (sent_of B path from n)) (ms ++ m ∷ [])
    ≡ further B path from (length (sent_of B path from n)) ms ++ chunks_or_beat (drop (length (sent_of B path from (last_mark n ms))) (sent_of B path from m))
further_more B path from n [] m = append-nil (chunks_or_beat (drop (length (sent_of B path from n)) (sent_of B path from m)))
further_more B path from n (k ∷ ks) m =
    let first : List ℕ = chunks_or_beat (drop (length (sent_of B path from n)) (sent_of B path from k)) in
    ap (λ (z : List ℕ). first ++ z) (further_more B path from k ks m)
    ∙ sym (append_assoc first (further B path from (length (sent_of B path from k)) ks)
    (chunks_or_beat (drop (length (sent_of B path from (last_mark k ks))) (sent_of B path from m))))

take_whole : {X : Type 0} (xs : List X) → take (length xs) xs ≡ xs
take_whole xs = ap (take (length xs)) (sym (append-nil xs)) ∙ take-append_seam xs []

drop_whole : {X : Type 0} (xs : List X) → drop (length xs) xs ≡ []
drop_whole xs = ap (drop (length xs)) (sym (append-nil xs)) ∙ drop-append_seam xs []

-- what was sent of the first entries is sent of them on the longer book too
sent_front : (B C : List Entry) (path : List ℕ) (from : List (List ℕ)) (n : ℕ) → n ≤ length B → sent_of (B ++ C) path from n ≡ sent_of B path from n
sent_front B C path from n l = ap (λ (b : List Entry). sent (of_path b path) from) (take-append-le n B C l)

-- all that came since is what a cursor has left that had passed the shorter book
came_since : (B C : List Entry) (path : List ℕ) (from : List (List ℕ)) → IsLegalBook (B ++ C) → HoldsAll (graph_of (of_path B path)) from
    → drop (length (sent_of (B ++ C) path from (length B))) (sent_of (B ++ C) path from (length (B ++ C))) ≡ left_past (of_path (B ++ C) path) from (length (of_path B path))
came_since B C path from legal held =
    ap (λ (b : List Entry). drop (length (sent (of_path b path) from)) (sent_of (B ++ C) path from (length (B ++ C)))) (take-append_seam B C)
    ∙ ap (λ (b : List Entry). drop (length H) (sent (of_path b path) from)) (take_whole (B ++ C))
    ∙ ap (drop (length H)) (sent_of_longer B C path from legal held)
    ∙ drop-append_seam H K
    ∙ sym rest
  where
    H : List UpdateView
    H = sent (of_path B path) from

    K : List UpdateView
    K = of_path C path

    whole : of_path (B ++ C) path ≡ of_path B path ++ K
    whole = of_path_append B C path

    none_left : left_past (of_path B path) from (length (of_path B path)) ≡ []
    none_left = ap (filter (is_outside (of_path B path) from)) (drop_whole (of_path B path))

    rest : left_past (of_path (B ++ C) path) from (length (of_path B path)) ≡ K
    rest =
        ap (λ (h : List UpdateView). left_past h from (length (of_path B path))) whole
        ∙ left_longer (of_path B path) K from (length (of_path B path)) (subst IsLegal whole (legal path)) held (omega arith)
        ∙ ap (λ (z : List UpdateView). z ++ K) none_left

-- a text that was written, and a part of what follows it
part_behind : (whole other : List ℕ) (before middle after : Outflow) → WritesAll whole before middle → WritesPart other middle after → WritesPart (whole ++ other) before after
part_behind whole other before middle after w p = record {
  front = whole ++ p.front;
  rest = p.rest;
  whole = ap (λ z. whole ++ z) p.whole ∙ sym (append_assoc whole p.front p.rest);
  unfinished = p.unfinished;
  written = p.written ∙ ap (λ z. append_known z p.front) w.written ∙ append_known-append before.written whole p.front;
  never_falls = subst (λ (k : ℕ). k ≤ after.faults) w.faults p.never_falls;
  rose = subst (λ (k : ℕ). Rose k after.faults) w.faults p.rose;
}

-- A subscription has come so far, and may go on: all that its turns say was written, and its cursor has passed the book that was
-- last found.
pub record Following (path : List ℕ) (from : List (List ℕ)) (us : List UpdateView) (p q : PassView Entry) (marks more : List ℕ) (bell rung : Ringing) (cursor : CursorView)
    (before after : Outflow) : Type 0 where
  pub later : List ℕ
  pub again : ℕ
  pub went : WentOn p q marks more later again bell rung
  pub count : length later ≡ again
  pub wrote : WritesAll (text_behind q.seen path from us later) before after
  pub last : last_mark (length p.seen) later ≡ length q.seen
  pub us_are : length us ≡ length (sent_of q.seen path from (length p.seen))
  pub path_is : cursor.path ≡ path
  pub from_is : cursor.from ≡ from
  pub passed : cursor.passed ≡ length (of_path q.seen path)
  pub fits : IsFit q.seen cursor

pub following_none : (path : List ℕ) (from : List (List ℕ)) (us : List UpdateView) (p : PassView Entry) (marks : List ℕ) (bell : Ringing) (cursor : CursorView) (before after : Outflow)
    → p.held ≡ false → StandsBehind p.seen path from us cursor → WritesAll (chunks us) before after → Following path from us p p marks marks bell bell cursor before after
following_none path from us p marks bell cursor before after idle stands w = record {
  later = [];
  again = 0;
  went = record { passed = passed_none p idle; noted = sym (append-nil marks); rings = heard_none bell };
  count = refl;
  wrote = subst (λ (t : List ℕ). WritesAll t before after) (sym (append-nil (chunks us))) w;
  last = refl;
  us_are = ap length stands.updates ∙ ap (λ (b : List Entry). length (sent (of_path b path) from)) (sym (take_whole p.seen));
  path_is = stands.path_is;
  from_is = stands.from_is;
  passed = stands.passed;
  fits = stands.fits;
}

-- one turn more: what it gave is what the text gains
record IsTaken (path : List ℕ) (from : List (List ℕ)) (us added : List UpdateView) (p r : PassView Entry) (marks more later : List ℕ) (bell rung : Ringing) (old : List ℕ) : Type 0 where
  went : WentOn p r marks more later (length later) bell rung
  text : text_behind r.seen path from us later ≡ old ++ chunks_or_beat added
  last : last_mark (length p.seen) later ≡ length r.seen
  us_are : length us ≡ length (sent_of r.seen path from (length p.seen))

module _ (path : List ℕ) (from : List (List ℕ)) (us : List UpdateView) (p q r : PassView Entry) (marks more most : List ℕ) (bell rung again : Ringing) (cursor new : CursorView)
    (before middle after : Outflow) where
  prefix_len : IsPrefix p.seen q.seen → length p.seen ≤ length q.seen
  prefix_len b = let e = ap length b.1 in let l = length-append p.seen b.0 in omega (arith, e, l)

  -- what the first turn was sent stays
  sent_still : IsPrefix q.seen r.seen → length p.seen ≤ length q.seen → length us ≡ length (sent_of q.seen path from (length p.seen)) → length us ≡ length (sent_of r.seen path from (length p.seen))
  sent_still b l e = e ∙ ap length (sym (sent_front q.seen b.0 path from (length p.seen) l) ∙ ap (λ (z : List Entry). sent_of z path from (length p.seen)) (sym b.1))

  -- and so does the text
  text_still : (f : Following path from us p q marks more bell rung cursor before middle) → IsPrefix q.seen r.seen → text_behind r.seen path from us f.later ≡ text_behind q.seen path from us f.later
  text_still f b =
      ap (λ (z : List Entry). text_behind z path from us f.later) b.1
      ∙ ap (λ (z : List ℕ). chunks us ++ z) (further_same (q.seen ++ b.0) q.seen path from (length us) f.later
      (shorter_fronts q.seen b.0 f.later (within (length p.seen) (length q.seen) f.later [] f.went.passed.between)))

  taken : (f : Following path from us p q marks more bell rung cursor before middle) (added : List UpdateView) → Waits Again rung again → (t : TookFurther added cursor new q r more most)
      → IsTaken path from us added p r marks most (f.later ++ length t.book ∷ []) bell again (text_behind q.seen path from us f.later)
  taken f added w t = record {
    went = record {
      passed = passed_both p q r f.later (length t.book ∷ []) [] [] f.went.passed t.looked.passed;
      noted = t.looked.noted ∙ ap (λ (z : List ℕ). z ++ length t.book ∷ []) f.went.noted ∙ append_assoc marks f.later (length t.book ∷ []);
      rings = subst (λ (k : ℕ). IsHeard k 0 bell again) (sym many) (heard_again f.again bell rung again f.went.rings w);
    };
    text =
        ap (λ (k : ℕ). chunks us ++ further r.seen path from k (f.later ++ length t.book ∷ [])) still
        ∙ ap (λ (z : List ℕ). chunks us ++ z) (further_more r.seen path from (length p.seen) f.later (length t.book))
        ∙ sym (append_assoc (chunks us) (further r.seen path from (length (sent_of r.seen path from (length p.seen))) f.later) (chunks_or_beat (came (last_mark (length p.seen) f.later) (length t.book))))
        ∙ ap (λ (k : ℕ). (chunks us ++ further r.seen path from k f.later) ++ chunks_or_beat (came (last_mark (length p.seen) f.later) (length t.book))) (sym still)
        ∙ ap (λ (z : List ℕ). z ++ chunks_or_beat (came (last_mark (length p.seen) f.later) (length t.book))) (text_still f t.looked.passed.begins)
        ∙ ap (λ (z : List UpdateView). text_behind q.seen path from us f.later ++ chunks_or_beat z) added_is;
    last = last_more (length p.seen) f.later (length t.book) ∙ ap length (sym t.looked.seen);
    us_are = still;
  }
    where
      came : ℕ → ℕ → List UpdateView
      came m n = drop (length (sent_of r.seen path from m)) (sent_of r.seen path from n)

      still : length us ≡ length (sent_of r.seen path from (length p.seen))
      still = sent_still t.looked.passed.begins (prefix_len f.went.passed.begins) f.us_are

      many : length (f.later ++ length t.book ∷ []) ≡ f.again + 1
      many = let l = length-append f.later (length t.book ∷ []) in let c = f.count in omega (arith, l, c)

      longer : r.seen ≡ q.seen ++ t.looked.passed.begins.0
      longer = t.looked.passed.begins.1

      legal : IsLegalBook (q.seen ++ t.looked.passed.begins.0)
      legal = subst IsLegalBook (sym t.looked.seen ∙ longer) t.looked.legal

      held : HoldsAll (graph_of (of_path q.seen path)) from
      held = subst (λ (x : List (List ℕ)). HoldsAll (graph_of (of_path q.seen path)) x) f.from_is (subst (λ (x : List ℕ). HoldsAll (graph_of (of_path q.seen x)) cursor.from) f.path_is f.fits.held)

      since : came (length q.seen) (length r.seen) ≡ left_past (of_path r.seen path) from (length (of_path q.seen path))
      since = subst (λ (b : List Entry). drop (length (sent_of b path from (length q.seen))) (sent_of b path from (length b)) ≡ left_past (of_path b path) from (length (of_path q.seen path)))
          (sym longer) (came_since q.seen t.looked.passed.begins.0 path from legal held)

      added_is : came (last_mark (length p.seen) f.later) (length t.book) ≡ added
      added_is =
          ap (λ (m : ℕ). came m (length t.book)) f.last
          ∙ ap (λ (b : List Entry). came (length q.seen) (length b)) (sym t.looked.seen)
          ∙ since
          ∙ ap (λ (b : List Entry). left_past (of_path b path) from (length (of_path q.seen path))) t.looked.seen
          ∙ ap (λ (k : ℕ). left_past (of_path t.book path) from k) (sym f.passed)
          ∙ ap (λ (x : List (List ℕ)). left_past (of_path t.book path) x cursor.passed) (sym f.from_is)
          ∙ ap (λ (x : List ℕ). left_past (of_path t.book x) cursor.from cursor.passed) (sym f.path_is)
          ∙ sym t.updates

  pub following_more : Following path from us p q marks more bell rung cursor before middle → GoesOn None cursor new q r more most rung again middle after
      → Following path from us p r marks most bell again new before after
  following_more f (w, added, t, wrote) = record {
    later = f.later ++ length t.book ∷ [];
    again = length (f.later ++ length t.book ∷ []);
    went = k.went;
    count = refl;
    wrote = subst (λ (x : List ℕ). WritesAll x before after) (sym k.text) (writes_both (text_behind q.seen path from us f.later) (chunks_or_beat added) before middle after f.wrote wrote);
    last = k.last;
    us_are = k.us_are;
    path_is = ap (λ (c : CursorView). c.path) t.cursor ∙ f.path_is;
    from_is = ap (λ (c : CursorView). c.from) t.cursor ∙ f.from_is;
    passed = ap (λ (c : CursorView). c.passed) t.cursor ∙ ap (λ (x : List ℕ). length (of_path t.book x)) f.path_is ∙ ap (λ (b : List Entry). length (of_path b path)) (sym t.looked.seen);
    fits = subst (λ (b : List Entry). IsFit b new) (sym t.looked.seen) t.fits;
  }
    where
      k : IsTaken path from us added p r marks most (f.later ++ length t.book ∷ []) bell again (text_behind q.seen path from us f.later)
      k = taken f added w t

  -- the bell ended, and nothing else changed
  went_still : (f : Following path from us p q marks more bell rung cursor before middle) → r ≡ q → most ≡ more → again ≡ rung → WentOn p r marks most f.later f.again bell again
  went_still f same m e =
      subst (λ (z : PassView Entry). WentOn p z marks most f.later f.again bell again) (sym same)
      (subst (λ (z : List ℕ). WentOn p q marks z f.later f.again bell again) (sym m)
      (subst (λ (z : Ringing). WentOn p q marks more f.later f.again bell z) (sym e) f.went))

  -- an Again was heard, and no turn was taken
  went_idle : (f : Following path from us p q marks more bell rung cursor before middle) → Waits Again rung again → Stayed q r more most → WentOn p r marks most f.later (f.again + 1) bell again
  went_idle f w y = record {
    passed = subst (λ (ms : List ℕ). Passed p r ms []) (append-nil f.later) (passed_both p q r f.later [] [] [] f.went.passed y.passed);
    noted = y.noted ∙ f.went.noted;
    rings = heard_again f.again bell rung again f.went.rings w;
  }

  -- or one was, behind which nothing was written
  went_vain : (f : Following path from us p q marks more bell rung cursor before middle) → Waits Again rung again → (book : List Entry) → Looked book q r more most
      → WentOn p r marks most (f.later ++ length book ∷ []) (f.again + 1) bell again
  went_vain f w book y = record {
    passed = passed_both p q r f.later (length book ∷ []) [] [] f.went.passed y.passed;
    noted = y.noted ∙ ap (λ (z : List ℕ). z ++ length book ∷ []) f.went.noted ∙ append_assoc marks f.later (length book ∷ []);
    rings = heard_again f.again bell rung again f.went.rings w;
  }

  one_fewer_is : (f : Following path from us p q marks more bell rung cursor before middle) → length f.later + 1 ≡ f.again + 1
  one_fewer_is f = ap (λ (k : ℕ). k + 1) f.count

  wrote_still : (f : Following path from us p q marks more bell rung cursor before middle) → IsPrefix q.seen r.seen → after ≡ middle → WritesAll (text_behind r.seen path from us f.later) before after
  wrote_still f b o = subst (λ (x : List ℕ). WritesAll x before after) (sym (text_still f b)) (subst (λ (z : Outflow). WritesAll (text_behind q.seen path from us f.later) before z) (sym o) f.wrote)

  seen_still : (f : Following path from us p q marks more bell rung cursor before middle) → r ≡ q → text_behind q.seen path from us f.later ≡ text_behind r.seen path from us f.later
  seen_still f same = ap (λ (z : PassView Entry). text_behind z.seen path from us f.later) (sym same)

  pub following_ends : (end : SessionEnd) → Following path from us p q marks more bell rung cursor before middle → GoesOn (Some end) cursor new q r more most rung again middle after
      → WatchesOn end path from us p r marks most bell again before after
  following_ends Closed f g = absurd g
  following_ends Stopped f (w, same, m, wrote) = (
    f.later,
    f.again,
    went_still f same m w.1,
    f.count,
    subst (λ (z : Ringing). HasNone z.answers) (sym w.1) w.0,
    subst (λ (x : List ℕ). WritesAll (x ++ last_chunk true) before after) (seen_still f same) (writes_both (text_behind q.seen path from us f.later) (last_chunk true) before middle after f.wrote wrote),
  )
  following_ends Spent f g = absurd g
  following_ends (Refused status) f g = absurd g
  following_ends Torn f g = absurd g
  following_ends ReadFault f g = absurd g
  following_ends WriteFault f (inl (w, added, t, part)) =
      let k = taken f added w t in (
        f.later ++ length t.book ∷ [],
        length (f.later ++ length t.book ∷ []),
        k.went,
        refl,
        inl (subst (λ (x : List ℕ). WritesPart x before after) (sym k.text) (part_behind (text_behind q.seen path from us f.later) (chunks_or_beat added) before middle after f.wrote part)),
      )
  following_ends WriteFault f (inr (w, same, m, part)) = (
    f.later,
    f.again,
    went_still f same m w.1,
    f.count,
    inr (
      subst (λ (z : Ringing). HasNone z.answers) (sym w.1) w.0,
      subst (λ (x : List ℕ). BreaksOff x (last_chunk true) before after) (seen_still f same) (record { middle = middle; first = f.wrote; then = part }),
    ),
  )
  following_ends Worn f (w, (stayed, late), o) = (f.later, f.again + 1, went_idle f w stayed, one_fewer_is f, late, wrote_still f stayed.passed.begins o)
  following_ends Memory f (w, inl stayed, o) = (
    f.later,
    [],
    f.again + 1,
    subst (λ (ms : List ℕ). WentOn p r marks most ms (f.again + 1) bell again) (sym (append-nil f.later)) (went_idle f w stayed),
    inl refl,
    one_fewer_is f,
    wrote_still f stayed.passed.begins o,
  )
  following_ends Memory f (w, inr (book, y), o) =
      (f.later, length book ∷ [], f.again + 1, went_vain f w book y, inr (length book, refl), one_fewer_is f, wrote_still f y.passed.begins o)

-- the updates behind the head were written in part
pub first_failed : (path : List ℕ) (from : List (List ℕ)) (us : List UpdateView) (p : PassView Entry) (marks : List ℕ) (bell : Ringing) (before after : Outflow)
    → p.held ≡ false → WritesPart (chunks us) before after → WatchesOn WriteFault path from us p p marks marks bell bell before after
first_failed path from us p marks bell before after idle part = (
  [],
  0,
  record { passed = passed_none p idle; noted = sym (append-nil marks); rings = heard_none bell },
  refl,
  inl (subst (λ (x : List ℕ). WritesPart x before after) (sym (append-nil (chunks us))) part),
)

module _ (s : Serving) (q : Request) (opening : Opening) (p m r : PassView Entry) (marks mid : List ℕ) (b : BegunBy s q opening p m marks mid) where
  -- the first entries of the book that was last seen are those that the first turn found
  front_is : IsPrefix m.seen r.seen → take (length b.book) r.seen ≡ b.book
  front_is k = ap (take (length b.book)) (k.1 ∙ ap (λ (z : List Entry). z ++ k.0) b.looked.seen) ∙ take-append_seam b.book k.0

  grouped : (x y z w : List ℕ) → (x ++ y ++ z) ++ w ≡ x ++ ((y ++ z) ++ w)
  grouped x y z w = ap (λ t. t ++ w) (append_assoc x y z) ∙ append_assoc x (y ++ z) w

  -- so the subscription was answered as the definition says
  is_watch : IsPrefix m.seen r.seen → (later : List ℕ) (stopped : Bool)
      → IsWatch s p.number r.seen q (length b.book ∷ later) opening.head (text_behind r.seen q.target b.from opening.updates later ++ last_chunk stopped) stopped
  is_watch k later stopped = record {
    first = length b.book;
    later = later;
    marks_are = refl;
    head_is = head;
    says = subst (λ (t : List ℕ). Says s p.number r.seen (q ∷ []) (length b.book ∷ later) [] t (watched stopped)) text
        (watches q b.from (length b.book) later stopped b.means (subst (λ (z : List Entry). HoldsAll (graph_of (of_path z q.target)) b.from) (sym (front_is k)) b.stands.held));
  }
    where
      head : opening.head ≡ subscription_head (take (length b.book) r.seen) q.target
      head = b.head ∙ ap (λ (z : List Entry). subscription_head z q.target) (sym (front_is k))

      us : opening.updates ≡ sent_of r.seen q.target b.from (length b.book)
      us = b.stands.updates ∙ ap (λ (z : List Entry). sent (of_path z q.target) b.from) (sym (front_is k))

      text : watch_text r.seen q.target b.from (length b.book) later ++ last_chunk stopped
          ≡ opening.head ++ (text_behind r.seen q.target b.from opening.updates later ++ last_chunk stopped)
      text =
          ap (λ (z : List ℕ). (z ++ chunks (sent_of r.seen q.target b.from (length b.book)) ++ further r.seen q.target b.from (length (sent_of r.seen q.target b.from (length b.book))) later) ++ last_chunk stopped) (sym head)
          ∙ ap (λ (z : List UpdateView). (opening.head ++ chunks z ++ further r.seen q.target b.from (length z) later) ++ last_chunk stopped) (sym us)
          ∙ grouped opening.head (chunks opening.updates) (further r.seen q.target b.from (length opening.updates) later) (last_chunk stopped)

  noted_is : (later more : List ℕ) → more ≡ mid ++ later → more ≡ marks ++ (length b.book ∷ later)
  noted_is later more e = e ∙ ap (λ (z : List ℕ). z ++ later) b.looked.noted ∙ append_assoc marks (length b.book ∷ []) later

  one_more_mark : (n k : ℕ) → n ≡ k → suc n ≡ k + 1
  one_more_mark n k e = omega (arith, e)

  as_many : (n k : ℕ) → n + 1 ≡ k → suc n ≡ k
  as_many n k e = omega (arith, e)

  -- what stands behind the head where the subscription was not stopped
  abbrev unstopped : List ℕ → List ℕ
  unstopped later = text_behind r.seen q.target b.from opening.updates later ++ last_chunk false

  ends_by : (end : SessionEnd) (later more : List ℕ) (again : ℕ) (bell rung : Ringing) (before after : Outflow) → WentOn m r mid more later again bell rung
      → EndsWatch end s p.number r.seen r.look q (length b.book ∷ later) (record { agains = again; left = rung.answers }) true before after
      → EndsIn s end true q p r marks more bell rung before after
  ends_by end later more again bell rung before after w e = record {
    new_marks = length b.book ∷ later;
    again = again;
    passed = passed_both p m r (length b.book ∷ []) later [] [] b.looked.passed w.passed;
    noted = noted_is later more w.noted;
    rings = w.rings;
    ends = e;
  }

  -- the head was written, and the subscription went on until it ended
  opened : (end : SessionEnd) (more : List ℕ) (bell rung : Ringing) (before middle after : Outflow) → WritesAll opening.head before middle
      → WatchesOn end q.target b.from opening.updates m r mid more bell rung middle after → EndsIn s end true q p r marks more bell rung before after
  opened Closed more bell rung before middle after h g = absurd g
  opened Stopped more bell rung before middle after h (later, again, w, count, none, wrote) =
      ends_by Stopped later more again bell rung before after w (
        opening.head,
        text_behind r.seen q.target b.from opening.updates later ++ last_chunk true,
        is_watch w.passed.begins later true,
        writes_both opening.head _ before middle after h wrote,
        one_more_mark (length later) again count,
        none,
        refl,
      )
  opened Spent more bell rung before middle after h g = absurd g
  opened (Refused status) more bell rung before middle after h g = absurd g
  opened Torn more bell rung before middle after h g = absurd g
  opened ReadFault more bell rung before middle after h g = absurd g
  opened WriteFault more bell rung before middle after h (later, again, w, count, how) =
      ends_by WriteFault later more again bell rung before after w (
        opening.head,
        unstopped later,
        is_watch w.passed.begins later false,
        one_more_mark (length later) again count,
        inr (by_part how),
      )
    where
      by_part : WritesPart (text_behind r.seen q.target b.from opening.updates later) middle after
          ⊎ (HasNone rung.answers × BreaksOff (text_behind r.seen q.target b.from opening.updates later) (last_chunk true) middle after)
          → ((true ≡ true) × BreaksOff opening.head (unstopped later) before after)
          ⊎ ((true ≡ true) × HasNone rung.answers × BreaksOff (opening.head ++ unstopped later) (last_chunk true) before after)
      by_part (inl part) = inl (refl, record { middle = middle; first = h; then = subst (λ (x : List ℕ). WritesPart x middle after) (sym (append-nil (text_behind r.seen q.target b.from opening.updates later))) part })
      by_part (inr (none, off)) = inr (
        refl,
        none,
        record {
          middle = off.middle;
          first = writes_both opening.head (unstopped later) before middle off.middle h
              (subst (λ (x : List ℕ). WritesAll x middle off.middle) (sym (append-nil (text_behind r.seen q.target b.from opening.updates later))) off.first);
          then = off.then;
        },
      )
  opened Worn more bell rung before middle after h (later, again, w, count, late, wrote) =
      ends_by Worn later more again bell rung before after w (
        opening.head,
        unstopped later,
        is_watch w.passed.begins later false,
        writes_both opening.head _ before middle after h (subst (λ (x : List ℕ). WritesAll x middle after) (sym (append-nil (text_behind r.seen q.target b.from opening.updates later))) wrote),
        as_many (length later) again count,
        late,
        refl,
      )
  opened Memory more bell rung before middle after h (later, last, again, w, is, count, wrote) =
      ends_by Memory (later ++ last) more again bell rung before after w (
        length b.book ∷ later,
        last,
        opening.head,
        unstopped later,
        refl,
        is,
        is_watch w.passed.begins later false,
        writes_both opening.head _ before middle after h (subst (λ (x : List ℕ). WritesAll x middle after) (sym (append-nil (text_behind r.seen q.target b.from opening.updates later))) wrote),
        as_many (length later) again count,
        refl,
      )

  -- of the cursor's path and frontier
  pub opened_so : (end : SessionEnd) (more : List ℕ) (bell rung : Ringing) (before middle after : Outflow) → WritesAll opening.head before middle
      → WatchesOn end opening.cursor.path opening.cursor.from opening.updates m r mid more bell rung middle after → EndsIn s end true q p r marks more bell rung before after
  opened_so end more bell rung before middle after h w =
      opened end more bell rung before middle after h
      (subst (λ (x : List (List ℕ)). WatchesOn end q.target x opening.updates m r mid more bell rung middle after) b.stands.from_is
      (subst (λ (x : List ℕ). WatchesOn end x opening.cursor.from opening.updates m r mid more bell rung middle after) b.stands.path_is w))

-- the head was written in part
pub head_failed : (s : Serving) (q : Request) (opening : Opening) (p m : PassView Entry) (marks mid : List ℕ) (bell : Ringing) (before after : Outflow)
    → BegunBy s q opening p m marks mid → WritesPart opening.head before after → EndsIn s WriteFault false q p m marks mid bell bell before after
head_failed s q opening p m marks mid bell before after b part = record {
  new_marks = length b.book ∷ [];
  again = 0;
  passed = b.looked.passed;
  noted = b.looked.noted;
  rings = heard_none bell;
  ends = (
    opening.head,
    text_behind m.seen q.target b.from opening.updates [] ++ last_chunk false,
    is_watch s q opening p m m marks mid b ([], sym (append-nil m.seen)) [] false,
    refl,
    inl (refl, refl, part),
  );
}
