-- How a session that has come so far ends: it stands, it steps, and it ends.
use Rattle.std.proofs.Common.{◌≡◌, ℕ, ◌+◌, ◌<◌, ◌≤◌, Bool, true, false, true≢false, ◌||◌, List, [], ◌∷◌, ◌++◌, ◌⊎◌, inl, inr, refl, ap, sym, ◌∙◌, subst, length, arith, append-nil, None}
use Rattle.std.specs.Prelude.{nat_le}
use Rattle.std.proofs.Math.Seq.{take-append_seam}
use Rattle.std.specs.Io.KnownBytes.{append_known, prepend_known}
use Rattle.braid_io.specs.Outside.{Outflow, Moves, WritesAll}
use Rattle.braid_http.proofs.Waiting.{moves_both}
use Rattle.braid_http.specs.Cuts.{is_over}
use Rattle.braid_http.specs.Replies.{reply_text}
use Rattle.braid_http.specs.declared.request.Request.{Request}
use Rattle.braid_store.specs.declared.entry.Entry.{Entry}
use Rattle.braid_session.specs.declared.serving.Serving.{Serving}
use Rattle.braid_session.specs.declared.session.SessionEnd.{SessionEnd}
use Rattle.braid_session.specs.declared.session.SessionEnd.TheVariants.{Closed, Stopped, Spent, Refused, Torn, ReadFault, WriteFault, Worn, Memory}
use Rattle.braid_session.specs.declared.session.SessionNote.{SessionNote}
use Rattle.braid_session.specs.declared.serve.Next.TheVariants.{Answered as IsAnswered, Subscribed, Ended}
use Rattle.braid_session.specs.Sessions.{Placed, placed_at, refusal_reply}
use Rattle.braid_session.specs.Ends.{Passed, Rung, Done, Ends, GainsThese}
use Rattle.braid_session.specs.Watches.{BellUse, EndsWatch}
use Rattle.braid_session.specs.Fits.{Serves, FaultsOnlyAt, heads_of}
use Rattle.braid_session.specs.Steps.{State, Idled, Does}
use Rattle.braid_session.proofs.Passing.{passed_none, passed_both, rung_both, heard_rung, heard_then}
use Rattle.braid_session.proofs.Turns.{length_placed}
use Rattle.braid_session.proofs.Goings.{Going, going_none, going_more, answered_then, in_turn_then, over_of, over_false, over_true, writes_both, writes_none}

-- n requests were answered, and another may follow unless there are 10,000
pub record Standing (s : Serving) (z : State) (n : ℕ) (c : State) : Type 0 where
  pub closed : Bool
  pub text : List ℕ
  pub going : Going s z n closed c text
  pub written : WritesAll text z.outflow c.outflow
  pub live : c.wire.over ≡ None
  pub most : n ≤ 10_000
  pub goes : n < 10_000 → closed ≡ false

pub stand : (s : Serving) (z c : State) → z ≡ c → c.wire.held ≡ [] → c.wire.over ≡ None → c.marks ≡ [] → c.pass.held ≡ false → Standing s z 0 c
stand s z c e h o m i = rw e (record { closed = false; text = []; going = going_none s c h m i; written = writes_none c.outflow; live = o; most = omega arith; goes = λ l. refl })

pub step : (s : Serving) (z c new : State) (n : ℕ) (close : Bool) → Standing s z n c → n < 10_000 → Does s (IsAnswered close) c new → new.wire.over ≡ None
    → (close ≡ true → 10_000 ≤ n + 1) → Standing s z (n + 1) new
step s z c new n close t l d o last = record {
  closed = d.0.close;
  text = t.text ++ d.1;
  going = going_more s z c new n t.closed d.0 t.text d.1 t.going l (t.goes l) d.2 d.3;
  written = writes_both t.text d.1 z.outflow c.outflow new.outflow t.written d.5;
  live = o;
  most = omega (arith, l);
  goes = λ k. rw d.4 (go close last k);
}
  where
    go : (b : Bool) → (b ≡ true → 10_000 ≤ n + 1) → n + 1 < 10_000 → b ≡ false
    go true f k = let m = f refl in absurd (omega (arith, m, k))
    go false f k = refl

-- what was done, of a session that has come so far, where these bytes stand behind it
abbrev pub done_of : (s : Serving) (z c : State) (n : ℕ) (closed : Bool) (text : List ℕ) → Going s z n closed c text → List ℕ → Done
done_of s z c n closed text g rest = record { requests = g.requests; rest = rest; marks = c.marks; entries = g.entries; text = text }

-- no Again was heard
abbrev none_heard : State → BellUse
none_heard c = record { agains = 0; left = c.ringing.answers }

none_more : (n : ℕ) → n ≡ n + 0
none_more n = omega arith

-- how a session ends that has come so far, where its next request gained these marks and entries, and the bytes that stand
-- behind what was answered are those held and those that were got
pub end_at : (s : Serving) (z c new : State) (n : ℕ) (end : SessionEnd) (note : SessionNote) (t : Standing s z n c) (got all ms : List ℕ) (es entries : List Placed)
    → all ≡ c.wire.held ++ got → Passed c.pass new.pass ms es → Rung (length es) c.ringing new.ringing
    → new.marks ≡ c.marks ++ ms → entries ≡ t.going.entries ++ es
    → new.intake.taken ≡ append_known z.intake.taken (t.going.r ++ got) → z.intake.left ≡ prepend_known (t.going.r ++ got) new.intake.left
    → FaultsOnlyAt end z.intake.faults new.intake.faults
    → note.end ≡ end → note.requests ≡ n → note.marks.items ≡ new.marks
    → Ends end s new.pass.number new.pass.seen new.pass.look (done_of s z c n t.closed t.text t.going all) new.marks entries new.intake z.outflow new.outflow
    → Serves s note z.pass new.pass z.intake new.intake z.outflow new.outflow z.ringing new.ringing
end_at s z c new n end note t got all ms es entries whole passed rings marks placed taken left faults e k m ends = record {
  entries = entries;
  heard = none_heard new;
  fits = record {
    r = t.going.r ++ got;
    done = done_of s z c n t.closed t.text t.going all;
    begun = false;
    taken = taken;
    left = left;
    faults = rw e faults;
    answered = answered_then s z c n t.closed t.text t.going new.pass ms es got all passed whole;
    count = k ∙ t.going.number ∙ none_more (length t.going.requests);
    placed = rw placed both.placed;
    ends = inl (record { not_heard = refl; not_begun = refl; ends = rw (e, m) ends });
  };
  passed = rw (m, marks, placed) both;
  in_turn = in_turn_then s z c n t.closed t.text t.going new.pass ms es passed;
  rings = heard_rung (length entries) z.ringing new.ringing (rw placed (rung_both t.going.entries es z.ringing c.ringing new.ringing t.going.rings rings));
  left = refl;
}
  where
    both : Passed z.pass new.pass (c.marks ++ ms) (t.going.entries ++ es)
    both = passed_both z.pass c.pass new.pass c.marks ms t.going.entries es t.going.passed passed

-- a read failed only at an end that says so
no_fault : (end : SessionEnd) (old new : ℕ) → (end ≡ ReadFault → ⊥) → new ≡ old → FaultsOnlyAt end old new
no_fault end old new n e = ((λ x. e), (λ x. absurd (n x)))

-- the same, where the next request gained nothing and no read failed
pub end_idle : (s : Serving) (z c new : State) (n : ℕ) (end : SessionEnd) (note : SessionNote) (t : Standing s z n c) (got all : List ℕ)
    → all ≡ c.wire.held ++ got → Idled c.pass new.pass c.marks new.marks c.ringing new.ringing → Moves got c.intake new.intake → (end ≡ ReadFault → ⊥)
    → note.end ≡ end → note.requests ≡ n → note.marks.items ≡ new.marks
    → Ends end s new.pass.number new.pass.seen new.pass.look (done_of s z c n t.closed t.text t.going all) new.marks t.going.entries new.intake z.outflow new.outflow
    → Serves s note z.pass new.pass z.intake new.intake z.outflow new.outflow z.ringing new.ringing
end_idle s z c new n end note t got all whole i moves never e k m ends =
    let both = moves_both t.going.r got z.intake c.intake new.intake t.going.moves moves in
    end_at s z c new n end note t got all [] [] t.going.entries whole i.passed i.rings (i.noted ∙ sym (append-nil c.marks)) (sym (append-nil t.going.entries))
    both.taken both.left (no_fault end z.intake.faults new.intake.faults never both.faults) e k m ends

-- what was done so far gains these
gains_these : (s : Serving) (z c new : State) (n : ℕ) (t : Standing s z n c) (all : List ℕ) → Idled c.pass new.pass c.marks new.marks c.ringing new.ringing
    → GainsThese (done_of s z c n t.closed t.text t.going all) new.marks t.going.entries
gains_these s z c new n t all i = (i.noted, refl)

-- another request may follow
may_follow : (s : Serving) (z c : State) (n : ℕ) (t : Standing s z n c) → n < 10_000 → is_over 0 false t.going.requests ≡ false
may_follow s z c n t l = over_of s z c n t.closed t.text t.going ∙ over_false n t.closed l (t.goes l)

pub finish : (s : Serving) (z c new : State) (n : ℕ) (end : SessionEnd) (note : SessionNote) → Standing s z n c → n < 10_000 → Does s (Ended end) c new
    → note.end ≡ end → note.requests ≡ n → note.marks.items ≡ new.marks
    → Serves s note z.pass new.pass z.intake new.intake z.outflow new.outflow z.ringing new.ringing
finish s z c new n end note t l d e k m = go end d e
  where
    g : Going s z n t.closed c t.text
    g = t.going

    over : is_over 0 false t.going.requests ≡ false
    over = may_follow s z c n t l

    wrote : new.outflow ≡ c.outflow → WritesAll t.text z.outflow new.outflow
    wrote o = rw o t.written

    go : (x : SessionEnd) → Does s (Ended x) c new → note.end ≡ x → Serves s note z.pass new.pass z.intake new.intake z.outflow new.outflow z.ringing new.ringing
    go Closed (a, q) e =
        end_idle s z c new n Closed note t a.0.got [] a.0.all_is q.idled a.0.moves (λ x. cc) e k m
        (gains_these s z c new n t [] q.idled, wrote q.outflow, inl (over, refl, a.2))
    go Stopped h e = absurd h
    go Spent h e = absurd h
    go (Refused status) (f, rest, a, i, is, w) e =
        end_idle s z c new n (Refused status) note t a.took.got a.all a.took.all_is i a.took.moves (λ x. cc) e k m (
          gains_these s z c new n t a.all i,
          over,
          f,
          (a.decided.front, rest, a.decided.decides, a.decided.whole),
          is,
          writes_both t.text (reply_text false (refusal_reply f)) z.outflow c.outflow new.outflow t.written w,
        )
    go Torn (a, q) e =
        end_idle s z c new n Torn note t a.1.got a.0 a.1.all_is q.idled a.1.moves (λ x. cc) e k m
        (gains_these s z c new n t a.0 q.idled, wrote q.outflow, over, (a.2, a.3), a.4)
    go ReadFault (a, q) e =
        let first : Moves a.1.got c.intake (record new.intake { faults = c.intake.faults }) = record { taken = a.1.taken; left = a.1.left; faults = refl } in
        let both = moves_both t.going.r a.1.got z.intake c.intake (record new.intake { faults = c.intake.faults }) t.going.moves first in
        end_at s z c new n ReadFault note t a.1.got a.0 [] [] t.going.entries a.1.all_is q.idled.passed q.idled.rings
        (q.idled.noted ∙ sym (append-nil c.marks)) (sym (append-nil t.going.entries)) both.taken both.left
        ((λ x. absurd (x refl)), (λ x. (rw t.going.moves.faults at a.1.never_falls, rw t.going.moves.faults at a.1.rose))) e k m
        (gains_these s z c new n t a.0 q.idled, wrote q.outflow, over, a.2)
    go WriteFault (inl (q, text, a, r, w)) e =
        let both = moves_both t.going.r a.took.got z.intake c.intake new.intake t.going.moves a.took.moves in
        end_at s z c new n WriteFault note t a.took.got a.all r.new_marks r.entries (t.going.entries ++ r.entries) a.took.all_is r.passed r.rings r.noted refl
        both.taken both.left (no_fault WriteFault z.intake.faults new.intake.faults (λ x. cc) both.faults) e k m (
          over,
          inl (
            r.new_marks,
            r.entries,
            text,
            record { request = q; rest = new.wire.held; decided = a.decided; says = rw r.passed.number r.says },
            r.noted,
            refl,
            record { middle = c.outflow; first = t.written; then = w },
          ),
        )
    go WriteFault (inr (f, rest, a, i, w)) e =
        end_idle s z c new n WriteFault note t a.took.got a.all a.took.all_is i a.took.moves (λ x. cc) e k m (
          over,
          inr (
            gains_these s z c new n t a.all i,
            f,
            (a.decided.front, rest, a.decided.decides, a.decided.whole),
            record { middle = c.outflow; first = t.written; then = w },
          ),
        )
    go Worn (q, wish, a, means, quiet, late) e =
        end_idle s z c new n Worn note t a.took.got a.all a.took.all_is quiet.idled a.took.moves (λ x. cc) e k m (
          gains_these s z c new n t a.all quiet.idled,
          wrote quiet.outflow,
          over,
          record { request = q; rest = new.wire.held; wish = wish; decided = a.decided; means = means },
          late,
        )
    go Memory (o, inl (all, a, i)) e =
        end_idle s z c new n Memory note t a.got all a.all_is i a.moves (λ x. cc) e k m
        (over, wrote o, inl (gains_these s z c new n t all i))
    go Memory (o, inr (q, wish, a, means, v)) e =
        let both = moves_both t.going.r a.took.got z.intake c.intake new.intake t.going.moves a.took.moves in
        let ms : List ℕ = length v.book ∷ [] in
        let es : List Placed = placed_at (length v.book) v.entries in
        end_at s z c new n Memory note t a.took.got a.all ms es (t.going.entries ++ es) a.took.all_is v.turned.passed
        (rw (length_placed (length v.book) v.entries) v.turned.rings) v.turned.noted refl
        both.taken both.left (no_fault Memory z.intake.faults new.intake.faults (λ x. cc) both.faults) e k m (
          over,
          wrote o,
          inr (
            length v.book,
            v.entries,
            record {
              next = record { request = q; rest = new.wire.held; wish = wish; decided = a.decided; means = means };
              added = rw (v.turned.seen, take-append_seam v.book v.entries, v.turned.passed.number) v.added;
            },
            v.turned.noted,
            refl,
          ),
        )

-- no read fails in a subscription
never_read : (end : SessionEnd) (s : Serving) (by : ℕ) (book : List Entry) (look : ℕ) (q : Request) (marks : List ℕ) (heard : BellUse) (begun : Bool) (before after : Outflow)
    → EndsWatch end s by book look q marks heard begun before after → end ≡ ReadFault → ⊥
never_read end s by book look q marks heard begun before after w e = subst (λ (x : SessionEnd). EndsWatch x s by book look q marks heard begun before after) e w

-- the next request was a subscription that was served, with which the session ended
pub subscribed : (s : Serving) (z c new : State) (n : ℕ) (end : SessionEnd) (begun : Bool) (note : SessionNote) → Standing s z n c → n < 10_000 → Does s (Subscribed end begun) c new
    → note.end ≡ end → note.requests ≡ n + heads_of begun → note.marks.items ≡ new.marks
    → Serves s note z.pass new.pass z.intake new.intake z.outflow new.outflow z.ringing new.ringing
subscribed s z c new n end begun note t l (q, a, w) e k m = record {
  entries = t.going.entries;
  heard = heard;
  fits = record {
    r = t.going.r ++ a.took.got;
    done = done_of s z c n t.closed t.text t.going a.all;
    begun = begun;
    taken = moved.taken;
    left = moved.left;
    faults = rw e (no_fault end z.intake.faults new.intake.faults (never_read end s c.pass.number new.pass.seen new.pass.look q w.new_marks heard begun c.outflow new.outflow w.ends) moved.faults);
    answered = answered_then s z c n t.closed t.text t.going new.pass w.new_marks [] a.took.got a.all w.passed a.took.all_is;
    count = k ∙ ap (λ (j : ℕ). j + heads_of begun) t.going.number;
    placed = both.placed;
    ends = inr (record {
      follows = may_follow s z c n t l;
      request = q;
      rest = new.wire.held;
      decided = a.decided;
      taken = w.new_marks;
      marks_are = m ∙ w.noted;
      entries_are = refl;
      middle = c.outflow;
      wrote = t.written;
      ends = subst (λ (x : SessionEnd). EndsWatch x s new.pass.number new.pass.seen new.pass.look q w.new_marks heard begun c.outflow new.outflow) (sym e)
          (subst (λ (j : ℕ). EndsWatch end s j new.pass.seen new.pass.look q w.new_marks heard begun c.outflow new.outflow) (sym w.passed.number) w.ends);
    });
  };
  passed = subst (λ (ms : List ℕ). Passed z.pass new.pass ms t.going.entries) (sym (m ∙ w.noted)) both;
  in_turn = in_turn_then s z c n t.closed t.text t.going new.pass w.new_marks [] w.passed;
  rings = heard_then w.again (length t.going.entries) z.ringing c.ringing new.ringing t.going.rings w.rings;
  left = refl;
}
  where
    heard : BellUse
    heard = record { agains = w.again; left = new.ringing.answers }

    moved : Moves (t.going.r ++ a.took.got) z.intake new.intake
    moved = moves_both t.going.r a.took.got z.intake c.intake new.intake t.going.moves a.took.moves

    both : Passed z.pass new.pass (c.marks ++ w.new_marks) t.going.entries
    both = subst (λ (es : List Placed). Passed z.pass new.pass (c.marks ++ w.new_marks) es) (append-nil t.going.entries)
        (passed_both z.pass c.pass new.pass c.marks w.new_marks t.going.entries [] t.going.passed w.passed)

-- a session of which so many requests were answered, after which none follows, where nothing more was read
pub end_here : (s : Serving) (z c : State) (n : ℕ) (closed : Bool) (text : List ℕ) (end : SessionEnd) (note : SessionNote) (g : Going s z n closed c text)
    → (end ≡ ReadFault → ⊥) → note.end ≡ end → note.requests ≡ n → note.marks.items ≡ c.marks
    → Ends end s c.pass.number c.pass.seen c.pass.look (done_of s z c n closed text g c.wire.held) c.marks g.entries c.intake z.outflow c.outflow
    → Serves s note z.pass c.pass z.intake c.intake z.outflow c.outflow z.ringing c.ringing
end_here s z c n closed text end note g never e k m ends = record {
  entries = g.entries;
  heard = none_heard c;
  fits = record {
    r = g.r;
    done = done_of s z c n closed text g c.wire.held;
    begun = false;
    taken = g.moves.taken;
    left = g.moves.left;
    faults = rw e (no_fault end z.intake.faults c.intake.faults never g.moves.faults);
    answered = rw (append-nil g.r) at (answered_then s z c n closed text g c.pass [] [] [] c.wire.held (passed_none c.pass g.passed.idle) (sym (append-nil c.wire.held)));
    count = k ∙ g.number ∙ none_more (length g.requests);
    placed = g.passed.placed;
    ends = inl (record { not_heard = refl; not_begun = refl; ends = rw (e, m) ends });
  };
  passed = rw m g.passed;
  in_turn = g.says;
  rings = heard_rung (length g.entries) z.ringing c.ringing g.rings;
  left = refl;
}

-- the last request asked to close
pub closing : (s : Serving) (z c new : State) (n : ℕ) (note : SessionNote) (close : Bool) → Standing s z n c → n < 10_000 → n + 1 < 10_000
    → Does s (IsAnswered close) c new → close ≡ true → note.end ≡ Closed → note.requests ≡ n + 1 → note.marks.items ≡ new.marks
    → Serves s note z.pass new.pass z.intake new.intake z.outflow new.outflow z.ringing new.ringing
closing s z c new n note close t l k d yes_close e count m =
    let g = going_more s z c new n t.closed d.0 t.text d.1 t.going l (t.goes l) d.2 d.3 in
    let w = writes_both t.text d.1 z.outflow c.outflow new.outflow t.written d.5 in
    let over = over_of s z new (n + 1) d.0.close (t.text ++ d.1) g ∙ ap (λ b. b || nat_le 10_000 (n + 1)) (d.4 ∙ yes_close) in
    let number = g.number in
    end_here s z new (n + 1) d.0.close (t.text ++ d.1) Closed note g (λ x. cc) e count m
    ((refl, refl), w, inr (over, omega (arith, k, number)))

-- 10,000 were answered
pub spent : (s : Serving) (z c : State) (n : ℕ) (note : SessionNote) → Standing s z n c → 10_000 ≤ n → note.end ≡ Spent → note.requests ≡ n → note.marks.items ≡ c.marks
    → Serves s note z.pass c.pass z.intake c.intake z.outflow c.outflow z.ringing c.ringing
spent s z c n note t l e k m =
    let g = t.going in
    let most = t.most in
    let number = g.number in
    end_here s z c n t.closed t.text Spent note g (λ x. cc) e k m
    ((refl, refl), t.written, over_of s z c n t.closed t.text g ∙ over_true n t.closed l, omega (arith, l, most, number))

-- a request that asked to close is the last one that is answered, or the 10,000th
pub last_close : (n : ℕ) (close : Bool) → ((close ≡ true) × (10_000 ≤ n + 1)) ⊎ (close ≡ false) → close ≡ true → 10_000 ≤ n + 1
last_close n close (inl p) e = p.1
last_close n close (inr f) e = absurd (true≢false (sym e ∙ f))
