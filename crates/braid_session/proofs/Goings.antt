-- How far a session has come, and how it goes on.
use Rattle.std.proofs.Common.{◌≡◌, ℕ, ◌+◌, ◌<◌, ◌≤◌, Bool, true, false, true≢false, ◌||◌, append_assoc, List, [], ◌∷◌, ◌++◌, refl, ap, sym, ◌∙◌, length, arith, length-append, append-nil, Option, None, Some}
use Rattle.std.specs.Prelude.{nat_le}
use Rattle.std.proofs.lemmas.Grind.{common_steps}
use Rattle.std.specs.Io.KnownBytes.{append_known}
use Rattle.braid_io.proofs.Known.{append_known-append}
use Rattle.braid_io.specs.Outside.{Outflow, Moves, WritesAll}
use Rattle.braid_hall.specs.Passes.{PassView}
use Rattle.braid_http.proofs.Waiting.{moves_none, moves_both}
use Rattle.braid_http.specs.declared.request.Request.{Request}
use Rattle.braid_http.specs.Requests.{asked}
use Rattle.braid_http.specs.Asks.{Answers as Asking}
use Rattle.braid_http.specs.Cuts.{Cuts, is_over}
use Rattle.braid_store.specs.declared.entry.Entry.{Entry}
use Rattle.braid_session.specs.declared.serving.Serving.{Serving}
use Rattle.braid_session.specs.Sessions.{Placed, goes_on, Says, none, Answered}
use Rattle.braid_session.specs.Ends.{Passed, Rung}
use Rattle.braid_session.specs.Steps.{State, Replied}
use Rattle.braid_session.specs.InTurn.{SaysInTurn}
use Rattle.braid_session.proofs.InTurn.{to_higher, stays_in_turn, says_both_in_turn, one_in_turn}
use Rattle.braid_session.proofs.Passing.{passed_none, passed_both, within, rung_both}

-- n requests were read and answered, the last of which asked to close or not; whatever requests follow them in the bytes
-- follow them in the cut
pub record Going (s : Serving) (z : State) (n : ℕ) (closed : Bool) (c : State) (text : List ℕ) : Type 0 where
  pub r : List ℕ
  pub requests : List Request
  pub entries : List Placed
  pub moves : Moves r z.intake c.intake
  pub cut : (more : List ℕ) (rs : List Request) (rest : List ℕ) → Cuts n closed (c.wire.held ++ more) rs rest → Cuts 0 false (r ++ more) (requests ++ rs) rest
  pub over : (rs : List Request) → is_over 0 false (requests ++ rs) ≡ is_over n closed rs
  pub says : SaysInTurn s c.pass.number c.pass.seen requests c.marks entries text goes_on (length z.pass.seen) (length c.pass.seen)
  pub passed : Passed z.pass c.pass c.marks entries
  pub rings : Rung (length entries) z.ringing c.ringing
  pub number : n ≡ length requests

pub going_none : (s : Serving) (c : State) → c.wire.held ≡ [] → c.marks ≡ [] → c.pass.held ≡ false → Going s c 0 false c []
going_none s c h m idle = record {
  r = [];
  requests = [];
  entries = [];
  moves = moves_none c.intake;
  cut = λ more rs rest k. rw h at k;
  over = λ rs. refl;
  says = rw m (record { says = none; in_turn = omega arith });
  passed = rw m (passed_none c.pass idle);
  rings = refl;
  number = refl;
}

-- what was said stays, on what another pass added too
says_later : (s : Serving) (z c : State) (n : ℕ) (closed : Bool) (text : List ℕ) (g : Going s z n closed c text) (p : PassView Entry) (ms : List ℕ) (es : List Placed)
    → Passed c.pass p ms es → SaysInTurn s p.number p.seen g.requests c.marks g.entries text goes_on (length z.pass.seen) (length c.pass.seen)
says_later s z c n closed text g p ms es q =
    rw (q.number, q.begins.1)
    (stays_in_turn s c.pass.number c.pass.seen q.begins.0 g.requests c.marks g.entries text (length z.pass.seen) (length c.pass.seen) (within (length z.pass.seen) (length c.pass.seen) c.marks g.entries g.passed.between) g.says)

-- one request more
pub going_more : (s : Serving) (z c new : State) (n : ℕ) (closed : Bool) (q : Request) (text reply : List ℕ) → Going s z n closed c text → n < 10_000 → closed ≡ false
    → Asking (asked q) c.wire.held new.wire.held c.intake new.intake → Replied s q reply c new → Going s z (n + 1) q.close new (text ++ reply)
going_more s z c new n closed q text reply g l k a w = record {
  r = g.r ++ a.took.got;
  requests = g.requests ++ q ∷ [];
  entries = g.entries ++ w.entries;
  moves = moves_both g.r a.took.got z.intake c.intake new.intake g.moves a.took.moves;
  cut = λ more rs rest x.
      let whole : c.wire.held ++ (a.took.got ++ more) ≡ a.decided.front ++ (new.wire.held ++ more) =
      sym (append_assoc c.wire.held a.took.got more) ∙ ap (λ x. x ++ more) (sym a.took.all_is ∙ a.decided.whole) ∙ append_assoc a.decided.front new.wire.held more in
      let d = g.cut (a.took.got ++ more) (q ∷ rs) rest (l, k, a.decided.front, new.wire.held ++ more, a.decided.decides, whole, x) in
      rw (append_assoc g.r a.took.got more, append_assoc g.requests (q ∷ []) rs) d;
  over = λ rs. ap (is_over 0 false) (append_assoc g.requests (q ∷ []) rs) ∙ g.over (q ∷ rs);
  says = rw w.noted
      (says_both_in_turn s new.pass.number new.pass.seen g.requests (q ∷ []) c.marks w.new_marks g.entries w.entries text reply goes_on (length z.pass.seen) (length c.pass.seen) (length new.pass.seen)
      (says_later s z c n closed text g new.pass w.new_marks w.entries w.passed)
      (one_in_turn s new.pass.number new.pass.seen q w.new_marks w.entries reply (length c.pass.seen) (length new.pass.seen) (rw w.passed.number w.says) w.passed.between w.passed.placed));
  passed = rw w.noted (passed_both z.pass c.pass new.pass c.marks w.new_marks g.entries w.entries g.passed w.passed);
  rings = rung_both g.entries w.entries z.ringing c.ringing new.ringing g.rings w.rings;
  number = let m = g.number in let p = length-append g.requests (q ∷ []) in omega (arith, m, p);
}

-- what was answered, where a pass went on and these bytes stand behind it
pub answered_then : (s : Serving) (z c : State) (n : ℕ) (closed : Bool) (text : List ℕ) (g : Going s z n closed c text) (p : PassView Entry) (ms : List ℕ) (es : List Placed) (got all : List ℕ)
    → Passed c.pass p ms es → all ≡ c.wire.held ++ got → Answered s p.number p.seen (g.r ++ got) g.requests all c.marks g.entries text goes_on
answered_then s z c n closed text g p ms es got all q e = record {
  cut = rw (append-nil g.requests) at (g.cut got [] all (sym e));
  says = (says_later s z c n closed text g p ms es q).says;
}

-- and its marks stand so, up to what the pass then has seen
pub in_turn_then : (s : Serving) (z c : State) (n : ℕ) (closed : Bool) (text : List ℕ) (g : Going s z n closed c text) (p : PassView Entry) (ms : List ℕ) (es : List Placed)
    → Passed c.pass p ms es → SaysInTurn s p.number p.seen g.requests c.marks g.entries text goes_on (length z.pass.seen) (length p.seen)
in_turn_then s z c n closed text g p ms es q =
    to_higher s p.number p.seen g.requests c.marks g.entries text goes_on (length z.pass.seen) (length c.pass.seen) (length p.seen)
    (let l = ap length q.begins.1 in let k = length-append c.pass.seen q.begins.0 in omega (arith, l, k)) (says_later s z c n closed text g p ms es q)

pub over_of : (s : Serving) (z c : State) (n : ℕ) (closed : Bool) (text : List ℕ) (g : Going s z n closed c text) → is_over 0 false g.requests ≡ closed || nat_le 10_000 n
over_of s z c n closed text g = ap (is_over 0 false) (sym (append-nil g.requests)) ∙ g.over []

pub over_false : (n : ℕ) (closed : Bool) → n < 10_000 → closed ≡ false → closed || nat_le 10_000 n ≡ false
over_false n true l e = absurd (true≢false e)
over_false n false l e = grind (arith, common_steps)

pub over_true : (n : ℕ) (closed : Bool) → 10_000 ≤ n → closed || nat_le 10_000 n ≡ true
over_true n true l = refl
over_true n false l = grind (arith, common_steps)

pub writes_both : (a b : List ℕ) (x y w : Outflow) → WritesAll a x y → WritesAll b y w → WritesAll (a ++ b) x w
writes_both a b x y w p q = record { written = q.written ∙ ap (λ k. append_known k b) p.written ∙ append_known-append x.written a b; faults = q.faults ∙ p.faults }

pub writes_none : (x : Outflow) → WritesAll [] x x
writes_none x = record { written = go x.written; faults = refl }
  where
    go : (o : Option (List ℕ)) → o ≡ append_known o []
    go None = refl
    go (Some k) = ap Some (sym (append-nil k))
