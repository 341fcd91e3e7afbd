-- Each event keeps the invariant, and so does every list of them.
use Rattle.std.proofs.Common.{◌≡◌, ℕ, List, [], ◌∷◌, ◌++◌, Bool, true, false, ◌&&◌, ◌||◌, ◌==◌, not, cond, refl, sym, ap, subst, ◌∙◌, inl, inr, arith, filter, map, take, length, reverse, Option, Some, None, is_some, unwrap_or, length-append, append_assoc}
use Rattle.std.proofs.lemmas.List.{reverse-append, take-append-le}
use Rattle.std.proofs.lemmas.List.Elements.{filter-append}
use Rattle.std.proofs.lemmas.Bool.Decides.{nat_tests}
use Rattle.std.specs.List.{slice_get}
use Rattle.braid_ids.specs.Agents.{IsAgent}
use Rattle.braid_change.specs.Updates.{UpdateView}
use Rattle.braid_graph.specs.Entries.{has_id}
use Rattle.braid_tree.specs.Trees.{Member}
use Rattle.braid_tree.proofs.Member.{member_append_left, member_append_right, member_append_cases}
use Rattle.braid_text.specs.Versions.{Version, has_version, ancestors_in, version_in, versions_in}
use Rattle.braid_text.specs.Histories.{Follows, IsLegalLog}
use Rattle.braid_text.specs.Sent.{is_outside, sent}
use Rattle.braid_text.specs.Refusals.{find_in, refusal_in}
use Rattle.braid_text.specs.declared.room.Room.{Room}
use Rattle.braid_text.specs.declared.room.Which.TheVariants.{Versions}
use Rattle.braid_text.specs.declared.accept.Accept.{Accept}
use Rattle.braid_text.specs.declared.accept.Accept.TheVariants.{New, Known, Clash, UnknownParent, OutOfRange, Full, Memory}
use Rattle.braid_text.proofs.Held.{id_member, new_in}
use Rattle.braid_text.proofs.Whole.{and_cases, not_true}
use Rattle.braid_text.proofs.Logs.{Has, has_part, not_has, follows_held, legal_back}
use Rattle.braid_text.proofs.Judged.{found, follows_from}
use Rattle.braid_outbox.specs.declared.world.Reading.{Reading}
use Rattle.braid_outbox.specs.declared.world.Side.{Side}
use Rattle.braid_outbox.specs.declared.world.Posted.{Posted}
use Rattle.braid_outbox.specs.declared.world.Answered.{Answered}
use Rattle.braid_outbox.specs.declared.world.World.{World}
use Rattle.braid_outbox.specs.declared.world.Event.{Event}
use Rattle.braid_outbox.specs.declared.world.Event.TheVariants.{Write, Open, Carry, Cut, Keep, Back, Post, Land, Ack, Foreign}
use Rattle.braid_outbox.specs.Shapes.{is_update}
use Rattle.braid_outbox.specs.Replicas.{number}
use Rattle.braid_outbox.specs.Worlds.{at_side, posts_first, posts, status_of, after, lands, acks, replied, is_foreign, joins, step, run, empty_side, start, writes, opens, carries, cuts, keeps, goes_back}
use Rattle.braid_outbox.specs.Laws.{AreDifferent}
use Rattle.braid_outbox.proofs.Shapes.{IsProper, update_from}
use Rattle.braid_outbox.proofs.Names.{IsName, one_agent, name_numbered}
use Rattle.braid_outbox.proofs.Additions.{log_parts, log_more}
use Rattle.braid_outbox.proofs.Moves.{to_log, of_log, refusal_cases, IsRefused}
use Rattle.braid_outbox.proofs.Good.{side_all, kept_all, IsReadTo, GoodSide, GoodPut, GoodWorld, agent_of, one_side, one_of}
use Rattle.braid_outbox.proofs.Sides.{at_side_good, write_side, open_side, cut_side, keep_side, back_side, carry_side, ack_side, get_member, update_in}

-- with one more update, what was outside the ancestry of a frontier without it stays so
outside_more : (H : List UpdateView) (F : List (List ℕ)) (u : UpdateView) → (Member u.id F → ⊥) → is_outside (H ++ u ∷ []) F ≡ is_outside H F
outside_more H F u out = ap (λ (vs : List Version). λ (x : UpdateView). not (has_version x.id vs)) (ap (λ (ks : List UpdateView). ancestors_in (versions_in ks) F) (reverse-append H (u ∷ [])) ∙ go (has_id u.id F) refl)
  where
    us : List UpdateView
    us = reverse H

    go : (b : Bool) → has_id u.id F ≡ b → cond b (version_in u (versions_in us) ∷ ancestors_in (versions_in us) (u.parents ++ F)) (ancestors_in (versions_in us) F) ≡ ancestors_in (versions_in us) F
    go true e = absurd (out (id_member u.id F e))
    go false e = refl

-- and more is sent, at the end
sent_next : (H : List UpdateView) (F : List (List ℕ)) (u : UpdateView) → (Member u.id F → ⊥) → (rest : List UpdateView) × (sent (H ++ u ∷ []) F ≡ sent H F ++ rest)
sent_next H F u out = (filter (is_outside H F) (u ∷ []), ap (λ (f : UpdateView → Bool). filter f (H ++ u ∷ [])) (outside_more H F u out) ∙ filter-append (is_outside H F) H (u ∷ []))

-- with one more update that may follow, a subscription reads on where it was
read_on : (H C : List UpdateView) (u : UpdateView) → ((v : List ℕ) → Has C v → Has H v) → (Has H u.id → ⊥) → (o : Option Reading) → IsReadTo H C o → IsReadTo (H ++ u ∷ []) C o
read_on H C u part new None r = tt
read_on H C u part new (Some rd) r = go (sent_next H rd.from u (λ m. new (part u.id (r.0 u.id m))))
  where
    go : (rest : List UpdateView) × (sent (H ++ u ∷ []) rd.from ≡ sent H rd.from ++ rest) → IsReadTo (H ++ u ∷ []) C (Some rd)
    go (rest, e) = (
      r.0,
      (let l = r.1 in let k = ap length e in let n = length-append (sent H rd.from) rest in omega (arith, l, k, n)),
      (λ x m. r.2 x (subst (Member x) (ap (take rd.position) e ∙ take-append-le rd.position (sent H rd.from) rest r.1) m)),
    )

-- an update joins the history
pub joined_good : (w : World) (u : UpdateView) (replies : List Answered) → GoodWorld w → Follows (reverse w.history) u → ((s : Side) → Member s w.sides → IsName s.agent u.id → Member u (kept_all s))
    → ((r : Answered) → Member r replies → r.status ≡ 200 → Has (w.history ++ u ∷ []) r.id) → GoodWorld (record { history = w.history ++ u ∷ []; sides = w.sides; puts = w.puts; replies = replies })
joined_good w u replies good follows owned answers = record {
  legal = subst IsLegalLog (sym (log_more w.history u)) (follows, good.legal);
  different = good.different;
  sides = λ s m. side s m (good.sides s m);
  puts = λ p m. let g = good.puts p m in record { made = g.made; owned = g.owned; parents = λ v n. longer v (g.parents v n) };
  replies = answers;
}
  where
    H : List UpdateView
    H = w.history

    longer : (v : List ℕ) → Has H v → Has (H ++ u ∷ []) v
    longer = has_part H (H ++ u ∷ []) (λ x m. member_append_left x H (u ∷ []) m)

    new : Has H u.id → ⊥
    new (x, m, e) = not_has (reverse H) u.id (new_in (reverse H) u follows) (x, to_log H x m, e)

    side : (s : Side) → Member s w.sides → GoodSide H s → GoodSide (H ++ u ∷ []) s
    side s n g = record {
      agent = g.agent;
      sound = g.sound;
      kept = g.kept;
      kept_part = g.kept_part;
      kept_whole = g.kept_whole;
      own = g.own;
      kept_own = g.kept_own;
      part = λ x m. member_append_left x H (u ∷ []) (g.part x m);
      landed = λ x m i. elim (member_append_cases x H (u ∷ []) m) [
        | inl a ↦ g.landed x a i
        | inr (inl e) ↦ subst (λ (t : UpdateView). Member t (kept_all s)) e (owned s n (subst (λ (t : UpdateView). IsName s.agent t.id) (sym e) i))
        | inr (inr b) ↦ absurd b
      ];
      reads = read_on H s.confirmed u (λ v h. has_part s.confirmed H g.part v h) new s.reading g.reads;
    }

-- a PUT that a side makes of its first unsent version
post_good : (w : World) → GoodWorld w → (k : ℕ) (s : Side) → Member s w.sides → (os : List UpdateView) → s.unsent ≡ os → GoodWorld (posts_first k s os w)
post_good w good k s m [] e = good
post_good w good k s m (u ∷ os) e = go (is_some (find_in u.id s.kept_confirmed)) (is_some (find_in u.id s.kept_unsent)) refl refl
  where
    g : GoodSide w.history s
    g = good.sides s m

    here : Member u s.unsent
    here = subst (Member u) (sym e) (inl refl)

    own : IsName s.agent u.id
    own = g.own u here

    -- the kept update with its identifier is the same
    the_same : (x : UpdateView) → Member x (kept_all s) → x.id ≡ u.id → Member u (kept_all s)
    the_same x n f = subst (λ (t : UpdateView). Member t (kept_all s)) (one_of (side_all s) g.sound.legal x u (g.kept_whole x n) (member_append_right u s.confirmed s.unsent here) f) n

    look : (xs : List UpdateView) → ((x : UpdateView) → Member x xs → Member x (kept_all s)) → is_some (find_in u.id xs) ≡ true → Member u (kept_all s)
    look xs sub h = by (find_in u.id xs) refl h
      where
        by : (o : Option UpdateView) → find_in u.id xs ≡ o → is_some o ≡ true → Member u (kept_all s)
        by None f h = cc
        by (Some x) f h = let p = found u.id xs x f in the_same x (sub x p.0) p.1

    below : Follows (reverse s.confirmed) u
    below = (legal_back (reverse os) (u ∷ reverse s.confirmed) (subst IsLegalLog split g.sound.legal)).0
      where
        split : reverse (s.confirmed ++ s.unsent) ≡ reverse os ++ u ∷ reverse s.confirmed
        split = ap (λ t. reverse (s.confirmed ++ t)) e ∙ ap reverse (sym (append_assoc s.confirmed (u ∷ []) os)) ∙ log_parts (s.confirmed ++ u ∷ []) os ∙ ap (λ t. reverse os ++ t) (log_more s.confirmed u)

    put : Member u (kept_all s) → GoodPut w.history w.sides u
    put n = record {
      made = (s, m, n, own);
      owned = λ t k i. subst (λ (x : Side). Member u (kept_all x)) (one_side w.sides good.different s t m k (one_agent s.agent t.agent u.id g.agent (good.sides t k).agent own i)) n;
      parents = λ p k. let h = follows_held (reverse s.confirmed) u below p k in (h.0, g.part h.0 (of_log s.confirmed h.0 h.1), h.2);
    }

    posted : Member u (kept_all s) → GoodWorld (record { history = w.history; sides = w.sides; puts = w.puts ++ record { by = k; update = u } ∷ []; replies = w.replies })
    posted n = record {
      legal = good.legal;
      different = good.different;
      sides = good.sides;
      replies = good.replies;
      puts = λ p j. elim (member_append_cases p w.puts (record { by = k; update = u } ∷ []) j) [
        | inl a ↦ good.puts p a
        | inr (inl f) ↦ subst (λ (q : Posted). GoodPut w.history w.sides q.update) f (put n)
        | inr (inr b) ↦ absurd b
      ];
    }

    go : (a b : Bool) → is_some (find_in u.id s.kept_confirmed) ≡ a → is_some (find_in u.id s.kept_unsent) ≡ b
        → GoodWorld (cond (a || b) (record { history = w.history; sides = w.sides; puts = w.puts ++ record { by = k; update = u } ∷ []; replies = w.replies }) w)
    go true b f h = posted (look s.kept_confirmed (λ x n. member_append_left x s.kept_confirmed s.kept_unsent n) f)
    go false true f h = posted (look s.kept_unsent (λ x n. member_append_right x s.kept_confirmed s.kept_unsent n) h)
    go false false f h = good

-- a PUT lands
land_good : (w : World) → GoodWorld w → (full : Bool) (p : Posted) → Member p w.puts → GoodWorld (lands full (Some p) w)
land_good w good full p m = go (refusal_in (reverse H) u) full refl
  where
    H : List UpdateView
    H = w.history

    u : UpdateView
    u = p.update

    g : GoodPut H w.sides u
    g = good.puts p m

    built : IsProper u
    built = by g.made
      where
        by : (s : Side) × Member s w.sides × Member u (kept_all s) × IsName s.agent u.id → IsProper u
        by (s, k, n, i) = update_in (reverse (kept_all s)) (good.sides s k).kept.legal u (to_log (kept_all s) u n)

    Next : Accept → World
    Next a = record { history = after H u a; sides = w.sides; puts = w.puts; replies = w.replies ++ record { by = p.by; id = u.id; status = status_of a } ∷ [] }

    -- a reply that changes nothing of the history
    reply : (a : Accept) → after H u a ≡ H → (status_of a ≡ 200 → Has H u.id) → GoodWorld (Next a)
    reply a e h = subst (λ (K : List UpdateView). GoodWorld (record { history = K; sides = w.sides; puts = w.puts; replies = w.replies ++ record { by = p.by; id = u.id; status = status_of a } ∷ [] })) (sym e) (record {
      legal = good.legal;
      different = good.different;
      sides = good.sides;
      puts = good.puts;
      replies = λ r n s. elim (member_append_cases r w.replies (record { by = p.by; id = u.id; status = status_of a } ∷ []) n) [
        | inl b ↦ good.replies r b s
        | inr (inl f) ↦ subst (λ (q : Answered). Has H q.id) f (h (ap (λ (q : Answered). q.status) f ∙ s))
        | inr (inr b) ↦ absurd b
      ];
    })

    refused : (a : Accept) → IsRefused a → GoodWorld (Next a)
    refused New h = absurd h
    refused Known h = absurd h
    refused (Clash v) h = reply (Clash v) refl (λ e. absurd (omega (arith, e)))
    refused (UnknownParent v) h = reply (UnknownParent v) refl (λ e. absurd (omega (arith, e)))
    refused (OutOfRange n len) h = reply (OutOfRange n len) refl (λ e. absurd (omega (arith, e)))
    refused (Full which need room) h = reply (Full which need room) refl (λ e. absurd (omega (arith, e)))
    refused Memory h = reply Memory refl (λ e. absurd (omega (arith, e)))

    go : (o : Option Accept) (full : Bool) → refusal_in (reverse H) u ≡ o → GoodWorld (Next (unwrap_or o (cond full (Full Versions 1 0) New)))
    go (Some a) full e = elim (refusal_cases (reverse H) u a e) [
      | inl (f, n) ↦ subst (λ (b : Accept). GoodWorld (Next b)) (sym f) (reply Known refl (λ s. (u, of_log H u n, refl)))
      | inr r ↦ refused a r
    ]
    go None true e = refused (Full Versions 1 0) tt
    go None false e = joined_good w u (w.replies ++ record { by = p.by; id = u.id; status = 200 } ∷ []) good (follows_from (reverse H) u e built.named built.rising built.built) g.owned (λ r n s. elim (member_append_cases r w.replies (record { by = p.by; id = u.id; status = 200 } ∷ []) n) [
      | inl b ↦ has_part H (H ++ u ∷ []) (λ x k. member_append_left x H (u ∷ []) k) r.id (good.replies r b s)
      | inr (inl f) ↦ (u, member_append_right u H (u ∷ []) (inl refl), ap (λ (q : Answered). q.id) f)
      | inr (inr b) ↦ absurd b
    ])

-- a foreign update
foreign_none : (v : List ℕ) (ss : List Side) → is_foreign v ss ≡ true → (s : Side) → Member s ss → IsName s.agent v → ⊥
foreign_none v [] h s m i = m
foreign_none v (x ∷ ss) h s (inl e) i = let p = and_cases (not (is_some (number x.agent v))) (is_foreign v ss) h in
    let t : is_some (number x.agent v) ≡ true = subst (λ (a : List ℕ). is_some (number a v) ≡ true) (ap agent_of (sym e)) (name_numbered s.agent v i) in
    let f : is_some (number x.agent v) ≡ false = not_true (is_some (number x.agent v)) p.0 in cc
foreign_none v (x ∷ ss) h s (inr m) i = foreign_none v ss (and_cases (not (is_some (number x.agent v))) (is_foreign v ss) h).1 s m i

join_good : (w : World) → GoodWorld w → (u : UpdateView) → GoodWorld (joins u w)
join_good w good u = go (is_foreign u.id w.sides) (is_update u) (refusal_in (reverse w.history) u) refl refl refl
  where
    go : (a b : Bool) (o : Option Accept) → is_foreign u.id w.sides ≡ a → is_update u ≡ b → refusal_in (reverse w.history) u ≡ o
        → GoodWorld (cond (a && (b && not (is_some o))) (record { history = w.history ++ u ∷ []; sides = w.sides; puts = w.puts; replies = w.replies }) w)
    go false b o e f h = good
    go true false o e f h = good
    go true true (Some x) e f h = good
    go true true None e f h = let built = update_from u f in joined_good w u w.replies good (follows_from (reverse w.history) u h built.named built.rising built.built) (λ s m i. absurd (foreign_none u.id w.sides e s m i))
        (λ r n s. has_part w.history (w.history ++ u ∷ []) (λ x k. member_append_left x w.history (u ∷ []) k) r.id (good.replies r n s))

reply_good : (w : World) → GoodWorld w → (o : Option Answered) → ((r : Answered) → o ≡ Some r → Member r w.replies) → GoodWorld (replied o w)
reply_good w good None there = good
reply_good w good (Some r) there = go (r.status == 200) refl
  where
    is : (r.status == 200) ≡ true → r.status ≡ 200
    is h = grind (arith, nat_tests)

    go : (b : Bool) → (r.status == 200) ≡ b → GoodWorld (cond b (at_side r.by (acks r.id) w) w)
    go true e = at_side_good r.by (acks r.id) w good (λ s m. ack_side w.history good.legal r.id (good.replies r (there r refl) (is e)) s (good.sides s m))
    go false e = good

pub step_good : (limits : Room) (w : World) (e : Event) → GoodWorld w → GoodWorld (step limits w e)
step_good limits w (Write k c) good = at_side_good k (writes limits c) w good (λ s m. write_side limits c w.history s (good.sides s m))
step_good limits w (Open k) good = at_side_good k opens w good (λ s m. open_side w.history s (good.sides s m))
step_good limits w (Carry k) good = at_side_good k (carries limits w.history) w good (λ s m. carry_side limits w.history good.legal s (good.sides s m))
step_good limits w (Cut k) good = at_side_good k cuts w good (λ s m. cut_side w.history s (good.sides s m))
step_good limits w (Keep k) good = at_side_good k keeps w good (λ s m. keep_side w.history s (good.sides s m))
step_good limits w (Back k) good = at_side_good k goes_back w good (λ s m. back_side w.history s (good.sides s m))
step_good limits w (Post k) good = go (slice_get w.sides k) refl
  where
    go : (o : Option Side) → slice_get w.sides k ≡ o → GoodWorld (posts k o w)
    go None e = good
    go (Some s) e = post_good w good k s (get_member w.sides k s e) s.unsent refl
step_good limits w (Land k full) good = go (slice_get w.puts k) refl
  where
    go : (o : Option Posted) → slice_get w.puts k ≡ o → GoodWorld (lands full o w)
    go None e = good
    go (Some p) e = land_good w good full p (get_member w.puts k p e)
step_good limits w (Ack k) good = reply_good w good (slice_get w.replies k) (λ r e. get_member w.replies k r e)
step_good limits w (Foreign u) good = join_good w good u

pub run_good : (limits : Room) (es : List Event) (w : World) → GoodWorld w → GoodWorld (run limits es w)
run_good limits [] w good = good
run_good limits (e ∷ es) w good = run_good limits es (step limits w e) (step_good limits w e good)

pub start_good : (agents : List (List ℕ)) → ((a : List ℕ) → Member a agents → IsAgent a) → AreDifferent agents → GoodWorld (start agents)
start_good agents each different = record {
  legal = tt;
  different = subst AreDifferent (sym (agents_of agents)) different;
  sides = λ s m. side agents each s m;
  puts = λ p m. absurd m;
  replies = λ r m. absurd m;
}
  where
    agents_of : (xs : List (List ℕ)) → map agent_of (map empty_side xs) ≡ xs
    agents_of [] = refl
    agents_of (a ∷ xs) = ap (λ t. a ∷ t) (agents_of xs)

    side : (xs : List (List ℕ)) → ((a : List ℕ) → Member a xs → IsAgent a) → (s : Side) → Member s (map empty_side xs) → GoodSide [] s
    side [] is s m = absurd m
    side (a ∷ xs) is s (inl e) = subst (GoodSide []) e (record {
      agent = is a (inl refl);
      sound = record { legal = tt; chained = tt };
      kept = record { legal = tt; chained = tt };
      part = λ x m. m;
      kept_part = λ x m. m;
      kept_whole = λ x m. m;
      own = λ x m. absurd m;
      kept_own = λ x m. absurd m;
      landed = λ x m i. m;
      reads = tt;
    })
    side (a ∷ xs) is s (inr m) = side xs (λ x n. is x (inr n)) s m
