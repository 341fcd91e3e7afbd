-- The links of a sync on which it sends its unsent updates: each of them is stored and confirmed.
use Rattle.std.proofs.Common.{◌≡◌, ◌≢◌, ℕ, zero, suc, ◌+◌, ◌≤◌, ◌<◌, ◌⊎◌, true, false, List, [], ◌∷◌, ◌++◌, refl, sym, ap, subst, ◌∙◌, inl, inr, length, take, reverse, append_assoc, append-nil, Option, Some, None, unwrap_or, arith}
use Rattle.std.specs.List.{slice_get}
use Rattle.braid_ids.specs.Identifiers.{IsIdentifier}
use Rattle.braid_change.specs.Updates.{UpdateView, IsUpdate}
use Rattle.braid_graph.specs.Entries.{Holds}
use Rattle.braid_tree.specs.Trees.{Member}
use Rattle.braid_tree.proofs.Member.{member_append_right}
use Rattle.braid_rebase.proofs.Members.{contains_member}
use Rattle.braid_text.specs.Histories.{graph_of, IsLegalLog}
use Rattle.braid_text.specs.declared.room.Which.{Which}
use Rattle.braid_text.proofs.Logs.{has_holds, follows_held}
use Rattle.braid_store.specs.declared.entry.Entry.{Entry}
use Rattle.braid_store.specs.declared.put.Put.TheVariants as puts
use Rattle.braid_store.specs.declared.put.Put.{Put as Putting}
use Rattle.braid_store.specs.Books.{of_path, IsLegalBook, counts_at}
use Rattle.braid_store.specs.Answers.{IsPut, limit_of, first_over, counted_answer, answered, put_answer}
use Rattle.braid_store.proofs.Paths.{of_path_own}
use Rattle.braid_store.proofs.Judged.{one}
use Rattle.braid_outbox.specs.Replicas.{ReplicaView, all_of, IsSound}
use Rattle.braid_outbox.specs.Learns.{acked}
use Rattle.braid_outbox.proofs.Moves.{to_log}
use Rattle.braid_http.specs.declared.request.Request.{Request}
use Rattle.braid_http.specs.declared.reply.Reply.{Reply}
use Rattle.braid_http.specs.declared.reply.Reply.TheVariants.{Stored, Error}
use Rattle.braid_http.specs.Replies.{reply_text}
use Rattle.braid_http.specs.Cuts.{Cuts}
use Rattle.braid_session.specs.declared.serving.Serving.{Serving}
use Rattle.braid_session.specs.Answers.{entry_of, put_reply, put_entries}
use Rattle.braid_session.specs.Sessions.{Placed, Course, goes_on, watched, Says, tail_text, SessionText, whole, unmarked, watching}
use Rattle.braid_session.proofs.OneAnswers.{legal_take}
use Rattle.braid_session.proofs.Pieces.{path_front, front_of_book}
use Rattle.braid_sync.specs.declared.place.Place.{Place}
use Rattle.braid_sync.specs.declared.end.SyncEnd.{SyncEnd}
use Rattle.braid_sync.specs.declared.end.SyncEnd.TheVariants as ends
use Rattle.braid_sync.specs.Talks.{Said, offered, nothing_failed, write_failed, dial_failed}
use Rattle.braid_sync.specs.Opening.{IsPlace}
use Rattle.braid_sync.specs.Posting.{put_text, put_texts, Acknowledges, Confirms, Posts, posted, unwritten, unanswered, unaided}
use Rattle.braid_sync.specs.Syncs.{PostsAll, all_sent, next_link, link_failed, no_link, no_room}
use Rattle.braid_world.specs.Progress.{IsBeside, IsBrought}
use Rattle.braid_session.specs.InTurn.{StandAt, AreInTurn, IsInTurn}
use Rattle.braid_world.specs.WholeSyncs.{IsServed, AreServed, EndsByItself}
use Rattle.braid_world.proofs.Progress as progress
use Rattle.braid_world.proofs.HeadRead.{all_of_members}
use Rattle.braid_world.proofs.PutRead.{put_for, put_decides, put_means}
use Rattle.braid_world.proofs.StoredRead.{IsRead, stored_read, full_read, full_reason}
use Rattle.braid_world.proofs.RepliesRead.{reply_taken, reply_ends}
use Rattle.braid_world.proofs.FirstAsked.{FirstIs, first_asked, Stops, none_asked, none_above, IsStored, stored}

-- each update of a legal history is one that the program can hold

named_in : (us : List UpdateView) → IsLegalLog us → (u : UpdateView) → Member u us → IsIdentifier u.id
named_in (w ∷ us) legal u (inl e) = subst (λ (x : UpdateView). IsIdentifier x.id) e legal.0.named
named_in (w ∷ us) legal u (inr m) = named_in us legal.1 u m
named_in [] legal u m = absurd m

log_updates : (us : List UpdateView) → IsLegalLog us → (u : UpdateView) → Member u us → IsUpdate u
log_updates (w ∷ us) legal u (inl e) = subst IsUpdate e (record {
  identifier = legal.0.named;
  identifiers = all_of_members IsIdentifier w.parents (λ p m. let h = follows_held us w legal.0 p m in subst IsIdentifier h.2 (named_in us legal.1 h.0 h.1));
  rising = legal.0.rising;
  built = legal.0.built;
})
log_updates (w ∷ us) legal u (inr m) = log_updates us legal.1 u m
log_updates [] legal u m = absurd m

-- so is the first unsent one of a sound replica
head_update : (m : ReplicaView) (u : UpdateView) (us : List UpdateView) → IsSound m → m.unsent ≡ u ∷ us → IsUpdate u
head_update m u us sound e = log_updates (reverse (all_of m)) sound.legal u (to_log (all_of m) u (member_append_right u m.confirmed m.unsent (subst (Member u) (sym e) (inl refl))))

-- the front up to an entry, and that entry
front_next : {A : Type 0} (xs : List A) (k : ℕ) (x : A) → slice_get xs k ≡ Some x → take (suc k) xs ≡ take k xs ++ x ∷ []
front_next {A} [] k x h = cc
front_next {A} (y ∷ xs) zero x h = let e : y ≡ x = cc in ap (λ (t : A). t ∷ []) e
front_next {A} (y ∷ xs) (suc k) x h = ap (λ (t : List A). y ∷ t) (front_next xs k x h)

front_more : {A : Type 0} (xs : List A) (k : ℕ) (x : A) → slice_get xs k ≡ Some x → take (k + 1) xs ≡ take k xs ++ x ∷ []
front_more {A} xs k x h = let e : k + 1 ≡ suc k = omega arith in ap (λ (i : ℕ). take i xs) e ∙ front_next xs k x h

some_reply : (a b : Reply) → Some a ≡ Some b → a ≡ b
some_reply a b e = cc

-- what may be answered to an update that is known or may follow
data Taken (answer : Putting) : Type 0 where
  is_known : answer ≡ puts.Known → Taken answer
  is_new : answer ≡ puts.New → Taken answer
  is_full : (which : Which) → answer ≡ puts.Full which (limit_of which) → Taken answer

counted_taken : (o : Option Which) (answer : Putting) → answer ≡ counted_answer o → Taken answer
counted_taken None answer e = is_new e
counted_taken (Some which) answer e = is_full which e

module _ (s : Serving) (book : List Entry) (place : Place) (r : ReplicaView) (n : ℕ) (on : s.puts ≡ true) (legal : IsLegalBook book) (place_is : IsPlace place)
    (beside : IsBeside (of_path book place.path) (of_path (take n book) place.path) r) where
  abbrev H : List UpdateView
  H = of_path book place.path

  abbrev front_at : ℕ → List UpdateView
  front_at m = of_path (take m book) place.path

  -- the replica was brought on by the front up to here
  record Brought (low : ℕ) (m : ReplicaView) : Type 0 where
    above : n ≤ low
    is : IsBrought (front_at low) r m

  beside_at : (m : ℕ) → n ≤ m → IsBeside H (front_at m) r
  beside_at m l = progress.stays_beside.beside H (front_at n) (front_at m) r beside (path_front book place.path [] legal n m l) (front_of_book book place.path [] legal m)

  brought_on : (low high : ℕ) (m : ReplicaView) → low ≤ high → Brought low m → Brought high m
  brought_on low high m l b = record {
    above = (let a = b.above in omega (arith, a, l));
    is = progress.stays_beside.brought (front_at low) (front_at high) r m b.is (path_front book place.path [] legal low high l);
  }

  -- an update that is put at a mark is known, new, or there is no room for it
  taken : (mark by : ℕ) (m : ReplicaView) (u : UpdateView) (us : List UpdateView) (answer : Putting) → Brought mark m → m.unsent ≡ u ∷ us → IsUpdate u
      → IsPut (take mark book) (entry_of by place.path u) answer → answer ≢ puts.Memory → Taken answer
  taken mark by m u us answer b e good is other = elim (progress.put_is_taken H (front_at mark) r m u us (beside_at mark b.above) b.is e) [
    | inl k ↦ is_known (fits ∙ ap (answered (take mark book) (entry_of by place.path u)) k)
    | inr k ↦ counted_taken (first_over (counts_at (take mark book ++ entry_of by place.path u ∷ []) place.path)) answer (fits ∙ ap (answered (take mark book) (entry_of by place.path u)) k)
  ]
    where
      fits : answer ≡ put_answer (take mark book) (entry_of by place.path u)
      fits = one (take mark book) (entry_of by place.path u) (legal_take mark book legal) good.rising answer is other

  -- once it is there, it is confirmed
  confirmed_at : (low : ℕ) (m : ReplicaView) (u : UpdateView) (us : List UpdateView) → Brought low m → m.unsent ≡ u ∷ us → Member u (front_at low)
      → (acked u.id m ≡ record { agent = m.agent; confirmed = m.confirmed ++ u ∷ []; unsent = us }) × Brought low (acked u.id m)
  confirmed_at low m u us b e there =
      let held : Holds (graph_of (front_at low)) u.id = has_holds (front_at low) u.id (u, there, refl) in
      let k = progress.put_is_confirmed H (front_at low) r m u us (beside_at low b.above) b.is e held in
      (k.0, record { above = b.above; is = k.1 })

  -- what is left of a session: the bytes that it still reads, those that it still writes, and the marks
  record At (k : ℕ) (bytes given left : List ℕ) (high : ℕ) (m : ReplicaView) : Type 0 where
    by : ℕ
    low : ℕ
    requests : List Request
    rest : List ℕ
    marks : List ℕ
    entries : List Placed
    text : List ℕ
    course : Course
    behind : List ℕ
    cut : Cuts k false bytes requests rest
    says : Says s by book requests marks entries text course
    stops : Stops k requests rest course
    in_turn : AreInTurn s by book requests marks entries text course says low high
    offers : given ++ left ≡ text ++ behind
    brought : Brought low m

  -- The next reply: the update is stored, and what is left of the session follows; or there was no room.
  record Replied (k : ℕ) (u : UpdateView) (us : List UpdateView) (more given left : List ℕ) (high : ℕ) (m : ReplicaView) : Type 0 where
    reply : Reply
    rest : List ℕ
    offers : given ++ left ≡ reply_text false reply ++ rest
    how : (IsRead reply 200 0 × ((next : List ℕ) → next ++ left ≡ rest → At (k + 1) more next left high (acked u.id m))
        × (acked u.id m ≡ record { agent = m.agent; confirmed = m.confirmed ++ u ∷ []; unsent = us }))
        ⊎ ((size : ℕ) × IsRead reply 507 size)

  module _ (k : ℕ) (u : UpdateView) (us : List UpdateView) (more given left : List ℕ) (high : ℕ) (m : ReplicaView) (few : k < 10_000) (next : m.unsent ≡ u ∷ us)
      (at : At k (put_text place u ++ more) given left high m) where
    abbrev q : Request
    q = put_for place.server place.path u

    good : IsUpdate u
    good = head_update m u us at.brought.is.sound next

    first : FirstIs k q more at.requests at.rest
    first = first_asked s at.by book k q (put_text place u) more (put_text place u ++ more) at.requests at.rest at.marks at.entries at.text at.course
        (put_decides place.server place.path u place_is.server place_is.path good) refl few at.cut at.says at.stops

    -- the same with that request at the front
    record Front : Type 0 where
      says : Says s at.by book (q ∷ first.others) at.marks at.entries at.text at.course
      stops : Stops k (q ∷ first.others) at.rest at.course
      in_turn : AreInTurn s at.by book (q ∷ first.others) at.marks at.entries at.text at.course says at.low high

    front : Front
    front = go at.requests first.are at.says at.stops at.in_turn
      where
        go : (qs : List Request) → qs ≡ q ∷ first.others → (x : Says s at.by book qs at.marks at.entries at.text at.course) → Stops k qs at.rest at.course
            → AreInTurn s at.by book qs at.marks at.entries at.text at.course x at.low high → Front
        go qs e x stops t = subst (λ (ps : List Request). (y : Says s at.by book ps at.marks at.entries at.text at.course) → Stops k ps at.rest at.course
            → AreInTurn s at.by book ps at.marks at.entries at.text at.course y at.low high → Front) (sym e) (λ y w z. record { says = y; stops = w; in_turn = z }) x stops t

    put : IsStored s at.by book q u first.others at.text at.course at.low high
    put = stored s at.by book q u first.others at.marks at.entries at.text at.course at.low high (put_means s place.server place.path u on place_is.path good) front.says front.in_turn

    brought_here : Brought put.mark m
    brought_here = brought_on at.low put.mark m put.above at.brought

    not_memory : put.answer ≢ puts.Memory
    not_memory e = let k : put_reply u.id puts.Memory ≡ Some put.reply = subst (λ (a : Putting). put_reply u.id a ≡ Some put.reply) e put.replied in let z : None ≡ Some put.reply = k in cc

    stops_on : (course : Course) → Stops k (q ∷ first.others) at.rest course → Stops (k + 1) first.others at.rest course
    stops_on goes_on h = h
    stops_on (watched b) h = tt

    reply_offers : given ++ left ≡ reply_text false put.reply ++ (put.more ++ at.behind)
    reply_offers = at.offers ∙ ap (λ (z : List ℕ). z ++ at.behind) put.spelled ∙ append_assoc (reply_text false put.reply) put.more at.behind

    -- it is there at the next mark
    abbrev low : ℕ
    low = put.mark + length (put_entries (entry_of at.by place.path u) put.answer)

    on_from : Member u (front_at low) → Brought low m → put.reply ≡ Stored u.id → Replied k u us more given left high m
    on_from there b is =
        let c = confirmed_at low m u us b next there in
        record {
          reply = put.reply;
          rest = put.more ++ at.behind;
          offers = reply_offers;
          how = inl (
            subst (λ (p : Reply). IsRead p 200 0) (sym is) (stored_read u.id good.identifier),
            (λ given_next e. record {
              by = at.by;
              low = low;
              requests = first.others;
              rest = at.rest;
              marks = put.marks;
              entries = put.entries;
              text = put.more;
              course = at.course;
              behind = at.behind;
              cut = first.cut;
              says = put.says;
              stops = stops_on at.course front.stops;
              in_turn = put.in_turn;
              offers = e;
              brought = c.1;
            }),
            c.0,
          );
        }

    low_is : (a : Putting) → put.answer ≡ a → low ≡ put.mark + length (put_entries (entry_of at.by place.path u) a)
    low_is a e = ap (λ (x : Putting). put.mark + length (put_entries (entry_of at.by place.path u) x)) e

    brought_low : Brought low m
    brought_low = brought_on put.mark low m (omega arith) brought_here

    stored_reply : (a : Putting) → put.answer ≡ a → put_reply u.id a ≡ Some (Stored u.id) → put.reply ≡ Stored u.id
    stored_reply a e h = some_reply put.reply (Stored u.id) (sym (subst (λ (x : Putting). put_reply u.id x ≡ Some put.reply) e put.replied) ∙ h)

    go_on : Taken put.answer → Replied k u us more given left high m
    go_on (is_known e) = on_from there brought_low (stored_reply puts.Known e refl)
      where
        same : put.mark ≡ low
        same = sym (low_is puts.Known e ∙ (let z : put.mark + 0 ≡ put.mark = omega arith in z))

        here : Member u (front_at put.mark)
        here = contains_member (front_at put.mark) u (subst (λ (a : Putting). IsPut (take put.mark book) (entry_of at.by place.path u) a) e put.is_put)

        there : Member u (front_at low)
        there = subst (λ (i : ℕ). Member u (front_at i)) same here
    go_on (is_new e) = on_from there brought_low (stored_reply puts.New e refl)
      where
        entry : Entry
        entry = entry_of at.by place.path u

        stands : slice_get book put.mark ≡ Some entry
        stands = (subst (λ (a : Putting). StandAt book put.mark (put_entries (entry_of at.by place.path u) a)) e put.stands).0

        more_is : front_at (put.mark + 1) ≡ front_at put.mark ++ u ∷ []
        more_is = ap (λ (B : List Entry). of_path B place.path) (front_more book put.mark (entry_of at.by place.path u) stands) ∙ of_path_own (take put.mark book) (entry_of at.by place.path u)

        here : Member u (front_at (put.mark + 1))
        here = subst (Member u) (sym more_is) (member_append_right u (front_at put.mark) (u ∷ []) (inl refl))

        there : Member u (front_at low)
        there = subst (λ (i : ℕ). Member u (front_at i)) (sym (low_is puts.New e)) here
    go_on (is_full which e) = record {
      reply = put.reply;
      rest = put.more ++ at.behind;
      offers = reply_offers;
      how = inr (length (full_reason which (limit_of which)) + 1, subst (λ (p : Reply). IsRead p 507 (length (full_reason which (limit_of which)) + 1)) (sym is) (full_read which));
    }
      where
        is : put.reply ≡ Error 507 (full_reason which (limit_of which)) false
        is = some_reply put.reply (Error 507 (full_reason which (limit_of which)) false) (sym (subst (λ (x : Putting). put_reply u.id x ≡ Some put.reply) e put.replied))

    replied_to : Replied k u us more given left high m
    replied_to = go_on (taken put.mark at.by m u us put.answer brought_here next good put.is_put not_memory)

  -- the updates that were acknowledged went to the confirmed ones
  posts_on : (us : List UpdateView) (k : ℕ) (extra given behind : List ℕ) (told : Option (List ℕ)) (high : ℕ) (m q : ReplicaView)
      → k + length us ≤ 10_000 → Confirms m us q → At k (put_texts place us ++ extra) given (unwrap_or told []) high m → Acknowledges us given behind told → At (k + length us) extra behind (unwrap_or told []) high q
  posts_on [] k extra given behind told high m q few c at a =
      let same : m ≡ q = (λ i. record { agent = sym c.agent i; confirmed = (sym (append-nil m.confirmed) ∙ sym c.confirmed) i; unsent = c.unsent i }) in
      let none : k ≡ k + 0 = omega arith in
      subst (λ (j : ℕ). At j extra behind (unwrap_or told []) high q) none (subst (λ (x : ReplicaView). At k extra behind (unwrap_or told []) high x) same (subst (λ (z : List ℕ). At k extra z (unwrap_or told []) high m) a at))
  posts_on (u ∷ us) k extra given behind told high m q few c at (more, reply, others) =
      subst (λ (j : ℕ). At j extra behind (unwrap_or told []) high q) (let z : (k + 1) + length us ≡ k + length (u ∷ us) = omega arith in z)
      (go (λ d next. posts_on us (k + 1) extra more behind told high (acked u.id m) q (omega (arith, few)) d next others) turn.how)
    where
      unsent : m.unsent ≡ u ∷ (us ++ q.unsent)
      unsent = c.unsent

      texts : put_texts place (u ∷ us) ++ extra ≡ put_text place u ++ (put_texts place us ++ extra)
      texts = append_assoc (put_text place u) (put_texts place us) extra

      turn : Replied k u (us ++ q.unsent) (put_texts place us ++ extra) given (unwrap_or told []) high m
      turn = replied_to k u (us ++ q.unsent) (put_texts place us ++ extra) given (unwrap_or told []) high m (omega (arith, few)) unsent (subst (λ (z : List ℕ). At k z given (unwrap_or told []) high m) texts at)

      go : (Confirms (acked u.id m) us q → At (k + 1) (put_texts place us ++ extra) more (unwrap_or told []) high (acked u.id m) → At ((k + 1) + length us) extra behind (unwrap_or told []) high q)
          → (IsRead turn.reply 200 0 × ((z : List ℕ) → z ++ unwrap_or told [] ≡ turn.rest → At (k + 1) (put_texts place us ++ extra) z (unwrap_or told []) high (acked u.id m))
          × (acked u.id m ≡ record { agent = m.agent; confirmed = m.confirmed ++ u ∷ []; unsent = us ++ q.unsent })) ⊎ ((size : ℕ) × IsRead turn.reply 507 size)
          → At ((k + 1) + length us) extra behind (unwrap_or told []) high q
      go later (inl (read, on, is)) =
          let read_so = reply_taken turn.reply 200 0 read given (unwrap_or told []) turn.rest turn.offers 200 more told reply in
          later (subst (λ (x : ReplicaView). Confirms x us q) (sym is) (record { agent = c.agent; confirmed = c.confirmed ∙ sym (append_assoc m.confirmed (u ∷ []) us); unsent = refl })) (on more read_so.1)
      go later (inr (size, read)) = absurd (let z = (reply_taken turn.reply 507 size read given (unwrap_or told []) turn.rest turn.offers 200 more told reply).0 in omega (arith, z))

  -- the session of a link begins so
  begins : (low high : ℕ) (marks : List ℕ) (said : Said) (m : ReplicaView) → Brought low m → IsServed s book marks low high said → At 0 said.sent said.given (unwrap_or said.left []) high m
  begins low high marks said m b v = go v.course (offered said) refl v.text v.in_turn
    where
      go : (course : Course) (text : List ℕ) → offered said ≡ text → (x : SessionText s v.by book said.sent marks text course) → IsInTurn s v.by book said.sent marks text course x low high → At 0 said.sent said.given (unwrap_or said.left []) high m
      go _ _ e (whole text w) t = record {
        by = v.by;
        low = low;
        requests = w.requests;
        rest = w.rest;
        marks = marks;
        entries = w.entries;
        text = w.front;
        course = goes_on;
        behind = tail_text w.tail;
        cut = w.answered.cut;
        says = w.answered.says;
        stops = (w.tail, w.tail_is);
        in_turn = t;
        offers = e ∙ w.spells;
        brought = b;
      }
      go _ _ e (unmarked text w) t = absurd t
      go _ _ e (watching text stopped w) t = record {
        by = v.by;
        low = low;
        requests = w.requests;
        rest = w.rest;
        marks = marks;
        entries = w.entries;
        text = text;
        course = watched stopped;
        behind = [];
        cut = w.answered.cut;
        says = w.answered.says;
        stops = tt;
        in_turn = t;
        offers = e ∙ sym (append-nil text);
        brought = b;
      }

  -- at its end the replica was brought on up to the highest mark
  ends_at : (k : ℕ) (given left : List ℕ) (high : ℕ) (m : ReplicaView) → At k [] given left high m → Brought high m
  ends_at k given left high m at =
      brought_on at.low high m (none_above s at.by book at.requests at.marks at.entries at.text at.course at.low high at.says at.in_turn (none_asked k false at.requests at.rest at.cut).0) at.brought

  -- one link, where no call failed and no limit was met
  abbrev LinkEnds : ℕ → ReplicaView → Option SyncEnd → Type 0
  LinkEnds high q None = Brought high q
  LinkEnds high q (Some end) = EndsByItself end → end ≡ ends.Memory

  link_ends : (low high : ℕ) (marks : List ℕ) (said : Said) (m q : ReplicaView) (end : Option SyncEnd) → Brought low m → IsServed s book marks low high said → Posts place m said q end → LinkEnds high q end
  link_ends low high marks said m _ _ b v (posted us rest q c few why sent a) =
      ends_at (0 + length us) rest (unwrap_or said.left []) high q (posts_on us 0 [] said.given rest said.left high m q (omega (arith, few)) c
      (subst (λ (z : List ℕ). At 0 z said.given (unwrap_or said.left []) high m) (sent ∙ sym (append-nil (put_texts place us))) (begins low high marks said m b v)) a)
  link_ends low high marks said m _ _ b v (unwritten us u part rest q c few h p sent a) = λ free. absurd (let e : write_failed ≡ nothing_failed = free.unfailed in cc)
  link_ends low high marks said m _ _ b v (unanswered us u rest q end c few h sent a e) = λ free. absurd (go free turn.how)
    where
      at : At (0 + length us) (put_text place u) rest (unwrap_or said.left []) high q
      at = posts_on us 0 (put_text place u) said.given rest said.left high m q (omega (arith, few)) c (subst (λ (z : List ℕ). At 0 z said.given (unwrap_or said.left []) high m) sent (begins low high marks said m b v)) a

      turn : Replied (0 + length us) u h.0 [] rest (unwrap_or said.left []) high q
      turn = replied_to (0 + length us) u h.0 [] rest (unwrap_or said.left []) high q (omega (arith, few)) h.1 (subst (λ (z : List ℕ). At (0 + length us) z rest (unwrap_or said.left []) high q) (sym (append-nil (put_text place u))) at)

      go : EndsByItself end → (IsRead turn.reply 200 0 × ((z : List ℕ) → z ++ unwrap_or said.left [] ≡ turn.rest → At ((0 + length us) + 1) [] z (unwrap_or said.left []) high (acked u.id q))
          × (acked u.id q ≡ record { agent = q.agent; confirmed = q.confirmed ++ u ∷ []; unsent = h.0 })) ⊎ ((size : ℕ) × IsRead turn.reply 507 size) → ⊥
      go free (inl (read, on, is)) = (reply_ends turn.reply 200 0 read rest (unwrap_or said.left []) turn.rest turn.offers end said.left refl e free.unfailed free.is_short).0 refl
      go free (inr (size, read)) = free.is_taken (reply_ends turn.reply 507 size read rest (unwrap_or said.left []) turn.rest turn.offers end said.left refl e free.unfailed free.is_short).1
  link_ends low high marks said m _ _ b v (unaided us u part rest q c few h p sent a) = λ free. refl

  -- all links
  pub record Done (q : ReplicaView) : Type 0 where
    pub sent : q.unsent ≡ []
    pub high : ℕ
    pub above : n ≤ high
    pub brought : IsBrought (of_path (take high book) place.path) r q

  pub links_end : (low : ℕ) (saids : List Said) (m q : ReplicaView) (end : SyncEnd) → n ≤ low → IsBrought (of_path (take low book) place.path) r m → PostsAll place m saids q end → AreServed s book low saids → EndsByItself end
      → ((end ≡ ends.Done) × Done q) ⊎ (end ≡ ends.Memory)
  links_end low _ m _ _ l b (all_sent _ none) v free = inl (refl, record { sent = none; high = low; above = l; brought = b })
  links_end low _ m q end l b (next_link _ middle _ said saids _ some to posts others) (marks, high, v, more) free =
      let x : Brought high middle = link_ends low high marks said m middle None (record { above = l; is = b }) v posts in
      links_end high saids middle q end x.above x.is others more free
  links_end low _ m q end l b (link_failed _ _ said _ some to posts) (marks, high, v, more) free = inr (link_ends low high marks said m q (Some end) (record { above = l; is = b }) v posts free)
  links_end low _ m _ _ l b (no_link _ some) v free = absurd (let e : dial_failed ≡ nothing_failed = free.unfailed in cc)
  links_end low _ m _ _ l b (no_room _ some) v free = inr refl
