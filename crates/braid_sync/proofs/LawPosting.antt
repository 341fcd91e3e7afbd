-- What was given decides how many PUTs were sent on a link, and why no more.
use Rattle.std.proofs.Common.{◌≡◌, ◌≢◌, ℕ, ◌≤◌, ◌<◌, append_assoc, append-nil, List, [], ◌∷◌, ◌++◌, inl, inr, ◌⊎◌, refl, ap, sym, subst, ◌∙◌, length, Option, Some, None, IsSome, arith, length-append}
use Rattle.std.proofs.lemmas.List.{append_cancel_left, nil_from_length}
use Rattle.std.proofs.lemmas.List.Concat.{flat_map-append}
use Rattle.braid_change.specs.Updates.{UpdateView}
use Rattle.braid_outbox.specs.Replicas.{ReplicaView}
use Rattle.braid_sync.specs.declared.place.Place.{Place}
use Rattle.braid_sync.specs.declared.end.SyncEnd.{SyncEnd}
use Rattle.braid_sync.specs.declared.end.SyncEnd.TheVariants as ends
use Rattle.braid_sync.specs.Talks.{Said, Failing, read_failed, write_failed}
use Rattle.braid_sync.specs.Opening.{IsPartOf}
use Rattle.braid_sync.specs.Posting.{put_text, put_texts, Acknowledges, Confirms, IsHeadOf, EndsReply, Posts, posted, unwritten, unanswered, unaided}
use Rattle.braid_sync.specs.Syncs.{failing}
use Rattle.braid_sync.specs.Laws.{AreAlike, IsTold}
use Rattle.braid_sync.proofs.LawFronts.{compare, no_more}
use Rattle.braid_sync.proofs.LawHearing.{Order, same, more, fewer}
use Rattle.braid_sync.proofs.LawReplies.{acknowledged_same, acknowledged_next, taken_or_end, one_end, reply_writes}
use Rattle.braid_sync.proofs.LawSame.{sent_fixed, sent_read, alike_back}

-- a link that carried its PUTs to its end
pub record Carried (place : Place) (r : ReplicaView) (said : Said) (q : ReplicaView) : Type 0 where
  pub us : List UpdateView
  pub rest : List ℕ
  pub confirms : Confirms r us q
  pub few : length us ≤ 1_000
  pub full : (q.unsent ≡ []) ⊎ (length us ≡ 1_000)
  pub sent : said.sent ≡ put_texts place us
  pub taken : Acknowledges us said.given rest said.left

-- the next PUT on a link was not written whole, or not answered as awaited
pub record Stopped (place : Place) (r : ReplicaView) (said : Said) (q : ReplicaView) (end : SyncEnd) : Type 0 where
  pub us : List UpdateView
  pub update : UpdateView
  pub part : List ℕ
  pub rest : List ℕ
  pub confirms : Confirms r us q
  pub few : length us < 1_000
  pub next : IsHeadOf q update
  pub sent : said.sent ≡ put_texts place us ++ part
  pub taken : Acknowledges us said.given rest said.left
  pub how : (IsPartOf part (put_text place update) × (end ≡ ends.WriteFault)) ⊎ ((part ≡ put_text place update) × EndsReply end rest said.left)

abbrev pub PostedAs : Place → ReplicaView → Said → ReplicaView → Option SyncEnd → Type 0
PostedAs place r said q None = Carried place r said q
PostedAs place r said q (Some end) = end ≢ ends.Memory → Stopped place r said q end

pub posted_as : (place : Place) (r : ReplicaView) (said : Said) (q : ReplicaView) (end : Option SyncEnd) → Posts place r said q end → PostedAs place r said q end
posted_as place r said _ _ (posted us rest q c few full s a) = record { us = us; rest = rest; confirms = c; few = few; full = full; sent = s; taken = a }
posted_as place r said _ _ (unwritten us u part rest q c few h p s a) =
    λ n. record { us = us; update = u; part = part; rest = rest; confirms = c; few = few; next = h; sent = s; taken = a; how = inl (p, refl) }
posted_as place r said _ _ (unanswered us u rest q end c few h s a e) =
    λ n. record { us = us; update = u; part = put_text place u; rest = rest; confirms = c; few = few; next = h; sent = s; taken = a; how = inr (refl, e) }
posted_as place r said _ _ (unaided us u part rest q c few h p s a) = λ n. absurd (n refl)

some_text : (place : Place) (u : UpdateView) → 0 < length (put_text place u)
some_text place u = omega arith

texts_more : (place : Place) (us : List UpdateView) (w : UpdateView) (ws : List UpdateView) → put_texts place (us ++ w ∷ ws) ≡ put_texts place us ++ (put_text place w ++ put_texts place ws)
texts_more place us w ws = flat_map-append (put_text place) us (w ∷ ws)

-- of two lists that stand at the front of one, one is the other or has more behind it
fronts : (us vs rs ss : List UpdateView) → us ++ rs ≡ vs ++ ss → Order us vs
fronts us vs rs ss e = elim (compare us rs vs ss e) [ inl k ↦ go us vs k.0 k.1 | inr k ↦ back us vs k.0 k.1 ]
  where
    go : (us vs xs : List UpdateView) → vs ≡ us ++ xs → Order us vs
    go us vs [] e = same (sym (e ∙ append-nil us))
    go us vs (x ∷ xs) e = more x xs e

    back : (us vs xs : List UpdateView) → us ≡ vs ++ xs → Order us vs
    back us vs [] e = same (e ∙ append-nil vs)
    back us vs (x ∷ xs) e = fewer x xs e

pub confirms_order : (r : ReplicaView) (us vs : List UpdateView) (q m : ReplicaView) → Confirms r us q → Confirms r vs m → Order us vs
confirms_order r us vs q m h k = fronts us vs q.unsent m.unsent (sym h.unsent ∙ k.unsent)

-- as many were confirmed: the replica is one
pub confirms_same : (r : ReplicaView) (us vs : List UpdateView) (q m : ReplicaView) → us ≡ vs → Confirms r us q → Confirms r vs m → q ≡ m
confirms_same r us vs q m e h k =
    let agent = h.agent ∙ sym k.agent in
    let confirmed = h.confirmed ∙ ap (λ (t : List UpdateView). r.confirmed ++ t) e ∙ sym k.confirmed in
    let unsent = append_cancel_left us q.unsent m.unsent (sym h.unsent ∙ k.unsent ∙ ap (λ (t : List UpdateView). t ++ m.unsent) (sym e)) in
    λ i. record { agent = agent i; confirmed = confirmed i; unsent = unsent i }

-- the next of the longer list is the next to be sent behind the shorter one
next_is : (r : ReplicaView) (us vs : List UpdateView) (q m : ReplicaView) (u w : UpdateView) (ws : List UpdateView) → Confirms r us q → Confirms r vs m → vs ≡ us ++ w ∷ ws → IsHeadOf q u → w ≡ u
next_is r us vs q m u w ws h k e n =
    let a : q.unsent ≡ w ∷ (ws ++ m.unsent) = append_cancel_left us q.unsent (w ∷ (ws ++ m.unsent)) (sym h.unsent ∙ k.unsent ∙ ap (λ (t : List UpdateView). t ++ m.unsent) e ∙ append_assoc us (w ∷ ws) m.unsent) in
    let b : w ∷ (ws ++ m.unsent) ≡ u ∷ n.0 = sym a ∙ n.1 in
    cc

-- behind a list that is shorter something was unsent
some_unsent : (r : ReplicaView) (us vs : List UpdateView) (q m : ReplicaView) (w : UpdateView) (ws : List UpdateView) → Confirms r us q → Confirms r vs m → vs ≡ us ++ w ∷ ws → q.unsent ≡ [] → ⊥
some_unsent r us vs q m w ws h k e n =
    let a : q.unsent ≡ w ∷ (ws ++ m.unsent) = append_cancel_left us q.unsent (w ∷ (ws ++ m.unsent)) (sym h.unsent ∙ k.unsent ∙ ap (λ (t : List UpdateView). t ++ m.unsent) e ∙ append_assoc us (w ∷ ws) m.unsent) in
    let b : [] ≡ w ∷ (ws ++ m.unsent) = sym n ∙ a in
    cc

longer : (us vs : List UpdateView) (w : UpdateView) (ws : List UpdateView) → vs ≡ us ++ w ∷ ws → length us < length vs
longer us vs w ws e = let n = ap length e in omega (arith, n, length-append us (w ∷ ws))

-- a link that came to its end sent no fewer than another
not_fewer : (place : Place) (r : ReplicaView) (said : Said) (q : ReplicaView) (vs : List UpdateView) (m : ReplicaView) (w : UpdateView) (ws : List UpdateView) → (c : Carried place r said q) → Confirms r vs m → vs ≡ c.us ++ w ∷ ws
    → length vs ≤ 1_000 → ⊥
not_fewer place r said q vs m w ws c k e l = go c.full
  where
    go : (q.unsent ≡ []) ⊎ (length c.us ≡ 1_000) → ⊥
    go (inl n) = some_unsent r c.us vs q m w ws c.confirms k e n
    go (inr n) = let s = longer c.us vs w ws e in omega (arith, s, n, l)

-- links that came to their end sent the same
pub carried_same : (place : Place) (r : ReplicaView) (s t : Said) (q m : ReplicaView) → Carried place r s q → Carried place r t m → (q ≡ m) × (s.sent ≡ t.sent)
carried_same place r s t q m c d = go (confirms_order r c.us d.us q m c.confirms d.confirms)
  where
    go : Order c.us d.us → (q ≡ m) × (s.sent ≡ t.sent)
    go (same e) = (confirms_same r c.us d.us q m e c.confirms d.confirms, c.sent ∙ ap (put_texts place) e ∙ sym d.sent)
    go (more w ws e) = absurd (not_fewer place r s q d.us m w ws c d.confirms e d.few)
    go (fewer w ws e) = absurd (not_fewer place r t m c.us q w ws d c.confirms e c.few)

-- the whole text of a PUT is in no part of one
no_part : (place : Place) (u w : UpdateView) (part tail : List ℕ) → w ≡ u → IsPartOf part (put_text place u) → put_text place w ++ tail ≡ part → ⊥
no_part place u w part tail e p f =
    let k : put_text place u ≡ put_text place w ++ (tail ++ p.0) = p.2 ∙ ap (λ t. t ++ p.0) (sym f) ∙ append_assoc (put_text place w) tail p.0 in
    let l : tail ++ p.0 ≡ [] = no_more (put_text place u) (tail ++ p.0) (k ∙ ap (λ (x : UpdateView). put_text place x ++ (tail ++ p.0)) e) in
    let n = ap length l in
    p.1 (nil_from_length p.0 (omega (arith, n, length-append tail p.0)))

-- a link that stopped sent no more than one that came to its end, and they differ in a read that failed alone
pub carried_or_stopped : (place : Place) (r : ReplicaView) (f : Failing) (s t : Said) (q m : ReplicaView) (end : SyncEnd) → AreAlike f s t → IsTold s → f ≡ failing end → Carried place r s q → Stopped place r t m end → end ≡ ends.ReadFault
carried_or_stopped place r f s t q m end a told fails c d = go (confirms_order r c.us d.us q m c.confirms d.confirms)
  where
    left_told : IsSome t.left
    left_told = subst IsSome a.left told

    taken : Acknowledges c.us t.given c.rest t.left
    taken = subst (λ x. Acknowledges c.us t.given c.rest x) a.left (subst (λ x. Acknowledges c.us x c.rest s.left) a.given c.taken)

    unsent_there : q ≡ m → c.us ≡ d.us → ⊥
    unsent_there e f = by c.full
      where
        by : (q.unsent ≡ []) ⊎ (length c.us ≡ 1_000) → ⊥
        by (inl n) = let k : [] ≡ d.update ∷ d.next.0 = sym n ∙ ap (λ (x : ReplicaView). x.unsent) e ∙ d.next.1 in cc
        by (inr n) = let k = ap length f in let l = d.few in omega (arith, k, l, n)

    go : Order c.us d.us → end ≡ ends.ReadFault
    go (same e) = absurd (unsent_there (confirms_same r c.us d.us q m e c.confirms d.confirms) e)
    go (more w ws e) = let l = d.few in absurd (not_fewer place r s q d.us m w ws c d.confirms e (omega (arith, l)))
    go (fewer w ws e) = by d.how
      where
        next : w ≡ d.update
        next = next_is r d.us c.us m q d.update w ws d.confirms c.confirms e d.next

        by : (IsPartOf d.part (put_text place d.update) × (end ≡ ends.WriteFault)) ⊎ ((d.part ≡ put_text place d.update) × EndsReply end d.rest t.left) → end ≡ ends.ReadFault
        by (inl k) =
            let sent : put_texts place d.us ++ (put_text place w ++ put_texts place ws) ≡ put_texts place d.us ++ d.part = sym (texts_more place d.us w ws) ∙ ap (put_texts place) (sym e) ∙ sym c.sent ∙ sent_fixed f s t a (fails ∙ ap failing k.1) ∙ d.sent in
            absurd (no_part place d.update w d.part (put_texts place ws) next k.0 (append_cancel_left (put_texts place d.us) (put_text place w ++ put_texts place ws) d.part sent))
        by (inr k) =
            let reply = acknowledged_next d.us w ws t.given d.rest c.rest t.left left_told d.taken (subst (λ x. Acknowledges x t.given c.rest t.left) e taken) in
            taken_or_end d.rest reply.0 t.left end left_told reply.1 k.1

-- a link that stopped did not stop before another one
sent_less : (place : Place) (r : ReplicaView) (f : Failing) (s t : Said) (q m : ReplicaView) (end stop : SyncEnd) (w : UpdateView) (ws : List UpdateView) → AreAlike f s t → IsTold s → f ≡ failing end → f ≡ failing stop
    → (c : Stopped place r s q end) → (d : Stopped place r t m stop) → d.us ≡ c.us ++ w ∷ ws → ⊥
sent_less place r f s t q m end stop w ws a told fails alike c d e = by c.how
  where
    left_told : IsSome t.left
    left_told = subst IsSome a.left told

    taken : Acknowledges c.us t.given c.rest t.left
    taken = subst (λ x. Acknowledges c.us t.given c.rest x) a.left (subst (λ x. Acknowledges c.us x c.rest s.left) a.given c.taken)

    first : w ≡ c.update
    first = next_is r c.us d.us q m c.update w ws c.confirms d.confirms e c.next

    behind : s.sent ≡ t.sent → c.part ≡ put_text place w ++ (put_texts place ws ++ d.part)
    behind k = append_cancel_left (put_texts place c.us) c.part (put_text place w ++ (put_texts place ws ++ d.part))
        (sym c.sent ∙ k ∙ d.sent ∙ ap (λ x. put_texts place x ++ d.part) e ∙ ap (λ x. x ++ d.part) (texts_more place c.us w ws) ∙ append_assoc (put_texts place c.us) (put_text place w ++ put_texts place ws) d.part
        ∙ ap (λ x. put_texts place c.us ++ x) (append_assoc (put_text place w) (put_texts place ws) d.part))

    -- nothing stands behind the whole text
    nothing : s.sent ≡ t.sent → c.part ≡ put_text place c.update → d.part ≡ []
    nothing k l =
        let z : put_texts place ws ++ d.part ≡ [] = no_more (put_text place c.update) (put_texts place ws ++ d.part) (sym l ∙ behind k ∙ ap (λ (x : UpdateView). put_text place x ++ (put_texts place ws ++ d.part)) first) in
        let n = ap length z in
        nil_from_length d.part (omega (arith, n, length-append (put_texts place ws) d.part))

    empty : d.part ≡ [] → end ≡ ends.ReadFault → ⊥
    empty z k = at_next d.how
      where
        at_next : (IsPartOf d.part (put_text place d.update) × (stop ≡ ends.WriteFault)) ⊎ ((d.part ≡ put_text place d.update) × EndsReply stop d.rest t.left) → ⊥
        at_next (inl l) = let x : read_failed ≡ write_failed = sym (ap failing k) ∙ sym fails ∙ alike ∙ ap failing l.1 in cc
        at_next (inr l) = let n = ap length (sym l.0 ∙ z) in let some = some_text place d.update in omega (arith, n, some)

    by : (IsPartOf c.part (put_text place c.update) × (end ≡ ends.WriteFault)) ⊎ ((c.part ≡ put_text place c.update) × EndsReply end c.rest s.left) → ⊥
    by (inl k) = no_part place c.update w c.part (put_texts place ws ++ d.part) first k.0 (sym (behind (sent_fixed f s t a (fails ∙ ap failing k.1))))
    by (inr k) =
        let reply = acknowledged_next c.us w ws t.given c.rest d.rest t.left left_told taken (subst (λ x. Acknowledges x t.given d.rest t.left) e d.taken) in
        let z = taken_or_end c.rest reply.0 t.left end left_told reply.1 (subst (EndsReply end c.rest) a.left k.1) in
        empty (nothing (sent_read f s t a (fails ∙ ap failing z)) k.0) z

-- links that stopped sent the same, and stopped for one reason
pub stopped_same : (place : Place) (r : ReplicaView) (s t : Said) (q m : ReplicaView) (end stop : SyncEnd) → AreAlike (failing end) s t → IsTold s → failing end ≡ failing stop → Stopped place r s q end → Stopped place r t m stop
    → (q ≡ m) × (end ≡ stop) × (s.sent ≡ t.sent)
stopped_same place r s t q m end stop a told f c d = go (confirms_order r c.us d.us q m c.confirms d.confirms)
  where
    left_told : IsSome t.left
    left_told = subst IsSome a.left told

    taken : Acknowledges c.us t.given c.rest t.left
    taken = subst (λ x. Acknowledges c.us t.given c.rest x) a.left (subst (λ x. Acknowledges c.us x c.rest s.left) a.given c.taken)

    same_update : q ≡ m → c.update ≡ d.update
    same_update e = let k : c.update ∷ c.next.0 ≡ d.update ∷ d.next.0 = sym c.next.1 ∙ ap (λ (x : ReplicaView). x.unsent) e ∙ d.next.1 in cc

    go : Order c.us d.us → (q ≡ m) × (end ≡ stop) × (s.sent ≡ t.sent)
    go (same e) = by c.how d.how
      where
        here : q ≡ m
        here = confirms_same r c.us d.us q m e c.confirms d.confirms

        rest_same : c.rest ≡ d.rest
        rest_same = acknowledged_same d.us t.given c.rest d.rest t.left left_told (subst (λ x. Acknowledges x t.given c.rest t.left) e taken) d.taken

        by : (IsPartOf c.part (put_text place c.update) × (end ≡ ends.WriteFault)) ⊎ ((c.part ≡ put_text place c.update) × EndsReply end c.rest s.left)
            → (IsPartOf d.part (put_text place d.update) × (stop ≡ ends.WriteFault)) ⊎ ((d.part ≡ put_text place d.update) × EndsReply stop d.rest t.left)
            → (q ≡ m) × (end ≡ stop) × (s.sent ≡ t.sent)
        by (inl k) (inl l) = (here, k.1 ∙ sym l.1, sent_fixed (failing end) s t a (ap failing k.1))
        by (inl k) (inr l) = absurd (reply_writes d.rest t.left stop l.1 (sym f ∙ ap failing k.1))
        by (inr k) (inl l) = absurd (reply_writes c.rest s.left end k.1 (f ∙ ap failing l.1))
        by (inr k) (inr l) = (
          here,
          one_end d.rest t.left end stop left_told (subst (λ x. EndsReply end x t.left) rest_same (subst (EndsReply end c.rest) a.left k.1)) l.1 f,
          c.sent ∙ (λ i. put_texts place (e i) ++ k.0 i) ∙ ap (λ (x : UpdateView). put_texts place d.us ++ put_text place x) (same_update here) ∙ ap (λ x. put_texts place d.us ++ x) (sym l.0) ∙ sym d.sent,
        )
    go (more w ws e) = absurd (sent_less place r (failing end) s t q m end stop w ws a told refl f c d e)
    go (fewer w ws e) = absurd (sent_less place r (failing end) t s m q stop end w ws (alike_back (failing end) s t a) left_told f refl d c e)
