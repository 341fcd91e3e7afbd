-- The link of a sync's subscription: what it is served whole catches up.
use Rattle.std.proofs.Common.{◌≡◌, ◌≢◌, ℕ, zero, suc, reverse, ◌≤◌, List, [], ◌∷◌, ◌++◌, Bool, true, false, refl, sym, ap, subst, ◌∙◌, inl, inr, ◌⊎◌, length, length-append, take, append_assoc, append-nil, take_all, Option, Some, None, unwrap_or, Ok, Err, arith}
use Rattle.std.specs.List.{flat_map, AllByRecursion, Contains}
use Rattle.std.specs.Io.KnownBytes.{IsAtEnd}
use Rattle.braid_ids.specs.Identifiers.{IsIdentifier}
use Rattle.braid_ids.specs.Frontiers.{rising_ids}
use Rattle.braid_ids.proofs.Inserted.{member_rising, member_from_rising}
use Rattle.braid_tree.specs.Trees.{Member}
use Rattle.braid_tree.proofs.Member.{member_append_left}
use Rattle.braid_change.specs.Updates.{UpdateView}
use Rattle.braid_graph.specs.Entries.{HoldsAll}
use Rattle.braid_rebase.proofs.Members.{contains_member, member_contains}
use Rattle.braid_rebase.proofs.Filtered.{take_member}
use Rattle.braid_text.specs.Histories.{graph_of, IsLegal, IsLegalLog}
use Rattle.braid_text.specs.Sent.{sent}
use Rattle.braid_text.specs.Rooms.{replica_limits, limit_of}
use Rattle.braid_text.specs.declared.room.Which.{Which}
use Rattle.braid_text.specs.declared.accept.Accept.TheVariants as accepts
use Rattle.braid_text.proofs.Logs.{Has, has_holds, legal_back}
use Rattle.braid_http.specs.declared.refusal.Refusal.TheVariants.{BadChunk}
use Rattle.braid_http.specs.declared.response.BodyKind.{BodyKind}
use Rattle.braid_http.specs.declared.response.BodyKind.TheVariants.{Chunked}
use Rattle.braid_http.specs.declared.response.ReplyHead.{ReplyHead}
use Rattle.braid_http.specs.declared.request.Request.{Request}
use Rattle.braid_http.specs.Bodies.{IsBody, HasBegun, IsAgainst}
use Rattle.braid_http.specs.Cuts.{Cuts}
use Rattle.braid_http.specs.Responses.{ReplyAnswer, replied, refused, IsReplyDecided, IsReplyOpen}
use Rattle.braid_store.specs.declared.entry.Entry.{Entry}
use Rattle.braid_store.specs.Books.{of_path, IsLegalBook}
use Rattle.braid_outbox.specs.Replicas.{ReplicaView, frontier, resume_of}
use Rattle.braid_outbox.specs.Learns.{Learnt, Confirmed, Judged, learn_answer, learn, told}
use Rattle.braid_outbox.specs.Laws.{IsPart, IsLearnt}
use Rattle.braid_outbox.proofs.Additions.{log_parts}
use Rattle.braid_outbox.proofs.Fronts.{frontier_cases, frontier_rises, take_rises}
use Rattle.braid_session.specs.declared.serving.Serving.{Serving}
use Rattle.braid_session.specs.Sessions.{subscription_head, watch_text, last_chunk, Placed, Says, Course, goes_on, watched, SessionText, whole, unmarked, watching}
use Rattle.braid_session.specs.Pieces.{piece_text, watch_pieces, updates_in, last_mark}
use Rattle.braid_session.proofs.Pieces.{path_front, front_of_book, marks_rise, pieces_spell, all_sent}
use Rattle.braid_sync.specs.declared.place.Place.{Place}
use Rattle.braid_sync.specs.declared.end.SyncEnd.{SyncEnd}
use Rattle.braid_sync.specs.declared.end.SyncEnd.TheVariants as ends
use Rattle.braid_sync.specs.Judging.{judge}
use Rattle.braid_sync.specs.Talks.{Said, offered, nothing_failed, read_failed, write_failed}
use Rattle.braid_sync.specs.Learning.{refusal_end, Learns, HasVersion}
use Rattle.braid_sync.specs.Hearing.{HasData, HaveAll, Hears, IsRefused, EndsHearing}
use Rattle.braid_sync.specs.Opening.{IsPlace, Begun, Opens, opened, ended, unwritten, headless, turned_down, begun, unaided, EndsHead, subscription_text}
use Rattle.braid_sync.specs.Syncs.{Subscribes, not_begun, caught_up, fell_short, failing, IsCut}
use Rattle.braid_world.specs.Progress.{IsFront, IsBeside, IsBrought, IsGood, LearnsAll}
use Rattle.braid_world.specs.ReadBack.{IsSubscription}
use Rattle.braid_session.specs.InTurn.{AreInTurn, IsInTurn}
use Rattle.braid_world.specs.WholeSyncs.{IsServed, EndsByItself}
use Rattle.braid_world.proofs.Progress as progress
use Rattle.braid_world.proofs.FrontRead.{Text, one_head, head_decides, updates_front, no_fault, none_against, all_have, holds, pieces_read}
use Rattle.braid_world.proofs.HeadRead.{frontier_named}
use Rattle.braid_world.proofs.LinkRead.{text_of, judged_head}
use Rattle.braid_world.proofs.AskRead.{asked_for, ask_decides, ask_means}
use Rattle.braid_world.proofs.RepliesRead.{at_end}
use Rattle.braid_world.proofs.FirstAsked.{first_asked, Stops, IsWatched, watched_so}

-- what a client learns is learnt, as a replica beside a history counts on

good_answer : (a : Learnt) → refusal_end (told replica_limits a) ≡ None → IsGood a
good_answer Confirmed h = tt
good_answer (Judged accepts.New) h = tt
good_answer (Judged accepts.Known) h = tt
good_answer (Judged (accepts.Clash v)) h = cc
good_answer (Judged (accepts.UnknownParent v)) h = cc
good_answer (Judged (accepts.OutOfRange patch len)) h = cc
good_answer (Judged (accepts.Full which need room)) h = cc
good_answer (Judged accepts.Memory) h = cc

learns_all : (r q : ReplicaView) (us : List UpdateView) → Learns r us q → LearnsAll replica_limits r us q
learns_all r q [] h = h
learns_all r q (u ∷ us) h = (good_answer (learn_answer replica_limits r u) h.0, learns_all (learn replica_limits r u) q us h.1)

-- an update that may be learnt is refused for want of room alone
refused_full : (a : Learnt) (end : SyncEnd) → IsLearnt a → refusal_end (told replica_limits a) ≡ Some end → failing end ≡ nothing_failed → ((which : Which) (limit : ℕ) → end ≢ ends.Full which limit) → end ≡ ends.Memory
refused_full Confirmed end l h f n = cc
refused_full (Judged accepts.New) end l h f n = cc
refused_full (Judged accepts.Known) end l h f n = cc
refused_full (Judged (accepts.Clash v)) end l h f n = absurd l
refused_full (Judged (accepts.UnknownParent v)) end l h f n = absurd l
refused_full (Judged (accepts.OutOfRange patch len)) end l h f n = absurd l
refused_full (Judged (accepts.Full which need room)) end l h f n = absurd (n which (limit_of replica_limits which) (cc))
refused_full (Judged accepts.Memory) end l h f n = absurd l

-- where an end is there, no call failed and no limit was met
abbrev pub Free : Option SyncEnd → Type 0
Free None = Unit {0}
Free (Some end) = EndsByItself end

-- A replica was brought on by updates of the path up to the last mark, and has all of the first: it holds the version that the
-- server named as the current one, and each update of that history.
pub record CatchesUp (book : List Entry) (n : ℕ) (marks : List ℕ) (path : List ℕ) (r q : ReplicaView) : Type 0 where
  pub brought : IsBrought (of_path (take (last_mark n marks) book) path) r q
  pub held : HoldsAll (graph_of q.confirmed) (frontier (of_path (take n book) path))
  pub had : IsPart (of_path (take n book) path) q.confirmed

-- the text of a subscription is offered whole
record Offers (book : List Entry) (n : ℕ) (marks : List ℕ) (stopped : Bool) (place : Place) (r : ReplicaView) (said : Said) : Type 0 where
  watch : IsSubscription book place.path (resume_of r) n marks
  whole : offered said ≡ watch_text book place.path (resume_of r) n marks ++ last_chunk stopped
  beside : IsBeside (of_path book place.path) (of_path (take n book) place.path) r

module _ (book : List Entry) (n : ℕ) (marks : List ℕ) (stopped : Bool) (place : Place) (r : ReplicaView) (said : Said) (s : Offers book n marks stopped place r said) where
  abbrev F : List (List ℕ)
  F = resume_of r

  abbrev H : List UpdateView
  H = of_path book place.path

  abbrev K : List UpdateView
  K = of_path (take n book) place.path

  abbrev L : List UpdateView
  L = of_path (take (last_mark n marks) book) place.path

  abbrev head : List ℕ
  head = subscription_head (take n book) place.path

  abbrev ps : List (Option UpdateView)
  ps = watch_pieces book place.path F n marks

  abbrev left : List ℕ
  left = unwrap_or said.left []

  front : IsFront (offered said) (watch_text book place.path F n marks ++ last_chunk stopped)
  front = ([], sym s.whole ∙ sym (append-nil (offered said)))

  t : Text head ps (offered said)
  t = text_of book place.path F n marks stopped s.watch (offered said) front

  judged : judge t.reply ≡ Ok (rising_ids (frontier K))
  unfolding t
  judged = judged_head book place.path F n marks stopped s.watch (offered said) front

  -- the fronts of the path's history
  first_front : IsFront K L
  first_front = path_front book place.path F s.watch.legal n (last_mark n marks) (marks_rise n marks s.watch.rising)

  beside : IsBeside H L r
  beside = progress.stays_beside.beside H K L r s.beside first_front (front_of_book book place.path F s.watch.legal (last_mark n marks))

  all_sent_is : updates_in ps ≡ sent L F
  all_sent_is = all_sent book place.path F s.watch.legal n marks s.watch.held s.watch.rising

  no_more_left : IsAtEnd said.left → left ≡ []
  no_more_left h = at_end said.left h

  all_given : IsAtEnd said.left → offered said ≡ said.given
  all_given h = ap (λ (x : List ℕ). said.given ++ x) (no_more_left h) ∙ append-nil said.given

  -- how it is begun
  record Begins (kind : BodyKind) (V : List (List ℕ)) (behind : List ℕ) : Type 0 where
    kind_is : kind ≡ Chunked
    version : V ≡ rising_ids (frontier K)
    given : said.given ≡ head ++ behind

  abbrev Starts : Begun → Type 0
  Starts (opened kind V behind) = Begins kind V behind
  Starts (ended end) = failing end ≡ nothing_failed → end ≡ ends.Memory

  decided : (x : ReplyAnswer) (rest : List ℕ) → IsReplyDecided x said.given rest → (x ≡ replied t.reply) × (said.given ≡ head ++ rest)
  decided x rest d = one_head head ps (offered said) t x said.given rest left d refl

  headless_not : (end : SyncEnd) → EndsHead end said → failing end ≡ nothing_failed → end ≡ ends.Memory
  headless_not ends.Cut h f = absurd (head_decides head ps (offered said) t (flat_map piece_text ps ++ last_chunk stopped) (s.whole ∙ ap (λ (x : List ℕ). x ++ last_chunk stopped) (pieces_spell book place.path F n marks) ∙ append_assoc head (flat_map piece_text ps) (last_chunk stopped)) (subst IsReplyOpen (sym (all_given h.1)) h.0))
  headless_not (ends.BadHead x) h f = absurd (let e : refused x ≡ replied t.reply = (decided (refused x) h.0 h.1).0 in cc)
  headless_not ends.ReadFault h f = absurd (let e : read_failed ≡ nothing_failed = f in cc)
  headless_not end h f = absurd h

  starts : (x : Begun) → Opens place r said x → Starts x
  starts _ (unwritten p g) = λ f. absurd (let e : write_failed ≡ nothing_failed = f in cc)
  starts _ (headless end e h) = λ f. headless_not end h f
  starts _ (turned_down hd rest end e d j) = λ f. absurd (
      let same : replied hd ≡ replied t.reply = (decided (replied hd) rest d).0 in
      let one : hd ≡ t.reply = cc in
      let k : Err end ≡ Ok (rising_ids (frontier K)) = sym j ∙ ap judge one ∙ judged in
      cc
      )
  starts _ (begun hd rest V e d j) =
      let both = decided (replied hd) rest d in
      let same : replied hd ≡ replied t.reply = both.0 in
      let one : hd ≡ t.reply = cc in
      let k : Ok V ≡ Ok (rising_ids (frontier K)) = sym j ∙ ap judge one ∙ judged in
      record { kind_is = ap (λ (x : ReplyHead). x.body) one ∙ t.chunked; version = cc; given = both.1 }
  starts _ (unaided p) = λ f. refl

  -- the body
  module _ (kind : BodyKind) (V : List (List ℕ)) (behind passed rest content : List ℕ) (us : List UpdateView) (q : ReplicaView) (b : Begins kind V behind) (h : Hears kind behind r passed rest content us q) where
    split : offered said ≡ head ++ (passed ++ (rest ++ left))
    split = ap (λ (x : List ℕ). x ++ left) (b.given ∙ ap (λ (x : List ℕ). head ++ x) h.split) ∙ append_assoc head (passed ++ rest) left ∙ ap (λ (x : List ℕ). head ++ x) (append_assoc passed rest left)

    comes : HasData Chunked content passed
    comes = subst (λ (k : BodyKind). HasData k content passed) b.kind_is h.comes

    us_front : IsFront us (sent L F)
    us_front = subst (λ (xs : List UpdateView). IsFront us xs) all_sent_is (updates_front head ps (offered said) t content passed (rest ++ left) comes split us h.begins)

    learnt_all : LearnsAll replica_limits r us q
    learnt_all = learns_all r q us h.learns

    us_part : IsPart us L
    us_part u c = member_contains L u (progress.sent_part H L r beside F u (subst (Member u) (sym us_front.1) (member_append_left u us us_front.0 (contains_member us u c))))

    brought : IsBrought L r q
    brought = progress.learning_brings replica_limits H L r q us beside us_part learnt_all

    holds_first : HasVersion q V → HoldsAll (graph_of q.confirmed) (frontier K)
    holds_first all v c = all v (subst (λ (W : List (List ℕ)). Contains W v) (sym b.version) (member_contains (rising_ids (frontier K)) v (member_rising v (frontier K) (contains_member (frontier K) v c))))

    caught : HasVersion q V → CatchesUp book n marks place.path r q
    caught all = record { brought = brought; held = holds_first all; had = progress.front_is_had H K L r q beside first_front brought (holds_first all) }

    -- where all was learnt, the version is held
    all_held : us ≡ sent L F → HasVersion q V
    all_held e v c = has_holds q.confirmed v (there (frontier_cases K v (member_from_rising v (frontier K) (contains_member (rising_ids (frontier K)) v (subst (λ (W : List (List ℕ)). Contains W v) b.version c)))).0)
      where
        last_held : HoldsAll (graph_of q.confirmed) (frontier L)
        last_held = progress.frontier_is_held replica_limits H L r q beside (subst (λ (xs : List UpdateView). LearnsAll replica_limits r xs q) e learnt_all)

        whole : IsPart L q.confirmed
        whole = progress.front_is_had H L L r q beside ([], sym (append-nil L)) brought last_held

        there : Has K v → Has q.confirmed v
        there (u, m, f) = (u, contains_member q.confirmed u (whole u (member_contains L u (subst (Member u) (sym first_front.1) (member_append_left u K first_front.0 m)))), f)

    all_of_them : IsFront (updates_in ps) us → us ≡ sent L F
    all_of_them (vs, f) = go us_front.0 us_front.1
      where
        go : (ws : List UpdateView) → sent L F ≡ us ++ ws → us ≡ sent L F
        go [] e = sym (append-nil us) ∙ sym e
        go (w ∷ ws) e = absurd (omega (arith, ap length f, length-append (updates_in ps) vs, ap length e, length-append us (w ∷ ws), ap length all_sent_is))

    none_behind : (xs ys : List ℕ) → xs ≡ [] → ys ≡ [] → xs ++ ys ≡ []
    none_behind xs ys e f = ap (λ (x : List ℕ). x ++ ys) e ∙ f

    cut_there : HaveAll us content → IsCut kind content passed rest said.left → us ≡ sent L F
    cut_there have (inl over) = all_have head ps (offered said) t content passed (rest ++ left) comes split us (subst (λ (k : BodyKind). IsBody k content passed) b.kind_is over.is) have.have.completes ∙ all_sent_is
    cut_there have (inr cut) = all_of_them (subst (λ (xs : List (Option UpdateView)). IsFront (updates_in xs) us) whole
        (pieces_read head ps (offered said) t us content (length ps)
        (holds head ps (offered said) t content passed (rest ++ left) comes split (none_behind rest left cut.behind (no_more_left cut.ended)) (inl (subst (λ (k : BodyKind). HasBegun k content passed) b.kind_is cut.begun)))
        have.have.completes
        (last_chunk stopped, s.whole ∙ ap (λ (x : List ℕ). x ++ last_chunk stopped) (pieces_spell book place.path F n marks ∙ ap (λ (xs : List (Option UpdateView)). head ++ flat_map piece_text xs) (sym whole)))))
      where
        whole : take (length ps) ps ≡ ps
        whole = take_all (length ps) ps (omega arith)

    refused_so : (end : SyncEnd) → IsRefused us content q end → failing end ≡ nothing_failed → ((which : Which) (limit : ℕ) → end ≢ ends.Full which limit) → end ≡ ends.Memory
    refused_so end x f room =
        let z = updates_front head ps (offered said) t content passed (rest ++ left) comes split (us ++ x.update ∷ []) x.begins in
        refused_full (learn_answer replica_limits q x.update) end (progress.sent_is_learnt replica_limits H L r q us z.0 x.update beside (sym all_sent_is ∙ z.1 ∙ append_assoc us (x.update ∷ []) z.0) learnt_all) x.refuses f room

    ends_not : (end : SyncEnd) → (HasVersion q V → ⊥) → EndsHearing (IsCut kind content passed rest said.left) kind passed rest content us q end → EndsByItself end → end ≡ ends.Memory
    ends_not ends.Cut none e free = absurd (none (all_held (cut_there e.0 e.1)))
    ends_not (ends.BadHead BadChunk) none e free = absurd (none_against head ps (offered said) t content passed (rest ++ left) comes split (subst (λ (k : BodyKind). IsAgainst k content passed) b.kind_is e.1))
    ends_not (ends.BadStream x) none e free = absurd (no_fault head ps (offered said) t content passed (rest ++ left) comes split us x e)
    ends_not (ends.Clash v) none e free = refused_so (ends.Clash v) e free.unfailed free.has_room
    ends_not (ends.UnknownParent v) none e free = refused_so (ends.UnknownParent v) e free.unfailed free.has_room
    ends_not (ends.OutOfRange patch len) none e free = refused_so (ends.OutOfRange patch len) e free.unfailed free.has_room
    ends_not (ends.Full which limit) none e free = absurd (free.has_room which limit refl)
    ends_not ends.ReadFault none e free = absurd (let k : read_failed ≡ nothing_failed = free.unfailed in cc)
    ends_not ends.Spent none e free = absurd (free.is_short refl)
    ends_not ends.Memory none e free = refl
    ends_not end none e free = absurd e

  whole_here : (q : ReplicaView) (end : Option SyncEnd) → Subscribes place r said q end → Free end → ((end ≡ None) × CatchesUp book n marks place.path r q) ⊎ (end ≡ Some ends.Memory)
  whole_here _ _ (not_begun end o) free = inr (ap Some (starts (ended end) o free.unfailed))
  whole_here _ _ (caught_up kind V behind passed rest content us q o h a v) free = inl (refl, caught kind V behind passed rest content us q (starts (opened kind V behind) o) h v)
  whole_here _ _ (fell_short kind V behind passed rest content us q end o h a none e) free = inr (ap Some (ends_not kind V behind passed rest content us q (starts (opened kind V behind) o) h end none e free))

-- where it resumes

take_named : (k : ℕ) (F : List (List ℕ)) → AllByRecursion IsIdentifier F → AllByRecursion IsIdentifier (take k F)
take_named zero F h = tt
take_named (suc k) [] h = tt
take_named (suc k) (v ∷ F) h = (h.0, take_named k F h.1)

take_few : (k : ℕ) (F : List (List ℕ)) → length (take k F) ≤ k
take_few zero F = omega arith
take_few (suc k) [] = omega arith
take_few (suc k) (v ∷ F) = let h = take_few k F in omega (arith, h)

-- the whole request was sent, or there was no memory

abbrev Sent : Place → ReplicaView → Said → Begun → Type 0
Sent place r said (opened kind V behind) = said.sent ≡ subscription_text place r
Sent place r said (ended end) = failing end ≡ nothing_failed → (said.sent ≡ subscription_text place r) ⊎ (end ≡ ends.Memory)

opens_sent : (place : Place) (r : ReplicaView) (said : Said) (x : Begun) → Opens place r said x → Sent place r said x
opens_sent place r said _ (unwritten p g) = λ f. absurd (let e : write_failed ≡ nothing_failed = f in cc)
opens_sent place r said _ (headless end e h) = λ f. inl e
opens_sent place r said _ (turned_down hd rest end e d j) = λ f. inl e
opens_sent place r said _ (begun hd rest V e d j) = e
opens_sent place r said _ (unaided p) = λ f. inr refl

sent_or_not : (place : Place) (r q : ReplicaView) (said : Said) (end : Option SyncEnd) → Subscribes place r said q end → Free end → (said.sent ≡ subscription_text place r) ⊎ (end ≡ Some ends.Memory)
sent_or_not place r _ said _ (not_begun end o) free = elim (opens_sent place r said (ended end) o free.unfailed) [ inl e ↦ inl e | inr e ↦ inr (ap Some e) ]
sent_or_not place r _ said _ (caught_up kind V behind passed rest content us q o h a v) free = inl (opens_sent place r said (opened kind V behind) o)
sent_or_not place r _ said _ (fell_short kind V behind passed rest content us q end o h a none e) free = inl (opens_sent place r said (opened kind V behind) o)

module _ (s : Serving) (book : List Entry) (n : ℕ) (place : Place) (r : ReplicaView) (on : s.subscriptions ≡ true) (legal : IsLegalBook book) (place_is : IsPlace place)
    (narrow : length (frontier (of_path (take n book) place.path)) ≤ 1_000) (beside : IsBeside (of_path book place.path) (of_path (take n book) place.path) r) where
  abbrev resumes : List (List ℕ)
  resumes = resume_of r

  legal_confirmed : IsLegal r.confirmed
  legal_confirmed = legal_back (reverse r.unsent) (reverse r.confirmed) (subst IsLegalLog (log_parts r.confirmed r.unsent) beside.sound.legal)

  ids : AllByRecursion IsIdentifier resumes
  ids = take_named 32 (frontier r.confirmed) (frontier_named r.confirmed legal_confirmed)

  -- what it resumes from is held at the first mark
  held : HoldsAll (graph_of (of_path (take n book) place.path)) resumes
  held v c = has_holds (of_path (take n book) place.path) v (there (frontier_cases r.confirmed v (take_member v 32 (frontier r.confirmed) (contains_member resumes v c))).0)
    where
      there : Has r.confirmed v → Has (of_path (take n book) place.path) v
      there (u, m, f) = (u, contains_member (of_path (take n book) place.path) u (beside.part u (member_contains r.confirmed u m)), f)

  abbrev ask : Request
  ask = asked_for place.server place.path resumes

  module _ (said : Said) (marks : List ℕ) (low high : ℕ) (v : IsServed s book (n ∷ marks) low high said) (sent_is : said.sent ≡ subscription_text place r) where
    abbrev Watched : List ℕ → Course → Type 0
    Watched text course = IsWatched book ask resumes n marks text course high

    decides_all : said.sent ≡ subscription_text place r ++ []
    decides_all = sent_is ∙ sym (append-nil (subscription_text place r))

    watched_text : (qs : List Request) (rest : List ℕ) (entries : List Placed) (text : List ℕ) (course : Course) → Cuts 0 false said.sent qs rest → Stops 0 qs rest course
        → (x : Says s v.by book qs (n ∷ marks) entries text course) → AreInTurn s v.by book qs (n ∷ marks) entries text course x low high → Watched text course
    watched_text qs rest entries text course cut stops x t =
        let first = first_asked s v.by book 0 ask (subscription_text place r) [] said.sent qs rest (n ∷ marks) entries text course
        (ask_decides place.server place.path resumes place_is.server place_is.path ids (take_few 32 (frontier r.confirmed))) decides_all (omega arith) cut x stops in
        go qs first.others first.are x t
      where
        go : (qs ps : List Request) → qs ≡ ask ∷ ps → (x : Says s v.by book qs (n ∷ marks) entries text course) → AreInTurn s v.by book qs (n ∷ marks) entries text course x low high → Watched text course
        go qs ps e = subst (λ (xs : List Request). (x : Says s v.by book xs (n ∷ marks) entries text course) → AreInTurn s v.by book xs (n ∷ marks) entries text course x low high → Watched text course) (sym e)
            (λ x t. watched_so s v.by book ask resumes ps n marks (n ∷ marks) entries text course low high (ask_means s place.server place.path resumes on place_is.path ids (take_rises 32 (frontier r.confirmed) (frontier_rises r.confirmed))) held refl x t)

    offers : (stopped : Bool) × Offers book n marks stopped place r said × (last_mark n marks ≤ high)
    offers = go v.course (offered said) refl v.text v.in_turn
      where
        made : (text : List ℕ) (course : Course) → offered said ≡ text → Watched text course → (stopped : Bool) × Offers book n marks stopped place r said × (last_mark n marks ≤ high)
        made text course e w = (
          w.stopped,
          record { watch = record { legal = legal; held = held; rising = w.rising; narrow = narrow }; whole = e ∙ w.spelled; beside = beside },
          w.below,
        )

        not_whole : (text : List ℕ) → Watched text goes_on → ⊥
        not_whole text w = let e : goes_on ≡ watched w.stopped = w.course_is in cc

        go : (course : Course) (text : List ℕ) → offered said ≡ text → (x : SessionText s v.by book said.sent (n ∷ marks) text course) → IsInTurn s v.by book said.sent (n ∷ marks) text course x low high
            → (stopped : Bool) × Offers book n marks stopped place r said × (last_mark n marks ≤ high)
        go _ _ e (whole text w) t = absurd (not_whole w.front (watched_text w.requests w.rest w.entries w.front goes_on w.answered.cut (w.tail, w.tail_is) w.answered.says t))
        go _ _ e (unmarked text w) t = absurd t
        go _ _ e (watching text stopped w) t = made text (watched stopped) e (watched_text w.requests w.rest w.entries text (watched stopped) w.answered.cut tt w.answered.says t)

  -- what the first link of a sync comes to
  pub first_ends : (said : Said) (marks : List ℕ) (low high : ℕ) (q : ReplicaView) (end : Option SyncEnd) → IsServed s book (n ∷ marks) low high said → Subscribes place r said q end → Free end
      → ((end ≡ None) × CatchesUp book n marks place.path r q × (n ≤ last_mark n marks) × (last_mark n marks ≤ high)) ⊎ (end ≡ Some ends.Memory)
  first_ends said marks low high q end v text free = elim (sent_or_not place r q said end text free) [
    | inl sent_is ↦ go (offers said marks low high v sent_is)
    | inr none ↦ inr none
  ]
    where
      go : (stopped : Bool) × Offers book n marks stopped place r said × (last_mark n marks ≤ high) → ((end ≡ None) × CatchesUp book n marks place.path r q × (n ≤ last_mark n marks) × (last_mark n marks ≤ high)) ⊎ (end ≡ Some ends.Memory)
      go (stopped, o, below) = elim (whole_here book n marks stopped place r said o q end text free) [
        | inl k ↦ inl (k.0, k.1, marks_rise n marks o.watch.rising, below)
        | inr k ↦ inr k
      ]
