-- What the calls of each event leave and tell is what the event makes of the world.
use Rattle.std.proofs.Common.{◌≡◌, ℕ, List, [], ◌∷◌, ◌++◌, refl, sym, ap, subst, ◌∙◌, inl, inr, arith, length, Bool, true, false, not, ◌&&◌, cond, ◌==◌, Option, Some, None, option_map, is_some, unwrap_or, reverse, Result, Ok, Err}
use Rattle.std.proofs.lemmas.Option.{slice_get_past}
use Rattle.std.specs.List.{slice_get}
use Rattle.std.specs.Result.{OnErr}
use Rattle.std.specs.Option.{option_and_then}
use Rattle.braid_change.specs.declared.change.Change.{Change}
use Rattle.braid_change.specs.Updates.{UpdateView, IsUpdate}
use Rattle.braid_text.specs.Answers.{refusal_to}
use Rattle.braid_text.specs.declared.room.Which.{Which}
use Rattle.braid_text.specs.declared.room.Which.TheVariants.{Versions}
use Rattle.braid_text.specs.declared.accept.Accept.{Accept}
use Rattle.braid_text.specs.declared.accept.Accept.TheVariants as accepts
use Rattle.braid_store.specs.declared.entry.Entry.{Entry}
use Rattle.braid_store.specs.declared.put.Put.{Put}
use Rattle.braid_store.specs.Books.{of_path, counts_at}
use Rattle.braid_store.specs.Answers.{refused_as, first_over, counted_answer, answered, put_answer}
use Rattle.braid_store.proofs.Paths.{of_path_own}
use Rattle.braid_store.proofs.Judged.{IsRefusal, is_refusal}
use Rattle.braid_outbox.specs.declared.world.World.{World}
use Rattle.braid_outbox.specs.declared.world.Side.{Side}
use Rattle.braid_outbox.specs.declared.world.Posted.{Posted}
use Rattle.braid_outbox.specs.declared.world.Answered.{Answered}
use Rattle.braid_outbox.specs.declared.world.Event.{Event}
use Rattle.braid_outbox.specs.declared.world.Event.TheVariants.{Write, Open, Carry, Cut, Keep, Back, Post, Land, Ack, Foreign}
use Rattle.braid_outbox.specs.Shapes.{is_update}
use Rattle.braid_text.specs.Rooms.{replica_limits}
use Rattle.braid_outbox.specs.Replicas.{ReplicaView, resume_of}
use Rattle.braid_outbox.specs.Writes.{write}
use Rattle.braid_outbox.specs.Worlds.{kept_of, at_side, opens, acks, has_update, posts_first, posts, land_answer, status_of, after, lands, replied, is_foreign}
use Rattle.braid_world.specs.declared.calling.Called.{Called}
use Rattle.braid_world.specs.Events.{replicas_of, entry_at, is_full, lands_full, stepped, world_after, Gains, opened_from, first_unsent, Leaves, LeavesMerges, changed, put_status, after_put, Lands, HeadIsPosted, FromIsResumed}
use Rattle.braid_world.specs.ReplicaCalls.{carried, returned, acknowledged}
use Rattle.braid_world.specs.BookCalls.{Joins}
use Rattle.braid_world.proofs.Changed.{get_side, written_sides, opened_sides, opened_at, cut_sides, kept_sides, carried_sides, returned_sides, acknowledged_sides, first_of}
use Rattle.braid_world.proofs.Proper.{update_to}

-- nothing was told
abbrev pub nothing : Called
nothing = record { from = None; head = None; status = None }

-- no reply was made
none_made : (rs : List Answered) → None ≡ option_map (λ (r : Answered). r.status) (slice_get rs (length rs))
none_made rs = ap (option_map (λ (r : Answered). r.status)) (sym (slice_get_past rs (length rs) (omega arith)))

-- one was
one_made : (rs : List Answered) (r : Answered) → Some r.status ≡ option_map (λ (x : Answered). x.status) (slice_get (rs ++ r ∷ []) (length rs))
one_made rs r = ap (option_map (λ (x : Answered). x.status)) (sym (last rs))
  where
    last : (xs : List Answered) → slice_get (xs ++ r ∷ []) (length xs) ≡ Some r
    last [] = refl
    last (x ∷ xs) = last xs

module _ (path : List ℕ) (by : ℕ) (B : List Entry) (w : World) where
  -- what an event left
  abbrev Left : Event → List Entry → List ReplicaView → Called → Type 0
  Left e C rs called = Leaves path by e w (world_after B path by w e) B C rs called

  pub write_left : (a : ℕ) (change : Change) (old new : List ReplicaView) → old ≡ replicas_of w.sides → new ≡ changed a (λ (r : ReplicaView). write replica_limits r change) old → Left (Write a change) B new nothing
  write_left a change old new e f = record {
    gains = inl (refl, refl);
    replicas_are = f ∙ ap (changed a (λ (r : ReplicaView). write replica_limits r change)) e ∙ written_sides a change w.sides;
    from = refl;
    head = refl;
    status = none_made w.replies;
  }

  pub open_left : (a : ℕ) (rs : List ReplicaView) (from : Option (List (List ℕ))) → rs ≡ replicas_of w.sides → from ≡ option_map resume_of (slice_get rs a) → Left (Open a) B rs (record { from = from; head = None; status = None })
  open_left a rs from e f = record {
    gains = inl (refl, refl);
    replicas_are = e ∙ opened_sides a w.sides;
    from = f ∙ ap (λ (qs : List ReplicaView). option_map resume_of (slice_get qs a)) e ∙ opened_at a w.sides;
    head = refl;
    status = none_made w.replies;
  }

  pub carry_left : (a : ℕ) (old new : List ReplicaView) → of_path B path ≡ w.history → old ≡ replicas_of w.sides → new ≡ carried a (of_path B path) (slice_get w.sides a) old → Left (Carry a) B new nothing
  carry_left a old new h e f = record {
    gains = inl (refl, refl);
    replicas_are = f ∙ ap (λ (H : List UpdateView). carried a H (slice_get w.sides a) old) h ∙ ap (carried a w.history (slice_get w.sides a)) e ∙ carried_sides a w.history w.sides;
    from = refl;
    head = refl;
    status = none_made w.replies;
  }

  pub cut_left : (a : ℕ) (rs : List ReplicaView) → rs ≡ replicas_of w.sides → Left (Cut a) B rs nothing
  cut_left a rs e = record { gains = inl (refl, refl); replicas_are = e ∙ cut_sides a w.sides; from = refl; head = refl; status = none_made w.replies }

  pub keep_left : (a : ℕ) (rs : List ReplicaView) → rs ≡ replicas_of w.sides → Left (Keep a) B rs nothing
  keep_left a rs e = record { gains = inl (refl, refl); replicas_are = e ∙ kept_sides a w.sides; from = refl; head = refl; status = none_made w.replies }

  pub back_left : (a : ℕ) (old new : List ReplicaView) → old ≡ replicas_of w.sides → new ≡ returned a (slice_get w.sides a) old → Left (Back a) B new nothing
  back_left a old new e f = record {
    gains = inl (refl, refl);
    replicas_are = f ∙ ap (returned a (slice_get w.sides a)) e ∙ returned_sides a w.sides;
    from = refl;
    head = refl;
    status = none_made w.replies;
  }

  -- a Post changes the PUTs alone
  posts_same : (a : ℕ) (o : Option Side) → (w.history ≡ (posts a o w).history) × (w.sides ≡ (posts a o w).sides) × (w.replies ≡ (posts a o w).replies)
  posts_same a None = (refl, refl, refl)
  posts_same a (Some s) = first s.unsent
    where
      first : (us : List UpdateView) → (w.history ≡ (posts_first a s us w).history) × (w.sides ≡ (posts_first a s us w).sides) × (w.replies ≡ (posts_first a s us w).replies)
      first [] = (refl, refl, refl)
      first (u ∷ us) = go (has_update u.id (kept_of s))
        where
          next : World
          next = record { history = w.history; sides = w.sides; puts = w.puts ++ record { by = a; update = u } ∷ []; replies = w.replies }

          go : (b : Bool) → (w.history ≡ (cond b next w).history) × (w.sides ≡ (cond b next w).sides) × (w.replies ≡ (cond b next w).replies)
          go true = (refl, refl, refl)
          go false = (refl, refl, refl)

  pub post_left : (a : ℕ) (rs : List ReplicaView) (head : Option UpdateView) → rs ≡ replicas_of w.sides → head ≡ option_and_then (λ (r : ReplicaView). slice_get r.unsent 0) (slice_get rs a) → Left (Post a) B rs (record { from = None; head = head; status = None })
  post_left a rs head e f = let s = posts_same a (slice_get w.sides a) in record {
    gains = inl (refl, sym s.0);
    replicas_are = e ∙ ap replicas_of s.1;
    from = refl;
    head = f ∙ ap (λ (qs : List ReplicaView). option_and_then (λ (r : ReplicaView). slice_get r.unsent 0) (slice_get qs a)) e ∙ first_of a w.sides;
    status = none_made w.replies ∙ ap (λ (rs : List Answered). option_map (λ (r : Answered). r.status) (slice_get rs (length w.replies))) s.2;
  }

  pub ack_left : (k : ℕ) (old new : List ReplicaView) → old ≡ replicas_of w.sides → new ≡ acknowledged (slice_get w.replies k) old → Left (Ack k) B new nothing
  ack_left k old new e f = let s = same (slice_get w.replies k) in record {
    gains = inl (refl, sym s.0);
    replicas_are = f ∙ ap (acknowledged (slice_get w.replies k)) e ∙ acknowledged_sides (slice_get w.replies k) w;
    from = refl;
    head = refl;
    status = none_made w.replies ∙ ap (λ (rs : List Answered). option_map (λ (r : Answered). r.status) (slice_get rs (length w.replies))) s.1;
  }
    where
      same : (o : Option Answered) → (w.history ≡ (replied o w).history) × (w.replies ≡ (replied o w).replies)
      same None = (refl, refl)
      same (Some r) = go (r.status == 200)
        where
          go : (b : Bool) → (w.history ≡ (cond b (at_side r.by (acks r.id) w) w).history) × (w.replies ≡ (cond b (at_side r.by (acks r.id) w) w).replies)
          go true = (refl, refl)
          go false = (refl, refl)

  -- a PUT
  module _ (h : of_path B path ≡ w.history) where
    -- what the book answers and what the world does to an update, by the refusal of the history and by the first count over its limit
    abbrev put_as : (u : UpdateView) (o : Option Accept) (c : Option Which) → Put
    put_as u (Some a) c = refused_as a
    put_as u None c = counted_answer c

    abbrev answer_as : Bool → Option Accept → Accept
    answer_as full o = unwrap_or o (cond full (accepts.Full Versions 1 0) accepts.New)

    is_put : (u : UpdateView) → put_answer B (entry_at path by u) ≡ put_as u (refusal_to (of_path B path) u) (first_over (counts_at (B ++ entry_at path by u ∷ []) path))
    is_put u = go (refusal_to (of_path B path) u)
      where
        go : (o : Option Accept) → answered B (entry_at path by u) o ≡ put_as u o (first_over (counts_at (B ++ entry_at path by u ∷ []) path))
        go None = refl
        go (Some a) = refl

    -- the same status, and an entry where the history grows
    one_put : (u : UpdateView) (o : Option Accept) (c : Option Which) → (put_status (put_as u o c) ≡ status_of (answer_as (is_full (put_as u o c)) o)) × Gains path by B (after_put B (entry_at path by u) (put_as u o c)) w.history (after w.history u (answer_as (is_full (put_as u o c)) o))
    one_put u (Some accepts.New) c = (refl, inr (u, refl, refl))
    one_put u (Some accepts.Known) c = (refl, inl (refl, refl))
    one_put u (Some (accepts.Clash v)) c = (refl, inl (refl, refl))
    one_put u (Some (accepts.UnknownParent v)) c = (refl, inl (refl, refl))
    one_put u (Some (accepts.OutOfRange patch len)) c = (refl, inl (refl, refl))
    one_put u (Some (accepts.Full which need room)) c = (refl, inl (refl, refl))
    one_put u (Some accepts.Memory) c = (refl, inl (refl, refl))
    one_put u None None = (refl, inr (u, refl, refl))
    one_put u None (Some which) = (refl, inl (refl, refl))

    pub land_left : (k : ℕ) (full : Bool) (C : List Entry) (rs : List ReplicaView) (status : Option ℕ) → rs ≡ replicas_of w.sides → Lands path by B C (slice_get w.puts k) status → Left (Land k full) C rs (record { from = None; head = None; status = status })
    land_left k full C rs status e l = go (slice_get w.puts k) l
      where
        go : (o : Option Posted) → Lands path by B C o status → Leaves path by (Land k full) w (lands (lands_full B path by o) o w) B C rs (record { from = None; head = None; status = status })
        go None (c, s) = record { gains = inl (c, refl); replicas_are = e; from = refl; head = refl; status = s ∙ none_made w.replies }
        go (Some p) (c, s) = record {
          gains = subst (λ (D : List Entry). Gains path by B D w.history (after w.history p.update (land_answer (is_full a) w.history p.update))) (sym c) both.1;
          replicas_are = e;
          from = refl;
          head = refl;
          status = s ∙ ap Some both.0 ∙ one_made w.replies (record { by = p.by; id = p.update.id; status = status_of (land_answer (is_full a) w.history p.update) });
        }
          where
            a : Put
            a = put_answer B (entry_at path by p.update)

            both : (put_status a ≡ status_of (land_answer (is_full a) w.history p.update)) × Gains path by B (after_put B (entry_at path by p.update) a) w.history (after w.history p.update (land_answer (is_full a) w.history p.update))
            both = subst (λ (b : Put). (put_status b ≡ status_of (land_answer (is_full b) w.history p.update)) × Gains path by B (after_put B (entry_at path by p.update) b) w.history (after w.history p.update (land_answer (is_full b) w.history p.update)))
                (sym (is_put p.update ∙ ap (λ (H : List UpdateView). put_as p.update (refusal_to H p.update) (first_over (counts_at (B ++ entry_at path by p.update ∷ []) path))) h))
                (one_put p.update (refusal_to w.history p.update) (first_over (counts_at (B ++ entry_at path by p.update ∷ []) path)))

    -- an update of another author
    abbrev next_of : UpdateView → World
    next_of u = record { history = w.history ++ u ∷ []; sides = w.sides; puts = w.puts; replies = w.replies }

    -- the world where there is no room, and where there is
    abbrev world_by : UpdateView → Bool → Bool → World
    world_by u full joins_it = cond full w (cond joins_it (next_of u) w)

    joined_same : (u : UpdateView) (full joins_it : Bool) → (w.sides ≡ (world_by u full joins_it).sides) × (w.replies ≡ (world_by u full joins_it).replies)
    joined_same u true joins_it = (refl, refl)
    joined_same u false true = (refl, refl)
    joined_same u false false = (refl, refl)

    stays : (u : UpdateView) (full : Bool) → (world_by u full false).history ≡ w.history
    stays u true = refl
    stays u false = refl

    one_join : (u : UpdateView) (f : Bool) (o : Option Accept) (c : Option Which) → ((a : Accept) → o ≡ Some a → IsRefusal a)
        → Gains path by B (cond f (after_put B (entry_at path by u) (put_as u o c)) B) w.history (world_by u (is_full (put_as u o c)) (f && (true && not (is_some o)))).history
    one_join u false o c r = inl (refl, stays u (is_full (put_as u o c)))
    one_join u true (Some accepts.New) c r = absurd (r accepts.New refl)
    one_join u true (Some accepts.Known) c r = inl (refl, refl)
    one_join u true (Some (accepts.Clash v)) c r = inl (refl, refl)
    one_join u true (Some (accepts.UnknownParent v)) c r = inl (refl, refl)
    one_join u true (Some (accepts.OutOfRange patch len)) c r = inl (refl, refl)
    one_join u true (Some (accepts.Full which need room)) c r = inl (refl, refl)
    one_join u true (Some accepts.Memory) c r = inl (refl, refl)
    one_join u true None None r = inr (u, refl, refl)
    one_join u true None (Some which) r = inl (refl, refl)

    foreign_world : (u : UpdateView) (full : Bool) → world_by u full (is_foreign u.id w.sides && (is_update u && not (is_some (refusal_to w.history u)))) ≡ stepped w (cond full None (Some (Foreign u)))
    foreign_world u true = refl
    foreign_world u false = refl

    pub join_left : (u : UpdateView) (C : List Entry) (rs : List ReplicaView) → rs ≡ replicas_of w.sides → IsUpdate u → Joins path by B C w.sides u → Left (Foreign u) C rs nothing
    join_left u C rs e is j = subst (λ (next : World). Leaves path by (Foreign u) w next B C rs nothing) (foreign_world u (is_full a)) (record {
      gains = subst (λ (D : List Entry). Gains path by B D w.history next.history) (sym j) grown;
      replicas_are = e ∙ ap replicas_of same.0;
      from = refl;
      head = refl;
      status = none_made w.replies ∙ ap (λ (xs : List Answered). option_map (λ (r : Answered). r.status) (slice_get xs (length w.replies))) same.1;
    })
      where
        f : Bool
        f = is_foreign u.id w.sides

        o : Option Accept
        o = refusal_to w.history u

        c : Option Which
        c = first_over (counts_at (B ++ entry_at path by u ∷ []) path)

        a : Put
        a = put_answer B (entry_at path by u)

        next : World
        next = world_by u (is_full a) (f && (is_update u && not (is_some o)))

        same : (w.sides ≡ next.sides) × (w.replies ≡ next.replies)
        same = joined_same u (is_full a) (f && (is_update u && not (is_some o)))

        is_this : a ≡ put_as u o c
        is_this = is_put u ∙ ap (λ (H : List UpdateView). put_as u (refusal_to H u) c) h

        grown : Gains path by B (cond f (after_put B (entry_at path by u) a) B) w.history next.history
        grown = subst (λ (t : Bool). Gains path by B (cond f (after_put B (entry_at path by u) a) B) w.history (world_by u (is_full a) (f && (t && not (is_some o)))).history) (sym (update_to u is))
            (subst (λ (b : Put). Gains path by B (cond f (after_put B (entry_at path by u) b) B) w.history (world_by u (is_full b) (f && (true && not (is_some o)))).history) (sym is_this)
            (one_join u f o c (λ b g. is_refusal (reverse w.history) u b g)))

-- a book that gained what a history gained has it as the history of its path
pub gains_history : (path : List ℕ) (by : ℕ) (B C : List Entry) (H K : List UpdateView) → of_path B path ≡ H → Gains path by B C H K → of_path C path ≡ K
gains_history path by B C H K h (inl (c, k)) = ap (λ (D : List Entry). of_path D path) c ∙ h ∙ sym k
gains_history path by B C H K h (inr (u, c, k)) = ap (λ (D : List Entry). of_path D path) c ∙ of_path_own B (entry_at path by u) ∙ ap (λ (G : List UpdateView). G ++ u ∷ []) h ∙ sym k

-- what is told of a Post and of an Open
pub head_is_posted : HeadIsPosted
head_is_posted limits w a p h = go (slice_get w.sides a) h
  where
    none : slice_get w.puts (length w.puts) ≡ Some p → ⊥
    none k = let e = slice_get_past w.puts (length w.puts) (omega arith) in cc

    last : (u : UpdateView) (xs : List Posted) → slice_get (xs ++ record { by = a; update = u } ∷ []) (length xs) ≡ Some (record { by = a; update = u })
    last u [] = refl
    last u (x ∷ xs) = last u xs

    go : (o : Option Side) → slice_get (posts a o w).puts (length w.puts) ≡ Some p → first_unsent o ≡ Some p.update
    go None k = absurd (none k)
    go (Some s) k = first s.unsent k
      where
        first : (us : List UpdateView) → slice_get (posts_first a s us w).puts (length w.puts) ≡ Some p → slice_get us 0 ≡ Some p.update
        first [] k = absurd (none k)
        first (u ∷ us) k = by (has_update u.id (kept_of s)) k
          where
            next : World
            next = record { history = w.history; sides = w.sides; puts = w.puts ++ record { by = a; update = u } ∷ []; replies = w.replies }

            by : (b : Bool) → slice_get (cond b next w).puts (length w.puts) ≡ Some p → Some u ≡ Some p.update
            by true k = ap (option_map (λ (x : Posted). x.update)) (sym (last u w.puts) ∙ k)
            by false k = absurd (none k)

pub from_is_resumed : FromIsResumed
from_is_resumed limits w a s h = ap opened_from (get_side a opens w.sides ∙ ap (option_map opens) h)

-- the same of an event that is this one, and of what was told
pub done : (path : List ℕ) (by : ℕ) (B C : List Entry) (w : World) (e f : Event) (rs : List ReplicaView) (called told : Called) → of_path B path ≡ w.history → e ≡ f → called ≡ told
    → Leaves path by f w (world_after B path by w f) B C rs told
    → Leaves path by e w (world_after B path by w e) B C rs called × (of_path C path ≡ (world_after B path by w e).history)
done path by B C w e f rs called told h is same l =
    let k = subst (λ (x : Event). Leaves path by x w (world_after B path by w x) B C rs called) (sym is) (subst (λ (y : Called). Leaves path by f w (world_after B path by w f) B C rs y) (sym same) l) in
    (k, gains_history path by B C w.history (world_after B path by w e).history h k.gains)

-- what is left of replicas where there was no memory for an event that is this one
pub merges_left : (e f : Event) (old new : List ReplicaView) → e ≡ f → LeavesMerges f old new → LeavesMerges e old new
merges_left e f old new is h = subst (λ (x : Event). LeavesMerges x old new) (sym is) h

pub any_err : {X E : Type 0} (A : Type 0) (r : Result X E) → A → OnErr r A
any_err A (Ok x) a = tt
any_err A (Err x) a = a
