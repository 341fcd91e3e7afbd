-- What the bytes of a front of a subscription hold, and which updates are read of them.
use Rattle.std.proofs.Common.{◌≡◌, ℕ, ◌≤◌, List, [], ◌∷◌, ◌++◌, refl, sym, ap, subst, ◌∙◌, inl, inr, ◌⊎◌, length, length-append, take, drop, append_assoc, append-nil, take-append-drop, Option, arith}
use Rattle.std.specs.List.{flat_map, AllByRecursion}
use Rattle.std.proofs.lemmas.List.{append_cancel_left}
use Rattle.braid_change.specs.Updates.{UpdateView, IsUpdate}
use Rattle.braid_fields.specs.Chunks.{last_chunk as the_last_chunk}
use Rattle.braid_grammar.specs.Streams.{IsStream, Completes}
use Rattle.braid_grammar.proofs.Law.{no_stream}
use Rattle.braid_grammar.proofs.Completed.{one_list, stream_completes}
use Rattle.braid_frame.specs.declared.fed.FrameFault.{FrameFault}
use Rattle.braid_frame.specs.Phases.{HasFault}
use Rattle.braid_stream.specs.Readers.{most_bytes}
use Rattle.braid_http.specs.declared.response.BodyKind.TheVariants.{Chunked}
use Rattle.braid_http.specs.declared.response.ReplyHead.{ReplyHead}
use Rattle.braid_http.specs.Bodies.{IsChunkedBody, HasCome, IsAgainst}
use Rattle.braid_http.specs.Responses.{ReplyAnswer, replied, DecidesReply, IsReplyDecided, IsReplyOpen}
use Rattle.braid_http.proofs.BodyLaws.{one_chunked, has_one_state}
use Rattle.braid_http.proofs.ReplyDecisions.{one_reply}
use Rattle.braid_sync.specs.Hearing.{HasData, BeginWith, seen}
use Rattle.braid_sync.proofs.LawFronts.{no_more}
use Rattle.braid_sync.proofs.LawStreams.{begins_compare, begins_more, complete_stops, stream_stops, fault_more}
use Rattle.braid_sync.proofs.LawData.{data_grows}
use Rattle.braid_session.specs.Pieces.{piece_text, updates_in}
use Rattle.braid_session.proofs.PieceData.{data_of, streamed, whole_body}
use Rattle.braid_world.specs.Progress.{IsFront}
use Rattle.braid_world.specs.ReadBack.{HoldData}
use Rattle.braid_world.proofs.PieceChunks.{body_begun, updates_split, all_front, data_in_bytes}

-- The head of a reply whose body is chunked, and pieces behind it: these bytes are a front of that with its last chunk.
pub record Text (head : List ℕ) (ps : List (Option UpdateView)) (bytes : List ℕ) : Type 0 where
  pub reply : ReplyHead
  pub chunked : reply.body ≡ Chunked
  pub decides : DecidesReply (replied reply) head
  pub updates : AllByRecursion IsUpdate (updates_in ps)
  pub behind : List ℕ
  pub whole : head ++ (flat_map piece_text ps ++ the_last_chunk) ≡ bytes ++ behind

-- of nothing behind a front nothing is left
no_rest : (xs ys : List ℕ) → [] ≡ xs ++ ys → xs ≡ []
no_rest [] ys e = refl
no_rest (x ∷ xs) ys e = absurd (cc)

module _ (head : List ℕ) (ps : List (Option UpdateView)) (bytes : List ℕ) (t : Text head ps bytes) where
  abbrev body : List ℕ
  body = flat_map piece_text ps ++ the_last_chunk

  abbrev V : List UpdateView
  V = updates_in ps

  is_body : IsChunkedBody (data_of ps) body
  is_body = whole_body ps t.updates

  is_stream : IsStream V (data_of ps)
  is_stream = streamed ps t.updates

  -- a reply that is decided is the one of the head
  pub one_head : (x : ReplyAnswer) (given rest left : List ℕ) → IsReplyDecided x given rest → bytes ≡ given ++ left → (x ≡ replied t.reply) × (given ≡ head ++ rest)
  one_head x given rest left d e =
      let same = one_reply x (replied t.reply) d.front head (rest ++ (left ++ t.behind)) body d.decides t.decides (
      sym (append_assoc d.front rest (left ++ t.behind))
      ∙ ap (λ (b : List ℕ). b ++ (left ++ t.behind)) (sym d.whole)
      ∙ sym (append_assoc given left t.behind)
      ∙ ap (λ (b : List ℕ). b ++ t.behind) (sym e)
      ∙ sym t.whole
      ) in
      (same.1, d.whole ∙ ap (λ (b : List ℕ). b ++ rest) same.0)

  -- bytes that hold the head are not open
  pub head_decides : (rest : List ℕ) → bytes ≡ head ++ rest → IsReplyOpen bytes → ⊥
  head_decides rest e open_still = open_still (replied t.reply) head rest t.decides e

  -- what was passed of the body, and what is in it
  module _ (content passed rest : List ℕ) (comes : HasData Chunked content passed) (split : bytes ≡ head ++ (passed ++ rest)) where
    after : body ≡ passed ++ (rest ++ t.behind)
    after = append_cancel_left head body (passed ++ (rest ++ t.behind)) (
        t.whole ∙ ap (λ (b : List ℕ). b ++ t.behind) split ∙ append_assoc head (passed ++ rest) t.behind
        ∙ ap (λ (b : List ℕ). head ++ b) (append_assoc passed rest t.behind)
        )

    pub more : (y : List ℕ) × (data_of ps ≡ content ++ y)
    more = data_grows Chunked content passed (data_of ps) body (rest ++ t.behind) comes (inr (inl is_body)) after

    seen_more : (y : List ℕ) × (data_of ps ≡ seen content ++ y)
    seen_more = (
      drop most_bytes content ++ more.0,
      more.1 ∙ ap (λ (b : List ℕ). b ++ more.0) (sym (take-append-drop most_bytes content)) ∙ append_assoc (seen content) (drop most_bytes content) more.0,
    )

    -- the updates that are read are a front of those of the pieces
    pub updates_front : (us : List UpdateView) → BeginWith us (seen content) → IsFront us V
    updates_front us b = elim (begins_compare us V (data_of ps) there all) [
      | inl k ↦ k
      | inr k ↦ absurd (stream_stops V k.0 k.1 (data_of ps) is_stream (subst (λ (xs : List UpdateView). BeginWith xs (data_of ps)) k.2 there))
    ]
      where
        there : BeginWith us (data_of ps)
        there = subst (BeginWith us) (sym seen_more.1) (begins_more us (seen content) seen_more.0 b)

        all : BeginWith V (data_of ps)
        all = record { front = data_of ps; rest = []; stream = is_stream; spelled = sym (append-nil (data_of ps)) }

    -- they have no fault
    pub no_fault : (us : List UpdateView) (f : FrameFault) → HasFault us (seen content) f → ⊥
    no_fault us f h =
        let k = fault_more us (seen content) seen_more.0 f h in
        no_stream V (data_of ps) f.at f.reason is_stream (subst (λ (b : List ℕ). HasFault us b f) (sym seen_more.1) k).0

    -- the chunks are none against a body
    pub none_against : IsAgainst Chunked content passed → ⊥
    none_against h = has_one_state.whole_or_against (data_of ps) body passed [] (rest ++ t.behind) is_body h.against (append-nil body ∙ after)

    -- a body that is whole holds all of the data
    pub all_data : IsChunkedBody content passed → content ≡ data_of ps
    all_data is = (one_chunked content (data_of ps) passed body (rest ++ t.behind) [] is is_body (sym after ∙ sym (append-nil body))).0

    pub all_have : (us : List UpdateView) → IsChunkedBody content passed → Completes us content → us ≡ V
    all_have us is have = one_list us V (data_of ps) (subst (Completes us) (all_data is) have) (stream_completes V (data_of ps) is_stream)

    -- nothing stands behind a body that is whole
    pub all_passed : IsChunkedBody content passed → rest ≡ []
    all_passed is =
        let same : passed ≡ body = (one_chunked content (data_of ps) passed body (rest ++ t.behind) [] is is_body (sym after ∙ sym (append-nil body))).1 in
        let none : rest ++ t.behind ≡ [] = no_more passed (rest ++ t.behind) (same ∙ after) in
        no_rest rest t.behind (sym none)

    -- where nothing stands behind what was passed, the bytes hold this data
    pub holds : rest ≡ [] → HasCome content passed ⊎ IsChunkedBody content passed → HoldData head bytes content
    holds none has = record {
      body = passed;
      split = split ∙ ap (λ (r : List ℕ). head ++ (passed ++ r)) none ∙ ap (λ (r : List ℕ). head ++ r) (append-nil passed);
      has = has;
    }

    -- the data is no longer than the bytes
    pub spent_bytes : most_bytes ≤ length content → most_bytes ≤ length bytes
    spent_bytes l =
        let a = data_in_bytes Chunked content passed comes in
        let e = ap length split in
        omega (arith, l, a, e, length-append head (passed ++ rest), length-append passed rest)

  -- where the data of all bytes completes updates, each is one of them whose piece the bytes hold whole
  pub pieces_read : (us : List UpdateView) (content : List ℕ) (j : ℕ) → HoldData head bytes content → Completes us content → IsFront (head ++ flat_map piece_text (take j ps)) bytes → IsFront (updates_in (take j ps)) us
  pieces_read us content j h completes (r, e) = elim (begins_compare us W content read front) [
    | inl k ↦ go k.0 k.1
    | inr k ↦ (k.0 ∷ k.1, k.2)
  ]
    where
      front_ps : List (Option UpdateView)
      front_ps = take j ps

      W : List UpdateView
      W = updates_in front_ps

      held : AllByRecursion IsUpdate W
      held = all_front IsUpdate W (updates_in (drop j ps)) (subst (AllByRecursion IsUpdate) (updates_split j ps) t.updates)

      body_is : h.body ≡ flat_map piece_text front_ps ++ r
      body_is = append_cancel_left head h.body (flat_map piece_text front_ps ++ r) (sym h.split ∙ e ∙ append_assoc head (flat_map piece_text front_ps) r)

      comes : HasCome content h.body ⊎ IsChunkedBody content h.body → HasData Chunked content h.body
      comes (inl c) = inl c
      comes (inr c) = inr (inl c)

      first : (y : List ℕ) × (content ≡ data_of front_ps ++ y)
      first = data_grows Chunked (data_of front_ps) (flat_map piece_text front_ps) content h.body r (inl (body_begun front_ps held)) (comes h.has) body_is

      front : BeginWith W content
      front = record { front = data_of front_ps; rest = first.0; stream = streamed front_ps held; spelled = first.1 }

      read : BeginWith us content
      read = record { front = completes.front; rest = completes.rest; stream = completes.stream; spelled = completes.spelled }

      go : (ws : List UpdateView) → W ≡ us ++ ws → IsFront W us
      go [] k = ([], sym (append-nil us) ∙ sym k ∙ sym (append-nil W))
      go (w ∷ ws) k = absurd (complete_stops us w ws content completes (subst (λ (xs : List UpdateView). BeginWith xs content) k front))
