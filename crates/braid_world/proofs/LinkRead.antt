-- What is read of a link that offers a front of a subscription's bytes.
use Rattle.std.proofs.Common.{◌≡◌, ℕ, ◌≤◌, List, [], ◌++◌, Bool, true, false, refl, sym, ap, subst, ◌∙◌, inl, inr, ◌⊎◌, take, append_assoc, append-nil, Option, Some, None, IfNone, Ok}
use Rattle.std.specs.List.{flat_map, AllByRecursion}
use Rattle.std.specs.Io.KnownBytes.{prepend_known, IsAtEnd}
use Rattle.std.proofs.lemmas.Option.{same_Some}
use Rattle.braid_io.specs.Outside.{Intake, Rose}
use Rattle.braid_change.specs.Updates.{UpdateView, IsUpdate}
use Rattle.braid_fields.specs.Chunks.{last_chunk as the_last_chunk}
use Rattle.braid_grammar.proofs.Completed.{stream_completes}
use Rattle.braid_store.specs.declared.entry.Entry.{Entry}
use Rattle.braid_store.specs.Books.{of_path}
use Rattle.braid_store.specs.Cursors.{sent_of}
use Rattle.braid_outbox.specs.Replicas.{frontier}
use Rattle.braid_stream.specs.declared.next.Next.TheVariants as nexts
use Rattle.braid_http.specs.declared.response.BodyKind.{BodyKind}
use Rattle.braid_http.specs.declared.response.BodyKind.TheVariants.{Chunked}
use Rattle.braid_http.specs.declared.response.ReplyHead.{ReplyHead}
use Rattle.braid_http.specs.declared.response.Replied.{Replied}
use Rattle.braid_http.specs.declared.response.Replied.TheVariants as replies
use Rattle.braid_http.specs.Responses.{replied, refused, IsReplyOpen}
use Rattle.braid_http.specs.Asks.{WireView}
use Rattle.braid_http.specs.Replying.{TookForReply, AnswersReply, Replies}
use Rattle.braid_ids.specs.Frontiers.{rising_ids}
use Rattle.braid_sync.specs.Judging.{judge}
use Rattle.braid_sync.specs.Hearing.{HasData}
use Rattle.braid_session.specs.Sessions.{subscription_head, watch_text, last_chunk}
use Rattle.braid_session.specs.Pieces.{piece_text, watch_pieces, updates_in, last_mark}
use Rattle.braid_session.proofs.Pieces.{pieces_spell, all_sent, front_legal}
use Rattle.braid_session.proofs.PieceData.{sent_updates}
use Rattle.braid_world.specs.declared.reading_back.Heard.{Heard}
use Rattle.braid_world.specs.declared.reading_back.Last.{Last}
use Rattle.braid_world.specs.declared.reading_back.Last.TheVariants.{Head, Stream, Memory}
use Rattle.braid_world.specs.Progress.{IsFront}
use Rattle.braid_world.specs.ReadBack.{IsSubscription, HoldData, EndsWhole, EndsEarly, HoldPieces, ReadsFront}
use Rattle.braid_world.specs.BodyReads.{BodyEnds, EndsBody, ReadsBody}
use Rattle.braid_world.proofs.HeadRead.{frontier_named, written_reply, written_chunked, written_judged, written_decides}
use Rattle.braid_world.proofs.FrontRead.{Text, one_head, head_decides, updates_front, no_fault, none_against, all_passed, holds, spent_bytes, pieces_read}

-- what a link had left before bytes were given in two steps
record Left (bytes got given : List ℕ) (last : Option (List ℕ)) : Type 0 where
  left : List ℕ
  told : last ≡ Some left
  whole : bytes ≡ got ++ (given ++ left)

left_of : (bytes got given : List ℕ) (first middle last : Option (List ℕ)) → first ≡ Some bytes → first ≡ prepend_known got middle → middle ≡ prepend_known given last → Left bytes got given last
left_of bytes got given first middle None e f g = absurd (let h : Some bytes ≡ prepend_known got (prepend_known given None) = sym e ∙ f ∙ ap (prepend_known got) g in cc)
left_of bytes got given first middle (Some left) e f g = record { left = left; told = refl; whole = same_Some bytes (got ++ (given ++ left)) (sym e ∙ f ∙ ap (prepend_known got) g) }

same_left : (x : Option (List ℕ)) → x ≡ prepend_known [] x
same_left None = refl
same_left (Some y) = refl

at_end : (left : List ℕ) (last : Option (List ℕ)) → last ≡ Some left → IsAtEnd last → left ≡ []
at_end left last e h = subst IsAtEnd e h

both_none : (a b : List ℕ) → a ≡ [] → b ≡ [] → a ++ b ≡ []
both_none a b e f = ap (λ (t : List ℕ). t ++ b) e ∙ f

module _ (book : List Entry) (path : List ℕ) (from : List (List ℕ)) (n : ℕ) (marks : List ℕ) (stopped : Bool) (watch : IsSubscription book path from n marks) where
  abbrev head : List ℕ
  head = subscription_head (take n book) path

  abbrev ps : List (Option UpdateView)
  ps = watch_pieces book path from n marks

  abbrev sent_all : List UpdateView
  sent_all = sent_of book path from (last_mark n marks)

  all_is : updates_in ps ≡ sent_all
  all_is = all_sent book path from watch.legal n marks watch.held watch.rising

  -- the bytes of the subscription go on with its last chunk
  goes_to_end : (b : Bool) (bytes : List ℕ) → IsFront bytes (watch_text book path from n marks ++ last_chunk b) → (behind : List ℕ) × (head ++ (flat_map piece_text ps ++ the_last_chunk) ≡ bytes ++ behind)
  goes_to_end true bytes (zs, e) = (zs, sym (append_assoc head (flat_map piece_text ps) the_last_chunk) ∙ ap (λ (t : List ℕ). t ++ the_last_chunk) (sym (pieces_spell book path from n marks)) ∙ e)
  goes_to_end false bytes (zs, e) = (
    zs ++ the_last_chunk,
    sym (append_assoc head (flat_map piece_text ps) the_last_chunk) ∙ ap (λ (t : List ℕ). t ++ the_last_chunk) (sym (pieces_spell book path from n marks) ∙ sym (append-nil (watch_text book path from n marks)) ∙ e)
        ∙ append_assoc bytes zs the_last_chunk,
  )

  pub text_of : (bytes : List ℕ) → IsFront bytes (watch_text book path from n marks ++ last_chunk stopped) → Text head ps bytes
  text_of bytes front =
      let K = of_path (take n book) path in
      let ids = frontier_named K (front_legal book path from watch.legal n path) in
      let end = goes_to_end stopped bytes front in
      record {
        reply = written_reply (frontier K);
        chunked = written_chunked (frontier K);
        decides = written_decides (frontier K) ids watch.narrow;
        updates = subst (AllByRecursion IsUpdate) (sym all_is) (sent_updates (of_path (take (last_mark n marks) book) path) from (front_legal book path from watch.legal (last_mark n marks) path));
        behind = end.0;
        whole = end.1;
      }

  -- its head names the frontier of the first mark
  pub judged_head : (bytes : List ℕ) (front : IsFront bytes (watch_text book path from n marks ++ last_chunk stopped)) → judge (text_of bytes front).reply ≡ Ok (rising_ids (frontier (of_path (take n book) path)))
  unfolding text_of
  judged_head bytes front = let K = of_path (take n book) path in written_judged (frontier K) (frontier_named K (front_legal book path from watch.legal n path))

  module _ (bytes : List ℕ) (i : Intake) (told : i.left ≡ Some bytes) (front : IsFront bytes (watch_text book path from n marks ++ last_chunk stopped)) where
    t : Text head ps bytes
    t = text_of bytes front

    abbrev Reads : Heard → Intake → Type 0
    Reads heard j = ReadsFront book path from n marks bytes heard i.faults j.faults

    -- at the end of the bytes each update is read whose piece they hold whole
    whole : (last : Last) (us : List UpdateView) → EndsWhole last us head bytes → (k : ℕ) → HoldPieces book path from n marks bytes k → IsFront (updates_in (take k ps)) us
    whole (Head replies.Torn) us e k (r, w) = absurd (e.1 (flat_map piece_text (take k ps) ++ r, w ∙ append_assoc head (flat_map piece_text (take k ps)) r))
    whole (Head (replies.Head x)) us e k h = absurd e
    whole (Head (replies.Refused x)) us e k h = absurd e
    whole (Head replies.ReadFault) us e k h = absurd e
    whole (Head replies.Memory) us e k h = absurd e
    whole (Stream (nexts.Update u)) us e k h = absurd e
    whole (Stream nexts.End) us e k h = pieces_read head ps bytes t us e.0 k e.1 (stream_completes us e.0 e.2) h
    whole (Stream (nexts.Torn at)) us e k h = let have = e.2 in pieces_read head ps bytes t us e.0 k e.1 have.completes h
    whole (Stream (nexts.Fault f)) us e k h = absurd e
    whole (Stream nexts.ReadFault) us e k h = absurd e
    whole (Stream nexts.Spent) us e k h = absurd e
    whole (Stream nexts.Memory) us e k h = absurd e
    whole Memory us e k h = absurd e

    -- a head was read, and then the body
    module _ (reply : ReplyHead) (kept : List ℕ) (m j : Intake) (heard : Heard) (h : AnswersReply (replied reply) [] kept i m) (b : ReadsBody reply.body kept heard m j) where
      l : Left bytes h.took.got b.given j.left
      l = left_of bytes h.took.got b.given i.left m.left j.left told h.took.moves.left b.left

      one : (replied reply ≡ replied t.reply) × (h.all ≡ head ++ kept)
      one = one_head head ps bytes t (replied reply) h.all kept (b.given ++ l.left) h.decided (l.whole ∙ ap (λ (x : List ℕ). x ++ (b.given ++ l.left)) (sym h.took.all_is))

      same_reply : reply ≡ t.reply
      same_reply = let e = one.0 in cc

      kind_is : reply.body ≡ Chunked
      kind_is = ap (λ (r : ReplyHead). r.body) same_reply ∙ t.chunked

      abbrev rest : List ℕ
      rest = b.rest ++ l.left

      split : bytes ≡ head ++ (b.passed ++ rest)
      split =
          l.whole ∙ ap (λ (x : List ℕ). x ++ (b.given ++ l.left)) (sym h.took.all_is ∙ one.1)
          ∙ append_assoc head kept (b.given ++ l.left)
          ∙ ap (λ (x : List ℕ). head ++ x) (sym (append_assoc kept b.given l.left) ∙ ap (λ (x : List ℕ). x ++ l.left) b.split ∙ append_assoc b.passed b.rest l.left)

      comes : HasData Chunked b.content b.passed
      comes = subst (λ (k : BodyKind). HasData k b.content b.passed) kind_is b.comes

      abbrev us : List UpdateView
      us = heard.updates

      ends_chunked : EndsBody heard.last Chunked us b.content b.passed b.rest m j
      ends_chunked = subst (λ (k : BodyKind). EndsBody heard.last k us b.content b.passed b.rest m j) kind_is b.ends

      -- the end of the body is that of the bytes
      held : BodyEnds Chunked b.content b.passed b.rest j.left → HoldData head bytes b.content
      held (inl over) = holds head ps bytes t b.content b.passed rest comes split (all_passed head ps bytes t b.content b.passed rest comes split over.is) (inr over.is)
      held (inr cut) = holds head ps bytes t b.content b.passed rest comes split (both_none b.rest l.left cut.behind (at_end l.left j.left l.told cut.ended)) (inl cut.begun)

      rose : (m.faults ≤ j.faults) × Rose m.faults j.faults → (i.faults ≤ j.faults) × Rose i.faults j.faults
      rose k = subst (λ (x : ℕ). (x ≤ j.faults) × Rose x j.faults) h.took.moves.faults k

      ends : (last : Last) → EndsBody last Chunked us b.content b.passed b.rest m j → EndsWhole last us head bytes ⊎ EndsEarly last bytes i.faults j.faults
      ends (Head r) e = absurd e
      ends (Stream (nexts.Update u)) e = absurd e
      ends (Stream nexts.End) e = inl (b.content, held e.1, e.0)
      ends (Stream (nexts.Torn at)) (have, torn, place, end) = inl (b.content, held end, have, torn, place)
      ends (Stream (nexts.Fault f)) e = absurd (no_fault head ps bytes t b.content b.passed rest comes split us f e)
      ends (Stream nexts.ReadFault) (inl against) = absurd (none_against head ps bytes t b.content b.passed rest comes split against)
      ends (Stream nexts.ReadFault) (inr count) = inr (rose count)
      ends (Stream nexts.Spent) e = inr (spent_bytes head ps bytes t b.content b.passed rest comes split e)
      ends (Stream nexts.Memory) e = inr tt
      ends Memory e = inr tt

      pub body_front : Reads heard j
      body_front = record {
        front = subst (λ (V : List UpdateView). IsFront us V) all_is (updates_front head ps bytes t b.content b.passed rest comes split us b.begins);
        ends = ends heard.last ends_chunked;
        whole = λ e k holds. whole heard.last us e k holds;
      }

    -- no head was read
    no_update : IsFront [] sent_all
    no_update = (sent_all, refl)

    no_left : (kept : List ℕ) (j : Intake) → TookForReply [] kept i j → IsAtEnd j.left → bytes ≡ kept
    no_left kept j took ended =
        let l = left_of bytes took.got [] i.left j.left j.left told took.moves.left (same_left j.left) in
        l.whole ∙ ap (λ (x : List ℕ). took.got ++ x) (at_end l.left j.left l.told ended) ∙ append-nil took.got ∙ sym took.all_is

    no_head : (kept : List ℕ) (j : Intake) → TookForReply [] kept i j → IsReplyOpen kept → IsAtEnd j.left → IsFront head bytes → ⊥
    no_head kept j took still ended (r, e) = head_decides head ps bytes t r e (subst IsReplyOpen (sym (no_left kept j took ended)) still)

    headless : (r : Replied) (kept : List ℕ) (j : Intake) → ((x : ReplyHead) → r ≡ replies.Head x → ⊥) → Replies r [] kept i j → Reads (record { updates = []; last = Head r }) j
    headless (replies.Head x) kept j never h = absurd (never x refl)
    headless (replies.Refused f) kept j never h = absurd (
        let a = h.1 in
        let l = left_of bytes a.took.got [] i.left j.left j.left told a.took.moves.left (same_left j.left) in
        let e : refused f ≡ replied t.reply = (one_head head ps bytes t (refused f) a.all h.0 l.left a.decided (l.whole ∙ ap (λ (x : List ℕ). x ++ l.left) (sym a.took.all_is))).0 in
        cc
        )
    headless replies.Torn kept j never h = record { front = no_update; ends = inl (refl, no_head kept j h.0 h.1 h.2); whole = λ e k holds. whole (Head replies.Torn) [] e k holds }
    headless replies.ReadFault kept j never h = record { front = no_update; ends = inr (h.0.never_falls, h.0.rose); whole = λ e k holds. absurd e }
    headless replies.Memory kept j never h = record { front = no_update; ends = inr tt; whole = λ e k holds. absurd e }

    pub no_front : (r : Replied) (kept : List ℕ) (j : Intake) (heard : Heard) → ((x : ReplyHead) → r ≡ replies.Head x → ⊥) → Replies r [] kept i j → heard ≡ record { updates = []; last = Head r } → Reads heard j
    no_front r kept j heard never h is = subst (λ (x : Heard). Reads x j) (sym is) (headless r kept j never h)

-- what a new wire answers
pub replies_first : (w : WireView) (r : Replied) (kept : List ℕ) (i j : Intake) → w ≡ record { held = []; over = None } → IfNone w.over (Replies r w.held kept i j) → Replies r [] kept i j
replies_first w r kept i j e h = subst (λ (x : WireView). IfNone x.over (Replies r x.held kept i j)) e h

-- what was read of the body behind it
pub body_behind : (kind known : BodyKind) (w v : WireView) (heard : Heard) (i j : Intake) → kind ≡ known → w ≡ v → ReadsBody kind w.held heard i j → ReadsBody known v.held heard i j
body_behind kind known w v heard i j e f b = subst (λ (k : BodyKind). ReadsBody k v.held heard i j) e (subst (λ (x : WireView). ReadsBody kind x.held heard i j) f b)
