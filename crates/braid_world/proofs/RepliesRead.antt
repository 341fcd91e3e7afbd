-- What a client reads of a reply to a PUT, and why it does not end there.
use Rattle.std.proofs.Common.{◌≡◌, ◌≢◌, ℕ, List, [], ◌∷◌, ◌++◌, refl, sym, ap, subst, ◌∙◌, inl, inr, length, length-append, append_assoc, append-nil, Option, Some, None, unwrap_or, false, arith}
use Rattle.std.specs.Io.KnownBytes.{IsAtEnd}
use Rattle.std.proofs.lemmas.List.{append_cancel_left}
use Rattle.braid_http.specs.declared.reply.Reply.{Reply}
use Rattle.braid_http.specs.declared.response.ReplyHead.{ReplyHead}
use Rattle.braid_http.specs.declared.response.BodyKind.{BodyKind}
use Rattle.braid_http.specs.declared.response.BodyKind.TheVariants.{Length, Chunked}
use Rattle.braid_http.specs.Bodies.{IsBody, HasBegun}
use Rattle.braid_http.specs.Responses.{ReplyAnswer, replied, refused, IsReplyDecided}
use Rattle.braid_http.specs.Replies.{reply_text}
use Rattle.braid_http.proofs.ReplyDecisions.{one_reply}
use Rattle.braid_sync.specs.declared.end.SyncEnd.{SyncEnd}
use Rattle.braid_sync.specs.declared.end.SyncEnd.TheVariants as ends
use Rattle.braid_sync.specs.Talks.{nothing_failed, read_failed}
use Rattle.braid_sync.specs.Posting.{HasHead, IsReply, EndsReply}
use Rattle.braid_sync.specs.Syncs.{failing}
use Rattle.braid_world.proofs.StoredRead.{IsRead}

-- where fronts are as long, the rests are one
same_rests : (a c b d : List ℕ) → length a ≡ length c → a ++ b ≡ c ++ d → b ≡ d
same_rests [] [] b d l e = e
same_rests [] (y ∷ c) b d l e = absurd (omega (arith, l))
same_rests (x ∷ a) [] b d l e = absurd (omega (arith, l))
same_rests (x ∷ a) (y ∷ c) b d l e = same_rests a c b d (omega (arith, l)) (let k : a ++ b ≡ c ++ d = cc in k)

pub at_end : (left : Option (List ℕ)) → IsAtEnd left → unwrap_or left [] ≡ []
at_end None h = refl
at_end (Some left) h = h

same_reply : (a b : ReplyHead) → replied a ≡ replied b → a ≡ b
same_reply a b e = cc

module _ (reply : Reply) (status n : ℕ) (w : IsRead reply status n) (given left rest : List ℕ) (offered : given ++ left ≡ reply_text false reply ++ rest) where
  whole : given ++ left ≡ w.front ++ (w.content ++ rest)
  whole = offered ∙ ap (λ (z : List ℕ). z ++ rest) w.written ∙ append_assoc w.front w.content rest

  -- a head that is read is the one that was written
  one_head : (x : ReplyAnswer) (behind : List ℕ) → IsReplyDecided x given behind → (x ≡ replied w.head) × (behind ++ left ≡ w.content ++ rest)
  one_head x behind d =
      let all : d.front ++ (behind ++ left) ≡ w.front ++ (w.content ++ rest) = sym (append_assoc d.front behind left) ∙ ap (λ (z : List ℕ). z ++ left) (sym d.whole) ∙ whole in
      let same = one_reply x (replied w.head) d.front w.front (behind ++ left) (w.content ++ rest) d.decides w.decides all in
      (same.1, append_cancel_left w.front (behind ++ left) (w.content ++ rest) (ap (λ (z : List ℕ). z ++ (behind ++ left)) (sym same.0) ∙ all))

  kind_is : (head : ReplyHead) → replied head ≡ replied w.head → head.body ≡ Length n
  kind_is head e = ap (λ (h : ReplyHead). h.body) (same_reply head w.head e) ∙ w.body_is

  -- a whole reply that is read is the one that was written
  pub reply_taken : (code : ℕ) (more : List ℕ) (told : Option (List ℕ)) → IsReply code given more told → (code ≡ status) × (more ++ left ≡ rest)
  reply_taken code more told x =
      let one = one_head (replied x.head) x.has.behind x.has.decided in
      let body : IsBody (Length n) x.content x.passed = subst (λ (k : BodyKind). IsBody k x.content x.passed) (kind_is x.head one.0) x.over.is in
      let all : x.passed ++ (more ++ left) ≡ w.content ++ rest = sym (append_assoc x.passed more left) ∙ ap (λ (z : List ℕ). z ++ left) (sym x.has.split) ∙ one.1 in (
        x.status_is ∙ ap (λ (h : ReplyHead). h.status) (same_reply x.head w.head one.0) ∙ w.status_is,
        same_rests x.passed w.content (more ++ left) rest (body.1 ∙ sym w.long) all,
      )

  -- where nothing is left, the bytes given hold the reply
  none_left : left ≡ [] → given ≡ w.front ++ (w.content ++ rest)
  none_left e = sym (append-nil given) ∙ ap (λ (z : List ℕ). given ++ z) (sym e) ∙ whole

  -- a body of so many bytes is not cut
  not_cut : (head : ReplyHead) (passed behind content : List ℕ) → HasHead head given passed behind → HasBegun head.body content passed → behind ≡ [] → left ≡ [] → ⊥
  not_cut head passed behind content has begun none end =
      let one = one_head (replied head) has.behind has.decided in
      let b : HasBegun (Length n) content passed = subst (λ (k : BodyKind). HasBegun k content passed) (kind_is head one.0) begun in
      let few = b.1 in
      omega (arith, few, ap length one.1, length-append has.behind left, ap length has.split, length-append passed behind, ap length none, ap length end, length-append w.content rest, w.long)

  -- an end that comes of it is that of its status
  pub reply_ends : (end : SyncEnd) (told : Option (List ℕ)) → left ≡ unwrap_or told [] → EndsReply end given told → failing end ≡ nothing_failed → end ≢ ends.Spent → (status ≢ 200) × (end ≡ ends.Peer status)
  reply_ends ends.Cut told l (inl x) f few = absurd (x.0 (replied w.head) w.front (w.content ++ rest) w.decides (none_left (l ∙ at_end told x.1)))
  reply_ends ends.Cut told l (inr x) f few = absurd (not_cut x.head x.passed x.rest x.content x.has x.holds.0.begun x.holds.0.behind (l ∙ at_end told x.holds.0.ended))
  reply_ends (ends.Peer code) told l (other, more, x) f few = let same = (reply_taken code more told x).0 in (λ e. other (same ∙ e), ap ends.Peer same)
  reply_ends (ends.BadHead fault) told l (inl (more, d)) f few = absurd (let e : refused fault ≡ replied w.head = (one_head (refused fault) more d).0 in cc)
  reply_ends (ends.BadHead fault) told l (inr (is, x)) f few = absurd (let e : x.head.body ≡ Length n = kind_is x.head (one_head (replied x.head) x.has.behind x.has.decided).0 in let k : Chunked ≡ Length n = sym x.holds.0.chunked ∙ e in cc)
  reply_ends ends.ReadFault told l x f few = absurd (let e : read_failed ≡ nothing_failed = f in cc)
  reply_ends ends.Spent told l x f few = absurd (few refl)
  reply_ends end told l x f few = absurd x
