-- What stays true of the bytes that a link gave as it gives more.
use Rattle.std.proofs.Common.{◌≡◌, ℕ, List, [], ◌∷◌, ◌++◌, Option, Some, None, refl, ap, sym, subst, ◌∙◌, append_assoc, append-nil}
use Rattle.std.proofs.lemmas.List.Concat.{flat_map-append}
use Rattle.std.proofs.lemmas.Option.{same_Some}
use Rattle.std.specs.Io.KnownBytes.{prepend_known}
use Rattle.braid_change.specs.Updates.{UpdateView}
use Rattle.braid_http.specs.declared.response.BodyKind.{BodyKind}
use Rattle.braid_http.specs.declared.response.ReplyHead.{ReplyHead}
use Rattle.braid_http.specs.Responses.{ReplyAnswer, IsReplyDecided}
use Rattle.braid_outbox.specs.Replicas.{ReplicaView}
use Rattle.braid_sync.specs.declared.place.Place.{Place}
use Rattle.braid_sync.specs.Hearing.{IsEnded, IsOver}
use Rattle.braid_sync.specs.Opening.{Opens, opened, begun}
use Rattle.braid_sync.specs.Posting.{HasHead, IsReply, Acknowledges, Confirms, put_text, put_texts}

-- no bytes are two parts of which neither has any
none_of : (xs ys : List ℕ) → xs ++ ys ≡ [] → (xs ≡ []) × (ys ≡ [])
none_of [] ys e = (refl, e)
none_of (x ∷ xs) ys e = absurd (cc)

ended_told : (rest more after : List ℕ) (left : Option (List ℕ)) → left ≡ Some (more ++ after) → IsEnded rest left → (after ≡ []) × (rest ++ more ≡ [])
ended_told rest more after None e h = absurd (cc)
ended_told rest more after (Some xs) e h =
    let n = none_of more after (sym (same_Some xs (more ++ after) e) ∙ h.0) in
    (n.1, ap (λ (t : List ℕ). t ++ more) h.1 ∙ n.0)

-- a source that has ended gives no more where it tells that
pub still_ended : (rest more : List ℕ) (left after : Option (List ℕ)) → left ≡ prepend_known more after → IsEnded rest left → IsEnded (rest ++ more) after
still_ended rest more left None e h = tt
still_ended rest more left (Some after) e h = ended_told rest more after left e h

pub still_over : (kind : BodyKind) (content passed rest more : List ℕ) (left after : Option (List ℕ)) → left ≡ prepend_known more after → IsOver kind content passed rest left → IsOver kind content passed (rest ++ more) after
still_over kind content passed rest more left after e h = record { is = h.is; ended = λ k. still_ended rest more left after e (h.ended k) }

pub still_decided : (x : ReplyAnswer) (bytes rest more : List ℕ) → IsReplyDecided x bytes rest → IsReplyDecided x (bytes ++ more) (rest ++ more)
still_decided x bytes rest more h = record { front = h.front; decides = h.decides; whole = ap (λ (t : List ℕ). t ++ more) h.whole ∙ append_assoc h.front rest more }

pub still_headed : (head : ReplyHead) (bytes passed rest more : List ℕ) → HasHead head bytes passed rest → HasHead head (bytes ++ more) passed (rest ++ more)
still_headed head bytes passed rest more h =
    record {
      behind = h.behind ++ more;
      decided = still_decided _ bytes h.behind more h.decided;
      split = ap (λ (t : List ℕ). t ++ more) h.split ∙ append_assoc passed rest more;
    }

pub still_reply : (status : ℕ) (bytes rest more : List ℕ) (left after : Option (List ℕ)) → left ≡ prepend_known more after → IsReply status bytes rest left → IsReply status (bytes ++ more) (rest ++ more) after
still_reply status bytes rest more left after e h =
    record {
      head = h.head;
      passed = h.passed;
      content = h.content;
      has = still_headed h.head bytes h.passed rest more h.has;
      status_is = h.status_is;
      over = still_over h.head.body h.content h.passed rest more left after e h.over;
      within = h.within;
    }

pub still_acknowledged : (us : List UpdateView) (bytes rest more : List ℕ) (left after : Option (List ℕ)) → left ≡ prepend_known more after → Acknowledges us bytes rest left → Acknowledges us (bytes ++ more) (rest ++ more) after
still_acknowledged [] bytes rest more left after e h = ap (λ (t : List ℕ). t ++ more) h
still_acknowledged (u ∷ us) bytes rest more left after e h =
    (h.0 ++ more, still_reply 200 bytes h.0 more left after e h.1, still_acknowledged us h.0 rest more left after e h.2)

-- one more reply behind others
pub one_more_acknowledged : (us : List UpdateView) (u : UpdateView) (bytes rest more : List ℕ) (left : Option (List ℕ)) → Acknowledges us bytes rest left → IsReply 200 rest more left → Acknowledges (us ++ u ∷ []) bytes more left
one_more_acknowledged [] u bytes rest more left h k = (more, subst (λ (t : List ℕ). IsReply 200 t more left) (sym h) k, refl)
one_more_acknowledged (w ∷ us) u bytes rest more left h k = (h.0, h.1, one_more_acknowledged us u h.0 rest more left h.2 k)

-- the bytes of one more PUT
pub one_more_put : (place : Place) (us : List UpdateView) (u : UpdateView) → put_texts place (us ++ u ∷ []) ≡ put_texts place us ++ put_text place u
one_more_put place us u = flat_map-append (put_text place) us (u ∷ []) ∙ ap (λ (t : List ℕ). put_texts place us ++ t) (append-nil (put_text place u))

-- one more confirmed update
pub one_more_confirmed : (r : ReplicaView) (us : List UpdateView) (q : ReplicaView) (u : UpdateView) (m : ReplicaView) → Confirms r us q → Confirms q (u ∷ []) m → Confirms r (us ++ u ∷ []) m
one_more_confirmed r us q u m h k =
    record {
      agent = k.agent ∙ h.agent;
      confirmed = k.confirmed ∙ ap (λ (t : List UpdateView). t ++ u ∷ []) h.confirmed ∙ append_assoc r.confirmed us (u ∷ []);
      unsent = h.unsent ∙ ap (λ (t : List UpdateView). us ++ t) k.unsent ∙ sym (append_assoc us (u ∷ []) m.unsent);
    }

pub none_confirmed : (r : ReplicaView) → Confirms r [] r
none_confirmed r = record { agent = refl; confirmed = sym (append-nil r.confirmed); unsent = refl }

-- a subscription that was begun stays begun
pub still_begun : (place : Place) (r : ReplicaView) (server sent given more : List ℕ) (left after : Option (List ℕ)) (kind : BodyKind) (V : List (List ℕ)) (behind : List ℕ)
    → Opens place r (record { server = server; sent = sent; given = given; left = left }) (opened kind V behind)
    → Opens place r (record { server = server; sent = sent; given = given ++ more; left = after }) (opened kind V (behind ++ more))
still_begun place r server sent given more left after kind V behind (begun head rest W s d j) = begun head (rest ++ more) W s (still_decided _ given rest more d) j
