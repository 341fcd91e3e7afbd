-- What was given decides how a subscription is begun.
use Rattle.std.proofs.Common.{◌≡◌, ◌≢◌, ℕ, List, ◌++◌, Bool, true, false, not, ◌==◌, ◌||◌, if◌then◌else◌, Result, Ok, Err, inl, inr, ◌⊎◌, refl, ap, sym, subst, ◌∙◌}
use Rattle.std.proofs.lemmas.List.{append_cancel_left}
use Rattle.braid_ids.specs.Frontiers.{rising_ids}
use Rattle.braid_fields.specs.Known.{is_there}
use Rattle.braid_fields.specs.Table.{is_repeated, is_other_merge_type, is_no_list, has_bad_id, members_of}
use Rattle.braid_http.specs.declared.refusal.Refusal.{Refusal}
use Rattle.braid_http.specs.declared.response.ReplyHead.{ReplyHead}
use Rattle.braid_http.specs.declared.response.BodyKind.{BodyKind}
use Rattle.braid_http.specs.Responses.{ReplyAnswer, replied, refused, IsReplyDecided, IsReplyOpen}
use Rattle.braid_http.proofs.ReplyDecisions.{one_reply}
use Rattle.braid_outbox.specs.Replicas.{ReplicaView}
use Rattle.braid_sync.specs.declared.place.Place.{Place}
use Rattle.braid_sync.specs.declared.end.SyncEnd.{SyncEnd}
use Rattle.braid_sync.specs.declared.end.SyncEnd.TheVariants as ends
use Rattle.braid_sync.specs.Talks.{Said, Failing, nothing_failed, read_failed, write_failed}
use Rattle.braid_sync.specs.Judging.{merge_lines, current_lines, judge}
use Rattle.braid_sync.specs.Opening.{subscription_text, IsPartOf, EndsHead, Begun, opened, ended, Opens, unwritten, headless, turned_down, begun, unaided}
use Rattle.braid_sync.specs.Syncs.{failing}
use Rattle.braid_sync.specs.Laws.{AreAlike}
use Rattle.braid_sync.proofs.LawFronts.{no_more}
use Rattle.braid_sync.proofs.LawSame.{sent_fixed}

-- bytes decide one reply, behind which one rest stands
pub one_decided : (x y : ReplyAnswer) (bytes r s : List ℕ) → IsReplyDecided x bytes r → IsReplyDecided y bytes s → (x ≡ y) × (r ≡ s)
one_decided x y bytes r s h k =
    let e = one_reply x y h.front k.front r s h.decides k.decides (sym h.whole ∙ k.whole) in
    (e.1, append_cancel_left h.front r s (sym h.whole ∙ k.whole ∙ ap (λ f. f ++ s) (sym e.0)))

pub not_open : (x : ReplyAnswer) (bytes rest : List ℕ) → IsReplyOpen bytes → IsReplyDecided x bytes rest → ⊥
not_open x bytes rest o d = o x d.front rest d.decides d.whole

-- a head and a refusal are not decided both
pub head_or_refusal : (head : ReplyHead) (f : Refusal) (bytes r s : List ℕ) → IsReplyDecided (replied head) bytes r → IsReplyDecided (refused f) bytes s → ⊥
head_or_refusal head f bytes r s h k = let e = (one_decided (replied head) (refused f) bytes r s h k).0 in cc

no_end : {A : Type 0} → (x : A) (end : SyncEnd) → Ok x ≡ Err end → ⊥
no_end x end h = cc

err_quiet : {A : Type 0} → (e end : SyncEnd) → ◌≡◌ {A = Result A SyncEnd} (Err e) (Err end) → failing e ≡ nothing_failed → failing end ≡ nothing_failed
err_quiet e end h q = let k : e ≡ end = cc in subst (λ x. failing x ≡ nothing_failed) k q

rows_quiet : {A : Type 0} → (a b c d : Bool) (status : ℕ) (x : A) (end : SyncEnd)
    → (if a then Err (ends.Peer status) else if b then Err ends.OtherMergeType else if c then Err ends.NoCurrent else if d then Err ends.BadCurrent else Ok x) ≡ Err end → failing end ≡ nothing_failed
rows_quiet true b c d status x end h = err_quiet (ends.Peer status) end h refl
rows_quiet false true c d status x end h = err_quiet ends.OtherMergeType end h refl
rows_quiet false false true d status x end h = err_quiet ends.NoCurrent end h refl
rows_quiet false false false true status x end h = err_quiet ends.BadCurrent end h refl
rows_quiet false false false false status x end h = absurd (no_end x end h)

-- what a judged head ends with says that no call failed
pub judged_quiet : (head : ReplyHead) (end : SyncEnd) → judge head ≡ Err end → failing end ≡ nothing_failed
judged_quiet head end h = rows_quiet (not (head.status == 209)) (is_repeated (merge_lines head) || is_other_merge_type (merge_lines head)) (not (is_there (current_lines head)))
    (is_no_list (current_lines head) || has_bad_id (members_of (current_lines head))) head.status (rising_ids (members_of (current_lines head))) end h

-- a subscription was begun: its reply has this head
pub record Starts (place : Place) (r : ReplicaView) (said : Said) (kind : BodyKind) (V : List (List ℕ)) (behind : List ℕ) : Type 0 where
  pub head : ReplyHead
  pub sent : said.sent ≡ subscription_text place r
  pub decided : IsReplyDecided (replied head) said.given behind
  pub judged : judge head ≡ Ok V
  pub kind_is : kind ≡ head.body

-- the end that decides a reply, where it is no head that is taken
abbrev pub EndOf : ReplyAnswer → SyncEnd → Type 0
EndOf (replied head) end = judge head ≡ Err end
EndOf (refused f) end = end ≡ ends.BadHead f

-- why a subscription was not begun
pub data Fails (place : Place) (r : ReplicaView) (said : Said) (end : SyncEnd) : Type 0 where
  not_written : IsPartOf said.sent (subscription_text place r) → end ≡ ends.WriteFault → Fails place r said end
  not_decided : said.sent ≡ subscription_text place r → IsReplyOpen said.given → (end ≡ ends.Cut) ⊎ (end ≡ ends.ReadFault) → Fails place r said end
  decided : (x : ReplyAnswer) (rest : List ℕ) → said.sent ≡ subscription_text place r → IsReplyDecided x said.given rest → EndOf x end → Fails place r said end

abbrev pub Opened : Place → ReplicaView → Said → Begun → Type 0
Opened place r said (opened kind V behind) = Starts place r said kind V behind
Opened place r said (ended end) = end ≢ ends.Memory → Fails place r said end

headless_fails : (place : Place) (r : ReplicaView) (said : Said) (end : SyncEnd) → said.sent ≡ subscription_text place r → EndsHead end said → Fails place r said end
headless_fails place r said ends.Cut s h = not_decided s h.0 (inl refl)
headless_fails place r said (ends.BadHead f) s h = decided (refused f) h.0 s h.1 refl
headless_fails place r said ends.ReadFault s h = not_decided s h (inr refl)
headless_fails place r said end s h = absurd h

pub opens_as : (place : Place) (r : ReplicaView) (said : Said) (x : Begun) → Opens place r said x → Opened place r said x
opens_as place r said _ (unwritten p g) = λ n. not_written p refl
opens_as place r said _ (headless end s h) = λ n. headless_fails place r said end s h
opens_as place r said _ (turned_down head rest end s d j) = λ n. decided (replied head) rest s d j
opens_as place r said _ (begun head rest V s d j) = record { head = head; sent = s; decided = d; judged = j; kind_is = refl }
opens_as place r said _ (unaided f) = λ n. absurd (n refl)

replied_is : (h k : ReplyHead) → replied h ≡ replied k → h ≡ k
replied_is h k e = cc

-- heads that the same bytes decide are one
pub one_head : (h k : ReplyHead) (bytes r s : List ℕ) → IsReplyDecided (replied h) bytes r → IsReplyDecided (replied k) bytes s → (h ≡ k) × (r ≡ s)
one_head h k bytes r s d e = let z = one_decided (replied h) (replied k) bytes r s d e in (replied_is h k z.0, z.1)

judged_same : (h k : ReplyHead) (V W : List (List ℕ)) → h ≡ k → judge h ≡ Ok V → judge k ≡ Ok W → V ≡ W
judged_same h k V W e i j = let z : ◌≡◌ {A = Result (List (List ℕ)) SyncEnd} (Ok V) (Ok W) = sym i ∙ ap judge e ∙ j in cc

-- a subscription is begun in one way
pub one_start : (place : Place) (r : ReplicaView) (s t : Said) (kind other : BodyKind) (V W : List (List ℕ)) (b c : List ℕ) → s.given ≡ t.given → Starts place r s kind V b → Starts place r t other W c
    → (kind ≡ other) × (V ≡ W) × (b ≡ c)
one_start place r s t kind other V W b c g h k =
    let z = one_head h.head k.head t.given b c (subst (λ x. IsReplyDecided (replied h.head) x b) g h.decided) k.decided in
    (h.kind_is ∙ ap (λ (x : ReplyHead). x.body) z.0 ∙ sym k.kind_is, judged_same h.head k.head V W z.0 h.judged k.judged, z.1)

not_part : (sent text : List ℕ) → IsPartOf sent text → sent ≡ text → ⊥
not_part sent text p e = p.1 (no_more text p.0 (p.2 ∙ ap (λ x. x ++ p.0) e))

-- and then it does not fail
pub no_fail : (place : Place) (r : ReplicaView) (f : Failing) (s t : Said) (kind : BodyKind) (V : List (List ℕ)) (b : List ℕ) (end : SyncEnd) → AreAlike f s t → f ≡ failing end → Starts place r s kind V b → Fails place r t end → ⊥
no_fail place r f s t kind V b end a e h (not_written p w) = not_part t.sent (subscription_text place r) p (sym (sent_fixed f s t a (e ∙ ap failing w)) ∙ h.sent)
no_fail place r f s t kind V b end a e h (not_decided w o z) = not_open (replied h.head) t.given b o (subst (λ x. IsReplyDecided (replied h.head) x b) a.given h.decided)
no_fail place r f s t kind V b end a e h (decided x rest w d z) = go x (subst (λ y. IsReplyDecided (replied h.head) y b) a.given h.decided) d z
  where
    go : (x : ReplyAnswer) → IsReplyDecided (replied h.head) t.given b → IsReplyDecided x t.given rest → EndOf x end → ⊥
    go (replied head) i j z = let e = (one_head h.head head t.given b rest i j).0 in let k : Ok V ≡ Err end = sym h.judged ∙ ap judge e ∙ z in no_end V end k
    go (refused f) i j z = head_or_refusal h.head f t.given b rest i j

end_of_one : (x : ReplyAnswer) (end stop : SyncEnd) → EndOf x end → EndOf x stop → end ≡ stop
end_of_one (replied head) end stop e f = let k : ◌≡◌ {A = Result (List (List ℕ)) SyncEnd} (Err end) (Err stop) = sym e ∙ f in cc
end_of_one (refused f) end stop e s = e ∙ sym s

open_quiet : (end : SyncEnd) → (end ≡ ends.Cut) ⊎ (end ≡ ends.ReadFault) → failing end ≡ write_failed → ⊥
open_quiet end (inl e) f = let k : nothing_failed ≡ write_failed = sym (ap failing e) ∙ f in cc
open_quiet end (inr e) f = let k : read_failed ≡ write_failed = sym (ap failing e) ∙ f in cc

decided_quiet : (x : ReplyAnswer) (end : SyncEnd) → EndOf x end → failing end ≡ write_failed → ⊥
decided_quiet (replied head) end e f = let k : nothing_failed ≡ write_failed = sym (judged_quiet head end e) ∙ f in cc
decided_quiet (refused x) end e f = let k : nothing_failed ≡ write_failed = sym (ap failing e) ∙ f in cc

open_one : (end stop : SyncEnd) → (end ≡ ends.Cut) ⊎ (end ≡ ends.ReadFault) → (stop ≡ ends.Cut) ⊎ (stop ≡ ends.ReadFault) → failing end ≡ failing stop → end ≡ stop
open_one end stop (inl e) (inl s) f = e ∙ sym s
open_one end stop (inl e) (inr s) f = let k : nothing_failed ≡ read_failed = sym (ap failing e) ∙ f ∙ ap failing s in absurd (cc)
open_one end stop (inr e) (inl s) f = let k : read_failed ≡ nothing_failed = sym (ap failing e) ∙ f ∙ ap failing s in absurd (cc)
open_one end stop (inr e) (inr s) f = e ∙ sym s

-- it fails in one way, and the same was sent
pub one_fail : (place : Place) (r : ReplicaView) (s t : Said) (end stop : SyncEnd) → AreAlike (failing end) s t → failing end ≡ failing stop → Fails place r s end → Fails place r t stop → (end ≡ stop) × (s.sent ≡ t.sent)
one_fail place r s t end stop a f (not_written p e) (not_written q z) = (e ∙ sym z, sent_fixed (failing end) s t a (ap failing e))
one_fail place r s t end stop a f (not_written p e) (not_decided w o z) = absurd (open_quiet stop z (sym f ∙ ap failing e))
one_fail place r s t end stop a f (not_written p e) (decided x rest w d z) = absurd (decided_quiet x stop z (sym f ∙ ap failing e))
one_fail place r s t end stop a f (not_decided w o e) (not_written p z) = absurd (open_quiet end e (f ∙ ap failing z))
one_fail place r s t end stop a f (not_decided w o e) (not_decided v p z) = (open_one end stop e z f, w ∙ sym v)
one_fail place r s t end stop a f (not_decided w o e) (decided x rest v d z) = absurd (not_open x s.given rest o (subst (λ y. IsReplyDecided x y rest) (sym a.given) d))
one_fail place r s t end stop a f (decided x rest w d e) (not_written p z) = absurd (decided_quiet x end e (f ∙ ap failing z))
one_fail place r s t end stop a f (decided x rest w d e) (not_decided v o z) = absurd (not_open x t.given rest o (subst (λ y. IsReplyDecided x y rest) a.given d))
one_fail place r s t end stop a f (decided x rest w d e) (decided y more v c z) =
    let same = (one_decided x y t.given rest more (subst (λ k. IsReplyDecided x k rest) a.given d) c).0 in
    (end_of_one y end stop (subst (λ k. EndOf k end) same e) z, w ∙ sym v)
