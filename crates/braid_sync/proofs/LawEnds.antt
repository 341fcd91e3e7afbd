-- Which ends a sync has not.
use Rattle.std.proofs.Common.{◌≡◌, ◌≢◌, ℕ, List, ap, sym, ◌∙◌, Option, Some, None}
use Rattle.braid_http.specs.declared.response.BodyKind.{BodyKind}
use Rattle.braid_change.specs.Updates.{UpdateView}
use Rattle.braid_outbox.specs.Replicas.{ReplicaView}
use Rattle.braid_sync.specs.declared.place.Place.{Place}
use Rattle.braid_sync.specs.declared.end.SyncEnd.{SyncEnd}
use Rattle.braid_sync.specs.declared.end.SyncEnd.TheVariants as ends
use Rattle.braid_sync.specs.Talks.{Said, nothing_failed, print_failed}
use Rattle.braid_sync.specs.Hearing.{EndsHearing}
use Rattle.braid_sync.specs.Opening.{EndsHead, Begun, opened, ended, Opens, unwritten, headless, turned_down, begun, unaided}
use Rattle.braid_sync.specs.Posting.{EndsReply, Posts, posted, unwritten as put_unwritten, unanswered, unaided as put_unaided}
use Rattle.braid_sync.specs.Syncs.{failing, Subscribes, not_begun, caught_up, fell_short, PostsAll, all_sent, next_link, link_failed, no_link, no_room, SyncText, unreached, unaided as sync_unaided, cut_short, went_on}
use Rattle.braid_sync.proofs.LawOpening.{judged_quiet}

-- no print failed
abbrev pub IsPrinted : SyncEnd → Type 0
IsPrinted end = failing end ≡ print_failed → ⊥

head_prints : (end : SyncEnd) (said : Said) → EndsHead end said → IsPrinted end
head_prints ends.Cut said h f = cc
head_prints (ends.BadHead x) said h f = cc
head_prints ends.ReadFault said h f = cc
head_prints end said h f = h

abbrev PrintsOpening : Begun → Type 0
PrintsOpening (opened kind V behind) = Unit {0}
PrintsOpening (ended end) = IsPrinted end

opens_prints : (place : Place) (r : ReplicaView) (said : Said) (x : Begun) → Opens place r said x → PrintsOpening x
opens_prints place r said _ (unwritten p g) = λ f. cc
opens_prints place r said _ (headless end s h) = head_prints end said h
opens_prints place r said _ (turned_down head rest end s d j) = λ f. (let k : nothing_failed ≡ print_failed = sym (judged_quiet head end j) ∙ f in cc)
opens_prints place r said _ (begun head rest V s d j) = tt
opens_prints place r said _ (unaided p) = λ f. cc

-- where a subscription was not begun no print failed
pub not_begun_prints : (place : Place) (r : ReplicaView) (said : Said) (end : SyncEnd) → Opens place r said (ended end) → IsPrinted end
not_begun_prints place r said end o = opens_prints place r said (ended end) o

pub hearing_prints : (cut : Type 0) (kind : BodyKind) (passed rest content : List ℕ) (us : List UpdateView) (q : ReplicaView) (end : SyncEnd) → EndsHearing cut kind passed rest content us q end → IsPrinted end
hearing_prints cut kind passed rest content us q ends.Cut h f = cc
hearing_prints cut kind passed rest content us q (ends.BadHead x) h f = cc
hearing_prints cut kind passed rest content us q (ends.BadStream x) h f = cc
hearing_prints cut kind passed rest content us q (ends.Clash v) h f = cc
hearing_prints cut kind passed rest content us q (ends.UnknownParent v) h f = cc
hearing_prints cut kind passed rest content us q (ends.OutOfRange n len) h f = cc
hearing_prints cut kind passed rest content us q (ends.Full which limit) h f = cc
hearing_prints cut kind passed rest content us q ends.ReadFault h f = cc
hearing_prints cut kind passed rest content us q ends.Spent h f = cc
hearing_prints cut kind passed rest content us q ends.Memory h f = cc
hearing_prints cut kind passed rest content us q end h f = h

reply_prints : (end : SyncEnd) (bytes : List ℕ) (left : Option (List ℕ)) → EndsReply end bytes left → IsPrinted end
reply_prints ends.Cut bytes left h f = cc
reply_prints (ends.Peer status) bytes left h f = cc
reply_prints (ends.BadHead x) bytes left h f = cc
reply_prints ends.ReadFault bytes left h f = cc
reply_prints ends.Spent bytes left h f = cc
reply_prints end bytes left h f = h

abbrev PrintsLink : Option SyncEnd → Type 0
PrintsLink None = Unit {0}
PrintsLink (Some end) = IsPrinted end

posts_prints : (place : Place) (r : ReplicaView) (said : Said) (q : ReplicaView) (end : Option SyncEnd) → Posts place r said q end → PrintsLink end
posts_prints place r said _ _ (posted us rest q c few full s a) = tt
posts_prints place r said _ _ (put_unwritten us u part rest q c few h p s a) = λ f. cc
posts_prints place r said _ _ (unanswered us u rest q end c few h s a e) = reply_prints end rest said.left e
posts_prints place r said _ _ (put_unaided us u part rest q c few h p s a) = λ f. cc

subscribes_prints : (place : Place) (r : ReplicaView) (said : Said) (q : ReplicaView) (end : Option SyncEnd) → Subscribes place r said q end → PrintsLink end
subscribes_prints place r said _ _ (not_begun end o) = not_begun_prints place r said end o
subscribes_prints place r said _ _ (caught_up kind V behind passed rest content us q o h a v) = tt
subscribes_prints place r said _ _ (fell_short kind V behind passed rest content us q end o h a v e) = hearing_prints _ kind passed rest content us q end e

links_prints : (place : Place) (r q : ReplicaView) (saids : List Said) (end : SyncEnd) → PostsAll place r saids q end → IsPrinted end
links_prints place _ _ _ _ (all_sent r n) f = cc
links_prints place _ _ _ _ (next_link r m q said saids end n to p k) f = links_prints place m q saids end k f
links_prints place _ _ _ _ (link_failed r q said end n to p) f = posts_prints place r said q (Some end) p f
links_prints place _ _ _ _ (no_link r n) f = cc
links_prints place _ _ _ _ (no_room r n) f = cc

pub sync_prints : (place : Place) (r q : ReplicaView) (saids : List Said) (end : SyncEnd) → SyncText place r saids q end → IsPrinted end
sync_prints place r _ _ _ unreached f = cc
sync_prints place r _ _ _ sync_unaided f = cc
sync_prints place r _ _ _ (cut_short said q end to s) f = subscribes_prints place r said q (Some end) s f
sync_prints place r _ _ _ (went_on said saids m q end to s p) f = links_prints place m q saids end p f

-- a sync never ends as a line could not be printed
pub sync_never : (place : Place) (r q : ReplicaView) (saids : List Said) (end : SyncEnd) → SyncText place r saids q end → end ≢ ends.OutFault
sync_never place r q saids end text e = sync_prints place r q saids end text (ap failing e)
