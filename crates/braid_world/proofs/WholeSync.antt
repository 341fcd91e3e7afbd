-- A sync that is served whole is done.
use Rattle.std.proofs.Common.{◌≡◌, ℕ, ◌≤◌, ◌⊎◌, List, [], ◌++◌, refl, sym, ap, subst, ◌∙◌, inl, inr, take, append-nil, Option, Some, None, arith}
use Rattle.std.specs.List.{Contains}
use Rattle.braid_change.specs.Updates.{UpdateView}
use Rattle.braid_tree.specs.Trees.{Member}
use Rattle.braid_tree.proofs.Member.{member_append_left}
use Rattle.braid_text.proofs.Logs.{Has, has_holds, holds_has}
use Rattle.braid_rebase.proofs.Members.{contains_member, member_contains}
use Rattle.braid_store.specs.declared.entry.Entry.{Entry}
use Rattle.braid_store.specs.Books.{of_path}
use Rattle.braid_outbox.specs.Replicas.{ReplicaView}
use Rattle.braid_outbox.specs.Laws.{IsPart}
use Rattle.braid_session.specs.declared.serving.Serving.{Serving}
use Rattle.braid_session.specs.Pieces.{last_mark}
use Rattle.braid_session.proofs.Pieces.{path_front, front_of_book}
use Rattle.braid_sync.specs.declared.place.Place.{Place}
use Rattle.braid_sync.specs.declared.end.SyncEnd.{SyncEnd}
use Rattle.braid_sync.specs.declared.end.SyncEnd.TheVariants as ends
use Rattle.braid_sync.specs.Talks.{Said, nothing_failed, dial_failed}
use Rattle.braid_sync.specs.Posting.{Confirms, Posts, posted, unwritten, unanswered, unaided as unheard}
use Rattle.braid_sync.specs.Syncs.{PostsAll, all_sent, next_link, link_failed, no_link, no_room, SyncText, unreached, unaided, cut_short, went_on}
use Rattle.braid_world.specs.WholeSyncs.{EndsByItself, ServesLinks, ServesSync, IsSynced, WholeSync}
use Rattle.braid_world.proofs.Progress as progress
use Rattle.braid_world.proofs.PutsServed.{Done, links_end}
use Rattle.braid_world.proofs.WatchServed.{CatchesUp, first_ends}

same_end : (a b : SyncEnd) → Some a ≡ Some b → a ≡ b
same_end a b e = cc

-- what was confirmed stays so as PUTs are acknowledged

confirms_keep : (r q : ReplicaView) (us : List UpdateView) → Confirms r us q → IsPart r.confirmed q.confirmed
confirms_keep r q us c u there = member_contains q.confirmed u (subst (Member u) (sym c.confirmed) (member_append_left u r.confirmed us (contains_member r.confirmed u there)))

posts_keep : (place : Place) (r : ReplicaView) (said : Said) (q : ReplicaView) (end : Option SyncEnd) → Posts place r said q end → IsPart r.confirmed q.confirmed
posts_keep place r said _ _ (posted us rest q c few why sent a) = confirms_keep r q us c
posts_keep place r said _ _ (unwritten us u part rest q c few h p sent a) = confirms_keep r q us c
posts_keep place r said _ _ (unanswered us u rest q end c few h sent a e) = confirms_keep r q us c
posts_keep place r said _ _ (unheard us u part rest q c few h p sent a) = confirms_keep r q us c

part_itself : (us : List UpdateView) → IsPart us us
part_itself us u c = c

all_keep : (place : Place) (r : ReplicaView) (saids : List Said) (q : ReplicaView) (end : SyncEnd) → PostsAll place r saids q end → IsPart r.confirmed q.confirmed
all_keep place r _ _ _ (all_sent _ none) = part_itself r.confirmed
all_keep place r _ q end (next_link _ m _ said saids _ some to posts others) = λ u c. all_keep place m saids q end others u (posts_keep place r said m None posts u c)
all_keep place r _ q end (link_failed _ _ said _ some to posts) = posts_keep place r said q (Some end) posts
all_keep place r _ _ _ (no_link _ some) = part_itself r.confirmed
all_keep place r _ _ _ (no_room _ some) = part_itself r.confirmed

synced : (s : Serving) (book : List Entry) (n : ℕ) (place : Place) (r m q : ReplicaView) (said : Said) (saids : List Said) (v : ServesLinks s book n place r said saids)
    → CatchesUp book n v.marks place.path r m → IsPart m.confirmed q.confirmed → Done s book place r n v.puts v.legal v.place_is v.beside q → IsSynced book n place.path r q
synced s book n place r m q said saids v c keeps d = record {
  sent = d.sent;
  held = λ w there. has_holds q.confirmed w (moved w (holds_has m.confirmed w (c.held w there)));
  had = λ u there. keeps u (c.had u there);
  kept = λ u there. subst (λ (us : List UpdateView). Contains us u) (ap (λ (us : List UpdateView). q.confirmed ++ us) d.sent ∙ append-nil q.confirmed) (d.brought.whole u there);
  landed = λ u there. member_contains (of_path book place.path) u (subst (Member u) (sym (front_of_book book place.path [] v.legal d.high).1)
      (member_append_left u (of_path (take d.high book) place.path) (front_of_book book place.path [] v.legal d.high).0 (contains_member (of_path (take d.high book) place.path) u (d.brought.part u there))));
}
  where
    moved : (w : List ℕ) → Has m.confirmed w → Has q.confirmed w
    moved w (u, member, named) = (u, contains_member q.confirmed u (keeps u (member_contains m.confirmed u member)), named)

ends_so : (s : Serving) (book : List Entry) (n : ℕ) (place : Place) (r q : ReplicaView) (saids : List Said) (end : SyncEnd) → SyncText place r saids q end → ServesSync s book n place r saids → EndsByItself end
    → ((end ≡ ends.Done) × IsSynced book n place.path r q) ⊎ (end ≡ ends.Memory)
ends_so s book n place r _ _ _ unreached v free = absurd (let e : dial_failed ≡ nothing_failed = free.unfailed in cc)
ends_so s book n place r _ _ _ unaided v free = inr refl
ends_so s book n place r _ _ _ (cut_short said q end to sub) v free = elim (first_ends s book n place r v.subscriptions v.legal v.place_is v.narrow v.beside said v.marks 0 v.high q (Some end) v.first_served sub free) [
  | inl k ↦ absurd (let e : Some end ≡ None = k.0 in cc)
  | inr k ↦ inr (same_end end ends.Memory k)
]
ends_so s book n place r _ _ _ (went_on said saids m q end to sub posts) v free = elim (first_ends s book n place r v.subscriptions v.legal v.place_is v.narrow v.beside said v.marks 0 v.high m None v.first_served sub tt) [
  | inl k ↦ behind k.1 k.2 k.3
  | inr k ↦ absurd (let e : None ≡ Some ends.Memory = k in cc)
]
  where
    behind : CatchesUp book n v.marks place.path r m → n ≤ last_mark n v.marks → last_mark n v.marks ≤ v.high → ((end ≡ ends.Done) × IsSynced book n place.path r q) ⊎ (end ≡ ends.Memory)
    behind c low below = elim (links_end s book place r n v.puts v.legal v.place_is v.beside v.high saids m q end (omega (arith, low, below))
        (progress.stays_beside.brought (of_path (take (last_mark n v.marks) book) place.path) (of_path (take v.high book) place.path) r m c.brought (path_front book place.path [] v.legal (last_mark n v.marks) v.high below))
        posts v.others_served free) [
          | inl k ↦ inl (k.0, synced s book n place r m q said saids v c (all_keep place m saids q end posts) k.1)
          | inr k ↦ inr k
        ]

pub whole_sync : WholeSync
whole_sync s book n place r q saids end v text free = ends_so s book n place r q saids end text v free
