-- A replica that read to the end, or that holds a frontier, has the graph below it.
use Rattle.std.proofs.Common.{◌≡◌, ℕ, List, true, not, sym, ap, subst, ◌∙◌, inl, inr, ◌⊎◌, take, drop, reverse, Option, Some, None, take-append-drop}
use Rattle.std.proofs.lemmas.List.{reverse-append, take_all}
use Rattle.braid_change.specs.Updates.{UpdateView}
use Rattle.braid_tree.specs.Trees.{Member}
use Rattle.braid_tree.proofs.Member.{member_append_left}
use Rattle.braid_rebase.proofs.Filtered.{filter_member}
use Rattle.braid_rebase.proofs.Members.{contains_member, member_contains}
use Rattle.braid_text.specs.Versions.{Version, has_version, ancestors_in, versions_in}
use Rattle.braid_text.specs.Histories.{IsLegalLog}
use Rattle.braid_text.specs.Sent.{is_outside, sent}
use Rattle.braid_text.proofs.Held.{update_version, version_member}
use Rattle.braid_text.proofs.Logs.{Has, IsPartOf, legal_back, true_or}
use Rattle.braid_text.proofs.Past.{ancestors_held}
use Rattle.braid_text.proofs.Public.{frontier_all}
use Rattle.braid_outbox.specs.declared.world.Reading.{Reading}
use Rattle.braid_outbox.specs.declared.world.Side.{Side}
use Rattle.braid_outbox.specs.Replicas.{frontier}
use Rattle.braid_outbox.specs.Laws.{IsAtEnd, IsPart}
use Rattle.braid_outbox.proofs.Additions.{log_parts}
use Rattle.braid_outbox.proofs.Moves.{to_log, of_log}
use Rattle.braid_outbox.proofs.Good.{IsReadTo, GoodSide, one_of}

-- what an update is: sent, or in the ancestry
sent_or : (H : List UpdateView) (F : List (List ℕ)) (u : UpdateView) → Member u H → Member u (sent H F) ⊎ (has_version u.id (ancestors_in (versions_in (reverse H)) F) ≡ true)
sent_or H F u m = elim (true_or (has_version u.id (ancestors_in (versions_in (reverse H)) F))) [
  | inl t ↦ inr t
  | inr f ↦ inl (filter_member (is_outside H F) u H m (ap not f))
]

-- the confirmed versions are a legal log
pub confirmed_legal : (H : List UpdateView) (s : Side) → GoodSide H s → IsLegalLog (reverse s.confirmed)
confirmed_legal H s g = legal_back (reverse s.unsent) (reverse s.confirmed) (subst IsLegalLog (log_parts s.confirmed s.unsent) g.sound.legal)

-- an update of the history whose identifier is confirmed is confirmed
pub confirmed_of : (H : List UpdateView) → IsLegalLog (reverse H) → (s : Side) → GoodSide H s → (u : UpdateView) → Member u H → Has s.confirmed u.id → Member u s.confirmed
confirmed_of H legal s g u m (x, n, e) = subst (λ (t : UpdateView). Member t s.confirmed) (one_of H legal x u (g.part x n) m e) n

-- the ancestry, in a part of the history, of a frontier that is confirmed is confirmed
pub ancestry_confirmed : (H : List UpdateView) → IsLegalLog (reverse H) → (s : Side) → GoodSide H s → (K : List UpdateView) → IsPartOf K H → (F : List (List ℕ)) → ((v : List ℕ) → Member v F → Has s.confirmed v) → (u : UpdateView) → Member u K
    → has_version u.id (ancestors_in (versions_in (reverse K)) F) ≡ true → Member u s.confirmed
ancestry_confirmed H legal s g K part F base u m h = go (version_member u.id (ancestors_in (versions_in (reverse K)) F) h)
  where
    C : List UpdateView
    C = s.confirmed

    agree : (x : UpdateView) → Member x (reverse K) → Has (reverse C) x.id → Member x (reverse C)
    agree x n (y, k, e) = to_log C x (confirmed_of H legal s g x (part x (of_log K x n)) (y, of_log C y k, e))

    go : (w : Version) × Member w (ancestors_in (versions_in (reverse K)) F) × (w.id ≡ u.id) → Member u C
    go (w, n, e) = by (ancestors_held (reverse C) (confirmed_legal H s g) (reverse K) F agree (λ v k. let b = base v k in (b.0, to_log C b.0 b.1, b.2)) w n)
      where
        by : Has (reverse C) w.id → Member u C
        by (y, k, f) = confirmed_of H legal s g u (part u m) (y, of_log C y k, f ∙ e)

-- at the end of what is sent, all is confirmed
pub at_end : (H : List UpdateView) → IsLegalLog (reverse H) → (s : Side) → GoodSide H s → (o : Option Reading) → IsReadTo H s.confirmed o → IsAtEnd H o → (u : UpdateView) → Member u H → Member u s.confirmed
at_end H legal s g None r h u m = absurd h
at_end H legal s g (Some rd) r h u m = elim (sent_or H rd.from u m) [
  | inl a ↦ r.2 u (subst (Member u) (sym (take_all rd.position (sent H rd.from) h)) a)
  | inr t ↦ ancestry_confirmed H legal s g H (λ x n. n) rd.from r.0 u m t
]

-- the frontier of the first entries
pub below_frontier : (H : List UpdateView) → IsLegalLog (reverse H) → (s : Side) → GoodSide H s → (n : ℕ) → ((v : List ℕ) → Member v (frontier (take n H)) → Has s.confirmed v) → IsPart (take n H) s.confirmed
below_frontier H legal s g n base u c = member_contains s.confirmed u (ancestry_confirmed H legal s g K part (frontier K) base u (contains_member K u c) inside)
  where
    K : List UpdateView
    K = take n H

    part : IsPartOf K H
    part x m = subst (Member x) (take-append-drop n H) (member_append_left x K (drop n H) m)

    legal_front : IsLegalLog (reverse K)
    legal_front = legal_back (reverse (drop n H)) (reverse K) (subst IsLegalLog (ap reverse (sym (take-append-drop n H)) ∙ reverse-append K (drop n H)) legal)

    inside : has_version u.id (ancestors_in (versions_in (reverse K)) (frontier K)) ≡ true
    inside = subst (λ (vs : List Version). has_version u.id vs ≡ true) (sym (frontier_all K legal_front)) (update_version (reverse K) u (to_log K u (contains_member K u c)))
