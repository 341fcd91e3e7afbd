-- The laws over histories whose oldest update stands first.
use Rattle.std.proofs.Common.{◌≡◌, ◌↔◌, ℕ, ◌+◌, ◌-◌, List, [], ◌∷◌, ◌++◌, Bool, true, false, not, cond, filter, length, reverse, Some, IsSome, sym, ap, subst, ◌∙◌, inl, inr, ◌≢◌}
use Rattle.std.specs.List.{Contains}
use Rattle.std.proofs.lemmas.List.{reverse-append, length-reverse}
use Rattle.std.proofs.lemmas.List.Elements.{filter-append}
use Rattle.braid_ids.specs.Identifiers.{IsIdentifier}
use Rattle.braid_ids.specs.Frontiers.{IsRising}
use Rattle.braid_change.specs.Updates.{UpdateView, IsBuilt}
use Rattle.braid_change.specs.Splices.{spliced, inserted, removed}
use Rattle.braid_graph.specs.Entries.{Holds, HoldsAll, has_id, GraphEntry}
use Rattle.braid_graph.specs.Ancestries.{IsAncestor}
use Rattle.braid_graph.specs.Levels.{greatest_by, level_of, level_in}
use Rattle.braid_graph.specs.Frontiers.{frontier_of}
use Rattle.braid_tree.specs.Keys.{Key, key_cmp, key_in}
use Rattle.braid_tree.specs.Nodes.{Node, with_nodes}
use Rattle.braid_tree.proofs.Keys.{keys_strict}
use Rattle.braid_tree.proofs.Kept.{same_reading}
use Rattle.braid_text.specs.declared.room.Room.{Room}
use Rattle.braid_text.specs.declared.accept.Accept.{Accept}
use Rattle.braid_text.specs.declared.accept.Accept.TheVariants.{New, Known, Clash, UnknownParent, OutOfRange, Full, Memory}
use Rattle.braid_text.specs.Documents.{IsDocument}
use Rattle.braid_text.specs.Sent.{is_outside, sent}
use Rattle.braid_text.proofs.Law.{law_any, seen_any}
use Rattle.braid_text.proofs.Answered.{is_answer, one_answer}
use Rattle.braid_text.proofs.Held.{id_member, member_version, one_update, version_holds, version_member}
use Rattle.braid_text.proofs.Alike.{frontier_same, log_turned, turned_log}
use Rattle.braid_rebase.proofs.Filtered.{filter_member, member_filter}
use Rattle.braid_text.proofs.Documents.{document_length}
use Rattle.braid_rebase.proofs.Members.{contains_member, from_log, in_log, member_contains}
use Rattle.braid_rebase.specs.Additions.{chars_of, seen_after, ranges_at}
use Rattle.braid_text.proofs.Whole.{ancestry_member, not_true}
use Rattle.braid_text.proofs.Ties.{ancestor_version, frontier_whole, greatest_levels, held_at, holds_log, log_holds, version_ancestor, levels, log_graph}
use Rattle.braid_text.specs.Versions.{Version, ancestors_in, has_version, versions_in, document_in, deletions_by, deletions_in, elements_by, elements_in}
use Rattle.braid_tree.specs.Trees.{Member}
use Rattle.braid_text.specs.Answers.{HasRoom, IsAnswer, answer_to, needs_of, room_of}
use Rattle.braid_text.proofs.Logs.{Has, false_from, has_holds, holds_has}
use Rattle.braid_text.proofs.Same.{Compatible, same_read}
use Rattle.braid_text.specs.Histories.{AreCompatible, IsLegal, IsLegalLog, MayFollow, SameGraph, added_by, ancestors_at, deletions_of, document_of, elements_of, graph_of, seen_at, text_at, versions_at}
use Rattle.braid_rebase.proofs.Counted.{nodes_counted, deleted_counted}
use Rattle.braid_rebase.proofs.Spliced.{ranges_within}
use Rattle.braid_change.specs.Changes.{IsShaped}

pub log_push : (H : List UpdateView) (u : UpdateView) → reverse (H ++ u ∷ []) ≡ u ∷ reverse H
log_push H u = reverse-append H (u ∷ [])

-- legal histories grow at their end
pub legal_more : (H : List UpdateView) (u : UpdateView) → IsLegal (H ++ u ∷ []) ↔ (IsLegal H × MayFollow H u)
legal_more H u = (
  λ legal. (let r = subst IsLegalLog (log_push H u) legal in (r.1, r.0)),
  λ r. subst IsLegalLog (sym (log_push H u)) (r.1, r.0),
)

pub may_follow : (H : List UpdateView) (u : UpdateView) → MayFollow H u ↔ (¬ (Holds (graph_of H) u.id) × IsIdentifier u.id × HoldsAll (graph_of H) u.parents × IsRising u.parents × IsBuilt u.parents u.change × IsSome (spliced (text_at H u.parents) u.change))
may_follow H u = (
  λ f. ((λ h. f.new (holds_log H u.id h)), f.named, (λ p c. log_holds H p (f.parents_held p c)), f.rising, f.built, f.fits),
  λ (new, named, parents, rising, built, fits). record { new = λ h. new (log_holds H u.id h); named = named; parents_held = λ p c. holds_log H p (parents p c); rising = rising; built = built; fits = fits },
)

-- what one more update adds
pub versions_more : (H : List UpdateView) (u : UpdateView) → versions_at (H ++ u ∷ []) ≡ added_by H u ∷ versions_at H
versions_more H u = ap versions_in (log_push H u)

pub document_more : (H : List UpdateView) (u : UpdateView) → document_of (H ++ u ∷ []) ≡ with_nodes key_cmp (added_by H u).nodes (document_of H)
document_more H u = ap document_in (versions_more H u)

pub elements_more : (H : List UpdateView) (u : UpdateView) → elements_of (H ++ u ∷ []) ≡ elements_of H ++ elements_by (added_by H u)
elements_more H u = ap elements_in (versions_more H u)

pub deletions_more : (H : List UpdateView) (u : UpdateView) → deletions_of (H ++ u ∷ []) ≡ deletions_of H ++ deletions_by (added_by H u)
deletions_more H u = ap deletions_in (versions_more H u)

pub level_more : (H : List UpdateView) (u : UpdateView) → IsLegal H → HoldsAll (graph_of H) u.parents → (added_by H u).level ≡ 1 + greatest_by (level_of (graph_of H)) u.parents
level_more H u legal held = ap (λ (n : ℕ). 1 + n) (greatest_levels H legal u.parents held)

-- histories that do not differ under one identifier
pub compatible_logs : (H K : List UpdateView) → AreCompatible H K → Compatible (reverse H) (reverse K)
compatible_logs H K compatible u w m n e = compatible u w (from_log H u m) (from_log K w n) e

pub shared_seen : (H K : List UpdateView) → IsLegal H → IsLegal K → AreCompatible H K → (F : List (List ℕ)) → HoldsAll (graph_of H) F → HoldsAll (graph_of K) F → seen_at H F ≡ seen_at K F
shared_seen H K lh lk compatible F held there = same_read (reverse H) (reverse K) lh lk (compatible_logs H K compatible) F (held_at H F held) (held_at K F there)

-- two legal histories of one graph do not differ
pub graph_compatible : (H K : List UpdateView) → IsLegal K → SameGraph H K → AreCompatible H K
graph_compatible H K lk same u w c d e = one_update (reverse K) lk u w (in_log K u ((same u).0 c)) (in_log K w d) e

pub graph_held : (H K : List UpdateView) → SameGraph H K → (F : List (List ℕ)) → HoldsAll (graph_of H) F → HoldsAll (graph_of K) F
graph_held H K same F held v c = go (holds_has H v (held v c))
  where
    go : Has H v → Holds (graph_of K) v
    go (u, m, e) = has_holds K v (u, contains_member K u ((same u).0 (member_contains H u m)), e)

pub same_seen_at : (H K : List UpdateView) → IsLegal H → IsLegal K → SameGraph H K → (F : List (List ℕ)) → HoldsAll (graph_of H) F → seen_at H F ≡ seen_at K F
same_seen_at H K lh lk same F held = shared_seen H K lh lk (graph_compatible H K lk same) F held (graph_held H K same F held)

pub same_text_at : (H K : List UpdateView) → IsLegal H → IsLegal K → SameGraph H K → (F : List (List ℕ)) → HoldsAll (graph_of H) F → text_at H F ≡ text_at K F
same_text_at H K lh lk same F held = ap chars_of (same_seen_at H K lh lk same F held)

-- every version reads as the splice of what its parents read
pub splice_any : (H : List UpdateView) → IsLegal H → (u : UpdateView) → Contains H u → spliced (text_at H u.parents) u.change ≡ Some (text_at H (u.id ∷ []))
splice_any H legal u c = law_any (reverse H) legal u (in_log H u c)

pub own_seen : (H : List UpdateView) → IsLegal H → (u : UpdateView) → Contains H u → seen_at H (u.id ∷ []) ≡ seen_after (level_of (graph_of H) u.id) u.id (seen_at H u.parents) u.change
own_seen H legal u c = seen_any (reverse H) legal u (in_log H u c) ∙ ap (λ (es : List GraphEntry). seen_after (level_in es u.id) u.id (seen_at H u.parents) u.change) (log_graph H)

-- there is one document
pub one_document : (H : List UpdateView) (d e : List (Node Key)) → IsDocument H d → IsDocument H e → d ≡ e
one_document H d e p q = same_reading key_cmp keys_strict d e p.reading q.reading (λ x m. contains_member e x ((q.exact x).1 ((p.exact x).0 (member_contains d x m)))) (λ x m. contains_member d x ((p.exact x).1 ((q.exact x).0 (member_contains e x m))))

pub document_counted : (H : List UpdateView) → length (document_of H) ≡ length (elements_of H)
document_counted H = document_length (versions_at H)

pub levels_at : (H : List UpdateView) → IsLegal H → (v : Version) → Contains (versions_at H) v → v.level ≡ level_of (graph_of H) v.id
levels_at H legal v c = levels H legal v (contains_member (versions_at H) v c)

pub ancestors_exact : (H : List UpdateView) → IsLegal H → (F : List (List ℕ)) → HoldsAll (graph_of H) F → (v : List ℕ) → (has_version v (ancestors_at H F) ≡ true) ↔ IsAncestor (graph_of H) F v
ancestors_exact H legal F held v = (version_ancestor H legal F held v, ancestor_version H legal F held v)

-- the frontier is that of the entries, in whatever order
pub frontier_log : (H : List UpdateView) → frontier_of (graph_of (reverse H)) ≡ frontier_of (graph_of H)
frontier_log H = frontier_same (reverse H) H (log_turned H) (turned_log H)

pub frontier_all : (H : List UpdateView) → IsLegal H → ancestors_at H (frontier_of (graph_of H)) ≡ versions_at H
frontier_all H legal = ap (ancestors_in (versions_at H)) (sym (frontier_log H)) ∙ frontier_whole (reverse H) legal

-- the width afterwards
pub width_after : (H : List UpdateView) (u : UpdateView) → (needs_of H u).width ≡ length (frontier_of (graph_of (H ++ u ∷ [])))
width_after H u = ap length (ap (λ (us : List UpdateView). frontier_of (graph_of us)) (sym (log_push H u)) ∙ frontier_log (H ++ u ∷ []))

-- what is needed, by the ranges of the change
pub needs_elements : (H : List UpdateView) (u : UpdateView) → (needs_of H u).elements ≡ inserted (ranges_at (seen_at H u.parents) u.change)
needs_elements H u = nodes_counted (key_in (added_by H u).level u.id) (seen_at H u.parents) 0 (ranges_at (seen_at H u.parents) u.change)

pub needs_deletions : (H : List UpdateView) (u : UpdateView) → IsShaped u.change → (needs_of H u).deletions ≡ removed (ranges_at (seen_at H u.parents) u.change)
needs_deletions H u shaped = deleted_counted (seen_at H u.parents) (ranges_at (seen_at H u.parents) u.change) 0 (ranges_within (seen_at H u.parents) u.change shaped)

-- New comes exactly where the longer history is legal and there is room
pub new_exact : (room : Room) (H : List UpdateView) (u : UpdateView) → IsLegal H → IsIdentifier u.id → IsRising u.parents → IsBuilt u.parents u.change → (answer_to room H u ≡ New) ↔ (IsLegal (H ++ u ∷ []) × HasRoom (needs_of H u) room)
new_exact room H u legal identifier rising built = (
  λ e. (let a = subst (IsAnswer room H u) e (is_answer room H u legal rising identifier built) in ((legal_more H u).1 (legal, a.0), a.1)),
  λ r. elim (one_answer room H u legal rising New (((legal_more H u).0 r.0).1, r.1)) [ inl e ↦ absurd (no e) | inr e ↦ sym e ],
)
  where
    is_new : Accept → Bool
    is_new New = true
    is_new Known = false
    is_new (Clash v) = false
    is_new (UnknownParent v) = false
    is_new (OutOfRange n len) = false
    is_new (Full which n left) = false
    is_new Memory = false

    no : New ≡ Memory → ⊥
    no e = let a : is_new New ≡ is_new Memory = ap is_new e in cc

-- what is sent past a frontier
pub sent_exact : (H : List UpdateView) → IsLegal H → (F : List (List ℕ)) → HoldsAll (graph_of H) F → (u : UpdateView) → Contains (sent H F) u ↔ (Contains H u × ¬ (IsAncestor (graph_of H) F u.id))
sent_exact H legal F held u = (
  λ c. (let r = member_filter (is_outside H F) u H (contains_member (sent H F) u c) in (member_contains H u r.0, λ a. (let t = ancestor_version H legal F held u.id a in let f = not_true (has_version u.id (ancestors_at H F)) r.1 in cc))),
  λ r. member_contains (sent H F) u (filter_member (is_outside H F) u H (contains_member H u r.0) (ap not (false_from (has_version u.id (ancestors_at H F)) (λ t. r.1 (version_ancestor H legal F held u.id t))))),
)

-- with one more update what was sent stays, and the update comes behind it
pub sent_more : (H : List UpdateView) (F : List (List ℕ)) (u : UpdateView) → IsLegal H → HoldsAll (graph_of H) F → ¬ (Holds (graph_of H) u.id) → sent (H ++ u ∷ []) F ≡ sent H F ++ u ∷ []
sent_more H F u legal held new = ap (λ (f : UpdateView → Bool). filter f (H ++ u ∷ [])) outside ∙ filter-append (is_outside H F) H (u ∷ []) ∙ ap (λ (b : Bool). filter (is_outside H F) H ++ cond b (u ∷ []) []) (ap not (false_from (has_version u.id (ancestors_at H F)) (λ t. unheld (ancestor t))))
  where
    unheld : has_version u.id (versions_at H) ≡ true → ⊥
    unheld t = new (log_holds H u.id (version_holds (reverse H) u.id t))

    ancestor : has_version u.id (ancestors_at H F) ≡ true → has_version u.id (versions_at H) ≡ true
    ancestor t = go (version_member u.id (ancestors_at H F) t)
      where
        go : (w : Version) × Member w (ancestors_at H F) × (w.id ≡ u.id) → has_version u.id (versions_at H) ≡ true
        go (w, m, e) = subst (λ (i : List ℕ). has_version i (versions_at H) ≡ true) e (member_version w (versions_at H) (ancestry_member w (versions_at H) F m))

    other : has_id u.id F ≡ false
    other = false_from (has_id u.id F) (λ t. new (held u.id (member_contains F u.id (id_member u.id F t))))

    outside : is_outside (H ++ u ∷ []) F ≡ is_outside H F
    outside = ap (λ (vs : List Version). λ (x : UpdateView). not (has_version x.id vs)) (ap (λ (vs : List Version). ancestors_in vs F) (versions_more H u)
        ∙ ap (λ (b : Bool). cond b (added_by H u ∷ ancestors_in (versions_at H) (u.parents ++ F)) (ancestors_in (versions_at H) F)) other)

-- no other answer fits but want of memory
pub only_answer : (room : Room) (H : List UpdateView) (u : UpdateView) → IsLegal H → IsRising u.parents → (a : Accept) → IsAnswer room H u a → a ≢ Memory → a ≡ answer_to room H u
only_answer room H u legal rising a is other = elim (one_answer room H u legal rising a is) [ inl e ↦ absurd (other e) | inr e ↦ e ]

-- to an update that is held only Known fits
pub held_known : (room : Room) (H : List UpdateView) (u : UpdateView) → IsLegal H → IsRising u.parents → Contains H u → (a : Accept) → IsAnswer room H u a → a ≡ Known
held_known room H u legal rising c a is = elim (one_answer room H u legal rising a is) [
  | inl e ↦ absurd (memory (subst (IsAnswer room H u) e is) c)
  | inr e ↦ e ∙ elim (one_answer room H u legal rising Known c) [ inl f ↦ absurd (memory (subst (IsAnswer room H u) f c) c) | inr f ↦ sym f ]
]
  where
    memory : IsAnswer room H u Memory → Contains H u → ⊥
    memory out = out

-- what limits leave of versions beside a history
pub room_versions : (limits : Room) (H : List UpdateView) → (room_of limits H).versions ≡ limits.versions - length H
room_versions limits H = ap (λ (n : ℕ). limits.versions - n) (length-reverse H)
