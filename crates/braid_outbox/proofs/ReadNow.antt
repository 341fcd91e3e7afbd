-- What is read of a replica, and where it resumes.
use Rattle.std.proofs.Common.{◌≡◌, ◌↔◌, ℕ, ◌≤◌, ◌+◌, List, Bool, [], ◌∷◌, ◌++◌, sym, ap, subst, ◌∙◌, arith, length, take, Some}
use Rattle.std.proofs.lemmas.List.{take_all}
use Rattle.std.specs.List.{Contains, slice_get}
use Rattle.std.specs.declared.result.Result.{Result}
use Rattle.std.specs.declared.result.Result.TheVariants.{Ok, Err}
use Rattle.std.specs.Result.{IfOk}
use Rattle.braid_ids.specs.Frontiers.{IsRising}
use Rattle.braid_change.specs.Updates.{UpdateView}
use Rattle.braid_graph.specs.Entries.{GraphEntry, HoldsAll}
use Rattle.braid_graph.specs.Frontiers.{IsFrontierOf, frontier_of}
use Rattle.braid_graph.proofs.Frontiers.{one_frontier}
use Rattle.braid_graph.proofs.Kept.{take_next}
use Rattle.braid_tree.specs.Trees.{Member}
use Rattle.braid_rebase.proofs.Members.{contains_member, member_contains}
use Rattle.braid_text.specs.Histories.{graph_of, IsLegal, SameGraph, text_at, text_of}
use Rattle.braid_text.specs.Digested.{digest_at}
use Rattle.braid_text.proofs.Digests.{same_digest}
use Rattle.braid_text.proofs.Public.{same_text_at}
use Rattle.braid_outbox.specs.Replicas.{ReplicaView, all_of, frontier, resume_of}
use Rattle.braid_outbox.specs.Kept.{replica_in, IsKept}
use Rattle.braid_outbox.specs.Heads.{IsHead}
use Rattle.braid_outbox.proofs.Fronts.{take_rises, same_rising}
use Rattle.braid_outbox.proofs.Keeping.{alike, all_is, same_graph, within}
use Rattle.braid_outbox.proofs.Picked.{picked_length}

pub if_ok : {A E : Type 0} (P Q : A → Type 0) (r : Result A E) → ((x : A) → P x → Q x) → IfOk r P → IfOk r Q
if_ok P Q (Ok x) h p = h x p
if_ok P Q (Err x) h p = p

module _ (agent : List ℕ) (H : List UpdateView) (ns : List ℕ) (c : ℕ) (flags : List Bool) (k : IsKept agent H ns c flags) (q : ReplicaView) (e : replica_in agent H ns c ≡ q) where
  pub few_now : length (all_of q) ≤ 524288
  few_now = subst (λ (r : ReplicaView). length (all_of r) ≤ 524288) e (let a = ap length (all_is agent H ns c flags k) in let b = picked_length H ns (within agent H ns c flags k) in let s = k.few in let d = k.counted in omega (arith, a, b, s, d))

  same_now : SameGraph H (all_of q)
  same_now = subst (λ (r : ReplicaView). SameGraph H (all_of r)) e (λ u. let s = same_graph agent H ns c flags k u in (s.1, s.0))

  legal_now : IsLegal (all_of q)
  legal_now = subst (λ (r : ReplicaView). IsLegal (all_of r)) e k.sound.legal

  pub frontier_now : (F : List (List ℕ)) → IsFrontierOf (graph_of H) F → F ≡ frontier (all_of q)
  frontier_now F is = one_frontier (graph_of H) F is ∙ sym ((alike agent H ns c flags k).frontier) ∙ ap (λ (r : ReplicaView). frontier (all_of r)) e

  pub width_now : length (frontier H) ≡ length (frontier (all_of q))
  width_now = ap length (sym ((alike agent H ns c flags k).frontier) ∙ ap (λ (r : ReplicaView). frontier (all_of r)) e)

  pub text_now : (F : List (List ℕ)) (t : List ℕ) → IsFrontierOf (graph_of H) F → HoldsAll (graph_of H) F × (t ≡ text_at H F) → t ≡ text_of (all_of q)
  text_now F t is s = s.1 ∙ same_text_at H (all_of q) k.legal legal_now same_now F s.0 ∙ ap (text_at (all_of q)) (frontier_now F is)

  pub digest_now : (d : List ℕ) → d ≡ digest_at H → d ≡ digest_at (all_of q)
  digest_now d s = s ∙ same_digest H (all_of q) k.legal legal_now same_now

-- the identifiers of the heads, sorted
pub frontier_ok : {E : Type 0} (es : List GraphEntry) (ids : List (List ℕ)) (r : Result (List (List ℕ)) E) → ((v : List ℕ) → Contains ids v ↔ IsHead es v) → IfOk r IsRising → IfOk r (λ (F : List (List ℕ)). (v : List ℕ) → Contains F v ↔ Contains ids v)
    → IfOk r (IsFrontierOf es)
frontier_ok es ids (Ok F) heads rising same = record { rising = rising; exact = λ v. ((λ m. (heads v).0 ((same v).0 m)), (λ h. (same v).1 ((heads v).1 h))) }
frontier_ok es ids (Err x) heads rising same = rising

-- the identifiers that a replica resumes from
pub resumes : (q : ReplicaView) (es : List GraphEntry) (F ids G : List (List ℕ)) → es ≡ graph_of q.confirmed → IsFrontierOf es F → ids ≡ take 32 F → IsRising G → ((v : List ℕ) → Contains G v ↔ Contains ids v) → G ≡ resume_of q
resumes q es F ids G e is s rising same = same_rising G (take 32 F) rising (take_rises 32 F is.rising)
    (λ v m. subst (Member v) s (contains_member ids v ((same v).0 (member_contains G v m))))
    (λ v m. contains_member G v ((same v).1 (member_contains ids v (subst (Member v) (sym s) m))))
    ∙ ap (take 32) (one_frontier es F is ∙ ap frontier_of e)

-- the first identifiers of a frontier
pub least_next : (F ids ids' : List (List ℕ)) (n : ℕ) (v w : List ℕ) → (ids ≡ take n F) × (n ≤ 32) → (n ≡ 32 → ⊥) → Some v ≡ slice_get F n → w ≡ v → ids' ≡ ids ++ w ∷ [] → (ids' ≡ take (n + 1) F) × (n + 1 ≤ 32)
least_next F ids ids' n v w k other at e s = (s ∙ (λ i. k.0 i ++ e i ∷ []) ∙ sym (take_next F n v (sym at)), omega (arith, k.1, other))

pub least_end : (F ids : List (List ℕ)) (n : ℕ) → (ids ≡ take n F) × (n ≤ 32) → length F ≤ n → ids ≡ take 32 F
least_end F ids n k far = k.0 ∙ take_all n F far ∙ sym (take_all 32 F (omega (arith, far, k.1)))

pub resumes_ok : {E : Type 0} (q : ReplicaView) (es : List GraphEntry) (F ids : List (List ℕ)) (r : Result (List (List ℕ)) E) → es ≡ graph_of q.confirmed → IsFrontierOf es F → ids ≡ take 32 F → IfOk r IsRising → IfOk r (λ (G : List (List ℕ)). (v : List ℕ) → Contains G v ↔ Contains ids v)
    → IfOk r (λ (G : List (List ℕ)). G ≡ resume_of q)
resumes_ok q es F ids (Ok G) e is s rising same = resumes q es F ids G e is s rising same
resumes_ok q es F ids (Err x) e is s rising same = rising
