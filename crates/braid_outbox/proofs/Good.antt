-- What stays true of a world: the invariant, and what follows from it for the updates that a replica and the history share.
use Rattle.std.proofs.Common.{◌≡◌, ◌≢◌, ℕ, ◌≤◌, List, [], ◌∷◌, ◌++◌, sym, ap, subst, ◌∙◌, inl, inr, map, take, length, reverse, Option, Some, None}
use Rattle.braid_ids.specs.Agents.{IsAgent}
use Rattle.braid_change.specs.Updates.{UpdateView}
use Rattle.braid_tree.specs.Trees.{Member}
use Rattle.braid_tree.proofs.Member.{all_member, member_append_cases}
use Rattle.braid_text.specs.Histories.{IsLegalLog}
use Rattle.braid_text.specs.Sent.{sent}
use Rattle.braid_text.proofs.Held.{one_update}
use Rattle.braid_text.proofs.Logs.{Has, IsPartOf}
use Rattle.braid_outbox.specs.declared.world.Reading.{Reading}
use Rattle.braid_outbox.specs.declared.world.Side.{Side}
use Rattle.braid_outbox.specs.declared.world.Posted.{Posted}
use Rattle.braid_outbox.specs.declared.world.Answered.{Answered}
use Rattle.braid_outbox.specs.declared.world.World.{World}
use Rattle.braid_outbox.specs.Replicas.{IsSound}
use Rattle.braid_outbox.specs.Worlds.{replica_of, kept_of}
use Rattle.braid_outbox.specs.Laws.{AreDifferent}
use Rattle.braid_outbox.proofs.Names.{IsName}
use Rattle.braid_outbox.proofs.Moves.{to_log}

-- all updates of a side's replica
abbrev pub side_all : Side → List UpdateView
side_all s = s.confirmed ++ s.unsent

abbrev pub kept_all : Side → List UpdateView
kept_all s = s.kept_confirmed ++ s.kept_unsent

-- a subscription's frontier is confirmed, and so is all that it carried
abbrev pub IsReadTo : List UpdateView → List UpdateView → Option Reading → Type 0
IsReadTo H C None = Unit {0}
IsReadTo H C (Some rd) = ((v : List ℕ) → Member v rd.from → Has C v) × (rd.position ≤ length (sent H rd.from)) × ((x : UpdateView) → Member x (take rd.position (sent H rd.from)) → Member x C)

pub record GoodSide (H : List UpdateView) (s : Side) : Type 0 where
  pub agent : IsAgent s.agent
  pub sound : IsSound (replica_of s)
  pub kept : IsSound (kept_of s)
  pub part : IsPartOf s.confirmed H
  pub kept_part : IsPartOf s.kept_confirmed s.confirmed
  pub kept_whole : IsPartOf (kept_all s) (side_all s)
  pub own : (x : UpdateView) → Member x s.unsent → IsName s.agent x.id
  pub kept_own : (x : UpdateView) → Member x s.kept_unsent → IsName s.agent x.id
  pub landed : (x : UpdateView) → Member x H → IsName s.agent x.id → Member x (kept_all s)
  pub reads : IsReadTo H s.confirmed s.reading

-- a PUT is of a side that keeps it under its own name, and its parents are in the history
pub record GoodPut (H : List UpdateView) (sides : List Side) (u : UpdateView) : Type 0 where
  pub made : (s : Side) × Member s sides × Member u (kept_all s) × IsName s.agent u.id
  pub owned : (s : Side) → Member s sides → IsName s.agent u.id → Member u (kept_all s)
  pub parents : (p : List ℕ) → Member p u.parents → Has H p

abbrev pub agent_of : Side → List ℕ
agent_of s = s.agent

pub record GoodWorld (w : World) : Type 0 where
  pub legal : IsLegalLog (reverse w.history)
  pub different : AreDifferent (map agent_of w.sides)
  pub sides : (s : Side) → Member s w.sides → GoodSide w.history s
  pub puts : (p : Posted) → Member p w.puts → GoodPut w.history w.sides p.update
  pub replies : (r : Answered) → Member r w.replies → r.status ≡ 200 → Has w.history r.id

-- one side has an agent
pub one_side : (ss : List Side) → AreDifferent (map agent_of ss) → (s t : Side) → Member s ss → Member t ss → s.agent ≡ t.agent → s ≡ t
one_side [] d s t m n e = absurd m
one_side (x ∷ ss) d s t (inl f) (inl g) e = sym f ∙ g
one_side (x ∷ ss) d s t (inl f) (inr n) e = absurd (all_member (λ (b : List ℕ). x.agent ≢ b) t.agent (map agent_of ss) d.0 (agent_in ss t n) (ap agent_of f ∙ e))
  where
    agent_in : (ss : List Side) (t : Side) → Member t ss → Member t.agent (map agent_of ss)
    agent_in [] t m = absurd m
    agent_in (x ∷ ss) t (inl f) = inl (ap agent_of f)
    agent_in (x ∷ ss) t (inr m) = inr (agent_in ss t m)
one_side (x ∷ ss) d s t (inr m) (inl g) e = absurd (all_member (λ (b : List ℕ). x.agent ≢ b) s.agent (map agent_of ss) d.0 (agent_in ss s m) (ap agent_of g ∙ sym e))
  where
    agent_in : (ss : List Side) (t : Side) → Member t ss → Member t.agent (map agent_of ss)
    agent_in [] t m = absurd m
    agent_in (x ∷ ss) t (inl f) = inl (ap agent_of f)
    agent_in (x ∷ ss) t (inr m) = inr (agent_in ss t m)
one_side (x ∷ ss) d s t (inr m) (inr n) e = one_side ss d.1 s t m n e

-- updates of one history with one identifier are one
pub one_of : (us : List UpdateView) → IsLegalLog (reverse us) → (a b : UpdateView) → Member a us → Member b us → a.id ≡ b.id → a ≡ b
one_of us legal a b m n e = one_update (reverse us) legal a b (to_log us a m) (to_log us b n) e

-- what a side has and the history has under one identifier is the same
pub same_as : (H : List UpdateView) → IsLegalLog (reverse H) → (s : Side) → GoodSide H s → (x u : UpdateView) → Member x (side_all s) → Member u H → x.id ≡ u.id → x ≡ u
same_as H legal s good x u m n e = elim (member_append_cases x s.confirmed s.unsent m) [
  | inl a ↦ one_of H legal x u (good.part x a) n e
  | inr b ↦ one_of (side_all s) good.sound.legal x u m (good.kept_whole u (good.landed u n (subst (IsName s.agent) e (good.own x b)))) e
]
