use Rattle.std.proofs.Common.{List, ℕ, refl, sym, ap, subst, ◌∙◌, reverse}
use Rattle.braid_graph.specs.Entries.{HoldsAll}
use Rattle.braid_text.specs.Histories.{graph_of}
use Rattle.braid_text.specs.Refusals.{first_missing}
use Rattle.braid_text.specs.declared.accept.Accept.{Accept}
use Rattle.braid_text.specs.declared.accept.Accept.TheVariants.{Known, Clash, UnknownParent}
use Rattle.braid_outbox.specs.declared.learn.Learn.TheVariants.{Clash as IsClash}
use Rattle.braid_text.specs.Rooms.{replica_limits}
use Rattle.braid_outbox.specs.Learns.{Judged, told}
use Rattle.braid_outbox.proofs.Found.{no_missing}
use Rattle.braid_outbox.proofs.Learned.{known_answer, other_answer, missing_answer, judged_answer, judged_left, told_by, left_by, memory_told}
use Rattle.braid_outbox.proofs.replica.Replica.learn.Goals as goal

pub returns-in-Confirmed-clause-answer : goal.returns-in-Confirmed-clause-answer
returns-in-Confirmed-clause-answer c = λ n. told_by replica_limits _ _ c.standing.ensures.sound (Judged Known) _ (known_answer replica_limits _ _ c.standing.ensures.sound c.in-Confirmed.ensures.stands) refl

pub returns-in-Confirmed-clause-learnt : goal.returns-in-Confirmed-clause-learnt
returns-in-Confirmed-clause-learnt c = λ n. left_by replica_limits _ _ c.standing.ensures.sound (Judged Known) _ (known_answer replica_limits _ _ c.standing.ensures.sound c.in-Confirmed.ensures.stands) refl

pub returns-in-Other-clause-answer : goal.returns-in-Other-clause-answer
returns-in-Other-clause-answer c = λ n. told_by replica_limits _ _ c.standing.ensures.sound (Judged (Clash c.args.update.id)) _ (other_answer replica_limits _ _ c.standing.ensures.sound c.in-Other.ensures.stands.0 c.in-Other.ensures.stands.1) (c.clash.ensures.names n ∙ ap IsClash c.id.ensures.value)

pub returns-in-Other-clause-learnt : goal.returns-in-Other-clause-learnt
returns-in-Other-clause-learnt c = λ n. left_by replica_limits _ _ c.standing.ensures.sound (Judged (Clash c.args.update.id)) _ (other_answer replica_limits _ _ c.standing.ensures.sound c.in-Other.ensures.stands.0 c.in-Other.ensures.stands.1) refl

pub returns-in-Some-clause-answer : goal.returns-in-Some-clause-answer
returns-in-Some-clause-answer c = λ n. told_by replica_limits _ _ c.standing.ensures.sound (Judged (UnknownParent c.in-Some.id.now)) _
    (missing_answer replica_limits _ _ c.standing.ensures.sound c.in-Next.ensures.stands _ (sym (c.in-Some.ensures.least ∙ ap (λ (F : List (List ℕ)). first_missing F (reverse c.args.self.now.confirmed)) c.parents.ensures.value)))
    (c.unknown_parent.ensures.names n)

pub returns-in-Some-clause-learnt : goal.returns-in-Some-clause-learnt
returns-in-Some-clause-learnt c = λ n. left_by replica_limits _ _ c.standing.ensures.sound (Judged (UnknownParent c.in-Some.id.now)) _
    (missing_answer replica_limits _ _ c.standing.ensures.sound c.in-Next.ensures.stands _ (sym (c.in-Some.ensures.least ∙ ap (λ (F : List (List ℕ)). first_missing F (reverse c.args.self.now.confirmed)) c.parents.ensures.value)))
    refl

pub add_confirmed-requires : goal.add_confirmed-requires
add_confirmed-requires c = record { parents = subst (HoldsAll (graph_of c.args.self.now.confirmed)) c.parents.ensures.value ((no_missing _ _ c.in_default.ensures.least).0 refl) }

pub returns-clause-answer : goal.returns-clause-answer
returns-clause-answer c = λ n. told_by replica_limits _ _ c.standing.ensures.sound _ _
    (judged_answer replica_limits _ _ c.standing.ensures.sound c.in-Next.ensures.stands (sym (c.in_default.ensures.least ∙ ap (λ (F : List (List ℕ)). first_missing F (reverse c.args.self.now.confirmed)) c.parents.ensures.value)))
    (c.learnt.ensures.told ∙ ap (λ (a : Accept). told replica_limits (Judged a)) (c.add_confirmed.ensures.answer (memory_told replica_limits c.add_confirmed.result (λ e. n (c.learnt.ensures.told ∙ e)))))

pub returns-clause-learnt : goal.returns-clause-learnt
returns-clause-learnt c = λ n. left_by replica_limits _ _ c.standing.ensures.sound (Judged c.add_confirmed.result) _
    (judged_answer replica_limits _ _ c.standing.ensures.sound c.in-Next.ensures.stands (sym (c.in_default.ensures.least ∙ ap (λ (F : List (List ℕ)). first_missing F (reverse c.args.self.now.confirmed)) c.parents.ensures.value))
    ∙ ap Judged (sym (c.add_confirmed.ensures.answer (memory_told replica_limits c.add_confirmed.result (λ e. n (c.learnt.ensures.told ∙ e))))))
    (judged_left replica_limits _ _ c.standing.ensures.sound c.add_confirmed.result _ c.add_confirmed.ensures.taken c.add_confirmed.ensures.kept)
