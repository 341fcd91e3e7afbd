use Rattle.std.proofs.Common.{◌≡◌, ℕ, ◌-◌, List, [], length, take, drop, Some, None, Err, refl, sym, ap, subst, ◌∙◌, arith}
use Rattle.std.proofs.lemmas.List.{take_rest, take_all}
use Rattle.braid_change.specs.Updates.{UpdateView}
use Rattle.braid_frame.specs.declared.fed.Fed.{Fed}
use Rattle.braid_frame.specs.declared.fed.FrameFault.{FrameFault}
use Rattle.braid_frame.specs.declared.fed.FeedFault.{FeedFault}
use Rattle.braid_frame.specs.declared.fed.FeedFault.TheVariants.{Frame}
use Rattle.braid_frame.specs.declared.state.State.{State}
use Rattle.braid_frame.specs.Framing.{Takes, Fails, Feeds, IfEnds, updates_of}
use Rattle.braid_frame.proofs.Meant.{completes}
use Rattle.braid_grammar.specs.Streams.{Completes}
use Rattle.braid_state.specs.StateFaults.{BeginsNoUpdate}
use Rattle.braid_state.specs.Stops.{IsFirstUpdate}
use Rattle.braid_state.proofs.Updates.{none_begins, ends_first}
use Rattle.braid_state.proofs.body.feed_update.Goals as goal

taken_update : (u : UpdateView) (bytes : List ℕ) (fed : Fed) (new : State) → fed.update ≡ Some u → Takes [] [] bytes fed new → IsFirstUpdate u (take (length bytes - fed.taken) (drop fed.taken bytes)) bytes
taken_update u bytes fed new e k = subst (λ t. IsFirstUpdate u t bytes) (sym (take_rest bytes fed.taken)) (ends_first u fed.taken bytes (subst (λ o. IfEnds [] o (take fed.taken bytes)) e k.found))

no_update : (bytes : List ℕ) (fed : Fed) (new : State) → fed.update ≡ None → Takes [] [] bytes fed new → BeginsNoUpdate bytes
no_update bytes fed new e k =
    let all : take fed.taken bytes ≡ bytes = ap (λ n. take n bytes) (k.whole e) ∙ take_all (length bytes) bytes (omega arith) in
    none_begins bytes (subst (Completes []) all (subst (λ o. Completes (updates_of o) (take fed.taken bytes)) e (completes (updates_of fed.update) new (take fed.taken bytes) k.stands)))

at_fault : (bytes : List ℕ) (fault : FeedFault) (f : FrameFault) (new : State) → fault ≡ Frame f → Feeds [] [] bytes (Err fault) new → BeginsNoUpdate bytes
at_fault bytes fault f new e k = let fails : Fails [] [] bytes f new = subst (λ (x : FeedFault). Feeds [] [] bytes (Err x) new) e k in none_begins bytes (completes [] new bytes fails.stands)

pub returns-in-Some-clause-ok : goal.returns-in-Some-clause-ok
returns-in-Some-clause-ok c = rw c.in-Some.update-is (taken_update c.in-Some.update c.args.bytes.now c.in-Ok.fed c.feed.new.self c.in-Some.is (c.in-Ok.ensures.feeds [] [] c.requires.stands))

pub returns-in-None-clause-stop : goal.returns-in-None-clause-stop
returns-in-None-clause-stop c = (refl, no_update c.args.bytes.now c.in-Ok.fed c.feed.new.self c.in-None.is (c.in-Ok.ensures.feeds [] [] c.requires.stands))

pub returns-in-Frame-clause-stop : goal.returns-in-Frame-clause-stop
returns-in-Frame-clause-stop c = (refl, at_fault c.args.bytes.now c.in-Err.fault c.in-Frame.field-0 c.feed.new.self c.in-Frame.is (c.in-Err.ensures.feeds [] [] c.requires.stands))
