-- Links that were dialled and hung up, one after the other.
use Rattle.std.proofs.Common.{◌≡◌, ◌<◌, ◌≤◌, ℕ, List, [], ◌∷◌, ◌++◌, Option, Some, None, refl, ap, sym, subst, ◌∙◌, append_assoc}
use Rattle.std.specs.List.{AllByRecursion}
use Rattle.std.specs.Io.KnownBytes.{append_known}
use Rattle.braid_io.specs.Outside.{Intake, Outflow, Rose, IsBlank, joint_count}
use Rattle.braid_io.specs.Dialers.{Talk, Dialing, Reaches, HangsUp}
use Rattle.braid_sync.specs.declared.place.Place.{Place}
use Rattle.braid_sync.specs.Talks.{Said, AreTold, Tells, TellAll, with_more, with_read_faults, with_write_faults, Gains, Failing, nothing_failed, dial_failed, read_failed, write_failed, print_failed, IsQuiet, FailedBy}
use Rattle.braid_sync.specs.Steps.{Does, RoseOn, said_on}
use Rattle.braid_sync.specs.Links.{TalksOnce}
use Rattle.braid_sync.proofs.AtHands.{some_rose}

-- what a new link tells once bytes went over it
told_from : (before after : Option (List ℕ)) (bytes : List ℕ) → IsBlank before → after ≡ append_known before bytes → AreTold after bytes
told_from None after bytes n e = subst (λ (x : Option (List ℕ)). AreTold x bytes) (sym e) tt
told_from (Some xs) after bytes n e = subst (λ (x : Option (List ℕ)). AreTold x bytes) (sym e) (ap (λ (t : List ℕ). t ++ bytes) n)

-- one link and its counts
failed_once : (f : Failing) (i j : Intake) (o p : Outflow) (talk : Talk) (old new : Dialing) → talk.intake.faults ≡ j.faults → talk.outflow.faults ≡ p.faults → i.faults ≡ 0 → o.faults ≡ 0 → RoseOn f i.faults j.faults o.faults p.faults → new.faults ≡ old.faults
    → FailedBy f (talk ∷ []) old new
failed_once nothing_failed i j o p talk old new r w a b c n = (n, ((r ∙ c.0 ∙ a, w ∙ c.1 ∙ b), tt))
failed_once dial_failed i j o p talk old new r w a b c n = absurd c
failed_once read_failed i j o p talk old new r w a b c n = (n, record { before = []; talk = talk; split = refl; quiet = tt; rose = subst (λ (x : ℕ). 0 < x) (sym r) (some_rose i.faults j.faults c.1); writes = w ∙ c.2 ∙ b })
failed_once write_failed i j o p talk old new r w a b c n = (n, record { before = []; talk = talk; split = refl; quiet = tt; rose = subst (λ (x : ℕ). 0 < x) (sym w) (some_rose o.faults p.faults c.2); reads = r ∙ c.0 ∙ a })
failed_once print_failed i j o p talk old new r w a b c n = (n, ((r ∙ c.0 ∙ a, w ∙ c.1 ∙ b), tt))

-- a link was dialled, did this, and was hung up
pub talks_once : (place : Place) (f : Failing) (P : Said → Type 0) (old mid new : Dialing) (i j : Intake) (o p : Outflow) (sent given : List ℕ) → Reaches place.server i o old mid → Does sent given f i j o p → HangsUp j p mid new → P (said_on place sent given j)
    → TalksOnce place f P old new
talks_once place f P old mid new i j o p sent given up d down holds =
    let servers = ap (λ (x : Dialing). x.servers) up.moved in
    let talks = ap (λ (x : Dialing). x.talks) up.moved in
    let read = ap (λ (x : Dialing). x.link_read_faults) up.moved in
    let write = ap (λ (x : Dialing). x.link_write_faults) up.moved in
    let faults = ap (λ (x : Dialing). x.faults) up.moved in
    let talk : Talk = record { server = place.server; intake = j; outflow = p } in
    let said = said_on place sent given j in
    let tells : Tells talk said = record { server = refl; sent = told_from o.written p.written sent up.fresh.written d.written; given = told_from i.taken j.taken given up.fresh.taken d.taken; left = refl } in
    record {
      talk = talk;
      said = said;
      to = refl;
      gains = record {
        talks_are = down.talks old.servers place.server servers ∙ ap (λ (t : Option (List Talk)). with_more t (talk ∷ [])) talks;
        hung_up = down.servers old.servers place.server servers;
        read_faults = down.link_read_faults ∙ ap (λ (n : ℕ). joint_count n j.faults) read;
        write_faults = down.link_write_faults ∙ ap (λ (n : ℕ). joint_count n p.faults) write;
      };
      told = (tells, tt);
      failed_is = failed_once f i j o p talk old new refl refl up.fresh.read_faults up.fresh.write_faults d.counts (down.faults ∙ faults);
      holds = holds;
    }

-- Several links.

more_twice : (A : Type 0) (told : Option (List A)) (xs ys : List A) → with_more (with_more told xs) ys ≡ with_more told (xs ++ ys)
more_twice A None xs ys = refl
more_twice A (Some zs) xs ys = ap Some (append_assoc zs xs ys)

reads_twice : (n : ℕ) (xs ys : List Talk) → with_read_faults (with_read_faults n xs) ys ≡ with_read_faults n (xs ++ ys)
reads_twice n [] ys = refl
reads_twice n (talk ∷ xs) ys = reads_twice (joint_count n talk.intake.faults) xs ys

writes_twice : (n : ℕ) (xs ys : List Talk) → with_write_faults (with_write_faults n xs) ys ≡ with_write_faults n (xs ++ ys)
writes_twice n [] ys = refl
writes_twice n (talk ∷ xs) ys = writes_twice (joint_count n talk.outflow.faults) xs ys

pub gains_then : (xs ys : List Talk) (a b c : Dialing) → Gains xs a b → Gains ys b c → Gains (xs ++ ys) a c
gains_then xs ys a b c g h =
    record {
      talks_are = h.talks_are ∙ ap (λ (t : Option (List Talk)). with_more t ys) g.talks_are ∙ more_twice Talk a.talks xs ys;
      hung_up = h.hung_up ∙ g.hung_up;
      read_faults = h.read_faults ∙ ap (λ (n : ℕ). with_read_faults n ys) g.read_faults ∙ reads_twice a.link_read_faults xs ys;
      write_faults = h.write_faults ∙ ap (λ (n : ℕ). with_write_faults n ys) g.write_faults ∙ writes_twice a.link_write_faults xs ys;
    }

pub told_then : (xs ys : List Talk) (first second : List Said) → TellAll xs first → TellAll ys second → TellAll (xs ++ ys) (first ++ second)
told_then [] ys [] second h k = k
told_then [] ys (a ∷ first) second h k = absurd h
told_then (x ∷ xs) ys [] second h k = absurd h
told_then (x ∷ xs) ys (a ∷ first) second h k = (h.0, told_then xs ys first second h.1 k)

pub quiet_then : (xs ys : List Talk) → AllByRecursion IsQuiet xs → AllByRecursion IsQuiet ys → AllByRecursion IsQuiet (xs ++ ys)
quiet_then [] ys h k = k
quiet_then (x ∷ xs) ys h k = (h.0, quiet_then xs ys h.1 k)

split_then : (xs ys before : List Talk) (talk : Talk) → ys ≡ before ++ talk ∷ [] → xs ++ ys ≡ (xs ++ before) ++ talk ∷ []
split_then xs ys before talk e = ap (λ (t : List Talk). xs ++ t) e ∙ sym (append_assoc xs before (talk ∷ []))

pub failed_then : (f : Failing) (xs ys : List Talk) (a b c : Dialing) → AllByRecursion IsQuiet xs → b.faults ≡ a.faults → FailedBy f ys b c → FailedBy f (xs ++ ys) a c
failed_then nothing_failed xs ys a b c q e h = (h.0 ∙ e, quiet_then xs ys q h.1)
failed_then dial_failed xs ys a b c q e h = (subst (λ (n : ℕ). n ≤ c.faults) e h.0, subst (λ (n : ℕ). Rose n c.faults) e h.1, quiet_then xs ys q h.2)
failed_then read_failed xs ys a b c q e h =
    let l = h.1 in (h.0 ∙ e, record { before = xs ++ l.before; talk = l.talk; split = split_then xs ys l.before l.talk l.split; quiet = quiet_then xs l.before q l.quiet; rose = l.rose; writes = l.writes })
failed_then write_failed xs ys a b c q e h =
    let l = h.1 in (h.0 ∙ e, record { before = xs ++ l.before; talk = l.talk; split = split_then xs ys l.before l.talk l.split; quiet = quiet_then xs l.before q l.quiet; rose = l.rose; reads = l.reads })
failed_then print_failed xs ys a b c q e h = (h.0 ∙ e, quiet_then xs ys q h.1)
