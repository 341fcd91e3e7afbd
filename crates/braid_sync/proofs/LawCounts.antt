-- Which counts of a dialer rose.
use Rattle.std.proofs.Common.{◌≡◌, ℕ, ◌-◌, ◌^◌, ◌≤◌, ◌<◌, min, List, [], ◌∷◌, ◌++◌, refl, ap, sym, subst, ◌∙◌, arith}
use Rattle.std.specs.List.{AllByRecursion}
use Rattle.braid_io.specs.Outside.{Rose, joint_count}
use Rattle.braid_io.specs.Dialers.{Talk, Dialing}
use Rattle.braid_sync.specs.Talks.{with_read_faults, with_write_faults, Gains, nothing_failed, dial_failed, read_failed, write_failed, print_failed, IsQuiet, FailedToRead, FailedToWrite}
use Rattle.braid_sync.specs.Laws.{Stays, CountsRose}

-- a count, and others added to it
abbrev joined : ℕ → List ℕ → ℕ
joined n [] = n
joined n (f ∷ fs) = joined (joint_count n f) fs

abbrev AreNone : List ℕ → Type 0
AreNone fs = AllByRecursion (λ f. f ≡ 0) fs

stays_by : (n f : ℕ) → f ≡ 0 → n ≤ 2 ^ 64 - 1 → joint_count n f ≡ n
stays_by n f e l = omega (arith, e, l)

none_stays : (n : ℕ) (fs : List ℕ) → AreNone fs → n ≤ 2 ^ 64 - 1 → joined n fs ≡ n
none_stays n [] h l = refl
none_stays n (f ∷ fs) h l = ap (λ m. joined m fs) (stays_by n f h.0 l) ∙ none_stays n fs h.1 l

least_by : (n f : ℕ) → min n (2 ^ 64 - 1) ≤ min (joint_count n f) (2 ^ 64 - 1)
least_by n f = omega arith

none_least : (n : ℕ) (fs : List ℕ) → min n (2 ^ 64 - 1) ≤ min (joined n fs) (2 ^ 64 - 1)
none_least n [] = omega arith
none_least n (f ∷ fs) = let k = least_by n f in let l = none_least (joint_count n f) fs in omega (arith, k, l)

joined_last : (n : ℕ) (fs : List ℕ) (f : ℕ) → joined n (fs ++ f ∷ []) ≡ joint_count (joined n fs) f
joined_last n [] f = refl
joined_last n (g ∷ fs) f = joined_last (joint_count n g) fs f

rose_by : (n w f : ℕ) → min n (2 ^ 64 - 1) ≤ min w (2 ^ 64 - 1) → 0 < f → Rose n (joint_count w f)
rose_by n w f h s = grind arith

last_rose : (n : ℕ) (fs : List ℕ) (f : ℕ) → 0 < f → Rose n (joined n (fs ++ f ∷ []))
last_rose n fs f s = subst (Rose n) (sym (joined_last n fs f)) (rose_by n (joined n fs) f (none_least n fs) s)

abbrev read_counts : List Talk → List ℕ
read_counts [] = []
read_counts (talk ∷ talks) = talk.intake.faults ∷ read_counts talks

abbrev write_counts : List Talk → List ℕ
write_counts [] = []
write_counts (talk ∷ talks) = talk.outflow.faults ∷ write_counts talks

reads_joined : (n : ℕ) (talks : List Talk) → with_read_faults n talks ≡ joined n (read_counts talks)
reads_joined n [] = refl
reads_joined n (talk ∷ talks) = reads_joined (joint_count n talk.intake.faults) talks

writes_joined : (n : ℕ) (talks : List Talk) → with_write_faults n talks ≡ joined n (write_counts talks)
writes_joined n [] = refl
writes_joined n (talk ∷ talks) = writes_joined (joint_count n talk.outflow.faults) talks

reads_last : (talks : List Talk) (talk : Talk) → read_counts (talks ++ talk ∷ []) ≡ read_counts talks ++ talk.intake.faults ∷ []
reads_last [] talk = refl
reads_last (t ∷ ts) talk = ap (λ fs. t.intake.faults ∷ fs) (reads_last ts talk)

writes_last : (talks : List Talk) (talk : Talk) → write_counts (talks ++ talk ∷ []) ≡ write_counts talks ++ talk.outflow.faults ∷ []
writes_last [] talk = refl
writes_last (t ∷ ts) talk = ap (λ fs. t.outflow.faults ∷ fs) (writes_last ts talk)

quiet_reads : (talks : List Talk) → AllByRecursion IsQuiet talks → AreNone (read_counts talks)
quiet_reads [] h = tt
quiet_reads (talk ∷ talks) h = (h.0.0, quiet_reads talks h.1)

quiet_writes : (talks : List Talk) → AllByRecursion IsQuiet talks → AreNone (write_counts talks)
quiet_writes [] h = tt
quiet_writes (talk ∷ talks) h = (h.0.1, quiet_writes talks h.1)

none_last : (fs : List ℕ) (f : ℕ) → AreNone fs → f ≡ 0 → AreNone (fs ++ f ∷ [])
none_last [] f h e = (e, tt)
none_last (g ∷ fs) f h e = (h.0, none_last fs f h.1 e)

module _ (talks : List Talk) (old new : Dialing) (g : Gains talks old new) where
  reads_are : new.link_read_faults ≡ joined old.link_read_faults (read_counts talks)
  reads_are = g.read_faults ∙ reads_joined old.link_read_faults talks

  writes_are : new.link_write_faults ≡ joined old.link_write_faults (write_counts talks)
  writes_are = g.write_faults ∙ writes_joined old.link_write_faults talks

  reads_stay : AreNone (read_counts talks) → Stays old.link_read_faults new.link_read_faults
  reads_stay h l = reads_are ∙ none_stays old.link_read_faults (read_counts talks) h l

  writes_stay : AreNone (write_counts talks) → Stays old.link_write_faults new.link_write_faults
  writes_stay h l = writes_are ∙ none_stays old.link_write_faults (write_counts talks) h l

  reads_rose : FailedToRead talks → Rose old.link_read_faults new.link_read_faults
  reads_rose h =
      let counts = ap read_counts h.split ∙ reads_last h.before h.talk in
      subst (Rose old.link_read_faults) (sym (reads_are ∙ ap (joined old.link_read_faults) counts)) (last_rose old.link_read_faults (read_counts h.before) h.talk.intake.faults h.rose)

  writes_rose : FailedToWrite talks → Rose old.link_write_faults new.link_write_faults
  writes_rose h =
      let counts = ap write_counts h.split ∙ writes_last h.before h.talk in
      subst (Rose old.link_write_faults) (sym (writes_are ∙ ap (joined old.link_write_faults) counts)) (last_rose old.link_write_faults (write_counts h.before) h.talk.outflow.faults h.rose)

  no_reads : FailedToWrite talks → AreNone (read_counts talks)
  no_reads h = subst AreNone (sym (ap read_counts h.split ∙ reads_last h.before h.talk)) (none_last (read_counts h.before) h.talk.intake.faults (quiet_reads h.before h.quiet) h.reads)

  no_writes : FailedToRead talks → AreNone (write_counts talks)
  no_writes h = subst AreNone (sym (ap write_counts h.split ∙ writes_last h.before h.talk)) (none_last (write_counts h.before) h.talk.outflow.faults (quiet_writes h.before h.quiet) h.writes)

pub counts_rose : CountsRose
counts_rose nothing_failed talks old new g h = (h.0, reads_stay talks old new g (quiet_reads talks h.1), writes_stay talks old new g (quiet_writes talks h.1))
counts_rose dial_failed talks old new g h = (h.1, reads_stay talks old new g (quiet_reads talks h.2), writes_stay talks old new g (quiet_writes talks h.2))
counts_rose read_failed talks old new g h = (h.0, reads_rose talks old new g h.1, writes_stay talks old new g (no_writes talks old new g h.1))
counts_rose write_failed talks old new g h = (h.0, reads_stay talks old new g (no_reads talks old new g h.1), writes_rose talks old new g h.1)
counts_rose print_failed talks old new g h = (h.0, reads_stay talks old new g (quiet_reads talks h.1), writes_stay talks old new g (quiet_writes talks h.1))
