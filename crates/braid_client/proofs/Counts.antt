-- How the counts of faults go through a run, and its parts.
use Rattle.std.proofs.Common.{◌≡◌, ◌≢◌, ◌⊎◌, inl, inr, ℕ, ◌≤◌, List, [], ◌∷◌, Result, Ok, Err, refl, ap, ◌∙◌, arith}
use Rattle.std.proofs.lemmas.Bool.{cases_lt}
use Rattle.braid_io.specs.Outside.{Outflow, Rose, WritesAll}
use Rattle.braid_io.specs.Dialers.{Dialing}
use Rattle.braid_io.specs.Keepers.{Keeping}
use Rattle.braid_io.specs.declared.status.Status.{Status}
use Rattle.braid_sync.specs.Follows.{Prints}
use Rattle.braid_client.specs.declared.command.Command.{Command}
use Rattle.braid_client.specs.declared.command.Command.TheVariants.{New, Edit, Set, Show, Sync, Follow}
use Rattle.braid_client.specs.declared.fault.Fault.{Fault}
use Rattle.braid_client.specs.declared.fault.Fault.TheVariants as faults
use Rattle.braid_client.specs.declared.report.Report.{Report}
use Rattle.braid_client.specs.Forms.{IsForm, HasNoForm}
use Rattle.braid_lines.specs.Prints.{IsPrinted}
use Rattle.braid_client.specs.Runs.{Setting, OnlyKeeps, RunsFollow, follow_lacking, follow_unkept, follow_unprinted, follow_ended, follow_unbegun, follow_unaided, CarriesOut, CarriesOutWords, words_no_form, words_unaided, words_formed, Faults, GivesUp, Finishes}
use Rattle.braid_client.specs.Laws.{SomeRose}

-- a count that rose behind another, or before it
pub rose_after : (a b c : ℕ) → a ≤ b → Rose b c → Rose a c
rose_after a b c l (inl h) = inl (omega (arith, l, h))
rose_after a b c l (inr h) = inr h

pub rose_before : (a b c : ℕ) → a ≤ b → b ≤ c → Rose a b → Rose a c
rose_before a b c l m (inl h) = inl (omega (arith, m, h))
rose_before a b c l m (inr h) = elim (cases_lt b c) [
  | inl i ↦ inl (omega (arith, l, i))
  | inr i ↦ inr (let e : c ≡ b = omega (arith, m, i) in e ∙ h)
]

-- how words were carried out
abbrev pub Carried : List (List ℕ) → Setting → Setting → Result Report Fault → Type 0
Carried words old new result =
    ((result ≡ Err faults.Usage) × HasNoForm words × (new ≡ old))
    ⊎ (((result ≡ Err faults.Memory) × (new ≡ old))
    ⊎ ((name : List ℕ) × (command : Command) × IsForm words name command × CarriesOut name command result old new))

pub carried_as : (words : List (List ℕ)) (old new : Setting) (result : Result Report Fault) → CarriesOutWords words old new result → Carried words old new result
carried_as words old new _ (words_no_form n e) = inl (refl, n, e)
carried_as words old new _ (words_unaided e) = inr (inl (refl, e))
carried_as words old new _ (words_formed name command result f h) = inr (inr (name, command, f, h))

-- lines that were written, or of which a front was
pub prints_up : (lines line : List ℕ) (old new : Outflow) → Prints lines line old new → old.faults ≤ new.faults
prints_up lines [] old new p = let e = p.faults in omega (arith, e)
prints_up lines (b ∷ line) old new p = let e = p.before.faults in let l = p.then_part.never_falls in omega (arith, e, l)

pub part_rose : (lines line : List ℕ) (old new : Outflow) → Prints lines line old new → line ≢ [] → Rose old.faults new.faults
part_rose lines [] old new p some = absurd (some refl)
part_rose lines (b ∷ line) old new p some = rose_after old.faults p.between.faults new.faults (let e = p.before.faults in omega (arith, e)) p.then_part.rose

pub whole_prints : (lines line : List ℕ) (old new : Outflow) → Prints lines line old new → line ≡ [] → WritesAll lines old new
whole_prints lines [] old new p e = p
whole_prints lines (b ∷ line) old new p e = cc

follows_up : (name : List ℕ) (count : ℕ) (old new : Keeping) (dialing dialed : Dialing) (out printed : Outflow) (result : Result Report Fault) → RunsFollow name count old new dialing dialed out printed result → out.faults ≤ printed.faults
follows_up name count old new dialing dialed out printed _ (follow_lacking fault l d p) = let e = ap (λ (o : Outflow). o.faults) p in omega (arith, e)
follows_up name count old new dialing dialed out printed _ (follow_unkept place q followed f m o k) = prints_up f.follows.lines f.follows.line out printed f.follows.printed
follows_up name count old new dialing dialed out printed _ (follow_unprinted place q followed f o k) = prints_up f.follows.lines f.follows.line out printed f.follows.printed
follows_up name count old new dialing dialed out printed _ (follow_ended place q followed f m k) = prints_up f.follows.lines f.follows.line out printed f.follows.printed
follows_up name count old new dialing dialed out printed _ (follow_unbegun k d p) = let e = ap (λ (o : Outflow). o.faults) p in omega (arith, e)
follows_up name count old new dialing dialed out printed _ (follow_unaided place q followed f k) = prints_up f.follows.lines f.follows.line out printed f.follows.printed

kept_out : (old new : Setting) → OnlyKeeps old new → old.outflow.faults ≤ new.outflow.faults
kept_out old new h = let e = ap (λ (s : Setting). s.outflow.faults) h in omega (arith, e)

carries_up : (name : List ℕ) (command : Command) (result : Result Report Fault) (old new : Setting) → CarriesOut name command result old new → old.outflow.faults ≤ new.outflow.faults
carries_up name (New agent place) result old new h = kept_out old new h.0
carries_up name (Edit start end text) result old new h = kept_out old new h.0
carries_up name (Set text) result old new h = kept_out old new h.0
carries_up name Show result old new h = kept_out old new h.0
carries_up name Sync result old new h = let e = ap (λ (o : Outflow). o.faults) h.0 in omega (arith, e)
carries_up name (Follow count) result old new h = follows_up name count old.keeping new.keeping old.dialing new.dialing old.outflow new.outflow result h

-- before the last text the output's count does not fall
pub words_up : (words : List (List ℕ)) (old new : Setting) (result : Result Report Fault) → CarriesOutWords words old new result → old.outflow.faults ≤ new.outflow.faults
words_up words old new result h = elim (carried_as words old new result h) [
  | inl k ↦ (let e = ap (λ (s : Setting). s.outflow.faults) k.2 in omega (arith, e))
  | inr (inl k) ↦ (let e = ap (λ (s : Setting). s.outflow.faults) k.1 in omega (arith, e))
  | inr (inr k) ↦ carries_up k.0 k.1 result old new k.3
]

reports_up : (text : List ℕ) (own status : Status) (old new : Outflow) → IsPrinted text own status old new → old.faults ≤ new.faults
reports_up text own status old new (inl h) = let e = h.1.faults in omega (arith, e)
reports_up text own status old new (inr h) = h.1.never_falls

gives_up_up : (status : Status) (old new : Outflow) → GivesUp status old new → old.faults ≤ new.faults
gives_up_up status old new h = let e = ap (λ (o : Outflow). o.faults) h.1 in omega (arith, e)

told_up : (fault : Fault) (status : Status) (old new : Outflow) → Faults fault status old new ⊎ GivesUp status old new → old.faults ≤ new.faults
told_up fault status old new (inl h) = reports_up _ _ status old new h
told_up fault status old new (inr h) = gives_up_up status old new h

-- nor does it with that text
pub finishes_up : (result : Result Report Fault) (status : Status) (old new : Outflow) → Finishes result status old new → old.faults ≤ new.faults
finishes_up (Ok report) status old new h = reports_up report.text report.status status old new h
finishes_up (Err faults.Usage) status old new h = reports_up _ _ status old new h
finishes_up (Err faults.NoState) status old new h = reports_up _ _ status old new h
finishes_up (Err faults.Exists) status old new h = reports_up _ _ status old new h
finishes_up (Err (faults.BadState at)) status old new h = told_up (faults.BadState at) status old new h
finishes_up (Err (faults.BadEntry n)) status old new h = told_up (faults.BadEntry n) status old new h
finishes_up (Err (faults.Write fault)) status old new h = told_up (faults.Write fault) status old new h
finishes_up (Err faults.LoadFault) status old new h = reports_up _ _ status old new h
finishes_up (Err faults.SaveFault) status old new h = reports_up _ _ status old new h
finishes_up (Err faults.Memory) status old new h = gives_up_up status old new h

-- the parts of a run, none of whose counts rose
module _ (old new : Setting) (calm : SomeRose old new → ⊥) where
  pub no_load : Rose old.keeping.load_faults new.keeping.load_faults → ⊥
  no_load h = calm (inl h)

  pub no_save : Rose old.keeping.save_faults new.keeping.save_faults → ⊥
  no_save h = calm (inr (inl h))

  pub no_dial : Rose old.dialing.faults new.dialing.faults → ⊥
  no_dial h = calm (inr (inr (inl h)))

  pub no_read : Rose old.dialing.link_read_faults new.dialing.link_read_faults → ⊥
  no_read h = calm (inr (inr (inr (inl h))))

  pub no_write : Rose old.dialing.link_write_faults new.dialing.link_write_faults → ⊥
  no_write h = calm (inr (inr (inr (inr (inl h)))))

  pub no_print : Rose old.outflow.faults new.outflow.faults → ⊥
  no_print h = calm (inr (inr (inr (inr (inr h)))))
