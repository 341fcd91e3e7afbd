-- What words and their command leave of a setting, by what the functions of the commands leave of their own part.
use Rattle.std.proofs.Common.{◌≡◌, ◌<◌, ◌^◌, ℕ, List, length, Result, Err, refl, sym, ap, subst, ◌∙◌, arith}
use Rattle.braid_io.specs.Outside.{Outflow}
use Rattle.braid_io.specs.Dialers.{Dialing}
use Rattle.braid_io.specs.Keepers.{Keeping}
use Rattle.braid_change.specs.Changes.{patches_of}
use Rattle.braid_change.specs.declared.change.Change.{Change}
use Rattle.braid_change.specs.declared.change.Change.TheVariants.{Body}
use Rattle.braid_sync.specs.declared.place.Place.{Place}
use Rattle.braid_sync.specs.Opening.{IsPlace}
use Rattle.braid_client.specs.declared.command.Command.{Command}
use Rattle.braid_client.specs.declared.command.Command.TheVariants.{New, Edit, Set, Show, Sync, Follow}
use Rattle.braid_client.specs.declared.fault.Fault.{Fault}
use Rattle.braid_client.specs.declared.fault.Fault.TheVariants as faults
use Rattle.braid_client.specs.declared.report.Report.{Report}
use Rattle.braid_client.specs.Forms.{Asks, IsForm}
use Rattle.braid_client.specs.Runs.{Setting, setting, MakesState, WritesChange, write_unaided, ShowsState, RunsSync, RunsFollow, CarriesOut, CarriesOutWords, words_no_form, words_unaided, range_change}
use Rattle.braid_client.specs.Steps.{IsWordsFault, IsPlaced}

-- words that were not read
unread : (words : List (List ℕ)) (fault : Fault) (old : Setting) → IsWordsFault words fault → CarriesOutWords words old old (Err fault)
unread words faults.Usage old h = words_no_form h refl
unread words faults.NoState old h = absurd h
unread words faults.Exists old h = absurd h
unread words (faults.BadState at) old h = absurd h
unread words (faults.BadEntry n) old h = absurd h
unread words (faults.Write f) old h = absurd h
unread words faults.LoadFault old h = absurd h
unread words faults.SaveFault old h = absurd h
unread words faults.Memory old h = words_unaided refl

pub words_lost : (words : List (List ℕ)) (fault given : Fault) (result : Result Report Fault) (old : Setting) → result ≡ Err given → given ≡ fault → IsWordsFault words fault → CarriesOutWords words old old result
words_lost words fault given result old r e h = subst (CarriesOutWords words old old) (sym (r ∙ ap (λ (f : Fault). Err f) e)) (unread words fault old h)

-- a place that is asked for is one
placed : (own : List ℕ) (rest : List (List ℕ)) (command : Command) → Asks own rest command → IsPlaced command
placed own rest (New agent place) h = h.3
placed own rest (Edit start end text) h = tt
placed own rest (Set text) h = tt
placed own rest Show h = tt
placed own rest Sync h = tt
placed own rest (Follow count) h = tt

-- what words ask for that have a form
pub is_placed : (words : List (List ℕ)) (name : List ℕ) (command : Command) → IsForm words name command → IsPlaced command
is_placed words name command f = placed f.own f.rest command f.asks

pub new_placed : (agent : List ℕ) (place : Place) (command : Command) → command ≡ New agent place → IsPlaced command → IsPlace place
new_placed agent place command is h = subst IsPlaced is h

-- the one patch of a change to a range, and none of a whole text
pub range_counted : (start end : ℕ) (text : List ℕ) (change : Change) → change ≡ range_change start end text → length (patches_of change) < 2 ^ 32
range_counted start end text change is = subst (λ (c : Change). length (patches_of c) < 2 ^ 32) (sym is) (omega arith)

pub body_counted : (text : List ℕ) → length (patches_of (Body text)) < 2 ^ 32
body_counted text = omega arith

-- each command, of a setting whose other parts stay as they are
module _ (name : List ℕ) (command : Command) (result : Result Report Fault) (old new : Keeping) (dialing : Dialing) where
  pub made : (agent : List ℕ) (place : Place) (outflow : Outflow) → command ≡ New agent place → MakesState name place agent old new result → CarriesOut name command result (setting old dialing outflow) (setting new dialing outflow)
  made agent place outflow is h = subst (λ (c : Command). CarriesOut name c result (setting old dialing outflow) (setting new dialing outflow)) (sym is) (refl, h)

  pub edited : (start end : ℕ) (text : List ℕ) (change : Change) (outflow : Outflow) → command ≡ Edit start end text → change ≡ range_change start end text → WritesChange name change old new result → CarriesOut name command result (setting old dialing outflow) (setting new dialing outflow)
  edited start end text change outflow is e h = subst (λ (c : Command). CarriesOut name c result (setting old dialing outflow) (setting new dialing outflow)) (sym is) (refl, subst (λ (c : Change). WritesChange name c old new result) e h)

  pub replaced : (text : List ℕ) (outflow : Outflow) → command ≡ Set text → WritesChange name (Body text) old new result → CarriesOut name command result (setting old dialing outflow) (setting new dialing outflow)
  replaced text outflow is h = subst (λ (c : Command). CarriesOut name c result (setting old dialing outflow) (setting new dialing outflow)) (sym is) (refl, h)

  pub displayed : (outflow : Outflow) → command ≡ Show → ShowsState name old new result → CarriesOut name command result (setting old dialing outflow) (setting new dialing outflow)
  displayed outflow is h = subst (λ (c : Command). CarriesOut name c result (setting old dialing outflow) (setting new dialing outflow)) (sym is) (refl, h)

  pub synced : (dialed : Dialing) (outflow : Outflow) → command ≡ Sync → RunsSync name old new dialing dialed result → CarriesOut name command result (setting old dialing outflow) (setting new dialed outflow)
  synced dialed outflow is h = subst (λ (c : Command). CarriesOut name c result (setting old dialing outflow) (setting new dialed outflow)) (sym is) (refl, h)

  pub followed : (count : ℕ) (dialed : Dialing) (out printed : Outflow) → command ≡ Follow count → RunsFollow name count old new dialing dialed out printed result → CarriesOut name command result (setting old dialing out) (setting new dialed printed)
  followed count dialed out printed is h = subst (λ (c : Command). CarriesOut name c result (setting old dialing out) (setting new dialed printed)) (sym is) h

-- a change for which there was no memory
pub unedited : (name : List ℕ) (start end : ℕ) (text : List ℕ) (command : Command) (fault : Fault) (result : Result Report Fault) (old : Setting) → command ≡ Edit start end text → result ≡ Err fault → fault ≡ faults.Memory → CarriesOut name command result old old
unedited name start end text command fault result old is r e = subst (λ (c : Command). CarriesOut name c result old old) (sym is) (refl, subst (WritesChange name (range_change start end text) old.keeping old.keeping) (sym (r ∙ ap (λ (f : Fault). Err f) e)) (write_unaided refl))
