-- What follows of a run: how many forms words have, and why it ends as it does.
use Rattle.std.proofs.Common.{◌≡◌, ◌≢◌, inl, inr, ℕ, List, [], ◌∷◌, codes, sym, ap, subst, ◌∙◌}
use Rattle.std.specs.Str.Parse.{digits_value}
use Rattle.braid_io.specs.Outside.{Outflow, Rose, WritesAll}
use Rattle.braid_io.specs.declared.status.Status.{Status}
use Rattle.braid_io.specs.declared.status.Status.TheVariants.{Done, Bad, Usage, Outside, Memory, Cut}
use Rattle.braid_drill.specs.declared.words.Asked.{Asked}
use Rattle.braid_lines.specs.Prints.{IsPrinted, usage_line}
use Rattle.braid_drill.specs.Runs.{IsReport, no_form, drilled, no_memory}
use Rattle.braid_drill.specs.Laws.{OneFormLaw, CompletesLaw, RefusesLaw, CausesLaw}

pub one_form : OneFormLaw
one_form words asked other h k =
    let e : codes "drill" ∷ h.seed ∷ h.rounds ∷ [] ≡ codes "drill" ∷ k.seed ∷ k.rounds ∷ [] = sym h.split ∙ k.split in
    let s : h.seed ≡ k.seed = cc in
    let r : h.rounds ≡ k.rounds = cc in
    let x : asked.seed ≡ other.seed = h.seed_is.value ∙ ap (digits_value 10) s ∙ sym k.seed_is.value in
    let y : asked.rounds ≡ other.rounds = h.rounds_are.value ∙ ap (digits_value 10) r ∙ sym k.rounds_are.value in
    λ i. record { seed = x i; rounds = y i }

-- where no write failed, the text was written under its own status
written : (text : List ℕ) (own status : Status) (old new : Outflow) → IsPrinted text own status old new → ¬ Rose old.faults new.faults → (status ≡ own) × WritesAll text old new
written text own status old new (inl h) quiet = h
written text own status old new (inr h) quiet = absurd (quiet h.1.rose)

pub completes : CompletesLaw
completes words asked status old new form (no_form none p) quiet = absurd (none asked form)
completes words asked status old new form (drilled other text is report p) quiet =
    let w = written text Done status old new p quiet in
    inr (w.0, (text, subst (λ (a : Asked). IsReport a.rounds text) (one_form words other asked is form) report, w.1))
completes words asked status old new form (no_memory other is lacks same) quiet = inl lacks

pub refuses : RefusesLaw
refuses words status old new none (no_form not p) quiet = written usage_line Usage status old new p quiet
refuses words status old new none (drilled asked text is report p) quiet = absurd (none asked is)
refuses words status old new none (no_memory asked is lacks same) quiet = absurd (none asked is)

-- a text was written under its own status, or under Outside, where a write failed
outside_rose : (text : List ℕ) (own status : Status) (old new : Outflow) → own ≢ Outside → IsPrinted text own status old new → status ≡ Outside → Rose old.faults new.faults
outside_rose text own status old new other (inl h) o = absurd (other (sym h.0 ∙ o))
outside_rose text own status old new other (inr h) o = h.1.rose

no_third : (text : List ℕ) (own status third : Status) (old new : Outflow) → own ≢ third → Outside ≢ third → IsPrinted text own status old new → status ≢ third
no_third text own status third old new a b (inl h) e = a (sym h.0 ∙ e)
no_third text own status third old new a b (inr h) e = b (sym h.0 ∙ e)

pub causes : CausesLaw
causes words status old new (no_form none p) = (
  (λ u. none),
  outside_rose usage_line Usage status old new (λ e. cc) p,
  no_third usage_line Usage status Bad old new (λ e. cc) (λ e. cc) p,
  no_third usage_line Usage status Cut old new (λ e. cc) (λ e. cc) p,
)
causes words status old new (drilled asked text is report p) = (
  (λ u. absurd (no_third text Done status Usage old new (λ e. cc) (λ e. cc) p u)),
  outside_rose text Done status old new (λ e. cc) p,
  no_third text Done status Bad old new (λ e. cc) (λ e. cc) p,
  no_third text Done status Cut old new (λ e. cc) (λ e. cc) p,
)
causes words status old new (no_memory asked is lacks same) = (
  (λ u. absurd (let e : Memory ≡ Usage = sym lacks ∙ u in cc)),
  (λ o. absurd (let e : Memory ≡ Outside = sym lacks ∙ o in cc)),
  (λ b. let e : Memory ≡ Bad = sym lacks ∙ b in cc),
  (λ x. let e : Memory ≡ Cut = sym lacks ∙ x in cc),
)
