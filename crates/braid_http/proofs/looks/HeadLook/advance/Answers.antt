use Rattle.std.proofs.Common.{◌∙◌, sym, refl}
use Rattle.std.proofs.lemmas.List.{take_rest}
use Rattle.braid_http.proofs.Looking.{head_passed, begins_passed, start_within}
use Rattle.braid_http.proofs.looks.HeadLook.advance.Goals as goal

pub returns-then-rest-begun-clause-looked : goal.returns-then-rest-begun-clause-looked
returns-then-rest-begun-clause-looked c =
    let p = c.pass_blank-rest.ensures.passed in
    rw c.new-self.ensures.value (head_passed _ _ _ _ _ c.requires.looked p.1 (sym (take_rest c.args.bytes.now c.args.self.now.start) ∙ p.2) refl)

pub returns-then-rest-begun-clause-full : goal.returns-then-rest-begun-clause-full
returns-then-rest-begun-clause-full c =
    let p = c.pass_blank-rest.ensures.passed in
    begins_passed _ _ _ _ _ (sym (take_rest c.args.bytes.now c.args.self.now.start) ∙ p.2) (start_within _ _ c.requires.looked) refl c.pass_blank-rest.ensures.full
