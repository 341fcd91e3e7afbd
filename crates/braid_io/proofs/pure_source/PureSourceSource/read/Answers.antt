use Rattle.std.proofs.Common.{◌≡◌, ◌∙◌, ◌<◌, ◌-◌, length, take, drop, ap, sym, refl, rules}
use Rattle.std.proofs.lemmas.List.{take_rest}
use Rattle.braid_io.specs.InMemory.{PureIntake}
use Rattle.braid_io.proofs.Pieces.{front_given, front_reads}
use Rattle.braid_io.proofs.pure_source.PureSourceSource.read.Goals as goal

pub returns-clause-exact : goal.returns-clause-exact
returns-clause-exact c =
    let got = c.get.result.now in
    let at = c.self.inside.at in
    let rest_is : take (length got - at) (drop at got) ≡ drop at c.self.inside.bytes = take_rest got at ∙ ap (drop at) c.get.ensures.value in
    let some : 0 < length (take (length got - at) (drop at got)) = search rules in
    front_given c.self.inside.bytes _ _ at c.copy_front-n.result _ _ rest_is some
    (rw c.copy_front-n.auto.buf c.copy_front-n.ensures.count) c.copy_front-n.ensures.bytes
    (sym (ap (λ (s : PureIntake). s.taken) c.self.view_is)) (sym (ap (λ (s : PureIntake). s.left) c.self.view_is))
    refl

pub returns-clause-read : goal.returns-clause-read
returns-clause-read c =
    let room : 0 < length c.copy_front-n.new.buf = rw c.copy_front-n.auto.buf c.requires.some in
    front_reads _ _ _ _ room (returns-clause-exact c)
