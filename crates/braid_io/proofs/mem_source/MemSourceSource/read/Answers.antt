use Rattle.std.proofs.Common.{◌≡◌, ◌∙◌, ◌<◌, ◌-◌, length, take, drop, ap, sym, refl, rules}
use Rattle.std.proofs.lemmas.List.{take_rest}
use Rattle.braid_io.specs.InMemory.{MemIntake}
use Rattle.braid_io.proofs.Pieces.{gives_front, gives_reads}
use Rattle.braid_io.proofs.mem_source.MemSourceSource.read.Goals as goal

pub returns-clause-exact : goal.returns-clause-exact
returns-clause-exact c =
    let got = c.get.result.now in
    let at = c.self.inside.at in
    let rest_is : take (length got - at) (drop at got) ≡ drop at c.self.inside.bytes = take_rest got at ∙ ap (drop at) c.get.ensures.value in
    let some : 0 < length (take (length got - at) (drop at got)) = search rules in
    let piece_is : c.self.inside.piece ≡ c.args.self.now.piece = ap (λ (s : MemIntake). s.piece) c.self.view_is in (
      search rules,
      gives_front c.self.inside.bytes _ _ at c.copy_front-n.result _ _ rest_is some
          (rw (← piece_is, c.copy_front-n.auto.buf) c.copy_front-n.ensures.count) c.copy_front-n.ensures.bytes
          (sym (ap (λ (s : MemIntake). s.taken) c.self.view_is)) (sym (ap (λ (s : MemIntake). s.left) c.self.view_is))
          (rw (← c.self.view_is, c.begin.ensures.counted) refl),
    )

pub returns-clause-read : goal.returns-clause-read
returns-clause-read c =
    let piece : 0 < c.args.self.now.piece = rw (← c.self.view_is) c.self.invariant.1 in
    let room : 0 < length c.copy_front-n.new.buf = rw c.copy_front-n.auto.buf c.requires.some in
    gives_reads _ _ _ _ piece room (returns-clause-exact c).1
