use Rattle.std.proofs.Common.{ap}
use Rattle.braid_http.specs.Asks.{WireView}
use Rattle.braid_http.specs.declared.body.Content.TheVariants.{Chunk}
use Rattle.braid_http.specs.declared.body.Place.TheVariants.{In, Around}
use Rattle.braid_http.proofs.BodyReading.{passed_err, passed_ok, at_here, read_on, reads_after}
use Rattle.braid_http.proofs.body.Body.read.Goals as goal
use Rattle.braid_http.proofs.body.Body.read.Goals.{in-In, in-Around+in-Ok}

pub returns-in-Err-clause-reads : goal.returns-in-Err-clause-reads
returns-in-Err-clause-reads g c content b h n =
    passed_err c.pass_framing-passed.result c.in-Err.read c.in-Around.framing c.args.self.now c.pass.new.self c.pass_framing-passed.new.line _ content b _ _ _ _ c.pass_framing-passed.ensures.passes c.in-Err.ensures.pass
    (at_here c.args.self.now (Around c.in-Around.framing) content b c.in-Around.is n h)

pub returns-in-Err-clause-answer : goal.returns-in-Err-clause-answer
returns-in-Err-clause-answer g c = c.in-Err.ensures.answer _

pub returns-clause-reads : goal.returns-clause-reads
returns-clause-reads g c content b h n =
    elim c.match-self-2.branch [
      | in-In w ↦
          read_on c.read_data.result c.read_data.new.buf c.match-self-2.self c.read_data.new.self c.args.self.now c.match-self-2.next w.in-In.next content b _ _ _ _ _ _ w.self-is w.next-is (ap (λ (z : WireView). z.held) w.wire-is) (ap g.K.Source.intake w.link-is) c.read_data.ensures.reads
          (at_here c.args.self.now (In w.in-In.next) content b w.in-In.is n h)
      | in-Around+in-Ok w ↦
          let at = at_here c.args.self.now (Around w.in-Around.framing) content b w.in-Around.is n h in
          let p = passed_ok w.pass_framing-passed.result w.in-Ok.left w.in-Around.framing c.args.self.now w.pass.new.self w.pass_framing-passed.new.line content b _ _ _ _ w.pass_framing-passed.ensures.passes w.in-Ok.ensures.pass at in
          reads_after c.read_data.result c.read_data.new.buf c.read_data.new.self content b p.used _ _ _ _ _ _ p.draws
          (read_on c.read_data.result c.read_data.new.buf c.match-self-2.self c.read_data.new.self w.pass.new.self c.match-self-2.next (Chunk w.in-Ok.left) content _ _ _ _ _ _ _ w.self-is w.next-is (ap (λ (z : WireView). z.held) w.wire-is) (ap g.K.Source.intake w.link-is) c.read_data.ensures.reads p.is)
    ]
