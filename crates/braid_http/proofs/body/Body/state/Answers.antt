use Rattle.braid_http.proofs.BodyReading.{tells}
use Rattle.braid_http.proofs.body.Body.state.Goals as goal

pub returns-clause-tells : goal.returns-clause-tells
returns-clause-tells c content b h = tells c.args.self.now.state c.args.self.now.kind c.args.self.now.place c.args.self.now.line content b h
