use Rattle.std.proofs.Common.{map, ap, ◌∙◌}
use Rattle.braid_shelf.specs.Lists.{param_of, put}
use Rattle.braid_shelf.proofs.Keyed.{inserted}
use Rattle.braid_shelf.proofs.param_map.ParamMap.put.Goals as goal

pub returns : goal.returns
returns c = record {
  ok = ap (map param_of) c.in_ok-insert.ensures.entries ∙ inserted c.self.inside.params.entries c.args.param.key c.args.param.value ∙ ap (λ params. put params c.args.param) c.self.view_is;
}
