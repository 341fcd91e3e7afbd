use Rattle.std.proofs.Common.{rules, ap₂, ◌≡◌, ◌∙◌}
use Rattle.std.specs.Prelude.{pos}
use Rattle.clap.specs.Words.{app_of, rule_of, with_rule}
use Rattle.clap.specs.declared.builder.value_parser.ValueParser.TheVariants as vp
use Rattle.braid_server.specs.Commands.{serve_app, bare, server_rule, workers_rule, take_rule}
use Rattle.braid_server.proofs.command.serve_command.Goals as goal

pub returns : goal.returns
unfolding serve_app
returns c = record {
  ok =
      let workers_parser : c.range.result ≡ vp.Signed (pos 1) (pos 32) = rw (c.value_parser.ensures, c.new-3.ensures.start, c.new-3.ensures.end) at c.range.ensures in
      let take_parser : c.range-2.result ≡ vp.Signed (pos 1) (pos 1000000) = rw (c.value_parser-2.ensures, c.new-5.ensures.start, c.new-5.ensures.end) at c.range-2.ensures in
      let server_is : rule_of c.required-server.result ≡ server_rule = search rules in
      let workers_is : rule_of c.value_parser-workers.result ≡ workers_rule = search rules in
      let take_is : rule_of c.value_parser-take.result ≡ take_rule = search rules in
      let bare_is : app_of c.disable_version_flag.result ≡ bare = search rules in
      c.in_ok-command.ensures.shape (search rules)
      ∙ ap₂ with_rule (c.in_ok-arg-2.ensures.shape (search rules)
      ∙ ap₂ with_rule (c.in_ok-arg.ensures.shape (search rules) ∙ ap₂ with_rule bare_is server_is) workers_is) take_is;
}
