use Rattle.std.proofs.Common.{refl, ◌∙◌, []}
use Rattle.braid_http.specs.declared.response.Replied.TheVariants as replies
use Rattle.braid_world.specs.declared.reading_back.Last.TheVariants.{Head}
use Rattle.braid_world.proofs.BodySteps.{heard_as}
use Rattle.braid_world.proofs.LinkRead.{body_front, no_front, replies_first, body_behind}
use Rattle.braid_world.proofs.reading_back.bytes_are_events.Goals as goal

pub returns-in-Head-clause-reads : goal.returns-in-Head-clause-reads
returns-in-Head-clause-reads g c book path from n marks stopped watch x =
    body_front book path from n marks stopped watch x.bytes (g.K.Source.intake c.args.link.now) x.told x.front c.in-Head.head c.reply.new.self.held (g.K.Source.intake c.reply.new.link) (g.K.Source.intake c.read_body.new.link) c.read_body.result
    (replies_first c.new-wire.result (replies.Head c.in-Head.head) c.reply.new.self.held (g.K.Source.intake c.args.link.now) (g.K.Source.intake c.reply.new.link) c.new-wire.ensures.value c.in-Head.ensures.replies)
    (body_behind c.new.result.body.kind c.in-Head.head.body c.new.result.wire c.reply.new.self c.read_body.result (g.K.Source.intake c.reply.new.link) (g.K.Source.intake c.read_body.new.link) c.new.ensures.kind c.new.ensures.wire c.read_body.ensures.reads)

pub returns-in_default-clause-reads : goal.returns-in_default-clause-reads
returns-in_default-clause-reads g c book path from n marks stopped watch x =
    no_front book path from n marks stopped watch x.bytes (g.K.Source.intake c.args.link.now) x.told x.front c.reply.result c.reply.new.self.held (g.K.Source.intake c.reply.new.link) _ c.in_default.not-Head
    (replies_first c.new-wire.result c.reply.result c.reply.new.self.held (g.K.Source.intake c.args.link.now) (g.K.Source.intake c.reply.new.link) c.new-wire.ensures.value c.reply.ensures.replies)
    (heard_as c.of.result [] (Head c.reply.result) (Head c.reply.result) (c.of.ensures.value ∙ c.new-in_default.ensures.items) refl)
