use Rattle.std.proofs.Common.{get_or, arith, subst, below_more}
use Rattle.std.proofs.lemmas.List.{get_or_read}
use Rattle.std.proofs.lemmas.List.Elements.{recursion_from_All}
use Rattle.braid_ids.specs.Identifiers.{IsIdentifier}
use Rattle.braid_ids.proofs.frontier.are_identifiers.Goals as goal

pub loop-id-preserved : goal.loop-id-preserved
loop-id-preserved c = λ k d h.
    let ids = c.args.ids.now in
    below_more
    (λ j. IsIdentifier (get_or ids j d))
    c.loop-id.id-index
    (λ j l. c.loop-id.invariant j d l)
    (subst IsIdentifier (get_or_read ids c.loop-id.id-index c.id-item.result c.loop-id-test.true c.id-item.is d) c.bytes.ensures.valid)
    k
    h

pub returns : goal.returns
returns c =
    record {
      valid = recursion_from_All IsIdentifier c.args.ids.now (λ k d h. c.loop-id.invariant k d (omega arith));
    }
