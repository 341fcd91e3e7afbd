use Rattle.httparse.specs.declared.spans.HeaderSpan.{HeaderSpan}
use Rattle.std.proofs.Common.{rules}
use Rattle.braid_http.proofs.FieldLemmas.{one_more}
use Rattle.braid_http.proofs.head.fields_at.Goals as goal

pub loop-span-preserved : goal.loop-span-preserved
loop-span-preserved c =
    let none : HeaderSpan = record { name = record { start = 0; end = 0 }; value = record { start = 0; end = 0 } } in (
      one_more c.args.bytes.now c.args.spans.now c.loop-span.span-index none c.loop-span.fields _ c.loop-span-test.true
          c.loop-span.invariant.0 c.in_ok-add_field.ensures.ok c.in_ok-add_field.ensures.good,
      search rules,
      search rules,
    )
