use Rattle.std.proofs.Common.{◌≡◌, ◌-◌, ◌+◌, length, ap, ◌∙◌}
use Rattle.braid_rebase.specs.Resolved.{place_before}
use Rattle.braid_rebase.proofs.RunLists.{run_pushed, inserted_pushed}
use Rattle.braid_rebase.proofs.run.runs_in.Goals as goal

pub loop-range-preserved : goal.loop-range-preserved
loop-range-preserved c =
    let places = c.args.places.now in
    let r = c.in-Some.range in
    let at : c.place_behind-after.result ≡ place_before places (r.start - c.args.first) = c.place_behind-after.ensures.place ∙ ap (place_before places) c.saturating_sub.ensures in
    record {
      runs = run_pushed places c.args.first c.loop-range.ordinal c.loop-range.yielded r c.place_behind-after.result c.loop-range.runs.items c.push.new.self.items c.loop-range.invariant.runs c.loop-range.invariant.ordinal at c.in_ok-push.ensures.items;
      ordinal = ap (λ t. c.loop-range.ordinal + length t) c.chars.ensures.value ∙ inserted_pushed c.loop-range.ordinal c.loop-range.yielded r c.loop-range.invariant.ordinal;
    }
