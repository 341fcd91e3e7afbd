use Rattle.std.proofs.Common.{◌∙◌, ◌++◌, ap}
use Rattle.braid_http.proofs.Pushes.{four}
use Rattle.braid_http.proofs.call.push_start.Goals as goal

pub returns : goal.returns
returns c =
    record {
      ok = four _ _ _ _ _ _ _ _ _ (c.in_ok-push.ensures.ok ∙ ap (λ z. c.args.out.now ++ z) c.get.ensures.value) c.in_ok-push-2.ensures.ok
          (c.in_ok-push-3.ensures.ok ∙ ap (λ z. c.push-2.new.self ++ z) c.get-2.ensures.value) c.in_ok-push-4.ensures.ok;
    }
