use Rattle.std.proofs.Common.{◌≡◌, ℕ, List, Result, subst, ◌∙◌}
use Rattle.std.specs.Result.{IfOk}
use Rattle.braid_change.specs.Updates.{UpdateView}
use Rattle.braid_http.specs.declared.call.Call.TheVariants.{Put}
use Rattle.braid_http.specs.Calls.{request_text}
use Rattle.braid_sync.specs.declared.place.Place.{Place}
use Rattle.braid_sync.specs.Posting.{put_text}
use Rattle.braid_sync.proofs.post.put_bytes.Goals as goal

-- the text of a request that sends copies
put_as : {E : Type 0} (place : Place) (u copy : UpdateView) (server path : List ℕ) (made : Result (List ℕ) E) → server ≡ place.server → path ≡ place.path → copy ≡ u
    → IfOk made (λ bytes. bytes ≡ request_text (Put server path copy)) → IfOk made (λ bytes. bytes ≡ put_text place u)
put_as place u copy server path made s p c h =
    subst (λ (text : List ℕ). IfOk made (λ bytes. bytes ≡ text)) (λ i. request_text (Put (s i) (p i) (c i))) h

pub returns : goal.returns
returns c = record {
  ok = put_as c.args.place.now c.args.update.now c.in_ok-copy.field-0 c.in_ok-of.field-0 c.in_ok-of-2.field-0 c.request_bytes.result
      (c.in_ok-of.ensures.ok ∙ c.get.ensures.value) (c.in_ok-of-2.ensures.ok ∙ c.get-2.ensures.value) c.in_ok-copy.ensures.ok c.request_bytes.ensures.ok;
}
