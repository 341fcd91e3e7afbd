use Rattle.std.proofs.Common.{◌∙◌, ◌||◌, ap, sym}
use Rattle.std.specs.List.{list_any}
use Rattle.braid_http.specs.Framings.{is_close, parts_of}
use Rattle.braid_http.proofs.Parts.{found_part, last_part}
use Rattle.braid_http.proofs.framing.has_close.Goals as goal

pub returns-then-is_close : goal.returns-then-is_close
returns-then-is_close c =
    let f = c.in-Some.ensures.found in
    let any = list_any is_close (parts_of c.in-Some.behind.now) in
    sym (found_part c.args.value.now c.parts.rest.now _ _ c.parts.invariant f.0 f.1 ∙ ap (λ z. z || any) (sym c.if-is_close.ensures))

pub parts-preserved : goal.parts-preserved
parts-preserved c =
    let f = c.in-Some.ensures.found in
    let any = list_any is_close (parts_of c.in-Some.behind.now) in
    found_part c.args.value.now c.parts.rest.now _ _ c.parts.invariant f.0 f.1 ∙ ap (λ z. z || any) (sym c.if-is_close.ensures)

pub returns : goal.returns
returns c = c.is_close-2.ensures ∙ last_part c.args.value.now c.parts.rest.now c.parts.invariant c.in_default.ensures.found
