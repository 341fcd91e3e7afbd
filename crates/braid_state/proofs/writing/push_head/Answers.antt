use Rattle.std.proofs.Common.{[], ◌∷◌, take, length, decimal, refl, sym, ap}
use Rattle.std.proofs.lemmas.List.{append-nil}
use Rattle.std.proofs.lemmas.Result.{on_ok_weaker}
use Rattle.braid_state.specs.declared.line.Line.TheVariants as lines
use Rattle.braid_state.specs.Heads.{head_lines}
use Rattle.braid_state.specs.States.{head_of}
use Rattle.braid_state.proofs.Written.{line_put}
use Rattle.braid_state.proofs.writing.push_head.Goals as goal

pub returns-clause-ok : goal.returns-clause-ok
returns-clause-ok c =
    let head = head_of c.args.state.now in
    let out = c.args.out.now in
    let one = line_put [] lines.Title head out out c.push_line.new.out [] (sym (append-nil out)) refl c.in_ok-push_line.ensures.ok in
    let two = line_put (lines.Title ∷ []) lines.Agent head out c.push_line.new.out c.push_line-2.new.out c.bytes.result.now one c.bytes.ensures.value c.in_ok-push_line-2.ensures.ok in
    let three = line_put (take 2 head_lines) lines.Server head out c.push_line-2.new.out c.push_line-3.new.out c.get.result.now two c.get.ensures.value c.in_ok-push_line-3.ensures.ok in
    let four = line_put (take 3 head_lines) lines.Path head out c.push_line-3.new.out c.push_line-4.new.out c.get-2.result.now three c.get-2.ensures.value c.in_ok-push_line-4.ensures.ok in
    let five = line_put (take 4 head_lines) lines.Confirmed head out c.push_line-4.new.out c.push_count.new.out (decimal (length c.get-3.result.now)) four (ap (λ us. decimal (length us)) c.get-3.ensures.value) c.in_ok-push_count.ensures.ok in
    let six = line_put (take 5 head_lines) lines.Unsent head out c.push_count.new.out c.push_count-2.new.out (decimal (length c.get-4.result.now)) five (ap (λ us. decimal (length us)) c.get-4.ensures.value) c.in_ok-push_count-2.ensures.ok in
    on_ok_weaker c.push_line-5.result (line_put (take 6 head_lines) lines.Empty head out c.push_count-2.new.out c.push_line-5.new.out [] six refl) c.push_line-5.ensures.ok
