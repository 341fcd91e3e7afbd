use Rattle.std.proofs.lemmas.List.{take_rest}
use Rattle.braid_http.proofs.Looking.{head_found, no_head_yet}
use Rattle.braid_http.proofs.looks.HeadLook.find.Goals as goal

pub returns-in-Some : goal.returns-in-Some
returns-in-Some c =
    record { found = head_found _ _ _ _ c.advance.ensures.looked c.advance.ensures.full (rw (take_rest c.args.bytes.now c.advance.new.self.start) at c.in-Some.ensures.found) }

pub returns-in-None : goal.returns-in-None
returns-in-None c =
    let f = c.in-None.ensures.found in
    let rest = take_rest c.args.bytes.now c.advance.new.self.start in
    record { found = no_head_yet _ _ _ c.advance.ensures.looked c.advance.ensures.full (rw rest at f.0) (rw rest at f.1) }
