use Rattle.std.proofs.Common.{rules, ◌≡◌, [], ◌∷◌, ◌++◌}
use Rattle.braid_session.specs.Orders.{serving_now}
use Rattle.braid_session.proofs.AtDoors.{accepted_last, accepted_one}
use Rattle.braid_session.proofs.door.serve_next.Goals as goal

pub returns-in-Worn : goal.returns-in-Worn
returns-in-Worn g c =
    let noted : c.push-kept.new.self.items ≡ c.args.notes.now.items ++ c.serve_session-note.result ∷ [] = search rules in
    record {
      accepted = accepted_last serving_now _ _ _ _ _ _ _ _ _ _ _ _ _ _ c.in-Up.ensures.accept c.serve_session-note.ensures.serves (search rules) noted c.in-Worn.is;
    }

pub returns : goal.returns
returns g c =
    let noted : c.push-kept.new.self.items ≡ c.args.notes.now.items ++ c.serve_session-note.result ∷ [] = search rules in
    record {
      accepted = accepted_one serving_now _ _ _ _ _ _ _ _ _ _ _ _ _ _ c.in-Up.ensures.accept c.serve_session-note.ensures.serves (search rules) noted c.in_default-end.not-Worn;
    }
