use Rattle.std.proofs.Common.{refl}
use Rattle.braid_sync.proofs.AtHands.{hands_no_end, hands_no_torn}
use Rattle.braid_world.proofs.BodySteps.{went_update, used_up, went_piece, ended_here, ended_fault, ended_spent}
use Rattle.braid_stream.specs.declared.next.Next.TheVariants as nexts
use Rattle.braid_world.proofs.body_reading.BodyReading.step.Goals as goal

pub returns-in-Update-clause-steps : goal.returns-in-Update-clause-steps
returns-in-Update-clause-steps g c us content passed s = went_update c.args.self.now _ us c.in-Update.update content passed _ s (c.in-Update.ensures.answers us s.taken s.going s.has) refl refl

pub returns-in-None-clause-steps : goal.returns-in-None-clause-steps
returns-in-None-clause-steps g c us content passed s =
    let d = used_up c.args.self.now (record c.args.self.now { reader = c.next.new.self; piece = c.next.new.source }) us content passed s (c.in-ReadFault.ensures.answers us s.taken s.going s.has) c.left-none.ensures.used refl refl in
    went_piece c.args.self.now (record c.args.self.now { reader = c.next.new.self; piece = c.next.new.source }) c.refill.new.self us content passed _ _ d (c.in-None.ensures.refilled us content passed d.on d.none d.all) refl

pub returns-in-Some-clause-steps : goal.returns-in-Some-clause-steps
returns-in-Some-clause-steps g c us content passed s =
    let d = used_up c.args.self.now (record c.args.self.now { reader = c.next.new.self; piece = c.next.new.source }) us content passed s (c.in-ReadFault.ensures.answers us s.taken s.going s.has) c.left-none.ensures.used refl refl in
    let e = c.in-Some.ensures.refilled us content passed d.on d.none d.all in
    record { given = e.given; used = e.used; more = e.more; left = e.left; whole = e.whole; comes = e.comes; ends = e.ends }

pub returns-in-Fault-clause-steps : goal.returns-in-Fault-clause-steps
returns-in-Fault-clause-steps g c us content passed s = ended_fault c.args.self.now _ us content passed _ c.in-Fault.fault s (c.in-Fault.ensures.answers us s.taken s.going s.has) refl refl

pub returns-in-Spent-clause-steps : goal.returns-in-Spent-clause-steps
returns-in-Spent-clause-steps g c us content passed s = ended_spent c.args.self.now _ us content passed _ s (c.in-Spent.ensures.answers us s.taken s.going s.has) refl refl

pub returns-in-Memory-clause-steps : goal.returns-in-Memory-clause-steps
returns-in-Memory-clause-steps g c us content passed s = ended_here nexts.Memory c.args.self.now _ us content passed _ s refl refl tt

pub returns-in-End-clause-steps : goal.returns-in-End-clause-steps
returns-in-End-clause-steps g c us content passed s = absurd (hands_no_end us s.taken c.next.new.self c.args.self.now.piece c.next.new.source (c.in-End.ensures.answers us s.taken s.going s.has))

pub returns-in-Torn-clause-steps : goal.returns-in-Torn-clause-steps
returns-in-Torn-clause-steps g c us content passed s = absurd (hands_no_torn us s.taken _ c.next.new.self c.args.self.now.piece c.next.new.source (c.in-Torn.ensures.answers us s.taken s.going s.has))
