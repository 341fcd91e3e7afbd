use Rattle.std.proofs.Common.{refl}
use Rattle.std.proofs.lemmas.Result.{err_from_is_err_and}
use Rattle.braid_client.proofs.Carried.{new_placed, range_counted, body_counted, made, edited, unedited, replaced, displayed, synced, followed}
use Rattle.braid_client.proofs.carrying.carry_out.Goals as goal

pub make-requires : goal.make-requires
make-requires g c = record { place = new_placed c.in-New.agent c.in-New.place c.args.command c.in-New.is c.requires.placed }

pub returns-in-New-clause-carries : goal.returns-in-New-clause-carries
returns-in-New-clause-carries g c =
    made c.args.name.now c.args.command c.make.result (g.K.Keeper.keeping c.args.keeper.now) (g.K.Keeper.keeping c.make.new.keeper) (g.D.Dialer.dialing c.args.dialer.now)
    c.in-New.agent c.in-New.place (g.O.Sink.outflow c.args.out.now) c.in-New.is c.make.ensures.makes

pub returns-in-New-clause-kept : goal.returns-in-New-clause-kept
returns-in-New-clause-kept g c = refl

pub returns-in_err-change-in-Edit-clause-carries : goal.returns-in_err-change-in-Edit-clause-carries
returns-in_err-change-in-Edit-clause-carries g c =
    let p = err_from_is_err_and c.from_residual.result c.from_residual.ensures.1 in
    unedited c.args.name.now c.in-Edit.start c.in-Edit.end c.in-Edit.text c.args.command p.0 c.from_residual.result _ c.in-Edit.is p.1 p.2

pub returns-in_err-change-in-Edit-clause-kept : goal.returns-in_err-change-in-Edit-clause-kept
returns-in_err-change-in-Edit-clause-kept g c = refl

pub write-requires : goal.write-requires
write-requires g c = record { counted = range_counted c.in-Edit.start c.in-Edit.end c.in-Edit.text c.in_ok-change-in-Edit.change c.in_ok-change-in-Edit.ensures.ok }

pub returns-in_ok-change-in-Edit-clause-carries : goal.returns-in_ok-change-in-Edit-clause-carries
returns-in_ok-change-in-Edit-clause-carries g c =
    edited c.args.name.now c.args.command c.write.result (g.K.Keeper.keeping c.args.keeper.now) (g.K.Keeper.keeping c.write.new.keeper) (g.D.Dialer.dialing c.args.dialer.now)
    c.in-Edit.start c.in-Edit.end c.in-Edit.text c.in_ok-change-in-Edit.change (g.O.Sink.outflow c.args.out.now) c.in-Edit.is c.in_ok-change-in-Edit.ensures.ok c.write.ensures.writes

pub returns-in_ok-change-in-Edit-clause-kept : goal.returns-in_ok-change-in-Edit-clause-kept
returns-in_ok-change-in-Edit-clause-kept g c = refl

pub write-requires-in-Set : goal.write-requires-in-Set
write-requires-in-Set g c = record { counted = body_counted c.in-Set.text }

pub returns-in-Set-clause-carries : goal.returns-in-Set-clause-carries
returns-in-Set-clause-carries g c =
    replaced c.args.name.now c.args.command c.write-in-Set.result (g.K.Keeper.keeping c.args.keeper.now) (g.K.Keeper.keeping c.write-in-Set.new.keeper) (g.D.Dialer.dialing c.args.dialer.now)
    c.in-Set.text (g.O.Sink.outflow c.args.out.now) c.in-Set.is c.write-in-Set.ensures.writes

pub returns-in-Set-clause-kept : goal.returns-in-Set-clause-kept
returns-in-Set-clause-kept g c = refl

pub returns-in-Show-clause-carries : goal.returns-in-Show-clause-carries
returns-in-Show-clause-carries g c =
    displayed c.args.name.now c.args.command c.show.result (g.K.Keeper.keeping c.args.keeper.now) (g.K.Keeper.keeping c.show.new.keeper) (g.D.Dialer.dialing c.args.dialer.now)
    (g.O.Sink.outflow c.args.out.now) c.in-Show.is c.show.ensures.shows

pub returns-in-Show-clause-kept : goal.returns-in-Show-clause-kept
returns-in-Show-clause-kept g c = refl

pub returns-in-Sync-clause-carries : goal.returns-in-Sync-clause-carries
returns-in-Sync-clause-carries g c =
    synced c.args.name.now c.args.command c.sync_kept.result (g.K.Keeper.keeping c.args.keeper.now) (g.K.Keeper.keeping c.sync_kept.new.keeper) (g.D.Dialer.dialing c.args.dialer.now)
    (g.D.Dialer.dialing c.sync_kept.new.dialer) (g.O.Sink.outflow c.args.out.now) c.in-Sync.is c.sync_kept.ensures.runs

pub returns-in-Sync-clause-kept : goal.returns-in-Sync-clause-kept
returns-in-Sync-clause-kept g c = refl

pub returns-in-Follow-clause-carries : goal.returns-in-Follow-clause-carries
returns-in-Follow-clause-carries g c =
    followed c.args.name.now c.args.command c.follow_kept.result (g.K.Keeper.keeping c.args.keeper.now) (g.K.Keeper.keeping c.follow_kept.new.keeper) (g.D.Dialer.dialing c.args.dialer.now)
    c.in-Follow.count (g.D.Dialer.dialing c.follow_kept.new.dialer) (g.O.Sink.outflow c.args.out.now) (g.O.Sink.outflow c.follow_kept.new.out) c.in-Follow.is c.follow_kept.ensures.runs

pub returns-in-Follow-clause-kept : goal.returns-in-Follow-clause-kept
returns-in-Follow-clause-kept g c = c.follow_kept.ensures.kept
