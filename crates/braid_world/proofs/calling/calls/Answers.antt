use Rattle.std.proofs.Common.{refl, sym, ap, subst, ◌∙◌, List, None}
use Rattle.std.specs.List.{AllByRecursion, slice_get}
use Rattle.braid_store.specs.Books.{of_path}
use Rattle.braid_outbox.specs.declared.world.Side.{Side}
use Rattle.braid_outbox.specs.declared.world.Posted.{Posted}
use Rattle.braid_outbox.specs.declared.world.Answered.{Answered}
use Rattle.braid_change.specs.Updates.{UpdateView}
use Rattle.std.proofs.Common.{Option}
use Rattle.braid_world.specs.Events.{KeepsReplica, HoldsReading, Lands}
use Rattle.braid_world.specs.ReplicaCalls.{carried, returned, acknowledged}
use Rattle.braid_world.specs.BookCalls.{Joins}
use Rattle.braid_world.proofs.Eventful.{nothing, write_left, open_left, carry_left, cut_left, keep_left, back_left, post_left, land_left, ack_left, join_left, done, merges_left, any_err}
use Rattle.braid_world.proofs.calling.calls.Goals as goal

pub carry_at-requires : goal.carry_at-requires
carry_at-requires c = record { readings = subst (λ (ss : List Side). AllByRecursion (HoldsReading (of_path c.args.book.now c.args.path.now)) ss) (sym c.get.ensures.value) (subst (λ (H : List UpdateView). AllByRecursion (HoldsReading H) c.args.world.now.sides) (sym c.requires.history) c.requires.readings) }

pub go_back-requires : goal.go_back-requires
go_back-requires c = record { kept = subst (λ (ss : List Side). AllByRecursion KeepsReplica ss) (sym c.get-in-Back.ensures.value) c.requires.kept }

pub land-requires : goal.land-requires
land-requires c = record { short = c.requires.short }

pub join-requires : goal.join-requires
join-requires c = record { short = c.requires.short }

pub returns-in_ok-write_at-in-Write : goal.returns-in_ok-write_at-in-Write
returns-in_ok-write_at-in-Write c =
    let d = done c.args.path.now c.args.by c.args.book.now c.args.book.now c.args.world.now c.args.event _ c.write_at.new.replicas c.nothing.result nothing c.requires.history c.in-Write.is c.nothing.ensures.nothing (write_left c.args.path.now c.args.by c.args.book.now c.args.world.now _ _ c.args.replicas.now c.write_at.new.replicas c.requires.replicas c.in_ok-write_at-in-Write.ensures.ok) in
    record { ok = d.0; goes_on = d.1; err = tt }

pub returns-in_ok-from-in-Open : goal.returns-in_ok-from-in-Open
returns-in_ok-from-in-Open c =
    let d = done c.args.path.now c.args.by c.args.book.now c.args.book.now c.args.world.now c.args.event _ c.args.replicas.now (record { from = c.in_ok-from-in-Open.from; head = None; status = None }) _ c.requires.history c.in-Open.is refl (open_left c.args.path.now c.args.by c.args.book.now c.args.world.now _ c.args.replicas.now c.in_ok-from-in-Open.from c.requires.replicas c.in_ok-from-in-Open.ensures.ok) in
    record { ok = d.0; goes_on = d.1; err = tt }

pub returns-in_ok-carry_at-in-Carry : goal.returns-in_ok-carry_at-in-Carry
returns-in_ok-carry_at-in-Carry c =
    let d = done c.args.path.now c.args.by c.args.book.now c.args.book.now c.args.world.now c.args.event _ c.carry_at.new.replicas c.nothing-in-Carry.result nothing c.requires.history c.in-Carry.is c.nothing-in-Carry.ensures.nothing (carry_left c.args.path.now c.args.by c.args.book.now c.args.world.now _ c.args.replicas.now c.carry_at.new.replicas c.requires.history c.requires.replicas (c.in_ok-carry_at-in-Carry.ensures.ok ∙ ap (λ (ss : List Side). carried c.in-Carry.a (of_path c.args.book.now c.args.path.now) (slice_get ss c.in-Carry.a) c.args.replicas.now) c.get.ensures.value)) in
    record { ok = d.0; goes_on = d.1; err = tt }

pub returns-in-Cut : goal.returns-in-Cut
returns-in-Cut c =
    let d = done c.args.path.now c.args.by c.args.book.now c.args.book.now c.args.world.now c.args.event _ c.args.replicas.now c.nothing-in-Cut.result nothing c.requires.history c.in-Cut.is c.nothing-in-Cut.ensures.nothing (cut_left c.args.path.now c.args.by c.args.book.now c.args.world.now _ c.args.replicas.now c.requires.replicas) in
    record { ok = d.0; goes_on = d.1; err = tt }

pub returns-in-Keep : goal.returns-in-Keep
returns-in-Keep c =
    let d = done c.args.path.now c.args.by c.args.book.now c.args.book.now c.args.world.now c.args.event _ c.args.replicas.now c.nothing-in-Keep.result nothing c.requires.history c.in-Keep.is c.nothing-in-Keep.ensures.nothing (keep_left c.args.path.now c.args.by c.args.book.now c.args.world.now _ c.args.replicas.now c.requires.replicas) in
    record { ok = d.0; goes_on = d.1; err = tt }

pub returns-in_ok-go_back-in-Back : goal.returns-in_ok-go_back-in-Back
returns-in_ok-go_back-in-Back c =
    let d = done c.args.path.now c.args.by c.args.book.now c.args.book.now c.args.world.now c.args.event _ c.go_back.new.replicas c.nothing-in-Back.result nothing c.requires.history c.in-Back.is c.nothing-in-Back.ensures.nothing (back_left c.args.path.now c.args.by c.args.book.now c.args.world.now _ c.args.replicas.now c.go_back.new.replicas c.requires.replicas (c.in_ok-go_back-in-Back.ensures.ok ∙ ap (λ (ss : List Side). returned c.in-Back.a (slice_get ss c.in-Back.a) c.args.replicas.now) c.get-in-Back.ensures.value)) in
    record { ok = d.0; goes_on = d.1; err = tt }

pub returns-in_ok-head-in-Post : goal.returns-in_ok-head-in-Post
returns-in_ok-head-in-Post c =
    let d = done c.args.path.now c.args.by c.args.book.now c.args.book.now c.args.world.now c.args.event _ c.args.replicas.now (record { from = None; head = c.in_ok-head-in-Post.head; status = None }) _ c.requires.history c.in-Post.is refl (post_left c.args.path.now c.args.by c.args.book.now c.args.world.now _ c.args.replicas.now c.in_ok-head-in-Post.head c.requires.replicas c.in_ok-head-in-Post.ensures.ok) in
    record { ok = d.0; goes_on = d.1; err = tt }

pub returns-in_ok-status-in-Land : goal.returns-in_ok-status-in-Land
returns-in_ok-status-in-Land c =
    let d = done c.args.path.now c.args.by c.args.book.now c.land.new.book c.args.world.now c.args.event _ c.args.replicas.now (record { from = None; head = None; status = c.in_ok-status-in-Land.status }) _ c.requires.history c.in-Land.is refl (land_left c.args.path.now c.args.by c.args.book.now c.args.world.now c.requires.history _ _ c.land.new.book c.args.replicas.now c.in_ok-status-in-Land.status c.requires.replicas (subst (λ (o : Option Posted). Lands c.args.path.now c.args.by c.args.book.now c.land.new.book o c.in_ok-status-in-Land.status) (c.put_at.ensures.found ∙ ap (λ (ps : List Posted). slice_get ps c.in-Land.k) c.get-in-Land.ensures.value) c.in_ok-status-in-Land.ensures.ok)) in
    record { ok = d.0; goes_on = d.1; err = tt }

pub returns-in-Ack : goal.returns-in-Ack
returns-in-Ack c =
    let d = done c.args.path.now c.args.by c.args.book.now c.args.book.now c.args.world.now c.args.event _ c.acknowledge.new.replicas c.nothing-in-Ack.result nothing c.requires.history c.in-Ack.is c.nothing-in-Ack.ensures.nothing (ack_left c.args.path.now c.args.by c.args.book.now c.args.world.now _ c.args.replicas.now c.acknowledge.new.replicas c.requires.replicas (c.acknowledge.ensures.told ∙ ap (λ (o : Option Answered). acknowledged o c.args.replicas.now) (c.reply_at.ensures.found ∙ ap (λ (ps : List Answered). slice_get ps c.in-Ack.k) c.get-in-Ack.ensures.value))) in
    record { ok = d.0; goes_on = d.1; err = tt }

pub returns-in_ok-join-in-Foreign : goal.returns-in_ok-join-in-Foreign
returns-in_ok-join-in-Foreign c =
    let d = done c.args.path.now c.args.by c.args.book.now c.join.new.book c.args.world.now c.args.event _ c.args.replicas.now c.nothing-in-Foreign.result nothing c.requires.history c.in-Foreign.is c.nothing-in-Foreign.ensures.nothing (join_left c.args.path.now c.args.by c.args.book.now c.args.world.now c.requires.history c.in-Foreign.update c.join.new.book c.args.replicas.now c.requires.replicas c.join.ensures.valid (subst (λ (ss : List Side). Joins c.args.path.now c.args.by c.args.book.now c.join.new.book ss c.in-Foreign.update) c.get-in-Foreign.ensures.value c.in_ok-join-in-Foreign.ensures.ok)) in
    record { ok = d.0; goes_on = d.1; err = tt }

pub returns-in_err-write_at-in-Write-clause-err : goal.returns-in_err-write_at-in-Write-clause-err
returns-in_err-write_at-in-Write-clause-err c = any_err _ c.from_residual.result (refl, merges_left c.args.event _ c.args.replicas.now c.write_at.new.replicas c.in-Write.is c.in_err-write_at-in-Write.ensures.err)

pub returns-in_err-from-in-Open-clause-err : goal.returns-in_err-from-in-Open-clause-err
returns-in_err-from-in-Open-clause-err c = any_err _ c.from_residual-in_err-from-in-Open.result (refl, merges_left c.args.event _ c.args.replicas.now c.args.replicas.now c.in-Open.is refl)

pub returns-in_err-carry_at-in-Carry-clause-err : goal.returns-in_err-carry_at-in-Carry-clause-err
returns-in_err-carry_at-in-Carry-clause-err c = any_err _ c.from_residual-in_err-carry_at-in-Carry.result (refl, merges_left c.args.event _ c.args.replicas.now c.carry_at.new.replicas c.in-Carry.is c.in_err-carry_at-in-Carry.ensures.err)

pub returns-in_err-go_back-in-Back-clause-err : goal.returns-in_err-go_back-in-Back-clause-err
returns-in_err-go_back-in-Back-clause-err c = any_err _ c.from_residual-in_err-go_back-in-Back.result (refl, merges_left c.args.event _ c.args.replicas.now c.go_back.new.replicas c.in-Back.is c.in_err-go_back-in-Back.ensures.err)

pub returns-in_err-head-in-Post-clause-err : goal.returns-in_err-head-in-Post-clause-err
returns-in_err-head-in-Post-clause-err c = any_err _ c.from_residual-in_err-head-in-Post.result (refl, merges_left c.args.event _ c.args.replicas.now c.args.replicas.now c.in-Post.is refl)

pub returns-in_err-status-in-Land-clause-err : goal.returns-in_err-status-in-Land-clause-err
returns-in_err-status-in-Land-clause-err c = any_err _ c.from_residual-in_err-status-in-Land.result (c.in_err-status-in-Land.ensures.err, merges_left c.args.event _ c.args.replicas.now c.args.replicas.now c.in-Land.is refl)

pub returns-in_err-join-in-Foreign-clause-err : goal.returns-in_err-join-in-Foreign-clause-err
returns-in_err-join-in-Foreign-clause-err c = any_err _ c.from_residual-in_err-join-in-Foreign.result (c.in_err-join-in-Foreign.ensures.err, merges_left c.args.event _ c.args.replicas.now c.args.replicas.now c.in-Foreign.is refl)
