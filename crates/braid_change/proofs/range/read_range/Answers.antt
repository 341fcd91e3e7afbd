use Rattle.std.proofs.lemmas.Result.{err_from_is_err_and}
use Rattle.braid_change.specs.RangeForms.{AfterStart, AfterColon, AfterEnd, AfterClose, more}
use Rattle.braid_change.proofs.Departures.{colon_fault, close_fault, end_fault, after_start, after_colon, after_end, after_close, stops_digits, departed, closed_within, some_left, some_items}
use Rattle.braid_change.proofs.range.read_range.Goals as goal

pub returns-in_err-rest-2-clause-fault : goal.returns-in_err-rest-2-clause-fault
returns-in_err-rest-2-clause-fault c =
    let p = err_from_is_err_and c.from_residual-in_err-rest-2.result c.from_residual-in_err-rest-2.ensures.1 in
    let started : AfterStart c.args.value.now c.in_ok-start.start c.in_ok-start.rest.now = after_start c.args.value.now c.in_ok-rest.rest.now c.in_ok-start.rest.now c.in_ok-start.start c.in_ok-rest.ensures.ok c.in_ok-start.ensures.ok in
    rw (p.1, p.2) (colon_fault c.args.value.now c.in_ok-start.rest.now c.in_ok-start.start c.in_err-rest-2.field-0.0 started (stops_digits c.in_ok-rest.rest.now c.in_ok-start.rest.now c.in_ok-start.start c.in_ok-start.ensures.ok) c.in_err-rest-2.ensures.fault)

pub returns-in_err-end-clause-fault : goal.returns-in_err-end-clause-fault
returns-in_err-end-clause-fault c =
    let p = err_from_is_err_and c.from_residual-in_err-end.result c.from_residual-in_err-end.ensures.1 in
    let started : AfterStart c.args.value.now c.in_ok-start.start c.in_ok-start.rest.now = after_start c.args.value.now c.in_ok-rest.rest.now c.in_ok-start.rest.now c.in_ok-start.start c.in_ok-rest.ensures.ok c.in_ok-start.ensures.ok in
    let coloned : AfterColon c.args.value.now c.in_ok-start.start c.in_ok-rest-2.rest.now = after_colon c.args.value.now c.in_ok-start.rest.now c.in_ok-rest-2.rest.now c.in_ok-start.start started c.in_ok-rest-2.ensures.ok in
    rw (p.1, p.2) (end_fault c.args.value.now c.in_ok-rest-2.rest.now c.in_ok-start.start c.in_err-end.field-0.0 coloned c.in_err-end.ensures.fault)

pub returns-in_err-rest-3-clause-fault : goal.returns-in_err-rest-3-clause-fault
returns-in_err-rest-3-clause-fault c =
    let p = err_from_is_err_and c.from_residual-in_err-rest-3.result c.from_residual-in_err-rest-3.ensures.1 in
    let started : AfterStart c.args.value.now c.in_ok-start.start c.in_ok-start.rest.now = after_start c.args.value.now c.in_ok-rest.rest.now c.in_ok-start.rest.now c.in_ok-start.start c.in_ok-rest.ensures.ok c.in_ok-start.ensures.ok in
    let coloned : AfterColon c.args.value.now c.in_ok-start.start c.in_ok-rest-2.rest.now = after_colon c.args.value.now c.in_ok-start.rest.now c.in_ok-rest-2.rest.now c.in_ok-start.start started c.in_ok-rest-2.ensures.ok in
    let ended : AfterEnd c.args.value.now c.in_ok-start.start c.in_ok-end.end c.in_ok-end.rest.now = after_end c.args.value.now c.in_ok-rest-2.rest.now c.in_ok-end.rest.now c.in_ok-start.start c.in_ok-end.end coloned c.in_ok-end.ensures.ok in
    rw (p.1, p.2) (close_fault c.args.value.now c.in_ok-end.rest.now c.in_ok-start.start c.in_ok-end.end c.in_err-rest-3.field-0.0 ended (stops_digits c.in_ok-rest-2.rest.now c.in_ok-end.rest.now c.in_ok-end.end c.in_ok-end.ensures.ok) c.in_err-rest-3.ensures.fault)

pub returns-then-not-is_empty-clause-fault : goal.returns-then-not-is_empty-clause-fault
returns-then-not-is_empty-clause-fault c =
    let started : AfterStart c.args.value.now c.in_ok-start.start c.in_ok-start.rest.now = after_start c.args.value.now c.in_ok-rest.rest.now c.in_ok-start.rest.now c.in_ok-start.start c.in_ok-rest.ensures.ok c.in_ok-start.ensures.ok in
    let coloned : AfterColon c.args.value.now c.in_ok-start.start c.in_ok-rest-2.rest.now = after_colon c.args.value.now c.in_ok-start.rest.now c.in_ok-rest-2.rest.now c.in_ok-start.start started c.in_ok-rest-2.ensures.ok in
    let ended : AfterEnd c.args.value.now c.in_ok-start.start c.in_ok-end.end c.in_ok-end.rest.now = after_end c.args.value.now c.in_ok-rest-2.rest.now c.in_ok-end.rest.now c.in_ok-start.start c.in_ok-end.end coloned c.in_ok-end.ensures.ok in
    let closed : AfterClose c.args.value.now c.in_ok-start.start c.in_ok-end.end c.in_ok-rest-3.rest.now = after_close c.args.value.now c.in_ok-end.rest.now c.in_ok-rest-3.rest.now c.in_ok-start.start c.in_ok-end.end ended c.in_ok-rest-3.ensures.ok in
    departed c.args.value.now c.in_ok-rest-3.rest.now c.departs.result c.departs.ensures.at (closed_within c.args.value.now c.in_ok-rest-3.rest.now c.in_ok-start.start c.in_ok-end.end closed) (more c.in_ok-start.start c.in_ok-end.end closed (some_items c.in_ok-rest-3.rest.now (some_left c.in_ok-rest-3.rest.now c.if-not-is_empty.ensures)))
