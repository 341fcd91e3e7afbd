use Rattle.std.proofs.Common.{leb, arith, rules}
use Rattle.std.proofs.lemmas.Bool.{leb-true, leb-false}
use Rattle.std.proofs.lemmas.List.Sorted.{IsPartitionPoint-from_clause, IsPartitionedBy-leb}
use Rattle.braid_ids.specs.declared.piece.Piece.{Piece}
use Rattle.braid_ids.proofs.Ranges.{ends_rise}
use Rattle.braid_ids.proofs.piece.ended_by.Goals as goal

pub returns-clause-before : goal.returns-clause-before
returns-clause-before c = λ k d l w.
    (let ps = c.args.pieces.now in
    let parted = IsPartitionedBy-leb (λ (p : Piece). p.to) ps c.args.n (ends_rise 0 ps c.requires.rise) in
    let point = IsPartitionPoint-from_clause (λ (p : Piece). leb p.to c.args.n) _ _ c.partition_point-at.ensures.partitioned parted (λ a r q k. search rules) in
    leb-true _ _ (point.0 k d (omega arith) l))

pub returns-clause-behind : goal.returns-clause-behind
returns-clause-behind c = λ d l.
    (let ps = c.args.pieces.now in
    let at = c.partition_point-at.result in
    let parted = IsPartitionedBy-leb (λ (p : Piece). p.to) ps c.args.n (ends_rise 0 ps c.requires.rise) in
    let point = IsPartitionPoint-from_clause (λ (p : Piece). leb p.to c.args.n) _ _ c.partition_point-at.ensures.partitioned parted (λ a r q k. search rules) in
    leb-false _ _ (point.1 at d (omega arith) l))
