use Rattle.std.proofs.Common.{◌≡◌, ◌-◌, ◌^◌, min, take, length, sum_by, encode_utf8_all}
use Rattle.braid_change.specs.Changes.{AreNumbered, HaveScalars}
use Rattle.braid_change.proofs.change.patches_len.Given as goal

-- the count so far, and that the ends of the patches counted are below 2^32 and their texts scalar values
abbrev pub invariant-loop-patch : goal.invariant-loop-patch
invariant-loop-patch l =
    record {
      len : l.len ≡ min (sum_by (λ p. length (encode_utf8_all p.text)) (take l.patch-index l.patches)) (2 ^ 64 - 1);
      numbered : AreNumbered (take l.patch-index l.patches);
      scalar : HaveScalars (take l.patch-index l.patches);
    }
