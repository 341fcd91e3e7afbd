use Rattle.std.proofs.Common.{◌≡◌, List, ◌++◌, length}
use Rattle.braid_fields.specs.Fields.{Field}
use Rattle.braid_fields.specs.Known.{known}
use Rattle.braid_grammar.specs.Lines.{lines_of}
use Rattle.braid_frame.specs.HeadLines.{fields_in}
use Rattle.braid_frame.proofs.heads.head_fields.Given as goal

abbrev pub invariant-loop-len : goal.invariant-loop-len
invariant-loop-len l = (fs : List Field) × (l.fields ≡ known fs) × (fields_in (lines_of l.head) ≡ fs ++ fields_in (lines_of l.rest))

abbrev pub decreases-loop-len : goal.decreases-loop-len
decreases-loop-len l = length l.rest
