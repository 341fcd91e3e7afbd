-- The name of each reason.
use Rattle.std.specs.Prelude.{ℕ, List, codes}
use Rattle.braid_fields.specs.declared.reason.Reason.{Reason}
use Rattle.braid_fields.specs.declared.reason.Reason.TheVariants as reasons

-- the name of a reason
abbrev pub reason_name : Reason → List ℕ
reason_name reasons.BadLine = codes "BadLine"
reason_name reasons.BadStatus = codes "BadStatus"
reason_name reasons.HeadTooLong = codes "HeadTooLong"
reason_name reasons.Encoded = codes "Encoded"
reason_name reasons.RepeatedField = codes "RepeatedField"
reason_name reasons.OtherMergeType = codes "OtherMergeType"
reason_name reasons.BadList = codes "BadList"
reason_name reasons.NoVersion = codes "NoVersion"
reason_name reasons.ManyVersions = codes "ManyVersions"
reason_name reasons.BadId = codes "BadId"
reason_name reasons.TooManyParents = codes "TooManyParents"
reason_name reasons.BadCount = codes "BadCount"
reason_name reasons.TooManyPatches = codes "TooManyPatches"
reason_name reasons.NoLength = codes "NoLength"
reason_name reasons.BadLength = codes "BadLength"
reason_name reasons.TooLong = codes "TooLong"
reason_name reasons.NoRange = codes "NoRange"
reason_name reasons.OtherUnit = codes "OtherUnit"
reason_name reasons.BadRange = codes "BadRange"
reason_name reasons.Backwards = codes "Backwards"
reason_name reasons.Overlap = codes "Overlap"
reason_name reasons.NotText = codes "NotText"
