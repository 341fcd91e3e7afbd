-- The status and the name of each denial.
use Rattle.std.specs.Prelude.{ℕ, List, codes}
use Rattle.braid_fields.specs.declared.reason.Reason.{Reason}
use Rattle.braid_fields.specs.declared.reason.Reason.TheVariants as reasons
use Rattle.braid_fields.specs.Reasons.{reason_name}
use Rattle.braid_session.specs.declared.denial.Denial.{Denial}
use Rattle.braid_session.specs.declared.denial.Denial.TheVariants.{Method, Encoded, Path, OtherMergeType, NotServed, BadList, BadId, NoUpdate, Short, Extra}

-- the status of a reason: 413 where something is too much
abbrev pub reason_status : Reason → ℕ
reason_status reasons.BadLine = 400
reason_status reasons.BadStatus = 400
reason_status reasons.HeadTooLong = 400
reason_status reasons.Encoded = 400
reason_status reasons.RepeatedField = 400
reason_status reasons.OtherMergeType = 400
reason_status reasons.BadList = 400
reason_status reasons.NoVersion = 400
reason_status reasons.ManyVersions = 400
reason_status reasons.BadId = 400
reason_status reasons.TooManyParents = 400
reason_status reasons.BadCount = 400
reason_status reasons.TooManyPatches = 413
reason_status reasons.NoLength = 400
reason_status reasons.BadLength = 400
reason_status reasons.TooLong = 413
reason_status reasons.NoRange = 400
reason_status reasons.OtherUnit = 400
reason_status reasons.BadRange = 400
reason_status reasons.Backwards = 400
reason_status reasons.Overlap = 400
reason_status reasons.NotText = 400

-- the status of a denial
abbrev pub denial_status : Denial → ℕ
denial_status Method = 405
denial_status Encoded = 400
denial_status Path = 400
denial_status OtherMergeType = 400
denial_status NotServed = 400
denial_status BadList = 400
denial_status BadId = 400
denial_status (NoUpdate reason) = reason_status reason
denial_status Short = 400
denial_status Extra = 400

-- the name of a denial
abbrev pub denial_name : Denial → List ℕ
denial_name Method = codes "Method"
denial_name Encoded = codes "Encoded"
denial_name Path = codes "Path"
denial_name OtherMergeType = codes "OtherMergeType"
denial_name NotServed = codes "NotServed"
denial_name BadList = codes "BadList"
denial_name BadId = codes "BadId"
denial_name (NoUpdate reason) = reason_name reason
denial_name Short = codes "Short"
denial_name Extra = codes "Extra"
