-- How the head of a subscription's reply is judged (Braid-HTTP, sections 2 and 4): each row a test and an end, and the
-- first row that passes counts.
use Rattle.std.specs.Prelude.{ℕ, ◌==◌, ◌||◌, not, Bool, if◌then◌else◌, List, [], ◌∷◌, map, codes, Result, Ok, Err}
use Rattle.http_header.specs.HeaderMap.{get_all}
use Rattle.http_header.specs.FieldValue.{FieldValue}
use Rattle.braid_ids.specs.Frontiers.{rising_ids}
use Rattle.braid_fields.specs.Known.{is_there}
use Rattle.braid_fields.specs.Table.{is_repeated, is_other_merge_type, is_no_list, has_bad_id, members_of}
use Rattle.braid_http.specs.declared.response.ReplyHead.{ReplyHead}
use Rattle.braid_sync.specs.declared.end.SyncEnd.{SyncEnd}
use Rattle.braid_sync.specs.declared.end.SyncEnd.TheVariants.{Peer, OtherMergeType, NoCurrent, BadCurrent}

-- a test that was made, and the end where it passed
abbrev pub Row : Type 0
Row = Bool × SyncEnd

-- the end of the first row whose test passed, or the answer where none did
abbrev pub first_end : {A : Type 0} → List Row → A → Result A SyncEnd
first_end [] x = Ok x
first_end (row ∷ rows) x = if row.0 then Err row.1 else first_end rows x

-- the values of the lines of a field, which is named in lower case, in the order of the lines
abbrev pub values_of : ReplyHead → List ℕ → List (List ℕ)
values_of head name = map (λ (v : FieldValue). v.bytes) (get_all head.fields name)

-- the lines of `Merge-Type`
abbrev pub merge_lines : ReplyHead → List (List ℕ)
merge_lines head = values_of head (codes "merge-type")

-- the lines of `Current-Version`
abbrev pub current_lines : ReplyHead → List (List ℕ)
current_lines head = values_of head (codes "current-version")

-- the rows, in their order: another status than 209; a merge type twice or in neither form; no `Current-Version`; one whose
-- lines, joined by commas, list no identifiers
abbrev pub head_rows : ReplyHead → List Row
head_rows head =
    (not (head.status == 209), Peer head.status)
    ∷ (is_repeated (merge_lines head) || is_other_merge_type (merge_lines head), OtherMergeType)
    ∷ (not (is_there (current_lines head)), NoCurrent)
    ∷ (is_no_list (current_lines head) || has_bad_id (members_of (current_lines head)), BadCurrent)
    ∷ []

-- the version that the head names as the current one: a set of identifiers; or the end that the head is
abbrev pub judge : ReplyHead → Result (List (List ℕ)) SyncEnd
judge head = first_end (head_rows head) (rising_ids (members_of (current_lines head)))
