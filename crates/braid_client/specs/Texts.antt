-- What the client's commands print: the line of each fault and of each end, the text of each success, and the statuses.
use Rattle.std.specs.Prelude.{ℕ, List, [], ◌++◌, length, codes, decimal, flat_map}
use Rattle.braid_ids.specs.Identifiers.{spelled_id}
use Rattle.braid_io.specs.declared.status.Status.{Status}
use Rattle.braid_io.specs.declared.status.Status.TheVariants as statuses
use Rattle.braid_change.specs.Updates.{UpdateView}
use Rattle.braid_change.specs.declared.update.BuildFault.{BuildFault}
use Rattle.braid_change.specs.declared.update.BuildFault.TheVariants.{TooManyParents, TooManyPatches, Backwards, Overlap, TooLong}
use Rattle.braid_http.specs.Replies.{refusal_name}
use Rattle.braid_text.specs.Histories.{text_of}
use Rattle.braid_text.specs.Digested.{digest_at}
use Rattle.braid_lines.specs.Lines.{line_with, fault_line, stream_name, range_name, full_name, frontier_said, content_lines}
use Rattle.braid_outbox.specs.declared.faults.WriteFault.{WriteFault}
use Rattle.braid_outbox.specs.declared.faults.WriteFault.TheVariants as writes
use Rattle.braid_outbox.specs.Replicas.{ReplicaView, all_of, frontier}
use Rattle.braid_sync.specs.declared.end.SyncEnd.{SyncEnd}
use Rattle.braid_sync.specs.declared.end.SyncEnd.TheVariants as ends
use Rattle.braid_client.specs.declared.fault.Fault.{Fault}
use Rattle.braid_client.specs.declared.fault.Fault.TheVariants as faults

-- the name of a fault of a change's shape
abbrev pub build_name : BuildFault → List ℕ
build_name (TooManyParents n) = codes "TooManyParents"
build_name (TooManyPatches n) = codes "TooManyPatches"
build_name (Backwards patch) = codes "Backwards"
build_name (Overlap patch) = codes "Overlap"
build_name (TooLong bytes) = codes "TooLong"

-- why a change is not written
abbrev pub write_name : WriteFault → List ℕ
write_name (writes.Shape fault) = build_name fault
write_name (writes.OutOfRange patch len) = range_name patch len
write_name writes.NumbersSpent = codes "NumbersSpent"
write_name (writes.Full which limit) = full_name which limit
write_name writes.Memory = []

-- why a command is not carried out
abbrev pub fault_name : Fault → List ℕ
fault_name faults.Usage = codes "Usage"
fault_name faults.NoState = codes "NoState"
fault_name faults.Exists = codes "Exists"
fault_name (faults.BadState at) = codes "BadState at " ++ decimal at
fault_name (faults.BadEntry n) = codes "BadEntry " ++ decimal n
fault_name (faults.Write fault) = write_name fault
fault_name faults.LoadFault = codes "LoadFault"
fault_name faults.SaveFault = codes "SaveFault"
fault_name faults.Memory = []

-- the status of a run that ends with a fault, where its line was written
abbrev pub fault_status : Fault → Status
fault_status faults.Usage = statuses.Usage
fault_status faults.NoState = statuses.Bad
fault_status faults.Exists = statuses.Bad
fault_status (faults.BadState at) = statuses.Bad
fault_status (faults.BadEntry n) = statuses.Bad
fault_status (faults.Write fault) = statuses.Bad
fault_status faults.LoadFault = statuses.Outside
fault_status faults.SaveFault = statuses.Outside
fault_status faults.Memory = statuses.Memory

-- the name of an end of a sync or a follow; Done, OutFault and Memory have no fault's line
abbrev pub end_name : SyncEnd → List ℕ
end_name ends.Done = []
end_name ends.Cut = codes "Cut"
end_name (ends.Peer status) = codes "Peer " ++ decimal status
end_name (ends.BadHead refusal) = refusal_name refusal
end_name ends.NoCurrent = codes "NoCurrent"
end_name ends.BadCurrent = codes "BadCurrent"
end_name ends.OtherMergeType = codes "OtherMergeType"
end_name (ends.BadStream f) = stream_name f
end_name (ends.Clash v) = codes "Clash " ++ spelled_id v
end_name (ends.UnknownParent v) = codes "UnknownParent " ++ spelled_id v
end_name (ends.OutOfRange patch len) = range_name patch len
end_name (ends.Full which limit) = full_name which limit
end_name ends.DialFault = codes "DialFault"
end_name ends.ReadFault = codes "ReadFault"
end_name ends.WriteFault = codes "WriteFault"
end_name ends.OutFault = []
end_name ends.Spent = codes "Spent"
end_name ends.Memory = []

-- what is printed at an end, where this is printed at Done: nothing more behind a line that could not be written, and
-- nothing for want of memory
abbrev pub end_text : List ℕ → SyncEnd → List ℕ
end_text done ends.Done = done
end_text done ends.OutFault = []
end_text done ends.Memory = []
end_text done end = fault_line (end_name end)

-- the status of a run whose sync or follow ends so, where its text was written
abbrev pub end_status : SyncEnd → Status
end_status ends.Done = statuses.Done
end_status ends.Cut = statuses.Cut
end_status (ends.Peer status) = statuses.Cut
end_status ends.Spent = statuses.Cut
end_status ends.DialFault = statuses.Outside
end_status ends.ReadFault = statuses.Outside
end_status ends.WriteFault = statuses.Outside
end_status ends.OutFault = statuses.Outside
end_status ends.Memory = statuses.Memory
end_status end = statuses.Bad

-- what `new` prints
abbrev pub new_text : List ℕ → List ℕ
new_text agent = line_with (codes "agent: ") agent

-- what `edit` and `set` print: a line for each update that was added
abbrev pub wrote_text : List UpdateView → List ℕ
wrote_text us = flat_map (λ (u : UpdateView). line_with (codes "wrote: ") (spelled_id u.id)) us

-- the last lines of `show`: what is read of all updates of a replica
abbrev pub content_text : ReplicaView → List ℕ
content_text r = content_lines (text_of (all_of r)) (digest_at (all_of r))

-- what `show` prints of a replica of a text at this path, its unsent updates among the others
abbrev pub show_text : List ℕ → ReplicaView → List ℕ
show_text path r =
    line_with (codes "agent: ") r.agent
    ++ (line_with (codes "path: ") path
    ++ (line_with (codes "frontier:") (frontier_said (frontier (all_of r)))
    ++ (line_with (codes "confirmed: ") (decimal (length r.confirmed))
    ++ (line_with (codes "unsent: ") (decimal (length r.unsent))
    ++ content_text r))))

-- what `sync` prints at Done of the replica that it leaves
abbrev pub synced_text : ReplicaView → List ℕ
synced_text r =
    codes "synced: confirmed "
    ++ (decimal (length r.confirmed) ++ (codes " unsent " ++ (decimal (length r.unsent) ++ codes "\n")))

-- what `follow` prints at Done behind its lines, of which there are so many
abbrev pub followed_text : ℕ → List ℕ
followed_text n = line_with (codes "followed: ") (decimal n)
