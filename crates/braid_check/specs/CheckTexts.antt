-- What `check` prints, by the bytes read and by how reading ended.
use Rattle.std.specs.Prelude.{◌≡◌, ℕ, List, [], ◌++◌, length, codes, decimal}
use Rattle.braid_ids.specs.Identifiers.{spelled_id}
use Rattle.braid_io.specs.declared.status.Status.{Status}
use Rattle.braid_io.specs.declared.status.Status.TheVariants.{Done, Bad, Outside, Cut}
use Rattle.braid_change.specs.Updates.{UpdateView}
use Rattle.braid_grammar.specs.Streams.{IsStream, IsTorn, HaveUpdates, BeginsWith}
use Rattle.braid_frame.specs.declared.fed.FrameFault.{FrameFault}
use Rattle.braid_frame.specs.Phases.{HasFault}
use Rattle.braid_graph.specs.Frontiers.{frontier_of}
use Rattle.braid_text.specs.Histories.{graph_of, text_of}
use Rattle.braid_text.specs.Digested.{digest_at}
use Rattle.braid_text.specs.declared.accept.Accept.{Accept}
use Rattle.braid_text.specs.declared.accept.Accept.TheVariants.{New, Known, Clash, UnknownParent, OutOfRange, Full, Memory}
use Rattle.braid_text.specs.Rooms.{limit_of, replica_limits}
use Rattle.braid_lines.specs.Lines.{line_with, fault_line, stream_name, range_name, full_name, frontier_said, content_lines}
use Rattle.braid_check.specs.declared.stop.Stop.{Stop}
use Rattle.braid_check.specs.declared.stop.Stop.TheVariants as stops
use Rattle.braid_check.specs.Accepted.{AreAccepted, IsRefused, history_of, replica_answer}

-- the line for a fault of the stream
abbrev pub fault_text : FrameFault → List ℕ
fault_text f = fault_line (stream_name f)

-- the line for so many bytes that are all there are, and are neither a stream nor at fault
abbrev pub torn_text : ℕ → List ℕ
torn_text at = fault_line (codes "Torn at " ++ decimal at)

-- the line for an answer that refuses an update; the other answers have none
abbrev pub refusal_text : Accept → List ℕ
refusal_text New = []
refusal_text Known = []
refusal_text (Clash id) = fault_line (codes "Clash " ++ spelled_id id)
refusal_text (UnknownParent id) = fault_line (codes "UnknownParent " ++ spelled_id id)
refusal_text (OutOfRange patch len) = fault_line (range_name patch len)
refusal_text (Full which need room) = fault_line (full_name which (limit_of replica_limits which))
refusal_text Memory = []

-- the line for a read that failed
abbrev pub read_fault_text : List ℕ
read_fault_text = codes "fault: ReadFault\n"

-- the line for a stream that did not end within the limit
abbrev pub spent_text : List ℕ
spent_text = codes "fault: Spent\n"

-- the lines for a history: the number of its versions, its frontier, the number of characters of its text, its digest in
-- hexadecimal digits, and the text
abbrev pub history_text : List UpdateView → List ℕ
history_text H =
    line_with (codes "versions: ") (decimal (length H))
    ++ (line_with (codes "frontier:") (frontier_said (frontier_of (graph_of H)))
    ++ content_lines (text_of H) (digest_at H))

-- how reading ended: with what the bytes show, at the source's end, at a read that failed, or at the limit
pub data Ending : Type 0 where
  found : Ending
  ended : Ending
  failed : Ending
  spent : Ending

-- the bytes show a fault of the stream, or an update that is refused; the updates before it are accepted
pub data IsFound (bytes text : List ℕ) : Type 0 where
  fault : (us : List UpdateView) (f : FrameFault) → AreAccepted us → HasFault us bytes f → text ≡ fault_text f
      → IsFound bytes text
  refusal : (us : List UpdateView) (u : UpdateView) → IsRefused us u → BeginsWith us u bytes
      → text ≡ refusal_text (replica_answer (history_of us) u) → IsFound bytes text

-- the bytes show neither a fault of the stream nor a refused update: the updates that they complete are accepted, and they
-- have no fault
pub record ShowNothing (bytes : List ℕ) : Type 0 where
  pub updates : List UpdateView
  pub accepted : AreAccepted updates
  pub have : HaveUpdates updates bytes

-- the bytes are a stream of accepted updates; or they are torn behind such: neither a stream nor at fault
pub data IsEndText (bytes : List ℕ) (status : Status) (text : List ℕ) : Type 0 where
  stream : (us : List UpdateView) → AreAccepted us → IsStream us bytes → status ≡ Done
      → text ≡ history_text (history_of us) → IsEndText bytes status text
  torn : ShowNothing bytes → IsTorn bytes → status ≡ Bad → text ≡ torn_text (length bytes) → IsEndText bytes status text

-- the status and the text that follow from the bytes and from how reading ended
abbrev pub IsCheckText : Ending → List ℕ → Status → List ℕ → Type 0
IsCheckText found bytes status text = (status ≡ Bad) × IsFound bytes text
IsCheckText ended bytes status text = IsEndText bytes status text
IsCheckText failed bytes status text = ShowNothing bytes × (status ≡ Outside) × (text ≡ read_fault_text)
IsCheckText spent bytes status text = ShowNothing bytes × (status ≡ Cut) × (text ≡ spent_text)

-- the text of a run that took this history and stopped so
abbrev pub text_at_stop : List UpdateView → Stop → List ℕ
text_at_stop H stops.End = history_text H
text_at_stop H (stops.Torn at) = torn_text at
text_at_stop H (stops.Fault f) = fault_text f
text_at_stop H (stops.Refused answer) = refusal_text answer
text_at_stop H stops.ReadFault = read_fault_text
text_at_stop H stops.Spent = spent_text

-- the status of a run that stopped so, where its text was written
abbrev pub status_of : Stop → Status
status_of stops.End = Done
status_of (stops.Torn at) = Bad
status_of (stops.Fault f) = Bad
status_of (stops.Refused answer) = Bad
status_of stops.ReadFault = Outside
status_of stops.Spent = Cut
