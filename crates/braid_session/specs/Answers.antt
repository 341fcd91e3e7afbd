-- What the book answers to a wish: the reply, and the entries that it gains.
use Rattle.std.specs.Prelude.{◌≡◌, ◌⊎◌, ℕ, false, List, [], ◌∷◌, ◌++◌, codes, decimal, Option, Some, None}
use Rattle.braid_ids.specs.Identifiers.{spelled_id}
use Rattle.braid_change.specs.Updates.{UpdateView}
use Rattle.braid_graph.specs.Ancestries.{IsLeastUnheld}
use Rattle.braid_text.specs.Histories.{graph_of}
use Rattle.braid_text.specs.Rooms.{which_name}
use Rattle.braid_store.specs.declared.entry.Entry.{Entry}
use Rattle.braid_store.specs.declared.put.Put.{Put}
use Rattle.braid_store.specs.declared.put.Put.TheVariants as puts
use Rattle.braid_store.specs.declared.got.Got.{Got}
use Rattle.braid_store.specs.declared.got.GetFault.{GetFault}
use Rattle.braid_store.specs.declared.got.GetFault.TheVariants as faults
use Rattle.braid_store.specs.Books.{of_path}
use Rattle.braid_store.specs.Answers.{IsPut}
use Rattle.braid_store.specs.Reads.{IsRead, IsGetFault}
use Rattle.braid_http.specs.declared.reply.Reply.{Reply}
use Rattle.braid_http.specs.declared.reply.Reply.TheVariants.{Text, Stored, Error}
use Rattle.braid_session.specs.declared.denial.Denial.{Denial}
use Rattle.braid_session.specs.declared.wish.Wish.{Wish}
use Rattle.braid_session.specs.declared.wish.Wish.TheVariants.{Read, Watch, Store}
use Rattle.braid_session.specs.Denials.{denial_status, denial_name}

-- the reply that denies a request
abbrev pub denial_reply : Denial → Reply
denial_reply d = Error (denial_status d) (denial_name d) false

-- the reply to a subscription that begins at an identifier which the path does not hold
abbrev pub unheld_reply : List ℕ → Reply
unheld_reply id = Error 409 (codes "UnknownParent " ++ spelled_id id) false

-- the reply to a GET of which nothing is read; want of memory has none
abbrev pub fault_reply : GetFault → Option Reply
fault_reply faults.Absent = Some (Error 404 (codes "Absent") false)
fault_reply (faults.Unknown id) = Some (Error 404 (codes "UnknownVersion " ++ spelled_id id) false)
fault_reply faults.Memory = None

-- the reply to a PUT of the update with this identifier; want of memory has none
abbrev pub put_reply : List ℕ → Put → Option Reply
put_reply id puts.New = Some (Stored id)
put_reply id puts.Known = Some (Stored id)
put_reply id (puts.Clash other) = Some (Error 409 (codes "Clash " ++ spelled_id other) false)
put_reply id (puts.UnknownParent parent) = Some (Error 409 (codes "UnknownParent " ++ spelled_id parent) false)
put_reply id (puts.OutOfRange patch len) = Some (Error 422 (codes "OutOfRange patch " ++ decimal patch ++ codes " len " ++ decimal len) false)
put_reply id (puts.Full which limit) = Some (Error 507 (codes "Full " ++ which_name which ++ codes " " ++ decimal limit) false)
put_reply id puts.Memory = None

-- what a put adds: its entry where it is New, and nothing else
abbrev pub put_entries : Entry → Put → List Entry
put_entries e puts.New = e ∷ []
put_entries e puts.Known = []
put_entries e (puts.Clash other) = []
put_entries e (puts.UnknownParent parent) = []
put_entries e (puts.OutOfRange patch len) = []
put_entries e (puts.Full which limit) = []
put_entries e puts.Memory = []

-- the entry of an update that is put to a path by a number
abbrev pub entry_of : ℕ → List ℕ → UpdateView → Entry
entry_of by path update = record { path = path; by = by; update = update }

-- What a book answers to a wish on a path, by the number of who asks, and what it gains: the text that is read; why none
-- is; what becomes of an update; or that a subscription begins at what is not held. A subscription that is served has no
-- such reply.
pub data Answers (B : List Entry) (by : ℕ) (path : List ℕ) : Wish → Reply → List Entry → Type 0 where
  found : (at : Option (List (List ℕ))) (got : Got) → IsRead B path at got → Answers B by path (Read at) (Text got.version got.text) []
  not_found : (at : Option (List (List ℕ))) (fault : GetFault) (reply : Reply)
      → IsGetFault B path at fault → fault_reply fault ≡ Some reply → Answers B by path (Read at) reply []
  answered : (update : UpdateView) (answer : Put) (reply : Reply)
      → IsPut B (entry_of by path update) answer → put_reply update.id answer ≡ Some reply
      → Answers B by path (Store update) reply (put_entries (entry_of by path update) answer)
  not_held : (from : List (List ℕ)) (id : List ℕ)
      → IsLeastUnheld (graph_of (of_path B path)) from id → Answers B by path (Watch from) (unheld_reply id) []

-- entries that an answer to a wish may add: none, or those of some reply
abbrev pub MayAdd : List Entry → ℕ → List ℕ → Wish → List Entry → Type 0
MayAdd B by path wish es = (es ≡ []) ⊎ ((reply : Reply) × Answers B by path wish reply es)
