-- What is counted of workers' notes, one after another.
use Rattle.std.proofs.Common.{◌≡◌, ℕ, ◌+◌, ◌<◌, List, [], ◌∷◌, ◌++◌, refl, ap, sym, ◌∙◌, length, get_or, take, arith}
use Rattle.std.proofs.lemmas.List.{take_more}
use Rattle.braid_io.specs.declared.status.Status.{Status}
use Rattle.braid_session.specs.declared.worker.WorkerEnd.{WorkerEnd}
use Rattle.braid_session.specs.declared.worker.WorkerEnd.TheVariants.{DoorEnd, DoorFault, Worn, Memory}
use Rattle.braid_session.specs.declared.worker.WorkerNote.{WorkerNote}
use Rattle.braid_server.specs.Workers.{sessions_of}
use Rattle.braid_server.specs.Runs.{status_of, with_end}

-- it does not matter which of two ends comes first
ends_swap : (a b : WorkerEnd) (s : Status) → with_end a (with_end b s) ≡ with_end b (with_end a s)
ends_swap DoorEnd DoorEnd s = refl
ends_swap DoorEnd DoorFault s = refl
ends_swap DoorEnd Worn s = refl
ends_swap DoorEnd Memory s = refl
ends_swap DoorFault DoorEnd s = refl
ends_swap DoorFault DoorFault s = refl
ends_swap DoorFault Worn s = refl
ends_swap DoorFault Memory s = refl
ends_swap Worn DoorEnd s = refl
ends_swap Worn DoorFault s = refl
ends_swap Worn Worn s = refl
ends_swap Worn Memory s = refl
ends_swap Memory DoorEnd s = refl
ends_swap Memory DoorFault s = refl
ends_swap Memory Worn s = refl
ends_swap Memory Memory s = refl

status_last : (ns : List WorkerNote) (n : WorkerNote) → status_of (ns ++ n ∷ []) ≡ with_end n.end (status_of ns)
status_last [] n = refl
status_last (m ∷ ns) n = ap (with_end m.end) (status_last ns n) ∙ ends_swap m.end n.end (status_of ns)

sessions_last : (ns : List WorkerNote) (n : WorkerNote) → sessions_of (ns ++ n ∷ []) ≡ sessions_of ns + length n.sessions
sessions_last [] n = omega arith
sessions_last (m ∷ ns) n = let e = sessions_last ns n in omega (arith, e)

-- one note more
pub status_more : (notes : List WorkerNote) (i : ℕ) (n : WorkerNote) → i < length notes → n ≡ get_or notes i n
    → status_of (take (i + 1) notes) ≡ with_end n.end (status_of (take i notes))
status_more notes i n inside is = ap status_of (take_more notes i n inside ∙ ap (λ (m : WorkerNote). take i notes ++ m ∷ []) (sym is)) ∙ status_last (take i notes) n

pub sessions_more : (notes : List WorkerNote) (i : ℕ) (n : WorkerNote) → i < length notes → n ≡ get_or notes i n
    → sessions_of (take (i + 1) notes) ≡ sessions_of (take i notes) + length n.sessions
sessions_more notes i n inside is = ap sessions_of (take_more notes i n inside ∙ ap (λ (m : WorkerNote). take i notes ++ m ∷ []) (sym is)) ∙ sessions_last (take i notes) n
