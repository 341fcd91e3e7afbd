-- What the book is asked in a turn, and what it tells, as the functions of a session see it.
use Rattle.std.specs.Prelude.{◌≡◌, ℕ, List, ◌++◌, Option, Some}
use Rattle.braid_store.specs.declared.entry.Entry.{Entry}
use Rattle.braid_store.specs.Answers.{IsPut}
use Rattle.braid_store.specs.Reads.{IsRead, IsGetFault}
use Rattle.braid_http.specs.declared.reply.Reply.{Reply}
use Rattle.braid_http.specs.declared.reply.Reply.TheVariants.{Text}
use Rattle.braid_session.specs.declared.wish.Wish.{Wish}
use Rattle.braid_session.specs.declared.wish.Wish.TheVariants as wishes
use Rattle.braid_session.specs.declared.answer.Question.{Question}
use Rattle.braid_session.specs.declared.answer.Question.TheVariants.{Read, Store}
use Rattle.braid_session.specs.declared.answer.Told.{Told}
use Rattle.braid_session.specs.declared.answer.Told.TheVariants.{Found, NotFound, Answered}
use Rattle.braid_session.specs.Answers.{fault_reply, put_reply, put_entries, entry_of}

-- the question that a wish is, with the identifier of its update
abbrev pub AsksFor : Question → Wish → Type 0
AsksFor (Read at) wish = wish ≡ wishes.Read at
AsksFor (Store id update) wish = (wish ≡ wishes.Store update) × (id ≡ update.id)

-- what a book tells to a question, and what it is behind it
abbrev pub Tells : List Entry → ℕ → List ℕ → Question → Told → List Entry → Type 0
Tells old by path (Read at) (Found got) new = IsRead old path at got × (new ≡ old)
Tells old by path (Read at) (NotFound fault) new = IsGetFault old path at fault × (new ≡ old)
Tells old by path (Read at) (Answered id put) new = ⊥
Tells old by path (Store id update) (Found got) new = ⊥
Tells old by path (Store id update) (NotFound fault) new = ⊥
Tells old by path (Store id update) (Answered named put) new =
    (named ≡ id) × IsPut old (entry_of by path update) put × (new ≡ old ++ put_entries (entry_of by path update) put)

-- the reply to what a book told; want of memory has none
abbrev pub told_reply : Told → Option Reply
told_reply (Found got) = Some (Text got.version got.text)
told_reply (NotFound fault) = fault_reply fault
told_reply (Answered id put) = put_reply id put
