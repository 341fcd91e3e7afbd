-- What a put tells.
use Rattle.std.proofs.Common.{◌≡◌, ◌≢◌, ◌≤◌, ◌<◌, ◌+◌, ◌^◌, ◌==◌, ℕ, zero, suc, length, length-append, get_or, arith, List, [], ◌∷◌, ◌++◌, Bool, true, false, cond, refl, sym, ap, subst, ◌∙◌, Option, Some, None, Result, Ok, Err}
use Rattle.std.proofs.Math.ListN.{set}
use Rattle.std.proofs.lemmas.Bool.{ne_eqb}
use Rattle.std.specs.List.{slice_get, AllByRecursion}
use Rattle.std.specs.Result.{IfOk, OnOk, OnErr}
use Rattle.braid_graph.specs.Entries.{HoldsAll}
use Rattle.braid_text.specs.Histories.{graph_of}
use Rattle.braid_text.specs.Rooms.{replica_limits}
use Rattle.braid_text.specs.Sent.{sent}
use Rattle.braid_outbox.specs.declared.world.Answered.{Answered}
use Rattle.braid_outbox.specs.declared.world.Reading.{Reading}
use Rattle.braid_outbox.specs.Replicas.{ReplicaView}
use Rattle.braid_outbox.specs.Learns.{acked, learn}
use Rattle.braid_outbox.specs.Made.{MakesReplica}
use Rattle.braid_change.specs.Updates.{UpdateView, IsUpdate}
use Rattle.braid_store.specs.declared.entry.Entry.{Entry}
use Rattle.braid_store.specs.declared.put.Put.{Put}
use Rattle.braid_store.specs.declared.put.Put.TheVariants.{New, Known, Clash, UnknownParent, OutOfRange, Full, Memory}
use Rattle.braid_store.specs.Books.{IsLegalBook}
use Rattle.braid_store.specs.Answers.{IsPut, put_answer}
use Rattle.braid_store.proofs.Judged.{one}
use Rattle.braid_outbox.specs.declared.world.Posted.{Posted}
use Rattle.braid_outbox.specs.declared.world.Side.{Side}
use Rattle.braid_outbox.specs.Worlds.{is_foreign, kept_of}
use Rattle.braid_world.specs.Events.{entry_at, put_status, after_put, Lands, changed, HoldsFrom, HoldsReading}
use Rattle.braid_world.specs.ReplicaCalls.{learnt_at, read_at, carried, returned, acknowledged}
use Rattle.braid_world.specs.BookCalls.{put_on, IsTold, Joins}
use Rattle.braid_world.proofs.Changed.{changed_far, set_read}
use Rattle.braid_world.proofs.Nth.{get_read, get_far, all_read}

-- the book after an answer
after_as : (B C : List Entry) (e : Entry) (a : Put) → (a ≡ New → C ≡ B ++ e ∷ []) → (a ≢ New → C ≡ B) → C ≡ after_put B e a
after_as B C e New taken kept = taken refl
after_as B C e Known taken kept = kept (λ k. cc)
after_as B C e (Clash v) taken kept = kept (λ k. cc)
after_as B C e (UnknownParent v) taken kept = kept (λ k. cc)
after_as B C e (OutOfRange patch len) taken kept = kept (λ k. cc)
after_as B C e (Full which limit) taken kept = kept (λ k. cc)
after_as B C e Memory taken kept = kept (λ k. cc)

pub told_put : (path : List ℕ) (by : ℕ) (B C : List Entry) (u : UpdateView) (a : Put) (status : ℕ) → IsLegalBook B → IsUpdate u → IsPut B (entry_at path by u) a → (a ≡ New → C ≡ B ++ entry_at path by u ∷ []) → (a ≢ New → C ≡ B) → a ≢ Memory → status ≡ put_status a → IsTold path by B C u status
told_put path by B C u a status legal is put taken kept other told =
    let e : a ≡ put_answer B (entry_at path by u) = one B (entry_at path by u) legal is.rising a put other in
    record { put = after_as B C (entry_at path by u) a taken kept ∙ ap (after_put B (entry_at path by u)) e; told = told ∙ ap put_status e }

-- at want of memory the book is as it was
pub kept_put : (B C : List Entry) (a : Put) → (a ≢ New → C ≡ B) → a ≡ Memory → C ≡ B
kept_put B C a kept e = kept (λ n. (let k : Memory ≡ New = sym e ∙ n in cc))

pub lands_told : (path : List ℕ) (by : ℕ) (B C : List Entry) (p : Posted) (u : UpdateView) (status : ℕ) (o : Option Posted) → u ≡ p.update → o ≡ Some p → IsTold path by B C u status → Lands path by B C o (Some status)
lands_told path by B C p u status o e f t = subst (λ (x : Option Posted). Lands path by B C x (Some status)) (sym f) (
  t.put ∙ ap (λ (x : UpdateView). put_on path by B x) e,
  ap Some (t.told ∙ ap (λ (x : UpdateView). put_status (put_answer B (entry_at path by x))) e),
)

pub joins_told : (path : List ℕ) (by : ℕ) (B C : List Entry) (sides : List Side) (u : UpdateView) (status : ℕ) → true ≡ is_foreign u.id sides → IsTold path by B C u status → Joins path by B C sides u
joins_told path by B C sides u status e t = t.put ∙ ap (λ (b : Bool). cond b (put_on path by B u) B) e

pub joins_none : (path : List ℕ) (by : ℕ) (B C : List Entry) (sides : List Side) (u : UpdateView) → false ≡ is_foreign u.id sides → C ≡ B → Joins path by B C sides u
joins_none path by B C sides u e f = f ∙ ap (λ (b : Bool). cond b (put_on path by B u) B) e

-- the same of a result
pub all_told : {E : Type 0} (r : Result ℕ E) (path : List ℕ) (by : ℕ) (B C : List Entry) (u : UpdateView) (a : Put) → IsLegalBook B → IsUpdate u → IsPut B (entry_at path by u) a → (a ≡ New → C ≡ B ++ entry_at path by u ∷ []) → (a ≢ New → C ≡ B)
    → IfOk r (λ (s : ℕ). s ≡ put_status a) → OnOk r (a ≢ Memory) → IfOk r (λ (s : ℕ). IsTold path by B C u s)
all_told (Ok s) path by B C u a legal is put taken kept e o = told_put path by B C u a s legal is put taken kept o e
all_told (Err x) path by B C u a legal is put taken kept e o = tt

pub all_kept : {E : Type 0} (r : Result ℕ E) (B C : List Entry) (a : Put) → (a ≢ New → C ≡ B) → OnErr r (a ≡ Memory) → OnErr r (C ≡ B)
all_kept (Ok s) B C a kept e = tt
all_kept (Err x) B C a kept e = kept_put B C a kept e

-- an acknowledgement

pub ack_none : (o : Option Answered) (rs : List ReplicaView) → o ≡ None → rs ≡ acknowledged o rs
ack_none o rs e = sym (ap (λ (x : Option Answered). acknowledged x rs) e)

ack_by : (o : Option Answered) (r : Answered) (rs : List ReplicaView) (b : Bool) → o ≡ Some r → (r.status == 200) ≡ b → cond b (changed r.by (acked r.id) rs) rs ≡ acknowledged o rs
ack_by o r rs b e f = sym (ap (λ (x : Option Answered). acknowledged x rs) e ∙ ap (λ (t : Bool). cond t (changed r.by (acked r.id) rs) rs) f)

pub ack_other : (o : Option Answered) (r : Answered) (rs : List ReplicaView) → o ≡ Some r → r.status ≢ 200 → rs ≡ acknowledged o rs
ack_other o r rs e n = ack_by o r rs false e (ne_eqb r.status 200 n)

is_200 : (r : Answered) → r.status ≡ 200 → (r.status == 200) ≡ true
is_200 r e = ap (λ (n : ℕ). n == 200) e

pub ack_far : (o : Option Answered) (r : Answered) (rs : List ReplicaView) → o ≡ Some r → r.status ≡ 200 → length rs ≤ r.by → rs ≡ acknowledged o rs
ack_far o r rs e s l = sym (changed_far r.by (acked r.id) rs l) ∙ ack_by o r rs true e (is_200 r s)

pub ack_there : (o : Option Answered) (r : Answered) (rs : List ReplicaView) (x y : ReplicaView) → o ≡ Some r → r.status ≡ 200 → r.by < length rs → x ≡ get_or rs r.by x → y ≡ acked r.id (get_or rs r.by x) → set rs r.by y ≡ acknowledged o rs
ack_there o r rs x y e s l is f = set_read r.by (acked r.id) rs x y l is f ∙ ack_by o r rs true e (is_200 r s)

-- a return to the kept copy

pub back_none : (a : ℕ) (ss : List Side) (rs : List ReplicaView) → length ss ≤ a → rs ≡ returned a (slice_get ss a) rs
back_none a ss rs l = sym (ap (λ (o : Option Side). returned a o rs) (get_far ss a l))

back_at : (a : ℕ) (ss : List Side) (s : Side) (rs : List ReplicaView) → a < length ss → s ≡ get_or ss a s → changed a (λ (r : ReplicaView). kept_of s) rs ≡ returned a (slice_get ss a) rs
back_at a ss s rs l is = sym (ap (λ (o : Option Side). returned a o rs) (get_read ss a s l is))

pub back_far : (a : ℕ) (ss : List Side) (s : Side) (rs : List ReplicaView) → a < length ss → s ≡ get_or ss a s → length rs ≤ a → rs ≡ returned a (slice_get ss a) rs
back_far a ss s rs l is far = sym (changed_far a (λ (r : ReplicaView). kept_of s) rs far) ∙ back_at a ss s rs l is

changed_const : (a : ℕ) (y : ReplicaView) (rs : List ReplicaView) → changed a (λ (r : ReplicaView). y) rs ≡ set rs a y
changed_const a y [] = refl
changed_const zero y (r ∷ rs) = refl
changed_const (suc a) y (r ∷ rs) = ap (λ (t : List ReplicaView). r ∷ t) (changed_const a y rs)

pub back_there : (a : ℕ) (ss : List Side) (s : Side) (rs : List ReplicaView) (y : ReplicaView) → a < length ss → s ≡ get_or ss a s → y ≡ kept_of s → set rs a y ≡ returned a (slice_get ss a) rs
back_there a ss s rs y l is e = ap (λ (x : ReplicaView). set rs a x) e ∙ sym (changed_const a (kept_of s) rs) ∙ back_at a ss s rs l is

-- a Carry

pub carry_none : (a : ℕ) (H : List UpdateView) (ss : List Side) (rs : List ReplicaView) → length ss ≤ a → rs ≡ carried a H (slice_get ss a) rs
carry_none a H ss rs l = sym (ap (λ (o : Option Side). carried a H o rs) (get_far ss a l))

carry_side : (a : ℕ) (H : List UpdateView) (ss : List Side) (s : Side) (o : Option Reading) (rs : List ReplicaView) → a < length ss → s ≡ get_or ss a s → s.reading ≡ o → read_at a H o rs ≡ carried a H (slice_get ss a) rs
carry_side a H ss s o rs l is e = sym (ap (λ (x : Option Side). carried a H x rs) (get_read ss a s l is) ∙ ap (λ (x : Option Reading). read_at a H x rs) e)

pub carry_closed : (a : ℕ) (H : List UpdateView) (ss : List Side) (s : Side) (rs : List ReplicaView) → a < length ss → s ≡ get_or ss a s → s.reading ≡ None → rs ≡ carried a H (slice_get ss a) rs
carry_closed a H ss s rs l is e = carry_side a H ss s None rs l is e

pub carry_end : (a : ℕ) (H : List UpdateView) (ss : List Side) (s : Side) (rd : Reading) (x : Option UpdateView) (rs : List ReplicaView) → a < length ss → s ≡ get_or ss a s → s.reading ≡ Some rd → x ≡ slice_get (sent H rd.from) rd.position → x ≡ None → rs ≡ carried a H (slice_get ss a) rs
carry_end a H ss s rd x rs l is e f n = ap (λ (y : Option UpdateView). learnt_at a y rs) (sym n ∙ f) ∙ carry_side a H ss s (Some rd) rs l is e

pub carry_on : (a : ℕ) (H : List UpdateView) (ss : List Side) (s : Side) (rd : Reading) (x : Option UpdateView) (u : UpdateView) (rs new : List ReplicaView) → a < length ss → s ≡ get_or ss a s → s.reading ≡ Some rd → x ≡ slice_get (sent H rd.from) rd.position → x ≡ Some u
    → new ≡ changed a (λ (r : ReplicaView). learn replica_limits r u) rs → new ≡ carried a H (slice_get ss a) rs
carry_on a H ss s rd x u rs new l is e f n g = g ∙ ap (λ (y : Option UpdateView). learnt_at a y rs) (sym n ∙ f) ∙ carry_side a H ss s (Some rd) rs l is e

-- the frontier of a side's subscription is held
pub reading_held : (H : List UpdateView) (ss : List Side) (a : ℕ) (s : Side) (rd : Reading) → AllByRecursion (HoldsReading H) ss → a < length ss → s ≡ get_or ss a s → s.reading ≡ Some rd → HoldsAll (graph_of H) rd.from
reading_held H ss a s rd all l is e = subst (HoldsFrom H) e (all_read (HoldsReading H) ss a s all l is)

-- a copy of what makes a replica
pub few_kept : (C O K L : List UpdateView) → MakesReplica C O → K ≡ C → L ≡ O → length K + length L < 2 ^ 32
few_kept C O K L m e f = let v = m.fine.versions in omega (arith, v, ap length e, ap length f, length-append C O)
