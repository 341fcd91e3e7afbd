-- What a reader answers over a piece, and over a source that has ended.
use Rattle.std.proofs.Common.{◌≡◌, ◌<◌, ℕ, List, [], ◌∷◌, ◌++◌, Some, None, ap, sym, subst, ◌∙◌, append_assoc, append-nil, length, inl, inr, arith}
use Rattle.std.proofs.lemmas.List.{append_cancel_right}
use Rattle.std.proofs.lemmas.Option.{same_Some}
use Rattle.std.specs.Io.KnownBytes.{prepend_known}
use Rattle.braid_io.specs.Outside.{Rose}
use Rattle.braid_change.specs.Updates.{UpdateView}
use Rattle.braid_grammar.specs.Streams.{BeginsWith}
use Rattle.braid_frame.specs.declared.fed.FrameFault.{FrameFault}
use Rattle.braid_frame.specs.Phases.{HasFault}
use Rattle.braid_stream.specs.declared.next.Next.{Next}
use Rattle.braid_stream.specs.declared.next.Next.TheVariants.{Update, End, Torn, Fault, ReadFault, Spent, Memory}
use Rattle.braid_stream.specs.declared.reading.Reading.{Reading}
use Rattle.braid_stream.specs.Readers.{HasTaken, Answers, update}
use Rattle.braid_stream.proofs.AtHand.{no_answer}
use Rattle.braid_stream.proofs.Budgets.{budget_falls}
use Rattle.braid_sync.specs.declared.hear.Heard.{Heard}
use Rattle.braid_sync.specs.declared.hear.Heard.TheVariants as heards
use Rattle.braid_sync.specs.Pieces.{PieceView, piece_intake, nothing_left}
use Rattle.braid_sync.specs.Hearing.{HaveAll}
use Rattle.braid_sync.specs.Steps.{AtHand, AtEnd}
use Rattle.braid_sync.proofs.Streaming.{fault_seen, have_seen}

-- what was taken of a piece, and what is left of it
left_of : (more old new : List ℕ) → Some (old ++ 0 ∷ []) ≡ prepend_known more (Some (new ++ 0 ∷ [])) → old ≡ more ++ new
left_of more old new e = append_cancel_right old (more ++ new) (0 ∷ []) (same_Some (old ++ 0 ∷ []) (more ++ (new ++ 0 ∷ [])) e ∙ sym (append_assoc more new (0 ∷ [])))

all_of : (taken more old new : List ℕ) → old ≡ more ++ new → taken ++ old ≡ (taken ++ more) ++ new
all_of taken more old new e = ap (λ (t : List ℕ). taken ++ t) e ∙ sym (append_assoc taken more new)

never_empty : (xs : List ℕ) (x : ℕ) → xs ++ x ∷ [] ≡ [] → ⊥
never_empty [] x e = absurd (cc)
never_empty (y ∷ xs) x e = absurd (cc)

pub some_rose : (a b : ℕ) → Rose a b → 0 < b
some_rose a b (inl r) = omega (arith, r)
some_rose a b (inr r) = omega (arith, r)

pub hands_update : (us : List UpdateView) (taken : List ℕ) (u : UpdateView) (old new : Reading) (p q : PieceView) → HasTaken us old taken → Answers us taken (Update u) new (piece_intake p) (piece_intake q)
    → AtHand (Some (heards.Update u)) old new q us taken (taken ++ p.left)
hands_update us taken u old new p q h a = (
  a.more,
  a.leaves.1,
  a.leaves.0,
  all_of taken a.more p.left q.left (left_of a.more p.left q.left a.cause.0.left),
  a.cause.1,
  budget_falls us taken u old new (piece_intake p) (piece_intake q) h a,
)

pub hands_none : (us : List UpdateView) (taken : List ℕ) (old new : Reading) (p q : PieceView) → (0 < q.faults → q.left ≡ []) → Answers us taken ReadFault new (piece_intake p) (piece_intake q)
    → AtHand None old new q us taken (taken ++ p.left)
hands_none us taken old new p q used a =
    let none = used (some_rose p.faults q.faults a.cause.0.rose) in
    let same : taken ++ p.left ≡ taken ++ a.more =
    all_of taken a.more p.left q.left (left_of a.more p.left q.left a.cause.0.gives.left) ∙ ap (λ (t : List ℕ). (taken ++ a.more) ++ t) none ∙ append-nil (taken ++ a.more) in
    let have : HaveAll us (taken ++ a.more) = record { have = a.cause.1; short = a.cause.2 } in (
      subst (λ (t : List ℕ). HasTaken us new t) (sym same) a.leaves.1,
      a.leaves.0,
      none,
      subst (HaveAll us) (sym same) have,
    )

pub hands_fault : (us : List UpdateView) (taken : List ℕ) (f : FrameFault) (old new : Reading) (p q : PieceView) → Answers us taken (Fault f) new (piece_intake p) (piece_intake q)
    → AtHand (Some (heards.Fault f)) old new q us taken (taken ++ p.left)
hands_fault us taken f old new p q a =
    fault_seen us (taken ++ a.more) q.left (taken ++ p.left) f (all_of taken a.more p.left q.left (left_of a.more p.left q.left a.cause.0.left)) a.cause.2 a.cause.1

pub hands_spent : (us : List UpdateView) (taken : List ℕ) (old new : Reading) (p q : PieceView) → Answers us taken Spent new (piece_intake p) (piece_intake q) → AtHand (Some heards.Spent) old new q us taken (taken ++ p.left)
hands_spent us taken old new p q a =
    have_seen us (taken ++ a.more) q.left (taken ++ p.left) (all_of taken a.more p.left q.left (left_of a.more p.left q.left a.cause.0.left)) a.cause.2 a.cause.1

-- a piece has no end
pub hands_no_end : (us : List UpdateView) (taken : List ℕ) (new : Reading) (p q : PieceView) → Answers us taken End new (piece_intake p) (piece_intake q) → ⊥
hands_no_end us taken new p q a = never_empty q.left 0 a.cause.0.nothing_left

pub hands_no_torn : (us : List UpdateView) (taken : List ℕ) (at : ℕ) (new : Reading) (p q : PieceView) → Answers us taken (Torn at) new (piece_intake p) (piece_intake q) → ⊥
hands_no_torn us taken at new p q a = never_empty q.left 0 a.cause.0.nothing_left

-- behind the end

none_more : (more : List ℕ) → Some [] ≡ prepend_known more (Some []) → more ≡ []
none_more more e = sym (same_Some [] (more ++ []) e ∙ append-nil more)

as_all : (content more : List ℕ) → more ≡ [] → content ++ more ≡ content
as_all content more e = ap (λ (t : List ℕ). content ++ t) e ∙ append-nil content

-- what a client hears where a reader answers so
abbrev pub heard_as : Next → Heard
heard_as (Update u) = heards.Update u
heard_as End = heards.Whole
heard_as (Torn at) = heards.Cut
heard_as (Fault f) = heards.Fault f
heard_as ReadFault = heards.ReadFault
heard_as Spent = heards.Spent
heard_as Memory = heards.Memory

pub hears_end : (us : List UpdateView) (content : List ℕ) (next : Next) (new : Reading) → HaveAll us content → Answers us content next new nothing_left nothing_left → AtEnd (heard_as next) us content
hears_end us content (Update u) new h a =
    no_answer us content h.have (update u (subst (BeginsWith us u) (as_all content a.more (none_more a.more a.cause.0.left)) a.cause.1))
hears_end us content End new h a = rw (as_all content a.more (none_more a.more a.cause.0.moves.left)) at a.cause.1
hears_end us content (Torn at) new h a = rw (as_all content a.more (none_more a.more a.cause.0.moves.left)) at a.cause.2
hears_end us content (Fault f) new h a =
    let there : HasFault us content f = subst (λ (t : List ℕ). HasFault us t f) (as_all content a.more (none_more a.more a.cause.0.left)) a.cause.1 in
    h.have.faultless f.at f.reason there.0
hears_end us content ReadFault new h a = let r = some_rose 0 0 a.cause.0.rose in absurd (omega (arith, r))
hears_end us content Spent new h a =
    let same = ap length (as_all content a.more (none_more a.more a.cause.0.left)) in
    absurd (omega (arith, same, a.cause.2, h.short))
hears_end us content Memory new h a = tt
