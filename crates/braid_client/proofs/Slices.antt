-- Updates of a replica from one number up to and without another.
use Rattle.std.proofs.Common.{◌≡◌, ℕ, ◌+◌, ◌≤◌, List, [], ◌∷◌, ◌++◌, length, take, drop, true, Some, refl, sym, ap, ◌∙◌, cond, codes, Bool, append-nil, append_assoc, length-append, arith}
use Rattle.std.specs.List.{slice_get}
use Rattle.std.proofs.lemmas.List.{take_all, drop-append-le, length-take-le}
use Rattle.std.proofs.lemmas.Option.{slice_get_within}
use Rattle.std.proofs.Math.Seq.{drop-append_seam}
use Rattle.braid_ids.specs.Identifiers.{spelled_id}
use Rattle.braid_change.specs.Updates.{UpdateView}
use Rattle.braid_change.specs.declared.change.Change.{Change}
use Rattle.braid_graph.proofs.Kept.{take_next}
use Rattle.braid_text.specs.declared.room.Room.{Room}
use Rattle.braid_outbox.specs.Replicas.{ReplicaView, all_of}
use Rattle.braid_outbox.specs.Writes.{additions, is_written, write, with_unsent}
use Rattle.braid_lines.specs.Lines.{line_with}
use Rattle.braid_client.specs.Texts.{wrote_text}

pub one_more : {A : Type 0} (xs : List A) (from n : ℕ) (x : A) → from ≤ n → slice_get xs n ≡ Some x → drop from (take (n + 1) xs) ≡ drop from (take n xs) ++ x ∷ []
one_more xs from n x l e =
    let w = slice_get_within xs n x e in
    let s = length-take-le n xs (omega (arith, w)) in
    ap (drop from) (take_next xs n x e) ∙ drop-append-le from (take n xs) (x ∷ []) (omega (arith, l, s))

pub all_taken : {A : Type 0} (xs : List A) (from n : ℕ) → n ≡ length xs → drop from (take n xs) ≡ drop from xs
all_taken xs from n e = ap (drop from) (take_all n xs (omega (arith, e)))

-- what a write added stands behind all that was there
pub written_behind : (limits : Room) (r q : ReplicaView) (c : Change) (n : ℕ) → is_written limits r c ≡ true → q ≡ write limits r c → n ≡ length r.confirmed + length r.unsent → (drop n (all_of q) ≡ additions r c) × (n ≤ length (all_of q))
written_behind limits r q c n due e s =
    let is : q ≡ with_unsent r (additions r c) = e ∙ ap (λ (b : Bool). cond b (with_unsent r (additions r c)) r) due in
    let whole : all_of q ≡ all_of r ++ additions r c = ap all_of is ∙ sym (append_assoc r.confirmed r.unsent (additions r c)) in
    let many : n ≡ length (all_of r) = s ∙ sym (length-append r.confirmed r.unsent) in
    let size = ap length whole ∙ length-append (all_of r) (additions r c) in
    (ap (drop n) whole ∙ ap (λ (k : ℕ). drop k (all_of r ++ additions r c)) many ∙ drop-append_seam (all_of r) (additions r c), omega (arith, many, size))

-- the lines of updates
pub lines_more : (us : List UpdateView) (u : UpdateView) → wrote_text (us ++ u ∷ []) ≡ wrote_text us ++ wrote_text (u ∷ [])
lines_more [] u = refl
lines_more (w ∷ us) u = ap (λ (t : List ℕ). line w ++ t) (lines_more us u) ∙ sym (append_assoc (line w) (wrote_text us) (wrote_text (u ∷ [])))
  where
    line : UpdateView → List ℕ
    line x = line_with (codes "wrote: ") (spelled_id x.id)

-- one more line, of the update with the next number
pub lines_next : (us : List UpdateView) (from n : ℕ) (u : UpdateView) (v old new : List ℕ) → from ≤ n → Some u ≡ slice_get us n → old ≡ wrote_text (drop from (take n us)) → v ≡ u.id → new ≡ old ++ line_with (codes "wrote: ") (spelled_id v) → new ≡ wrote_text (drop from (take (n + 1) us))
lines_next us from n u v old new l at so named put =
    put ∙ ap (λ (t : List ℕ). t ++ line_with (codes "wrote: ") (spelled_id v)) so
    ∙ ap (λ (w : List ℕ). wrote_text (drop from (take n us)) ++ line_with (codes "wrote: ") (spelled_id w)) named
    ∙ ap (λ (t : List ℕ). wrote_text (drop from (take n us)) ++ t) (sym (append-nil (line_with (codes "wrote: ") (spelled_id u.id))))
    ∙ sym (lines_more (drop from (take n us)) u)
    ∙ ap wrote_text (sym (one_more us from n u l (sym at)))

-- one more copy
pub entries_next : {A : Type 0} (xs : List A) (from n : ℕ) (x y : A) (old new : List A) → from ≤ n → Some x ≡ slice_get xs n → old ≡ drop from (take n xs) → y ≡ x → new ≡ old ++ y ∷ [] → new ≡ drop from (take (n + 1) xs)
entries_next xs from n x y old new l at so same put =
    put ∙ ap (λ t. t ++ y ∷ []) so ∙ ap (λ z. drop from (take n xs) ++ z ∷ []) same ∙ sym (one_more xs from n x l (sym at))

pub written_lines : (limits : Room) (r q : ReplicaView) (c : Change) (n : ℕ) (text : List ℕ) → is_written limits r c ≡ true → q ≡ write limits r c → n ≡ length r.confirmed + length r.unsent → text ≡ wrote_text (drop n (all_of q)) → text ≡ wrote_text (additions r c)
written_lines limits r q c n text due e s t = t ∙ ap wrote_text (written_behind limits r q c n due e s).0
