-- The head of a subscription is short, and is read as it was written.
use Rattle.std.proofs.Common.{◌≡◌, ℕ, ◌≤◌, ◌+◌, ◌*◌, arith, length-append, List, [], ◌∷◌, ◌++◌, false, refl, sym, ap, subst, ◌∙◌, length, reverse, inl, inr, codes, Ok}
use Rattle.std.specs.List.{flat_map, AllByRecursion}
use Rattle.braid_ids.specs.Identifiers.{IsIdentifier, escaped, spelled_id, spelled_ids}
use Rattle.braid_ids.specs.Frontiers.{rising_ids}
use Rattle.braid_ids.proofs.Spelled.{alone, after, escape_of}
use Rattle.braid_change.specs.Updates.{UpdateView}
use Rattle.braid_change.specs.Spellings.{list_text}
use Rattle.braid_tree.specs.Trees.{Member}
use Rattle.braid_text.specs.Histories.{IsLegal}
use Rattle.braid_outbox.specs.Replicas.{frontier}
use Rattle.braid_outbox.proofs.Fronts.{frontier_cases}
use Rattle.braid_outbox.proofs.Moves.{to_log}
use Rattle.braid_outbox.proofs.Sides.{update_in}
use Rattle.braid_http.specs.declared.response.BodyKind.TheVariants.{Chunked}
use Rattle.braid_http.specs.declared.response.ReplyHead.{ReplyHead}
use Rattle.braid_http.specs.declared.reply.Reply.TheVariants.{Subscription}
use Rattle.braid_http.specs.Heads.{text_bytes}
use Rattle.braid_http.specs.Responses.{replied, DecidesReply}
use Rattle.braid_http.specs.Replies.{ended, reply_text}
use Rattle.braid_sync.specs.Judging.{judge}
use Rattle.braid_sync.proofs.LawWritten.{each_list, lines_with, text_with, text_is, text_bytes_are, reply_with, reply_is, judged_with, decided_with}

pub all_of_members : {A : Type 0} (P : A → Type 0) (xs : List A) → ((x : A) → Member x xs → P x) → AllByRecursion P xs
all_of_members P [] h = tt
all_of_members P (x ∷ xs) h = (h x (inl refl), all_of_members P xs (λ y m. h y (inr m)))

-- the identifiers of a frontier are identifiers
pub frontier_named : (H : List UpdateView) → IsLegal H → AllByRecursion IsIdentifier (frontier H)
frontier_named H legal = all_of_members IsIdentifier (frontier H) (λ v m. let h = (frontier_cases H v m).0 in subst IsIdentifier h.2 (update_in (reverse H) legal h.0 (to_log H h.0 h.1)).named)

-- a list of no more than 1,000 identifiers is short

escaped_short : (bytes : List ℕ) → length (flat_map escaped bytes) ≤ 2 * length bytes
escaped_short [] = omega arith
escaped_short (b ∷ bytes) = omega (arith, escaped_short bytes, one b, length-append (escaped b) (flat_map escaped bytes))
  where
    one : (b : ℕ) → length (escaped b) ≤ 2
    one b = elim (escape_of b) [ alone n m is ↦ omega (arith, ap length is) | after is ↦ omega (arith, ap length is) ]

id_short : (id : List ℕ) → IsIdentifier id → length (spelled_id id) ≤ 258
id_short id i = let short = i.short in omega (arith, short, escaped_short id, length-append (34 ∷ flat_map escaped id) (34 ∷ []))

others_short : (ids : List (List ℕ)) → AllByRecursion IsIdentifier ids → length (flat_map (λ (other : List ℕ). 44 ∷ 32 ∷ spelled_id other) ids) ≤ 260 * length ids
others_short [] h = omega arith
others_short (id ∷ ids) h = omega (arith, id_short id h.0, others_short ids h.1, length-append (44 ∷ 32 ∷ spelled_id id) (flat_map (λ (other : List ℕ). 44 ∷ 32 ∷ spelled_id other) ids))

pub list_short : (ids : List (List ℕ)) → AllByRecursion IsIdentifier ids → length (list_text ids) ≤ 260 * length ids
list_short [] h = omega arith
list_short (id ∷ ids) h = omega (arith, id_short id h.0, others_short ids h.1, length-append (32 ∷ spelled_id id) (flat_map (λ (other : List ℕ). 44 ∷ 32 ∷ spelled_id other) ids))

-- a head is little longer than the list in it
lines_length : (x : List ℕ) → length (flat_map ended (lines_with x) ++ codes "\r\n") ≤ length x + 400
lines_length x = simp length-append (omega arith)

head_short : (V : List (List ℕ)) → AllByRecursion IsIdentifier V → length V ≤ 1_000 → length (text_bytes (text_with (list_text V))) ≤ 524_288
head_short V ids few =
    let l = list_short V ids in
    let e = ap length (text_bytes_are (list_text V)) in
    let n = lines_length (list_text V) in
    omega (arith, few, l, e, n)

-- the reply of a subscription whose head names these identifiers, as it is read
pub written_reply : List (List ℕ) → ReplyHead
written_reply V = reply_with (spelled_ids V)

pub written_chunked : (V : List (List ℕ)) → (written_reply V).body ≡ Chunked
unfolding written_reply
written_chunked V = ap (λ (r : ReplyHead). r.body) (sym (reply_is V))

pub written_judged : (V : List (List ℕ)) → AllByRecursion IsIdentifier V → judge (written_reply V) ≡ Ok (rising_ids V)
unfolding written_reply
written_judged V ids = judged_with V ids

pub written_decides : (V : List (List ℕ)) → AllByRecursion IsIdentifier V → length V ≤ 1_000 → DecidesReply (replied (written_reply V)) (reply_text false (Subscription V))
unfolding written_reply
written_decides V ids few =
    let text = text_is V ∙ text_bytes_are (list_text V) in
    let decides = subst (λ (k : ReplyHead). DecidesReply (replied k) (text_bytes (text_with (list_text V)))) (reply_is V) (decided_with (list_text V) (each_list V ids) (head_short V ids few)) in
    subst (DecidesReply (replied (reply_with (spelled_ids V)))) (sym text) decides
