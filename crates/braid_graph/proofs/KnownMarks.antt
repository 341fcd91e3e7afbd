-- The ancestries that are kept, as entries come.
use Rattle.std.proofs.Common.{◌≡◌, ◌↔◌, ℕ, ◌+◌, ◌<◌, ◌≤◌, List, [], ◌∷◌, ◌++◌, Bool, true, false, cond, Some, IsSomeAnd, All, length, get_or, slice_get, take, drop, zero, suc, arith, refl, sym, ap, subst, ◌∙◌, inl, inr, ◌⊎◌}
use Rattle.std.specs.List.{Contains, remove}
use Rattle.std.specs.Result.{OnOk, is_err}
use Rattle.std.specs.declared.result.Result.{Result}
use Rattle.std.specs.declared.result.Result.TheVariants.{Ok, Err}
use Rattle.std.proofs.Math.ListN.{get_or-eq_default}
use Rattle.std.proofs.lemmas.Bool.{cases_lt}
use Rattle.std.proofs.lemmas.Option.{same_Some, slice_get_within}
use Rattle.std.proofs.lemmas.List.{length_push}
use Rattle.std.proofs.lemmas.List.Elements.{Contains-append_left, Contains-push, Contains-push_cases, All-append, All-take, All-drop, All-push}
use Rattle.braid_ids.specs.MarkSets.{IsMarked}
use Rattle.braid_ids.proofs.Members.{contains_member, member_contains, member_at, slice_get_push}
use Rattle.braid_graph.specs.Entries.{GraphEntry, ids_of, Holds, HoldsAll, IsHistoryGraph, IsMemberNumber}
use Rattle.braid_graph.specs.Ancestries.{IsAncestor, named, parent, MarksAncestry}
use Rattle.braid_graph.specs.Inside.{IsNumberOf, IsKnown, AreKnown, MarksPast}
use Rattle.braid_graph.specs.declared.known.Known.{Known}
use Rattle.braid_graph.proofs.Kept.{number_kept}
use Rattle.braid_graph.proofs.Newest.{entry_id, id_at, front_history, newest_new, parents_held}
use Rattle.braid_graph.proofs.RunsKept.{at_push}
use Rattle.braid_graph.proofs.Walk.{same_ancestry, least}

-- an ancestry among held identifiers is held
ancestor_held : (es : List GraphEntry) (F : List (List ℕ)) → IsHistoryGraph es → HoldsAll es F → (v : List ℕ) → IsAncestor es F v → Holds es v
ancestor_held es F h held v a = least es F (Holds es) held (λ e p c k d. parents_held es h e c p d) v a

one_member : (w v : List ℕ) → Contains (w ∷ []) v → w ≡ v
one_member w v c = elim (contains_member (w ∷ []) v c) [ inl e ↦ e | inr m ↦ absurd m ]

held_entry : (es : List GraphEntry) (d : GraphEntry) → Contains es d → Holds es d.id
held_entry es d c = member_contains (ids_of es) d.id (entry_id d es (contains_member es d c))

-- an entry that comes changes no ancestry among those before it
pub ancestor_before : (es : List GraphEntry) (e : GraphEntry) (F : List (List ℕ)) → IsHistoryGraph es → (Holds es e.id → ⊥) → HoldsAll es F → (v : List ℕ) → IsAncestor (es ++ e ∷ []) F v → IsAncestor es F v
ancestor_before es e F h new held = least (es ++ e ∷ []) F (IsAncestor es F) (λ v c. named v c) up
  where
    up : (d : GraphEntry) (v : List ℕ) → Contains (es ++ e ∷ []) d → IsAncestor es F d.id → Contains d.parents v → IsAncestor es F v
    up d v c a p = elim (Contains-push_cases es e d c) [
      | inl old ↦ parent d v old a p
      | inr is ↦ absurd (new (subst (λ (t : GraphEntry). Holds es t.id) (sym is) (ancestor_held es F h held d.id a)))
    ]

pub ancestor_more : (es : List GraphEntry) (e : GraphEntry) (F : List (List ℕ)) (v : List ℕ) → IsAncestor es F v → IsAncestor (es ++ e ∷ []) F v
ancestor_more es e F v a = same_ancestry es (es ++ e ∷ []) (λ d c. Contains-append_left es (e ∷ []) d c) F v a

-- the ancestry of an entry that comes is its own identifier and the ancestry of its parents
pub ancestor_new : (es : List GraphEntry) (e : GraphEntry) → IsHistoryGraph es → (Holds es e.id → ⊥) → (v : List ℕ) → IsAncestor (es ++ e ∷ []) (e.id ∷ []) v → (e.id ≡ v) ⊎ IsAncestor es e.parents v
ancestor_new es e h new = least (es ++ e ∷ []) (e.id ∷ []) (λ (v : List ℕ). (e.id ≡ v) ⊎ IsAncestor es e.parents v) (λ v c. inl (one_member e.id v c)) up
  where
    up : (d : GraphEntry) (v : List ℕ) → Contains (es ++ e ∷ []) d → (e.id ≡ d.id) ⊎ IsAncestor es e.parents d.id → Contains d.parents v → (e.id ≡ v) ⊎ IsAncestor es e.parents v
    up d v c a p = elim (Contains-push_cases es e d c) [
      | inl old ↦ elim a [
        | inl same ↦ absurd (new (subst (Holds es) (sym same) (held_entry es d old)))
        | inr b ↦ inr (parent d v old b p)
      ]
      | inr is ↦ inr (named v (subst (λ (t : GraphEntry). Contains t.parents v) (sym is) p))
    ]

pub ancestor_from : (es : List GraphEntry) (e : GraphEntry) (v : List ℕ) → IsAncestor es e.parents v → IsAncestor (es ++ e ∷ []) (e.id ∷ []) v
ancestor_from es e = least es e.parents (IsAncestor (es ++ e ∷ []) (e.id ∷ []))
    (λ v c. parent e v (Contains-push es e) (named e.id (member_contains (e.id ∷ []) e.id (inl refl))) c)
    (λ d v c a p. parent d v (Contains-append_left es (e ∷ []) d c) a p)

marked_within : (flags : List Bool) (n : ℕ) → IsMarked flags n → n < length flags
marked_within flags n m = elim (cases_lt n (length flags)) [
  | inl l ↦ l
  | inr g ↦ absurd (let none : get_or flags n false ≡ false = get_or-eq_default flags false g in cc)
]

-- what is kept of an entry is so when one more comes
pub known_on : (es : List GraphEntry) (e : GraphEntry) → IsHistoryGraph es → (Holds es e.id → ⊥) → (k : Known) → IsKnown es k → IsKnown (es ++ e ∷ []) k
known_on es e h new k is = record {
  id = is.id;
  number = number_kept es e is.id k.of is.number;
  size = omega (arith, is.size, length_push es e);
  exact = λ n d at. elim (at_push es e n d at) [
    | inl old ↦ (
      λ m. ancestor_more es e (is.id ∷ []) d.id ((is.exact n d old).0 m),
      λ a. (is.exact n d old).1 (ancestor_before es e (is.id ∷ []) h new held d.id a),
    )
    | inr last ↦ (
      λ m. absurd (let w = marked_within k.marks n m in omega (arith, w, is.size, last.0)),
      λ a. absurd (new (subst (λ (t : GraphEntry). Holds es t.id) (sym last.1) (ancestor_held es (is.id ∷ []) h held d.id (ancestor_before es e (is.id ∷ []) h new held d.id a)))),
    )
  ];
}
  where
    held : HoldsAll es (is.id ∷ [])
    held v c = subst (Holds es) (one_member is.id v c) (member_contains (ids_of es) is.id (member_at (ids_of es) k.of is.id is.number))

pub all_known : (es : List GraphEntry) (e : GraphEntry) (ks : List Known) → IsHistoryGraph es → (Holds es e.id → ⊥) → AreKnown es ks → AreKnown (es ++ e ∷ []) ks
all_known es e ks h new all = λ i d l. known_on es e h new (get_or ks i d) (all i d l)

-- what is kept of the newest entry, by the ancestry of its parents
pub known_new : (es : List GraphEntry) (e : GraphEntry) (past : List Bool) (k : Known) → IsHistoryGraph es → (Holds es e.id → ⊥) → MarksAncestry es e.parents past → k.of ≡ length es → length k.marks ≡ length es + 1
    → ((n : ℕ) → IsMarked k.marks n ↔ (IsMarked past n ⊎ ((length es ≤ n) × (n < length es + 1)))) → IsKnown (es ++ e ∷ []) k
known_new es e past k h new has of size marked = record {
  id = e.id;
  number = subst (IsNumberOf (es ++ e ∷ []) e.id) (sym of) (id_at (es ++ e ∷ []) (length es) e (slice_get_push es e));
  size = omega (arith, size, length_push es e);
  exact = λ n d at. elim (at_push es e n d at) [
    | inl old ↦ (
      λ m. elim ((marked n).0 m) [
        | inl b ↦ ancestor_from es e d.id ((has.exact n d old).0 b)
        | inr here ↦ absurd (let w = slice_get_within es n d old in omega (arith, w, here.0))
      ],
      λ a. (marked n).1 (elim (ancestor_new es e h new d.id a) [
        | inl same ↦ absurd (new (subst (Holds es) (sym same) (held_entry es d (member_contains es d (member_at es n d old)))))
        | inr b ↦ inl ((has.exact n d old).1 b)
      ]),
    )
    | inr last ↦ (
      λ m. subst (λ (t : GraphEntry). IsAncestor (es ++ e ∷ []) (e.id ∷ []) t.id) last.1 (named e.id (member_contains (e.id ∷ []) e.id (inl refl))),
      λ a. (marked n).1 (inr (omega (arith, last.0), omega (arith, last.0))),
    )
  ];
}

-- what is kept of the newest entry of a history
pub keep_newest : (es : List GraphEntry) (past wide : List Bool) (size : ℕ) (k : Known) → IsHistoryGraph es → MarksPast es past → size ≡ length es → k.of + 1 ≡ size → length wide ≡ size → length k.marks ≡ length wide
    → ((n : ℕ) → IsMarked wide n ↔ IsMarked past n) → ((n : ℕ) → IsMarked k.marks n ↔ (IsMarked wide n ⊎ ((k.of ≤ n) × (n < size)))) → IsKnown es k
keep_newest es past wide size k h newest all of widened added kept marked =
    subst (λ (t : List GraphEntry). IsKnown t k) (sym newest.all) (known_new newest.front newest.newest past k (front_history newest.front newest.newest h') (newest_new newest.front newest.newest h') newest.past last long exact)
  where
    h' : IsHistoryGraph (newest.front ++ newest.newest ∷ [])
    h' = subst IsHistoryGraph newest.all h

    one : length es ≡ length newest.front + 1
    one = ap (λ (t : List GraphEntry). length t) newest.all ∙ length_push newest.front newest.newest

    last : k.of ≡ length newest.front
    last = omega (arith, one, all, of)

    long : length k.marks ≡ length newest.front + 1
    long = omega (arith, one, all, widened, added)

    exact : (n : ℕ) → IsMarked k.marks n ↔ (IsMarked past n ⊎ ((length newest.front ≤ n) × (n < length newest.front + 1)))
    exact n = (
      λ m. elim ((marked n).0 m) [
        | inl b ↦ inl ((kept n).0 b)
        | inr here ↦ inr (omega (arith, here.0, last), omega (arith, here.1, one, all))
      ],
      λ m. (marked n).1 (elim m [
        | inl b ↦ inl ((kept n).1 b)
        | inr here ↦ inr (omega (arith, here.0, last), omega (arith, here.1, one, all))
      ]),
    )

one_of : (F : List (List ℕ)) (v : List ℕ) → length F ≡ 1 → slice_get F 0 ≡ Some v → v ∷ [] ≡ F
one_of [] v l at = absurd (omega arith)
one_of (w ∷ []) v l at = ap (λ (t : List ℕ). t ∷ []) (sym (same_Some w v at))
one_of (w ∷ x ∷ F) v l at = absurd (omega arith)

-- what is kept of an entry is the ancestry of its identifier
pub known_marks : (es : List GraphEntry) (F : List (List ℕ)) (k : Known) (n : ℕ) (marks : List Bool) → IsKnown es k → HoldsAll es F → length F ≡ 1 → IsMemberNumber es F 0 n → k.of ≡ n → length marks ≡ length es
    → ((m : ℕ) → IsMarked marks m ↔ IsMarked k.marks m) → MarksAncestry es F marks
known_marks es F k n marks is held one at of size kept = record {
  held = held;
  size = size;
  exact = λ m e p. subst (λ (G : List (List ℕ)). IsMarked marks m ↔ IsAncestor es G e.id) all (λ x. (is.exact m e p).0 ((kept m).0 x), λ a. (kept m).1 ((is.exact m e p).1 a));
}
  where
    same : is.id ≡ at.0
    same = same_Some is.id at.0 (sym is.number ∙ subst (λ (t : ℕ). slice_get (ids_of es) t ≡ Some at.0) (sym of) at.2)

    all : is.id ∷ [] ≡ F
    all = ap (λ (t : List ℕ). t ∷ []) same ∙ one_of F at.0 one at.1

pub some_got : {X : Type 0} (P : X → Type 0) (xs : List X) (i : ℕ) (d : X) → IsSomeAnd (slice_get xs i) P → (i < length xs) × P (get_or xs i d)
some_got P [] i d s = absurd s
some_got P (x ∷ xs) zero d s = (omega arith, s)
some_got P (x ∷ xs) (suc i) d s = let r = some_got P xs i d s in (omega (arith, r.0), r.1)

pub all_removed : {X : Type 0} (P : X → Type 0) (xs new : List X) (i : ℕ) → new ≡ remove xs i → All P xs → All P new
all_removed P xs new i e all = subst (All P) (sym e) (All-append P (take i xs) (drop (suc i) xs) (All-take P i xs all) (All-drop P (suc i) xs all))

pub all_pushed : {X : Type 0} (P : X → Type 0) (xs new : List X) (x : X) (b : Bool) → new ≡ cond b (xs ++ x ∷ []) xs → All P xs → P x → All P new
all_pushed P xs new x true e all p = subst (All P) (sym e) (All-push P xs x all p)
all_pushed P xs new x false e all p = subst (All P) (sym e) all

pub on_ok : {T E P : Type 0} (r : Result T E) → is_err r ≡ false → OnOk r P → P
on_ok (Ok x) none p = p
on_ok (Err x) none p = absurd cc
