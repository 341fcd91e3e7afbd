-- What learn and acked leave: a sound replica that lost nothing.
use Rattle.std.proofs.Common.{◌≡◌, ℕ, ◌+◌, List, [], ◌∷◌, ◌++◌, Bool, true, false, cond, nat_lt, refl, sym, ap, subst, ◌∙◌, inl, inr, ◌⊎◌, length, reverse, append_assoc, Option, Some, None, unwrap_or, option_map}
use Rattle.std.specs.List.{Contains}
use Rattle.std.specs.Ordering.{is_eq}
use Rattle.braid_ids.specs.Identifiers.{id_cmp}
use Rattle.braid_change.specs.Updates.{UpdateView}
use Rattle.braid_tree.specs.Trees.{Member}
use Rattle.braid_tree.proofs.Member.{member_append_left, member_append_right, member_append_cases}
use Rattle.braid_tree.proofs.Keys.{ids_strict, eq_true}
use Rattle.braid_rebase.proofs.Members.{member_contains, contains_member, in_log, from_log}
use Rattle.braid_text.specs.Versions.{text_in, versions_in}
use Rattle.braid_text.specs.Histories.{Follows, IsLegalLog}
use Rattle.braid_text.specs.Refusals.{needs_in, first_full, room_in, refusal_in, first_there, find_in, judge_held, same_update, first_missing}
use Rattle.braid_change.specs.Splices.{first_past}
use Rattle.braid_text.specs.declared.room.Room.{Room}
use Rattle.braid_text.specs.declared.room.Which.TheVariants.{Versions, Elements, Deletions, Width}
use Rattle.braid_text.specs.declared.accept.Accept.{Accept}
use Rattle.braid_text.specs.declared.accept.Accept.TheVariants.{New, Known, Clash, UnknownParent, OutOfRange, Full, Memory}
use Rattle.braid_text.proofs.Held.{new_in}
use Rattle.braid_text.proofs.Judged.{updates_Decide, found, not_found, follows_from}
use Rattle.braid_text.proofs.Logs.{Has, not_has, has_part, legal_between, in_back, follows_held}
use Rattle.braid_outbox.specs.declared.world.Reading.{Reading}
use Rattle.braid_outbox.specs.Replicas.{ReplicaView, IsSound, IsChained, Names, log_of}
use Rattle.braid_outbox.specs.Learns.{confirm, has_first, acked, is_first, clash, Learnt, Confirmed, Judged, learn_answer, learnt}
use Rattle.braid_outbox.specs.Worlds.{reading_after}
use Rattle.braid_outbox.proofs.Shapes.{IsProper}
use Rattle.braid_outbox.proofs.Additions.{log_parts, log_more}

pub to_log : (us : List UpdateView) (u : UpdateView) → Member u us → Member u (reverse us)
to_log us u m = in_log us u (member_contains us u m)

pub of_log : (us : List UpdateView) (u : UpdateView) → Member u (reverse us) → Member u us
of_log us u m = contains_member us u (from_log us u m)

-- newer updates have identifiers that older ones lack
pub apart : (os cs : List UpdateView) → IsLegalLog (os ++ cs) → (o : UpdateView) → Member o os → Has cs o.id → ⊥
apart [] cs legal o m h = m
apart (x ∷ os) cs legal o (inl e) h = not_has (os ++ cs) x.id (new_in (os ++ cs) x legal.0) (has_part cs (os ++ cs) (in_back os cs) x.id (subst (λ (t : UpdateView). Has cs t.id) (sym e) h))
apart (x ∷ os) cs legal o (inr m) h = apart os cs legal.1 o m h

before_it : (x : UpdateView) (os : List UpdateView) (u : UpdateView) → Names x.id os → IsChained os → Member u os → (o : UpdateView) × Member o (x ∷ os) × Contains u.parents o.id
before_it x [] u n c m = absurd m
before_it x (y ∷ os) u n c (inl e) = (x, inl refl, subst (λ (t : UpdateView). Contains t.parents x.id) e n)
before_it x (y ∷ os) u n c (inr m) = wider (before_it y os u c.0 c.1 m)
  where
    wider : (o : UpdateView) × Member o (y ∷ os) × Contains u.parents o.id → (o : UpdateView) × Member o (x ∷ y ∷ os) × Contains u.parents o.id
    wider (o, k, d) = (o, inr k, d)

-- an unsent version that is not the first has another before it, which it names
pub chained_before : (os : List UpdateView) (u : UpdateView) → IsChained os → Member u os → is_first u os ≡ false → (o : UpdateView) × Member o os × Contains u.parents o.id
chained_before [] u c m f = absurd m
chained_before (x ∷ os) u c (inl e) f = absurd (let t = (updates_Decide u x).1 (sym e) in cc)
chained_before (x ∷ os) u c (inr m) f = before_it x os u c.0 c.1 m

-- what a replica's step leaves, in which u may have been confirmed
pub record Moves (r s : ReplicaView) (u : UpdateView) : Type 0 where
  pub agent : s.agent ≡ r.agent
  pub sound : IsSound s
  pub confirmed : (x : UpdateView) → Member x s.confirmed → Member x r.confirmed ⊎ (u ≡ x)
  pub keeps : (x : UpdateView) → Member x r.confirmed → Member x s.confirmed
  pub unsent : (x : UpdateView) → Member x s.unsent → Member x r.unsent
  pub whole : (x : UpdateView) → Member x (r.confirmed ++ r.unsent) → Member x (s.confirmed ++ s.unsent)

pub stays : (r : ReplicaView) (u : UpdateView) → IsSound r → Moves r r u
stays r u sound = record { agent = refl; sound = sound; confirmed = λ x m. inl m; keeps = λ x m. m; unsent = λ x m. m; whole = λ x m. m }

pub confirms : (r : ReplicaView) (u : UpdateView) (os : List UpdateView) → r.unsent ≡ u ∷ os → IsSound r → Moves r (confirm r (u ∷ os)) u
confirms r u os e sound = record {
  agent = refl;
  sound = record { legal = subst IsLegalLog (ap reverse (sym same)) sound.legal; chained = (subst IsChained e sound.chained).1 };
  confirmed = λ x m. elim (member_append_cases x r.confirmed (u ∷ []) m) [ inl a ↦ inl a | inr (inl f) ↦ inr f | inr (inr n) ↦ absurd n ];
  keeps = λ x m. member_append_left x r.confirmed (u ∷ []) m;
  unsent = λ x m. subst (Member x) (sym e) (inr m);
  whole = λ x m. subst (Member x) (sym same) m;
}
  where
    same : (r.confirmed ++ u ∷ []) ++ os ≡ r.confirmed ++ r.unsent
    same = append_assoc r.confirmed (u ∷ []) os ∙ ap (λ t. r.confirmed ++ t) (sym e)

-- a new update goes between the confirmed and the unsent ones
pub learns_new : (r : ReplicaView) (u : UpdateView) → IsSound r → IsProper u → is_first u r.unsent ≡ false → clash u (find_in u.id r.unsent) ≡ None → refusal_in (reverse r.confirmed) u ≡ None
    → Moves r (record { agent = r.agent; confirmed = r.confirmed ++ u ∷ []; unsent = r.unsent }) u
learns_new r u sound built other no_clash fits = record {
  agent = refl;
  sound = record { legal = subst IsLegalLog (sym order) (legal_between (reverse r.unsent) (reverse r.confirmed) u legal follows new); chained = sound.chained };
  confirmed = λ x m. elim (member_append_cases x r.confirmed (u ∷ []) m) [ inl a ↦ inl a | inr (inl f) ↦ inr f | inr (inr n) ↦ absurd n ];
  keeps = λ x m. member_append_left x r.confirmed (u ∷ []) m;
  unsent = λ x m. m;
  whole = λ x m. elim (member_append_cases x r.confirmed r.unsent m) [
    | inl a ↦ member_append_left x (r.confirmed ++ u ∷ []) r.unsent (member_append_left x r.confirmed (u ∷ []) a)
    | inr b ↦ member_append_right x (r.confirmed ++ u ∷ []) r.unsent b
  ];
}
  where
    legal : IsLegalLog (reverse r.unsent ++ reverse r.confirmed)
    legal = subst IsLegalLog (log_parts r.confirmed r.unsent) sound.legal

    follows : Follows (reverse r.confirmed) u
    follows = follows_from (reverse r.confirmed) u fits built.named built.rising built.built

    order : reverse ((r.confirmed ++ u ∷ []) ++ r.unsent) ≡ reverse r.unsent ++ u ∷ reverse r.confirmed
    order = log_parts (r.confirmed ++ u ∷ []) r.unsent ∙ ap (λ t. reverse r.unsent ++ t) (log_more r.confirmed u)

    not_there : Member u r.unsent → ⊥
    not_there m = go (chained_before r.unsent u sound.chained m other)
      where
        go : (o : UpdateView) × Member o r.unsent × Contains u.parents o.id → ⊥
        go (o, k, d) = apart (reverse r.unsent) (reverse r.confirmed) legal o (to_log r.unsent o k) (follows_held (reverse r.confirmed) u follows o.id (contains_member u.parents o.id d))

    not_unsent : Has r.unsent u.id → ⊥
    not_unsent h = go (find_in u.id r.unsent) refl no_clash
      where
        go : (o : Option UpdateView) → find_in u.id r.unsent ≡ o → clash u o ≡ None → ⊥
        go None e c = not_found u.id r.unsent e h
        go (Some w) e c = by (same_update u w) refl c
          where
            by : (b : Bool) → same_update u w ≡ b → cond b None (Some (Clash u.id)) ≡ None → ⊥
            by true t c = not_there (subst (λ (x : UpdateView). Member x r.unsent) (sym ((updates_Decide u w).0 t)) (found u.id r.unsent w e).0)
            by false t c = cc

    new : Has (reverse r.unsent ++ reverse r.confirmed) u.id → ⊥
    new (w, m, e) = elim (member_append_cases w (reverse r.unsent) (reverse r.confirmed) m) [
      | inl a ↦ not_unsent (w, of_log r.unsent w a, e)
      | inr b ↦ not_has (reverse r.confirmed) u.id (new_in (reverse r.confirmed) u follows) (w, b, e)
    ]

-- a refusal that is neither New nor Known
abbrev pub IsRefused : Accept → Type 0
IsRefused New = ⊥
IsRefused Known = ⊥
IsRefused (Clash v) = Unit {0}
IsRefused (UnknownParent v) = Unit {0}
IsRefused (OutOfRange n len) = Unit {0}
IsRefused (Full which need room) = Unit {0}
IsRefused Memory = Unit {0}

some_first : (a b : Option Accept) (c : Accept) → first_there a b ≡ Some c → (a ≡ Some c) ⊎ (b ≡ Some c)
some_first (Some x) b c h = inl h
some_first None b c h = inr h

map_refused : {A : Type 0} (f : A → Accept) (o : Option A) (a : Accept) → ((x : A) → IsRefused (f x)) → option_map f o ≡ Some a → IsRefused a
map_refused f (Some x) a h e = let g : f x ≡ a = cc in subst IsRefused g (h x)
map_refused f None a h e = cc

-- Known is answered to an update that is there; every other answer is a refusal
pub refusal_cases : (us : List UpdateView) (u : UpdateView) (a : Accept) → refusal_in us u ≡ Some a → ((a ≡ Known) × Member u us) ⊎ IsRefused a
refusal_cases us u a h = elim (some_first (judge_held u (find_in u.id us)) (first_there parents_part range_part) a h) [
  | inl e ↦ go (find_in u.id us) refl e
  | inr e ↦ inr (elim (some_first parents_part range_part a e) [
    | inl f ↦ map_refused UnknownParent (first_missing u.parents us) a (λ x. tt) f
    | inr f ↦ map_refused (λ (n : ℕ). OutOfRange n (length t)) (first_past t u.change) a (λ x. tt) f
  ])
]
  where
    t : List ℕ
    t = text_in (versions_in us) u.parents

    parents_part : Option Accept
    parents_part = option_map UnknownParent (first_missing u.parents us)

    range_part : Option Accept
    range_part = option_map (λ (n : ℕ). OutOfRange n (length t)) (first_past t u.change)

    go : (o : Option UpdateView) → find_in u.id us ≡ o → judge_held u o ≡ Some a → ((a ≡ Known) × Member u us) ⊎ IsRefused a
    go None e f = cc
    go (Some w) e f = by (same_update u w) refl f
      where
        by : (b : Bool) → same_update u w ≡ b → Some (cond b Known (Clash u.id)) ≡ Some a → ((a ≡ Known) × Member u us) ⊎ IsRefused a
        by true s f = inl (cc, subst (λ (x : UpdateView). Member x us) (sym ((updates_Decide u w).0 s)) (found u.id us w e).0)
        by false s f = inr (let g : Clash u.id ≡ a = cc in subst IsRefused g tt)

abbrev pub IsFull : Accept → Type 0
IsFull New = ⊥
IsFull Known = ⊥
IsFull (Clash v) = ⊥
IsFull (UnknownParent v) = ⊥
IsFull (OutOfRange n len) = ⊥
IsFull (Full which need room) = Unit {0}
IsFull Memory = ⊥

pub over_full : (need room : Room) (a : Accept) → first_full need room ≡ Some a → IsFull a
over_full need room a h = go (nat_lt room.versions need.versions) (nat_lt room.elements need.elements) (nat_lt room.deletions need.deletions) (nat_lt room.width need.width) h
  where
    go : (p q s t : Bool) → cond p (Some (Full Versions need.versions room.versions)) (cond q (Some (Full Elements need.elements room.elements)) (cond s (Some (Full Deletions need.deletions room.deletions)) (cond t (Some (Full Width need.width room.width)) None))) ≡ Some a → IsFull a
    go true q s t h = let e : Full Versions need.versions room.versions ≡ a = cc in subst IsFull e tt
    go false true s t h = let e : Full Elements need.elements room.elements ≡ a = cc in subst IsFull e tt
    go false false true t h = let e : Full Deletions need.deletions room.deletions ≡ a = cc in subst IsFull e tt
    go false false false true h = let e : Full Width need.width room.width ≡ a = cc in subst IsFull e tt
    go false false false false h = cc

-- what an answer of learn comes with
pub record Learns (r : ReplicaView) (u : UpdateView) (a : Learnt) : Type 0 where
  pub moves : Moves r (learnt r u a) u
  pub carried : (rd next : Reading) → reading_after rd a ≡ Some next → (next.from ≡ rd.from) × (next.position ≡ rd.position + 1) × Member u (learnt r u a).confirmed

next_one : (rd next : Reading) (P : Type 0) → P → Some (record { from = rd.from; position = rd.position + 1 }) ≡ Some next → (next.from ≡ rd.from) × (next.position ≡ rd.position + 1) × P
next_one rd next P p e = let f : (record { from = rd.from; position = rd.position + 1 }) ≡ next = cc in (ap (λ (x : Reading). x.from) (sym f), ap (λ (x : Reading). x.position) (sym f), p)

refused : (r : ReplicaView) (u : UpdateView) (a : Accept) → IsSound r → IsRefused a → Learns r u (Judged a)
refused r u New sound h = absurd h
refused r u Known sound h = absurd h
refused r u (Clash v) sound h = record { moves = stays r u sound; carried = λ rd next e. cc }
refused r u (UnknownParent v) sound h = record { moves = stays r u sound; carried = λ rd next e. cc }
refused r u (OutOfRange n len) sound h = record { moves = stays r u sound; carried = λ rd next e. cc }
refused r u (Full which need room) sound h = record { moves = stays r u sound; carried = λ rd next e. cc }
refused r u Memory sound h = record { moves = stays r u sound; carried = λ rd next e. cc }

full_refused : (a : Accept) → IsFull a → IsRefused a
full_refused New h = h
full_refused Known h = h
full_refused (Clash v) h = tt
full_refused (UnknownParent v) h = tt
full_refused (OutOfRange n len) h = tt
full_refused (Full which need room) h = tt
full_refused Memory h = absurd h

clash_refused : (u : UpdateView) (o : Option UpdateView) (a : Accept) → clash u o ≡ Some a → IsRefused a
clash_refused u None a h = cc
clash_refused u (Some w) a h = go (same_update u w) h
  where
    go : (b : Bool) → cond b None (Some (Clash u.id)) ≡ Some a → IsRefused a
    go true h = cc
    go false h = let e : Clash u.id ≡ a = cc in subst IsRefused e tt

-- whatever is given, learn keeps a replica sound and loses nothing
pub learn_moves : (limits : Room) (r : ReplicaView) (u : UpdateView) → IsSound r → IsProper u → Learns r u (learn_answer limits r u)
learn_moves limits r u sound built = go (is_first u r.unsent) refl
  where
    D : Option Accept
    D = first_full (needs_in (log_of r) u) (room_in limits (log_of r))

    head : (os : List UpdateView) → r.unsent ≡ os → is_first u os ≡ true → Moves r (confirm r os) u × Member u (confirm r os).confirmed
    head [] e h = cc
    head (x ∷ os) e h = let same : u ≡ x = (updates_Decide u x).0 h in
        (subst (λ (t : UpdateView). Moves r (confirm r (x ∷ os)) t) (sym same) (confirms r x os e sound), member_append_right u r.confirmed (x ∷ []) (inl (sym same)))

    rest : (a b d : Option Accept) → clash u (find_in u.id r.unsent) ≡ a → refusal_in (reverse r.confirmed) u ≡ b → D ≡ d → is_first u r.unsent ≡ false → Learns r u (Judged (unwrap_or (first_there a (first_there b d)) New))
    rest (Some x) b d e f g h = refused r u x sound (clash_refused u (find_in u.id r.unsent) x e)
    rest None (Some x) d e f g h = elim (refusal_cases (reverse r.confirmed) u x f) [
      | inl (k, m) ↦ subst (λ (t : Accept). Learns r u (Judged t)) (sym k) record { moves = stays r u sound; carried = λ rd next e. next_one rd next (Member u r.confirmed) (of_log r.confirmed u m) e }
      | inr k ↦ refused r u x sound k
    ]
    rest None None (Some x) e f g h = refused r u x sound (full_refused x (over_full (needs_in (log_of r) u) (room_in limits (log_of r)) x g))
    rest None None None e f g h = record {
      moves = learns_new r u sound built h e f;
      carried = λ rd next k. next_one rd next (Member u (r.confirmed ++ u ∷ [])) (member_append_right u r.confirmed (u ∷ []) (inl refl)) k;
    }

    go : (b : Bool) → is_first u r.unsent ≡ b → Learns r u (cond b Confirmed (Judged (unwrap_or (first_there (clash u (find_in u.id r.unsent)) (first_there (refusal_in (reverse r.confirmed) u) D)) New)))
    go true e = let k = head r.unsent refl e in record { moves = k.0; carried = λ rd next f. next_one rd next (Member u (confirm r r.unsent).confirmed) k.1 f }
    go false e = rest (clash u (find_in u.id r.unsent)) (refusal_in (reverse r.confirmed) u) D refl refl refl e

-- an acknowledgement moves the first unsent version, or nothing
pub acked_cases : (v : List ℕ) (r : ReplicaView) → IsSound r → ((u : UpdateView) × Member u r.unsent × (u.id ≡ v) × Moves r (acked v r) u) ⊎ (acked v r ≡ r)
acked_cases v r sound = go r.unsent refl
  where
    go : (os : List UpdateView) → r.unsent ≡ os → ((x : UpdateView) × Member x r.unsent × (x.id ≡ v) × Moves r (cond (has_first v os) (confirm r os) r) x) ⊎ (cond (has_first v os) (confirm r os) r ≡ r)
    go [] e = inr refl
    go (u ∷ os) e = by (is_eq (id_cmp v u.id)) refl
      where
        by : (b : Bool) → is_eq (id_cmp v u.id) ≡ b → ((x : UpdateView) × Member x r.unsent × (x.id ≡ v) × Moves r (cond b (confirm r (u ∷ os)) r) x) ⊎ (cond b (confirm r (u ∷ os)) r ≡ r)
        by true t = inl (u, subst (Member u) (sym e) (inl refl), sym (eq_true id_cmp ids_strict v u.id t), confirms r u os e sound)
        by false t = inr refl
