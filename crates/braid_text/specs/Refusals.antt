-- The answer to an update of updates that stand newest first, and what the update needs. `Answers` says it of histories.
use Rattle.std.specs.Prelude.{ℕ, ◌-◌, ◌==◌, nat_eq, nat_lt, List, [], ◌∷◌, length, Bool, false, ◌&&◌, if◌then◌else◌, Option, Some, None, unwrap_or}
use Rattle.std.specs.Option.{option_map}
use Rattle.std.specs.Ordering.{is_eq}
use Rattle.std.specs.Cmp.Lexicographic.{pointwise}
use Rattle.braid_ids.specs.Identifiers.{id_cmp}
use Rattle.braid_change.specs.declared.patch.Patch.{Patch}
use Rattle.braid_change.specs.declared.change.Change.{Change}
use Rattle.braid_change.specs.declared.change.Change.TheVariants.{Body, Patches}
use Rattle.braid_change.specs.Updates.{UpdateView}
use Rattle.braid_change.specs.Splices.{first_past}
use Rattle.braid_graph.specs.Frontiers.{frontier_of}
use Rattle.braid_text.specs.Versions.{has_version, text_in, version_in, versions_in, elements_in, deletions_in}
use Rattle.braid_text.specs.Histories.{graph_of}
use Rattle.braid_text.specs.declared.room.Room.{Room}
use Rattle.braid_text.specs.declared.room.Which.TheVariants.{Versions, Elements, Deletions, Width}
use Rattle.braid_text.specs.declared.accept.Accept.{Accept}
use Rattle.braid_text.specs.declared.accept.Accept.TheVariants.{New, Known, Clash, UnknownParent, OutOfRange, Full}

-- whether two patches are the same
abbrev pub same_patch : Patch → Patch → Bool
same_patch p q = p.start == q.start && (p.end == q.end && pointwise nat_eq p.text q.text)

-- whether two changes are the same, patches as listed
abbrev pub same_change : Change → Change → Bool
same_change (Body x) (Body y) = pointwise nat_eq x y
same_change (Body x) (Patches qs) = false
same_change (Patches ps) (Body y) = false
same_change (Patches ps) (Patches qs) = pointwise same_patch ps qs

-- whether two updates are the same
abbrev pub same_update : UpdateView → UpdateView → Bool
same_update u w =
    pointwise nat_eq u.id w.id && (pointwise (pointwise nat_eq) u.parents w.parents && same_change u.change w.change)

-- the update with an identifier
abbrev pub find_in : List ℕ → List UpdateView → Option UpdateView
find_in v [] = None
find_in v (u ∷ us) = if is_eq (id_cmp v u.id) then Some u else find_in v us

-- the first of these identifiers that no update has; of rising ones it is the least
abbrev pub first_missing : List (List ℕ) → List UpdateView → Option (List ℕ)
first_missing [] us = None
first_missing (p ∷ ps) us = if has_version p (versions_in us) then first_missing ps us else Some p

-- what an update needs: one version, its elements and its deletions; the width is that of the whole frontier afterwards
abbrev pub needs_in : List UpdateView → UpdateView → Room
needs_in us u =
    let v = version_in u (versions_in us) in
    record {
      versions = 1;
      elements = length v.nodes;
      deletions = length v.deleted;
      width =
          length (frontier_of (graph_of (u ∷ us)));
    }

-- the first count, in the order of `Which`, of which more is needed than there is room
abbrev pub first_full : Room → Room → Option Accept
first_full need room =
    if nat_lt room.versions need.versions then Some (Full Versions need.versions room.versions) else
    (if nat_lt room.elements need.elements then Some (Full Elements need.elements room.elements) else
    (if nat_lt room.deletions need.deletions then Some (Full Deletions need.deletions room.deletions) else
    (if nat_lt room.width need.width then Some (Full Width need.width room.width) else None)))

-- what limits leave beside updates; the width is not divided
abbrev pub room_in : Room → List UpdateView → Room
room_in limits us = record {
  versions = limits.versions - length us;
  elements = limits.elements - length (elements_in (versions_in us));
  deletions = limits.deletions - length (deletions_in (versions_in us));
  width = limits.width;
}

-- the first of two answers that is there
abbrev pub first_there : Option Accept → Option Accept → Option Accept
first_there (Some a) b = Some a
first_there None b = b

-- the answer where an update with the identifier is held
abbrev pub judge_held : UpdateView → Option UpdateView → Option Accept
judge_held u (Some w) = Some (if same_update u w then Known else Clash u.id)
judge_held u None = None

-- Known, Clash, UnknownParent or OutOfRange, in this order; none where the update may follow
abbrev pub refusal_in : List UpdateView → UpdateView → Option Accept
refusal_in us u =
    let t = text_in (versions_in us) u.parents in
    first_there (judge_held u (find_in u.id us))
    (first_there (option_map UnknownParent (first_missing u.parents us))
    (option_map (λ (n : ℕ). OutOfRange n (length t)) (first_past t u.change)))

-- the answer: the first refusal, then the first count that is over, then New
abbrev pub answer_in : Room → List UpdateView → UpdateView → Accept
answer_in room us u = unwrap_or (first_there (refusal_in us u) (first_full (needs_in us u) room)) New
