-- Whatever is spelled can be built.
use Rattle.std.proofs.Common.{◌≡◌, ℕ, ◌+◌, false, List, [], ◌∷◌, refl, sym, ◌∙◌, arith, ltb, Some, None}
use Rattle.std.proofs.lemmas.Bool.{le-ltb}
use Rattle.std.specs.List.{position_from}
use Rattle.braid_change.specs.declared.patch.Patch.{Patch}
use Rattle.braid_change.specs.declared.change.Change.{Change}
use Rattle.braid_change.specs.declared.update.BuildFault.{BuildFault}
use Rattle.braid_change.specs.declared.update.BuildFault.TheVariants.{TooManyParents, TooManyPatches, Backwards, Overlap, TooLong}
use Rattle.braid_change.specs.Changes.{patches_of, AreListed, is_backwards, do_overlap, neighbours, first_backwards}
use Rattle.braid_change.specs.Updates.{UpdateView, IsBuilt, IsBuildFault}
use Rattle.braid_frame.specs.Steps.{Completed}
use Rattle.braid_frame.proofs.Stood.{next, completed_spelled}
use Rattle.braid_grammar.proofs.OneUpdate.{spelled_is_update}

none_backwards : (ps : List Patch) (low k : ℕ) → AreListed low ps → position_from is_backwards k ps ≡ None
none_backwards [] low k h = refl
none_backwards (p ∷ ps) low k h =
    let e : ltb p.end p.start ≡ false = le-ltb p.end p.start h.1 in
    rw e (none_backwards ps p.end (k + 1) h.2)

none_overlap : (ps : List Patch) (low k : ℕ) → AreListed low ps → position_from do_overlap k (neighbours ps) ≡ None
none_overlap [] low k h = refl
none_overlap (p ∷ []) low k h = refl
none_overlap (p ∷ q ∷ ps) low k h =
    let e : ltb q.start p.end ≡ false = le-ltb q.start p.end h.2.0 in
    rw e (none_overlap (q ∷ ps) p.end (k + 1) h.2)

-- parts of an update are refused for nothing
pub build_never : (parents : List (List ℕ)) (change : Change) (fault : BuildFault) → IsBuilt parents change → IsBuildFault parents change fault → ⊥
build_never parents change (TooManyParents n) b f = omega (arith, b.few_parents, f.0)
build_never parents change (TooManyPatches n) b f = omega (arith, b.shaped.few, f.1)
build_never parents change (Backwards n) b f =
    let none : first_backwards (patches_of change) ≡ None = none_backwards (patches_of change) 0 0 b.shaped.listed in
    let both : Some n ≡ None = sym f.2 ∙ none in
    cc
build_never parents change (Overlap n) b f =
    let none : position_from do_overlap 0 (neighbours (patches_of change)) ≡ None = none_overlap (patches_of change) 0 0 b.shaped.listed in
    let both : Some n ≡ None = sym f.3 ∙ rw none refl in
    cc
build_never parents change (TooLong bytes) b f = omega (arith, b.shaped.short, f.4)

-- an update that is whole can be built
pub completed_built : (us : List UpdateView) (u : UpdateView) (at : ℕ) (b : List ℕ) → Completed us u at b → IsBuilt u.parents u.change
completed_built us u at b c = (spelled_is_update u (next us u at b c).first (completed_spelled us u at b c)).built
