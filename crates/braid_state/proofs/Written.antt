-- What was put at the end of a text.
use Rattle.std.proofs.Common.{◌≡◌, ℕ, ◌+◌, ◌<◌, List, [], ◌∷◌, ◌++◌, length, take, get_or, flat_map, sym, ap, ◌∙◌, subst, append_assoc}
use Rattle.std.proofs.lemmas.List.{append-nil, take_more}
use Rattle.std.proofs.lemmas.Grind.{flat_map-append}
use Rattle.std.specs.List.{AllByRecursion}
use Rattle.braid_change.specs.Updates.{UpdateView, IsUpdate}
use Rattle.braid_change.specs.Spellings.{canonical, canonical_all}
use Rattle.braid_state.specs.declared.line.Line.{Line}
use Rattle.braid_state.specs.declared.state.State.{State}
use Rattle.braid_state.specs.Heads.{Head, head_lines, name_of, value_of, line_of}
use Rattle.braid_state.specs.States.{head_of, end_mark, state_text}

-- one line more
pub line_put : (lines : List Line) (line : Line) (head : Head) (out mid new value : List ℕ) → mid ≡ out ++ flat_map (line_of head) lines → value ≡ value_of head line → new ≡ mid ++ (name_of line ++ (value ++ 10 ∷ [])) → new ≡ out ++ flat_map (line_of head) (lines ++ line ∷ [])
line_put lines line head out mid new value e f g =
    g ∙ ap (λ t. mid ++ (name_of line ++ (t ++ 10 ∷ []))) f ∙ ap (λ t. t ++ line_of head line) e ∙ append_assoc out (flat_map (line_of head) lines) (line_of head line)
    ∙ ap (λ t. out ++ (flat_map (line_of head) lines ++ t)) (sym (append-nil (line_of head line))) ∙ ap (λ t. out ++ t) (sym (flat_map-append (line_of head) lines (line ∷ [])))

-- one update more
pub update_put : (us : List UpdateView) (i : ℕ) (u d : UpdateView) (out mid new spelling : List ℕ) → i < length us → u ≡ get_or us i d → mid ≡ out ++ canonical_all (take i us) → spelling ≡ canonical u → new ≡ mid ++ spelling → new ≡ out ++ canonical_all (take (i + 1) us)
update_put us i u d out mid new spelling l e f g h =
    h ∙ ap (λ t. mid ++ t) (g ∙ ap canonical e ∙ sym (append-nil (canonical (get_or us i d)))) ∙ ap (λ t. t ++ canonical_all (get_or us i d ∷ [])) f
    ∙ append_assoc out (canonical_all (take i us)) (canonical_all (get_or us i d ∷ [])) ∙ ap (λ t. out ++ t) (sym (flat_map-append canonical (take i us) (get_or us i d ∷ []))) ∙ ap (λ t. out ++ canonical_all t) (sym (take_more us i d l))

all_join : (us vs : List UpdateView) → AllByRecursion IsUpdate us → AllByRecursion IsUpdate vs → AllByRecursion IsUpdate (us ++ vs)
all_join [] vs h k = k
all_join (u ∷ us) vs h k = (h.0, all_join us vs h.1 k)

pub valid_more : (us : List UpdateView) (i : ℕ) (u d : UpdateView) → i < length us → u ≡ get_or us i d → AllByRecursion IsUpdate (take i us) → IsUpdate u → AllByRecursion IsUpdate (take (i + 1) us)
valid_more us i u d l e h k = subst (AllByRecursion IsUpdate) (sym (take_more us i d l)) (all_join (take i us) (get_or us i d ∷ []) h (subst IsUpdate e k, tt))

-- the whole text
pub text_put : (s : State) (start head first second text : List ℕ) (us vs : List UpdateView) → start ≡ [] → us ≡ s.confirmed → vs ≡ s.unsent → head ≡ start ++ flat_map (line_of (head_of s)) head_lines → first ≡ head ++ canonical_all us → second ≡ first ++ canonical_all vs
    → text ≡ second ++ end_mark → text ≡ state_text s
text_put s start head first second text us vs e c u h f g k =
    let lines = flat_map (line_of (head_of s)) head_lines in
    let begun : head ≡ lines = h ∙ ap (λ t. t ++ lines) e in
    let confirmed : first ≡ lines ++ canonical_all s.confirmed = f ∙ ap (λ t. t ++ canonical_all us) begun ∙ ap (λ t. lines ++ canonical_all t) c in
    let unsent : second ≡ (lines ++ canonical_all s.confirmed) ++ canonical_all s.unsent = g ∙ ap (λ t. t ++ canonical_all vs) confirmed ∙ ap (λ t. (lines ++ canonical_all s.confirmed) ++ canonical_all t) u in
    k ∙ ap (λ t. t ++ end_mark) unsent ∙ append_assoc (lines ++ canonical_all s.confirmed) (canonical_all s.unsent) end_mark ∙ append_assoc lines (canonical_all s.confirmed) (canonical_all s.unsent ++ end_mark)
