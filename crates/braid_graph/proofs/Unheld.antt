-- The least identifier that no entry has, of more and more identifiers.
use Rattle.std.proofs.Common.{◌≡◌, ◌≢◌, ℕ, ◌+◌, ◌≤◌, List, [], ◌∷◌, ◌++◌, Bool, true, false, cond, length, take, slice_get, Bor, Option, Some, None, is_some, not, IfNone, IfSome, refl, sym, ap, subst, ◌∙◌, inl, inr, Less, Equal, Greater, Ordering}
use Rattle.std.specs.Option.{option_copied}
use Rattle.std.specs.Ordering.{is_lt, ordering_reverse}
use Rattle.std.proofs.lemmas.Cmp.{nat_list_cmp_total}
use Rattle.std.proofs.lemmas.List.{take_all}
use Rattle.std.proofs.lemmas.List.Elements.{Contains-append_left, Contains-append_right, Contains-append_cases}
use Rattle.braid_ids.specs.Identifiers.{id_cmp}
use Rattle.braid_graph.specs.Entries.{GraphEntry, ids_of, Holds, HoldsAll}
use Rattle.braid_graph.specs.Ancestries.{IsLeastUnheld}
use Rattle.braid_graph.specs.Inside.{IsLeastOf, lesser_of}
use Rattle.braid_ids.proofs.Members.{contains_member, member_contains, member_at}
use Rattle.braid_ids.proofs.Ids.{id_same, id_itself}
use Rattle.braid_graph.proofs.Kept.{take_next}

-- what is not below another is not above what the other is not above
not_above : (u v w : List ℕ) → (id_cmp u v ≡ Less → ⊥) → id_cmp u w ≢ Greater → id_cmp v w ≢ Greater
not_above u v w unless first above = go (id_cmp u w) refl
  where
    below : id_cmp w v ≡ Less
    below = nat_list_cmp_total.antisymm w v ∙ ap ordering_reverse above

    go : (o : Ordering) → id_cmp u w ≡ o → ⊥
    go Less e = unless (nat_list_cmp_total.trans u w v e below)
    go Equal e = unless (subst (λ (t : List ℕ). id_cmp t v ≡ Less) (sym (id_same u w e)) below)
    go Greater e = first e

module _ (es : List GraphEntry) (F G : List (List ℕ)) where
  -- nothing of G is missing
  pub least_held : (r : Option (List ℕ)) → IsLeastOf es F r → HoldsAll es G → IsLeastOf es (F ++ G) r
  least_held None all held = λ v c. elim (Contains-append_cases F G v c) [ inl a ↦ all v a | inr b ↦ held v b ]
  least_held (Some u) is held = record {
    named = Contains-append_left F G u is.named;
    unheld = is.unheld;
    least = λ w c not_held. elim (Contains-append_cases F G w c) [ inl a ↦ is.least w a not_held | inr b ↦ absurd (not_held (held w b)) ];
  }

  -- v is the least of G that is missing
  pub least_lesser : (r : Option (List ℕ)) (v : List ℕ) → IsLeastOf es F r → IsLeastUnheld es G v → IsLeastUnheld es (F ++ G) (lesser_of r v)
  least_lesser None v all is = record {
    named = Contains-append_right F G v is.named;
    unheld = is.unheld;
    least = λ w c not_held. elim (Contains-append_cases F G w c) [ inl a ↦ absurd (not_held (all w a)) | inr b ↦ is.least w b not_held ];
  }
  least_lesser (Some u) v own is = go (id_cmp u v) refl
    where
      behind : (id_cmp u v ≡ Less → ⊥) → IsLeastUnheld es (F ++ G) v
      behind unless = record {
        named = Contains-append_right F G v is.named;
        unheld = is.unheld;
        least = λ w c not_held. elim (Contains-append_cases F G w c) [
          | inl a ↦ not_above u v w unless (own.least w a not_held)
          | inr b ↦ is.least w b not_held
        ];
      }

      go : (o : Ordering) → id_cmp u v ≡ o → IsLeastUnheld es (F ++ G) (cond (is_lt (id_cmp u v)) u v)
      go Less e = subst (λ (o : Ordering). IsLeastUnheld es (F ++ G) (cond (is_lt o) u v)) (sym e) (record {
        named = Contains-append_left F G u own.named;
        unheld = own.unheld;
        least = λ w c not_held. elim (Contains-append_cases F G w c) [
          | inl a ↦ own.least w a not_held
          | inr b ↦ not_above v u w (λ back. let f = nat_list_cmp_total.antisymm v u ∙ ap ordering_reverse e in cc) (is.least w b not_held)
        ];
      })
      go Equal e = subst (λ (o : Ordering). IsLeastUnheld es (F ++ G) (cond (is_lt o) u v)) (sym e) (behind (λ back. cc))
      go Greater e = subst (λ (o : Ordering). IsLeastUnheld es (F ++ G) (cond (is_lt o) u v)) (sym e) (behind (λ back. cc))

pub least_next_held : (es : List GraphEntry) (F : List (List ℕ)) (i : ℕ) (id : List ℕ) (r : Option (List ℕ)) → IsLeastOf es (take i F) r → slice_get F i ≡ Some id → Holds es id → IsLeastOf es (take (i + 1) F) r
least_next_held es F i id r so_far at held =
    subst (λ (t : List (List ℕ)). IsLeastOf es t r) (sym (take_next F i id at)) (least_held es (take i F) (id ∷ []) r so_far (λ v c. elim (contains_member (id ∷ []) v c) [ inl same ↦ subst (Holds es) same held | inr m ↦ absurd m ]))

pub least_next : (es : List GraphEntry) (F : List (List ℕ)) (i : ℕ) (id : List ℕ) (r : Option (List ℕ)) → IsLeastOf es (take i F) r → slice_get F i ≡ Some id → (Holds es id → ⊥) → IsLeastUnheld es (take (i + 1) F) (lesser_of r id)
least_next es F i id r so_far at not_held =
    subst (λ (t : List (List ℕ)). IsLeastUnheld es t (lesser_of r id)) (sym (take_next F i id at)) (least_lesser es (take i F) (id ∷ []) r id so_far (record {
      named = member_contains (id ∷ []) id (inl refl);
      unheld = not_held;
      least = λ w c other. elim (contains_member (id ∷ []) w c) [ inl same ↦ subst (λ (t : List ℕ). id_cmp id t ≢ Greater) same (λ above. let e = id_itself id in cc) | inr m ↦ absurd m ];
    }))

pub least_all : (es : List GraphEntry) (F : List (List ℕ)) (i : ℕ) (r : Option (List ℕ)) → length F ≤ i → IsLeastOf es (take i F) r → IsLeastOf es F r
least_all es F i r l so_far = subst (λ (t : List (List ℕ)). IsLeastOf es t r) (take_all i F l) so_far

pub not_held_from : (es : List GraphEntry) (v : List ℕ) (r : Option ℕ) (missing : Bool) → is_some r ≡ not missing → missing ≡ true → IfNone r (Holds es v → ⊥) → Holds es v → ⊥
not_held_from es v None missing e t h = h
not_held_from es v (Some n) missing e t h = let f : not missing ≡ false = ap not t in cc

pub held_from : (es : List GraphEntry) (v : List ℕ) (r : Option ℕ) (missing : Bool) → is_some r ≡ not missing → missing ≡ false → IfSome r (λ (n : ℕ). slice_get (ids_of es) n ≡ Some v) → Holds es v
held_from es v None missing e t h = let f : not missing ≡ true = ap not t in cc
held_from es v (Some n) missing e t h = member_contains (ids_of es) v (member_at (ids_of es) n v h)

-- an answer with the least that is missing, or none where nothing is
pub least_of : (es : List GraphEntry) (F : List (List ℕ)) (r : Option (Bor (List ℕ))) → IfSome r (λ (id : Bor (List ℕ)). IsLeastUnheld es F id.now) → IfNone r (HoldsAll es F) → IsLeastOf es F (option_copied r)
least_of es F None found none = none
least_of es F (Some id) found none = found

pub least_found : (es : List GraphEntry) (F : List (List ℕ)) (r : Option (Bor (List ℕ))) → IsLeastOf es F (option_copied r) → IfSome r (λ (id : Bor (List ℕ)). IsLeastUnheld es F id.now)
least_found es F None is = tt
least_found es F (Some id) is = is

pub none_unheld : (es : List GraphEntry) (F : List (List ℕ)) (r : Option (Bor (List ℕ))) → IsLeastOf es F (option_copied r) → IfNone r (HoldsAll es F)
none_unheld es F None is = is
none_unheld es F (Some id) is = tt
