-- The walk over runs: what the fronts of runs have, step by step.
use Rattle.std.proofs.Common.{◌≡◌, ◌↔◌, ℕ, ◌+◌, ◌-◌, ◌<◌, ◌≤◌, List, [], ◌∷◌, ◌++◌, Bool, length, max, take, slice_get, Some, None, zero, suc, arith, refl, sym, ap, subst, ◌∙◌, inl, inr, ◌⊎◌}
use Rattle.std.proofs.Math.ListN.{set}
use Rattle.std.specs.Prelude.{Result, Ok, Err, IfOk}
use Rattle.std.specs.List.{Contains}
use Rattle.std.proofs.lemmas.Bool.{cases_eq, cases_lt}
use Rattle.std.proofs.lemmas.Option.{same_Some, slice_get_within}
use Rattle.std.proofs.Common.{length-set}
use Rattle.std.proofs.lemmas.List.Elements.{Contains-append_left, Contains-push, Contains-push_cases}
use Rattle.braid_ids.specs.MarkSets.{IsMarked}
use Rattle.braid_ids.proofs.Members.{contains_member, member_contains, member_at, place_of}
use Rattle.braid_graph.specs.Entries.{GraphEntry, HoldsAll, IsHistoryGraph}
use Rattle.braid_graph.specs.Ancestries.{IsAncestor, named, parent, MarksAncestry}
use Rattle.braid_graph.specs.Runs.{starts_of, runs_of}
use Rattle.braid_graph.specs.Inside.{IsNumberOf, IsParentNumber, IsRunOf, IsBehind, Reaches, ReachesMore, AreEnds, IsReached, MarksFronts}
use Rattle.braid_graph.proofs.Newest.{id_at, entry_at, one_number}
use Rattle.braid_graph.proofs.Walk.{least}
use Rattle.braid_graph.proofs.Kept.{take_next}
use Rattle.braid_graph.proofs.Marked.{parent_before}
use Rattle.braid_graph.proofs.Runs.{starts_rise, goes_behind}

-- each stands behind itself
pub behind_itself : (es : List GraphEntry) (n : ℕ) → IsBehind es n n
behind_itself es n = record { below = omega arith; none = λ k a b c. omega arith }

-- what stands behind an ancestor in its run is one
pub behind_ancestor : (es : List GraphEntry) (F : List (List ℕ)) (d n m : ℕ) (v w : List ℕ) → n ≡ m + d → IsBehind es n m → IsNumberOf es v n → IsNumberOf es w m → IsAncestor es F v → IsAncestor es F w
behind_ancestor es F zero n m v w e b at is a =
    let number : n ≡ m = omega arith in
    let same : v ≡ w = same_Some v w (sym at ∙ subst (λ (t : ℕ). IsNumberOf es w t) (sym number) is) in
    subst (IsAncestor es F) same a
behind_ancestor es F (suc d) n m v w e b at is a =
    let x = entry_at es n v at in
    let g = goes_behind es n x.0 x.1 (b.none n (omega arith) (omega arith)) in
    let up : IsAncestor es F g.1 = parent x.0 g.1 (member_contains es x.0 (member_at es n x.0 x.1)) (subst (IsAncestor es F) (sym x.2) a) (subst (λ (t : List (List ℕ)). Contains t g.1) (sym g.4) (0, omega arith, refl)) in
    behind_ancestor es F d g.0 m g.1 w (omega (arith, g.2)) (record { below = omega (arith, g.2); none = λ k l h. b.none k l (omega (arith, g.2)) }) g.3 is up

-- a number below another in its run: both have one run
pub behind_run : (es : List GraphEntry) (n r m : ℕ) → IsRunOf (starts_of es) n r → IsBehind es n m → (s : ℕ) → slice_get (starts_of es) r ≡ Some s → s ≤ m
behind_run es n r m is b s at = elim (cases_lt m s) [
  | inl l ↦
      let same : is.start ≡ s = same_Some is.start s (sym is.begins ∙ at) in
      absurd (b.none s l (omega (arith, is.from)) (member_contains (starts_of es) s (member_at (starts_of es) r s at)))
  | inr g ↦ g
]

some_at : {A : Type 0} (xs : List A) (n : ℕ) → n < length xs → (x : A) × (slice_get xs n ≡ Some x)
some_at [] n l = absurd (omega arith)
some_at (x ∷ xs) zero l = (x, refl)
some_at (x ∷ xs) (suc n) l = some_at xs n (omega arith)

run_behind : (es : List GraphEntry) (n r m : ℕ) → (is : IsRunOf (starts_of es) n r) → is.start ≤ m → m ≤ n → IsBehind es n m
run_behind es n r m is a b = record { below = b; none = λ k l h c. let p = place_of (starts_of es) k (contains_member (starts_of es) k c) in by k l h p.0 p.1 }
  where
    by : (k : ℕ) → m < k → k ≤ n → (j : ℕ) → slice_get (starts_of es) j ≡ Some k → ⊥
    by k l h j at = elim (cases_lt j r) [
      | inl before ↦ let d = starts_rise 0 None es j r k is.start before at is.begins in omega arith
      | inr g ↦ elim (cases_eq j r) [
        | inl same ↦ let d : k ≡ is.start = same_Some k is.start (sym at ∙ (subst (λ (t : ℕ). slice_get (starts_of es) t ≡ Some is.start) (sym same) is.begins)) in omega arith
        | inr other ↦
            let w = slice_get_within (starts_of es) j k at in
            let t = some_at (starts_of es) (r + 1) (omega arith) in
            let past = is.next t.0 t.1 in
            elim (cases_eq j (r + 1)) [
              | inl next ↦ let d : k ≡ t.0 = same_Some k t.0 (sym at ∙ (subst (λ (u : ℕ). slice_get (starts_of es) u ≡ Some t.0) (sym next) t.1)) in omega arith
              | inr far ↦ let d = starts_rise 0 None es (r + 1) j t.0 k (omega arith) t.1 at in omega arith
            ]
      ]
    ]

-- places of a list with one changed
set_here : (xs : List ℕ) (r x : ℕ) → r < length xs → slice_get (set xs r x) r ≡ Some x
set_here [] r x l = absurd (omega arith)
set_here (y ∷ ys) zero x l = refl
set_here (y ∷ ys) (suc r) x l = set_here ys r x (omega arith)

set_other : (xs : List ℕ) (r x k : ℕ) → (k ≡ r → ⊥) → slice_get (set xs r x) k ≡ slice_get xs k
set_other [] r x k d = refl
set_other (y ∷ ys) zero x zero d = absurd (d refl)
set_other (y ∷ ys) zero x (suc k) d = refl
set_other (y ∷ ys) (suc r) x zero d = refl
set_other (y ∷ ys) (suc r) x (suc k) d = set_other ys r x k (λ e. d (ap suc e))

-- one number more, taken into the front of its run
module _ (es : List GraphEntry) (old new : List ℕ) (n r e : ℕ) (ends : AreEnds es old) (within : n < length es) (is : IsRunOf (starts_of es) n r) (at : slice_get old r ≡ Some e) (set_to : new ≡ set old r (max e (n + 1))) where
  there : slice_get new r ≡ Some (max e (n + 1))
  there = ap (λ (t : List ℕ). slice_get t r) set_to ∙ set_here old r (max e (n + 1)) (slice_get_within old r e at)

  elsewhere : (k : ℕ) → (k ≡ r → ⊥) → slice_get new k ≡ slice_get old k
  elsewhere k d = ap (λ (t : List ℕ). slice_get t k) set_to ∙ set_other old r (max e (n + 1)) k d

  end_at : (k x : ℕ) → slice_get new k ≡ Some x → ((k ≡ r) × (max e (n + 1) ≡ x)) ⊎ ((k ≡ r → ⊥) × (slice_get old k ≡ Some x))
  end_at k x h = elim (cases_eq k r) [
    | inl same ↦ inl (same, same_Some (max e (n + 1)) x (sym there ∙ subst (λ (t : ℕ). slice_get new t ≡ Some x) same h))
    | inr other ↦ inr (other, sym (elsewhere k other) ∙ h)
  ]

  pub ends_more : AreEnds es new
  ends_more = record {
    size = ap length set_to ∙ (length-set old r (max e (n + 1)) ∙ ends.size);
    within = λ k x h. elim (end_at k x h) [
      | inl here ↦ let w = ends.within r e at in omega (arith, here.1)
      | inr there ↦ ends.within k x there.1
    ];
    apart = λ k x t h next. elim (end_at k x h) [
      | inl here ↦
          let behind = subst (λ (u : ℕ). slice_get (starts_of es) (u + 1) ≡ Some t) here.0 next in
          let a = ends.apart r e t at behind in
          let b = is.next t behind in
          omega (arith, here.1)
      | inr there ↦ ends.apart k x t there.1 next
    ];
  }

  pub reaches_more : ReachesMore es old new (λ m. m ≡ n)
  reaches_more m = (
    λ x. elim (end_at x.run x.end x.ends_at) [
      | inl here ↦
          let begins : slice_get (starts_of es) r ≡ Some x.start = subst (λ (u : ℕ). slice_get (starts_of es) u ≡ Some x.start) here.0 x.starts_at in
          let same : is.start ≡ x.start = same_Some is.start x.start (sym is.begins ∙ begins) in
          elim (cases_lt m e) [
            | inl l ↦ inl (record { run = r; start = x.start; end = e; starts_at = begins; ends_at = at; from = x.from; below = l })
            | inr g ↦ inr (n, refl, run_behind es n r m is (omega (arith, x.from)) (omega (arith, x.below, here.1)))
          ]
      | inr there ↦ inl (record { run = x.run; start = x.start; end = x.end; starts_at = x.starts_at; ends_at = there.1; from = x.from; below = x.below })
    ],
    λ s. elim s [
      | inl x ↦ elim (cases_eq x.run r) [
        | inl same ↦
            let old_end : x.end ≡ e = same_Some x.end e (sym x.ends_at ∙ subst (λ (u : ℕ). slice_get old u ≡ Some e) (sym same) at) in
            record { run = r; start = x.start; end = max e (n + 1); starts_at = subst (λ (u : ℕ). slice_get (starts_of es) u ≡ Some x.start) same x.starts_at; ends_at = there; from = x.from; below = omega (arith, x.below) }
        | inr other ↦ record { run = x.run; start = x.start; end = x.end; starts_at = x.starts_at; ends_at = elsewhere x.run other ∙ x.ends_at; from = x.from; below = x.below }
      ]
      | inr (k, same, b) ↦
          let behind : IsBehind es n m = subst (λ (u : ℕ). IsBehind es u m) same b in
          record { run = r; start = is.start; end = max e (n + 1); starts_at = is.begins; ends_at = there; from = behind_run es n r m is behind is.start is.begins; below = omega (arith, behind.below) }
    ],
  )

-- two steps are one
pub more_both : (es : List GraphEntry) (a b c : List ℕ) (P Q R : ℕ → Type 0) → ((m : ℕ) → R m ↔ (P m ⊎ Q m)) → ReachesMore es a b P → ReachesMore es b c Q → ReachesMore es a c R
more_both es a b c P Q R all p q m = (
  λ x. elim ((q m).0 x) [
    | inl y ↦ elim ((p m).0 y) [ inl z ↦ inl z | inr (n, h, k) ↦ inr (n, (all n).1 (inl h), k) ]
    | inr (n, h, k) ↦ inr (n, (all n).1 (inr h), k)
  ],
  λ s. elim s [
    | inl z ↦ (q m).1 (inl ((p m).1 (inl z)))
    | inr (n, h, k) ↦ elim ((all n).0 h) [ inl i ↦ (q m).1 (inl ((p m).1 (inr (n, i, k)))) | inr i ↦ (q m).1 (inr (n, i, k)) ]
  ],
)

pub more_none : (es : List GraphEntry) (a : List ℕ) (P : ℕ → Type 0) → ((m : ℕ) → P m → ⊥) → ReachesMore es a a P
more_none es a P none m = (λ x. inl x, λ s. elim s [ inl x ↦ x | inr (n, h, k) ↦ absurd (none n h) ])

pub reached_next : (es : List GraphEntry) (F : List (List ℕ)) (i n : ℕ) (id : List ℕ) (old new : List ℕ) → IsHistoryGraph es → IsReached es F (take i F) (runs_of es) old → slice_get F i ≡ Some id → IsNumberOf es id n → AreEnds es new → ReachesMore es old new (λ m. m ≡ n)
    → IsReached es F (take (i + 1) F) (runs_of es) new
reached_next es F i n id old new h so_far at is fits more = record {
  fits = fits;
  members = λ m v place c. elim (Contains-push_cases (take i F) id v (subst (λ (t : List (List ℕ)). Contains t v) (take_next F i id at) c)) [
    | inl before ↦ (more m).1 (inl (so_far.members m v place before))
    | inr same ↦
        let number : n ≡ m = one_number es h v n m (subst (λ (t : List ℕ). IsNumberOf es t n) same is) place in
        (more m).1 (inr (n, refl, subst (IsBehind es n) number (behind_itself es n)))
  ];
  closed = λ k s m l begins x parent. let w = slice_get_within (starts_of es) k s begins in absurd (omega arith);
  within = λ m v place x. elim ((more m).0 x) [
    | inl before ↦ so_far.within m v place before
    | inr (k, same, b) ↦
        let behind : IsBehind es n m = subst (λ (u : ℕ). IsBehind es u m) same b in
        behind_ancestor es F (n - m) n m id v (omega (arith, behind.below)) behind is place (named id (member_contains F id (member_at F i id at)))
  ];
}

-- the front that has a run's first number is that run's
own_front : (es : List GraphEntry) (ends : List ℕ) (k s : ℕ) → AreEnds es ends → slice_get (starts_of es) k ≡ Some s → (x : Reaches (starts_of es) ends s) → x.run ≡ k
own_front es ends k s fits at x = elim (cases_lt x.run k) [
  | inl l ↦
      let w = slice_get_within (starts_of es) k s at in
      let t = some_at (starts_of es) (x.run + 1) (omega arith) in
      let a = fits.apart x.run x.end t.0 x.ends_at t.1 in
      elim (cases_eq (x.run + 1) k) [
        | inl next ↦ let d : t.0 ≡ s = same_Some t.0 s (sym t.1 ∙ subst (λ (u : ℕ). slice_get (starts_of es) u ≡ Some s) (sym next) at) in absurd (omega (arith, x.below))
        | inr far ↦ let d = starts_rise 0 None es (x.run + 1) k t.0 s (omega arith) t.1 at in absurd (omega (arith, x.below))
      ]
  | inr g ↦ elim (cases_lt k x.run) [
    | inl l ↦ let d = starts_rise 0 None es k x.run s x.start l at x.starts_at in absurd (omega (arith, x.from))
    | inr h ↦ omega arith
  ]
]

-- a run without a front, and one whose first entry's parents are taken in
pub reached_past : (es : List GraphEntry) (F : List (List ℕ)) (r s e : ℕ) (ends : List ℕ) → slice_get (starts_of es) r ≡ Some s → slice_get ends r ≡ Some e → e ≤ s → IsReached es F F (r + 1) ends → IsReached es F F r ends
reached_past es F r s e ends begins at l has = record {
  fits = has.fits;
  members = has.members;
  closed = λ k t m le start x parent. elim (cases_eq k r) [
    | inl same ↦
        let own : x.run ≡ k = own_front es ends k t has.fits start x in
        let end : x.end ≡ e = same_Some x.end e (sym x.ends_at ∙ subst (λ (u : ℕ). slice_get ends u ≡ Some e) (sym (own ∙ same)) at) in
        let first : t ≡ s = same_Some t s (sym start ∙ subst (λ (u : ℕ). slice_get (starts_of es) u ≡ Some s) (sym same) begins) in
        absurd (omega (arith, x.below))
    | inr other ↦ has.closed k t m (omega arith) start x parent
  ];
  within = has.within;
}

pub reached_behind : (es : List GraphEntry) (F : List (List ℕ)) (r s e : ℕ) (old new : List ℕ) → IsHistoryGraph es → slice_get (starts_of es) r ≡ Some s → slice_get old r ≡ Some e → s < e → IsReached es F F (r + 1) old → AreEnds es new → ReachesMore es old new (IsParentNumber es s) → IsReached es F F r new
reached_behind es F r s e old new h begins at l has fits more = record {
  fits = fits;
  members = λ m v place c. (more m).1 (inl (has.members m v place c));
  closed = λ k t m le start x parent. elim ((more t).0 x) [
    | inl before ↦ elim (cases_eq k r) [
      | inl same ↦
          let first : t ≡ s = same_Some t s (sym start ∙ subst (λ (u : ℕ). slice_get (starts_of es) u ≡ Some s) (sym same) begins) in
          (more m).1 (inr (m, subst (λ (u : ℕ). IsParentNumber es u m) first parent, behind_itself es m))
      | inr other ↦ (more m).1 (inl (has.closed k t m (omega arith) start before parent))
    ]
    | inr (p, is, b) ↦
        let low = parent_before es h s p is in
        let high : s ≤ t = elim (cases_eq k r) [
          | inl same ↦ let first : t ≡ s = same_Some t s (sym start ∙ subst (λ (u : ℕ). slice_get (starts_of es) u ≡ Some s) (sym same) begins) in omega arith
          | inr other ↦ let d = starts_rise 0 None es r k s t (omega arith) begins start in omega arith
        ] in
        absurd (omega (arith, b.below))
  ];
  within = λ m v place x. elim ((more m).0 x) [
    | inl before ↦ has.within m v place before
    | inr (p, (d, w, there, c, number), b) ↦
        let first : Reaches (starts_of es) old s = record { run = r; start = s; end = e; starts_at = begins; ends_at = at; from = omega arith; below = l } in
        let up : IsAncestor es F w = parent d w (member_contains es d (member_at es s d there)) (has.within s d.id (id_at es s d there) first) c in
        behind_ancestor es F (p - m) p m w v (omega (arith, b.below)) b number place up
  ];
}

-- after all runs the fronts are the ancestry
pub reached_is : (es : List GraphEntry) (F : List (List ℕ)) (ends : List ℕ) (marks : List Bool) → IsHistoryGraph es → HoldsAll es F → IsReached es F F 0 ends → length marks ≡ length es → ((n : ℕ) → IsMarked marks n ↔ Reaches (starts_of es) ends n) → MarksAncestry es F marks
reached_is es F ends marks h held has size marked = record {
  held = held;
  size = size;
  exact = λ n e at. (
    λ m. has.within n e.id (id_at es n e at) ((marked n).0 m),
    λ a. (marked n).1 (least es F (λ (v : List ℕ). (k : ℕ) → IsNumberOf es v k → Reaches (starts_of es) ends k) (λ v c k is. has.members k v is c) parents e.id a n (id_at es n e at)),
  );
}
  where
    parents : (d : GraphEntry) (v : List ℕ) → Contains es d → ((k : ℕ) → IsNumberOf es d.id k → Reaches (starts_of es) ends k) → Contains d.parents v → (k : ℕ) → IsNumberOf es v k → Reaches (starts_of es) ends k
    parents d v c all p k is =
        let r = place_of es d (contains_member es d c) in
        let x = all r.0 (id_at es r.0 d r.1) in
        elim (cases_eq x.start r.0) [
          | inl first ↦ has.closed x.run r.0 k (omega arith) (subst (λ (u : ℕ). slice_get (starts_of es) x.run ≡ Some u) first x.starts_at) x (d, v, r.1, p, is)
          | inr behind ↦
              let none : Contains (starts_of es) r.0 → ⊥ = λ first.
              let q = place_of (starts_of es) r.0 (contains_member (starts_of es) r.0 first) in
              let own = own_front es ends q.0 r.0 has.fits q.1 x in
              behind (same_Some x.start r.0 (sym x.starts_at ∙ subst (λ (u : ℕ). slice_get (starts_of es) u ≡ Some r.0) (sym own) q.1)) in
              let g = goes_behind es r.0 d r.1 none in
              let same : g.1 ≡ v = elim (contains_member (g.1 ∷ []) v (subst (λ (t : List (List ℕ)). Contains t v) g.4 p)) [ inl e ↦ e | inr m ↦ absurd m ] in
              let number : g.0 ≡ k = one_number es h v g.0 k (subst (λ (t : List ℕ). IsNumberOf es t g.0) same g.3) is in
              record { run = x.run; start = x.start; end = x.end; starts_at = x.starts_at; ends_at = x.ends_at; from = omega (arith, x.from, g.2); below = omega (arith, x.below, g.2) }
        ]

pub fronts_more : (es : List GraphEntry) (ends : List ℕ) (r s e : ℕ) (old new : List Bool) → slice_get (starts_of es) r ≡ Some s → slice_get ends r ≡ Some e → MarksFronts es ends r old → ((n : ℕ) → IsMarked new n ↔ (IsMarked old n ⊎ ((s ≤ n) × (n < e)))) → MarksFronts es ends (r + 1) new
fronts_more es ends r s e old new begins at so_far more n = (
  λ m. elim ((more n).0 m) [
    | inl before ↦ let x = (so_far n).0 before in (x.0, omega (arith, x.1))
    | inr here ↦ (record { run = r; start = s; end = e; starts_at = begins; ends_at = at; from = here.0; below = here.1 }, omega arith)
  ],
  λ x. elim (cases_eq x.0.run r) [
    | inl same ↦
        let first : x.0.start ≡ s = same_Some x.0.start s (sym x.0.starts_at ∙ subst (λ (u : ℕ). slice_get (starts_of es) u ≡ Some s) (sym same) begins) in
        let last : x.0.end ≡ e = same_Some x.0.end e (sym x.0.ends_at ∙ subst (λ (u : ℕ). slice_get ends u ≡ Some e) (sym same) at) in
        (more n).1 (inr (omega (arith, x.0.from), omega (arith, x.0.below)))
    | inr other ↦ (more n).1 (inl ((so_far n).1 (x.0, omega (arith, x.1))))
  ],
)

pub fronts_skip : (es : List GraphEntry) (ends : List ℕ) (r s e : ℕ) (marks : List Bool) → slice_get (starts_of es) r ≡ Some s → slice_get ends r ≡ Some e → e ≤ s → MarksFronts es ends r marks → MarksFronts es ends (r + 1) marks
fronts_skip es ends r s e marks begins at l so_far = fronts_more es ends r s e marks marks begins at so_far (λ n. (λ m. inl m, λ c. elim c [ inl m ↦ m | inr here ↦ absurd (omega (arith, here.0, here.1)) ]))

pub fronts_all : (es : List GraphEntry) (ends : List ℕ) (r : ℕ) (marks : List Bool) → length ends ≤ r → MarksFronts es ends r marks → (n : ℕ) → IsMarked marks n ↔ Reaches (starts_of es) ends n
fronts_all es ends r marks l all n = (λ m. ((all n).0 m).0, λ x. (all n).1 (x, let w = slice_get_within ends x.run x.end x.ends_at in omega arith))

-- the parents of an entry, one more
pub parents_next : (es : List GraphEntry) (ns : List ℕ) (i p : ℕ) (first old new : List ℕ) → slice_get ns i ≡ Some p → ReachesMore es first old (Contains (take i ns)) → ReachesMore es old new (λ m. m ≡ p) → ReachesMore es first new (Contains (take (i + 1) ns))
parents_next es ns i p first old new at so_far more =
    more_both es first old new (Contains (take i ns)) (λ m. m ≡ p) (Contains (take (i + 1) ns)) (λ m. (
      λ c. elim (Contains-push_cases (take i ns) p m (subst (λ (t : List ℕ). Contains t m) (take_next ns i p at) c)) [ inl a ↦ inl a | inr e ↦ inr (sym e) ],
      λ s. subst (λ (t : List ℕ). Contains t m) (sym (take_next ns i p at)) (elim s [
        | inl a ↦ Contains-append_left (take i ns) (p ∷ []) m a
        | inr e ↦ subst (Contains (take i ns ++ p ∷ [])) (sym e) (Contains-push (take i ns) p)
      ]),
    )) so_far more

-- the same numbers
pub more_same : (es : List GraphEntry) (a b : List ℕ) (P Q : ℕ → Type 0) → ((m : ℕ) → P m ↔ Q m) → ReachesMore es a b P → ReachesMore es a b Q
more_same es a b P Q both more m = (
  λ x. elim ((more m).0 x) [ inl y ↦ inl y | inr (n, h, k) ↦ inr (n, (both n).0 h, k) ],
  λ s. (more m).1 (elim s [ inl y ↦ inl y | inr (n, h, k) ↦ inr (n, (both n).1 h, k) ]),
)

-- the marks that are answered
pub reached_ok : {E : Type 0} (es : List GraphEntry) (F : List (List ℕ)) (ends : List ℕ) (r : Result (List Bool) E) → IsHistoryGraph es → HoldsAll es F → IsReached es F F 0 ends
    → IfOk r (λ (marks : List Bool). length marks ≡ length es) → IfOk r (λ (marks : List Bool). (n : ℕ) → IsMarked marks n ↔ Reaches (starts_of es) ends n) → IfOk r (λ (marks : List Bool). MarksAncestry es F marks)
reached_ok es F ends (Ok marks) h held has size marked = reached_is es F ends marks h held has size marked
reached_ok es F ends (Err e) h held has size marked = tt
