-- What the last pass of a run knows: the pass from a new hall's opening, after it joined the passes that it split off.
use Rattle.std.proofs.Common.{◌≡◌, ℕ, zero, suc, ◌+◌, ◌<◌, ◌≤◌, ◌==◌, ◌⊎◌, inl, inr, true, cond, List, [], ◌∷◌, refl, ap, sym, ◌∙◌, subst, length, arith}
use Rattle.std.specs.Prelude.{All, Contains, filter}
use Rattle.std.specs.List.{AllByRecursion}
use Rattle.std.proofs.lemmas.Bool.{cases_eq, eq-eqb}
use mathlib.Core.Option.{some}
use lib.ListN.{get_elem?}
use Rattle.atomic_table.specs.Seated.{TableId}
use Rattle.braid_hall.specs.Histories.{added, added_by}
use Rattle.braid_hall.specs.Views.{total}
use Rattle.braid_hall.specs.Passes.{PassView, AccountsFor, first_pass, new_pass}
use Rattle.braid_hall.specs.Many.{SplitsAll, IsClosed}
use Rattle.braid_store.specs.declared.entry.Entry.{Entry}
use Rattle.braid_server.proofs.Lists.{all_each}

-- who added an entry
abbrev pub by_of : Entry → ℕ
by_of e = e.by

-- passes that were split off from one, numbered on from the number after n
unfoldable pub AreNew : PassView Entry → ℕ → List (PassView Entry) → Type 0
AreNew p n [] = Unit {0}
AreNew p n (x ∷ xs) = (x ≡ record (new_pass p) { number = n + 1 }) × AreNew p (n + 1) xs

are_new : (p : PassView Entry) (n : ℕ) (xs : List (PassView Entry)) → ((k : ℕ) (x : PassView Entry) → get_elem? xs k ≡ some x → x ≡ record (new_pass p) { number = (n + k) + 1 }) → AreNew p n xs
unfolding AreNew
are_new p n [] h = tt
are_new p n (x ∷ xs) h = (
  h 0 x refl ∙ ap (λ (m : ℕ). record (new_pass p) { number = m }) (first n),
  are_new p (n + 1) xs (λ k y e. h (suc k) y e ∙ ap (λ (m : ℕ). record (new_pass p) { number = m }) (next n k)),
)
  where
    first : (n : ℕ) → (n + 0) + 1 ≡ n + 1
    first n = omega arith

    next : (n k : ℕ) → (n + suc k) + 1 ≡ ((n + 1) + k) + 1
    next n k = omega arith

-- a history of which no number has an entry has none
no_entry : (top : ℕ) (history : List Entry) → ((n : ℕ) → n ≤ top → filter (λ (e : Entry). e.by == n) history ≡ [])
    → AllByRecursion (λ (e : Entry). e.by ≤ top) history → history ≡ []
no_entry top [] none below = refl
no_entry top (e ∷ es) none below =
    let h = none e.by below.0 in
    let same : (e.by == e.by) ≡ true = eq-eqb e.by e.by refl in
    let kept : filter (λ (x : Entry). x.by == e.by) (e ∷ es) ≡ e ∷ filter (λ (x : Entry). x.by == e.by) es =
    ap (λ c. cond c (e ∷ filter (λ (x : Entry). x.by == e.by) es) (filter (λ (x : Entry). x.by == e.by) es)) same in
    absurd (cc (h, kept))

-- passes that took no turn ended without entries
none_ended : (p last : PassView Entry) (n : ℕ) (xs : List (PassView Entry)) → AreNew p n xs → AllByRecursion (λ (q : PassView Entry). Contains last.ended (q.number, q.mine)) xs
    → (m : ℕ) → n < m → m ≤ n + length xs → Contains last.ended (m, [])
unfolding AreNew
none_ended p last n [] new ended m low high = absurd (omega (arith, low, high))
none_ended p last n (x ∷ xs) new ended m low high =
    go (cases_eq (n + 1) m) (λ ne. none_ended p last (n + 1) xs new.1 ended.1 m (omega (arith, low, ne)) (omega (arith, high)))
  where
    go : (n + 1 ≡ m) ⊎ (n + 1 ≡ m → ⊥) → ((n + 1 ≡ m → ⊥) → Contains last.ended (m, [])) → Contains last.ended (m, [])
    go (inl e) rest = subst (λ (y : ℕ × List Entry). Contains last.ended y) (ap (λ (z : PassView Entry). (z.number, z.mine)) new.0 ∙ ap (λ (k : ℕ). (k, [])) e) ended.0
    go (inr ne) rest = rest ne

module _ (hall : TableId) (p root : PassView Entry) (passes backs : List (PassView Entry)) (count : ℕ) (history : List Entry)
    (first : p ≡ first_pass hall 0 []) (split : SplitsAll hall p count root passes) (closed : IsClosed by_of root backs history) where
  kept : closed.last ≡ record root { seen = closed.last.seen; away = closed.last.away; turns = closed.last.turns; look = closed.last.look; ended = closed.last.ended }
  kept = closed.joins_all.kept

  root_is : root ≡ record (first_pass hall 0 []) { made = root.made; away = root.away }
  root_is = split.kept ∙ ap (λ (z : PassView Entry). record z { made = root.made; away = root.away }) first

  pub accounts_for : AccountsFor by_of closed.last closed.last.seen
  accounts_for = subst (AccountsFor by_of closed.last) closed.seen closed.accounts

  pub none_seen : p.seen ≡ []
  none_seen = ap (λ (z : PassView Entry). z.seen) first

  pub none_open : closed.last.opening ≡ []
  none_open = ap (λ (z : PassView Entry). z.opening) kept ∙ ap (λ (z : PassView Entry). z.opening) root_is

  pub new_passes : AreNew p 0 passes
  new_passes = are_new p 0 passes (λ k x e. split.fresh k x e ∙ ap (λ (m : ℕ). record (new_pass p) { number = m }) (from_none k))
    where
      from_none : (k : ℕ) → k + 1 ≡ (0 + k) + 1
      from_none k = omega arith

  pub made_is : closed.last.made ≡ length passes
  made_is = ap (λ (z : PassView Entry). z.made) kept ∙ split.made ∙ sym split.many

  -- each entry has the number of the pass from the opening or of one that was split off
  pub none_above : AllByRecursion (λ (e : Entry). e.by ≤ length passes) closed.last.seen
  none_above = subst (λ (m : ℕ). AllByRecursion (λ (e : Entry). e.by ≤ m) closed.last.seen) made_is
      (all_each (λ (e : Entry). e.by ≤ closed.last.made) closed.last.seen (subst (λ (o : List Entry). All (λ (e : Entry). e.by ≤ closed.last.made) (added o closed.last.seen)) none_open accounts_for.others))

  -- the pass from the opening added none
  pub none_first : filter (λ (e : Entry). e.by == 0) closed.last.seen ≡ []
  none_first = sym (ap (λ (o : List Entry). added_by by_of o 0 closed.last.seen) none_open)
      ∙ accounts_for.own ∙ ap (λ (z : PassView Entry). z.mine) kept ∙ ap (λ (z : PassView Entry). z.mine) root_is

  pub looked : closed.last.look ≤ total (λ (q : PassView Entry). q.turns) backs
  looked =
      let l = accounts_for.looked in
      let o : closed.last.opened ≡ 0 = ap (λ (z : PassView Entry). z.opened) kept ∙ ap (λ (z : PassView Entry). z.opened) root_is in
      let t = closed.joins_all.turns in
      let z : root.turns ≡ 0 = ap (λ (z : PassView Entry). z.turns) root_is in
      omega (arith, l, o, t, z)

-- Where the passes came back as they were split off, the book has no entry.
pub empty_book : (hall : TableId) (p root : PassView Entry) (passes : List (PassView Entry)) (count : ℕ) (history : List Entry)
    → p ≡ first_pass hall 0 [] → SplitsAll hall p count root passes → IsClosed by_of root passes history → history ≡ []
empty_book hall p root passes count history first split closed =
    closed.seen ∙ no_entry (length passes) closed.last.seen none (none_above hall p root passes passes count history first split closed)
  where
    new : AreNew p 0 passes
    new = new_passes hall p root passes passes count history first split closed

    open_is : closed.last.opening ≡ []
    open_is = none_open hall p root passes passes count history first split closed

    ended : AllByRecursion (λ (q : PassView Entry). Contains closed.last.ended (q.number, q.mine)) passes
    ended = all_each (λ (q : PassView Entry). Contains closed.last.ended (q.number, q.mine)) passes closed.joins_all.ended

    none : (n : ℕ) → n ≤ length passes → filter (λ (e : Entry). e.by == n) closed.last.seen ≡ []
    none zero below = none_first hall p root passes passes count history first split closed
    none (suc n) below =
        let accounts = accounts_for hall p root passes passes count history first split closed in
        sym (ap (λ (o : List Entry). added_by by_of o (suc n) closed.last.seen) open_is)
        ∙ sym (accounts.only (suc n) [] (none_ended p closed.last 0 passes new ended (suc n) (omega arith) (omega (arith, below))))
