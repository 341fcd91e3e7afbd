-- Where every version is marked, what is seen is what nothing deletes.
use Rattle.std.proofs.Common.{◌≡◌, ℕ, ◌+◌, ◌<◌, ◌≤◌, List, [], ◌∷◌, Option, Some, None, All, Bool, true, false, not, ◌&&◌, ◌||◌, length, get_or, refl, ap, ◌∙◌, arith}
use Rattle.std.specs.List.{list_any}
use Rattle.std.proofs.lemmas.List.Elements.{All-head, All-tail, All-get_or}
use Rattle.std.proofs.lemmas.Option.{slice_get-get_or}
use Rattle.braid_ids.specs.MarkSets.{has_mark, IsMarked}
use Rattle.braid_spans.specs.declared.run.Run.{Run}
use Rattle.braid_spans.specs.declared.link.Link.{Link}
use Rattle.braid_spans.specs.Kept.{chain_at, chains_of, reach, undeleted_of, undeleted_in, IsFitting, AreFitting, AreLinked}
use Rattle.braid_spans.specs.SeenRuns.{is_seen_run, seen_count}
use Rattle.braid_spans.proofs.Chains.{chain_step, chains_count}
use Rattle.braid_spans.proofs.Lists.{sum_by-cons}
use Rattle.braid_spans.proofs.SeenSteps.{count_take, count_pass}

no_link : Link
no_link = record { by = 0; earlier = None }

module _ (versions : ℕ) (marks : List Bool) (chars : List ℕ) (links : List Link) (whole : versions ≤ length marks) (full : (n : ℕ) → n < length marks → IsMarked marks n)
    (linked : AreLinked links) (made : All (λ (x : Link). x.by < versions) links) where
  marked : (n : ℕ) → n < versions → has_mark marks n ≡ true
  marked n l = full n (omega (arith, l, whole))

  undeleted_seen : (r : Run) → IsFitting versions (length chars) (length (chains_of links)) r → r.newest ≡ None → is_seen_run marks (chains_of links) r ≡ true
  undeleted_seen r fit e =
      ap (λ (o : Option ℕ). has_mark marks r.first.version && not (list_any (has_mark marks) (chain_at (chains_of links) o))) e
      ∙ ap (λ b. b && true) (marked r.first.version fit.known)

  deleted_hidden : (r : Run) (k : ℕ) → IsFitting versions (length chars) (length (chains_of links)) r → r.newest ≡ Some k → is_seen_run marks (chains_of links) r ≡ false
  deleted_hidden r k fit e =
      ap (λ (o : Option ℕ). has_mark marks r.first.version && not (list_any (has_mark marks) (chain_at (chains_of links) o))) e
      ∙ ap (λ (t : List ℕ). has_mark marks r.first.version && not (list_any (has_mark marks) t)) (chain_step links k x linked (slice_get-get_or links k no_link within))
      ∙ ap (λ b. has_mark marks r.first.version && not (b || list_any (has_mark marks) (chain_at (chains_of links) x.earlier))) (marked x.by (All-get_or (λ (y : Link). y.by < versions) links k no_link within made))
      ∙ ap (λ b. b && false) (marked r.first.version fit.known)
    where
      within : k < length links
      within = let n : reach r.newest ≡ k + 1 = ap reach e in omega (arith, n, fit.linked, chains_count links)

      x : Link
      x = get_or links k no_link

  pub full_count : (rs : List Run) → AreFitting versions chars (chains_of links) rs → seen_count marks (chains_of links) rs ≡ undeleted_in rs
  full_count [] fit = refl
  full_count (r ∷ rs) fit = go r.newest refl (full_count rs (All-tail (IsFitting versions (length chars) (length (chains_of links))) r rs fit))
    where
      fit_r : IsFitting versions (length chars) (length (chains_of links)) r
      fit_r = All-head (IsFitting versions (length chars) (length (chains_of links))) r rs fit

      go : (o : Option ℕ) → r.newest ≡ o → seen_count marks (chains_of links) rs ≡ undeleted_in rs → seen_count marks (chains_of links) (r ∷ rs) ≡ undeleted_in (r ∷ rs)
      go None e ih =
          let a = count_take marks (chains_of links) r rs (undeleted_seen r fit_r e) in
          let b : undeleted_in (r ∷ rs) ≡ undeleted_of r.newest r.len + undeleted_in rs = sum_by-cons (λ (x : Run). undeleted_of x.newest x.len) r rs in
          let c : undeleted_of r.newest r.len ≡ r.len = ap (λ (o : Option ℕ). undeleted_of o r.len) e in
          omega (arith, a, b, c, ih)
      go (Some k) e ih =
          let a = count_pass marks (chains_of links) r rs (deleted_hidden r k fit_r e) in
          let b : undeleted_in (r ∷ rs) ≡ undeleted_of r.newest r.len + undeleted_in rs = sum_by-cons (λ (x : Run). undeleted_of x.newest x.len) r rs in
          let c : undeleted_of r.newest r.len ≡ 0 = ap (λ (o : Option ℕ). undeleted_of o r.len) e in
          omega (arith, a, b, c, ih)
