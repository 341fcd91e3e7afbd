-- What is kept of blocks, after one of them changed.
use Rattle.std.proofs.Common.{◌≡◌, ℕ, ◌+◌, ◌-◌, ◌*◌, ◌<◌, ◌≤◌, ◌^◌, List, [], ◌∷◌, Some, All, length, map, slice_get, sym, ap, subst, ◌∙◌, arith}
use Rattle.std.proofs.Math.ListN.{set}
use Rattle.std.specs.List.{insert, remove}
use Rattle.std.proofs.lemmas.List.{length-set}
use Rattle.std.proofs.lemmas.List.Edits.{length-insert, length-remove}
use Rattle.std.proofs.lemmas.List.Elements.{All-set, All-head, All-tail}
use Rattle.std.proofs.lemmas.List.Sums.{sum_by-insert}
use Rattle.std.proofs.lemmas.Option.{slice_get_within, get_or_from_slice_get}
use Rattle.braid_spans.specs.declared.run.Run.{Run}
use Rattle.braid_spans.specs.declared.sum.Sum.{Sum}
use Rattle.braid_spans.specs.Kept.{AreCounted, size_in, undeleted_of, undeleted_in}
use Rattle.braid_spans.specs.Blocks.{flat, sum_of, over_half, weight, IsFilled, AreBlocks}
use Rattle.braid_spans.proofs.Lists.{all_insert, sum_by-cons}
use Rattle.braid_spans.proofs.Sizes.{counted_remove, undeleted_below, count_below}
use Rattle.braid_spans.proofs.InBlocks.{undeleted_item, undeleted_at_set, undeleted_at_insert}

pub few_runs : (bs : List (List Run)) (n : ℕ) → AreCounted (flat bs) n → length (flat bs) < 2 ^ 32
few_runs bs n counted = omega (arith, count_below (flat bs) counted.some, counted.size)

pub few_undeleted : (bs : List (List Run)) (n : ℕ) → AreCounted (flat bs) n → undeleted_in (flat bs) < 2 ^ 32
few_undeleted bs n counted = omega (arith, undeleted_below (flat bs), counted.size)

counted_set : (rs : List Run) (i n out added : ℕ) (old x : Run) → slice_get rs i ≡ Some old → 0 < x.len → size_in (set rs i x) < 2 ^ 32 → out ≡ undeleted_of old.newest old.len → added ≡ undeleted_of x.newest x.len
    → AreCounted rs n → AreCounted (set rs i x) (n - out + added)
counted_set rs i n out added old x e some few o a counted = record {
  some = All-set (λ (r : Run). 0 < r.len) rs i x some counted.some;
  size = few;
  undeleted = omega (arith, undeleted_at_set rs i old x e, undeleted_item rs i old e (slice_get_within rs i old e), o, a, counted.undeleted);
}

counted_insert : (rs : List Run) (i n added : ℕ) (x : Run) → 0 < x.len → size_in rs + x.len < 2 ^ 32 → added ≡ undeleted_of x.newest x.len → AreCounted rs n → AreCounted (insert rs i x) (n + added)
counted_insert rs i n added x some few a counted =
    let s : size_in (insert rs i x) ≡ size_in rs + x.len = sum_by-insert (λ (r : Run). r.len) rs i x in
    record {
      some = all_insert (λ (r : Run). 0 < r.len) rs i x some counted.some;
      size = omega (arith, s, few);
      undeleted = omega (arith, undeleted_at_insert rs i x, a, counted.undeleted);
    }

module _ (bs new : List (List Run)) (sums sums' : List Sum) (count u room cap scap cap' scap' : ℕ) (kept : AreBlocks bs sums count u room cap scap) (sums_are : sums' ≡ map sum_of new)
    (small : All IsFilled new) (caps : cap ≤ cap') (scaps : scap ≤ scap') where
  pub blocks_set : (i out added : ℕ) (old x : Run) → flat new ≡ set (flat bs) i x → slice_get (flat bs) i ≡ Some old → 0 < x.len → size_in (set (flat bs) i x) < 2 ^ 32
      → out ≡ undeleted_of old.newest old.len → added ≡ undeleted_of x.newest x.len → weight new ≡ weight bs → length new ≡ length bs → AreBlocks new sums' count (u - out + added) room cap' scap'
  blocks_set i out added old x list e some few o a same long =
      let n : length (flat new) ≡ length (flat bs) = ap length list ∙ length-set (flat bs) i x in
      record {
        counted = subst (λ t. AreCounted t (u - out + added)) (sym list) (counted_set (flat bs) i u out added old x e some few o a kept.counted);
        count_is = omega (arith, n, kept.count_is);
        sums_are = sums_are;
        small = small;
        roomy = omega (arith, kept.roomy, same, long, caps);
        sums_roomy = omega (arith, kept.sums_roomy, same, long, scaps);
        begun = λ l. omega (arith, kept.begun l, long);
      }

  pub blocks_insert : (i added : ℕ) (x : Run) → flat new ≡ insert (flat bs) i x → i ≤ length (flat bs) → 0 < x.len → size_in (flat bs) + x.len < 2 ^ 32
      → added ≡ undeleted_of x.newest x.len → weight new + 128 * length new ≤ weight bs + 128 * length bs + 1 → 0 < room → 0 < length new → AreBlocks new sums' (count + 1) (u + added) (room - 1) cap' scap'
  blocks_insert i added x list l some few a more roomy there =
      let n : length (flat new) ≡ length (flat bs) + 1 = ap length list ∙ length-insert (flat bs) i x l in
      record {
        counted = subst (λ t. AreCounted t (u + added)) (sym list) (counted_insert (flat bs) i u added x some few a kept.counted);
        count_is = omega (arith, n, kept.count_is);
        sums_are = sums_are;
        small = small;
        roomy = omega (arith, kept.roomy, more, roomy, caps);
        sums_roomy = omega (arith, kept.sums_roomy, more, roomy, scaps);
        begun = λ _. there;
      }

  pub blocks_remove : (i out : ℕ) (old : Run) → flat new ≡ remove (flat bs) i → slice_get (flat bs) i ≡ Some old → out ≡ undeleted_of old.newest old.len
      → weight new ≤ weight bs → length new ≡ length bs → AreBlocks new sums' (count - 1) (u - out) room cap' scap'
  blocks_remove i out old list e o less long =
      let l = slice_get_within (flat bs) i old e in
      let n : length (flat new) ≡ length (remove (flat bs) i) = ap length list in
      record {
        counted = subst (λ t. AreCounted t (u - out)) (sym list) (counted_remove (flat bs) i u out old l (sym (get_or_from_slice_get (flat bs) i old old e)) o kept.counted);
        count_is = omega (arith, n, length-remove (flat bs) i l, kept.count_is);
        sums_are = sums_are;
        small = small;
        roomy = omega (arith, kept.roomy, less, long, caps);
        sums_roomy = omega (arith, kept.sums_roomy, less, long, scaps);
        begun = λ m. omega (arith, kept.begun m, long);
      }

  -- the same runs, with room for more
  pub blocks_reserved : (room' : ℕ) → flat new ≡ flat bs → room' + weight new + 128 * length new ≤ 128 * cap' → room' + weight new + 128 * length new ≤ 128 * scap' → 0 < length new
      → AreBlocks new sums' count u room' cap' scap'
  blocks_reserved room' same roomy sums_roomy there = record {
    counted = subst (λ t. AreCounted t u) (sym same) kept.counted;
    count_is = kept.count_is ∙ ap length (sym same);
    sums_are = sums_are;
    small = small;
    roomy = roomy;
    sums_roomy = sums_roomy;
    begun = λ _. there;
  }

-- how far blocks can be filled
pub weight_most : (bs : List (List Run)) → All IsFilled bs → weight bs ≤ 128 * length bs
weight_most [] all = omega arith
weight_most (b ∷ bs) all =
    let h : length b ≤ 256 = All-head IsFilled b bs all in
    let s : weight (b ∷ bs) ≡ over_half b + weight bs = sum_by-cons over_half b bs in
    omega (arith, h, s, weight_most bs (All-tail IsFilled b bs all))
