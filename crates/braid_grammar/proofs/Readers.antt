-- The readers of patches and updates.
use Rattle.std.proofs.Common.{◌≡◌, ℕ, zero, suc, ◌+◌, ◌<◌, true, List, [], ◌∷◌, length, take, refl, ap, ◌∙◌, ltb, arith}
use Rattle.std.proofs.lemmas.Bool.{lt-ltb}
use Rattle.std.proofs.lemmas.List.{take_all}
use Rattle.braid_fields.specs.declared.plan.Asks.{Asks}
use Rattle.braid_fields.specs.declared.plan.Asks.TheVariants as asks
use Rattle.braid_fields.specs.Table.{judge_head, judge_patch}
use Rattle.braid_grammar.specs.Lines.{lines_of}
use Rattle.braid_grammar.specs.Heads.{Verdict, Open, some_fields_of, head_of}
use Rattle.braid_grammar.specs.Outcomes.{Part, head_limit, settle, head_at}
use Rattle.braid_grammar.specs.Readings.{patch_len, patch_at, patches_at, change_at, update_at, next_at}
use Rattle.braid_grammar.proofs.Stable.{IsStable, then_extends, or_extends, judge_fields, judge_heads, head_stable, content_stable, IsReader, gap_stable}

pub limit_is : head_limit ≡ 16_384
unfolding head_limit
limit_is = refl

pub limit_some : 1 < head_limit
unfolding head_limit
limit_some = omega arith

-- bytes within the limit whose lines say nothing yet are no head
pub head_open : (judge : List (List ℕ) → Verdict) (at : ℕ) (b : List ℕ) → length b < head_limit → judge (lines_of b) ≡ Open → head_at judge at b ≡ Part
head_open judge at b l e =
    let t : take head_limit b ≡ b = take_all head_limit b (omega arith) in
    let c : ltb (length b) head_limit ≡ true = lt-ltb (length b) head_limit l in
    ap (λ x. settle at b (judge (lines_of x))) t ∙ ap (settle at b) e ∙ rw c refl

pub patch_reader : (used before : ℕ) → IsReader (patch_at used before)
patch_reader used before = record {
  stable = λ at b m. then_extends _ _ _ m (head_stable some_fields_of judge_fields at b m) (λ fs after rest.
      or_extends at (judge_patch used before fs) _ _ m (λ p. then_extends _ _ _ m (content_stable p.len after rest m) (λ text last end. refl)));
  none = λ at. rw (head_open some_fields_of at [] (omega (arith, limit_some)) refl) refl;
  cr = λ at. rw (head_open some_fields_of at (13 ∷ []) limit_some refl) refl;
}

pub patches_stable : (n used before : ℕ) → IsStable (patches_at n used before)
patches_stable zero used before at b m = refl
patches_stable (suc n) used before at b m = then_extends _ _ _ m (gap_stable (patch_at used before) (patch_reader used before) at b m) (λ p after rest.
    then_extends _ _ _ m (patches_stable n (used + patch_len p) p.end after rest m) (λ ps last end. refl))

pub change_stable : (asks : Asks) → IsStable (change_at asks)
change_stable (asks.Body n) at b m = then_extends _ _ _ m (content_stable n at b m) (λ text last end. refl)
change_stable (asks.OnePatch plan) at b m = then_extends _ _ _ m (content_stable plan.len at b m) (λ text last end. refl)
change_stable (asks.Patches n) at b m = then_extends _ _ _ m (patches_stable n 0 0 at b m) (λ ps last end. refl)

pub update_reader : IsReader update_at
update_reader = record {
  stable = λ at b m. then_extends _ _ _ m (head_stable head_of judge_heads at b m) (λ fs after rest.
      or_extends at (judge_head fs) _ _ m (λ plan. then_extends _ _ _ m (change_stable plan.asks after rest m) (λ c last end. refl)));
  none = λ at. rw (head_open head_of at [] (omega (arith, limit_some)) refl) refl;
  cr = λ at. rw (head_open head_of at (13 ∷ []) limit_some refl) refl;
}

pub next_stable : IsStable next_at
next_stable = gap_stable update_at update_reader
