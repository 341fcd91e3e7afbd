-- A connection's bytes are cut in one way.
use Rattle.std.proofs.Common.{◌≡◌, ℕ, ◌+◌, ◌<◌, Bool, true, false, true≢false, ◌||◌, List, [], ◌∷◌, ◌++◌, refl, ap, sym, ◌∙◌, length, arith, length-append}
use Rattle.std.proofs.lemmas.List.{append_cancel_left}
use Rattle.std.proofs.lemmas.Grind.{common_steps}
use Rattle.std.specs.Prelude.{nat_le}
use Rattle.braid_http.specs.declared.request.Request.{Request}
use Rattle.braid_http.specs.declared.refusal.Refusal.{Refusal}
use Rattle.braid_http.specs.Requests.{Answer, asked, refused, Decides}
use Rattle.braid_http.specs.Cuts.{Cuts, is_over, Tail, nothing, part, refusal, unseen, Stands, TailIs, OneCut}
use Rattle.braid_http.proofs.Decisions.{one_answer}
use Rattle.braid_http.proofs.Sizes.{decides_some}

never_empty : (x : Answer) (b rest : List ℕ) → Decides x b → [] ≡ b ++ rest → ⊥
never_empty x b rest d e = let k = ap length e ∙ length-append b rest in let s = decides_some x b d in omega (arith, k, s)

same_request : (q p : Request) → asked q ≡ asked p → q ≡ p
same_request q p e = cc

same_refusal : (f g : Refusal) → refused f ≡ refused g → f ≡ g
same_refusal f g e = cc

same_tail : (a b : Tail) (rest : List ℕ) → Stands a rest → Stands b rest → a ≡ b
same_tail nothing nothing rest s t = refl
same_tail nothing part rest s t = absurd (t.0 s)
same_tail nothing (refusal g) rest s t = absurd (never_empty _ t.0 t.1 t.2 (sym s ∙ t.3))
same_tail part nothing rest s t = absurd (s.0 t)
same_tail part part rest s t = refl
same_tail part (refusal g) rest s t = absurd (s.1 _ t.0 t.1 t.2 t.3)
same_tail (refusal f) nothing rest s t = absurd (never_empty _ s.0 s.1 s.2 (sym t ∙ s.3))
same_tail (refusal f) part rest s t = absurd (t.1 _ s.0 s.1 s.2 s.3)
same_tail (refusal f) (refusal g) rest s t =
    ap refusal (same_refusal f g (one_answer _ _ s.0 t.0 s.1 t.1 s.2 t.2 (sym s.3 ∙ t.3)).1)
same_tail unseen b rest s t = absurd s
same_tail nothing unseen rest s t = absurd t
same_tail part unseen rest s t = absurd t
same_tail (refusal f) unseen rest s t = absurd t

-- where a request stands, nothing else does
no_tail : (a : Tail) (q : Request) (b after rest : List ℕ) → Stands a rest → Decides (asked q) b → rest ≡ b ++ after → ⊥
no_tail nothing q b after rest s d e = never_empty _ b after d (sym s ∙ e)
no_tail part q b after rest s d e = s.1 _ b after d e
no_tail (refusal f) q b after rest s d e =
    let p = (one_answer _ _ s.0 b s.1 after s.2 d (sym s.3 ∙ e)).1 in
    let k : refused f ≡ asked q = p in cc
no_tail unseen q b after rest s d e = s

not_over : (n : ℕ) (closed : Bool) → n < 10_000 → closed ≡ false → closed || nat_le 10_000 n ≡ false
not_over n true l e = absurd (true≢false e)
not_over n false l e = grind (arith, common_steps)

same_cut : (n : ℕ) (closed : Bool) (bytes : List ℕ) (qs ps : List Request) (r s : List ℕ) (a b : Tail)
    → Cuts n closed bytes qs r → Cuts n closed bytes ps s → TailIs (is_over n closed qs) a r → TailIs (is_over n closed ps) b s → (qs ≡ ps) × (a ≡ b)
same_cut n closed bytes [] [] r s a b c d t u = (refl, go (closed || nat_le 10_000 n) t u)
  where
    go : (over : Bool) → TailIs over a r → TailIs over b s → a ≡ b
    go true t u = t ∙ sym u
    go false t u = same_tail a b r t (rw (sym d ∙ c) at u)
same_cut n closed bytes [] (p ∷ ps) r s a b c d t u =
    let stands : Stands a r = rw (not_over n closed d.0 d.1) at t in
    absurd (no_tail a p d.2 d.3 r stands d.4 (sym c ∙ d.5))
same_cut n closed bytes (q ∷ qs) [] r s a b c d t u =
    let stands : Stands b s = rw (not_over n closed c.0 c.1) at u in
    absurd (no_tail b q c.2 c.3 s stands c.4 (sym d ∙ c.5))
same_cut n closed bytes (q ∷ qs) (p ∷ ps) r s a b c d t u =
    let w = one_answer _ _ c.2 d.2 c.3 d.3 c.4 d.4 (sym c.5 ∙ d.5) in
    let same : q ≡ p = same_request q p w.1 in
    let behind : c.3 ≡ d.3 = append_cancel_left c.2 c.3 d.3 (sym c.5 ∙ d.5 ∙ ap (λ z. z ++ d.3) (sym w.0)) in
    let cut : Cuts (n + 1) q.close c.3 ps s = rw (← ap (λ (z : Request). z.close) same, ← behind) at d.6 in
    let tail : TailIs (is_over (n + 1) q.close ps) b s = rw (← ap (λ (z : Request). z.close) same) at u in
    let more = same_cut (n + 1) q.close c.3 qs ps r s a b c.6 cut t tail in
    ((λ i. same i ∷ more.0 i), more.1)

pub one_cut : OneCut
one_cut bytes qs ps a b x y = same_cut 0 false bytes qs ps x.rest y.rest a b x.cut y.cut x.tail_is y.tail_is
