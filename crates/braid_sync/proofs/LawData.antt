-- The data of a body, as its bytes come.
use Rattle.std.proofs.Common.{◌≡◌, ◌≢◌, ℕ, append_assoc, append-nil, List, [], ◌∷◌, ◌++◌, inl, inr, ◌⊎◌, refl, ap, sym, subst, ◌∙◌, length, arith, length-append}
use Rattle.std.proofs.lemmas.List.{append_cancel_left, nil_from_length, same_from_push}
use Rattle.braid_http.specs.declared.response.BodyKind.{BodyKind}
use Rattle.braid_http.specs.declared.response.BodyKind.TheVariants.{Length, Chunked, ToClose}
use Rattle.braid_http.specs.Bodies.{IsBody, HasBegun, IsAgainst, IsAgainstChunks}
use Rattle.braid_http.proofs.BodyLaws.{one_chunked, has_one_state}
use Rattle.braid_sync.specs.Hearing.{HasData}
use Rattle.braid_sync.proofs.LawFronts.{compare, same_both, no_more}
use Rattle.braid_sync.proofs.LawChunks.{Come, come, whole_come, come_grows, against_same}

-- nothing of a list is left where it is put behind one that is as long
behind_all : {A : Type 0} → (p q x : List A) → p ≡ q → q ≡ p ++ x → x ≡ []
behind_all p q x e f = no_more p x (e ∙ f)

-- a byte that stands last among more bytes is one of those, or all are the same
one_behind : (b front x : List ℕ) (z : ℕ) → front ++ z ∷ [] ≡ b ++ x → (front ++ z ∷ [] ≡ b) ⊎ ((y : List ℕ) × (front ≡ b ++ y))
one_behind b front x z e = elim (compare b x front (z ∷ []) (sym e)) [ inl k ↦ inr (k.0, k.1) | inr k ↦ go k.0 k.1 (rest k.0 k.1) ]
  where
    rest : (w : List ℕ) → b ≡ front ++ w → z ∷ [] ≡ w ++ x
    rest w f = append_cancel_left front (z ∷ []) (w ++ x) (e ∙ ap (λ v. v ++ x) f ∙ append_assoc front w x)

    go : (w : List ℕ) → b ≡ front ++ w → z ∷ [] ≡ w ++ x → (front ++ z ∷ [] ≡ b) ⊎ ((y : List ℕ) × (front ≡ b ++ y))
    go [] f g = inr ([], sym (append-nil b ∙ f ∙ append-nil front))
    go (a ∷ []) f g = let h : z ≡ a = cc in inl (ap (λ v. front ++ v ∷ []) h ∙ sym f)
    go (a ∷ c ∷ w) f g = let n = ap length g in absurd (omega (arith, n))

-- what has come of a chunked body, whole or not
come_of : (content b : List ℕ) → HasBegun Chunked content b ⊎ IsBody Chunked content b → Come content b
come_of content b (inl h) = come content b h
come_of content b (inr h) = whole_come content b h

not_against : (content b : List ℕ) → HasBegun Chunked content b ⊎ IsBody Chunked content b → IsAgainstChunks b → ⊥
not_against content b (inl h) k = has_one_state.against_or_begun content b b [] k h (sym (append-nil b))
not_against content b (inr h) k = has_one_state.whole_or_against content b b [] [] h k refl

-- nothing comes behind bytes that are against a body
pub against_last : (kind : BodyKind) (c b d e x : List ℕ) → IsAgainst kind c b → HasData kind d e → e ≡ b ++ x → x ≡ []
against_last (Length n) c b d e x h k w = let f = h.chunked in cc
against_last ToClose c b d e x h k w = let f = h.chunked in cc
against_last Chunked c b d e x h (inl k) w = absurd (has_one_state.against_or_begun d e b x h.against k w)
against_last Chunked c b d e x h (inr (inl k)) w = absurd (has_one_state.whole_or_against d e b [] x k h.against (append-nil e ∙ w))
against_last Chunked c b d e x h (inr (inr k)) w = behind_all b e x (sym (against_same e b [] x k.against h.against (append-nil e ∙ w))) w

-- nothing comes behind a whole body, but where it ends with its source
pub whole_last : (kind : BodyKind) (c b d e x : List ℕ) → kind ≢ ToClose → IsBody kind c b → HasData kind d e → e ≡ b ++ x → x ≡ []
whole_last ToClose c b d e x n h k w = absurd (n refl)
whole_last (Length n) c b d e x f h (inl k) w = let m = ap length w in let l = h.1 in let s = k.1 in absurd (omega (arith, m, l, s, length-append b x))
whole_last (Length n) c b d e x f h (inr (inl k)) w = let m = ap length w in let l = h.1 in let s = k.1 in nil_from_length x (omega (arith, m, l, s, length-append b x))
whole_last (Length n) c b d e x f h (inr (inr k)) w = let g = k.chunked in cc
whole_last Chunked c b d e x f h (inl k) w = absurd (has_one_state.whole_or_begun c d e b x h k w)
whole_last Chunked c b d e x f h (inr (inl k)) w = behind_all b e x (one_chunked c d b e x [] h k (sym w ∙ sym (append-nil e))).1 w
whole_last Chunked c b d e x f h (inr (inr k)) w = absurd (has_one_state.whole_or_against c b e x [] h k.against (sym w ∙ sym (append-nil e)))

-- a body is not whole and against its bytes, nor begun only and against them; nor whole and begun only, but where it ends with its source
pub not_whole_and_against : (kind : BodyKind) (c d b : List ℕ) → IsBody kind c b → IsAgainst kind d b → ⊥
not_whole_and_against (Length n) c d b h k = let f = k.chunked in cc
not_whole_and_against ToClose c d b h k = let f = k.chunked in cc
not_whole_and_against Chunked c d b h k = has_one_state.whole_or_against c b b [] [] h k.against refl

pub not_begun_and_against : (kind : BodyKind) (c d b : List ℕ) → HasBegun kind c b → IsAgainst kind d b → ⊥
not_begun_and_against (Length n) c d b h k = let f = k.chunked in cc
not_begun_and_against ToClose c d b h k = let f = k.chunked in cc
not_begun_and_against Chunked c d b h k = has_one_state.against_or_begun c b b [] k.against h (sym (append-nil b))

pub not_begun_and_whole : (kind : BodyKind) (c d b x e : List ℕ) → kind ≢ ToClose → IsBody kind c b → HasBegun kind d e → e ≡ b ++ x → ⊥
not_begun_and_whole ToClose c d b x e n h k w = n refl
not_begun_and_whole (Length n) c d b x e f h k w = let m = ap length w in let l = h.1 in let s = k.1 in omega (arith, m, l, s, length-append b x)
not_begun_and_whole Chunked c d b x e f h k w = has_one_state.whole_or_begun c d e b x h k w

-- one of three as one of two
part_or_against : (c b : List ℕ) → HasData Chunked c b → (HasBegun Chunked c b ⊎ IsBody Chunked c b) ⊎ IsAgainst Chunked c b
part_or_against c b (inl h) = inl (inl h)
part_or_against c b (inr (inl h)) = inl (inr h)
part_or_against c b (inr (inr h)) = inr h

against_all : (c b d e x : List ℕ) → IsAgainst Chunked c b → HasData Chunked d e → e ≡ b ++ x → b ≡ e
against_all c b d e x i k w = sym (w ∙ ap (λ v. b ++ v) (against_last Chunked c b d e x i k w) ∙ append-nil b)

parts_grow : (c b d e x : List ℕ) → HasData Chunked d e → e ≡ b ++ x → (HasBegun Chunked c b ⊎ IsBody Chunked c b) ⊎ IsAgainst Chunked c b → (HasBegun Chunked d e ⊎ IsBody Chunked d e) ⊎ IsAgainst Chunked d e
    → (y : List ℕ) × (d ≡ c ++ y)
parts_grow c b d e x k w (inl i) (inl j) = come_grows c b d e x (come_of c b i) (come_of d e j) w
parts_grow c b d e x k w (inl i) (inr j) = elim (one_behind b j.front x j.last (sym j.whole ∙ w)) [
  | inl s ↦ absurd (not_against c b i (subst IsAgainstChunks (j.whole ∙ s) j.against))
  | inr s ↦ come_grows c b d j.front s.0 (come_of c b i) (come d j.front j.come) s.1
]
parts_grow c b d e x k w (inr i) (inl j) = absurd (not_against d e j (subst IsAgainstChunks (against_all c b d e x i k w) i.against))
parts_grow c b d e x k w (inr i) (inr j) =
    let s = same_from_push i.front j.front i.last j.last (sym i.whole ∙ against_all c b d e x i k w ∙ j.whole) in
    come_grows c i.front d j.front [] (come c i.front i.come) (come d j.front j.come) (sym s.0 ∙ sym (append-nil i.front))

chunked_grows : (c b d e x : List ℕ) → HasData Chunked c b → HasData Chunked d e → e ≡ b ++ x → (y : List ℕ) × (d ≡ c ++ y)
chunked_grows c b d e x h k w = parts_grow c b d e x k w (part_or_against c b h) (part_or_against d e k)

plain_grows : (c b d e x : List ℕ) → c ≡ b → d ≡ e → e ≡ b ++ x → (y : List ℕ) × (d ≡ c ++ y)
plain_grows c b d e x h k w = (x, k ∙ w ∙ ap (λ v. v ++ x) (sym h))

length_data : (n : ℕ) (c b : List ℕ) → HasData (Length n) c b → c ≡ b
length_data n c b (inl h) = h.0
length_data n c b (inr (inl h)) = h.0
length_data n c b (inr (inr h)) = let f = h.chunked in cc

close_data : (c b : List ℕ) → HasData ToClose c b → c ≡ b
close_data c b (inl h) = h
close_data c b (inr (inl h)) = h
close_data c b (inr (inr h)) = let f = h.chunked in cc

-- the data of more bytes of a body begins with that of fewer
pub data_grows : (kind : BodyKind) (c b d e x : List ℕ) → HasData kind c b → HasData kind d e → e ≡ b ++ x → (y : List ℕ) × (d ≡ c ++ y)
data_grows (Length n) c b d e x h k w = plain_grows c b d e x (length_data n c b h) (length_data n d e k) w
data_grows Chunked c b d e x h k w = chunked_grows c b d e x h k w
data_grows ToClose c b d e x h k w = plain_grows c b d e x (close_data c b h) (close_data d e k) w

-- the same bytes have one data
pub one_data : (kind : BodyKind) (c d b : List ℕ) → HasData kind c b → HasData kind d b → c ≡ d
one_data kind c d b h k =
    let x = data_grows kind c b d b [] h k (sym (append-nil b)) in
    let y = data_grows kind d b c b [] k h (sym (append-nil b)) in
    same_both c d x.0 y.0 x.1 y.1

-- No data comes behind these bytes: what may stand behind them, `rest`, is none of the body's.
abbrev pub IsLast : BodyKind → List ℕ → List ℕ → Type 0
IsLast kind passed rest = (d e r : List ℕ) → HasData kind d e → e ++ r ≡ passed ++ rest → (x : List ℕ) × (passed ≡ e ++ x)

pub last_of_all : (kind : BodyKind) (passed rest : List ℕ) → rest ≡ [] → IsLast kind passed rest
last_of_all kind passed rest z d e r h w = (r, sym (w ∙ ap (λ v. passed ++ v) z ∙ append-nil passed))

from_end : (kind : BodyKind) (passed rest : List ℕ) → ((d e x : List ℕ) → HasData kind d e → e ≡ passed ++ x → x ≡ []) → IsLast kind passed rest
from_end kind passed rest ends d e r h w = elim (compare passed rest e r (sym w)) [
  | inl k ↦ ([], sym (k.1 ∙ ap (λ v. passed ++ v) (ends d e k.0 h k.1) ∙ append-nil passed) ∙ sym (append-nil e))
  | inr k ↦ k
]

pub last_against : (kind : BodyKind) (c passed rest : List ℕ) → IsAgainst kind c passed → IsLast kind passed rest
last_against kind c passed rest h = from_end kind passed rest (λ d e x k w. against_last kind c passed d e x h k w)

pub last_whole : (kind : BodyKind) (c passed rest : List ℕ) → kind ≢ ToClose → IsBody kind c passed → IsLast kind passed rest
last_whole kind c passed rest n h = from_end kind passed rest (λ d e x k w. whole_last kind c passed d e x n h k w)
