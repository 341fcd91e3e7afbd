-- The bytes of a connection, cut into requests.
use Rattle.std.specs.Prelude.{◌≡◌, ◌≢◌, ℕ, ◌+◌, ◌<◌, ◌||◌, Bool, true, false, List, [], ◌∷◌, ◌++◌, nat_le}
use Rattle.braid_http.specs.declared.request.Request.{Request}
use Rattle.braid_http.specs.declared.refusal.Refusal.{Refusal}
use Rattle.braid_http.specs.Requests.{Decides, asked, refused, IsOpen}

-- After n requests, of which the last asked to close or not, these are the next of the bytes, and `rest` stands behind
-- them. None follows one that asks to close, and there are at most 10,000.
abbrev pub Cuts : ℕ → Bool → List ℕ → List Request → List ℕ → Type 0
Cuts n closed bytes [] rest = bytes ≡ rest
Cuts n closed bytes (q ∷ qs) rest =
    (n < 10_000) × (closed ≡ false)
    × (b : List ℕ) × (after : List ℕ) × Decides (asked q) b × (bytes ≡ b ++ after) × Cuts (n + 1) q.close after qs rest

-- no request may follow these
abbrev pub is_over : ℕ → Bool → List Request → Bool
is_over n closed [] = closed || nat_le 10_000 n
is_over n closed (q ∷ qs) = is_over (n + 1) q.close qs

-- what stands after the requests
pub data Tail : Type 0 where
  nothing : Tail
  part : Tail
  refusal : Refusal → Tail
  unseen : Tail

abbrev pub Stands : Tail → List ℕ → Type 0
Stands nothing rest = rest ≡ []
Stands part rest = (rest ≢ []) × IsOpen rest
Stands (refusal f) rest = (b more : List ℕ) × Decides (refused f) b × (rest ≡ b ++ more)
Stands unseen rest = ⊥

abbrev pub TailIs : Bool → Tail → List ℕ → Type 0
TailIs true tail rest = tail ≡ unseen
TailIs false tail rest = Stands tail rest

-- the requests of the bytes, and what stands after them
pub record Requests (bytes : List ℕ) (qs : List Request) (tail : Tail) : Type 0 where
  pub rest : List ℕ
  pub cut : Cuts 0 false bytes qs rest
  pub tail_is : TailIs (is_over 0 false qs) tail rest

-- bytes are cut in one way
abbrev pub OneCut : Type 0
OneCut = (bytes : List ℕ) (qs ps : List Request) (tail end : Tail) → Requests bytes qs tail → Requests bytes ps end
    → (qs ≡ ps) × (tail ≡ end)
