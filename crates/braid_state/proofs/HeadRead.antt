-- A head that is read line by line.
use Rattle.std.proofs.Common.{◌≡◌, ◌≢◌, ℕ, ◌+◌, ◌<◌, ◌≤◌, min, decimal, List, ◌∷◌, ◌++◌, take, refl, sym, ap, ◌∙◌, subst, arith}
use Rattle.braid_state.specs.declared.line.Line.TheVariants.{Server, Path, Confirmed, Unsent, Empty}
use Rattle.braid_fields.specs.Places.{IsServer, IsPath}
use Rattle.braid_state.specs.Heads.{Head, head_lines, name_of, HasLines, IsCount, count_of}
use Rattle.braid_state.specs.StateFaults.{LacksLine}
use Rattle.braid_state.proofs.Counts.{count_is}
use Rattle.braid_state.proofs.Lines.{bad_line, one_more, value_is, count_lacks}

-- no line of a server, and none of a path behind it
pub bad_server : (head : Head) (bytes whole : List ℕ) → ((server more : List ℕ) → IsServer server → bytes ≢ name_of Server ++ (server ++ 10 ∷ more)) → HasLines (take 2 head_lines) head bytes whole → LacksLine bytes whole
bad_server head bytes whole none h = bad_line 2 Server head bytes whole (omega arith) refl h (λ other more same form. none other.server more form)

three : (head : Head) (server bytes rest whole : List ℕ) → IsServer server → bytes ≡ name_of Server ++ (server ++ 10 ∷ rest) → HasLines (take 2 head_lines) head bytes whole → HasLines (take 3 head_lines) (record head { server = server }) rest whole
three head server bytes rest whole is e h = one_more (take 2 head_lines) Server (record head { server = server }) bytes rest whole (record { forms = h.forms; spelled = h.spelled }) is e

pub bad_path : (head : Head) (server bytes rest whole : List ℕ) → IsServer server → bytes ≡ name_of Server ++ (server ++ 10 ∷ rest) → ((path more : List ℕ) → IsPath path → rest ≢ name_of Path ++ (path ++ 10 ∷ more))
    → HasLines (take 2 head_lines) head bytes whole → LacksLine rest whole
bad_path head server bytes rest whole is e none h = bad_line 3 Path (record head { server = server }) rest whole (omega arith) refl (three head server bytes rest whole is e h) (λ other more same form. none other.path more form)

-- no count of confirmed updates
pub bad_confirmed : (head : Head) (bytes whole : List ℕ) → ((digits more : List ℕ) → IsCount digits → bytes ≢ name_of Confirmed ++ (digits ++ 10 ∷ more)) → HasLines (take 4 head_lines) head bytes whole → LacksLine bytes whole
bad_confirmed head bytes whole none h = bad_line 4 Confirmed head bytes whole (omega arith) refl h (λ other more same form. none other.confirmed more form)

-- a count, as it is read, in its line
abbrev pub IsCounted : ℕ → List ℕ → Type 0
IsCounted n digits = IsCount digits × (n ≡ min (count_of digits) 524_289)

five : (head : Head) (digits bytes rest whole : List ℕ) → IsCount digits → bytes ≡ name_of Confirmed ++ (digits ++ 10 ∷ rest) → HasLines (take 4 head_lines) head bytes whole → HasLines (take 5 head_lines) (record head { confirmed = digits }) rest whole
five head digits bytes rest whole is e h = one_more (take 4 head_lines) Confirmed (record head { confirmed = digits }) bytes rest whole (record { forms = h.forms; spelled = h.spelled }) is e

pub bad_unsent : (head : Head) (digits bytes rest whole : List ℕ) → IsCount digits → bytes ≡ name_of Confirmed ++ (digits ++ 10 ∷ rest) → ((other more : List ℕ) → IsCount other → rest ≢ name_of Unsent ++ (other ++ 10 ∷ more))
    → HasLines (take 4 head_lines) head bytes whole → LacksLine rest whole
bad_unsent head digits bytes rest whole is e none h =
    bad_line 5 Unsent (record head { confirmed = digits }) rest whole (omega arith) refl (five head digits bytes rest whole is e h) (λ other more same form. none other.unsent more form.0)

-- too many updates
pub bad_sum : (head : Head) (n m : ℕ) (digits others bytes rest after whole : List ℕ) → IsCounted n digits → IsCounted m others → 524_288 < n + m → bytes ≡ name_of Confirmed ++ (digits ++ 10 ∷ rest) → rest ≡ name_of Unsent ++ (others ++ 10 ∷ after)
    → HasLines (take 4 head_lines) head bytes whole → LacksLine rest whole
bad_sum head n m digits others bytes rest after whole is are l e f h =
    bad_line 5 Unsent (record head { confirmed = digits }) rest whole (omega arith) refl (five head digits bytes rest whole is.0 e h)
    (λ other more same form g.
    let unsent = (value_is Unsent others other.unsent rest after more (count_lacks others are.0) f (count_lacks other.unsent form.0) g).0 in
    let confirmed : digits ≡ other.confirmed = same.1.1.1.1.0 in
    omega (arith, form.1, ap count_of confirmed, ap count_of unsent, is.1, are.1))

six : (head : Head) (n m : ℕ) (digits others bytes rest after whole : List ℕ) → IsCounted n digits → IsCounted m others → n + m ≤ 524_288 → bytes ≡ name_of Confirmed ++ (digits ++ 10 ∷ rest) → rest ≡ name_of Unsent ++ (others ++ 10 ∷ after)
    → HasLines (take 4 head_lines) head bytes whole → HasLines (take 6 head_lines) (record head { confirmed = digits; unsent = others }) after whole
six head n m digits others bytes rest after whole is are l e f h =
    let k = five head digits bytes rest whole is.0 e h in
    let few : count_of digits + count_of others ≤ 524_288 = omega (arith, is.1, are.1) in
    one_more (take 5 head_lines) Unsent (record head { confirmed = digits; unsent = others }) rest after whole (record { forms = k.forms; spelled = k.spelled }) (are.0, few) f

-- no empty line behind the counts
pub bad_empty : (head : Head) (n m : ℕ) (digits others bytes rest after whole : List ℕ) → IsCounted n digits → IsCounted m others → n + m ≤ 524_288 → bytes ≡ name_of Confirmed ++ (digits ++ 10 ∷ rest) → rest ≡ name_of Unsent ++ (others ++ 10 ∷ after)
    → ((more : List ℕ) → after ≢ name_of Empty ++ 10 ∷ more) → HasLines (take 4 head_lines) head bytes whole → LacksLine after whole
bad_empty head n m digits others bytes rest after whole is are l e f none h =
    bad_line 6 Empty (record head { confirmed = digits; unsent = others }) after whole (omega arith) refl (six head n m digits others bytes rest after whole is are l e f h) (λ other more same form. none more)

-- the whole head
pub whole_head : (head : Head) (n m : ℕ) (digits others bytes rest after last whole : List ℕ) → IsCounted n digits → IsCounted m others → n + m ≤ 524_288 → bytes ≡ name_of Confirmed ++ (digits ++ 10 ∷ rest) → rest ≡ name_of Unsent ++ (others ++ 10 ∷ after)
    → after ≡ name_of Empty ++ 10 ∷ last → head.confirmed ≡ decimal n → head.unsent ≡ decimal m → HasLines (take 4 head_lines) head bytes whole → HasLines head_lines head last whole
whole_head head n m digits others bytes rest after last whole is are l e f g c u h =
    let confirmed : digits ≡ head.confirmed = (count_is digits n is.0 is.1 (omega arith)).1 ∙ sym c in
    let unsent : others ≡ head.unsent = (count_is others m are.0 are.1 (omega arith)).1 ∙ sym u in
    let same : record head { confirmed = digits; unsent = others } ≡ head = λ k. record head { confirmed = confirmed k; unsent = unsent k } in
    one_more (take 6 head_lines) Empty head after last whole (subst (λ k. HasLines (take 6 head_lines) k after whole) same (six head n m digits others bytes rest after whole is are l e f h)) tt g
