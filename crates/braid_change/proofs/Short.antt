-- A spelling is short: its length is a number of 64 bits.
use Rattle.std.proofs.Common.{◌≡◌, ℕ, ◌+◌, ◌*◌, ◌<◌, ◌≤◌, ◌^◌, ◌==◌, ◌||◌, Bool, true, false, List, [], ◌∷◌, ◌++◌, arith, cond, min, ◌-◌, length, length-append, flat_map, codes, decimal, encode_utf8_all}
use Rattle.std.specs.List.{AllByRecursion}
use Rattle.std.proofs.lemmas.Fmt.{length-decimal-le_succ}
use Rattle.braid_ids.specs.Identifiers.{IsIdentifier, escaped, spelled_id}
use Rattle.braid_change.specs.Changes.{patches_content, AreListed, AreNumbered, IsShaped}
use Rattle.braid_change.specs.Updates.{UpdateView, IsUpdate}
use Rattle.braid_change.specs.Spellings.{list_text, length_text, content_text, range_text, patch_text, change_text, canonical}
use Rattle.braid_change.specs.declared.patch.Patch.{Patch}
use Rattle.braid_change.specs.declared.change.Change.{Change}
use Rattle.braid_change.specs.declared.change.Change.TheVariants.{Body, Patches}

-- lists one behind the other are as long as both
both : (a b : List ℕ) (m n : ℕ) → length a ≤ m → length b ≤ n → length (a ++ b) ≤ m + n
both a b m n p q = omega (arith, length-append a b, p, q)

escaped_short : (byte : ℕ) → length (escaped byte) ≤ 2
escaped_short byte = go ((byte == 34) || (byte == 92))
  where
    go : (b : Bool) → length (cond b (92 ∷ byte ∷ []) (byte ∷ [])) ≤ 2
    go true = omega arith
    go false = omega arith

all_escaped_short : (bytes : List ℕ) → length (flat_map escaped bytes) ≤ 2 * length bytes
all_escaped_short [] = omega arith
all_escaped_short (x ∷ xs) = omega (arith, length-append (escaped x) (flat_map escaped xs), escaped_short x, all_escaped_short xs)

id_short : (id : List ℕ) → IsIdentifier id → length (spelled_id id) ≤ 258
id_short id i =
    let all = all_escaped_short id in
    let short = i.short in
    omega (arith, length-append (34 ∷ flat_map escaped id) (34 ∷ []), all, short)

others_short : (ids : List (List ℕ)) → AllByRecursion IsIdentifier ids → length (flat_map (λ (other : List ℕ). 44 ∷ 32 ∷ spelled_id other) ids) ≤ 260 * length ids
others_short [] a = omega arith
others_short (id ∷ ids) a =
    omega (arith, length-append (44 ∷ 32 ∷ spelled_id id) (flat_map (λ (other : List ℕ). 44 ∷ 32 ∷ spelled_id other) ids), id_short id a.0, others_short ids a.1)

parents_short : (ids : List (List ℕ)) → AllByRecursion IsIdentifier ids → length (list_text ids) ≤ 260 * length ids
parents_short [] a = omega arith
parents_short (id ∷ ids) a =
    omega (arith, length-append (spelled_id id) (flat_map (λ (other : List ℕ). 44 ∷ 32 ∷ spelled_id other) ids), id_short id a.0, others_short ids a.1)

length_short : (text : List ℕ) → length (encode_utf8_all text) < 2 ^ 64 → length (length_text text) ≤ 17 + length (encode_utf8_all text)
length_short text h = omega (arith, length-append (codes "Content-Length: ") (decimal (length (encode_utf8_all text))), length-decimal-le_succ (length (encode_utf8_all text)) h)

content_short : (text : List ℕ) → length (content_text text) ≤ 6 + length (encode_utf8_all text)
content_short text = omega (arith, length-append (codes "\r\n\r\n" ++ encode_utf8_all text) (codes "\r\n"), length-append (codes "\r\n\r\n") (encode_utf8_all text))

range_short : (start end : ℕ) → start < 2 ^ 32 → end < 2 ^ 32 → length (range_text start end) ≤ 10 + start + end
range_short start end s e =
    let one = both (codes "text [") (decimal start) 6 (start + 1) (omega arith) (length-decimal-le_succ start (omega arith)) in
    let two = both (codes "text [" ++ decimal start) (codes ":") _ 1 one (omega arith) in
    let three = both (codes "text [" ++ decimal start ++ codes ":") (decimal end) _ (end + 1) two (length-decimal-le_succ end (omega arith)) in
    let four = both (codes "text [" ++ decimal start ++ codes ":" ++ decimal end) (codes "]") _ 1 three (omega arith) in
    omega (arith, four)

patch_short : (p : Patch) → p.start < 2 ^ 32 → p.end < 2 ^ 32 → length (encode_utf8_all p.text) ≤ 1_048_576 → length (patch_text p) ≤ 9_000_000_000 + 2 * length (encode_utf8_all p.text)
patch_short p s e h =
    let len : length (encode_utf8_all p.text) < 2 ^ 64 = omega arith in
    let one = both (length_text p.text) (codes "\r\nContent-Range: ") _ 17 (length_short p.text len) (omega arith) in
    let two = both (length_text p.text ++ codes "\r\nContent-Range: ") (range_text p.start p.end) _ _ one (range_short p.start p.end s e) in
    let three = both (length_text p.text ++ codes "\r\nContent-Range: " ++ range_text p.start p.end) (content_text p.text) _ _ two (content_short p.text) in
    omega (arith, three)

all_patches_short : (low : ℕ) (ps : List Patch) → AreListed low ps → AreNumbered ps → length (patches_content ps) ≤ 1_048_576 → length (flat_map patch_text ps) ≤ 9_000_000_000 * length ps + 2 * length (patches_content ps)
all_patches_short low [] l n h = omega arith
all_patches_short low (p ∷ ps) l n h =
    let content : length (patches_content (p ∷ ps)) ≡ length (encode_utf8_all p.text) + length (patches_content ps) = length-append (encode_utf8_all p.text) (patches_content ps) in
    let first = patch_short p (omega (arith, l.1, n.0)) n.0 (omega (arith, content, h)) in
    let rest = all_patches_short p.end ps l.2 n.1 (omega (arith, content, h)) in
    omega (arith, length-append (patch_text p) (flat_map patch_text ps), content, first, rest)

change_short : (change : Change) → IsShaped change → length (change_text change) ≤ 9_100_000_000_000
change_short (Body text) s =
    let short = s.short in
    let one = length_short text (omega (arith, short)) in
    let two = content_short text in
    omega (arith, length-append (length_text text) (content_text text), one, two, short)
change_short (Patches ps) s =
    let few = s.few in
    let short = s.short in
    let one = both (codes "Patches: ") (decimal (length ps)) 9 (length ps + 1) (omega arith) (length-decimal-le_succ (length ps) (omega (arith, few))) in
    let two = both (codes "Patches: " ++ decimal (length ps)) (codes "\r\n\r\n") _ 4 one (omega arith) in
    let three = both (codes "Patches: " ++ decimal (length ps) ++ codes "\r\n\r\n") (flat_map patch_text ps) _ _ two (all_patches_short 0 ps s.listed s.numbered short) in
    omega (arith, three, few, short)

-- the spelling of an update that the program can hold
pub canonical_short : (u : UpdateView) → IsUpdate u → length (canonical u) < 2 ^ 64
canonical_short u i =
    let few = i.built.few_parents in
    let one = both (codes "Version: ") (spelled_id u.id) 9 _ (omega arith) (id_short u.id i.identifier) in
    let two = both (codes "Version: " ++ spelled_id u.id) (codes "\r\nParents:") _ 10 one (omega arith) in
    let three = both (codes "Version: " ++ spelled_id u.id ++ codes "\r\nParents:") (list_text u.parents) _ _ two (parents_short u.parents i.identifiers) in
    let four = both (codes "Version: " ++ spelled_id u.id ++ codes "\r\nParents:" ++ list_text u.parents) (codes "\r\n") _ 2 three (omega arith) in
    let five = both (codes "Version: " ++ spelled_id u.id ++ codes "\r\nParents:" ++ list_text u.parents ++ codes "\r\n") (change_text u.change) _ _ four (change_short u.change i.built.shaped) in
    let six = both (codes "Version: " ++ spelled_id u.id ++ codes "\r\nParents:" ++ list_text u.parents ++ codes "\r\n" ++ change_text u.change) (codes "\r\n") _ 2 five (omega arith) in
    omega (arith, six, few)

-- a count of all bytes of such a spelling is exact
pub counted_all : (u : UpdateView) (n m : ℕ) → IsUpdate u → m ≡ 0 → n ≡ min (m + length (canonical u)) (2 ^ 64 - 1) → n ≡ length (canonical u)
counted_all u n m i z e = omega (arith, canonical_short u i, z, e)
