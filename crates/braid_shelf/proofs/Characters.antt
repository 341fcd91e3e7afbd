-- Strings, one character at a time.
use Rattle.std.proofs.Common.{◌≡◌, ℕ, suc, ◌≤◌, Bool, true, false, cond, ◌||◌, List, [], ◌∷◌, ◌++◌, length, refl, sym, ap, ◌∙◌, subst, append_assoc, eqb, inl, inr, ◌⊎◌, flat_map}
use Rattle.std.proofs.lemmas.Bool.{ne_eqb, eqb-true, le-leb, or_parts}
use Rattle.std.proofs.lemmas.List.{append-nil}
use Rattle.braid_ids.specs.Identifiers.{escaped}
use Rattle.braid_shelf.specs.declared.fault.ShelfKind.TheVariants.{BadItem, Unclosed}
use Rattle.braid_shelf.specs.ByteClasses.{Are, is_printable, is_escaped}
use Rattle.braid_shelf.specs.Faults.{IsItemFault, unclosed, no_character, no_escape}
use Rattle.braid_shelf.specs.Reading.{Outcome, Read, Bad, string_from}
use Rattle.braid_shelf.proofs.Passing.{Are-append}

pub plain_step : (quote : ℕ) (text rest next : List ℕ) (byte : ℕ) → rest ≡ byte ∷ next → (byte ≡ 34 → ⊥) → (byte ≡ 92 → ⊥) → 32 ≤ byte → byte ≤ 126 → string_from quote (text ++ byte ∷ []) next ≡ string_from quote text rest
unfolding string_from
plain_step quote text rest [] byte e q s l h = rw (e, ne_eqb byte 34 q, le-leb 32 byte l, le-leb byte 126 h) refl
plain_step quote text rest (c ∷ next) byte e q s l h = rw (e, ne_eqb byte 34 q, ne_eqb byte 92 s, le-leb 32 byte l, le-leb byte 126 h) refl

pub escaped_step : (quote : ℕ) (text rest next : List ℕ) (byte : ℕ) → rest ≡ 92 ∷ byte ∷ next → (byte ≡ 34) ⊎ (byte ≡ 92) → string_from quote (text ++ byte ∷ []) next ≡ string_from quote text rest
unfolding string_from
escaped_step quote text rest next byte e (inl h) = rw (e, h) refl
escaped_step quote text rest next byte e (inr h) = rw (e, h) refl

plain_passes : (quote : ℕ) (text next : List ℕ) (byte : ℕ) → is_printable byte ≡ true → is_escaped byte ≡ false → string_from quote text (byte ∷ next) ≡ string_from quote (text ++ byte ∷ []) next
unfolding string_from
plain_passes quote text [] byte p e = let k = or_parts (eqb byte 34) (eqb byte 92) e in rw (k.0, p) refl
plain_passes quote text (c ∷ next) byte p e = let k = or_parts (eqb byte 34) (eqb byte 92) e in rw (k.0, p, k.1) refl

escape_passes : (quote : ℕ) (text next : List ℕ) (byte : ℕ) → is_escaped byte ≡ true → string_from quote text (92 ∷ byte ∷ next) ≡ string_from quote (text ++ byte ∷ []) next
unfolding string_from
escape_passes quote text next byte e = rw e refl

-- characters are read one after the other, whatever follows them
pub string_passes : (quote : ℕ) (text more rest : List ℕ) → Are is_printable more → string_from quote text (flat_map escaped more ++ rest) ≡ string_from quote (text ++ more) rest
string_passes quote text [] rest h = rw append-nil refl
string_passes quote text (byte ∷ more) rest h =
    go (is_escaped byte) refl (string_passes quote (text ++ byte ∷ []) more rest h.1)
  where
    regroup : (text ++ byte ∷ []) ++ more ≡ text ++ byte ∷ more
    regroup = append_assoc text (byte ∷ []) more

    go : (b : Bool) → is_escaped byte ≡ b → string_from quote (text ++ byte ∷ []) (flat_map escaped more ++ rest) ≡ string_from quote ((text ++ byte ∷ []) ++ more) rest
        → string_from quote text (flat_map escaped (byte ∷ more) ++ rest) ≡ string_from quote (text ++ byte ∷ more) rest
    go true e later = rw e (escape_passes quote text (flat_map escaped more ++ rest) byte e ∙ later ∙ ap (λ t. string_from quote t rest) regroup)
    go false e later = rw e (plain_passes quote text (flat_map escaped more ++ rest) byte h.0 e ∙ later ∙ ap (λ t. string_from quote t rest) regroup)

pub quote_ends : (quote : ℕ) (text rest : List ℕ) → string_from quote text (34 ∷ rest) ≡ Read text rest
unfolding string_from
quote_ends quote text [] = refl
quote_ends quote text (byte ∷ rest) = refl

pub end_is_bad : (quote : ℕ) (text end : List ℕ) → (end ≡ []) ⊎ (end ≡ 92 ∷ []) → string_from quote text end ≡ Bad quote Unclosed
unfolding string_from
end_is_bad quote text end (inl e) = rw e refl
end_is_bad quote text end (inr e) = rw e refl

no_quote : (byte : ℕ) → is_printable byte ≡ false → eqb byte 34 ≡ false
no_quote byte p = ne_eqb byte 34 (λ e. let q : is_printable 34 ≡ false = subst (λ b. is_printable b ≡ false) e p in cc)

pub byte_is_bad : (quote : ℕ) (text : List ℕ) (byte : ℕ) (rest : List ℕ) → is_printable byte ≡ false → string_from quote text (byte ∷ rest) ≡ Bad (suc (length rest)) BadItem
unfolding string_from
byte_is_bad quote text byte [] p = rw (no_quote byte p, p) refl
byte_is_bad quote text byte (c ∷ rest) p = rw (no_quote byte p, p) refl

pub escape_is_bad : (quote : ℕ) (text : List ℕ) (byte : ℕ) (rest : List ℕ) → is_escaped byte ≡ false → string_from quote text (92 ∷ byte ∷ rest) ≡ Bad (suc (suc (length rest))) BadItem
unfolding string_from
escape_is_bad quote text byte rest e = rw e refl

-- what reading a String gives is what stands there
abbrev pub IsStringRead : List ℕ → Outcome (List ℕ) → Type 0
IsStringRead whole (Read text rest) = Are is_printable text × (whole ≡ 34 ∷ (flat_map escaped text ++ 34 ∷ rest))
IsStringRead whole (Bad left kind) = IsItemFault whole left kind

grown : (text : List ℕ) (byte : ℕ) (bytes : List ℕ) → flat_map escaped (text ++ byte ∷ []) ++ bytes ≡ flat_map escaped text ++ (escaped byte ++ bytes)
grown [] byte bytes = ap (λ t. t ++ bytes) (append-nil (escaped byte))
grown (first ∷ text) byte bytes = append_assoc (escaped first) (flat_map escaped (text ++ byte ∷ [])) bytes ∙ ap (λ t. escaped first ++ t) (grown text byte bytes) ∙ sym (append_assoc (escaped first) (flat_map escaped text) (escaped byte ++ bytes))

one_grown : (whole text : List ℕ) (byte : ℕ) (bytes : List ℕ) → is_escaped byte ≡ false → whole ≡ 34 ∷ (flat_map escaped text ++ byte ∷ bytes) → whole ≡ 34 ∷ (flat_map escaped (text ++ byte ∷ []) ++ bytes)
one_grown whole text byte bytes n e = e ∙ ap (λ t. 34 ∷ t) (sym (grown text byte bytes ∙ ap (λ t. flat_map escaped text ++ t) (rw n refl)))

two_grown : (whole text : List ℕ) (byte : ℕ) (bytes : List ℕ) → is_escaped byte ≡ true → whole ≡ 34 ∷ (flat_map escaped text ++ 92 ∷ byte ∷ bytes) → whole ≡ 34 ∷ (flat_map escaped (text ++ byte ∷ []) ++ bytes)
two_grown whole text byte bytes n e = e ∙ ap (λ t. 34 ∷ t) (sym (grown text byte bytes ∙ ap (λ t. flat_map escaped text ++ t) (rw n refl)))

plain : (byte : ℕ) → eqb byte 34 ≡ false → eqb byte 92 ≡ false → is_escaped byte ≡ false
plain byte p q = rw (p, q) refl

pub string_read : (whole text bytes : List ℕ) → Are is_printable text → whole ≡ 34 ∷ (flat_map escaped text ++ bytes) → IsStringRead whole (string_from (length whole) text bytes)
unfolding string_from
string_read whole text [] h e = unclosed text [] whole h (inl refl) e
string_read whole text (b ∷ []) h e = go (eqb b 34) (is_printable b) (eqb b 92) refl refl refl
  where
    go : (p q s : Bool) → eqb b 34 ≡ p → is_printable b ≡ q → eqb b 92 ≡ s → IsStringRead whole (cond p (Read text []) (cond q (Bad (length whole) Unclosed) (Bad 1 BadItem)))
    go true q s x y z = (h, e ∙ ap (λ t. 34 ∷ (flat_map escaped text ++ t ∷ [])) (eqb-true b 34 x))
    go false false s x y z = no_character text b [] whole h y e
    go false true true x y z = unclosed text (b ∷ []) whole h (inr (ap (λ t. t ∷ []) (eqb-true b 92 z))) e
    go false true false x y z = unclosed (text ++ b ∷ []) [] whole (Are-append is_printable text (b ∷ []) h (y, tt)) (inl refl) (one_grown whole text b [] (plain b x z) e)
string_read whole text (b ∷ c ∷ bytes) h e =
    go (eqb b 34) (is_printable b) (eqb b 92) (is_escaped c) refl refl refl refl
    (λ k f. string_read whole (text ++ c ∷ []) bytes k f) (λ k f. string_read whole (text ++ b ∷ []) (c ∷ bytes) k f)
  where
    printable_escape : is_escaped c ≡ true → is_printable c ≡ true
    printable_escape t = both (eqb c 34) (eqb c 92) refl refl t
      where
        both : (m n : Bool) → eqb c 34 ≡ m → eqb c 92 ≡ n → (m || n) ≡ true → is_printable c ≡ true
        both true n x y t = rw (eqb-true c 34 x) refl
        both false true x y t = rw (eqb-true c 92 y) refl
        both false false x y t = absurd cc

    go : (p q s t : Bool) → eqb b 34 ≡ p → is_printable b ≡ q → eqb b 92 ≡ s → is_escaped c ≡ t
        → (Are is_printable (text ++ c ∷ []) → whole ≡ 34 ∷ (flat_map escaped (text ++ c ∷ []) ++ bytes) → IsStringRead whole (string_from (length whole) (text ++ c ∷ []) bytes))
        → (Are is_printable (text ++ b ∷ []) → whole ≡ 34 ∷ (flat_map escaped (text ++ b ∷ []) ++ c ∷ bytes) → IsStringRead whole (string_from (length whole) (text ++ b ∷ []) (c ∷ bytes)))
        → IsStringRead whole (cond p (Read text (c ∷ bytes)) (cond q (cond s (cond t (string_from (length whole) (text ++ c ∷ []) bytes) (Bad (suc (suc (length bytes))) BadItem)) (string_from (length whole) (text ++ b ∷ []) (c ∷ bytes))) (Bad (suc (suc (length bytes))) BadItem)))
    go true q s t x y z w later_c later_b = (h, e ∙ ap (λ m. 34 ∷ (flat_map escaped text ++ m ∷ c ∷ bytes)) (eqb-true b 34 x))
    go false false s t x y z w later_c later_b = no_character text b (c ∷ bytes) whole h y e
    go false true true true x y z w later_c later_b =
        later_c (Are-append is_printable text (c ∷ []) h (printable_escape w, tt)) (two_grown whole text c bytes w (e ∙ ap (λ m. 34 ∷ (flat_map escaped text ++ m ∷ c ∷ bytes)) (eqb-true b 92 z)))
    go false true true false x y z w later_c later_b = no_escape text c bytes whole h w (e ∙ ap (λ m. 34 ∷ (flat_map escaped text ++ m ∷ c ∷ bytes)) (eqb-true b 92 z))
    go false true false t x y z w later_c later_b = later_b (Are-append is_printable text (b ∷ []) h (y, tt)) (one_grown whole text b (c ∷ bytes) (plain b x z) e)
