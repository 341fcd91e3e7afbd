-- An update that is spelled: it is one update, one that the program can hold, and the first in what follows.
use Rattle.std.proofs.Common.{◌≡◌, ℕ, ◌+◌, ◌<◌, ◌≤◌, ◌^◌, true, List, [], ◌∷◌, ◌++◌, length, encode_utf8_all, refl, sym, ap, subst, ◌∙◌, append_assoc, arith, length-append}
use Rattle.std.specs.Str.{all_scalars}
use Rattle.braid_change.specs.declared.patch.Patch.{Patch}
use Rattle.braid_change.specs.declared.change.Change.{Change}
use Rattle.braid_change.specs.declared.change.Change.TheVariants.{Body, Patches}
use Rattle.braid_change.specs.Changes.{patches_content, AreListed, AreNumbered, HaveScalars, AreScalars, IsShaped}
use Rattle.braid_change.specs.Updates.{UpdateView}
use Rattle.braid_change.specs.Spellings.{canonical}
use Rattle.braid_fields.specs.declared.plan.Asks.{Asks}
use Rattle.braid_fields.specs.declared.plan.Asks.TheVariants as asks
use Rattle.braid_fields.specs.Limits.{IsAskedWithin}
use Rattle.braid_grammar.specs.Outcomes.{Whole}
use Rattle.braid_grammar.specs.Readings.{patch_len, next_at}
use Rattle.braid_grammar.specs.Streams.{IsGap, no_line, IsContent, SpellPatches, SpellsChange, SpellsUpdate, IsStream}
use Rattle.braid_change.specs.Updates.{IsUpdate}
use Rattle.braid_fields.proofs.PlanLimits.{head_within, patch_within}
use Rattle.braid_grammar.proofs.Spelled.{spelled_next}
use Rattle.braid_grammar.proofs.Canonical.{canonical_split}

-- bytes begin with one update at most, and one rest is left behind it
pub first_same : (u v : UpdateView) (g s x h t y : List ℕ) → IsGap g → SpellsUpdate u s → IsGap h → SpellsUpdate v t → g ++ (s ++ x) ≡ h ++ (t ++ y) → (u ≡ v) × (x ≡ y)
first_same u v g s x h t y i k j l e =
    let w : Whole u (0 + length g + length s) x ≡ Whole v (0 + length h + length t) y = sym (spelled_next u 0 g s x i k) ∙ ap (next_at 0) e ∙ spelled_next v 0 h t y j l in
    (cc, cc)

pub one_update : (u v : UpdateView) (bytes : List ℕ) → SpellsUpdate u bytes → SpellsUpdate v bytes → u ≡ v
one_update u v bytes k l = (first_same u v [] bytes [] [] bytes [] no_line k no_line l refl).0

-- what the patches of a spelling are
record ArePatches (used before : ℕ) (ps : List Patch) : Type 0 where
  listed : AreListed before ps
  numbered : AreNumbered ps
  scalar : HaveScalars ps
  short : used + length (patches_content ps) ≤ 1_048_576

one_patch : (used before start end : ℕ) (p : Patch) (ps : List Patch) → before ≤ p.start → p.start ≤ p.end → p.end < 2 ^ 32 → all_scalars p.text ≡ true → ArePatches (used + patch_len p) p.end ps → ArePatches used before (p ∷ ps)
one_patch used before start end p ps a b c s k = record {
  listed = (a, b, k.listed);
  numbered = (c, k.numbered);
  scalar = (s, k.scalar);
  short = let short : used + length (encode_utf8_all p.text ++ patches_content ps) ≤ 1_048_576 = omega (arith, length-append (encode_utf8_all p.text) (patches_content ps), k.short) in short;
}

pub content_len_is : (n : ℕ) (text bytes : List ℕ) → IsContent n text bytes → length (encode_utf8_all text) ≡ n
content_len_is n text bytes k = ap length k.is_text.spelled ∙ k.len

patches_are : (used before : ℕ) (ps : List Patch) (bytes : List ℕ) → used ≤ 1_048_576 → SpellPatches used before ps bytes → ArePatches used before ps
patches_are used before [] bytes l k = record { listed = tt; numbered = tt; scalar = tt; short = let short : used + length {A = ℕ} [] ≤ 1_048_576 = omega arith in short }
patches_are used before (p ∷ ps) bytes l k =
    let s = k.is_first in
    let plan = patch_within used before s.fields s.plan s.judged in
    let len = content_len_is s.plan.len p.text s.content s.is_content in
    let fits : used + patch_len p ≤ 1_048_576 = omega (arith, plan.short, len) in
    one_patch used before p.start p.end p ps (omega (arith, plan.apart, s.range.0)) (omega (arith, plan.forwards, s.range.0, s.range.1)) (omega (arith, plan.numbered, s.range.1)) s.is_content.is_text.scalar
    (patches_are (used + patch_len p) p.end ps k.rest fits k.is_rest)

shaped_patches : (ps : List Patch) → length ps ≤ 1_000 → ArePatches 0 0 ps → IsShaped (Patches ps)
shaped_patches ps n k = record { few = n; listed = k.listed; short = let short : length (patches_content ps) ≤ 1_048_576 = omega (arith, k.short) in short; numbered = k.numbered }

pub change_is : (a : Asks) (c : Change) (bytes : List ℕ) → IsAskedWithin a → SpellsChange a c bytes → IsShaped c × AreScalars c
change_is (asks.Body n) (Body text) bytes h k =
    let len = content_len_is n text bytes k in
    (record { few = omega arith; listed = tt; short = let short : length (encode_utf8_all text) ≤ 1_048_576 = omega arith in short; numbered = tt }, k.is_text.scalar)
change_is (asks.OnePatch plan) (Patches ps) bytes h k =
    let len = content_len_is plan.len k.patch.text bytes k.is_content in
    let none : ArePatches (0 + patch_len k.patch) k.patch.end [] = record { listed = tt; numbered = tt; scalar = tt; short = let short : 0 + patch_len k.patch + length {A = ℕ} [] ≤ 1_048_576 = omega (arith, h.short) in short } in
    let one = one_patch 0 0 plan.start plan.end k.patch [] (omega arith) (omega (arith, h.forwards, k.range.0, k.range.1)) (omega (arith, h.numbered, k.range.1)) k.is_content.is_text.scalar none in
    subst (λ qs. IsShaped (Patches qs) × HaveScalars qs) (sym k.one) (shaped_patches (k.patch ∷ []) (omega arith) one, one.scalar)
change_is (asks.Patches n) (Patches ps) bytes h k = let are = patches_are 0 0 ps bytes (omega arith) k.1 in (shaped_patches ps (omega (arith, k.0)) are, are.scalar)
change_is (asks.Body n) (Patches ps) bytes h k = absurd k
change_is (asks.OnePatch plan) (Body text) bytes h k = absurd k
change_is (asks.Patches n) (Body text) bytes h k = absurd k

-- what is spelled is an update that the program can hold
pub spelled_is_update : (u : UpdateView) (bytes : List ℕ) → SpellsUpdate u bytes → IsUpdate u
spelled_is_update u bytes k =
    let plan = head_within k.fields k.plan k.judged in
    let change = change_is k.plan.asks u.change k.content plan.asked k.change in
    let few : length u.parents ≤ 32 = omega (arith, ap length k.parents, plan.few) in
    record {
      identifier = rw k.id plan.identifier;
      identifiers = rw k.parents plan.parents;
      rising = rw k.parents plan.rising;
      built = record { few_parents = few; shaped = change.0; scalar = change.1 };
    }

-- the canonical spelling is a stream of its one update
pub canonical_stream : (u : UpdateView) → IsUpdate u → IsStream (u ∷ []) (canonical u)
canonical_stream u h = let s = canonical_split u h in record { gap = []; first = s.front; rest = s.rest; is_gap = no_line; is_first = s.is_front; is_rest = s.is_rest; spelled = s.spelled }

-- whatever follows a canonical spelling, the first update is the one that it spells
pub canonical_first : (u v : UpdateView) (gap first rest more : List ℕ) → IsUpdate u → IsGap gap → SpellsUpdate v first → canonical u ++ more ≡ gap ++ (first ++ rest) → v ≡ u
canonical_first u v gap first rest more h g k e =
    let s = canonical_split u h in
    (first_same v u gap first rest [] s.front (s.rest ++ more) g k no_line s.is_front (sym e ∙ ap (λ t. t ++ more) s.spelled ∙ append_assoc s.front s.rest more)).0
