-- The canonical spelling of an update is a spelling of it, and then a gap.
use Rattle.std.proofs.Common.{◌≡◌, ℕ, ◌+◌, ◌<◌, ◌≤◌, ◌^◌, true, List, [], ◌∷◌, ◌++◌, length, flat_map, codes, decimal, encode_utf8_all, refl, sym, ap, subst, ◌∙◌, append_assoc, arith, length-append}
use Rattle.std.proofs.lemmas.List.{append-nil}
use Rattle.std.specs.Str.{all_scalars}
use Rattle.braid_ids.specs.Identifiers.{spelled_id, spelled_ids}
use Rattle.braid_change.specs.declared.patch.Patch.{Patch}
use Rattle.braid_change.specs.declared.change.Change.{Change}
use Rattle.braid_change.specs.declared.change.Change.TheVariants.{Body, Patches}
use Rattle.braid_change.specs.Changes.{patches_content, AreListed, AreNumbered, HaveScalars}
use Rattle.braid_change.specs.Updates.{UpdateView}
use Rattle.braid_change.specs.Spellings.{list_text, range_text, patch_text, canonical}
use Rattle.braid_fields.specs.Fields.{Field}
use Rattle.braid_fields.specs.Canonical.{version_line, parents_line, patches_line, length_line, range_line, change_field, head_fields, patch_fields, update_plan, plan_of_patch}
use Rattle.braid_fields.proofs.CanonicalLines.{version_field, parents_field, length_field, patches_field, range_field}
use Rattle.braid_fields.proofs.CanonicalHeads.{canonical_head, canonical_patch}
use Rattle.braid_grammar.specs.Lines.{join}
use Rattle.braid_grammar.specs.Readings.{patch_len}
use Rattle.braid_grammar.specs.Streams.{IsGap, no_line, one_more, HoldsField, HoldFields, IsFields, IsHead, IsContent, SpellsPatch, SpellPatches, SpellsUpdate}
use Rattle.braid_change.specs.Updates.{IsUpdate}
use Rattle.braid_grammar.proofs.FieldLines.{field_read}
use Rattle.braid_grammar.proofs.Readers.{limit_is}
use Rattle.braid_grammar.proofs.Lengths.{spelled_len, parents_len, number_len}

-- a spelling of the update stands first, and a gap behind it
pub record IsSplit (u : UpdateView) (bytes : List ℕ) : Type 0 where
  pub front : List ℕ
  pub rest : List ℕ
  pub is_front : SpellsUpdate u front
  pub is_rest : IsGap rest
  pub spelled : bytes ≡ front ++ rest

-- the lines of a head, and an empty line
abbrev head_of_lines : List (List ℕ) → List ℕ
head_of_lines lines = join lines ++ codes "\r\n"

fields_of_lines : (fs : List Field) (lines : List (List ℕ)) → 1 ≤ length lines → HoldFields fs lines → IsFields fs (head_of_lines lines)
fields_of_lines fs lines s h = record { lines = lines; last = codes "\r\n"; some = s; fields = h; empty = refl; spelled = refl }

around_len : (a b c : List ℕ) → length (a ++ (b ++ c)) ≡ length a + length b + length c
around_len a b c = omega (arith, length-append a (b ++ c), length-append b c)

three_len : (a b c last : List ℕ) → length (join (a ∷ b ∷ c ∷ []) ++ last) ≡ length a + length b + length c + length last
three_len a b c last = omega (arith, length-append (a ++ (b ++ (c ++ []))) last, length-append a (b ++ (c ++ [])), length-append b (c ++ []), length-append c [])

two_len : (a b last : List ℕ) → length (join (a ∷ b ∷ []) ++ last) ≡ length a + length b + length last
two_len a b last = omega (arith, length-append (a ++ (b ++ [])) last, length-append a (b ++ []), length-append b [])

-- the lines of a canonical head, of which the last tells what the change is
head_is : (u : UpdateView) (last : List ℕ) → IsUpdate u → length last ≤ 100 → HoldsField (change_field u.change) last → IsHead (head_fields u) (head_of_lines (version_line u.id ∷ parents_line u.parents ∷ last ∷ []))
head_is u last k l h =
    let version : HoldsField (record { name = codes "Version"; value = spelled_id u.id }) (version_line u.id) = field_read _ (version_line u.id) (version_field u.id k.identifier) in
    let parents : HoldsField (record { name = codes "Parents"; value = spelled_ids u.parents }) (parents_line u.parents) = field_read _ (parents_line u.parents) (parents_field u.parents k.identifiers) in
    record {
      status = [];
      fields = head_of_lines (version_line u.id ∷ parents_line u.parents ∷ last ∷ []);
      few = omega arith;
      good = tt;
      rest = fields_of_lines (head_fields u) (version_line u.id ∷ parents_line u.parents ∷ last ∷ []) (omega arith) (version, (parents, (h, tt)));
      spelled = refl;
      short = omega (arith, limit_is, three_len (version_line u.id) (parents_line u.parents) last (codes "\r\n"), around_len (codes "Version: ") (spelled_id u.id) (codes "\r\n"), around_len (codes "Parents:") (list_text u.parents) (codes "\r\n"), spelled_len u.id k.identifier, parents_len u.parents k.identifiers, k.built.few_parents);
    }

-- an empty line, and more of a gap
crlf_gap : (rest : List ℕ) → IsGap rest → IsGap (codes "\r\n" ++ rest)
crlf_gap rest k = one_more (codes "\r\n") rest refl k

content_is : (text : List ℕ) → all_scalars text ≡ true → IsContent (length (encode_utf8_all text)) text (encode_utf8_all text)
content_is text s = record { len = refl; is_text = record { scalar = s; spelled = refl } }

regroup_body : (a s c p t l d e : List ℕ) → (((((a ++ s) ++ (c ++ p)) ++ t) ++ c) ++ ((l ++ d) ++ (((c ++ c) ++ e) ++ c))) ++ c ≡ ((join ((a ++ (s ++ c)) ∷ (p ++ (t ++ c)) ∷ (l ++ (d ++ c)) ∷ []) ++ c) ++ e) ++ (c ++ c)
regroup_body a s c p t l d e = simp append_assoc

-- an update of these parts
abbrev update_of : List ℕ → List (List ℕ) → Change → UpdateView
update_of id parents change = record { id = id; parents = parents; change = change }

body_split : (id : List ℕ) (ids : List (List ℕ)) (text : List ℕ) → IsUpdate (update_of id ids (Body text)) → IsSplit (update_of id ids (Body text)) (canonical (update_of id ids (Body text)))
body_split id ids text k =
    let u : UpdateView = update_of id ids (Body text) in
    let n : ℕ = length (encode_utf8_all text) in
    let short : n ≤ 1_048_576 = k.built.shaped.short in
    let small : n < 2 ^ 32 = omega arith in
    record {
      front = head_of_lines (version_line id ∷ parents_line ids ∷ length_line n ∷ []) ++ encode_utf8_all text;
      rest = codes "\r\n" ++ codes "\r\n";
      is_front = record {
        fields = head_fields u;
        plan = update_plan u;
        head = head_of_lines (version_line id ∷ parents_line ids ∷ length_line n ∷ []);
        content = encode_utf8_all text;
        is_head = head_is u (length_line n) k (omega (arith, around_len (codes "Content-Length: ") (decimal n) (codes "\r\n"), number_len n small)) (field_read _ (length_line n) (length_field n (omega arith)));
        judged = canonical_head u k.identifier k.identifiers k.rising k.built;
        id = refl;
        parents = refl;
        change = content_is text k.built.scalar;
        spelled = refl;
      };
      is_rest = crlf_gap (codes "\r\n") (crlf_gap [] no_line);
      spelled = regroup_body (codes "Version: ") (spelled_id id) (codes "\r\n") (codes "Parents:") (list_text ids) (codes "Content-Length: ") (decimal n) (encode_utf8_all text);
    }

-- the head of a patch and its content
abbrev patch_front : Patch → List ℕ
patch_front p = head_of_lines (length_line (patch_len p) ∷ range_line p.start p.end ∷ []) ++ encode_utf8_all p.text

regroup_patch : (l d c r x e : List ℕ) → (((l ++ d) ++ (c ++ r)) ++ x) ++ (((c ++ c) ++ e) ++ c) ≡ ((join ((l ++ (d ++ c)) ∷ (r ++ (x ++ c)) ∷ []) ++ c) ++ e) ++ c
regroup_patch l d c r x e = simp append_assoc

patch_is : (p : Patch) → patch_text p ≡ patch_front p ++ codes "\r\n"
patch_is p = regroup_patch (codes "Content-Length: ") (decimal (patch_len p)) (codes "\r\n") (codes "Content-Range: ") (range_text p.start p.end) (encode_utf8_all p.text)

range_len : (s e : ℕ) → s < 2 ^ 32 → e < 2 ^ 32 → length (range_text s e) ≤ 28
range_len s e h k =
    omega (arith, length-append (codes "text [" ++ decimal s ++ codes ":" ++ decimal e) (codes "]"), length-append (codes "text [" ++ decimal s ++ codes ":") (decimal e), around_len (codes "text [") (decimal s) (codes ":"), number_len s h, number_len e k)

patch_spelled : (used before : ℕ) (p : Patch) → before ≤ p.start → p.start ≤ p.end → p.end < 2 ^ 32 → all_scalars p.text ≡ true → used + patch_len p ≤ 1_048_576 → SpellsPatch used before p (patch_front p)
patch_spelled used before p a b c s d =
    let n : ℕ = patch_len p in
    let small : n < 2 ^ 32 = omega arith in
    let start : p.start < 2 ^ 32 = omega arith in
    let length_is : HoldsField (record { name = codes "Content-Length"; value = decimal n }) (length_line n) = field_read _ (length_line n) (length_field n (omega arith)) in
    let range_is : HoldsField (record { name = codes "Content-Range"; value = range_text p.start p.end }) (range_line p.start p.end) = field_read _ (range_line p.start p.end) (range_field p.start p.end (omega arith) (omega arith)) in
    record {
      fields = patch_fields p;
      plan = plan_of_patch p;
      head = head_of_lines (length_line n ∷ range_line p.start p.end ∷ []);
      content = encode_utf8_all p.text;
      is_head = record {
        is_fields = fields_of_lines (patch_fields p) (length_line n ∷ range_line p.start p.end ∷ []) (omega arith) (length_is, (range_is, tt));
        short = omega (arith, limit_is, two_len (length_line n) (range_line p.start p.end) (codes "\r\n"), around_len (codes "Content-Length: ") (decimal n) (codes "\r\n"), around_len (codes "Content-Range: ") (range_text p.start p.end) (codes "\r\n"), number_len n small, range_len p.start p.end start c);
      };
      judged = canonical_patch used before p a b c d;
      range = (refl, refl);
      is_content = content_is p.text s;
      spelled = refl;
    }

-- patches with a gap before the first, and an empty line before each later one
abbrev fronts : List ℕ → List Patch → List ℕ
fronts gap [] = []
fronts gap (p ∷ ps) = gap ++ (patch_front p ++ fronts (codes "\r\n") ps)

-- what is left behind the last of them
abbrev last_gap : List ℕ → List Patch → List ℕ
last_gap gap [] = gap
last_gap gap (p ∷ ps) = last_gap (codes "\r\n") ps

last_is_gap : (gap : List ℕ) (ps : List Patch) → IsGap gap → IsGap (last_gap gap ps)
last_is_gap gap [] k = k
last_is_gap gap (p ∷ ps) k = last_is_gap (codes "\r\n") ps (crlf_gap [] no_line)

fronts_are : (gap : List ℕ) (ps : List Patch) → gap ++ flat_map patch_text ps ≡ fronts gap ps ++ last_gap gap ps
fronts_are gap [] = append-nil gap
fronts_are gap (p ∷ ps) =
    ap (λ t. gap ++ (t ++ flat_map patch_text ps)) (patch_is p)
    ∙ ap (λ t. gap ++ t) (append_assoc (patch_front p) (codes "\r\n") (flat_map patch_text ps))
    ∙ ap (λ t. gap ++ (patch_front p ++ t)) (fronts_are (codes "\r\n") ps)
    ∙ ap (λ t. gap ++ t) (sym (append_assoc (patch_front p) (fronts (codes "\r\n") ps) (last_gap (codes "\r\n") ps)))
    ∙ sym (append_assoc gap (patch_front p ++ fronts (codes "\r\n") ps) (last_gap (codes "\r\n") ps))

fronts_spelled : (used before : ℕ) (gap : List ℕ) (ps : List Patch) → IsGap gap → AreListed before ps → AreNumbered ps → HaveScalars ps → used + length (patches_content ps) ≤ 1_048_576 → SpellPatches used before ps (fronts gap ps)
fronts_spelled used before gap [] g l n s d = refl
fronts_spelled used before gap (p ∷ ps) g l n s d =
    let len = length-append (encode_utf8_all p.text) (patches_content ps) in
    record {
      gap = gap;
      first = patch_front p;
      rest = fronts (codes "\r\n") ps;
      is_gap = g;
      is_first = patch_spelled used before p l.0 l.1 n.0 s.0 (omega (arith, len));
      is_rest = fronts_spelled (used + patch_len p) p.end (codes "\r\n") ps (crlf_gap [] no_line) l.2 n.1 s.1 (omega (arith, len));
      spelled = refl;
    }

regroup_patches : (a s c p t l d f g w : List ℕ) → f ≡ g ++ w → (((((a ++ s) ++ (c ++ p)) ++ t) ++ c) ++ (((l ++ d) ++ (c ++ c)) ++ f)) ++ c ≡ ((join ((a ++ (s ++ c)) ∷ (p ++ (t ++ c)) ∷ (l ++ (d ++ c)) ∷ []) ++ c) ++ g) ++ (w ++ c)
regroup_patches a s c p t l d f g w e = rw e (simp append_assoc)

pub gap_append : (g h : List ℕ) → IsGap g → IsGap h → IsGap (g ++ h)
gap_append g h no_line k = k
gap_append g h (one_more l rest e i) k = subst IsGap (sym (append_assoc l rest h)) (one_more l (rest ++ h) e (gap_append rest h i k))

patches_split : (id : List ℕ) (ids : List (List ℕ)) (ps : List Patch) → IsUpdate (update_of id ids (Patches ps)) → IsSplit (update_of id ids (Patches ps)) (canonical (update_of id ids (Patches ps)))
patches_split id ids ps k =
    let u : UpdateView = update_of id ids (Patches ps) in
    let n : ℕ = length ps in
    let few : n ≤ 1_000 = k.built.shaped.few in
    let small : n < 2 ^ 32 = omega arith in
    let content : SpellPatches 0 0 ps (fronts [] ps) = fronts_spelled 0 0 [] ps no_line k.built.shaped.listed k.built.shaped.numbered k.built.scalar (omega (arith, k.built.shaped.short)) in
    record {
      front = head_of_lines (version_line id ∷ parents_line ids ∷ patches_line n ∷ []) ++ fronts [] ps;
      rest = last_gap [] ps ++ codes "\r\n";
      is_front = record {
        fields = head_fields u;
        plan = update_plan u;
        head = head_of_lines (version_line id ∷ parents_line ids ∷ patches_line n ∷ []);
        content = fronts [] ps;
        is_head = head_is u (patches_line n) k (omega (arith, around_len (codes "Patches: ") (decimal n) (codes "\r\n"), number_len n small)) (field_read _ (patches_line n) (patches_field n (omega arith)));
        judged = canonical_head u k.identifier k.identifiers k.rising k.built;
        id = refl;
        parents = refl;
        change = (refl, content);
        spelled = refl;
      };
      is_rest = gap_append (last_gap [] ps) (codes "\r\n") (last_is_gap [] ps no_line) (crlf_gap [] no_line);
      spelled = regroup_patches (codes "Version: ") (spelled_id id) (codes "\r\n") (codes "Parents:") (list_text ids) (codes "Patches: ") (decimal n) (flat_map patch_text ps) (fronts [] ps) (last_gap [] ps) (fronts_are [] ps);
    }

-- the canonical spelling of an update
pub canonical_split : (u : UpdateView) → IsUpdate u → IsSplit u (canonical u)
canonical_split u h = go u.id u.parents u.change h
  where
    go : (id : List ℕ) (ids : List (List ℕ)) (c : Change) → IsUpdate (update_of id ids c) → IsSplit (update_of id ids c) (canonical (update_of id ids c))
    go id ids (Body text) h = body_split id ids text h
    go id ids (Patches ps) h = patches_split id ids ps h
