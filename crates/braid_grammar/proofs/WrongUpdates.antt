-- What is wrong where a stream has a fault: an update's own head or content, or a patch behind the patches before it.
use Rattle.std.proofs.Common.{◌≡◌, ℕ, zero, suc, ◌+◌, ◌<◌, List, [], ◌∷◌, ◌++◌, length, encode_utf8_all, refl, sym, ap, subst, ◌∙◌, append_assoc, arith, length-append, inl, inr, ◌⊎◌, Ok}
use Rattle.braid_change.specs.declared.patch.Patch.{Patch}
use Rattle.braid_change.specs.Changes.{patches_content}
use Rattle.braid_change.specs.Updates.{UpdateView}
use Rattle.braid_fields.specs.declared.reason.Reason.{Reason}
use Rattle.braid_fields.specs.declared.plan.Asks.{Asks}
use Rattle.braid_fields.specs.declared.plan.Asks.TheVariants as asks
use Rattle.braid_fields.specs.declared.plan.Plan.{Plan}
use Rattle.braid_fields.specs.Fields.{Field}
use Rattle.braid_fields.specs.Table.{judge_head}
use Rattle.braid_grammar.specs.Outcomes.{Bad, head_at, content_at, past_gap}
use Rattle.braid_grammar.specs.Readings.{patch_len, patch_at, patches_at, change_at, update_at}
use Rattle.braid_grammar.specs.Readers.{IsBehindGap}
use Rattle.braid_grammar.specs.Streams.{BeginsNoEmptyLine, IsGap, IsHead, SpellsPatch, SpellPatches, IsStream, IsFault}
use Rattle.braid_grammar.specs.FaultPlaces.{AnUpdate, APatch, AsksLength, IsWrongBehind, by_head, by_content, last_end, IsWrongAt}
use Rattle.braid_grammar.proofs.WrongLines.{verdict_of}
use Rattle.braid_grammar.proofs.Back.{head_back, patch_back}
use Rattle.braid_grammar.proofs.Law.{stream_front}
use Rattle.braid_grammar.proofs.Gaps.{gap_passed, gap_before}
use Rattle.braid_grammar.proofs.Places.{WrongFrom, then_bad, judged_bad, head_bad, ContentBad, content_bad, patch_bad}

-- behind whole patches, fewer than are asked for, and a gap: what is wrong with the next one
pub record PatchWrong (n used before : ℕ) (b : List ℕ) (at to : ℕ) (r : Reason) : Type 0 where
  pub patches : List Patch
  pub content : List ℕ
  pub gap : List ℕ
  pub rest : List ℕ
  pub k : ℕ
  pub fewer : length patches < n
  pub spell : SpellPatches used before patches content
  pub is_gap : IsGap gap
  pub begins : BeginsNoEmptyLine rest
  pub wrong : IsWrongBehind (APatch (used + length (patches_content patches)) (last_end before patches)) rest k r
  pub place : to ≡ at + length content + length gap + k
  pub spelled : b ≡ content ++ (gap ++ rest)

first_patch : (n used before : ℕ) (b : List ℕ) (at to : ℕ) (r : Reason) (rest : List ℕ) (g : IsBehindGap b rest) → WrongFrom (APatch used before) rest (at + length g.gap) to r → PatchWrong (suc n) used before b at to r
first_patch n used before b at to r rest g w = record {
  patches = [];
  content = [];
  gap = g.gap;
  rest = rest;
  k = w.k;
  fewer = let few : 0 < suc n = omega arith in few;
  spell = refl;
  is_gap = g.is_gap;
  begins = g.stops;
  wrong = subst (λ m. IsWrongBehind (APatch m before) rest w.k r) (let e : used ≡ used + 0 = omega arith in e) w.wrong;
  place = let p : to ≡ at + 0 + length g.gap + w.k = omega (arith, w.place) in p;
  spelled = g.spelled;
}

later_patch : (n used before : ℕ) (b : List ℕ) (at mid to : ℕ) (r : Reason) (p : Patch) (gap first rest : List ℕ) → IsGap gap → SpellsPatch used before p first → b ≡ gap ++ (first ++ rest) → mid ≡ at + length gap + length first
    → PatchWrong n (used + patch_len p) p.end rest mid to r → PatchWrong (suc n) used before b at to r
later_patch n used before b at mid to r p gap first rest g s e m w = record {
  patches = p ∷ w.patches;
  content = gap ++ (first ++ w.content);
  gap = w.gap;
  rest = w.rest;
  k = w.k;
  fewer = let few : suc (length w.patches) < suc n = omega (arith, w.fewer) in few;
  spell = record { gap = gap; first = first; rest = w.content; is_gap = g; is_first = s; is_rest = w.spell; spelled = refl };
  is_gap = w.is_gap;
  begins = w.begins;
  wrong = subst (λ k. IsWrongBehind (APatch k (last_end p.end w.patches)) w.rest w.k r) used_is w.wrong;
  place = let q : to ≡ at + length (gap ++ (first ++ w.content)) + length w.gap + w.k = omega (arith, w.place, m, length-append gap (first ++ w.content), length-append first w.content) in q;
  spelled = e ∙ ap (λ t. gap ++ (first ++ t)) w.spelled ∙ ap (λ t. gap ++ t) (sym (append_assoc first w.content (w.gap ++ w.rest))) ∙ sym (append_assoc gap (first ++ w.content) (w.gap ++ w.rest));
}
  where
    used_is : used + patch_len p + length (patches_content w.patches) ≡ used + length (encode_utf8_all p.text ++ patches_content w.patches)
    used_is = omega (arith, length-append (encode_utf8_all p.text) (patches_content w.patches))

pub patches_bad : (n used before at : ℕ) (b : List ℕ) (to : ℕ) (r : Reason) → patches_at n used before at b ≡ Bad to r → PatchWrong n used before b at to r
patches_bad zero used before at b to r e = absurd (cc)
patches_bad (suc n) used before at b to r e =
    let g = gap_before b in
    let reads = gap_passed (patch_at used before) at b g.0 g.1 in
    elim (then_bad (past_gap (patch_at used before) at b) _ to r e) [
      | inl p ↦ first_patch n used before b at to r g.0 g.1 (patch_bad used before (at + length g.1.gap) g.0 to r g.1.stops (sym reads ∙ p))
      | inr t ↦
          let p = patch_back used before (at + length g.1.gap) g.0 t.value t.at t.mid (sym reads ∙ t.one) in
          elim (then_bad (patches_at n (used + patch_len t.value) t.value.end t.at t.mid) _ to r t.two) [
            | inl q ↦ later_patch n used before b at t.at to r t.value g.1.gap p.bytes t.mid g.1.is_gap p.is (g.1.spelled ∙ ap (λ s. g.1.gap ++ s) p.spelled) p.place (patches_bad n (used + patch_len t.value) t.value.end t.at t.mid to r q)
            | inr q ↦ absurd (let d = q.two in cc)
          ]
    ]

-- one content that is wrong, or patches
record ChangeWrong (a : Asks) (at : ℕ) (b : List ℕ) (to : ℕ) (r : Reason) : Type 0 where
  n : ℕ
  asks : AsksLength a n
  bad : ContentBad n at b to r

change_bad : (a : Asks) (at : ℕ) (b : List ℕ) (to : ℕ) (r : Reason) → change_at a at b ≡ Bad to r → ChangeWrong a at b to r ⊎ ((n : ℕ) × (a ≡ asks.Patches n) × PatchWrong n 0 0 b at to r)
change_bad (asks.Body n) at b to r e = elim (then_bad (content_at n at b) _ to r e) [
  | inl c ↦ inl (record { n = n; asks = refl; bad = content_bad n at b to r c })
  | inr c ↦ absurd (let d = c.two in cc)
]
change_bad (asks.OnePatch plan) at b to r e = elim (then_bad (content_at plan.len at b) _ to r e) [
  | inl c ↦ inl (record { n = plan.len; asks = refl; bad = content_bad plan.len at b to r c })
  | inr c ↦ absurd (let d = c.two in cc)
]
change_bad (asks.Patches n) at b to r e = elim (then_bad (patches_at n 0 0 at b) _ to r e) [
  | inl c ↦ inr (n, refl, patches_bad n 0 0 at b to r c)
  | inr c ↦ absurd (let d = c.two in cc)
]

-- behind the head of an update with patches: what is wrong with one of them
record PatchesWrong (at : ℕ) (b : List ℕ) (to : ℕ) (r : Reason) : Type 0 where
  fields : List Field
  plan : Plan
  count : ℕ
  head : List ℕ
  mid : List ℕ
  is_head : IsHead fields head
  judged : judge_head fields ≡ Ok plan
  asks : plan.asks ≡ asks.Patches count
  spelled : b ≡ head ++ mid
  bad : PatchWrong count 0 0 mid (at + length head) to r

update_bad : (at : ℕ) (b : List ℕ) (to : ℕ) (r : Reason) → BeginsNoEmptyLine b → update_at at b ≡ Bad to r → WrongFrom AnUpdate b at to r ⊎ PatchesWrong at b to r
update_bad at b to r h e = elim (then_bad (head_at (verdict_of AnUpdate) at b) _ to r e) [
  | inl w ↦ inl (head_bad AnUpdate at b to r h w)
  | inr t ↦ let f = head_back t.value at b t.at t.mid t.one in elim (judged_bad at (judge_head t.value) _ to r t.two) [
    | inl j ↦ inl (record { k = 0; place = omega (arith, j.1); wrong = by_head refl (record { fields = t.value; head = f.bytes; more = t.mid; is_head = f.is; against = j.0; spelled = f.spelled }) })
    | inr j ↦ elim (then_bad (change_at j.0.asks t.at t.mid) _ to r j.2) [
      | inl w ↦ elim (change_bad j.0.asks t.at t.mid to r w) [
        | inl c ↦ inl (record {
          k = length f.bytes;
          place = c.bad.place ∙ f.place;
          wrong = by_content c.bad.reason (record {
            fields = t.value;
            head = f.bytes;
            content = c.bad.content;
            more = c.bad.more;
            is_head = f.is;
            asks = (j.0, j.1, subst (λ m. AsksLength j.0.asks m) c.bad.len c.asks);
            no_text = c.bad.no_text;
            place = refl;
            spelled = f.spelled ∙ ap (λ s. f.bytes ++ s) c.bad.spelled;
          });
        })
        | inr c ↦ inr (record {
          fields = t.value;
          plan = j.0;
          count = c.0;
          head = f.bytes;
          mid = t.mid;
          is_head = f.is;
          judged = j.1;
          asks = c.1;
          spelled = f.spelled;
          bad = subst (λ n. PatchWrong c.0 0 0 t.mid n to r) f.place c.2;
        })
      ]
      | inr c ↦ absurd (let d = c.two in cc)
    ]
  ]
]

-- a fault stands where something of the grammar is wrong
pub fault_stands : (bytes : List ℕ) (at : ℕ) (reason : Reason) → IsFault bytes at reason → IsWrongAt bytes at reason
fault_stands bytes at reason f =
    let g = gap_before f.rest in
    let gap : List ℕ = g.1.gap in
    let bad : update_at (length f.front + length gap) g.0 ≡ Bad at reason = sym (gap_passed update_at (length f.front) f.rest g.0 g.1) ∙ f.fault in
    let spelled : bytes ≡ (f.front ++ gap) ++ g.0 = f.spelled ∙ ap (λ t. f.front ++ t) g.1.spelled ∙ sym (append_assoc f.front gap g.0) in
    let stream = stream_front f.updates f.front gap f.stream g.1.is_gap in
    elim (update_bad (length f.front + length gap) g.0 at reason g.1.stops bad) [
      | inl w ↦ record {
        owner = AnUpdate;
        front = f.front ++ gap;
        rest = g.0;
        offset = w.k;
        before = (f.updates, stream);
        begins = g.1.stops;
        wrong = w.wrong;
        place = let p : at ≡ length (f.front ++ gap) + w.k = omega (arith, w.place, length-append f.front gap) in p;
        spelled = spelled;
      }
      | inr w ↦ of_patch bytes at reason f.updates (f.front ++ gap) g.0 (length f.front + length gap) stream spelled (sym (length-append f.front gap)) w
    ]
  where
    of_patch : (bytes : List ℕ) (at : ℕ) (reason : Reason) (us : List UpdateView) (front rest : List ℕ) (n : ℕ) → IsStream us front → bytes ≡ front ++ rest → n ≡ length front → PatchesWrong n rest at reason → IsWrongAt bytes at reason
    of_patch bytes at reason us front rest n s e m w =
        let p = w.bad in
        let before : List ℕ = front ++ (w.head ++ (p.content ++ p.gap)) in
        record {
          owner = APatch (0 + length (patches_content p.patches)) (last_end 0 p.patches);
          front = before;
          rest = p.rest;
          offset = p.k;
          before = record {
            updates = us;
            fields = w.fields;
            plan = w.plan;
            count = w.count;
            patches = p.patches;
            front = front;
            head = w.head;
            content = p.content;
            gap = p.gap;
            stream = s;
            is_head = w.is_head;
            judged = w.judged;
            asks = w.asks;
            fewer = p.fewer;
            spell = p.spell;
            is_gap = p.is_gap;
            used_is = let u : 0 + length (patches_content p.patches) ≡ length (patches_content p.patches) = omega arith in u;
            before_is = refl;
            spelled = refl;
          };
          begins = p.begins;
          wrong = p.wrong;
          place = let q : at ≡ length (front ++ (w.head ++ (p.content ++ p.gap))) + p.k = omega (arith, p.place, m, length-append front (w.head ++ (p.content ++ p.gap)), length-append w.head (p.content ++ p.gap), length-append p.content p.gap) in q;
          spelled = e ∙ ap (λ t. front ++ t) (w.spelled ∙ ap (λ t. w.head ++ t) (p.spelled ∙ sym (append_assoc p.content p.gap p.rest)) ∙ sym (append_assoc w.head (p.content ++ p.gap) p.rest)) ∙ sym (append_assoc front (w.head ++ (p.content ++ p.gap)) p.rest);
        }
