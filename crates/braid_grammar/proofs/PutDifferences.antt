-- What is not looked at in a PUT, and how long its content is.
use Rattle.std.proofs.Common.{◌≡◌, ℕ, Bool, true, false, cond, Some, List, [], ◌∷◌, ◌++◌, length, Result, Ok, Err, refl, sym, ap, subst, ◌∙◌, arith, length-append}
use Rattle.std.proofs.lemmas.List.{append-nil}
use Rattle.braid_change.specs.declared.change.Change.{Change}
use Rattle.braid_change.specs.declared.change.Change.TheVariants.{Body, Patches}
use Rattle.braid_change.specs.Updates.{UpdateView}
use Rattle.braid_fields.specs.declared.parts.Parts.{Parts}
use Rattle.braid_fields.specs.declared.plan.Asks.{Asks}
use Rattle.braid_fields.specs.declared.plan.Asks.TheVariants as asks
use Rattle.braid_fields.specs.declared.plan.Plan.{Plan}
use Rattle.braid_fields.specs.Known.{is_there}
use Rattle.braid_fields.specs.Table.{field_rows, name_rows, count_rows, content_rows, asks_of, plan_of, judge_put, count_of, range_of, patch_plan}
use Rattle.braid_fields.proofs.Planned.{rows_same}
use Rattle.braid_grammar.specs.declared.put.PutFault.{PutFault}
use Rattle.braid_grammar.specs.declared.put.PutFault.TheVariants as faults
use Rattle.braid_grammar.specs.Streams.{SpellsChange}
use Rattle.braid_grammar.specs.FaultPlaces.{AsksLength}
use Rattle.braid_grammar.specs.Puts.{SpellsPut, HasPutReason, of_fields, of_content, IsPutReading, with_length}

-- other lines of `Content-Length` are judged the same
same_judged : (n : ℕ) (values : List (List ℕ)) (p : Parts) → judge_put n (with_length values p) ≡ judge_put n p
unfolding judge_put
same_judged n values p = refl

pub length_passed : (p : Parts) (values : List (List ℕ)) (b : List ℕ) (r : Result UpdateView PutFault) → IsPutReading p b r → IsPutReading (with_length values p) b r
length_passed p values b (Ok u) h = record { plan = h.plan; planned = same_judged (length b) values p ∙ h.planned; id = h.id; parents = h.parents; whole = h.whole }
length_passed p values b (Err (faults.Reason x)) h = go h
  where
    go : HasPutReason p b x → HasPutReason (with_length values p) b x
    go (of_fields e) = of_fields (same_judged (length b) values p ∙ e)
    go (of_content plan e k) = of_content plan (same_judged (length b) values p ∙ e) k
length_passed p values b (Err faults.Short) h = (h.0, same_judged (length b) values p ∙ h.1, h.2)
length_passed p values b (Err faults.Extra) h = (h.0, same_judged (length b) values p ∙ h.1, h.2)
length_passed p values b (Err faults.Memory) h = tt

-- a plan asks for what its fields say
asks_same : (n : ℕ) (p : Parts) (plan : Plan) → judge_put n p ≡ Ok plan → plan.asks ≡ asks_of (Some n) p
unfolding judge_put
asks_same n p plan e = ap (λ (q : Plan). q.asks) (sym (rows_same (field_rows false (Some n) p ++ (name_rows p ++ (count_rows p.patches ++ content_rows (Some n) p))) (plan_of (Some n) p) plan e))

-- without `Patches` it asks for one content of the whole length
asks_whole : (n : ℕ) (p : Parts) → is_there p.patches ≡ false → AsksLength (asks_of (Some n) p) n
asks_whole n p e = go (is_there p.patches) e
  where
    inner : (t : Bool) → AsksLength (cond t (asks.OnePatch (patch_plan (range_of p.range) n)) (asks.Body n)) n
    inner true = refl
    inner false = refl

    go : (t : Bool) → t ≡ false → AsksLength (cond t (asks.Patches (count_of p.patches)) (cond (is_there p.range) (asks.OnePatch (patch_plan (range_of p.range) n)) (asks.Body n))) n
    go true d = absurd (cc)
    go false d = inner (is_there p.range)

-- such a content has that length
content_len : (a : Asks) (n : ℕ) (c : Change) (content : List ℕ) → AsksLength a n → SpellsChange a c content → length content ≡ n
content_len (asks.Body len) n (Body text) content e k = k.len ∙ e
content_len (asks.OnePatch plan) n (Patches ps) content e k = k.is_content.len ∙ e
content_len (asks.Patches count) n c content e k = absurd e
content_len (asks.Body len) n (Patches ps) content e k = absurd k
content_len (asks.OnePatch plan) n (Body text) content e k = absurd k

no_more : (content gap body : List ℕ) → body ≡ content ++ gap → length content ≡ length body → content ≡ body
no_more content [] body e n = sym (e ∙ append-nil content)
no_more content (x ∷ gap) body e n = absurd (omega (arith, n, ap length e, length-append content (x ∷ gap)))

-- without `Patches` the content is the whole body
pub whole_body : (u : UpdateView) (p : Parts) (b : List ℕ) → is_there p.patches ≡ false → (s : SpellsPut u p b) → s.whole.content ≡ b
whole_body u p b e s =
    no_more s.whole.content s.whole.gap b s.whole.spelled
    (content_len s.plan.asks (length b) u.change s.whole.content (subst (λ a. AsksLength a (length b)) (sym (asks_same (length b) p s.plan s.planned)) (asks_whole (length b) p e)) s.whole.spells)
