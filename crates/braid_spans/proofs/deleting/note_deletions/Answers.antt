use Rattle.std.proofs.Common.{◌≡◌, ℕ, ◌-◌, ◌<◌, ◌≤◌, ◌++◌, ◌∷◌, [], List, length, slice_get, sym, subst, arith, vec_len, All, IsSomeAnd}
use Rattle.std.proofs.Math.ListN.{set}
use Rattle.braid_tree.specs.declared.at.At.{At}
use Rattle.braid_spans.specs.declared.run.Run.{Run}
use Rattle.braid_spans.specs.declared.link.Link.{Link}
use Rattle.braid_spans.specs.Spans.{Spelled, spelled}
use Rattle.braid_spans.specs.Kept.{AreFitting, AreLinked, IsNext, IsFitting, MarksOne, MarksEach, chain_at, chains_of, spans_of, reach, linked_to}
use Rattle.braid_spans.proofs.Lists.{some_item, from_some_and, all_got}
use Rattle.braid_spans.proofs.Chains.{linked_push, chains_count}
use Rattle.braid_spans.proofs.Marking.{each_one, link_fits, link_marks}
use Rattle.braid_spans.proofs.Sound.{all_reached}
use Rattle.braid_spans.proofs.deleting.note_deletions.Goals as goal

pub can_pass-requires-clause-reached : goal.can_pass-requires-clause-reached
can_pass-requires-clause-reached c =
    subst (λ (t : List Link). All (λ (r : Run). reach r.newest ≤ length t) c.args.runs.now.list) (sym c.deref.ensures.value)
    (all_reached c.requires.fitting.0 c.requires.fitting.1 c.args.links.now.items c.args.runs.now.list c.requires.fitting.2)

pub returns-then-can_pass-clause-marked : goal.returns-then-can_pass-clause-marked
returns-then-can_pass-clause-marked c versions chars fit =
    let rs = c.args.runs.now.list in
    let i = c.find-index.result in
    let can = c.can_pass.ensures.can c.if-can_pass.true in
    let r = some_item (λ (x : Run). x.first ≡ c.args.at) (slice_get rs i) can.first in
    let l = some_item (λ (x : Run). IsSomeAnd (slice_get rs i) (IsNext x)) (slice_get rs (i - 1)) can.next in
    let chain = from_some_and (λ (y : Run). chain_at (chains_of c.deref.result.now) l.0.newest ≡ c.args.by ∷ chain_at (chains_of c.deref.result.now) y.newest) (slice_get rs i) r.0 r.1
    (from_some_and (λ (x : Run). IsSomeAnd (slice_get rs i) (λ (y : Run). chain_at (chains_of c.deref.result.now) x.newest ≡ c.args.by ∷ chain_at (chains_of c.deref.result.now) y.newest)) (slice_get rs (i - 1)) l.0 l.1 can.chain) in
    let chain' = subst (λ (t : List Link). chain_at (chains_of t) l.0.newest ≡ c.args.by ∷ chain_at (chains_of t) r.0.newest) c.deref.ensures.value chain in
    let p = c.pass_first.ensures.passed l.0 r.0 versions c.args.by chars (chains_of c.args.links.now.items) l.1 r.1 chain' fit in (
      p.0,
      each_one (spelled (spans_of chars (chains_of c.args.links.now.items) rs)) (spelled (spans_of chars (chains_of c.args.links.now.items) c.pass_first.new.runs.list)) c.args.at c.args.by
          (subst (λ (a : At). MarksOne (spelled (spans_of chars (chains_of c.args.links.now.items) rs)) (spelled (spans_of chars (chains_of c.args.links.now.items) c.pass_first.new.runs.list)) a c.args.by) r.2 p.1),
    )

-- the run that is deleted
part : (c : goal.After-add_link) → (c.get-run.result.first ≡ c.args.at) × (0 < c.get-run.result.len) × (c.get-run.result.len ≤ c.args.most)
part c = from_some_and (λ (r : Run). (r.first ≡ c.args.at) × (0 < r.len) × (r.len ≤ c.args.most)) (slice_get c.set_apart-part.new.runs.list c.set_apart-part.result) c.get-run.result c.get-run.ensures.value c.set_apart-part.ensures.part

linked_list : (c : goal.After-add_link) → c.add_link.new.links.items ≡ c.args.links.now.items ++ record { by = c.args.by; earlier = c.get-run.result.newest } ∷ []
linked_list c = from_some_and (λ (r : Run). c.add_link.new.links.items ≡ c.args.links.now.items ++ record { by = c.args.by; earlier = r.newest } ∷ []) (slice_get c.set_apart-part.new.runs.list c.set_apart-part.result) c.get-run.result c.get-run.ensures.value c.add_link.ensures.link

run_list : (c : goal.After-add_link) → c.add_link.new.runs.list ≡ set c.set_apart-part.new.runs.list c.set_apart-part.result (linked_to c.get-run.result (length c.args.links.now.items))
run_list c =
    let n : vec_len c.args.links.now ≡ length c.args.links.now.items = omega arith in
    subst (λ (m : ℕ). c.add_link.new.runs.list ≡ set c.set_apart-part.new.runs.list c.set_apart-part.result (linked_to c.get-run.result m)) n
    (from_some_and (λ (r : Run). c.add_link.new.runs.list ≡ set c.set_apart-part.new.runs.list c.set_apart-part.result (linked_to r (vec_len c.args.links.now))) (slice_get c.set_apart-part.new.runs.list c.set_apart-part.result) c.get-run.result c.get-run.ensures.value c.add_link.ensures.run)

pub returns-clause-some : goal.returns-clause-some
returns-clause-some c = (part c).1

pub returns-clause-most : goal.returns-clause-most
returns-clause-most c = (part c).2

pub returns-clause-marked : goal.returns-clause-marked
returns-clause-marked c versions chars fit =
    let links = c.args.links.now.items in
    let rs = c.set_apart-part.new.runs.list in
    let i = c.set_apart-part.result in
    let p = c.set_apart-part.ensures.alike versions chars (chains_of links) fit in
    let r = c.get-run.result in
    let at = c.args.at in
    let by = c.args.by in
    let old = spelled (spans_of chars (chains_of links) c.args.runs.now.list) in
    subst (λ (t : List Link). AreFitting versions chars (chains_of t) c.add_link.new.runs.list × MarksEach old (spelled (spans_of chars (chains_of t) c.add_link.new.runs.list)) at.version at.ordinal r.len by) (sym (linked_list c))
    (subst (λ (t : List Run). AreFitting versions chars (chains_of (links ++ record { by = by; earlier = r.newest } ∷ [])) t × MarksEach old (spelled (spans_of chars (chains_of (links ++ record { by = by; earlier = r.newest } ∷ [])) t)) at.version at.ordinal r.len by) (sym (run_list c)) (
      link_fits versions by chars links rs i r c.get-run.ensures.value p.0,
      subst (λ (t : List Spelled). MarksEach t (spelled (spans_of chars (chains_of (links ++ record { by = by; earlier = r.newest } ∷ [])) (set rs i (linked_to r (length links))))) at.version at.ordinal r.len by) p.1
          (subst (λ (a : At). MarksEach (spelled (spans_of chars (chains_of links) rs)) (spelled (spans_of chars (chains_of (links ++ record { by = by; earlier = r.newest } ∷ [])) (set rs i (linked_to r (length links))))) a.version a.ordinal r.len by) (part c).0
          (link_marks versions by chars links rs i r c.get-run.ensures.value p.0)),
    ))

pub returns-clause-linked : goal.returns-clause-linked
returns-clause-linked c =
    let links = c.args.links.now.items in
    let f = c.requires.fitting in
    let p = c.set_apart-part.ensures.alike f.0 f.1 (chains_of links) f.2 in
    let r = c.get-run.result in
    let fit = all_got (IsFitting f.0 (length f.1) (length (chains_of links))) c.set_apart-part.new.runs.list c.set_apart-part.result r p.0 c.get-run.ensures.value in
    subst AreLinked (sym (linked_list c)) (linked_push links (record { by = c.args.by; earlier = r.newest }) c.requires.linked (omega (arith, fit.linked, chains_count links)))
