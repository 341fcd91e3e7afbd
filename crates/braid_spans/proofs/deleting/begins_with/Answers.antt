use Rattle.std.proofs.Common.{◌≡◌, ◌∷◌, ℕ, Option, None, ◌∙◌, sym, ap, List, length, get_or}
use Rattle.std.proofs.lemmas.Option.{slice_get-get_or}
use Rattle.braid_spans.specs.declared.link.Link.{Link}
use Rattle.braid_spans.specs.Kept.{chain_at, chains_of}
use Rattle.braid_spans.proofs.Chains.{chain_step, link_there, same_number}
use Rattle.braid_spans.proofs.deleting.begins_with.Goals as goal

-- what is read where no link is
no_link : Link
no_link = record { by = 0; earlier = None }

begun : (chains : List (List ℕ)) (x : Link) (by : ℕ) (rest : Option ℕ) → x.by ≡ by → x.earlier ≡ rest → x.by ∷ chain_at chains x.earlier ≡ by ∷ chain_at chains rest
begun chains x by rest e f = ap (λ n. n ∷ chain_at chains x.earlier) e ∙ ap (λ o. by ∷ chain_at chains o) f

pub returns-then-link-by : goal.returns-then-link-by
unfolding no_link
returns-then-link-by c = record {
  begins = λ h. (let l = link_there c.args.newest c.in-Some.n (length c.args.links.now) c.in-Some.is c.requires.within in
      let s = chain_step c.args.links.now c.in-Some.n (get_or c.args.links.now c.in-Some.n no_link) c.requires.linked (slice_get-get_or c.args.links.now c.in-Some.n no_link l) in
      ap (chain_at (chains_of c.args.links.now)) c.in-Some.is ∙ s ∙ begun (chains_of c.args.links.now) (get_or c.args.links.now c.in-Some.n no_link) c.args.by c.args.rest c.if-link-by.true (same_number _ _ (sym c.eq.ensures ∙ h)));
}
