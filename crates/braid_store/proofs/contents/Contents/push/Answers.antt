use Rattle.std.proofs.Common.{◌+◌, [], ◌∷◌, ◌++◌, ap, sym, ◌∙◌, nat_eq}
use Rattle.std.specs.Cmp.Lexicographic.{pointwise}
use Rattle.indexmap.proofs.CallerLemmas.{insert_entry-new}
use Rattle.braid_change.specs.Updates.{UpdateView}
use Rattle.braid_store.specs.Inside.{entries_in}
use Rattle.braid_store.proofs.Grown.{Grows}
use Rattle.braid_store.proofs.Keeping.{first_entry, adds_first, lookup_none, same_head}
use Rattle.braid_store.proofs.contents.Contents.push.Goals as goal

grown : (c : goal.Joined-this) → Grows c.insert.new.self.entries c.push_reserved.new.self.items (c.args.self.now.elements + c.elements.result) (c.args.self.now.deletions + c.deletions.result) (entries_in c.args.self.now ++ first_entry c.args.path c.args.by c.requires.may.0 ∷ [])
grown c =
    adds_first c.args.self.now.resources.entries c.insert.new.self.entries c.args.self.now.places.items c.push_reserved.new.self.items c.args.self.now.elements c.args.self.now.deletions c.requires.kept c.args.path c.args.by c.args.resource c.requires.absent
    c.requires.may.0 c.requires.may.1 c.requires.may.2 c.len.result c.elements.result c.deletions.result c.len.ensures.len c.push_reserved.ensures.items
    (c.in-Ok.ensures.entries ∙ insert_entry-new (pointwise nat_eq) c.args.self.now.resources c.args.path c.args.resource (lookup_none c.args.self.now.resources.entries (entries_in c.args.self.now) c.args.path c.requires.kept.resources c.requires.absent))
    c.elements.ensures.count c.deletions.ensures.count

pub returns-clause-adds : goal.returns-clause-adds
returns-clause-adds c = λ u h. (grown c).entries ∙ ap (λ (t : UpdateView). entries_in c.args.self.now ++ first_entry c.args.path c.args.by t ∷ []) (same_head c.requires.may.0 u (sym c.requires.may.1 ∙ h))

pub returns-clause-kept : goal.returns-clause-kept
returns-clause-kept c = (grown c).kept
