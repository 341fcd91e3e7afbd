use Rattle.std.proofs.Common.{◌≡◌, ◌≢◌, [], List}
use Rattle.braid_change.specs.Updates.{UpdateView}
use Rattle.braid_store.specs.Books.{of_path}
use Rattle.braid_store.specs.Inside.{entries_in}
use Rattle.braid_store.proofs.Found.{lent, not_lent, found_by, absent_by}
use Rattle.braid_store.proofs.contents.Contents.resource.Goals as goal

pub returns-clause-found : goal.returns-clause-found
returns-clause-found c = lent (λ (H : List UpdateView). (H ≡ of_path (entries_in c.args.self.now) c.args.path.now) × (H ≢ [])) c.get-2.result _ c.get-2.ensures.value (found_by _ (entries_in c.args.self.now) c.get.result.now c.args.path.now c.requires.kept.resources c.get.ensures.value)

pub returns-clause-none : goal.returns-clause-none
returns-clause-none c = not_lent _ c.get-2.result _ c.get-2.ensures.value (absent_by _ (entries_in c.args.self.now) c.get.result.now c.args.path.now c.requires.kept.resources c.get.ensures.value)
