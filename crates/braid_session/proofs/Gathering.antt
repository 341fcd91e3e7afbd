-- Updates that are copied behind a cursor, one by one.
use Rattle.std.proofs.Common.{◌≡◌, ℕ, ◌-◌, ◌<◌, ◌≤◌, Option, List, [], ◌∷◌, ◌++◌, Some, None, refl, ap, sym, subst, ◌∙◌, length, append_assoc, append-nil, arith}
use Rattle.braid_change.specs.Updates.{UpdateView}
use Rattle.braid_graph.specs.Entries.{HoldsAll}
use Rattle.braid_graph.specs.Frontiers.{IsFrontierOf}
use Rattle.braid_graph.proofs.Frontiers.{one_frontier}
use Rattle.braid_text.specs.Histories.{graph_of}
use Rattle.braid_store.specs.declared.entry.Entry.{Entry}
use Rattle.braid_hall.specs.Histories.{IsPrefix}
use Rattle.braid_store.specs.Books.{of_path, IsLegalBook}
use Rattle.braid_store.specs.Cursors.{CursorView, IsFit, IsNext, left_past}
use Rattle.braid_store.proofs.Later.{fits_longer_book}
use Rattle.braid_session.specs.declared.watch.Begun.{Begun}
use Rattle.braid_session.specs.WatchSteps.{BeginsAt}

-- from where a cursor started these were given; it is the same cursor, but for how much it has passed
pub record Gathers (B : List Entry) (start c : CursorView) (us : List UpdateView) : Type 0 where
  pub gives : us ++ left_past (of_path B start.path) start.from c.passed ≡ left_past (of_path B start.path) start.from start.passed
  pub kept : c ≡ record start { passed = c.passed }
  pub fits : IsFit B c

pub gathers_none : (B : List Entry) (start : CursorView) → IsFit B start → Gathers B start start []
gathers_none B start f = record { gives = refl; kept = refl; fits = f }

-- what a cursor that goes on from the start gives next
next_of : (B : List Entry) (start c : CursorView) (us : List UpdateView) (x : Option UpdateView) (m : ℕ) → Gathers B start c us → IsNext (of_path B c.path) c.from c.passed x m → IsNext (of_path B start.path) start.from c.passed x m
next_of B start c us x m g n = subst (λ (v : CursorView). IsNext (of_path B v.path) v.from c.passed x m) g.kept n

pub gathers_more : (B : List Entry) (start c new : CursorView) (us : List UpdateView) (u : UpdateView) → Gathers B start c us → IsNext (of_path B c.path) c.from c.passed (Some u) new.passed
    → new ≡ record c { passed = new.passed } → IsFit B new → Gathers B start new (us ++ u ∷ [])
gathers_more B start c new us u g n k f =
    let e = next_of B start c us (Some u) new.passed g n in
    record {
      gives = append_assoc us (u ∷ []) (left_past (of_path B start.path) start.from new.passed) ∙ ap (λ (t : List UpdateView). us ++ t) (sym e.0) ∙ g.gives;
      kept = k ∙ ap (λ (v : CursorView). record v { passed = new.passed }) g.kept;
      fits = f;
    }

-- it comes nearer to the end
pub gathers_less : (B : List Entry) (start c new : CursorView) (us : List UpdateView) (u : UpdateView) → Gathers B start c us → IsNext (of_path B c.path) c.from c.passed (Some u) new.passed
    → new ≡ record c { passed = new.passed } → IsFit B new → length (of_path B start.path) - new.passed < length (of_path B start.path) - c.passed
gathers_less B start c new us u g n k f =
    let e = next_of B start c us (Some u) new.passed g n in
    let path : new.path ≡ start.path = ap (λ (v : CursorView). v.path) k ∙ ap (λ (v : CursorView). v.path) g.kept in
    let within : new.passed ≤ length (of_path B start.path) = subst (λ (p : List ℕ). new.passed ≤ length (of_path B p)) path f.within in
    omega (arith, e.1, within)

-- where nothing is left, all was given
pub gathers_all : (B : List Entry) (start c new : CursorView) (us : List UpdateView) → Gathers B start c us → IsNext (of_path B c.path) c.from c.passed None new.passed
    → (us ≡ left_past (of_path B start.path) start.from start.passed) × (new.passed ≡ length (of_path B start.path))
gathers_all B start c new us g n =
    let e = next_of B start c us None new.passed g n in
    (sym (append-nil us) ∙ ap (λ (t : List UpdateView). us ++ t) (sym e.0) ∙ g.gives, e.1)

pub kept_on : (start c new : CursorView) → c ≡ record start { passed = c.passed } → new ≡ record c { passed = new.passed } → new ≡ record start { passed = new.passed }
kept_on start c new g k = k ∙ ap (λ (v : CursorView). record v { passed = new.passed }) g

-- a subscription begins with all that is sent, and the cursor stands behind it
pub begins_at : (B : List Entry) (path : List ℕ) (F : List (List ℕ)) (start : CursorView) (begun : Begun) → start.path ≡ path → start.from ≡ F → start.passed ≡ 0 → IsFit B start
    → IsFrontierOf (graph_of (of_path B path)) begun.current → begun.updates ≡ left_past (of_path B start.path) start.from start.passed
    → begun.cursor ≡ record start { passed = begun.cursor.passed } → begun.cursor.passed ≡ length (of_path B start.path) → IsFit B begun.cursor → BeginsAt B path F begun
begins_at B path F start begun p f z fits current us kept passed fit = record {
  current = one_frontier (graph_of (of_path B path)) begun.current current;
  stands = record {
    held = subst (λ (x : List (List ℕ)). HoldsAll (graph_of (of_path B path)) x) f (subst (λ (x : List ℕ). HoldsAll (graph_of (of_path B x)) start.from) p fits.held);
    updates = us ∙ ap (λ (x : ℕ). left_past (of_path B start.path) start.from x) z ∙ ap (λ (x : List ℕ). left_past (of_path B x) start.from 0) p ∙ ap (λ (x : List (List ℕ)). left_past (of_path B path) x 0) f;
    path_is = ap (λ (v : CursorView). v.path) kept ∙ p;
    from_is = ap (λ (v : CursorView). v.from) kept ∙ f;
    passed = passed ∙ ap (λ (x : List ℕ). length (of_path B x)) p;
    fits = fit;
  };
}

-- a cursor that fits a book fits the one that begins with it
pub fits_begun : (B C : List Entry) (c : CursorView) → IsPrefix B C → IsLegalBook C → IsFit B c → IsFit C c
fits_begun B C c p legal f = subst (λ (D : List Entry). IsFit D c) (sym p.1) (fits_longer_book B p.0 c f (subst IsLegalBook p.1 legal))
