-- What the parts of a judgement say, as its functions see them.
use Rattle.std.specs.Prelude.{◌≡◌, ℕ, ⊤, List, Some, None, Result, Ok, Err}
use Rattle.braid_ids.specs.Frontiers.{rising_ids}
use Rattle.braid_change.specs.Updates.{UpdateView}
use Rattle.braid_fields.specs.Table.{members_of}
use Rattle.braid_grammar.specs.declared.put.PutFault.{PutFault}
use Rattle.braid_grammar.specs.Puts.{IsPutReading}
use Rattle.braid_http.specs.declared.request.Request.{Request}
use Rattle.braid_session.specs.declared.serving.Serving.{Serving}
use Rattle.braid_session.specs.declared.wish.Wish.{Wish}
use Rattle.braid_session.specs.declared.wish.Wish.TheVariants.{Store}
use Rattle.braid_session.specs.declared.wish.NoWish.{NoWish}
use Rattle.braid_session.specs.declared.wish.NoWish.TheVariants.{Denied, Memory}
use Rattle.braid_session.specs.Orders.{Row, first_denial, rows_of_list, list_in_use}
use Rattle.braid_session.specs.Wishes.{Means, denied, parts_of, wish_of_get, denial_of_put}

-- why a request wants nothing: it is denied. Memory may come for any
abbrev pub IsNoWish : Serving → Request → NoWish → Type 0
IsNoWish s q (Denied d) = Means s q (denied d)
IsNoWish s q Memory = Unit {0}

-- rows were tried: none passed, or the first that did is the denial. Memory may come for any
abbrev pub Judges : Result ⊤ NoWish → List Row → Type 0
Judges (Ok x) rows = first_denial rows ≡ None
Judges (Err (Denied d)) rows = first_denial rows ≡ Some d
Judges (Err Memory) rows = Unit {0}

-- the identifiers of a list, where no row on it passed
abbrev pub Lists : Result (List (List ℕ)) NoWish → List (List ℕ) → Type 0
Lists (Ok ids) values = (first_denial (rows_of_list values) ≡ None) × (ids ≡ rising_ids (members_of values))
Lists (Err (Denied d)) values = first_denial (rows_of_list values) ≡ Some d
Lists (Err Memory) values = Unit {0}

-- what a GET whose form no row denies wants
abbrev pub WantsGet : Result Wish NoWish → Request → Type 0
WantsGet (Ok wish) q = (first_denial (rows_of_list (list_in_use q)) ≡ None) × (wish ≡ wish_of_get q)
WantsGet (Err (Denied d)) q = first_denial (rows_of_list (list_in_use q)) ≡ Some d
WantsGet (Err Memory) q = Unit {0}

-- what a PUT whose head no row denies wants
abbrev pub WantsPut : Result Wish NoWish → Request → Type 0
WantsPut (Ok wish) q = (u : UpdateView) × IsPutReading (parts_of q) q.body (Ok u) × (wish ≡ Store u)
WantsPut (Err (Denied d)) q = (fault : PutFault) × IsPutReading (parts_of q) q.body (Err fault) × (denial_of_put fault ≡ Some d)
WantsPut (Err Memory) q = Unit {0}
