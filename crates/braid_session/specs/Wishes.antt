-- What a request means: a denial, or what it wants of the book.
use Rattle.std.specs.Prelude.{◌≡◌, ℕ, true, false, List, [], ◌∷◌, codes, Option, Some, None, Ok, Err, if◌then◌else◌}
use Rattle.braid_ids.specs.Frontiers.{rising_ids}
use Rattle.braid_change.specs.Updates.{UpdateView}
use Rattle.braid_fields.specs.declared.parts.Parts.{Parts}
use Rattle.braid_fields.specs.Table.{members_of}
use Rattle.braid_grammar.specs.declared.put.PutFault.{PutFault}
use Rattle.braid_grammar.specs.declared.put.PutFault.TheVariants as faults
use Rattle.braid_grammar.specs.Puts.{IsPutReading}
use Rattle.braid_http.specs.declared.request.Request.{Request}
use Rattle.braid_session.specs.declared.serving.Serving.{Serving}
use Rattle.braid_session.specs.declared.denial.Denial.{Denial}
use Rattle.braid_session.specs.declared.denial.Denial.TheVariants as denials
use Rattle.braid_session.specs.declared.wish.Wish.{Wish}
use Rattle.braid_session.specs.declared.wish.Wish.TheVariants.{Read, Watch, Store}
use Rattle.braid_session.specs.Orders.{values_of, is_get, is_subscription, list_in_use, denial_of}

-- the known fields of a request
abbrev pub parts_of : Request → Parts
parts_of q = record {
  version = values_of q (codes "version");
  parents = values_of q (codes "parents");
  merge_type = values_of q (codes "merge-type");
  patches = values_of q (codes "patches");
  length = values_of q (codes "content-length");
  range = values_of q (codes "content-range");
  encoding = values_of q (codes "content-encoding");
}

-- the version that identifiers ask for: none where there are none, else the set of them
abbrev pub version_asked : List (List ℕ) → Option (List (List ℕ))
version_asked [] = None
version_asked (id ∷ ids) = Some (rising_ids (id ∷ ids))

-- what a GET wants: a subscription from the set of its `Parents`, or the text at its `Version`
abbrev pub wish_of_get : Request → Wish
wish_of_get q =
    if is_subscription q then Watch (rising_ids (members_of (list_in_use q))) else Read (version_asked (members_of (list_in_use q)))

-- the denial of a PUT that is not read; want of memory is none
abbrev pub denial_of_put : PutFault → Option Denial
denial_of_put (faults.Reason reason) = Some (denials.NoUpdate reason)
denial_of_put faults.Short = Some denials.Short
denial_of_put faults.Extra = Some denials.Extra
denial_of_put faults.Memory = None

-- what a request may mean
pub data Meaning : Type 0 where
  denied : Denial → Meaning
  wanted : Wish → Meaning

-- What a request means: its head is denied; it is a GET that is not; it is a PUT of an update; or it is a PUT of none.
pub data Means (s : Serving) (q : Request) : Meaning → Type 0 where
  by_head : (d : Denial) → denial_of s q ≡ Some d → Means s q (denied d)
  get : denial_of s q ≡ None → is_get q ≡ true → Means s q (wanted (wish_of_get q))
  put : (u : UpdateView) → denial_of s q ≡ None → is_get q ≡ false → IsPutReading (parts_of q) q.body (Ok u) → Means s q (wanted (Store u))
  no_put : (fault : PutFault) (d : Denial) → denial_of s q ≡ None → is_get q ≡ false → IsPutReading (parts_of q) q.body (Err fault)
      → denial_of_put fault ≡ Some d → Means s q (denied d)
