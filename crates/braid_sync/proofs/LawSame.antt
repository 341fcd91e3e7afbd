-- Links of which the same is told.
use Rattle.std.proofs.Common.{◌≡◌, sym, subst}
use Rattle.braid_sync.specs.Talks.{Said, Failing, nothing_failed, dial_failed, read_failed, write_failed, print_failed}
use Rattle.braid_sync.specs.Laws.{IsFixed, AreAlike}

-- what was sent on links that are alike, where a write failed
pub sent_fixed : (f : Failing) (s t : Said) → AreAlike f s t → f ≡ write_failed → s.sent ≡ t.sent
sent_fixed f s t a e = subst (λ g. IsFixed g s t) e a.fixed

pub sent_read : (f : Failing) (s t : Said) → AreAlike f s t → f ≡ read_failed → s.sent ≡ t.sent
sent_read f s t a e = subst (λ g. IsFixed g s t) e a.fixed

-- links that are alike, and of which the same was sent, are one
pub one_said : (f : Failing) (s t : Said) → AreAlike f s t → s.sent ≡ t.sent → s ≡ t
one_said f s t a e =
    let server = a.server in
    let given = a.given in
    let left = a.left in
    λ i. record { server = server i; sent = e i; given = given i; left = left i }

fixed_back : (f : Failing) (s t : Said) → IsFixed f s t → IsFixed f t s
fixed_back nothing_failed s t h = h
fixed_back dial_failed s t h = h
fixed_back read_failed s t h = sym h
fixed_back write_failed s t h = sym h
fixed_back print_failed s t h = h

pub alike_back : (f : Failing) (s t : Said) → AreAlike f s t → AreAlike f t s
alike_back f s t a = record { server = sym a.server; given = sym a.given; left = sym a.left; fixed = fixed_back f s t a.fixed }
