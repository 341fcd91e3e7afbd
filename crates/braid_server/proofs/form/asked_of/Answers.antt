use Rattle.std.proofs.Common.{rules}
use Rattle.braid_server.proofs.Commanding.{value_is, no_server, no_address, no_workers, no_take, asks_for}
use Rattle.braid_server.proofs.form.asked_of.Goals as goal

pub returns-in_default-clause-no : goal.returns-in_default-clause-no
returns-in_default-clause-no c e =
    no_server _ c.get_str.result (value_is _ c.in_ok-matches.matches _ c.get_str.result c.in_ok-matches.ensures.ok c.get_str.ensures) c.in_default.is

pub returns-then-not-is_server-clause-no : goal.returns-then-not-is_server-clause-no
returns-then-not-is_server-clause-no c e =
    no_address _ c.get_str.result c.in-Some.server (value_is _ c.in_ok-matches.matches _ c.get_str.result c.in_ok-matches.ensures.ok c.get_str.ensures) c.in-Some.is
    (λ is. search rules)

pub returns-in_default-number_or-clause-no : goal.returns-in_default-number_or-clause-no
returns-in_default-number_or-clause-no c e =
    no_workers _ c.get_str-2.result (value_is _ c.in_ok-matches.matches _ c.get_str-2.result c.in_ok-matches.ensures.ok c.get_str-2.ensures) (c.number_or.ensures.none c.in_default-number_or.is)

pub returns-in_default-number_or-2-clause-no : goal.returns-in_default-number_or-2-clause-no
returns-in_default-number_or-2-clause-no c e =
    no_take _ c.get_str-3.result (value_is _ c.in_ok-matches.matches _ c.get_str-3.result c.in_ok-matches.ensures.ok c.get_str-3.ensures) (c.number_or-2.ensures.none c.in_default-number_or-2.is)

pub returns-clause-ok : goal.returns-clause-ok
returns-clause-ok c =
    asks_for _ c.in_ok-matches.matches c.get_str.result c.in-Some.server c.get_str-2.result c.get_str-3.result _ c.in_ok-matches.ensures.ok
    c.get_str.ensures c.in-Some.is (search rules) (search rules) c.get_str-2.ensures c.in-Some-number_or.ensures.some c.get_str-3.ensures c.in-Some-number_or-2.ensures.some
