-- The command of `serve` is one of which clap's words say all.
use Rattle.std.proofs.Common.{◌≡◌, ◌≢◌, ℕ, ◌<◌, ◌^◌, arith, refl, sym, true, ap, subst, codes, option_map, Option, Some, None, Bor, List, [], ◌∷◌, inl, inr, ◌∙◌, Result, Ok, Err, IfOk}
use Rattle.std.specs.Prelude.{IsUtf8}
use Rattle.std.specs.List.{AllByRecursion}
use Rattle.clap.specs.Words.{App, Text, Kinds, is_simple, is_simple_and_free, fault_of, HasMatchesOf, HasKind, kind_of, found_of, first_of, first_value}
use Rattle.clap.specs.declared.error.Error.{Error}
use Rattle.clap.specs.declared.error.kind.ErrorKind.TheVariants as kind
use Rattle.clap.specs.declared.parser.matches.ArgMatches.{ArgMatches}
use Rattle.clap.proofs.OnLiterals.{clap_on_literals}
use Rattle.clap.proofs.WalkLemmas.{first_value-rows}
use Rattle.braid_io.specs.declared.port.Asked.{Asked}
use Rattle.braid_fields.specs.Places.{IsServer}
use Rattle.braid_server.specs.Commands.{serve_app, HasValues, AreTaken, value_of, IsNumberOr, AsksFor, IsForm}
use Rattle.braid_server.specs.declared.command.FormFault.{FormFault}

pub serve_is_simple : is_simple serve_app ≡ true
unfolding serve_app clap_on_literals
serve_is_simple = refl

pub serve_is_free : is_simple_and_free serve_app ≡ true
unfolding serve_app clap_on_literals
serve_is_free = refl

pub free_of : (a : App) → a ≡ serve_app → is_simple_and_free a ≡ true
free_of a is = ap is_simple_and_free is ∙ serve_is_free

pub values_for : (words : List Text) (a : App) (m : ArgMatches) → a ≡ serve_app
    → fault_of a words ≡ [] → HasMatchesOf a words m → HasValues words m
values_for words a m is taken rows = record {
  taken = subst (λ (b : App). fault_of b words ≡ []) is taken;
  rows = (subst (λ (b : App). HasMatchesOf b words m) is rows serve_is_simple).0;
}

pub refused_for : (words : List Text) (a : App) (e : Error) → a ≡ serve_app
    → HasKind (fault_of a words) e → kind_of e ≢ kind.OutOfMemory → AreTaken words → ⊥
refused_for words a e is fails other taken =
    go (subst (λ (k : Kinds). HasKind k e) (ap (λ (b : App). fault_of b words) is ∙ taken) fails)
  where
    go : HasKind [] e → ⊥
    go h = elim h [ inl m ↦ other m | inr b ↦ b ]

-- the getter gives the words' value
pub value_is : (words : List Text) (m : ArgMatches) (name : List ℕ) (o : Option (Bor Text)) → HasValues words m
    → option_map (λ s. s.now) o ≡ first_value (found_of m) name → option_map (λ s. s.now) o ≡ value_of name words
value_is words m name o values is = is ∙ first_value-rows (found_of m) name ∙ ap (first_of name) values.rows

-- a number of the words is a small one
pub small : (default high : ℕ) (o : Option Text) (n : ℕ) → default < 2 ^ 32 → high < 2 ^ 32 → IsNumberOr default 1 high o n → n < 2 ^ 32
small default high None n d h is = omega (arith, is, d)
small default high (Some t) n d h is = let m = is.most in omega (arith, m, h)

-- words without a server ask for nothing
pub no_server : (words : List Text) (o : Option (Bor Text)) → option_map (λ s. s.now) o ≡ value_of (codes "server") words → o ≡ None → (asked : Asked) → AsksFor words asked → ⊥
no_server words o is none asked a = absurd (cc (sym (ap (option_map (λ (s : Bor Text). s.now)) none) ∙ is ∙ a.server))

-- the server that they name
server_is : (words : List Text) (o : Option (Bor Text)) (x : Bor Text) → option_map (λ s. s.now) o ≡ value_of (codes "server") words → o ≡ Some x → value_of (codes "server") words ≡ Some x.now
server_is words o x is some = sym is ∙ ap (option_map (λ (s : Bor Text). s.now)) some

-- nor do those with one that is no address
pub no_address : (words : List Text) (o : Option (Bor Text)) (x : Bor Text) → option_map (λ s. s.now) o ≡ value_of (codes "server") words → o ≡ Some x → ¬ IsServer x.now
    → (asked : Asked) → AsksFor words asked → ⊥
no_address words o x is some not asked a = not (subst IsServer (same (sym a.server ∙ server_is words o x is some)) a.address)
  where
    same : {s t : Text} → Some s ≡ Some t → s ≡ t
    same e = cc e

-- nor those with a number that is none
pub no_workers : (words : List Text) (o : Option (Bor Text)) → option_map (λ s. s.now) o ≡ value_of (codes "workers") words
    → ((n : ℕ) → n < 2 ^ 32 → ¬ (IsNumberOr 4 1 32 (option_map (λ s. s.now) o) n)) → (asked : Asked) → AsksFor words asked → ⊥
no_workers words o is not asked a =
    let w = subst (λ z. IsNumberOr 4 1 32 z asked.workers) (sym is) a.workers in
    not asked.workers (small 4 32 (option_map (λ s. s.now) o) asked.workers (omega arith) (omega arith) w) w

pub no_take : (words : List Text) (o : Option (Bor Text)) → option_map (λ s. s.now) o ≡ value_of (codes "take") words
    → ((n : ℕ) → n < 2 ^ 32 → ¬ (IsNumberOr 1_000_000 1 1_000_000 (option_map (λ s. s.now) o) n)) → (asked : Asked) → AsksFor words asked → ⊥
no_take words o is not asked a =
    let w = subst (λ z. IsNumberOr 1_000_000 1 1_000_000 z asked.take) (sym is) a.take in
    not asked.take (small 1_000_000 1_000_000 (option_map (λ s. s.now) o) asked.take (omega arith) (omega arith) w) w

-- what is asked for, where the values are a server's address and two numbers
pub asks_for : (words : List Text) (m : ArgMatches) (server : Option (Bor Text)) (x : Bor Text) (workers take : Option (Bor Text)) (asked : Asked) → HasValues words m
    → option_map (λ s. s.now) server ≡ first_value (found_of m) (codes "server") → server ≡ Some x → IsServer x.now → asked.server ≡ x.now
    → option_map (λ s. s.now) workers ≡ first_value (found_of m) (codes "workers") → IsNumberOr 4 1 32 (option_map (λ s. s.now) workers) asked.workers
    → option_map (λ s. s.now) take ≡ first_value (found_of m) (codes "take") → IsNumberOr 1_000_000 1 1_000_000 (option_map (λ s. s.now) take) asked.take
    → AsksFor words asked
asks_for words m server x workers take asked values server_is_given some address same workers_given number take_given count = record {
  taken = values.taken;
  server = server_is words server x (value_is words m (codes "server") server values server_is_given) some ∙ ap Some (sym same);
  address = subst IsServer (sym same) address;
  workers = subst (λ (o : Option Text). IsNumberOr 4 1 32 o asked.workers) (value_is words m (codes "workers") workers values workers_given) number;
  take = subst (λ (o : Option Text). IsNumberOr 1_000_000 1 1_000_000 o asked.take) (value_is words m (codes "take") take values take_given) count;
}

-- the words of a form
pub form_of : (words : List (List ℕ)) (first : List ℕ) (rest texts : List (List ℕ)) (r : Result Asked FormFault) → words ≡ first ∷ rest → first ≡ codes "serve" → texts ≡ rest
    → AllByRecursion IsUtf8 rest → IfOk r (λ asked. AsksFor texts asked) → IfOk r (λ asked. IsForm words asked)
form_of words first rest texts (Ok asked) is serve same text asks = record {
  texts = rest;
  serve = is ∙ ap (λ (w : List ℕ). w ∷ rest) serve;
  text = text;
  asks = subst (λ (l : List Text). AsksFor l asked) same asks;
}
form_of words first rest texts (Err e) is serve same text asks = tt
