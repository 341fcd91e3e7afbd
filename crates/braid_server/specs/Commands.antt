-- The words of `serve`: the word itself, and words that one simple command takes.
use Rattle.std.specs.Prelude.{◌≡◌, ℕ, ◌≤◌, List, [], ◌∷◌, pos, true, codes, Option, Some, None, IsUtf8}
use Rattle.std.specs.List.{AllByRecursion}
use Rattle.std.specs.Str.Parse.{IsNumeral, without_leading_plus, digits_value}
use Rattle.clap.specs.Words.{App, Rule, Text, new_rule, with_rule, matches_of, first_of, fault_of, rows_of, found_of}
use Rattle.clap.specs.Simple.{new_shape}
use Rattle.clap.specs.declared.parser.matches.ArgMatches.{ArgMatches}
use Rattle.clap.specs.declared.builder.value_parser.ValueParser.TheVariants as parsers
use Rattle.braid_io.specs.declared.port.Asked.{Asked}
use Rattle.braid_fields.specs.Places.{IsServer}

-- the server's address, which is required
abbrev pub server_rule : Rule
server_rule = record (new_rule (codes "server")) { required = true }

-- the number of workers, from 1 to 32
abbrev pub workers_rule : Rule
workers_rule = record (new_rule (codes "workers")) {
  long = Some (codes "workers");
  parser = Some (parsers.Signed (pos 1) (pos 32));
}

-- the number of connections that are taken, from 1 to 1,000,000
abbrev pub take_rule : Rule
take_rule = record (new_rule (codes "take")) {
  long = Some (codes "take");
  parser = Some (parsers.Signed (pos 1) (pos 1_000_000));
}

-- a command without arguments, and without flags for help and version
abbrev pub bare : App
bare = record {
  top = record (new_shape (codes "serve")) {
    no_binary_name = true;
    disable_help_flag = true;
    disable_version_flag = true;
  };
  subs = [];
}

-- the command that takes the words after `serve`
unfoldable pub serve_app : App
serve_app = with_rule (with_rule (with_rule bare server_rule) workers_rule) take_rule

-- the command takes the words
abbrev pub AreTaken : List Text → Type 0
AreTaken words = fault_of serve_app words ≡ []

-- the first value that the words give to an argument
abbrev pub value_of : List ℕ → List Text → Option Text
value_of name words = first_of name (matches_of serve_app words)

-- the command took the words, and this has what they give
pub record HasValues (words : List Text) (m : ArgMatches) : Type 0 where
  pub taken : AreTaken words
  pub rows : rows_of (found_of m) ≡ matches_of serve_app words

-- the number that a text is, from a lowest to a highest one
pub record IsNumberIn (low high : ℕ) (t : Text) (n : ℕ) : Type 0 where
  pub numeral : IsNumeral 10 (without_leading_plus t)
  pub value : n ≡ digits_value 10 (without_leading_plus t)
  pub least : low ≤ n
  pub most : n ≤ high

-- the same, or a default where there is no text
abbrev pub IsNumberOr : ℕ → ℕ → ℕ → Option Text → ℕ → Type 0
IsNumberOr default low high None n = n ≡ default
IsNumberOr default low high (Some t) n = IsNumberIn low high t n

-- what texts ask for: the command takes them, the server is an address, and the numbers are those given, or 4 workers
-- and 1,000,000 connections
pub record AsksFor (texts : List Text) (asked : Asked) : Type 0 where
  pub taken : AreTaken texts
  pub server : value_of (codes "server") texts ≡ Some asked.server
  pub address : IsServer asked.server
  pub workers : IsNumberOr 4 1 32 (value_of (codes "workers") texts) asked.workers
  pub take : IsNumberOr 1_000_000 1 1_000_000 (value_of (codes "take") texts) asked.take

-- the words of a server: `serve`, and texts that ask for this
pub record IsForm (words : List (List ℕ)) (asked : Asked) : Type 0 where
  pub texts : List (List ℕ)
  pub serve : words ≡ codes "serve" ∷ texts
  pub text : AllByRecursion IsUtf8 texts
  pub asks : AsksFor texts asked
