use Rattle.std.proofs.Common.{◌≡◌, ◌∙◌, sym, ap, decimal, true, nat_eq}
use Rattle.std.proofs.lemmas.Str.{IsUtf8-from_ascii}
use Rattle.std.proofs.lemmas.Fmt.{IsAscii-decimal, parse-decimal}
use Rattle.std.specs.Cmp.Lexicographic.{pointwise, pointwise_decides}
use Rattle.std.proofs.lemmas.Bool.Decides.{Decides-eqb}
use Rattle.braid_ids.proofs.readers.read_decimal.Goals as goal

pub returns-in_default : goal.returns-in_default
returns-in_default c = record { found = λ n small e. c.in_default.ensures.cases.0 (rw e (IsUtf8-from_ascii _ (IsAscii-decimal n small))) }

pub returns-in_default-parse : goal.returns-in_default-parse
returns-in_default-parse c =
    record {
      found = λ n small e.
          let r = parse-decimal 64 n c.in-Ok.text.now c.parse.result small small (c.in-Ok.ensures.cases.0 ∙ e) c.parse.ensures.value.0 in
          cc;
    }

pub returns-else-eq : goal.returns-else-eq
returns-else-eq c =
    record {
      found = λ n small e.
          let r = parse-decimal 64 n c.in-Ok.text.now c.parse.result small small (c.in-Ok.ensures.cases.0 ∙ e) c.parse.ensures.value.0 in
          let same : c.in-Ok-parse.n ≡ n = cc in
          let equal : c.as_bytes.result.now ≡ c.args.digits.now = c.as_bytes.ensures.value ∙ c.format.ensures.text ∙ ap decimal same ∙ sym e in
          let t : pointwise nat_eq c.as_bytes.result.now c.args.digits.now ≡ true = (pointwise_decides Decides-eqb _ _).1 equal in
          let f = c.if-eq.ensures {u = tt} in
          cc;
    }
