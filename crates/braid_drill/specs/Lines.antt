-- What a drill prints.
use Rattle.std.specs.Prelude.{ℕ, List, ◌++◌, codes, decimal}
use Rattle.hex.specs.Hex.{encode_lower}
use Rattle.braid_lines.specs.Lines.{line_with}
use Rattle.braid_drill.specs.declared.report.Summary.{Summary}

-- the five lines of a drill of so many rounds: the rounds, the book's versions, the replicas' unsent updates, the
-- replicas that have the book's digest, and that digest in hexadecimal digits
abbrev pub summary_text : ℕ → Summary → List ℕ
summary_text rounds s =
    line_with (codes "rounds: ") (decimal rounds)
    ++ (line_with (codes "versions: ") (decimal s.versions)
    ++ (line_with (codes "unsent: ") (decimal s.unsent)
    ++ (line_with (codes "equal: ") (decimal s.equal)
    ++ line_with (codes "digest: ") (encode_lower s.digest))))
