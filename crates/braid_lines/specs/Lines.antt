-- Lines that commands print: of a name and what it is said of, of a fault, and of what a history reads.
use Rattle.std.specs.Prelude.{ℕ, List, [], ◌∷◌, ◌++◌, length, codes, decimal, encode_utf8_all}
use Rattle.hex.specs.Hex.{encode_lower}
use Rattle.braid_ids.specs.Identifiers.{spelled_ids}
use Rattle.braid_fields.specs.Reasons.{reason_name}
use Rattle.braid_frame.specs.declared.fed.FrameFault.{FrameFault}
use Rattle.braid_text.specs.Rooms.{which_name}
use Rattle.braid_text.specs.declared.room.Which.{Which}

-- the line of a name and what it is said of
abbrev pub line_with : List ℕ → List ℕ → List ℕ
line_with name said = name ++ (said ++ codes "\n")

-- the line for a fault of this name
abbrev pub fault_line : List ℕ → List ℕ
fault_line name = codes "fault: " ++ (name ++ codes "\n")

-- a fault of a stream: its reason, and its place
abbrev pub stream_name : FrameFault → List ℕ
stream_name f = reason_name f.reason ++ (codes " at " ++ decimal f.at)

-- a patch that ends past the text, and the text's length
abbrev pub range_name : ℕ → ℕ → List ℕ
range_name patch len = codes "OutOfRange patch " ++ (decimal patch ++ (codes " len " ++ decimal len))

-- a limit that would be passed
abbrev pub full_name : Which → ℕ → List ℕ
full_name which limit = codes "Full " ++ (which_name which ++ (codes " " ++ decimal limit))

-- what stands behind `frontier:`: nothing where there are no identifiers, else a space and their list
abbrev pub frontier_said : List (List ℕ) → List ℕ
frontier_said [] = []
frontier_said (v ∷ vs) = codes " " ++ spelled_ids (v ∷ vs)

-- what is read: the number of a text's characters, a digest in hexadecimal digits, and the text
abbrev pub content_lines : List ℕ → List ℕ → List ℕ
content_lines text digest =
    line_with (codes "length: ") (decimal (length text))
    ++ (line_with (codes "digest: ") (encode_lower digest) ++ line_with (codes "text:\n") (encode_utf8_all text))
