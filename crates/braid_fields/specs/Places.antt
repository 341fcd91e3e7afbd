-- Where a text is: the address of its server, and its path there.
use Rattle.std.specs.Prelude.{◌≡◌, ℕ, ◌<◌, ◌≤◌, ◌==◌, ◌||◌, ◌&&◌, nat_le, Bool, List, ◌++◌, length, codes}
use Rattle.std.specs.List.{list_any}
use Rattle.braid_shelf.specs.ByteClasses.{is_letter, is_digit, Are}

-- a byte that the address of a server may have: from `!` to `~`
abbrev pub is_server_byte : ℕ → Bool
is_server_byte byte = nat_le 0x21 byte && nat_le byte 0x7e

-- the address of a server: 1 to 255 such bytes
pub record IsServer (address : List ℕ) : Type 0 where
  pub some : 0 < length address
  pub short : length address ≤ 255
  pub visible : Are is_server_byte address

-- a byte that a path may have: a letter, a digit or one of these signs
abbrev pub is_path_byte : ℕ → Bool
is_path_byte byte = is_letter byte || is_digit byte || list_any (λ sign. byte == sign) (codes "-._~!$&'()*+,;=:@%/?")

-- a path: `/` and more such bytes, 1,024 at most
pub record IsPath (path : List ℕ) : Type 0 where
  pub more : List ℕ
  pub begins : path ≡ codes "/" ++ more
  pub short : length path ≤ 1_024
  pub allowed : Are is_path_byte path
