-- The numbers that are drawn: a linear congruential generator.
use Rattle.std.specs.Prelude.{ℕ, ◌+◌, ◌*◌, ◌/◌, ◌%◌, ◌^◌}

-- the state after a draw: a product and a sum, modulo 2 to the 64th
abbrev pub next_state : ℕ → ℕ
next_state x = (x * 6_364_136_223_846_793_005 + 1_442_695_040_888_963_407) % 2 ^ 64

-- the number that is drawn at a state: the state divided by 2 to the 33rd, without the rest, modulo a bound
abbrev pub drawn : ℕ → ℕ → ℕ
drawn x below = x / 2 ^ 33 % below
