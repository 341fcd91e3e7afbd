use Rattle.std.proofs.Common.{◌≡◌, length, take}
use Rattle.braid_change.specs.Texts.{AreAscii}
use Rattle.braid_change.proofs.ascii.fill_ascii.Given as goal

abbrev pub invariant-loop-n : goal.invariant-loop-n
invariant-loop-n l = record {
  long : length l.buffer ≡ 64;
  filled : take l.n l.buffer ≡ take l.n l.chars;
  ascii : AreAscii (take l.n l.chars);
}
