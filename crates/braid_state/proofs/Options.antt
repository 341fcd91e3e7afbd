-- What is found or not, in weaker words.
use Rattle.std.proofs.Common.{Option, Some, None, MatchOption}

pub found_weaker : {T : Type 0} (o : Option T) (P Q : Type 0) (R S : T → Type 0) → MatchOption o P R → (P → Q) → ((x : T) → R x → S x) → MatchOption o Q S
found_weaker None P Q R S h f g = f h
found_weaker (Some x) P Q R S h f g = g x h
