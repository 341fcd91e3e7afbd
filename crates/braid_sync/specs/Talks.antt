-- What is said on a link, what a dialer tells of it once it is hung up, and which calls of the outside failed.
use Rattle.std.specs.Prelude.{◌≡◌, ◌≤◌, ◌<◌, ℕ, List, [], ◌∷◌, ◌++◌, Option, Some, None, unwrap_or}
use Rattle.std.specs.Option.{option_map}
use Rattle.std.specs.List.{AllByRecursion}
use Rattle.braid_io.specs.Outside.{Rose, joint_count}
use Rattle.braid_io.specs.Dialers.{Talk, Dialing}

-- What is said on one link: the server that it was dialled to, the bytes sent, the bytes given, and those that it had
-- left to give, None where it does not tell them.
pub record Said : Type 0 where
  pub server : List ℕ
  pub sent : List ℕ
  pub given : List ℕ
  pub left : Option (List ℕ)

-- all that a link had to give, as far as it tells that
abbrev pub offered : Said → List ℕ
offered said = said.given ++ unwrap_or said.left []

-- where bytes are told, they are these
abbrev pub AreTold : Option (List ℕ) → List ℕ → Type 0
AreTold None bytes = Unit {0}
AreTold (Some told) bytes = told ≡ bytes

-- a link that was hung up tells what was said on it
pub record Tells (talk : Talk) (said : Said) : Type 0 where
  pub server : talk.server ≡ said.server
  pub sent : AreTold talk.outflow.written said.sent
  pub given : AreTold talk.intake.taken said.given
  pub left : talk.intake.left ≡ said.left

-- each of the links does, in order
abbrev pub TellAll : List Talk → List Said → Type 0
TellAll [] [] = Unit {0}
TellAll [] (said ∷ saids) = ⊥
TellAll (talk ∷ talks) [] = ⊥
TellAll (talk ∷ talks) (said ∷ saids) = Tells talk said × TellAll talks saids

-- a list that is told, and more behind it
abbrev pub with_more : {A : Type 0} → Option (List A) → List A → Option (List A)
with_more told more = option_map (λ xs. xs ++ more) told

-- a count of failed reads, and those of these links added to it
abbrev pub with_read_faults : ℕ → List Talk → ℕ
with_read_faults n [] = n
with_read_faults n (talk ∷ talks) = with_read_faults (joint_count n talk.intake.faults) talks

-- a count of failed writes, and those of these links added to it
abbrev pub with_write_faults : ℕ → List Talk → ℕ
with_write_faults n [] = n
with_write_faults n (talk ∷ talks) = with_write_faults (joint_count n talk.outflow.faults) talks

-- A dialer gained these talks, and nothing else but for its count of failed dials: each link that it gave was hung up.
pub record Gains (talks : List Talk) (old new : Dialing) : Type 0 where
  pub talks_are : new.talks ≡ with_more old.talks talks
  pub hung_up : new.servers ≡ old.servers
  pub read_faults : new.link_read_faults ≡ with_read_faults old.link_read_faults talks
  pub write_faults : new.link_write_faults ≡ with_write_faults old.link_write_faults talks

-- the calls of the outside that may fail; the first that does ends a run
pub data Failing : Type 0 where
  nothing_failed : Failing
  dial_failed : Failing
  read_failed : Failing
  write_failed : Failing
  print_failed : Failing

-- no read and no write of a link failed
abbrev pub IsQuiet : Talk → Type 0
IsQuiet talk = (talk.intake.faults ≡ 0) × (talk.outflow.faults ≡ 0)

-- of the last link reads failed, and nothing else
pub record FailedToRead (talks : List Talk) : Type 0 where
  pub before : List Talk
  pub talk : Talk
  pub split : talks ≡ before ++ talk ∷ []
  pub quiet : AllByRecursion IsQuiet before
  pub rose : 0 < talk.intake.faults
  pub writes : talk.outflow.faults ≡ 0

-- of the last link writes failed, and nothing else
pub record FailedToWrite (talks : List Talk) : Type 0 where
  pub before : List Talk
  pub talk : Talk
  pub split : talks ≡ before ++ talk ∷ []
  pub quiet : AllByRecursion IsQuiet before
  pub rose : 0 < talk.outflow.faults
  pub reads : talk.intake.faults ≡ 0

-- which counts rose, when this failed: that of the call that failed, and no other
abbrev pub FailedBy : Failing → List Talk → Dialing → Dialing → Type 0
FailedBy nothing_failed talks old new = (new.faults ≡ old.faults) × AllByRecursion IsQuiet talks
FailedBy dial_failed talks old new = (old.faults ≤ new.faults) × Rose old.faults new.faults
    × AllByRecursion IsQuiet talks
FailedBy read_failed talks old new = (new.faults ≡ old.faults) × FailedToRead talks
FailedBy write_failed talks old new = (new.faults ≡ old.faults) × FailedToWrite talks
FailedBy print_failed talks old new = (new.faults ≡ old.faults) × AllByRecursion IsQuiet talks
