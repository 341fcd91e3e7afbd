-- What a body reader has read, and what one read of it does.
use Rattle.std.specs.Prelude.{◌≡◌, ◌≢◌, ℕ, ◌+◌, ◌-◌, ◌<◌, ◌≤◌, ◌⊎◌, List, [], ◌++◌, length, take, min, Result, Ok, Err}
use Rattle.std.specs.Io.KnownBytes.{IsAtEnd}
use Rattle.braid_io.specs.Outside.{Intake, Rose, next_count}
use Rattle.braid_io.specs.declared.source.Read.{Read}
use Rattle.braid_io.specs.declared.source.Read.TheVariants.{Got, End, Failed}
use Rattle.braid_http.specs.declared.response.BodyKind.{BodyKind}
use Rattle.braid_http.specs.declared.response.BodyKind.TheVariants as kinds
use Rattle.braid_http.specs.declared.around.Framing.TheVariants.{Behind}
use Rattle.braid_http.specs.declared.around.Passed.{Passed}
use Rattle.braid_http.specs.declared.around.Passed.TheVariants as passes
use Rattle.braid_http.specs.declared.body.BodyState.{BodyState}
use Rattle.braid_http.specs.declared.body.BodyState.TheVariants.{Open, Done, Torn, BadChunk, SourceFailed}
use Rattle.braid_http.specs.declared.body.Content.{Content}
use Rattle.braid_http.specs.declared.body.Content.TheVariants.{Plain, Endless, Chunk}
use Rattle.braid_http.specs.declared.body.Place.{Place}
use Rattle.braid_http.specs.declared.body.Place.TheVariants.{In, Around}
use Rattle.braid_http.specs.declared.body.Body.{Body}
use Rattle.braid_http.specs.Bodies.{IsBody, HasBegun, IsInChunk, IsAgainst}
use Rattle.braid_http.specs.BodySteps.{IsAround}
use Rattle.braid_http.specs.Draws.{Draws, DrawsToEnd, DrawsAndFails}

-- a body of this kind that is not whole has come so far, and this is the data in it; data is next
abbrev pub IsIn : BodyKind → Content → List ℕ → List ℕ → List ℕ → Type 0
IsIn kind (Plain left) begun content b = (kind ≡ kinds.Length (length b + left)) × (0 < left) × (content ≡ b)
IsIn kind Endless begun content b = (kind ≡ kinds.ToClose) × (content ≡ b)
IsIn kind (Chunk left) begun content b = (kind ≡ kinds.Chunked) × (begun ≡ []) × (0 < left) × IsInChunk left content b

-- the same, where the reader stands at any place
abbrev pub IsAt : BodyKind → Place → List ℕ → List ℕ → List ℕ → Type 0
IsAt kind (In next) begun content b = IsIn kind next begun content b
IsAt kind (Around framing) begun content b = (kind ≡ kinds.Chunked) × IsAround framing begun content b

-- a body's reader has passed these bytes and has given this data
abbrev pub HasReadIn : BodyState → BodyKind → Place → List ℕ → List ℕ → List ℕ → Type 0
HasReadIn Open kind place begun content b = IsAt kind place begun content b
HasReadIn Done kind place begun content b = IsBody kind content b
HasReadIn Torn kind place begun content b = HasBegun kind content b
HasReadIn BadChunk kind place begun content b = IsAgainst kind content b
HasReadIn SourceFailed kind place begun content b = IsAt kind place begun content b

abbrev pub HasRead : Body → List ℕ → List ℕ → Type 0
HasRead body content b = HasReadIn body.state body.kind body.place body.line content b

-- what a state tells of the bytes passed and the data given
abbrev pub Tells : BodyState → BodyKind → List ℕ → List ℕ → Type 0
Tells Open kind content b = HasBegun kind content b
Tells Done kind content b = IsBody kind content b
Tells Torn kind content b = HasBegun kind content b
Tells BadChunk kind content b = IsAgainst kind content b
Tells SourceFailed kind content b = HasBegun kind content b

-- the state is for good
abbrev pub IsOver : BodyState → Type 0
IsOver Open = ⊥
IsOver Done = Unit {0}
IsOver Torn = Unit {0}
IsOver BadChunk = Unit {0}
IsOver SourceFailed = ⊥

-- Why a read of a body that was not over gave no data: the body is whole, and where only the source's end ends it the
-- source has ended; the source has ended before, where something else ends it; the bytes are against it; a read of the
-- link failed. Where the source has ended or failed, the wire keeps nothing.
abbrev pub Stops : BodyState → BodyKind → List ℕ → List ℕ → List ℕ → Intake → Intake → Type 0
Stops Open kind used held kept i j = ⊥
Stops Done kind used held kept i j = Draws used held kept i j × (kind ≡ kinds.ToClose → (kept ≡ []) × IsAtEnd j.left)
Stops Torn kind used held kept i j = DrawsToEnd used held kept i j × (kind ≢ kinds.ToClose)
Stops BadChunk kind used held kept i j = Draws used held kept i j
Stops SourceFailed kind used held kept i j = DrawsAndFails used held kept i j

-- data came: the body is not whole, or it is one of a length and whole with this data
abbrev pub GoesOn : BodyState → BodyKind → Type 0
GoesOn Open kind = Unit {0}
GoesOn Done kind = (n : ℕ) × (kind ≡ kinds.Length n)
GoesOn Torn kind = ⊥
GoesOn BadChunk kind = ⊥
GoesOn SourceFailed kind = ⊥

-- One read of a body that is not over, which has passed b and given `content`: it gives the next data; or it ends, as the
-- body is whole; or it fails.
abbrev pub ReadsBody : Read → List ℕ → Body → List ℕ → List ℕ → List ℕ → List ℕ → Intake → Intake → Type 0
ReadsBody (Got n) buf new content b held kept i j =
    (used : List ℕ) × Draws used held kept i j × HasRead new (content ++ take n buf) (b ++ used)
    × GoesOn new.state new.kind
ReadsBody End buf new content b held kept i j =
    (used : List ℕ) × (new.state ≡ Done) × Stops Done new.kind used held kept i j × HasRead new content (b ++ used)
ReadsBody Failed buf new content b held kept i j =
    (used : List ℕ) × (new.state ≢ Done) × Stops new.state new.kind used held kept i j × HasRead new content (b ++ used)

-- what is true of every read: data stands in the buffer, at least one byte; and the count of faults rises where it fails
abbrev pub IsAnswer : Read → List ℕ → ℕ → ℕ → Type 0
IsAnswer (Got n) buf old new = (0 < n) × (n ≤ length buf) × (new ≡ old)
IsAnswer End buf old new = new ≡ old
IsAnswer Failed buf old new = (old ≤ new) × Rose old new

-- how many bytes of data may be read into a buffer of a length
abbrev pub room : Content → ℕ → ℕ
room (Plain left) len = min len left
room Endless len = len
room (Chunk left) len = min len left

-- a reader with another state and place, whose count of faults rose
abbrev pub failed_at : BodyState → Place → Body → Body
failed_at state place old =
    record { kind = old.kind; place = place; line = old.line; state = state; faults = next_count old.faults }

-- what follows what stands around data is taken over: data, for which nothing changes, or the answer
abbrev pub PassedAs : Result ℕ Read → Passed → Body → Body → Type 0
PassedAs result (passes.Data left) old new = (result ≡ Ok left) × (new ≡ old)
PassedAs result passes.Whole old new = (result ≡ Err End)
    × (new ≡ record { kind = old.kind; place = old.place; line = old.line; state = Done; faults = old.faults })
PassedAs result passes.Against old new = (result ≡ Err Failed) × (new ≡ failed_at BadChunk old.place old)
PassedAs result (passes.Torn framing) old new = (result ≡ Err Failed) × (new ≡ failed_at Torn (Around framing) old)
PassedAs result (passes.Failed framing) old new = (result ≡ Err Failed)
    × (new ≡ failed_at SourceFailed (Around framing) old)

-- the end of the source is taken over where data was next
abbrev pub Ends : Read → Content → Body → Body → Type 0
Ends result (Plain left) old new = (result ≡ Failed) × (new ≡ failed_at Torn old.place old)
Ends result Endless old new = (result ≡ End)
    × (new ≡ record { kind = old.kind; place = old.place; line = old.line; state = Done; faults = old.faults })
Ends result (Chunk left) old new = (result ≡ Failed) × (new ≡ failed_at Torn old.place old)

-- a reader at another place, and whether its body is whole
abbrev pub at_place : BodyState → Place → Body → Body
at_place state place old =
    record { kind = old.kind; place = place; line = old.line; state = state; faults = old.faults }

-- that so many bytes of data have come is taken over
abbrev pub Takes : Content → ℕ → Body → Body → Type 0
Takes (Plain left) n old new = ((left ≤ n) × (new ≡ at_place Done (In (Plain left)) old))
    ⊎ ((n < left) × (new ≡ at_place Open (In (Plain (left - n))) old))
Takes Endless n old new = new ≡ at_place Open (In Endless) old
Takes (Chunk left) n old new = ((left ≤ n) × (new ≡ at_place Open (Around Behind) old))
    ⊎ ((n < left) × (new ≡ at_place Open (In (Chunk (left - n))) old))
