-- What a source's answer says of its content and of its counts.
use Rattle.std.specs.Prelude.{◌≡◌, ℕ, ◌+◌, ◌<◌, ◌≤◌, List, [], ◌++◌, length, take, Option, None, Some}
use Rattle.fault_io.specs.declared.reading.Taken.{Taken}
use Rattle.fault_io.specs.declared.reading.Taken.TheVariants.{Got, End, Failed}
use Rattle.fault_io.specs.declared.reading.ReadError.{ReadError}
use Rattle.fault_io.specs.declared.reading.ReadError.TheVariants.{ReadFault, TooLong, NoMemory}
use Rattle.fault_io.specs.Counts.{raised_by, Rose, SourceAccount}

-- the content of a source or a sink that does not tell it
abbrev pub not_told : Option (List ℕ)
not_told = None

-- no more bytes are given than the buffer has room for
abbrev pub TakesWithin : Taken → ℕ → Type 0
TakesWithin (Got n) room = n ≤ room
TakesWithin End room = Unit {0}
TakesWithin Failed room = Unit {0}

-- the bytes that were given, which are the first ones of the buffer
abbrev pub bytes_taken : Taken → List ℕ → List ℕ
bytes_taken (Got n) buffer = take n buffer
bytes_taken End buffer = []
bytes_taken Failed buffer = []

-- the answer says that the content has ended: no byte for a buffer that has room is such an answer too
abbrev pub IsEnd : Taken → ℕ → Type 0
IsEnd (Got n) room = (n ≡ 0) × (0 < room)
IsEnd End room = Unit {0}
IsEnd Failed room = ⊥

-- an answer that is no failure leaves the count of faults
abbrev pub IsQuietTaken : Taken → ℕ → ℕ → Type 0
IsQuietTaken (Got n) faults_before faults_after = faults_after ≡ faults_before
IsQuietTaken End faults_before faults_after = faults_after ≡ faults_before
IsQuietTaken Failed faults_before faults_after = Unit {0}

-- what was left before these bytes were given, where what is left after them is told
abbrev pub before_left : List ℕ → Option (List ℕ) → Option (List ℕ)
before_left bytes None = None
before_left bytes (Some left) = Some (bytes ++ left)

-- just these bytes were taken from a source: it had them left, counted them as given, and was called at most once more
-- than there are bytes
pub record TakesBytes (before after : SourceAccount) (bytes : List ℕ) : Type 0 where
  pub content : before.left ≡ before_left bytes after.left
  pub given : after.given ≡ raised_by before.given (length bytes)
  pub calls : after.calls ≤ raised_by before.calls (length bytes + 1)

-- how many bytes a reading with a limit took before it gave an error
abbrev pub IsStopOf : ReadError → ℕ → ℕ → Type 0
IsStopOf TooLong limit taken = taken ≡ limit + 1
IsStopOf ReadFault limit taken = taken ≤ limit
IsStopOf NoMemory limit taken = taken ≤ limit

-- the count of faults rose where a call failed, and was left else
abbrev pub FaultsAtStop : ReadError → ℕ → ℕ → Type 0
FaultsAtStop TooLong faults_before faults_after = faults_after ≡ faults_before
FaultsAtStop ReadFault faults_before faults_after = Rose faults_before faults_after
FaultsAtStop NoMemory faults_before faults_after = faults_after ≡ faults_before
