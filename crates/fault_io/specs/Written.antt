-- What a sink's answer says of its content and of its count of faults.
use Rattle.std.specs.Prelude.{◌≡◌, ℕ, ◌<◌, ◌≤◌, min, List, [], ◌++◌, length, take, Option, None, Some}
use Rattle.fault_io.specs.declared.writing.Placed.{Placed}
use Rattle.fault_io.specs.declared.writing.Placed.TheVariants.{Took, Failed}
use Rattle.fault_io.specs.Counts.{SinkAccount}

-- no more bytes are taken than the piece has, and one at least where it has any
abbrev pub PlacesWithin : Placed → ℕ → Type 0
PlacesWithin (Took n) piece = (n ≤ piece) × (min 1 piece ≤ n)
PlacesWithin Failed piece = Unit {0}

-- the bytes of a piece that were taken
abbrev pub bytes_placed : Placed → List ℕ → List ℕ
bytes_placed (Took n) piece = take n piece
bytes_placed Failed piece = []

-- an answer that is no failure leaves the count of faults
abbrev pub IsQuietPlaced : Placed → ℕ → ℕ → Type 0
IsQuietPlaced (Took n) faults_before faults_after = faults_after ≡ faults_before
IsQuietPlaced Failed faults_before faults_after = Unit {0}

-- the content after these bytes were taken, where the content before them is told
abbrev pub content_after : Option (List ℕ) → List ℕ → Option (List ℕ)
content_after None bytes = None
content_after (Some content) bytes = Some (content ++ bytes)

-- a part of the bytes was added, from the first on, and not all of them
abbrev pub AddsPart : SinkAccount → SinkAccount → List ℕ → Type 0
AddsPart before after bytes =
    (n : ℕ) × (n < length bytes) × (after.content ≡ content_after before.content (take n bytes))
