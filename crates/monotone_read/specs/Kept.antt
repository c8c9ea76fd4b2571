-- What is kept of requests, as maps.
use Rattle.std.specs.Prelude.{◌≡◌, ◌+◌, ◌++◌, ℕ, List, [], ◌∷◌, Option, Some, option_to_list, if◌then◌else◌}
use Rattle.std.specs.Option.{option_or}
use Rattle.std.specs.Map.{lookup}
use Rattle.base_ids.specs.Names.{same_lane}
use Rattle.base_ids.specs.declared.ids.LaneId.{LaneId}
use Rattle.base_ids.specs.declared.ids.OpId.{OpId}
use Rattle.cell_merge.specs.declared.cell.Cell.{Cell}
use Rattle.register_model.specs.Known.{is_that_request}
use Rattle.register_model.specs.declared.data.Request.{Request}
use Rattle.cluster_history.specs.History.{History}
use Rattle.cluster_history.specs.declared.data.Event.{Event}
use Rattle.cluster_history.specs.declared.data.Event.TheVariants.{Begin, Take}
use Rattle.cluster_history.specs.declared.data.Operation.{Operation}
use Rattle.cluster_history.specs.declared.data.Output.TheVariants.{Reply as Replied}
use Rattle.cluster_history.specs.declared.data.Output.{Output}
use Rattle.overlap_law.specs.Counts.{count_at, IsCounted}
use Rattle.monotone_read.specs.declared.data.Note.{Note}
use Rattle.monotone_read.specs.declared.data.Repaired.{Repaired}
use Rattle.monotone_read.specs.Notes.{note, told_note, begun_note, cell_told, answered_by}

abbrev pub named : LaneId → OpId → Request
named lane op = record { lane = lane; op = op }

-- what is kept of the request
abbrev pub note_at : List (Request × Note) → LaneId → OpId → Option Note
note_at notes lane op = lookup (is_that_request (named lane op)) notes

-- this is kept of it, and of the others what was
abbrev pub SetsNote : List (Request × Note) → List (Request × Note) → LaneId → OpId → Note → Type 0
SetsNote old new lane op kept =
    (other : LaneId) (number : OpId) →
    note_at new other number ≡
    (if is_that_request (named lane op) (named other number) then Some kept else note_at old other number)

-- it was told a cell, and nothing was told to the others
abbrev pub TellsNote : List (Request × Note) → List (Request × Note) → LaneId → OpId → Cell → Type 0
TellsNote old new lane op cell =
    (other : LaneId) (number : OpId) →
    note_at new other number ≡
    (if is_that_request (named lane op) (named other number)
    then told_note (note_at old other number) (Some cell)
    else note_at old other number)

-- the lane's requests were told what the outputs tell
abbrev pub TellsNotes : List (Request × Note) → List (Request × Note) → LaneId → List Output → Type 0
TellsNotes old new lane outputs =
    (other : LaneId) (number : OpId) →
    note_at new other number ≡
    (if same_lane lane other
    then told_note (note_at old other number) (cell_told outputs number)
    else note_at old other number)

-- these are the notes after this history
abbrev pub AreNotes : History → List (Request × Note) → Type 0
AreNotes history notes = (lane : LaneId) (op : OpId) → note_at notes lane op ≡ note history lane op

-- a request with the number after this count began: what is noted of it is kept, by what is kept of the one before
abbrev pub BeginsNote : List (Request × Note) → List (Request × Note) → LaneId → ℕ → Operation → Type 0
BeginsNote old new lane count operation =
    (other : LaneId) (number : OpId) →
    note_at new other number ≡
    (if is_that_request (named lane (record { 0 = count + 1 })) (named other number)
    then option_or (begun_note (note_at old lane (record { 0 = count })) (Some operation)) (note_at old other number)
    else note_at old other number)

-- the reads that outputs answer, by what is kept
abbrev pub answers_by : List (Request × Note) → LaneId → ℕ → List Output → List Repaired
answers_by notes lane place [] = []
answers_by notes lane place (Replied op version kind reply ∷ outputs) =
    option_to_list (answered_by lane op place (note_at notes lane op) reply) ++ answers_by notes lane place outputs
answers_by notes lane place (output ∷ outputs) = answers_by notes lane place outputs

-- what an event with these outputs makes of what is kept
abbrev pub StateAfter :
    List (LaneId × ℕ) → List (Request × Note) → Event → List Output → List (LaneId × ℕ) → List (Request × Note) → Type 0
StateAfter counts notes (Begin lane operation version) outputs new kept =
    IsCounted counts new lane × BeginsNote notes kept lane (count_at counts lane) operation
StateAfter counts notes (Take lane at) outputs new kept = (new ≡ counts) × TellsNotes notes kept lane outputs
StateAfter counts notes event outputs new kept = (new ≡ counts) × (kept ≡ notes)

-- and of the list
abbrev pub ListAfter : List (Request × Note) → List Repaired → Event → ℕ → List Output → List Repaired → Type 0
ListAfter notes list (Take lane at) place outputs new = new ≡ list ++ answers_by notes lane place outputs
ListAfter notes list event place outputs new = new ≡ list
