-- What is kept of requests to find the repaired reads, entry by entry.
use Rattle.std.specs.Prelude.{◌≡◌, ◌+◌, ◌-◌, ◌==◌, ◌&&◌, ℕ, Bool, false, List, [], ◌∷◌, ◌++◌, length, Option, Some, None, option_to_list, if◌then◌else◌}
use Rattle.base_ids.specs.Names.{same_lane, same_op}
use Rattle.base_ids.specs.declared.ids.LaneId.{LaneId}
use Rattle.base_ids.specs.declared.ids.OpId.{OpId}
use Rattle.cell_merge.specs.declared.cell.Cell.{Cell}
use Rattle.stage_graph.specs.declared.level.Level.TheVariants.{Quorum}
use Rattle.quorum_ops.specs.declared.data.Reply.{Reply}
use Rattle.quorum_ops.specs.declared.data.Reply.TheVariants.{Ok, Read}
use Rattle.cell_merge.specs.Cell.{cell_order}
use Rattle.std.specs.Ordering.{int_eq, is_eq}
use Rattle.register_model.specs.declared.data.Key.{Key}
use Rattle.cluster_history.specs.History.{History}
use Rattle.cluster_history.specs.Requests.{begins_request}
use Rattle.cluster_history.specs.declared.data.Entry.{Entry}
use Rattle.cluster_history.specs.declared.data.Event.{Event}
use Rattle.cluster_history.specs.declared.data.Event.TheVariants.{Begin, Take}
use Rattle.cluster_history.specs.declared.data.Operation.{Operation}
use Rattle.cluster_history.specs.declared.data.Operation.TheVariants.{Read as ReadOf, Write as WriteOf}
use Rattle.cluster_history.specs.declared.data.Output.{Output}
use Rattle.cluster_history.specs.declared.data.Output.TheVariants.{Reply as Replied}
use Rattle.monotone_read.specs.declared.data.Note.{Note}
use Rattle.monotone_read.specs.declared.data.Note.TheVariants.{Reading, Found, Back}
use Rattle.monotone_read.specs.declared.data.Repaired.{Repaired}

-- the lane's request before this one
abbrev pub previous_of : OpId → OpId
previous_of op = record { 0 = op.0 - 1 }

-- the operation that an event begins
abbrev pub operation_in : Event → Option Operation
operation_in (Begin lane operation version) = Some operation
operation_in event = None

-- the cell that the outputs tell the read, where they tell it one
abbrev pub cell_told : List Output → OpId → Option Cell
cell_told [] op = None
cell_told (Replied other version kind (Read (Some cell)) ∷ outputs) op =
    if same_op other op then Some cell else cell_told outputs op
cell_told (output ∷ outputs) op = cell_told outputs op

-- the same cell for the same key
abbrev pub same_write : Key → Cell → Key → Cell → Bool
same_write a cell b other =
    ((a.table.0 == b.table.0) && int_eq a.token.value b.token.value) && is_eq (cell_order cell other)

-- a write of what the read before it was told
abbrev pub back_note : Option Note → Key → Cell → Option Note
back_note (Some (Found found told)) key cell =
    if same_write found told key cell then Some (Back cell) else None
back_note before key cell = None

-- what is noted of a request that begins, by what is kept of the one before it: nothing where it is not by quorum
abbrev pub begun_note : Option Note → Option Operation → Option Note
begun_note before None = None
begun_note before (Some (ReadOf table token Quorum)) = Some (Reading (record { table = table; token = token }))
begun_note before (Some (WriteOf table token cell Quorum)) =
    back_note before (record { table = table; token = token }) cell
begun_note before (Some operation) = None

-- what is noted where a read is told a cell
abbrev pub told_note : Option Note → Option Cell → Option Note
told_note (Some (Reading key)) (Some cell) = Some (Found key cell)
told_note note told = note

-- the lane takes an answer by the event; only so a client is told that a read or a write succeeded
abbrev pub is_take_of : LaneId → Event → Bool
is_take_of lane (Take by at) = same_lane by lane
is_take_of lane event = false

-- what is kept of a request
abbrev pub note : History → LaneId → OpId → Option Note
note [] lane op = None
note (entry ∷ history) lane op =
    if begins_request history entry.event lane op
    then begun_note (note history lane (previous_of op)) (operation_in entry.event)
    else if is_take_of lane entry.event then told_note (note history lane op) (cell_told entry.outputs op)
    else note history lane op

-- ---- repaired reads

-- the read that an acknowledged write answers: the one before it, where it is a write back
abbrev pub written_back : LaneId → OpId → ℕ → Option Note → Option Repaired
written_back lane op place (Some (Back cell)) =
    Some (record { lane = lane; op = previous_of op; cell = Some cell; place = place })
written_back lane op place kept = None

-- a read that is told none is answered, where it is one by quorum
abbrev pub none_read : LaneId → OpId → ℕ → Option Note → Option Repaired
none_read lane op place (Some (Reading key)) = Some (record { lane = lane; op = op; cell = None; place = place })
none_read lane op place kept = None

-- the read that a reply answers: a read of none itself
abbrev pub answered_by : LaneId → OpId → ℕ → Option Note → Reply → Option Repaired
answered_by lane op place kept (Read None) = none_read lane op place kept
answered_by lane op place kept Ok = written_back lane op place kept
answered_by lane op place kept reply = None

-- those that the outputs of a lane's entry answer
abbrev pub answered_in : History → LaneId → ℕ → List Output → List Repaired
answered_in history lane place [] = []
answered_in history lane place (Replied op version kind reply ∷ outputs) =
    option_to_list (answered_by lane op place (note history lane op) reply) ++ answered_in history lane place outputs
answered_in history lane place (output ∷ outputs) = answered_in history lane place outputs

-- those that an event with these outputs answers
abbrev pub answered_at : History → Event → ℕ → List Output → List Repaired
answered_at history (Take lane at) place outputs = answered_in history lane place outputs
answered_at history event place outputs = []

-- the repaired reads, in the order of the entries at which they are answered
abbrev pub repaired_in : History → List Repaired
repaired_in [] = []
repaired_in (entry ∷ history) =
    repaired_in history ++ answered_at history entry.event (length history + 1) entry.outputs
