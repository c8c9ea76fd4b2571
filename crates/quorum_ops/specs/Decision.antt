-- When the answers that a request took decide it, and how. The list of answers has the newest first; all of
-- them name the request. A replica counts by its first answer; later ones of it change nothing, and neither
-- do answers of a replica that was not asked.
use Rattle.std.specs.Prelude.{ℕ, ◌-◌, Bool, true, false, Option, Some, None, is_some, List, [], ◌∷◌, length, count_by, if◌then◌else◌, nat_lt, nat_le}
use Rattle.base_ids.specs.declared.ids.Replica.{Replica}
use Rattle.cell_merge.specs.declared.cell.Cell.{Cell}
use Rattle.cell_merge.specs.Cell.{greater_cell}
use Rattle.stage_graph.specs.declared.kind.Kind.{Kind}
use Rattle.stage_graph.specs.declared.kind.Kind.TheVariants.{Read as ReadKind, Write as WriteKind}
use Rattle.base_ids.specs.Replicas.{same_replica}
use Rattle.quorum_ops.specs.declared.data.Answer.{Answer}
use Rattle.quorum_ops.specs.declared.data.Said.{Said}
use Rattle.quorum_ops.specs.declared.data.Said.TheVariants.{Written, Found, Stale as Refused}
use Rattle.quorum_ops.specs.declared.data.Reply.{Reply}
use Rattle.quorum_ops.specs.declared.data.Reply.TheVariants.{Ok, Read, Stale, Timeout}

-- what the replica said first
abbrev pub first_said : List Answer → Replica → Option Said
first_said [] replica = None
first_said (answer ∷ earlier) replica =
    if is_some (first_said earlier replica) then first_said earlier replica
    else if same_replica replica answer.from then Some answer.said
    else None

-- the replica counts as answered: it wrote the cell, or told the one that it holds
abbrev pub says_data : Option Said → Bool
says_data None = false
says_data (Some Written) = true
says_data (Some (Found cell)) = true
says_data (Some (Refused fence)) = false

-- the replica counts as refused: the request's version is below its fence
abbrev pub says_stale : Option Said → Bool
says_stale None = false
says_stale (Some Written) = false
says_stale (Some (Found cell)) = false
says_stale (Some (Refused fence)) = true

-- the cell that it told
abbrev pub said_cell : Option Said → Option Cell
said_cell None = None
said_cell (Some Written) = None
said_cell (Some (Found cell)) = cell
said_cell (Some (Refused fence)) = None

-- the replica counts as answered, by what it said first
abbrev pub has_answered : List Answer → Replica → Bool
has_answered answers replica = says_data (first_said answers replica)

-- the replica counts as refused, by what it said first
abbrev pub has_refused : List Answer → Replica → Bool
has_refused answers replica = says_stale (first_said answers replica)

-- how many of the targets count as answered
abbrev pub answered_count : List Answer → List Replica → ℕ
answered_count answers targets = count_by (has_answered answers) targets

-- how many of the targets count as refused
abbrev pub refused_count : List Answer → List Replica → ℕ
refused_count answers targets = count_by (has_refused answers) targets

-- the greatest of the cells that the targets told
abbrev pub greatest_told : List Answer → List Replica → Option Cell
greatest_told answers [] = None
greatest_told answers (target ∷ targets) =
    greater_cell (said_cell (first_said answers target)) (greatest_told answers targets)

-- what a client is told of a request with enough answers
abbrev pub good_reply : Kind → Option Cell → Reply
good_reply WriteKind cell = Ok
good_reply ReadKind cell = Read cell

-- By the newest answer the request is decided: data decides it where enough of the targets have answered, and a
-- refusal where without those that refused too few targets are left.
abbrev pub decision_by : Said → Kind → List Replica → ℕ → List Answer → Option Reply
decision_by Written kind targets need answers =
    if nat_le need (answered_count answers targets) then Some (good_reply kind (greatest_told answers targets))
    else None
decision_by (Found cell) kind targets need answers =
    if nat_le need (answered_count answers targets) then Some (good_reply kind (greatest_told answers targets))
    else None
decision_by (Refused fence) kind targets need answers =
    if nat_lt (length targets - refused_count answers targets) need
    then Some (Stale (refused_count answers targets) fence) else None

-- The decision that the newest answer brings to a request that the earlier ones have not decided.
abbrev pub decision : Kind → List Replica → ℕ → List Answer → Option Reply
decision kind targets need [] = None
decision kind targets need (newest ∷ earlier) = decision_by newest.said kind targets need (newest ∷ earlier)

-- what a client is told of a request that is given up
abbrev pub timeout_reply : List Replica → ℕ → List Answer → Reply
timeout_reply targets need answers = Timeout (answered_count answers targets) need
