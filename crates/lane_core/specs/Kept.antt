-- A lane with what it has prepared, and what is known of its live requests.
use Rattle.std.specs.Prelude.{◌≡◌, ◌≤◌, ℕ, List, Option, None, Some, IfSome}
use Rattle.std.specs.List.{All}
use Rattle.base_ids.specs.declared.ids.LaneId.{LaneId}
use Rattle.base_ids.specs.declared.ids.OpId.{OpId}
use Rattle.quorum_ops.specs.Pending.{IsUndecided}
use Rattle.request_table.specs.declared.Live.{Live}
use Rattle.topo_state.specs.State.{Topology}
use Rattle.lane_core.specs.declared.work.Work.{Work}
use Rattle.lane_core.specs.declared.data.LaneInput.{LaneInput}
use Rattle.lane_core.specs.declared.data.LaneInput.TheVariants.{Write, Read, Take, Timeout}
use Rattle.lane_core.specs.declared.lane.Made.{Made}
use Rattle.lane_core.specs.Work.{pending_in}
use Rattle.lane_core.specs.Lane.{LaneView, next_request, lane_rule, lane_work, lane_out, IsFor}

-- a request of this name waits for answers, and is not decided
pub record IsWaiting (lane : LaneId) (op : OpId) (work : Work) : Type 0 where
  pub lane_is : (pending_in work).lane ≡ lane
  pub op_is : (pending_in work).op ≡ op
  pub undecided : IsUndecided (pending_in work)

-- a live request has the number of a begin, and waits under it
pub record IsKept (lane : LaneId) (begun : ℕ) (request : OpId × Live Topology Work) : Type 0 where
  pub begun_is : request.0.0 ≤ begun
  pub waits : IsWaiting lane request.0 request.1.work

abbrev pub AreKept : LaneId → ℕ → List (OpId × Live Topology Work) → Type 0
AreKept lane begun live = All (IsKept lane begun) live

-- the lane, what was made for an input, and the number of the request that has room
pub record LaneHolding : Type 0 where
  pub core : LaneView
  pub made : Option Made
  pub room : Option OpId

-- what is made for an input: what is given out, and the work that its request is left with
abbrev pub lane_made : LaneView → LaneInput → Made
lane_made lane input = record { out = lane_out lane input; work = lane_work lane input }

-- a request that begins has room
abbrev pub HasRoom : LaneView → Option OpId → LaneInput → Type 0
HasRoom lane room (Write table token cell level snapshot) = room ≡ Some (next_request lane)
HasRoom lane room (Read table token level snapshot) = room ≡ Some (next_request lane)
HasRoom lane room (Take answer) = Unit {0}
HasRoom lane room (Timeout op) = Unit {0}

-- the work of a request that begins waits
abbrev pub IsBegun : LaneView → Option Made → LaneInput → Type 0
IsBegun lane made input =
    (made ≡ Some (lane_made lane input)) × IfSome (lane_work lane input) (IsWaiting lane.lane (next_request lane))

-- what a begin takes memory for is made; else nothing takes any
abbrev pub IsMade : LaneView → Option Made → LaneInput → Type 0
IsMade lane made (Write table token cell level snapshot) = IsBegun lane made (Write table token cell level snapshot)
IsMade lane made (Read table token level snapshot) = IsBegun lane made (Read table token level snapshot)
IsMade lane made (Take answer) = Unit {0}
IsMade lane made (Timeout op) = Unit {0}

-- the input breaks no rule, and all that it needs is there
pub record HasMade (lane : LaneHolding) (input : LaneInput) : Type 0 where
  pub rule : lane_rule lane.core input ≡ None
  pub for_it : IsFor lane.core input
  pub made : IsMade lane.core lane.made input
  pub room : HasRoom lane.core lane.room input
