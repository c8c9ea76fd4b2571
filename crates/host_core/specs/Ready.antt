-- What must be ready before an input is settled.
use Rattle.std.specs.Prelude.{ℕ, ◌+◌, ◌≡◌, ◌≤◌, length, Option, None, Some}
use Rattle.stream_core.specs.Pulls.{served_chunk}
use Rattle.topo_state.specs.After.{after}
use Rattle.host_core.specs.Host.{HostView, host_rule, CanTake}
use Rattle.host_core.specs.declared.data.HostInput.{HostInput}
use Rattle.host_core.specs.declared.data.HostInput.TheVariants.{Apply, Write, SendChunk, TakeChunk, Pull}
use Rattle.host_core.specs.declared.data.Made.{Made}
use Rattle.host_core.specs.declared.data.Made.TheVariants.{State, Sent}

-- a host with what was made for its next input, with how many cells it can put and how many pulls it can begin
-- without taking memory, and with its store
pub record Holding (S : Type 0) : Type 0 where
  pub core : HostView
  pub made : Option Made
  pub room : ℕ
  pub pull_room : ℕ
  pub store : S

-- what takes memory is made: the state after a command that is applied, and a chunk that is asked for
abbrev pub IsMade : HostView → Option Made → HostInput → Type 0
IsMade view made (Apply command) = made ≡ Some (State (after view.state command (view.applied + 1)))
IsMade view made (SendChunk ask) = made ≡ Some (Sent (served_chunk view.cells ask))
IsMade view made input = Unit {0}

-- how many cells the input puts at most, and how many pulls it begins
abbrev pub needed_cells : HostInput → ℕ
needed_cells (Write ask) = 1
needed_cells (TakeChunk chunk) = length chunk.cells
needed_cells input = 0

abbrev pub needed_pulls : HostInput → ℕ
needed_pulls (Pull session) = 1
needed_pulls input = 0

-- the host's state breaks no rule of the input, and all that the input takes is there
module _ {S : Type 0} where
  pub record HasMade (host : Holding S) (input : HostInput) : Type 0 where
    pub rule : host_rule host.core input ≡ None
    pub made : IsMade host.core host.made input
    pub room : needed_cells input ≤ host.room
    pub pull_room : needed_pulls input ≤ host.pull_room
    pub fits : CanTake host.core input
