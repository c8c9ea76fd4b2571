-- A topology coordinator as plain data: what it has seen and heard, and what an input makes of it.
use Rattle.std.specs.Prelude.{◌≡◌, ◌≤◌, ℕ, List, [], Option, None}
use Rattle.barrier_core.specs.Facts.{noted_facts}
use Rattle.barrier_core.specs.declared.data.Told.{Told}
use Rattle.base_ids.specs.declared.ids.HostId.{HostId}
use Rattle.base_ids.specs.declared.rules.EventRule.{EventRule}
use Rattle.topo_state.specs.State.{Topology}
use Rattle.topo_coord.specs.declared.data.TopoInput.{TopoInput}
use Rattle.topo_coord.specs.declared.data.TopoInput.TheVariants.{Look, Ask, Hear, HearNotMine, Propose}
use Rattle.topo_coord.specs.declared.data.TopoOut.{TopoOut}
use Rattle.topo_coord.specs.declared.data.TopoOut.TheVariants.{Nothing, Ask as Asks, Propose as Proposes}
use Rattle.topo_coord.specs.Rules.{proposal_rule}

-- The host it runs on, the state before the first command, how many commands the log had when it last looked, the
-- state that it saw then, and the facts that it has heard.
pub record TopoView : Type 0 where
  pub host : HostId
  pub opening : Topology
  pub look : ℕ
  pub state : Topology
  pub facts : List Told

-- at first, and after a restart, it has looked at no command and heard nothing
abbrev pub topo_first : HostId → Topology → TopoView
topo_first host opening = record { host = host; opening = opening; look = 0; state = opening; facts = [] }

abbrev pub topo_restarted : TopoView → TopoView
topo_restarted topo = topo_first topo.host topo.opening

-- the first rule that an input breaks: only a proposal has any
abbrev pub topo_rule : TopoView → TopoInput → Option EventRule
topo_rule topo (Look len state) = None
topo_rule topo (Ask to what) = None
topo_rule topo (Hear fact) = None
topo_rule topo HearNotMine = None
topo_rule topo (Propose command) = proposal_rule topo.state topo.facts command

-- what it makes of the coordinator
abbrev pub topo_after : TopoView → TopoInput → TopoView
topo_after topo (Look len state) = record topo { look = len; state = state }
topo_after topo (Ask to what) = topo
topo_after topo (Hear fact) = record topo { facts = noted_facts topo.facts fact }
topo_after topo HearNotMine = topo
topo_after topo (Propose command) = topo

-- what the coordinator gives out: an ask is by its own host, and a proposal names the state that it looked at
abbrev pub topo_out : TopoView → TopoInput → TopoOut
topo_out topo (Look len state) = Nothing
topo_out topo (Ask to what) = Asks (record { by = topo.host; to = to; what = what })
topo_out topo (Hear fact) = Nothing
topo_out topo HearNotMine = Nothing
topo_out topo (Propose command) = Proposes (record { 0 = topo.look }) command

-- a coordinator, and how many more facts are sure to be noted without taking memory
pub record TopoHolding : Type 0 where
  pub core : TopoView
  pub room : ℕ

-- how many facts an input notes
abbrev pub facts_noted : TopoInput → ℕ
facts_noted (Look len state) = 0
facts_noted (Ask to what) = 0
facts_noted (Hear fact) = 1
facts_noted HearNotMine = 0
facts_noted (Propose command) = 0

-- the input breaks no rule, and all memory that it needs is there
pub record IsReady (topo : TopoHolding) (input : TopoInput) : Type 0 where
  pub rule : topo_rule topo.core input ≡ None
  pub room : facts_noted input ≤ topo.room
