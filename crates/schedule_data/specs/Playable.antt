-- Which schedules can be played: whom their lines name is in the opening, and a line is named only by those after it.
use Rattle.std.specs.List.{All, Any}
use Rattle.std.specs.Prelude.{List, [], ◌++◌, ◌<◌, ◌≡◌, ◌≤◌, ◌∷◌, ℕ}
use Rattle.base_ids.specs.declared.ids.Actor.{Actor}
use Rattle.base_ids.specs.declared.ids.Actor.TheVariants.{Host as ByHost, Lane as ByLane, Topo as ByTopo}
use Rattle.cluster_history.specs.Openings.{HasHost, HasLane, HasPart, IsValidOpening}
use Rattle.cluster_history.specs.declared.data.Opening.{Opening}
use Rattle.schedule_data.specs.declared.data.LineAct.{LineAct}
use Rattle.schedule_data.specs.declared.data.LineAct.TheVariants.{Event, Short}
use Rattle.schedule_data.specs.declared.data.LineEvent.{LineEvent}
use Rattle.schedule_data.specs.declared.data.LineEvent.TheVariants.{Answer, Apply, Ask, Begin, Clean, Hear, Look, Propose, Pull, Quiet, Restart, Serve, Take, TakeChunk, Timeout}
use Rattle.schedule_data.specs.declared.data.LineRef.{LineRef}
use Rattle.schedule_data.specs.declared.data.LineRef.TheVariants.{Journal, Line}
use Rattle.schedule_data.specs.declared.data.SchedLine.{SchedLine}
use Rattle.schedule_data.specs.declared.data.Schedule.{Schedule}
use Rattle.schedule_data.specs.declared.data.Shorthand.{Shorthand}
use Rattle.schedule_data.specs.declared.data.Shorthand.TheVariants.{Do, Drain, Fence, Force, Mono, Ready, Step, Stream, Sync, Tidy}
use Rattle.topo_state.specs.Rules.{IsFit}

-- ---- whom a line names

-- who does the event
abbrev pub line_actor : LineEvent → Actor
line_actor (Begin lane operation version) = ByLane lane
line_actor (Take lane at) = ByLane lane
line_actor (Timeout lane op) = ByLane lane
line_actor (Apply host) = ByHost host
line_actor (Quiet host version) = ByHost host
line_actor (Serve host at) = ByHost host
line_actor (Answer host at) = ByHost host
line_actor (Clean host at) = ByHost host
line_actor (Pull host session) = ByHost host
line_actor (TakeChunk host at) = ByHost host
line_actor (Look topo) = ByTopo topo
line_actor (Ask topo host what) = ByTopo topo
line_actor (Hear topo at) = ByTopo topo
line_actor (Propose topo command) = ByTopo topo
line_actor (Restart actor) = actor

-- the lane or the coordinator of a shorthand is in the opening; `sync` names none
abbrev pub HasOwner : Opening → Shorthand → Type 0
HasOwner opening Sync = Unit {0}
HasOwner opening (Do lane operation) = HasLane opening lane
HasOwner opening (Mono lane table token) = HasLane opening lane
HasOwner opening (Drain topo) = HasHost opening topo
HasOwner opening (Fence topo) = HasHost opening topo
HasOwner opening (Step topo command) = HasHost opening topo
HasOwner opening (Force topo command) = HasHost opening topo
HasOwner opening (Stream topo session) = HasHost opening topo
HasOwner opening (Tidy topo session) = HasHost opening topo
HasOwner opening (Ready topo session) = HasHost opening topo

-- who does what a line says is in the opening
abbrev pub HasActorOf : Opening → LineAct → Type 0
HasActorOf opening (Event event) = HasPart opening (line_actor event)
HasActorOf opening (Short shorthand) = HasOwner opening shorthand

-- whom a line asks is in the opening, and what it would create is of a fit size
abbrev pub IsFitLine : Opening → LineAct → Type 0
IsFitLine opening (Event (Ask topo host what)) = HasHost opening host
IsFitLine opening (Event (Propose topo command)) = IsFit command
IsFitLine opening (Short (Step topo command)) = IsFit command
IsFitLine opening (Short (Force topo command)) = IsFit command
IsFitLine opening act = Unit {0}

-- ---- which message a line names

-- the line has an event
abbrev pub IsEvent : LineAct → Type 0
IsEvent (Event event) = Unit {0}
IsEvent (Short shorthand) = ⊥

-- one of these lines has this number, and an event
abbrev pub HasEventLine : List SchedLine → ℕ → Type 0
HasEventLine lines number = Any (λ line. (line.line ≡ number) × IsEvent line.act) lines

-- where a message is named by a line, it is by one of these, with an event
abbrev pub IsAmong : List SchedLine → LineRef → Type 0
IsAmong lines (Line number out) = HasEventLine lines number
IsAmong lines (Journal at) = Unit {0}

-- what an event names is named by none but these lines
abbrev pub NamesEvent : List SchedLine → LineEvent → Type 0
NamesEvent lines (Take lane at) = IsAmong lines at
NamesEvent lines (Serve host at) = IsAmong lines at
NamesEvent lines (Answer host at) = IsAmong lines at
NamesEvent lines (Clean host at) = IsAmong lines at
NamesEvent lines (TakeChunk host at) = IsAmong lines at
NamesEvent lines (Hear topo at) = IsAmong lines at
NamesEvent lines event = Unit {0}

abbrev pub NamesAct : List SchedLine → LineAct → Type 0
NamesAct lines (Event event) = NamesEvent lines event
NamesAct lines (Short shorthand) = Unit {0}

-- ---- schedules

-- The line may stand after these: its number is the greatest and at least 1, whom it names is in the opening, what it
-- would create is of a fit size, and it names only messages of those lines or of the journal.
pub record MayFollow (opening : Opening) (earlier : List SchedLine) (line : SchedLine) : Type 0 where
  pub counted : 1 ≤ line.line
  pub rises : All (λ other. other.line < line.line) earlier
  pub actor : HasActorOf opening line.act
  pub fit : IsFitLine opening line.act
  pub names : NamesAct earlier line.act

-- each of the lines may stand after those before it
abbrev pub MayAllFollow : Opening → List SchedLine → List SchedLine → Type 0
MayAllFollow opening earlier [] = Unit {0}
MayAllFollow opening earlier (line ∷ lines) =
    MayFollow opening earlier line × MayAllFollow opening (earlier ++ line ∷ []) lines

-- the schedule has a valid opening, and each line may stand after those before it
pub record IsPlayable (schedule : Schedule) : Type 0 where
  pub opening : IsValidOpening schedule.opening
  pub lines : MayAllFollow schedule.opening [] schedule.lines
