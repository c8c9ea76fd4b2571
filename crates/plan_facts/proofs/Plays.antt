-- Runs that are played line by line, each line an event or what is chosen from what was played so far.
use Rattle.std.specs.Prelude.{Bool, List, None, Option, Some, [], false, filter, if◌then◌else◌, length, map, nat_le, nat_lt, pos, slice_index_or, suc, true, zero, ℕ, ℤ, ◌&&◌, ◌++◌, ◌+◌, ◌-◌, ◌/◌, ◌||◌, ◌∷◌}
use Rattle.barrier_core.specs.declared.data.What.{What}
use Rattle.barrier_core.specs.declared.data.What.TheVariants.{Clean as CleanOf, Done}
use Rattle.base_ids.specs.declared.ids.Actor.{Actor}
use Rattle.base_ids.specs.declared.ids.Actor.TheVariants.{Host as ByHost, Lane as ByLane, Topo as ByTopo}
use Rattle.base_ids.specs.declared.ids.HostId.{HostId}
use Rattle.base_ids.specs.declared.ids.LaneId.{LaneId}
use Rattle.base_ids.specs.declared.ids.MsgRef.{MsgRef}
use Rattle.base_ids.specs.declared.ids.OpId.{OpId}
use Rattle.base_ids.specs.declared.ids.Replica.{Replica}
use Rattle.base_ids.specs.declared.ids.Session.{Session}
use Rattle.base_ids.specs.declared.ids.TableId.{TableId}
use Rattle.base_ids.specs.declared.ids.Version.{Version}
use Rattle.base_ids.specs.declared.rules.EventRule.{EventRule}
use Rattle.cell_merge.specs.declared.cell.Body.TheVariants.{Live}
use Rattle.cell_merge.specs.declared.cell.Cell.{Cell}
use Rattle.stage_graph.specs.declared.stage.Stage.{Stage}
use Rattle.tablet_map.specs.Calls.{new_tablets}
use Rattle.token_ring.specs.Range.{token_of}
use Rattle.topo_state.specs.Rules.{rule}
use Rattle.topo_state.specs.State.{Topology, is_member}
use Rattle.topo_state.specs.declared.command.Command.{Command}
use Rattle.topo_state.specs.declared.command.Command.TheVariants.{Advance, CreateTable, Start}
use Rattle.topo_state.specs.declared.data.Table.{Table}
use Rattle.cluster_history.specs.Held.{has_done, held_cells}
use Rattle.cluster_history.specs.History.{History, actor_of}
use Rattle.cluster_history.specs.Legal.{broken_rule, entry_of}
use Rattle.topo_state.specs.declared.moves.Move.{Move}
use Rattle.topo_state.specs.Moves.{cleaned_host, move_of}
use Rattle.cluster_history.specs.Requests.{Request, is_live, next_op, numbers_below, request_at}
use Rattle.cluster_history.specs.Topology.{applied_count, last_state, log_of, version_of}
use Rattle.cluster_history.specs.declared.data.Event.{Event}
use Rattle.cluster_history.specs.declared.data.Event.TheVariants.{Answer, Apply, Ask, Begin, Clean, Hear, Look, Propose, Pull, Quiet, Restart, Serve, Take, TakeChunk, Timeout}
use Rattle.cluster_history.specs.declared.data.Opening.{Opening}
use Rattle.stage_graph.specs.declared.level.Level.TheVariants.{Quorum}
use Rattle.cluster_history.specs.declared.data.Operation.{Operation}
use Rattle.cluster_history.specs.declared.data.Operation.TheVariants.{Read as ReadOf, Write as WriteOf}

-- ---- short names

abbrev pub h : ℕ → HostId
h n = record { 0 = n }

abbrev pub t : ℕ → TableId
t n = record { 0 = n }

abbrev pub v : ℕ → Version
v n = record { 0 = n }

abbrev pub s : ℕ → Session
s n = record { 0 = n }

-- the replica on shard 0 of a host, and the lane 0 of a host
abbrev pub on : ℕ → Replica
on n = record { host = h n; shard = record { 0 = 0 } }

abbrev pub lane : ℕ → LaneId
lane n = record { host = h n; lane = 0 }

abbrev pub at : ℕ → ℕ → MsgRef
at number out = record { event = number; out = out }

-- a live cell of one byte, and a dead one
abbrev pub live : ℕ → ℕ → Cell
live time byte = record { timestamp = pos time; body = Live (byte ∷ []) }

abbrev pub write_in : ℕ → ℤ → Cell → Operation
write_in table token cell = WriteOf (t table) (token_of token) cell Quorum

abbrev pub read_in : ℕ → ℤ → Operation
read_in table token = ReadOf (t table) (token_of token) Quorum

abbrev pub write : ℕ → Cell → Operation
write token cell = write_in 1 (pos token) cell

abbrev pub read : ℕ → Operation
read token = read_in 1 (pos token)

-- ---- openings

abbrev pub table_of : ℕ → ℕ → List Replica → Table
table_of number log2 replicas = record { id = t number; map = new_tablets log2 replicas; resize = None }

abbrev pub opening_of : ℕ → List Table → Opening
opening_of hosts tables =
    record { hosts = hosts; lanes = 1; shards = 1; members = map h (numbers_below hosts); tables = tables }

-- four hosts, and one table of one tablet on the first three
abbrev pub four : Opening
four = opening_of 4 (table_of 1 0 (on 0 ∷ on 1 ∷ on 2 ∷ []) ∷ [])

-- ---- what was played

-- why an event could not come next: it names what is not in the opening, or it breaks a rule
pub data Fault : Type 0 where
  Unfit : Fault
  Breaks : EventRule → Fault

-- why the last event could not come next, what was played before it, and the numbers of the entries that were marked
pub record Play : Type 0 where
  pub fault : Option Fault
  pub history : History
  pub marks : List ℕ

abbrev pub nothing : Play
nothing = record { fault = None; history = []; marks = [] }

-- what an event names is in the opening
abbrev pub has_host_in : Opening → HostId → Bool
has_host_in opening host = nat_lt host.0 opening.hosts

abbrev pub has_part : Opening → Actor → Bool
has_part opening (ByLane lane) = has_host_in opening lane.host && nat_lt lane.lane opening.lanes
has_part opening (ByHost host) = has_host_in opening host
has_part opening (ByTopo host) = has_host_in opening host

abbrev pub is_fit : Command → Bool
is_fit (CreateTable id log2 replicas) = nat_le log2 10 && (nat_le 1 (length replicas) && nat_le (length replicas) 8)
is_fit command = true

abbrev pub is_fit_event : Opening → Event → Bool
is_fit_event opening (Ask topo host what) = has_host_in opening host
is_fit_event opening (Propose topo command) = is_fit command
is_fit_event opening event = true

abbrev pub fits : Opening → Event → Bool
fits opening event = has_part opening (actor_of event) && is_fit_event opening event

-- one event more, where neither it nor an earlier one was at fault
abbrev pub with_entry : Opening → Event → Play → Play
with_entry opening event played = record played { history = entry_of opening played.history event ∷ played.history }

abbrev pub judged_by : Opening → Event → Play → Option EventRule → Play
judged_by opening event played None = with_entry opening event played
judged_by opening event played (Some rule) = record played { fault = Some (Breaks rule) }

abbrev pub fitted_by : Opening → Event → Play → Bool → Play
fitted_by opening event played true = judged_by opening event played (broken_rule opening played.history event)
fitted_by opening event played false = record played { fault = Some Unfit }

abbrev pub played_on : Opening → Event → Play → Option Fault → Play
played_on opening event played None = fitted_by opening event played (fits opening event)
played_on opening event played (Some fault) = played

-- ---- lines

-- an event, lines one after the other, what is chosen from what was played, and a line whose first entry is marked
pub data Line : Type 0 where
  One : Event → Line
  Skip : Line
  Then : Line → Line → Line
  Choose : (Play → Line) → Line
  Mark : Line → Line

abbrev pub run : Opening → Line → Play → Play
run opening (One event) played = played_on opening event played played.fault
run opening Skip played = played
run opening (Then first second) played = run opening second (run opening first played)
run opening (Choose choose) played = run opening (choose played) played
run opening (Mark line) played =
    run opening line (record played { marks = played.marks ++ (length played.history + 1) ∷ [] })

abbrev pub lines : List Line → Line
lines [] = Skip
lines (line ∷ rest) = Then line (lines rest)

-- the play of lines
abbrev pub play : Opening → List Line → Play
play opening all = run opening (lines all) nothing

-- an output of a marked entry; marks count from 0
abbrev pub mark : ℕ → ℕ → Play → MsgRef
mark number out played = at (slice_index_or played.marks number 0) out

-- the first output of the entry that was played last
abbrev pub last : Play → MsgRef
last played = at (length played.history) 0

-- ---- lines of one event

abbrev pub begin : ℕ → Operation → ℕ → Line
begin host operation version = One (Begin (lane host) operation (v version))

abbrev pub serve : ℕ → (Play → MsgRef) → Line
serve host ref = Choose (λ played. One (Serve (h host) (ref played)))

abbrev pub timeout : ℕ → ℕ → Line
timeout host number = One (Timeout (lane host) (record { 0 = number }))

abbrev pub quiet : ℕ → ℕ → Line
quiet host version = One (Quiet (h host) (v version))

abbrev pub look : ℕ → Line
look topo = One (Look (h topo))

abbrev pub ask : ℕ → ℕ → What → Line
ask topo host what = One (Ask (h topo) (h host) what)

abbrev pub propose : ℕ → Command → Line
propose topo command = One (Propose (h topo) command)

abbrev pub restart : Actor → Line
restart actor = One (Restart actor)

-- ---- shorthands

abbrev pub times : ℕ → Line → Line
times zero line = Skip
times (suc n) line = Then line (times n line)

abbrev pub each : {X : Type 0} → (X → Line) → List X → Line
each line [] = Skip
each line (x ∷ rest) = Then (line x) (each line rest)

-- a host applies all that it has not applied
abbrev pub catch_up : HostId → Line
catch_up host =
    Choose (λ played. times (length (log_of played.history) - applied_count played.history host) (One (Apply host)))

-- each host does
abbrev pub sync : Opening → Line
sync opening = each catch_up (map h (numbers_below opening.hosts))

-- a coordinator asks a host, which answers, and hears that
abbrev pub asked : HostId → HostId → What → Line
asked topo host what =
    Then (One (Ask topo host what))
    (Then (Choose (λ played. One (Answer host (last played)))) (Choose (λ played. One (Hear topo (last played)))))

-- the hosts that a barrier needs, in ascending order
abbrev pub asked_hosts : Opening → Topology → List HostId
asked_hosts opening state =
    filter (λ host. is_member state.members host || is_member state.before host) (map h (numbers_below opening.hosts))

-- a request is begun at the version of the lane's host, and served and taken target by target until it is decided
abbrev pub served_by : LaneId → OpId → ℕ → ℕ → Replica → Line
served_by by number begun out replica =
    Choose (λ played.
    if is_live played.history by number
    then Then (One (Serve replica.host (at begun out))) (Choose (λ now. One (Take by (last now))))
    else Skip)

abbrev pub served : LaneId → OpId → ℕ → ℕ → List Replica → Line
served by number begun out [] = Skip
served by number begun out (replica ∷ rest) = Then (served_by by number begun out replica) (served by number begun (out + 1) rest)

abbrev pub targets_in : Option Request → List Replica
targets_in None = []
targets_in (Some request) = request.targets

abbrev pub begun_on : Opening → LaneId → Operation → OpId → Line
begun_on opening by operation number =
    Then (Choose (λ played. One (Begin by operation (version_of opening played.history by.host))))
    (Choose (λ played. served by number (length played.history) 0 (targets_in (request_at opening played.history by number))))

abbrev pub do_it : Opening → ℕ → Operation → Line
do_it opening host operation =
    Choose (λ played. begun_on opening (lane host) operation (next_op played.history (lane host)))

-- a pull goes on until it is done; as many chunks as the leaving replica's cells can make
abbrev pub one_chunk : Opening → HostId → HostId → Session → Line
one_chunk opening by from session =
    Choose (λ played.
    if has_done opening played.history by session then Skip
    else Then (One (Pull by session))
    (Then (Choose (λ now. One (Serve from (last now)))) (Choose (λ now. One (TakeChunk by (last now))))))

abbrev pub chunks : Opening → HostId → HostId → Session → Line
chunks opening by from session =
    Choose (λ played. times (length (held_cells opening played.history from) / 64 + 1) (one_chunk opening by from session))

abbrev pub streamed : Opening → HostId → Session → Option Move → Line
streamed opening topo session None = Skip
streamed opening topo session (Some move) =
    let by = move.transition.pending.host in
    Then (catch_up by) (Then (chunks opening by move.transition.leaving.host session) (asked topo by (Done session)))

abbrev pub stream : Opening → ℕ → ℕ → Line
stream opening topo session =
    Choose (λ played. streamed opening (h topo) (s session) (move_of (last_state opening played.history) (s session)))

-- the host that the session cleans is asked to, and is heard
abbrev pub tidied_by : HostId → Session → Option HostId → Line
tidied_by topo session None = Skip
tidied_by topo session (Some host) =
    Then (catch_up host)
    (Then (One (Ask topo host (CleanOf session)))
    (Then (Choose (λ played. One (Clean host (last played)))) (Choose (λ played. One (Hear topo (last played))))))

abbrev pub tidied : HostId → Session → Option Move → Line
tidied topo session None = Skip
tidied topo session (Some move) = tidied_by topo session (cleaned_host move.transition)

abbrev pub tidy : Opening → ℕ → ℕ → Line
tidy opening topo session =
    Choose (λ played. tidied (h topo) (s session) (move_of (last_state opening played.history) (s session)))

-- the commands of a move of tablet 0 of table 1, which is session 1 where it comes first
abbrev pub start_move : ℕ → ℕ → Command
start_move leaving pending = Start (t 1) (record { 0 = 0 }) (on leaving) (on pending)

abbrev pub advance : Stage → Command
advance stage = Advance (s 1) (Some stage)

abbrev pub end_move : Command
end_move = Advance (s 1) None

-- table 2 is made, of one tablet on host 0
abbrev pub create_second : Command
create_second = CreateTable (t 2) 0 (on 0 ∷ [])
