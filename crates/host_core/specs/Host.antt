-- A host as plain data, and its part of each event: the first rule that its own state decides, what becomes of it,
-- and what comes out.
use Rattle.std.specs.Prelude.{ℕ, ◌+◌, ◌-◌, ◌≡◌, ◌<◌, ◌^◌, Bool, false, nat_lt, nat_le, is_some, is_none, [], Option, Some, None, if◌then◌else◌}
use Rattle.std.specs.Option.{option_or}
use Rattle.base_ids.specs.Names.{first_version}
use Rattle.base_ids.specs.declared.ids.HostId.{HostId}
use Rattle.base_ids.specs.declared.ids.Session.{Session}
use Rattle.base_ids.specs.declared.ids.Version.{Version}
use Rattle.base_ids.specs.declared.rules.EventRule.{EventRule}
use Rattle.base_ids.specs.declared.rules.EventRule.TheVariants.{VersionAhead, NotTrue, NoStream, PullOver}
use Rattle.barrier_core.specs.declared.data.Ask.{Ask}
use Rattle.barrier_core.specs.declared.data.Fact.{Fact as FactTold}
use Rattle.barrier_core.specs.declared.data.What.{What}
use Rattle.barrier_core.specs.declared.data.What.TheVariants.{Drain, Fence as FenceAt, Done as PullDone, Clean as CleanOf, Ready}
use Rattle.replica_store.specs.Cells.{Cells}
use Rattle.replica_core.specs.Serving.{write_answer, read_answer, written_cells}
use Rattle.replica_core.specs.Cleanups.{cleanup_of, cleaned_cells}
use Rattle.replica_core.specs.declared.cleanup.Cleanup.{Cleanup}
use Rattle.replica_core.specs.declared.cleanup.Cleanup.TheVariants.{Cleaned, NotMine as NotCleaned}
use Rattle.stream_core.specs.Pulls.{Pulling as PullView, next_ask, pull_after, cells_after, served_chunk}
use Rattle.stream_core.specs.Took.{took_of}
use Rattle.stream_core.specs.declared.pull.Took.{Took}
use Rattle.stream_core.specs.declared.pull.Took.TheVariants.{More, Done, Foreign}
use Rattle.stream_core.specs.declared.data.ChunkMsg.{ChunkMsg}
use Rattle.topo_state.specs.State.{Topology}
use Rattle.topo_state.specs.After.{after}
use Rattle.topo_state.specs.Rules.{rule, IsFit}
use Rattle.topo_state.specs.Moves.{has_split}
use Rattle.topo_state.specs.declared.command.Command.{Command}
use Rattle.host_core.specs.Pulls.{Pulls, pull_in, with_pull, without_pull, pull_of_state}
use Rattle.host_core.specs.declared.data.HostInput.{HostInput}
use Rattle.host_core.specs.declared.data.HostInput.TheVariants.{Apply, Quiet, Write, Read, SendChunk, TakeChunk, Answer as AnswerAsk, Clean, Pull}
use Rattle.host_core.specs.declared.data.HostOut.{HostOut}
use Rattle.host_core.specs.declared.data.HostOut.TheVariants.{Nothing, Answer, Ask as AskChunk, Chunk, Fact, NotMine, Pulled, Pulling}

-- a host: how many commands it has applied and the state that they made, the version below which its lanes begin
-- nothing, what it holds, and what it pulls
pub record HostView : Type 0 where
  pub host : HostId
  pub applied : ℕ
  pub state : Topology
  pub floor : Version
  pub cells : Cells
  pub pulls : Pulls

abbrev pub first_host : HostId → Topology → HostView
first_host host opening =
    record { host = host; applied = 0; state = opening; floor = first_version; cells = []; pulls = [] }

-- ---- rules

abbrev pub is_pulled : Option PullView → Bool
is_pulled None = false
is_pulled (Some pull) = pull.done

-- what the host can tell; that it cleaned is told by a cleanup alone
abbrev pub holds_here : HostView → What → Bool
holds_here view (Drain version) = nat_le version.0 view.floor.0
holds_here view (FenceAt version) = nat_le version.0 view.state.fence.0
holds_here view (PullDone session) = is_pulled (pull_in view.pulls session)
holds_here view (CleanOf session) = false
holds_here view (Ready number) = has_split view.state number

-- there is nothing to pull, or it was pulled
abbrev pub pull_input_rule : Option PullView → Option PullView → Option EventRule
pull_input_rule new pull = if is_none new then Some NoStream else if is_pulled pull then Some PullOver else None

-- the first rule of the input that the host's own state decides
abbrev pub host_rule : HostView → HostInput → Option EventRule
host_rule view (Quiet version) = if nat_lt view.state.version.0 version.0 then Some VersionAhead else None
host_rule view (AnswerAsk ask) = if holds_here view ask.what then None else Some NotTrue
host_rule view (Pull session) = pull_input_rule (pull_of_state view.state view.host session)
    (pull_in view.pulls session)
host_rule view input = None

-- ---- what becomes of it

abbrev pub later_version : Version → Version → Version
later_version a b = if nat_lt a.0 b.0 then b else a

-- the cells and the pulls after a chunk: those of the pull that it is for, where there is one
abbrev pub cells_with_chunk : Cells → ChunkMsg → Option PullView → Cells
cells_with_chunk cells chunk None = cells
cells_with_chunk cells chunk (Some pull) = cells_after cells pull chunk

abbrev pub chunk_pulls : Pulls → ChunkMsg → Option PullView → Pulls
chunk_pulls pulls chunk None = pulls
chunk_pulls pulls chunk (Some pull) = with_pull pulls chunk.session (pull_after pull chunk)

-- the cells and the pulls after a cleanup: a session that cleans the host drops what its move leaves there, and its
-- pull
abbrev pub clean_cells : Cells → Topology → HostId → What → Cells
clean_cells cells state host (CleanOf session) = cleaned_cells cells state host session
clean_cells cells state host what = cells

abbrev pub kept_pulls : Pulls → Session → Cleanup → Pulls
kept_pulls pulls session Cleaned = without_pull pulls session
kept_pulls pulls session NotCleaned = pulls

abbrev pub clean_pulls : Pulls → Topology → HostId → What → Pulls
clean_pulls pulls state host (CleanOf session) = kept_pulls pulls session (cleanup_of state host session)
clean_pulls pulls state host what = pulls

-- the pull that begins: the first one of a session that has none yet
abbrev pub begun_pull : Topology → HostId → Pulls → Session → Option PullView
begun_pull state host pulls session =
    if is_some (pull_in pulls session) then None else pull_of_state state host session

abbrev pub with_begun : Pulls → Session → Option PullView → Pulls
with_begun pulls session None = pulls
with_begun pulls session (Some pull) = with_pull pulls session pull

-- the state after the command, where one is applied
abbrev pub next_state : HostView → HostInput → Option Topology
next_state view (Apply command) = Some (after view.state command (view.applied + 1))
next_state view input = None

abbrev pub next_pull : HostView → HostInput → Option PullView
next_pull view (Pull session) = begun_pull view.state view.host view.pulls session
next_pull view input = None

abbrev pub host_after : HostView → HostInput → HostView
host_after view (Apply command) =
    record view { applied = view.applied + 1; state = after view.state command (view.applied + 1) }
host_after view (Quiet version) = record view { floor = later_version view.floor version }
host_after view (Write ask) = record view { cells = written_cells view.state.fence view.cells ask }
host_after view (TakeChunk chunk) =
    record view {
      cells = cells_with_chunk view.cells chunk (pull_in view.pulls chunk.session);
      pulls = chunk_pulls view.pulls chunk (pull_in view.pulls chunk.session);
    }
host_after view (Clean ask) =
    record view {
      cells = clean_cells view.cells view.state view.host ask.what;
      pulls = clean_pulls view.pulls view.state view.host ask.what;
    }
host_after view (Pull session) =
    record view { pulls = with_begun view.pulls session (begun_pull view.state view.host view.pulls session) }
host_after view input = view

-- a restart keeps all but the pulls
abbrev pub restarted_host : HostView → HostView
restarted_host view = record view { pulls = [] }

-- ---- what comes out

abbrev pub told_fact : Ask → FactTold
told_fact ask = record { from = ask.to; to = ask.by; what = ask.what }

abbrev pub took_out : Session → Took → HostOut
took_out session More = Pulling session
took_out session Done = Pulled session
took_out session Foreign = Nothing

-- a chunk without a pull is foreign
abbrev pub chunk_out : ChunkMsg → Option PullView → HostOut
chunk_out chunk None = Nothing
chunk_out chunk (Some pull) = took_out chunk.session (took_of pull chunk)

abbrev pub cleanup_out : Ask → Session → Cleanup → HostOut
cleanup_out ask session Cleaned = Fact (told_fact ask)
cleanup_out ask session NotCleaned = NotMine ask.by session

abbrev pub clean_out : Topology → HostId → Ask → What → HostOut
clean_out state host ask (CleanOf session) = cleanup_out ask session (cleanup_of state host session)
clean_out state host ask what = Nothing

abbrev pub pull_out : Option PullView → HostOut
pull_out None = Nothing
pull_out (Some pull) = AskChunk (next_ask pull)

abbrev pub out_of : HostId → Topology → Cells → Pulls → HostInput → HostOut
out_of host state cells pulls (Write ask) = Answer (write_answer state.fence ask)
out_of host state cells pulls (Read ask) = Answer (read_answer state.fence cells ask)
out_of host state cells pulls (SendChunk ask) = Chunk (served_chunk cells ask)
out_of host state cells pulls (TakeChunk chunk) = chunk_out chunk (pull_in pulls chunk.session)
out_of host state cells pulls (AnswerAsk ask) = Fact (told_fact ask)
out_of host state cells pulls (Clean ask) = clean_out state host ask ask.what
out_of host state cells pulls (Pull session) = pull_out (option_or (pull_in pulls session)
    (pull_of_state state host session))
out_of host state cells pulls input = Nothing

abbrev pub host_out : HostView → HostInput → HostOut
host_out view input = out_of view.host view.state view.cells view.pulls input

-- ---- what the host can take

-- the state judges the command well, and no count passes its type; this is asked of a fence too, which raises no
-- version
pub record CanApply (view : HostView) (command : Command) : Type 0 where
  pub fit : IsFit command
  pub judged : rule view.state command ≡ None
  pub version : view.state.version.0 < 2 ^ 64 - 1
  pub applied : view.applied < 2 ^ 64 - 1

abbrev pub CanTake : HostView → HostInput → Type 0
CanTake view (Apply command) = CanApply view command
CanTake view input = Unit {0}
