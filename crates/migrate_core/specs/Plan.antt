-- What is to be done next for a move, by the state that was seen and the facts that were heard.
use Rattle.std.specs.Prelude.{Bool, List, Option, Some, None, if◌then◌else◌, ◌||◌}
use Rattle.base_ids.specs.declared.ids.HostId.{HostId}
use Rattle.base_ids.specs.declared.ids.Session.{Session}
use Rattle.barrier_core.specs.declared.data.Told.{Told}
use Rattle.barrier_core.specs.declared.data.What.TheVariants.{Done, Clean as CleanOf}
use Rattle.barrier_core.specs.declared.data.Mode.TheVariants.{Drained}
use Rattle.barrier_core.specs.Facts.{is_told, is_complete, first_without}
use Rattle.tablet_map.specs.declared.tablet.Transition.{Transition}
use Rattle.topo_state.specs.declared.command.Command.TheVariants.{Advance}
use Rattle.topo_state.specs.State.{Topology}
use Rattle.migrate_core.specs.declared.next.Next.{Next}
use Rattle.migrate_core.specs.declared.next.Next.TheVariants.{Barrier, Stream, Clean, Propose, Nothing}
use Rattle.migrate_core.specs.Transitions.{transition_of, target, cleaned_at, streamed_at}

-- a host is to be asked, where one is waited for; else what comes after
abbrev pub awaited_or : (HostId → Next) → Option HostId → Next → Next
awaited_or ask None next = next
awaited_or ask (Some host) next = ask host

-- the host, unless it has told what was asked of it
abbrev pub unless_told : Bool → Option HostId → Option HostId
unless_told told host = if told then None else host

-- the host that has still to pull; on the way back nothing has to be pulled
abbrev pub awaited_pull : List Told → Session → Bool → Transition → Option HostId
awaited_pull facts session back t = unless_told (back || is_told facts (Done session)) (streamed_at t.stage t)

-- the host that has still to be cleaned
abbrev pub awaited_cleanup : List Told → Session → Transition → Option HostId
awaited_cleanup facts session t = unless_told (is_told facts (CleanOf session)) (cleaned_at t.stage t)

-- where the evidence for the state's version is not complete, the least host that has not drained it
abbrev pub awaited_barrier : List Told → Topology → Option HostId
awaited_barrier facts state =
    unless_told
    (is_complete facts state.version state.members state.before)
    (first_without facts Drained state.version state.members state.before)

abbrev pub next_for : Topology → List Told → Session → Bool → Option Transition → Next
next_for state facts session back None = Nothing
next_for state facts session back (Some t) =
    awaited_or Stream (awaited_pull facts session back t) (
    awaited_or Clean (awaited_cleanup facts session t) (
    awaited_or Barrier (awaited_barrier facts state) (
    Propose (Advance session (target t.stage back)))))

abbrev pub plan_next : Topology → List Told → Session → Bool → Next
plan_next state facts session back = next_for state facts session back (transition_of state session)
