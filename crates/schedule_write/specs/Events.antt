-- The words of an event.
use Rattle.std.specs.Fmt.{decimal, signed_decimal}
use Rattle.std.specs.Prelude.{List, [], codes, ℕ, ◌++◌, ◌∷◌}
use Rattle.barrier_core.specs.declared.data.What.{What}
use Rattle.barrier_core.specs.declared.data.What.TheVariants.{Clean as CleanAsk, Done as DoneAsk, Drain as DrainAsk, Fence as FenceAsk, Ready as ReadyAsk}
use Rattle.base_ids.specs.declared.ids.Actor.{Actor}
use Rattle.base_ids.specs.declared.ids.Actor.TheVariants.{Host as ByHost, Lane as ByLane, Topo as ByTopo}
use Rattle.cluster_history.specs.Messages.{level_of}
use Rattle.cluster_history.specs.declared.data.Event.{Event}
use Rattle.cluster_history.specs.declared.data.Event.TheVariants.{Answer, Apply, Ask, Begin, Clean, Hear, Look, Propose, Pull, Quiet, Restart, Serve, Take, TakeChunk, Timeout}
use Rattle.cluster_history.specs.declared.data.Operation.{Operation}
use Rattle.cluster_history.specs.declared.data.Operation.TheVariants.{Read, Write}
use Rattle.schedule_words.specs.Texts.{cell_text}
use Rattle.schedule_write.specs.Words.{spelt_host, spelt_lane, spelt_level, reference_word, replica_word, replica_words, spelt_resize, spelt_target}
use Rattle.topo_state.specs.declared.command.Command.{Command}
use Rattle.topo_state.specs.declared.command.Command.TheVariants.{Advance, CreateTable, FinalizeResize, Join, Leave, Resize, SetFence, Start}

-- what a client asks, without its level
abbrev pub operation_words : Operation → List (List ℕ)
operation_words (Write table token cell level) =
    codes "write" ∷ decimal table.0 ∷ signed_decimal token.value ∷ cell_text cell ∷ []
operation_words (Read table token level) = codes "read" ∷ decimal table.0 ∷ signed_decimal token.value ∷ []

-- what a coordinator asks
abbrev pub spelt_what : What → List (List ℕ)
spelt_what (DrainAsk version) = codes "drain" ∷ decimal version.0 ∷ []
spelt_what (FenceAsk version) = codes "fence" ∷ decimal version.0 ∷ []
spelt_what (DoneAsk session) = codes "done" ∷ decimal session.0 ∷ []
spelt_what (CleanAsk session) = codes "clean" ∷ decimal session.0 ∷ []
spelt_what (ReadyAsk session) = codes "ready" ∷ decimal session.0 ∷ []

-- a command
abbrev pub spelt_command : Command → List (List ℕ)
spelt_command (CreateTable table log2 replicas) =
    codes "create" ∷ decimal table.0 ∷ decimal log2 ∷ replica_words replicas
spelt_command (Start table tablet leaving pending) =
    codes "start" ∷ decimal table.0 ∷ decimal tablet.0 ∷ replica_word leaving ∷ replica_word pending ∷ []
spelt_command (Advance session to) = codes "advance" ∷ decimal session.0 ∷ spelt_target to ∷ []
spelt_command (SetFence version) = codes "fence" ∷ decimal version.0 ∷ []
spelt_command (Join host) = codes "join" ∷ spelt_host host ∷ []
spelt_command (Leave host) = codes "leave" ∷ spelt_host host ∷ []
spelt_command (Resize table kind) = codes "resize" ∷ decimal table.0 ∷ spelt_resize kind ∷ []
spelt_command (FinalizeResize table number) = codes "finalize" ∷ decimal table.0 ∷ decimal number.0 ∷ []

abbrev pub actor_words : Actor → List (List ℕ)
actor_words (ByHost host) = codes "host" ∷ spelt_host host ∷ []
actor_words (ByLane lane) = codes "lane" ∷ spelt_lane lane ∷ []
actor_words (ByTopo topo) = codes "topo" ∷ spelt_host topo ∷ []

-- an event; a begin always with its level and its version, and messages by the numbers of their events
abbrev pub event_words : Event → List (List ℕ)
event_words (Begin lane operation version) =
    codes "begin" ∷ spelt_lane lane ∷ (operation_words operation ++
    spelt_level (level_of operation) ∷ codes "at" ∷ decimal version.0 ∷ [])
event_words (Take lane at) = codes "take" ∷ spelt_lane lane ∷ reference_word at ∷ []
event_words (Timeout lane op) = codes "timeout" ∷ spelt_lane lane ∷ decimal op.0 ∷ []
event_words (Apply host) = codes "apply" ∷ spelt_host host ∷ []
event_words (Quiet host version) = codes "quiet" ∷ spelt_host host ∷ decimal version.0 ∷ []
event_words (Serve host at) = codes "serve" ∷ spelt_host host ∷ reference_word at ∷ []
event_words (Answer host at) = codes "answer" ∷ spelt_host host ∷ reference_word at ∷ []
event_words (Clean host at) = codes "clean" ∷ spelt_host host ∷ reference_word at ∷ []
event_words (Pull host session) = codes "pull" ∷ spelt_host host ∷ decimal session.0 ∷ []
event_words (TakeChunk host at) = codes "chunk" ∷ spelt_host host ∷ reference_word at ∷ []
event_words (Look topo) = codes "look" ∷ spelt_host topo ∷ []
event_words (Ask topo host what) = codes "ask" ∷ spelt_host topo ∷ spelt_host host ∷ spelt_what what
event_words (Hear topo at) = codes "hear" ∷ spelt_host topo ∷ reference_word at ∷ []
event_words (Propose topo command) = codes "propose" ∷ spelt_host topo ∷ spelt_command command
event_words (Restart actor) = codes "restart" ∷ actor_words actor
