-- The chunk that a host serves, said of what it holds.
use Rattle.std.specs.Prelude.{Bool, List, None, Option, Some, [], if◌then◌else◌, ◌&&◌, ◌∷◌, ◌≡◌}
use Rattle.base_ids.specs.declared.ids.HostId.{HostId}
use Rattle.base_ids.specs.declared.ids.MsgRef.{MsgRef}
use Rattle.cell_merge.specs.declared.cell.Cell.{Cell}
use Rattle.cluster_history.specs.Held.{held_cell}
use Rattle.cluster_history.specs.History.{History, message_at}
use Rattle.cluster_history.specs.Legal.{outputs_of}
use Rattle.cluster_history.specs.declared.data.Event.TheVariants.{Serve}
use Rattle.cluster_history.specs.declared.data.Message.TheVariants.{Chunk as ChunkSent, ChunkAsk as ChunkAskSent}
use Rattle.cluster_history.specs.declared.data.Opening.{Opening}
use Rattle.cluster_history.specs.declared.data.Output.TheVariants.{Sent}
use Rattle.replica_store.specs.Cells.{IsAscending, is_above, is_within, stored_at}
use Rattle.replica_store.specs.declared.store.Stored.{Stored}
use Rattle.stream_core.specs.Pulls.{chunk_of}
use Rattle.stream_core.specs.declared.data.ChunkAsk.{ChunkAsk}
use Rattle.token_ring.specs.declared.token.Token.{Token}

-- an ask for a chunk asks for the tokens of its range above its `after`
abbrev pub is_asked : ChunkAsk → Token → Bool
is_asked ask token = is_within ask.table ask.range ask.table token && is_above ask.after token

-- what the host holds of what is asked, at each token; none where it holds none, and at every other token
abbrev pub asked_cell : Opening → History → HostId → ChunkAsk → Token → Option Cell
asked_cell opening history host ask token =
    if is_asked ask token then held_cell opening history host (record { table = ask.table; token = token }) else None

-- The host sends one chunk. Of all cells that it holds of what is asked, in the order of their tokens, the chunk has
-- the first ones, 64 at most, and tells whether there are more.
pub record ServesHeldCells (opening : Opening) (history : History) (host : HostId) (at : MsgRef) (ask : ChunkAsk)
    : Type 0 where
  pub all : List Stored
  pub ascending : IsAscending all
  pub held : (token : Token) → stored_at all token ≡ asked_cell opening history host ask token
  pub sends : outputs_of opening history (Serve host at) ≡ Sent (ChunkSent (chunk_of ask all)) ∷ []

abbrev pub ChunksHaveHeldCells : Type 0
ChunksHaveHeldCells =
    (opening : Opening) (history : History) (host : HostId) (at : MsgRef) (ask : ChunkAsk) →
    message_at history at ≡ Some (ChunkAskSent ask) →
    ServesHeldCells opening history host at ask
