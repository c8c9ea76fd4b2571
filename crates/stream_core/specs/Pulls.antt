-- Pulls of a range by chunks.
use Rattle.std.specs.Prelude.{ℕ, Bool, true, false, not, ◌&&◌, nat_lt, List, [], ◌∷◌, length, take, Option, None, Some, if◌then◌else◌}
use Rattle.std.specs.Ordering.{int_eq}
use Rattle.base_ids.specs.declared.ids.HostId.{HostId}
use Rattle.base_ids.specs.declared.ids.Session.{Session}
use Rattle.base_ids.specs.declared.ids.TableId.{TableId}
use Rattle.base_ids.specs.Names.{same_session}
use Rattle.token_ring.specs.declared.ring.TokenRange.{TokenRange}
use Rattle.token_ring.specs.declared.token.Token.{Token}
use Rattle.replica_store.specs.declared.store.Stored.{Stored}
use Rattle.replica_store.specs.Cells.{Cells, range_cells}
use Rattle.replica_store.specs.Puts.{cells_with}
use Rattle.stream_core.specs.declared.data.ChunkAsk.{ChunkAsk}
use Rattle.stream_core.specs.declared.data.ChunkMsg.{ChunkMsg}

-- a pull: what it pulls and from whom, the last token that it has, and whether it is done
pub record Pulling : Type 0 where
  pub session : Session
  pub table : TableId
  pub range : TokenRange
  pub by : HostId
  pub from : HostId
  pub after : Option Token
  pub done : Bool

-- a pull that has nothing yet
abbrev pub new_pull : Session → TableId → TokenRange → HostId → HostId → Pulling
new_pull session table range by from =
    record { session = session; table = table; range = range; by = by; from = from; after = None; done = false }

-- what a pull asks for next, as long as it is not done
abbrev pub next_ask : Pulling → ChunkAsk
next_ask pull =
    record {
      session = pull.session;
      table = pull.table;
      range = pull.range;
      after = pull.after;
      by = pull.by;
      to = pull.from;
    }

-- ---- chunks

-- a chunk has at most so many cells
abbrev pub most_cells : ℕ
most_cells = 64

-- the chunk for an ask, of all the cells that it asks for: the first ones
abbrev pub chunk_of : ChunkAsk → List Stored → ChunkMsg
chunk_of ask cells =
    record {
      session = ask.session;
      after = ask.after;
      cells = take most_cells cells;
      more = nat_lt most_cells (length cells);
      to = ask.by;
    }

-- what a host with these cells sends for an ask
abbrev pub served_chunk : Cells → ChunkAsk → ChunkMsg
served_chunk cells ask = chunk_of ask (range_cells cells ask.table ask.range ask.after)

-- ---- taking chunks

-- the same token in both, or none in both
abbrev pub same_after : Option Token → Option Token → Bool
same_after None None = true
same_after (Some a) (Some b) = int_eq a.value b.value
same_after a b = false

-- the chunk is the next one of the pull; every other one is foreign
abbrev pub is_next : Pulling → ChunkMsg → Bool
is_next pull chunk = same_session chunk.session pull.session && (same_after chunk.after pull.after && not pull.done)

-- the last token of the cells, or `after` where there are none
abbrev pub last_token : Option Token → List Stored → Option Token
last_token after [] = after
last_token after (stored ∷ rest) = last_token (Some stored.token) rest

-- the pull after a chunk; a foreign one leaves it
abbrev pub pull_after : Pulling → ChunkMsg → Pulling
pull_after pull chunk =
    if is_next pull chunk then record pull { after = last_token pull.after chunk.cells; done = not chunk.more }
    else pull

-- what a host holds after a chunk for its pull; a foreign one leaves it
abbrev pub cells_after : Cells → Pulling → ChunkMsg → Cells
cells_after cells pull chunk = if is_next pull chunk then cells_with cells pull.table chunk.cells else cells
