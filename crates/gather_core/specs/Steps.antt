-- What may happen while hosts gather: asks are made, served and taken in any order, late or again, and stores take
-- other cells in between. Nothing is dropped from a store.
use Rattle.std.specs.Prelude.{ℕ, List, [], ◌∷◌, ◌++◌, slice_get, option_to_list, option_map, Option, Some, None, if◌then◌else◌}
use Rattle.base_ids.specs.Names.{same_host}
use Rattle.base_ids.specs.declared.ids.HostId.{HostId}
use Rattle.base_ids.specs.declared.ids.TableId.{TableId}
use Rattle.replica_store.specs.Cells.{Cells}
use Rattle.replica_store.specs.Columns.{put_at}
use Rattle.replica_store.specs.declared.store.Stored.{Stored}
use Rattle.stream_core.specs.Pulls.{Pulling, next_ask, served_chunk, cells_after}
use Rattle.stream_core.specs.declared.data.ChunkAsk.{ChunkAsk}
use Rattle.stream_core.specs.declared.data.ChunkMsg.{ChunkMsg}
use Rattle.gather_core.specs.Gathers.{Gathering, gather_after}

-- what each host holds
abbrev pub Stores : Type 0
Stores = HostId → Cells

-- how things stand: the stores, the pulls, the asks that were made and the chunks that were served, both numbered
-- from 0
pub record Scene : Type 0 where
  pub stores : Stores
  pub gather : Gathering
  pub asks : List ChunkAsk
  pub chunks : List ChunkMsg

-- a step
pub data Step : Type 0 where
  -- the pull that goes on asks for what it has not
  Ask : Step
  -- the host to which an ask is addressed serves it
  Serve : ℕ → Step
  -- the host that pulls takes a chunk
  Take : ℕ → Step
  -- a host stores a cell
  Put : HostId → TableId → Stored → Step

-- the stores where one host holds other cells
abbrev pub with_store : Stores → HostId → Cells → Stores
with_store stores host cells other = if same_host host other then cells else stores other

abbrev pub served : Scene → Option ChunkAsk → Scene
served scene None = scene
served scene (Some ask) =
    record scene { chunks = scene.chunks ++ served_chunk (scene.stores ask.to) ask ∷ [] }

abbrev pub taken_by : Scene → ChunkMsg → Option Pulling → Scene
taken_by scene chunk None = scene
taken_by scene chunk (Some pull) =
    record scene {
      stores = with_store scene.stores pull.by (cells_after (scene.stores pull.by) pull chunk);
      gather = gather_after scene.gather chunk;
    }

abbrev pub taken : Scene → Option ChunkMsg → Scene
taken scene None = scene
taken scene (Some chunk) = taken_by scene chunk scene.gather.pull

abbrev pub after_step : Scene → Step → Scene
after_step scene Ask =
    record scene { asks = scene.asks ++ option_to_list (option_map next_ask scene.gather.pull) }
after_step scene (Serve number) = served scene (slice_get scene.asks number)
after_step scene (Take number) = taken scene (slice_get scene.chunks number)
after_step scene (Put host table stored) =
    record scene { stores = with_store scene.stores host (put_at (scene.stores host) (table, stored)) }

abbrev pub after_steps : Scene → List Step → Scene
after_steps scene [] = scene
after_steps scene (step ∷ steps) = after_steps (after_step scene step) steps

-- at the start nothing was asked
abbrev pub at_start : Stores → Gathering → Scene
at_start stores gather = record { stores = stores; gather = gather; asks = []; chunks = [] }
