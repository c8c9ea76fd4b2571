-- How much each replica got by a repair.
use Rattle.std.specs.Prelude.{◌<◌, ℕ, List, [], ◌∷◌, map, None}
use Rattle.base_ids.specs.declared.ids.Replica.{Replica}
use Rattle.base_ids.specs.declared.ids.TableId.{TableId}
use Rattle.token_ring.specs.declared.ring.TokenRange.{TokenRange}
use Rattle.replica_store.specs.Cells.{range_cells, IsAscending}
use Rattle.replica_store.specs.declared.store.Stored.{Stored}
use Rattle.gather_core.specs.Counts.{cells_new, new_in}
use Rattle.gather_core.specs.Steps.{Stores}
use Rattle.repair_core.specs.declared.counted.Had.{Had}

-- how many tokens of the range have another cell on a replica's host than before
abbrev pub got_of : Stores → Stores → TableId → TokenRange → Replica → ℕ
got_of stores end table range replica = cells_new (stores replica.host) (end replica.host) table range

-- of each replica
abbrev pub got_each : Stores → Stores → TableId → TokenRange → List Replica → List ℕ
got_each stores end table range replicas = map (got_of stores end table range) replicas

-- the cells of the range that a replica's host has
abbrev pub range_at : Stores → TableId → TokenRange → Replica → List Stored
range_at stores table range replica = range_cells (stores replica.host) table range None

-- what a replica's host had before
abbrev pub had_of : Stores → TableId → TokenRange → Replica → Had
had_of stores table range replica = record { replica = replica; cells = range_at stores table range replica }

-- it can be counted what they got: their hosts have stores, and the lists are in the order of their tokens
abbrev pub CanCount : ℕ → List Had → Type 0
CanCount count [] = Unit {0}
CanCount count (had ∷ rest) = (had.replica.host.0 < count) × IsAscending had.cells × CanCount count rest

-- how many cells the replica's host has that it had not before
unfoldable pub got_since : Stores → TableId → TokenRange → Had → ℕ
got_since end table range had = new_in had.cells (range_at end table range had.replica)
