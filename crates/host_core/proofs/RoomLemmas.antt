-- Where a table is regrouped, no cell is put.
use Rattle.std.proofs.Common.{◌≡◌, ℕ, ◌≤◌, Option, Some, None, refl, arith}
use Rattle.base_ids.specs.declared.ids.TableId.{TableId}
use Rattle.host_core.specs.declared.grouping.Grouping.{Grouping}
use Rattle.topo_state.specs.State.{Topology}
use Rattle.host_core.specs.declared.data.HostInput.{HostInput}
use Rattle.host_core.specs.declared.data.HostInput.TheVariants.{Apply, Quiet, Write, Read, SendChunk, TakeChunk, Answer, Clean, Pull}
use Rattle.host_core.specs.Groups.{grouping_by, runs_with, AreLeft}
use Rattle.host_core.specs.Ready.{needed_cells}

pub room_kept : (state : Topology) (next : Option Topology) (input : HostInput) (before now : ℕ) → (grouping_by state next input ≡ None → now ≡ before) → needed_cells input ≤ before → needed_cells input ≤ now
room_kept state next (Apply command) before now same enough = omega arith
room_kept state next (Answer ask) before now same enough = omega arith
room_kept state next (Quiet version) before now same enough = omega arith
room_kept state next (Write ask) before now same enough = let e : now ≡ before = same refl in omega arith
room_kept state next (Read ask) before now same enough = omega arith
room_kept state next (SendChunk ask) before now same enough = omega arith
room_kept state next (TakeChunk chunk) before now same enough = let e : now ≡ before = same refl in omega arith
room_kept state next (Clean ask) before now same enough = omega arith
room_kept state next (Pull session) before now same enough = omega arith

-- run counts that are the same are so after a regrouping
pub runs_with-same : (grouping : Option Grouping) (before now : TableId → Option ℕ) → ((t : TableId) → now t ≡ before t) → (t : TableId) → runs_with grouping now t ≡ runs_with grouping before t
runs_with-same None before now same t = same t
runs_with-same (Some g) before now same t = rw (same t)

-- and what was left of them is left
pub are_left-same : (grouping : Option Grouping) (before now after : TableId → Option ℕ) → ((t : TableId) → now t ≡ before t) → AreLeft grouping now after → AreLeft grouping before after
are_left-same grouping before now after same left t = rw (← same t) (left t)
