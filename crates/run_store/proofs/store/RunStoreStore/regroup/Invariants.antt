use Rattle.std.proofs.Common.{◌≡◌, ◌≢◌, ◌-◌, ◌≤◌, true}
use Rattle.base_ids.specs.declared.ids.TableId.{TableId}
use Rattle.run_store.specs.Tables.{has_own, log2_of}
use Rattle.run_store.proofs.store.RunStoreStore.regroup.Given as goal

abbrev pub invariant-cutting : goal.invariant-cutting
invariant-cutting l = record {
  map : l.self.cells ≡ l.fn.self.cells;
  others : (t : TableId) → t ≢ l.table → log2_of l.self.log2s t ≡ log2_of l.fn.self.log2s t;
  own : has_own l.self.log2s l.table ≡ true;
  own_kept : (t : TableId) → has_own l.fn.self.log2s t ≡ true → has_own l.self.log2s t ≡ true;
}

abbrev pub decreases-cutting : goal.decreases-cutting
decreases-cutting l = l.log2 - log2_of l.self.log2s l.table

abbrev pub invariant-joining : goal.invariant-joining
invariant-joining l = record {
  map : l.self.cells ≡ l.fn.self.cells;
  least : l.log2 ≤ log2_of l.self.log2s l.table;
  others : (t : TableId) → t ≢ l.table → log2_of l.self.log2s t ≡ log2_of l.fn.self.log2s t;
  own : has_own l.self.log2s l.table ≡ true;
  own_kept : (t : TableId) → has_own l.fn.self.log2s t ≡ true → has_own l.self.log2s t ≡ true;
}

abbrev pub decreases-joining : goal.decreases-joining
decreases-joining l = log2_of l.self.log2s l.table - l.log2
