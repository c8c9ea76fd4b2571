-- What is left after a cleanup stays in order.
use Rattle.std.proofs.Common.{◌≡◌, Bool, filter}
use Rattle.base_ids.specs.declared.ids.TableId.{TableId}
use Rattle.replica_store.specs.declared.store.Stored.{Stored}
use Rattle.replica_store.specs.Cells.{Cells, IsOrdered}
use Rattle.replica_store.proofs.RangeLemmas.{IsOrdered-filter}

pub IsOrdered-filtered : (kept : TableId × Stored → Bool) (cells now : Cells) → now ≡ filter kept cells → IsOrdered cells → IsOrdered now
IsOrdered-filtered kept cells now is ordered = rw is (IsOrdered-filter kept cells ordered)
