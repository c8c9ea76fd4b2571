use Rattle.cell_merge.proofs.CellOrder.{cell_total, cell_same, not_below, greater-associative, greater-commutative, greater-idempotent, greater-identity, greater-choice, greater_bound}
use Rattle.cell_merge.proofs.cell.order_laws.Goals as goal

pub returns : goal.returns
returns c = record {
  order = cell_total;
  tells_apart = cell_same;
  not_below = not_below;
  associative = greater-associative;
  commutative = greater-commutative;
  idempotent = greater-idempotent;
  identity = greater-identity;
  choice = greater-choice;
  bound = greater_bound;
}
