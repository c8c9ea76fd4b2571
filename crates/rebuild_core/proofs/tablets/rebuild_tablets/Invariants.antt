use Rattle.std.proofs.Common.{◌≡◌, length, take}
use Rattle.gather_core.specs.Laws.{AreOrdered}
use Rattle.gather_core.specs.Rounds.{cells_in}
use Rattle.rebuild_core.specs.Tablets.{AreRebuilt}
use Rattle.rebuild_core.proofs.tablets.rebuild_tablets.Given as goal

pub record Inv (is_rebuilt : Type 0) (is_ordered : Type 0) (is_long : Type 0) : Type 0 where
  pub rebuilt : is_rebuilt
  pub ordered : is_ordered
  pub long : is_long

abbrev pub invariant-loop-tablet : goal.invariant-loop-tablet
invariant-loop-tablet g l =
    Inv (AreRebuilt (cells_in g.S.Store.cells l.initial.stores) (take l.tablet-index l.tablets) (cells_in g.S.Store.cells l.stores)) (AreOrdered (cells_in g.S.Store.cells l.stores)) (length l.stores ≡ length l.initial.stores)
