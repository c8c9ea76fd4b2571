use Rattle.std.proofs.Common.{ℕ, ◌≡◌, length, refl, sym, subst, ◌∙◌}
use Rattle.gather_core.specs.Rounds.{cells_in}
use Rattle.rebuild_core.specs.Tablets.{CanRebuild}
use Rattle.rebuild_core.specs.declared.tablets.LostTablet.{LostTablet}
use Rattle.rebuild_core.proofs.TabletLemmas.{none_rebuilt, next_rebuilt}
use Rattle.rebuild_core.proofs.tablets.rebuild_tablets.Goals as goal

pub loop-tablet-init : goal.loop-tablet-init
loop-tablet-init g c =
    record { rebuilt = none_rebuilt (cells_in g.S.Store.cells c.args.stores.now); ordered = c.requires.ordered; long = refl }

pub rebuild_tablet-requires-clause-can : goal.rebuild_tablet-requires-clause-can
rebuild_tablet-requires-clause-can g c =
    let P : LostTablet → Type 0 = CanRebuild (length c.args.stores.now) in
    let here : CanRebuild (length c.args.stores.now) c.tablet-item.result =
    subst P (sym c.tablet-item.is) (c.requires.can c.loop-tablet.tablet-index c.tablet-item.result c.loop-tablet-test.true) in
    subst (λ (n : ℕ). CanRebuild n c.tablet-item.result) (sym c.loop-tablet.invariant.long) here

pub rebuild_tablet-requires-clause-ordered : goal.rebuild_tablet-requires-clause-ordered
rebuild_tablet-requires-clause-ordered g c = c.loop-tablet.invariant.ordered

pub loop-tablet-preserved : goal.loop-tablet-preserved
loop-tablet-preserved g c =
    record {
      rebuilt =
          next_rebuilt (cells_in g.S.Store.cells c.args.stores.now) (cells_in g.S.Store.cells c.loop-tablet.stores) (cells_in g.S.Store.cells c.rebuild_tablet.new.stores) c.args.tablets.now
          c.loop-tablet.tablet-index c.tablet-item.result c.requires.apart c.loop-tablet-test.true c.tablet-item.is c.loop-tablet.invariant.rebuilt c.in_ok-rebuild_tablet.ensures.rebuilt;
      ordered = c.in_ok-rebuild_tablet.ensures.ordered;
      long = c.in_ok-rebuild_tablet.ensures.length ∙ c.loop-tablet.invariant.long;
    }
