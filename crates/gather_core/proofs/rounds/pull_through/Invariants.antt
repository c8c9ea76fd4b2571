use Rattle.std.proofs.Common.{◌≡◌, ◌<◌, true, length, IfOk, OnOk, option_map, Some, None, ℕ, ◌+◌, ◌-◌, ◌*◌, ◌≤◌}
use Rattle.replica_store.specs.Cells.{IsOrdered}
use Rattle.stream_core.specs.Pulls.{next_ask}
use Rattle.gather_core.specs.Laws.{AreOrdered}
use Rattle.gather_core.specs.Rounds.{cells_in, round_stores, round_gather, CanGather, IsCome, is_of, pulls_left}
use Rattle.gather_core.proofs.rounds.pull_through.Given as goal
use Rattle.gather_core.specs.Rounds.{cells_left}
use Rattle.gather_core.proofs.ComeLemmas.{IsGoing}

pub record Inv (is_going : Type 0) (is_long : Type 0) : Type 0 where
  pub going : is_going
  pub long : is_long

abbrev pub invariant-loop-ask : goal.invariant-loop-ask
invariant-loop-ask g l =
    Inv (IsGoing (length l.initial.stores) l.session (cells_in g.S.Store.cells l.initial.stores) l.initial.gather (cells_in g.S.Store.cells l.stores) l.gather) (length l.stores ≡ length l.initial.stores)

abbrev pub decreases-loop-ask : goal.decreases-loop-ask
decreases-loop-ask g l = cells_left (cells_in g.S.Store.cells l.stores) l.session l.gather.pull
