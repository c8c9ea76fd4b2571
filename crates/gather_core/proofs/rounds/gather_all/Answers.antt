use Rattle.std.proofs.Common.{rules, ◌≡◌, ◌<◌, true, length, IfOk, OnOk, option_map, Some, None, ℕ, ◌+◌, ◌-◌, ◌*◌, ◌≤◌, ◌/◌, ◌%◌, Bool, false, nat_eq, nat_lt, List, [], ◌∷◌, ◌++◌, slice_index_or, slice_set, bit_and, bit_or, Fits, w8, w32, w64, Bor, MutBor}
use Rattle.replica_store.specs.Cells.{IsOrdered}
use Rattle.stream_core.specs.Pulls.{next_ask}
use Rattle.gather_core.specs.Laws.{AreOrdered}
use Rattle.gather_core.specs.Rounds.{cells_in, round_stores, round_gather, CanGather, IsCome, is_of, pulls_left}
use Rattle.gather_core.proofs.rounds.gather_all.Goals as goal
use Rattle.std.proofs.Common.{arith, refl, sym, ap, subst, ◌∙◌}
use Rattle.gather_core.proofs.ComeLemmas.{come_first, come_more}

pub loop-ask-init : goal.loop-ask-init
loop-ask-init g c =
    record {
      come = come_first (length c.args.stores.now) (cells_in g.S.Store.cells c.args.stores.now) c.args.gather.now c.requires.can c.requires.ordered;
      long = refl;
    }

pub pull_through-requires-clause-can : goal.pull_through-requires-clause-can
pull_through-requires-clause-can g c =
    subst (λ (n : ℕ). CanGather n c.loop-ask.gather) (sym c.loop-ask.invariant.long) c.loop-ask.invariant.come.can

pub pull_through-requires-clause-ordered : goal.pull_through-requires-clause-ordered
pull_through-requires-clause-ordered g c = c.loop-ask.invariant.come.ordered

pub loop-ask-smaller : goal.loop-ask-smaller
loop-ask-smaller g c = c.in_ok-pull_through.ensures.fewer

pub loop-ask-preserved : goal.loop-ask-preserved
loop-ask-preserved g c =
    record {
      come =
          come_more (length c.args.stores.now) (length c.loop-ask.stores) (cells_in g.S.Store.cells c.args.stores.now) c.args.gather.now (cells_in g.S.Store.cells c.loop-ask.stores) c.loop-ask.gather
          (cells_in g.S.Store.cells c.pull_through.new.stores) c.pull_through.new.gather c.loop-ask.invariant.long c.loop-ask.invariant.come c.in_ok-pull_through.ensures.come;
      long = c.in_ok-pull_through.ensures.length ∙ c.loop-ask.invariant.long;
    }

pub returns-clause-come : goal.returns-clause-come
returns-clause-come g c = c.loop-ask.invariant.come
