use Rattle.std.proofs.Common.{rules, ◌≡◌, ◌<◌, true, length, IfOk, OnOk, option_map, Some, None, ℕ, ◌+◌, ◌-◌, ◌*◌, ◌≤◌, ◌/◌, ◌%◌, Bool, false, nat_eq, nat_lt, List, [], ◌∷◌, ◌++◌, slice_index_or, slice_set, bit_and, bit_or, Fits, w8, w32, w64, Bor, MutBor}
use Rattle.replica_store.specs.Cells.{IsOrdered}
use Rattle.stream_core.specs.Pulls.{next_ask}
use Rattle.gather_core.specs.Laws.{AreOrdered}
use Rattle.gather_core.specs.Rounds.{cells_in, round_stores, round_gather, CanGather, IsCome, is_of, pulls_left}
use Rattle.gather_core.proofs.rounds.pull_through.Goals as goal
use Rattle.std.proofs.Common.{arith, refl, sym, ap, subst, ◌∙◌}
use Rattle.std.proofs.lemmas.Bool.Decides.{nat_tests}
use Rattle.base_ids.specs.Names.{same_session}
use Rattle.base_ids.specs.declared.ids.Session.{Session}
use Rattle.gather_core.proofs.ComeLemmas.{going_first, goes_on, going_more, goes_new, session_same, fewer_of, ask_fit, not_of, of_ask, none_of}

pub loop-ask-init : goal.loop-ask-init
loop-ask-init g c =
    record {
      going = going_first (length c.args.stores.now) c.args.session (cells_in g.S.Store.cells c.args.stores.now) c.args.gather.now c.requires.can c.requires.ordered c.requires.session;
      long = refl;
    }

pub returns-then-ask-session-clause-come : goal.returns-then-ask-session-clause-come
returns-then-ask-session-clause-come g c = c.loop-ask.invariant.going.come

pub returns-then-ask-session-clause-fewer : goal.returns-then-ask-session-clause-fewer
returns-then-ask-session-clause-fewer g c =
    let other : same_session c.in-Some.ask.session c.args.session ≡ false = grind (arith, nat_tests, c.if-ask-session.true) in
    let off = not_of c.args.session c.loop-ask.gather.pull c.in-Some.ask (sym c.in-Some.ensures) other in
    fewer_of c.args.session c.loop-ask.gather (pulls_left c.args.gather.now) c.loop-ask.invariant.going.left off

pub gather_once-requires-clause-by : goal.gather_once-requires-clause-by
gather_once-requires-clause-by g c =
    let fit = ask_fit (length c.args.stores.now) c.loop-ask.gather.pull c.loop-ask.gather.rest c.in-Some.ask c.loop-ask.invariant.going.come.can (sym c.in-Some.ensures) in
    omega (arith, fit.0, c.loop-ask.invariant.long)

pub gather_once-requires-clause-to : goal.gather_once-requires-clause-to
gather_once-requires-clause-to g c =
    let fit = ask_fit (length c.args.stores.now) c.loop-ask.gather.pull c.loop-ask.gather.rest c.in-Some.ask c.loop-ask.invariant.going.come.can (sym c.in-Some.ensures) in
    omega (arith, fit.1, c.loop-ask.invariant.long)

pub gather_once-requires-clause-ordered : goal.gather_once-requires-clause-ordered
gather_once-requires-clause-ordered g c = c.loop-ask.invariant.going.come.ordered

pub loop-ask-smaller : goal.loop-ask-smaller
loop-ask-smaller g c =
    let same : c.in-Some.ask.session.0 ≡ c.args.session.0 = grind (arith, nat_tests, c.if-ask-session.false) in
    let goes =
    goes_new (length c.args.stores.now) c.args.session (cells_in g.S.Store.cells c.args.stores.now) c.args.gather.now (cells_in g.S.Store.cells c.loop-ask.stores) c.loop-ask.gather c.in-Some.ask
    (cells_in g.S.Store.cells c.gather_once.new.stores) c.gather_once.new.gather c.loop-ask.invariant.going (sym c.in-Some.ensures) (session_same c.in-Some.ask.session c.args.session same)
    c.in_ok-gather_once.ensures.stores c.in_ok-gather_once.ensures.gather in
    goes.falls

pub loop-ask-preserved : goal.loop-ask-preserved
loop-ask-preserved g c =
    let same : c.in-Some.ask.session.0 ≡ c.args.session.0 = grind (arith, nat_tests, c.if-ask-session.false) in
    let goes =
    goes_new (length c.args.stores.now) c.args.session (cells_in g.S.Store.cells c.args.stores.now) c.args.gather.now (cells_in g.S.Store.cells c.loop-ask.stores) c.loop-ask.gather c.in-Some.ask
    (cells_in g.S.Store.cells c.gather_once.new.stores) c.gather_once.new.gather c.loop-ask.invariant.going (sym c.in-Some.ensures) (session_same c.in-Some.ask.session c.args.session same)
    c.in_ok-gather_once.ensures.stores c.in_ok-gather_once.ensures.gather in
    record {
      going =
          going_more (length c.args.stores.now) c.args.session (cells_in g.S.Store.cells c.args.stores.now) c.args.gather.now (cells_in g.S.Store.cells c.loop-ask.stores) c.loop-ask.gather
          (cells_in g.S.Store.cells c.gather_once.new.stores) c.gather_once.new.gather c.loop-ask.invariant.going goes;
      long = c.in_ok-gather_once.ensures.length ∙ c.loop-ask.invariant.long;
    }

pub returns-clause-come : goal.returns-clause-come
returns-clause-come g c = c.loop-ask.invariant.going.come

pub returns-clause-fewer : goal.returns-clause-fewer
returns-clause-fewer g c =
    let none = none_of c.loop-ask.gather.pull (sym c.in_default.ensures) in
    fewer_of c.args.session c.loop-ask.gather (pulls_left c.args.gather.now) c.loop-ask.invariant.going.left (ap (is_of c.args.session) none)
