use Rattle.std.proofs.Common.{◌^◌, ◌<◌, ◌≤◌, length, ◌∙◌, arith}
use Rattle.std.proofs.Math.ListN.{length-set}
use Rattle.std.proofs.lemmas.List.Elements.{AllWithin-more_set}
use Rattle.run_store.specs.Tables.{Grouped}
use Rattle.run_store.proofs.StoreLemmas.{AreTables-set, found_is, same_is, least_room-set, log2s_of-set}
use Rattle.run_store.proofs.AdoptLemmas.{store_cells-set, least_room-all}
use Rattle.run_store.proofs.tables.reserve.Goals as goal

pub returns-in_err-reserve-clause-laid : goal.returns-in_err-reserve-clause-laid
returns-in_err-reserve-clause-laid c = λ rest before.
    let laid = c.loop-at.invariant.laid rest before in
    let is = found_is c.loop-at.tables.items c.loop-at.at c.index_mut-own.result.now laid.each (omega (arith, c.loop-at.invariant.count, c.args.tables.now.ok.0)) c.index_mut-own.ensures.value in
    record { each = AreTables-set c.loop-at.tables.items c.loop-at.at c.reserve.new.self laid.each (same_is c.index_mut-own.result.now c.reserve.new.self is c.reserve.ensures.table (omega (arith, c.reserve.ensures.log2, is.few)) c.reserve.ensures.cells); rest = laid.rest }

pub returns-in_err-reserve-clause-cells : goal.returns-in_err-reserve-clause-cells
returns-in_err-reserve-clause-cells c = λ rest.
    store_cells-set c.loop-at.tables.items rest c.loop-at.at c.index_mut-own.result.now c.reserve.new.self c.index_mut-own.ensures.value c.reserve.ensures.table c.reserve.ensures.cells ∙ c.loop-at.invariant.cells rest

pub returns-in_err-reserve-clause-log2s : goal.returns-in_err-reserve-clause-log2s
returns-in_err-reserve-clause-log2s c =
    log2s_of-set c.loop-at.tables.items c.loop-at.at c.index_mut-own.result.now c.reserve.new.self c.index_mut-own.ensures.value c.reserve.ensures.table c.reserve.ensures.log2 ∙ c.loop-at.invariant.log2s

pub returns-in_err-reserve-clause-room : goal.returns-in_err-reserve-clause-room
returns-in_err-reserve-clause-room c =
    let kept = least_room-set c.loop-at.tables.items c.loop-at.at 0 c.index_mut-own.result.now c.reserve.new.self c.index_mut-own.ensures.value (omega (arith, c.reserve.ensures.room)) in
    omega (arith, c.loop-at.invariant.room)

pub loop-at-preserved : goal.loop-at-preserved
loop-at-preserved c =
    let kept = least_room-set c.loop-at.tables.items c.loop-at.at 0 c.index_mut-own.result.now c.reserve.new.self c.index_mut-own.ensures.value (omega (arith, c.reserve.ensures.room)) in
    let within : c.loop-at.at < length c.loop-at.tables.items = omega (arith, c.loop-at.invariant.count, c.args.tables.now.ok.0) in
    record {
      laid = λ rest before.
          let laid = c.loop-at.invariant.laid rest before in
          let is = found_is c.loop-at.tables.items c.loop-at.at c.index_mut-own.result.now laid.each within c.index_mut-own.ensures.value in
          record { each = AreTables-set c.loop-at.tables.items c.loop-at.at c.reserve.new.self laid.each (same_is c.index_mut-own.result.now c.reserve.new.self is c.reserve.ensures.table (omega (arith, c.reserve.ensures.log2, is.few)) c.reserve.ensures.cells); rest = laid.rest };
      cells = λ rest. store_cells-set c.loop-at.tables.items rest c.loop-at.at c.index_mut-own.result.now c.reserve.new.self c.index_mut-own.ensures.value c.reserve.ensures.table c.reserve.ensures.cells ∙ c.loop-at.invariant.cells rest;
      log2s = log2s_of-set c.loop-at.tables.items c.loop-at.at c.index_mut-own.result.now c.reserve.new.self c.index_mut-own.ensures.value c.reserve.ensures.table c.reserve.ensures.log2 ∙ c.loop-at.invariant.log2s;
      count = simp length-set c.loop-at.invariant.count;
      room = omega (arith, c.loop-at.invariant.room);
      each = λ k d below. AllWithin-more_set c.loop-at.tables.items c.loop-at.at c.reserve.new.self within (λ (g : Grouped). c.args.n ≤ g.spare) (λ j e _ lower. c.loop-at.invariant.each j e lower) c.in_ok-reserve.ensures.ok k d (omega arith) below;
    }

pub returns-clause-ok : goal.returns-clause-ok
returns-clause-ok c =
    let most : c.args.n ≤ 2 ^ 64 = omega (arith, c.ranges.n.fits) in
    least_room-all c.args.n c.loop-at.tables.items most (λ k d below. c.loop-at.invariant.each k d (omega (arith, c.loop-at.invariant.count, c.args.tables.now.ok.0)))
