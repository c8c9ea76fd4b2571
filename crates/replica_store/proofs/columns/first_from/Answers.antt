use Rattle.std.proofs.Common.{◌+◌, ◌-◌, ◌/◌, arith}
use Rattle.std.specs.List.{zip}
use Rattle.base_ids.specs.declared.ids.TableId.{TableId}
use Rattle.replica_store.specs.declared.store.Stored.{Stored}
use Rattle.replica_store.proofs.OrderLemmas.{first_from-le, before_first, from_first, rank_of-zip, length-columns}
use Rattle.replica_store.proofs.columns.first_from.Goals as goal

pub halving-init : goal.halving-init
halving-init c =
    let long = length-columns c.args.tables.now c.args.stored.now c.requires.one_length in
    let within = first_from-le (zip c.args.tables.now c.args.stored.now) c.args.from in
    record { above = omega arith; below = omega arith; within = omega arith }

pub halving-preserved-then-rank-from : goal.halving-preserved-then-rank-from
halving-preserved-then-rank-from c =
    let d : TableId × Stored = (record { 0 = 0 }, c.index-stored-middle.result) in
    let middle = c.halving.low + (c.halving.high - c.halving.low) / 2 in
    let long = length-columns c.args.tables.now c.args.stored.now c.requires.one_length in
    let place = rank_of-zip c.args.tables.now c.args.stored.now middle d c.requires.one_length (omega arith) in
    let before = before_first (zip c.args.tables.now c.args.stored.now) c.args.from middle d c.requires.ordered (omega arith) (omega (arith, place)) in
    record { above = omega arith; below = omega arith; within = omega arith }

pub halving-preserved : goal.halving-preserved
halving-preserved c =
    let d : TableId × Stored = (record { 0 = 0 }, c.index-stored-middle.result) in
    let middle = c.halving.low + (c.halving.high - c.halving.low) / 2 in
    let long = length-columns c.args.tables.now c.args.stored.now c.requires.one_length in
    let place = rank_of-zip c.args.tables.now c.args.stored.now middle d c.requires.one_length (omega arith) in
    let behind = from_first (zip c.args.tables.now c.args.stored.now) c.args.from middle d (omega arith) (omega (arith, place)) in
    record { above = omega arith; below = omega arith; within = omega arith }
