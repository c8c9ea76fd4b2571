use Rattle.std.proofs.Common.{◌+◌, ◌-◌, ◌/◌, ap, arith}
use Rattle.token_ring.specs.Ring.{offset}
use Rattle.replica_store.specs.declared.store.Stored.{Stored}
use Rattle.run_store.proofs.RunLemmas.{first_from-within, lies_before, lies_behind}
use Rattle.run_store.proofs.run.first_from.Goals as goal

pub halving-init : goal.halving-init
halving-init c =
    let within = first_from-within c.args.table c.args.stored.now c.args.from in
    record { above = omega arith; below = omega arith; within = omega arith }

pub halving-preserved-then-rank-from : goal.halving-preserved-then-rank-from
halving-preserved-then-rank-from c =
    let middle = c.halving.low + (c.halving.high - c.halving.low) / 2 in
    let before = lies_before c.args.table c.args.stored.now c.args.from middle c.index-stored-middle.result c.requires (omega arith) c.index-stored-middle.is (omega (arith, ap (λ (s : Stored). offset s.token.value) c.index-stored-middle.is)) in
    record { above = omega arith; below = omega arith; within = omega arith }

pub halving-preserved : goal.halving-preserved
halving-preserved c =
    let middle = c.halving.low + (c.halving.high - c.halving.low) / 2 in
    let behind = lies_behind c.args.table c.args.stored.now c.args.from middle c.index-stored-middle.result (omega arith) c.index-stored-middle.is (omega (arith, ap (λ (s : Stored). offset s.token.value) c.index-stored-middle.is)) in
    record { above = omega arith; below = omega arith; within = omega arith }
