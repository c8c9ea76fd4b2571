use Rattle.std.proofs.Common.{◌==◌, ap, sym, ◌∙◌, arith}
use Rattle.std.specs.List.{zip}
use Rattle.base_ids.specs.declared.ids.TableId.{TableId}
use Rattle.replica_store.specs.declared.store.Stored.{Stored}
use Rattle.replica_store.proofs.OrderLemmas.{rank_of-zip, length-columns}
use Rattle.replica_store.proofs.ColumnLemmas.{begins_at-index, begins_at-past}
use Rattle.replica_store.proofs.columns.is_at.Goals as goal

pub returns-then-at-tables : goal.returns-then-at-tables
returns-then-at-tables c =
    let d : TableId × Stored = (record { 0 = 0 }, c.index-stored-at.result) in
    let long = length-columns c.args.tables.now c.args.stored.now c.requires in
    let place = rank_of-zip c.args.tables.now c.args.stored.now c.args.at d c.requires (omega arith) in
    ap (λ p. p == c.args.place) (c.rank.ensures.place ∙ sym place) ∙ sym (begins_at-index (zip c.args.tables.now c.args.stored.now) c.args.at c.args.place d (omega arith))

pub returns-else-at-tables : goal.returns-else-at-tables
returns-else-at-tables c =
    let long = length-columns c.args.tables.now c.args.stored.now c.requires in
    sym (begins_at-past (zip c.args.tables.now c.args.stored.now) c.args.at c.args.place (omega arith))
