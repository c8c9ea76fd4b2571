use Rattle.std.proofs.Common.{◌==◌, ap, sym, ◌∙◌, arith}
use Rattle.replica_store.specs.declared.store.Stored.{Stored}
use Rattle.replica_store.specs.Cells.{rank}
use Rattle.run_store.proofs.RunLemmas.{begins_at-read, begins_at-none}
use Rattle.run_store.proofs.run.is_at.Goals as goal

pub returns-then-at-stored : goal.returns-then-at-stored
returns-then-at-stored c =
    ap (λ p. p == c.args.place) (c.rank.ensures.place ∙ ap (λ (s : Stored). rank c.args.table s.token) (sym c.index-stored-at.is)) ∙ sym (begins_at-read c.args.table c.args.stored.now c.args.at c.args.place c.index-stored-at.result (omega arith) c.index-stored-at.is)

pub returns-else-at-stored : goal.returns-else-at-stored
returns-else-at-stored c = sym (begins_at-none c.args.table c.args.stored.now c.args.at c.args.place (omega arith))
