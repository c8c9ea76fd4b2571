use Rattle.run_store.proofs.AdoptLemmas.{few_of}
use Rattle.run_store.proofs.store.RunStore.adopt.Goals as goal

pub returns-in_err-adopt-clause-few : goal.returns-in_err-adopt-clause-few
returns-in_err-adopt-clause-few c = few_of c.adopt.new.tables.items c.args.table c.adopt.ensures.laid.each

pub returns-clause-few : goal.returns-clause-few
returns-clause-few c = few_of c.adopt.new.tables.items c.args.table c.adopt.ensures.laid.each
