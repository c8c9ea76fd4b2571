use Rattle.run_store.proofs.RegroupLemmas.{few_runs}
use Rattle.run_store.proofs.regrouping.boundary_of.Goals as goal

pub children-requires : goal.children-requires
children-requires c = few_runs c.args.log2 c.args.at c.requires.few c.requires.tablet
