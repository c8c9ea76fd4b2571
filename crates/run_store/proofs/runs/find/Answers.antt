use Rattle.std.proofs.Common.{◌∙◌}
use Rattle.run_store.proofs.GroupLemmas.{run_read, find_read}
use Rattle.run_store.proofs.runs.find.Goals as goal

pub find-requires : goal.find-requires
find-requires c =
    let is = run_read c.args.table c.args.log2 c.args.runs.now c.index_of-at.result c.index-runs-at.result c.requires c.index_of-at.ensures.within c.index-runs-at.is in
    rw c.as_slice.ensures is.ordered

pub returns : goal.returns
returns c =
    c.find.ensures ∙ rw c.as_slice.ensures (find_read c.args.table c.args.log2 c.args.runs.now c.index_of-at.result c.index-runs-at.result c.args.token c.requires c.index_of-at.ensures.within c.index-runs-at.is c.index_of-at.ensures.tablet)
