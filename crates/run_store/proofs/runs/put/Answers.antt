use Rattle.std.proofs.Common.{arith}
use Rattle.run_store.proofs.GroupLemmas.{run_read, put_read, put_at-run_cells, least_spare-le, least_spare-set}
use Rattle.run_store.proofs.runs.put.Goals as goal

pub put-requires-clause-ordered : goal.put-requires-clause-ordered
put-requires-clause-ordered c =
    let is = run_read c.args.table c.args.log2 c.args.runs.now.items c.index_of-at.result c.index_mut-run.result.now c.requires.runs c.index_of-at.ensures.within c.index_mut-run.ensures.value in
    is.ordered

pub put-requires-clause-room : goal.put-requires-clause-room
put-requires-clause-room c =
    let least = least_spare-le c.args.runs.now.items c.index_of-at.result c.index_mut-run.result.now (omega (arith, c.requires.runs.count, c.index_of-at.ensures.within)) c.index_mut-run.ensures.value in
    omega (arith, c.requires.room)

pub returns-clause-runs : goal.returns-clause-runs
returns-clause-runs c =
    put_read c.args.table c.args.log2 c.args.runs.now.items c.index_of-at.result c.args.put c.index_mut-run.result.now c.put.new.self c.requires.runs c.index_of-at.ensures.within c.index_mut-run.ensures.value c.index_of-at.ensures.tablet c.put.ensures.cells

pub returns-clause-cells : goal.returns-clause-cells
returns-clause-cells c =
    put_at-run_cells c.args.table c.args.log2 0 c.args.runs.now.items c.index_of-at.result c.args.put c.index_mut-run.result.now c.put.new.self c.requires.runs.each (omega (arith, c.requires.runs.count, c.index_of-at.ensures.within)) c.index_mut-run.ensures.value (omega (arith, c.index_of-at.ensures.tablet)) c.put.ensures.cells

pub returns-clause-room : goal.returns-clause-room
returns-clause-room c =
    least_spare-set c.args.runs.now.items c.index_of-at.result 1 c.index_mut-run.result.now c.put.new.self c.index_mut-run.ensures.value c.put.ensures.room
