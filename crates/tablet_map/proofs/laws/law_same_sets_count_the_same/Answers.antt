use Rattle.tablet_map.proofs.Counts.{count_same, length_same}
use Rattle.tablet_map.proofs.laws.law_same_sets_count_the_same.Goals as goal

pub returns-clause-count : goal.returns-clause-count
returns-clause-count c = count_same

pub returns-clause-size : goal.returns-clause-size
returns-clause-size c = length_same
