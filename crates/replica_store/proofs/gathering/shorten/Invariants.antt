use Rattle.std.proofs.Common.{◌≡◌, length, take}
use Rattle.replica_store.proofs.gathering.shorten.Given as goal

abbrev pub invariant-dropping : goal.invariant-dropping
invariant-dropping l = take l.count l.list ≡ take l.count l.initial.list

abbrev pub decreases-dropping : goal.decreases-dropping
decreases-dropping l = length l.list
