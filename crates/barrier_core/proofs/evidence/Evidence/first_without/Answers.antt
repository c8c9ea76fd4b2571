use Rattle.std.proofs.Common.{sym}
use Rattle.barrier_core.specs.Facts.{fact_of}
use Rattle.barrier_core.proofs.FactLemmas.{least_without-append, none_waited}
use Rattle.barrier_core.proofs.evidence.Evidence.first_without.Goals as goal

pub returns-clause-host : goal.returns-clause-host
returns-clause-host c =
    rw (c.lesser_host.ensures, c.least_without.ensures, c.least_without-2.ensures, c.fact_of-what.ensures) (
    sym (least_without-append c.args.self.now.facts (fact_of c.args.mode c.args.version) c.args.members.now c.args.before.now)
    )

pub returns-clause-none : goal.returns-clause-none
returns-clause-none c =
    rw (c.lesser_host.ensures, c.least_without.ensures, c.least_without-2.ensures, c.fact_of-what.ensures) (
    none_waited c.args.self.now.facts (fact_of c.args.mode c.args.version) c.args.members.now c.args.before.now
    )
