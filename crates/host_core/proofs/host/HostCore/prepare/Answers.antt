use Rattle.std.proofs.Common.{◌≡◌, ◌∙◌}
use Rattle.host_core.specs.Groups.{grouping_of, runs_with}
use Rattle.host_core.proofs.RoomLemmas.{runs_with-same}
use Rattle.host_core.proofs.host.HostCore.prepare.Goals as goal

pub returns-clause-runs : goal.returns-clause-runs
returns-clause-runs g c =
    let runs = g.S.Store.runs in
    let room = c.make_room.new.self in
    let before = c.args.self.now in
    λ t.
    let same : runs_with (grouping_of room.core c.args.input) (runs room.store) t ≡ runs_with (grouping_of before.core c.args.input) (runs room.store) t = λ i. runs_with (grouping_of ((c.make_room.ensures.core ∙ c.make.ensures.core) i) c.args.input) (runs room.store) t in
    c.in_ok-regroup.ensures.ok t ∙ same ∙ runs_with-same (grouping_of before.core c.args.input) (runs before.store) (runs room.store) (λ u. c.make_room.ensures.runs u ∙ c.make.ensures.runs u) t
