use Rattle.std.proofs.Common.{◌∙◌}
use Rattle.host_core.proofs.RoomLemmas.{room_kept}
use Rattle.host_core.proofs.host.HostCore.regroup.Goals as goal

pub returns-clause-room : goal.returns-clause-room
returns-clause-room g c =
    rw (← c.self.view_is) (room_kept c.self.inside.state _ c.args.input.now (g.S.Store.spare c.self.inside.store) (g.S.Store.spare c.regroup.new.store) (λ none. c.regroup.ensures.room (c.grouping_of-grouping.ensures.grouping ∙ none)))
