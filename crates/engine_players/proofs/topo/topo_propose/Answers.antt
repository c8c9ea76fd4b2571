use Rattle.std.proofs.Common.{subst, sym, ℕ}
use Rattle.base_ids.specs.declared.ids.HostId.{HostId}
use Rattle.engine_desk.specs.Chairs.{MayPropose}
use Rattle.engine_desk.specs.Desks.{IsDeskProposal}
use Rattle.engine_players.proofs.TopoLemmas.{may_propose, proposal_moves, proposal_topo, proposed_kept}
use Rattle.engine_players.proofs.topo.topo_propose.Goals as goal

pub propose-requires-clause-may : goal.propose-requires-clause-may
propose-requires-clause-may g c =
    let known = c.args.desk.now.known in
    let topo = c.args.core.now.core in
    subst (λ (n : ℕ). MayPropose known c.args.topo (record { 0 = n }) c.args.command) (sym c.look.ensures)
    (subst (λ (h : HostId). MayPropose known h (record { 0 = topo.look }) c.args.command) (sym c.requires.named)
    (may_propose c.args.desk.now topo c.args.command c.requires.seated c.requires.topo c.requires.due))

pub returns-clause-desk : goal.returns-clause-desk
returns-clause-desk g c =
    λ plan d. proposed_kept plan c.args.desk.now c.propose.new.self c.args.core.now.core c.args.command c.propose.result d c.requires.topo c.requires.due
    (subst (λ (h : HostId). IsDeskProposal c.args.desk.now h c.args.command c.propose.result c.propose.new.self) c.requires.named c.propose.ensures)

pub returns-clause-topo : goal.returns-clause-topo
returns-clause-topo g c =
    proposal_topo c.args.desk.now c.propose.new.self c.args.core.now.core c.args.command c.propose.result c.requires.seated c.requires.topo
    (subst (λ (h : HostId). IsDeskProposal c.args.desk.now h c.args.command c.propose.result c.propose.new.self) c.requires.named c.propose.ensures)

pub returns-clause-moves : goal.returns-clause-moves
returns-clause-moves g c =
    proposal_moves c.args.desk.now c.propose.new.self c.args.core.now.core c.args.command c.propose.result c.requires.topo
    (subst (λ (h : HostId). IsDeskProposal c.args.desk.now h c.args.command c.propose.result c.propose.new.self) c.requires.named c.propose.ensures)
