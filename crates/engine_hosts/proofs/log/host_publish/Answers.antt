use Rattle.std.proofs.Common.{ap, arith, subst, sym, ◌∙◌, ◌<◌, ◌≡◌}
use Rattle.base_ids.specs.declared.ids.Version.{Version}
use Rattle.topo_state.specs.State.{Topology}
use Rattle.engine_desk.specs.Chairs.{IsNextVersion}
use Rattle.engine_hosts.specs.Notes.{next_version}
use Rattle.engine_hosts.proofs.LogLemmas.{next_due}
use Rattle.engine_hosts.proofs.log.host_publish.Goals as goal

pub publish-requires : goal.publish-requires
publish-requires g c =
    let known = c.args.desk.now.known in
    let core = c.args.core.now.core in
    let notes = c.args.notes.now in
    let published : c.published-published.result.0 ≡ notes.published.0 = ap (λ (v : Version). v.0) c.published-published.ensures in
    let version : c.version.result.0 ≡ core.state.version.0 = ap (λ (v : Version). v.0) (c.version.ensures ∙ ap (λ (s : Topology). s.version) c.state.ensures) in
    let more = c.if-published-version.false in
    let less : notes.published.0 < core.state.version.0 = omega (arith, more, published, version) in
    subst (λ (v : Version). IsNextVersion known (next_version v)) (sym c.published-published.ensures)
    (next_due known core notes c.args.host c.requires.host_is c.requires.noted less)
