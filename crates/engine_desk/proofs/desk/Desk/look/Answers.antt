use Rattle.std.proofs.Common.{List, ap, arith, length, subst, sym, ◌+◌, ◌∙◌, ◌≡◌}
use Rattle.std.proofs.lemmas.List.{append-nil}
use Rattle.base_ids.specs.declared.ids.Actor.TheVariants.{Topo as ByTopo}
use Rattle.base_ids.specs.declared.ids.MsgRef.{MsgRef}
use Rattle.engine_desk.specs.Chairs.{look_entry}
use Rattle.engine_desk.specs.Desks.{DeskView, IsFiled}
use Rattle.engine_desk.proofs.FileLemmas.{filed_committed, filed_turned, own_within}
use Rattle.engine_desk.proofs.desk.Desk.look.Goals as goal

pub overflow_add-self : goal.overflow_add-self
overflow_add-self g c =
    let known = g.C.Chair.known c.self.inside.chair in
    let is = c.self.invariant.0.own_is in
    let within = own_within known.actor known.seen in
    let few = c.requires.run.entries in
    let same : length known.seen ≡ length c.args.self.now.known.seen = ap (λ (d : DeskView). length d.known.seen) c.self.view_is in
    omega (arith, is, within, few, same)

pub invariant_of-self : goal.invariant_of-self
invariant_of-self g c =
    (filed_turned (g.C.Chair.known c.self.inside.chair) (g.C.Chair.known c.look.new.self) c.self.inside.own c.self.inside.refs.items c.in_err-commands.ensures c.self.invariant.0, c.self.invariant.1)

pub invariant_of-self-2 : goal.invariant_of-self-2
invariant_of-self-2 g c =
    let known = g.C.Chair.known c.self.inside.chair in
    let after = g.C.Chair.known c.look.new.self in
    let own = c.self.inside.own in
    let refs = c.self.inside.refs.items in
    let done = c.in_ok-commands.ensures in
    let author : ByTopo c.args.topo ≡ known.actor = sym c.requires.topo ∙ sym (ap (λ (d : DeskView). d.known.actor) c.self.view_is) in (
      subst (λ (l : List MsgRef). IsFiled after (own + 1) l) (append-nil refs)
          (filed_committed known after (look_entry c.args.topo) done.0 own refs author done.1 c.self.invariant.0),
      c.self.invariant.1,
    )
