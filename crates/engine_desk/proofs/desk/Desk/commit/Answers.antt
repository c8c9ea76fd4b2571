use Rattle.std.proofs.Common.{List, length, ap, arith, subst, sym, ◌∙◌, ◌+◌, ◌++◌, ◌≡◌, option_to_list, IsSome, Option}
use Rattle.cluster_history.specs.History.{actor_of}
use Rattle.base_ids.specs.declared.ids.MsgRef.{MsgRef}
use Rattle.plan_facts.specs.Own.{own_count, taken_ref}
use Rattle.engine_desk.specs.Desks.{DeskView, IsFiled}
use Rattle.engine_desk.proofs.FileLemmas.{filed_committed, filed_turned, own_within}
use Rattle.engine_desk.proofs.desk.Desk.commit.Goals as goal

pub invariant_of-self : goal.invariant_of-self
invariant_of-self g c =
    (subst (λ (l : List MsgRef). IsFiled (g.C.Chair.known c.self.inside.chair) c.self.inside.own l) (sym c.reserve.ensures.items) c.self.invariant.0, c.self.invariant.1)

pub invariant_of-self-in_err-number : goal.invariant_of-self-in_err-number
invariant_of-self-in_err-number g c = (
  subst (λ (l : List MsgRef). IsFiled (g.C.Chair.known c.commit.new.self) c.self.inside.own l) (sym c.reserve.ensures.items)
      (filed_turned (g.C.Chair.known c.self.inside.chair) (g.C.Chair.known c.commit.new.self) c.self.inside.own c.self.inside.refs.items c.in_err-number.ensures c.self.invariant.0),
  c.self.invariant.1,
)

pub overflow_add-self : goal.overflow_add-self
overflow_add-self g c =
    let known = g.C.Chair.known c.self.inside.chair in
    let is = c.self.invariant.0.own_is in
    let within = own_within known.actor known.seen in
    let few = c.requires.run.entries in
    let same : length known.seen ≡ length c.args.self.now.known.seen = ap (λ (d : DeskView). length d.known.seen) c.self.view_is in
    omega (arith, is, within, few, same)

pub invariant_of-self-2 : goal.invariant_of-self-2
invariant_of-self-2 g c =
    let known = g.C.Chair.known c.self.inside.chair in
    let after = g.C.Chair.known c.commit.new.self in
    let own = c.self.inside.own in
    let entry = c.args.entry in
    let author : actor_of entry.event ≡ known.actor = c.requires.may.author ∙ sym (ap (λ (d : DeskView). d.known.actor) c.self.view_is) in
    let taken : c.take-taken.result ≡ taken_ref entry.event = c.take-taken.ensures.value ∙ ap (λ (d : DeskView). d.held) c.self.view_is ∙ c.requires.held in
    let refs : c.note.new.refs.items ≡ c.self.inside.refs.items ++ option_to_list (taken_ref entry.event) = c.note.ensures ∙ (λ i. c.reserve.ensures.items i ++ option_to_list (taken i)) in (
      subst (λ (l : List MsgRef). IsFiled after (own + 1) l) (sym refs)
          (filed_committed known after entry c.in_ok-number.number own c.self.inside.refs.items author c.in_ok-number.ensures c.self.invariant.0),
      λ some. let wrong = subst (λ (o : Option MsgRef). IsSome o) c.take-taken.ensures.after some in cc wrong,
    )
