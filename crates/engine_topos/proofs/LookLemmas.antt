-- A coordinator looks at the log, and carries out its commands up to there.
use Rattle.std.proofs.Common.{ap, arith, refl, subst, sym, ◌∙◌}
use Rattle.std.proofs.lemmas.Bool.Decides.{nat_tests}
use Rattle.std.specs.Prelude.{Err, List, None, Ok, Option, Result, Some, [], false, if◌then◌else◌, length, true, ℕ, ◌+◌, ◌==◌, ◌∷◌, ◌≡◌, ◌≤◌}
use Rattle.base_ids.specs.declared.ids.Actor.{Actor}
use Rattle.base_ids.specs.declared.ids.Actor.TheVariants.{Topo as ByTopo}
use Rattle.base_ids.specs.declared.ids.HostId.{HostId}
use Rattle.group0_log.specs.Log.{command_at, state_at}
use Rattle.group0_log.proofs.StateLemmas.{LeadsTo, at_last, leads}
use Rattle.topo_state.specs.After.{after}
use Rattle.topo_state.specs.State.{Topology}
use Rattle.topo_state.specs.declared.command.Command.{Command}
use Rattle.host_ties.proofs.LogLemmas.{below_end}
use Rattle.history_facts.proofs.HostLemmas.{log_legal}
use Rattle.cluster_history.specs.History.{History}
use Rattle.cluster_history.specs.Openings.{opening_state}
use Rattle.cluster_history.specs.Topology.{accepted_command, last_state, log_of, state_after, with_command}
use Rattle.cluster_history.specs.declared.data.Opening.{Opening}
use Rattle.cluster_history.proofs.LogLemmas.{state_at-stays}
use Rattle.cluster_history.proofs.WithinLemmas.{look_within}
use Rattle.topo_coord.specs.Topo.{TopoView, topo_after}
use Rattle.topo_coord.specs.declared.data.TopoInput.TheVariants.{Look as LookInput}
use Rattle.run_plan.specs.declared.plan.RunPlan.{RunPlan}
use Rattle.engine_desk.specs.Chairs.{IsLater, Known, look_entry}
use Rattle.engine_desk.specs.Desks.{DeskLooked, DeskTurned, DeskView, IsDesk, IsDeskLook, IsSameDesk, IsSeated}
use Rattle.engine_desk.specs.declared.chair.Refused.{Refused}
use Rattle.engine_desk.proofs.DeskLemmas.{desk_turned}
use Rattle.engine_desk.proofs.LaterLemmas.{kept}
use Rattle.engine_desk.proofs.SameLemmas.{same_committed, same_turned}
use Rattle.plan_facts.specs.Moves.{proposals_of}
use Rattle.engine_players.specs.Coordinators.{IsTopo}
use Rattle.engine_topos.specs.Looks.{IsReached}
use Rattle.engine_topos.specs.Notes.{NotesView, look_noted}
use Rattle.engine_topos.specs.Turns.{IsAtTopo, SentStays, WaysStay}
use Rattle.engine_topos.proofs.ActLemmas.{look_on}
use Rattle.engine_topos.proofs.TurnLemmas.{later_of, noted_turned, topo_turned, ways_on, ways_since, ways_turned}
use Rattle.engine_topos.proofs.SentLemmas.{sent_looked, sent_on, sent_turned}

-- ---- the log as it grows

with_longer : (command : Option Command) (log : List Command) (n : ℕ) → n ≤ length log → n ≤ length (with_command command log)
with_longer None log n le = le
with_longer (Some command) log n le = omega (arith, le)

reached_since : (opening : Opening) (actor : Actor) (count : ℕ) (state : Topology) (old new : History) → IsLater opening actor old new → IsReached opening count state old → IsReached opening count state new
reached_since opening actor count state old new later r =
    kept opening actor (IsReached opening count state)
    (λ history entry legal other r.
    record {
      there = with_longer (accepted_command entry.event entry.outputs) (log_of history) count r.there;
      is = r.is ∙ sym (state_at-stays (opening_state opening) (accepted_command entry.event entry.outputs) (log_of history) count r.there);
    })
    old new later r

pub reached_turned : (old new : DeskView) (count : ℕ) (state : Topology) → DeskTurned old new → IsReached old.known.opening count state old.known.seen → IsReached new.known.opening count state new.known.seen
reached_turned old new count state t r =
    subst (λ (k : Known). IsReached k.opening count state k.seen) (sym t.turned.is)
    (reached_since old.known.opening old.known.actor count state old.known.seen t.turned.now t.turned.later r)

pub there_turned : (old new : DeskView) (count : ℕ) → DeskTurned old new → count ≤ length (log_of old.known.seen) → count ≤ length (log_of new.known.seen)
there_turned old new count t le =
    (reached_turned old new count (state_after old.known.opening old.known.seen count) t (record { there = le; is = refl })).there

pub seated_turned : (old new : DeskView) → DeskTurned old new → IsSeated old.known → IsSeated new.known
seated_turned old new t s = subst IsSeated (sym t.turned.is) (record { valid = s.valid; there = s.there; run = t.turned.later.run })

-- ---- the next command

pub command_missing : (log : List Command) (n : ℕ) → n + 1 ≤ length log → command_at log (n + 1) ≡ None → ⊥
command_missing [] n within e = omega (arith, within)
command_missing (command ∷ log) n within e =
    (elim (n + 1 == length log + 1) as (λ b. (n + 1 == length log + 1) ≡ b → (if b then Some command else command_at log (n + 1)) ≡ None → ⊥) [
      | true ↦ λ last e. cc e
      | false ↦ λ earlier e. command_missing log n (grind (arith, nat_tests)) e
    ]) refl e

pub leads_on : (known : Known) (count : ℕ) (command : Command) (state : Topology) → IsSeated known → IsReached known.opening count state known.seen → command_at (log_of known.seen) (count + 1) ≡ Some command → LeadsTo (count + 1) command state (state_after known.opening known.seen (count + 1))
leads_on known count command state seated r found =
    let first = opening_state known.opening in
    let log = log_of known.seen in
    let short = seated.run.commands in
    subst (λ (s : Topology). LeadsTo (count + 1) command s (state_at first log (count + 1))) (sym r.is)
    (leads first log (log_legal known.opening known.seen seated.run.legal) (below_end first log (omega (arith, short))) count command found)

-- ---- the look as a whole

pub at_turned : (plan : RunPlan) (desk after : DeskView) (topo : TopoView) (notes : NotesView) → IsAtTopo plan desk topo notes → DeskTurned desk after → IsAtTopo plan after topo notes
at_turned plan desk after topo notes at t =
    record {
      kept = desk_turned plan desk after at.kept t;
      topo_is = topo_turned desk.known after.known topo t.turned at.topo_is;
      noted = noted_turned desk.known after.known topo.host notes at.topo_is.actor t.turned at.noted;
      free = ap (λ (d : DeskView). d.held) t.is ∙ at.free;
    }

pub looked_kept : (plan : RunPlan) (desk after : DeskView) (topo : TopoView) (notes : NotesView) (commands : ℕ) → IsAtTopo plan desk topo notes → notes.acted ≡ true → DeskLooked desk topo.host commands after → IsDesk plan after
looked_kept plan desk after topo notes commands at acted l = (look_on plan desk after topo l.0 notes at acted l.1).kept

-- how many commands the log has after a look, and how the coordinator's state is reached from there
pub looked_settled : (plan : RunPlan) (desk after last : DeskView) (topo new : TopoView) (notes noted : NotesView) (commands : ℕ) (state : Topology) → IsAtTopo plan desk topo notes → notes.acted ≡ true → DeskLooked desk topo.host commands after → DeskTurned after last → IsReached after.known.opening commands state after.known.seen → new ≡ topo_after topo (LookInput commands state) → noted ≡ look_noted notes → IsAtTopo plan last new noted
looked_settled plan desk after last topo new notes noted commands state at acted l t r new_is noted_is =
    let by = l.1.committed in
    let opening = desk.known.opening in
    let seen : log_of after.known.seen ≡ log_of by.now = ap (λ (k : Known). log_of k.seen) by.is in
    let len : commands ≡ length (log_of by.now) = l.2 ∙ ap length seen in
    let state_is : state ≡ last_state opening by.now =
    r.is ∙ (λ i. state_at (opening_state (by.is i).opening) (log_of (by.is i).seen) (len i)) ∙ at_last (opening_state opening) (log_of by.now) (length (log_of by.now)) (omega arith) in
    let is : topo_after topo (LookInput (length (log_of by.now)) (last_state opening by.now)) ≡ new = sym (new_is ∙ (λ i. topo_after topo (LookInput (len i) (state_is i)))) in
    at_turned plan after last new noted
    (subst (λ (n : NotesView). IsAtTopo plan after new n) (sym noted_is)
    (subst (λ (v : TopoView). IsAtTopo plan after v (look_noted notes)) is (look_on plan desk after topo l.0 notes at acted l.1)))
    t

pub ways_looked : (desk after : DeskView) (topo : HostId) (commands : ℕ) → desk.known.actor ≡ ByTopo topo → DeskLooked desk topo commands after → WaysStay desk.known topo after.known
ways_looked desk after topo commands is l =
    let c = l.1.committed in
    ap (λ (k : Known). proposals_of k.opening k.seen topo) c.is ∙ ways_since desk.known.opening topo desk.known.seen c.now (later_of desk.known topo c.now is c.later)

pub looked_same : (desk after : DeskView) (topo : HostId) (result : Result ℕ Refused) → IsDeskLook desk topo result after → IsSameDesk desk after
looked_same desk after topo (Ok commands) l = same_committed desk after (look_entry topo) l.0 l.1
looked_same desk after topo (Err refused) l = same_turned desk after l

pub looked_takes : (desk after : DeskView) (topo : HostId) (result : Result ℕ Refused) → IsDeskLook desk topo result after → after.takes ≡ desk.takes
looked_takes desk after topo (Ok commands) l = ap (λ (d : DeskView). d.takes) l.1.is
looked_takes desk after topo (Err refused) l = ap (λ (d : DeskView). d.takes) l.is

-- from where the coordinator catches up
pub reached_look : (desk after : DeskView) (topo : TopoView) (commands : ℕ) → IsTopo desk.known topo → DeskLooked desk topo.host commands after → IsReached after.known.opening topo.look topo.state after.known.seen
reached_look desk after topo commands is l =
    let c = l.1.committed in
    let opening = desk.known.opening in
    let look = ap (λ (v : TopoView). v.look) is.view in
    let first : IsReached opening topo.look topo.state desk.known.seen =
    record {
      there = subst (λ n. n ≤ length (log_of desk.known.seen)) (sym look) (look_within desk.known.seen topo.host);
      is = ap (λ (v : TopoView). v.state) is.view ∙ ap (state_after opening desk.known.seen) (sym look);
    } in
    let now = reached_since opening desk.known.actor topo.look topo.state desk.known.seen c.now c.later first in
    subst (λ (k : Known). IsReached k.opening topo.look topo.state k.seen) (sym c.is) (record { there = now.there; is = now.is })

pub reached_before : (desk after : DeskView) (topo : TopoView) (commands : ℕ) → IsTopo desk.known topo → DeskLooked desk topo.host commands after → topo.look ≤ commands
reached_before desk after topo commands is l = subst (λ n. topo.look ≤ n) (sym l.2) (reached_look desk after topo commands is l).there

-- the command is carried out
pub applied_reached : (known : Known) (count : ℕ) (command given : Command) (old new : Topology) → LeadsTo (count + 1) command old (state_after known.opening known.seen (count + 1)) → given ≡ command → new ≡ after old given (count + 1) → count + 1 ≤ length (log_of known.seen) → IsReached known.opening (count + 1) new known.seen
applied_reached known count command given old new lead same is le =
    record { there = le; is = is ∙ ap (λ (x : Command). after old x (count + 1)) same ∙ sym lead.next }

-- the state that was reached since is the one that the look saw
pub reached_back : (old new : DeskView) (count : ℕ) (state : Topology) → DeskTurned old new → count ≤ length (log_of old.known.seen) → IsReached new.known.opening count state new.known.seen → IsReached old.known.opening count state old.known.seen
reached_back old new count state t le r =
    let on = reached_turned old new count (state_after old.known.opening old.known.seen count) t (record { there = le; is = refl }) in
    record { there = le; is = r.is ∙ sym on.is }

pub looked_there : (desk after : DeskView) (topo : HostId) (commands : ℕ) → DeskLooked desk topo commands after → commands ≤ length (log_of after.known.seen)
looked_there desk after topo commands l = let is = l.2 in omega (arith, is)

pub ways_after_look : (desk after last : DeskView) (topo : HostId) (commands : ℕ) → desk.known.actor ≡ ByTopo topo → DeskLooked desk topo commands after → DeskTurned after last → WaysStay desk.known topo last.known
ways_after_look desk after last topo commands is l t =
    let same = looked_same desk after topo (Ok commands) l in
    ways_on desk.known after.known last.known topo (ways_looked desk after topo commands is l)
    (ways_turned after.known last.known topo (same.actor ∙ is) t.turned)

pub sent_after_look : (desk after last : DeskView) (topo : HostId) (commands : ℕ) → desk.known.actor ≡ ByTopo topo → DeskLooked desk topo commands after → DeskTurned after last → SentStays desk.known topo last.known
sent_after_look desk after last topo commands is l t =
    let same = looked_same desk after topo (Ok commands) l in
    sent_on desk.known after.known last.known topo (sent_looked desk after topo commands is l)
    (sent_turned after.known last.known topo (same.actor ∙ is) t.turned)
