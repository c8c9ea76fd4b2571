-- What a coordinator does for a move.
use Rattle.std.proofs.Common.{ap, arith, cond, refl, subst, sym, ◌∙◌}
use Rattle.std.proofs.lemmas.Bool.Decides.{nat_tests}
use Rattle.std.specs.Prelude.{Bool, Err, List, None, Ok, Option, Result, Some, [], false, if◌then◌else◌, length, nat_lt, OnErr, option_map, true, ℕ, ◌+◌, ◌==◌, ◌∷◌, ◌≡◌}
use Rattle.barrier_core.specs.declared.data.Told.{Told}
use Rattle.base_ids.specs.Names.{same_session}
use Rattle.base_ids.specs.declared.ids.Actor.TheVariants.{Topo as ByTopo}
use Rattle.base_ids.specs.declared.ids.HostId.{HostId}
use Rattle.base_ids.specs.declared.ids.Session.{Session}
use Rattle.base_ids.specs.declared.ids.TableId.{TableId}
use Rattle.base_ids.specs.declared.ids.Version.{Version}
use Rattle.base_ids.specs.declared.rules.Appended.{Appended}
use Rattle.base_ids.specs.declared.rules.Appended.TheVariants.{Accepted, Conflict}
use Rattle.stage_graph.specs.declared.stage.Stage.{Stage}
use Rattle.tablet_map.specs.declared.tablet.Transition.{Transition}
use Rattle.topo_state.specs.Rules.{IsFit, rule}
use Rattle.topo_state.specs.State.{Topology}
use Rattle.topo_state.specs.Tables.{table_in}
use Rattle.topo_state.specs.declared.command.Command.{Command}
use Rattle.topo_state.specs.declared.command.Command.TheVariants.{Advance, FinalizeResize, SetFence}
use Rattle.topo_state.specs.declared.command.Rule.{Rule}
use Rattle.topo_state.specs.declared.data.Resize.{Resize as Decision}
use Rattle.topo_state.specs.declared.data.Table.{Table}
use Rattle.migrate_core.specs.Plan.{awaited_barrier, awaited_or}
use Rattle.migrate_core.specs.Transitions.{target}
use Rattle.migrate_core.specs.declared.next.Next.{Next}
use Rattle.migrate_core.specs.declared.next.Next.TheVariants.{Barrier, Nothing, Propose, Ready}
use Rattle.migrate_core.proofs.PlanLemmas.{awaited_none, planned as planned_is}
use Rattle.resize_core.specs.Plan.{awaited_ready, next_for_decision, next_for_table, plan_resize}
use Rattle.plan_facts.specs.Moves.{Proposal, advanced_stage, due_command, first_command, going_command, may_come, next_advance, proposals_of, stage_in, standing_by, turns_back_at}
use Rattle.plan_facts.specs.declared.standing.Standing.{Standing}
use Rattle.plan_facts.specs.declared.standing.Standing.TheVariants.{Before, Going, Over}
use Rattle.plan_facts.specs.Own.{raises}
use Rattle.run_plan.specs.declared.plan.Act.{Act}
use Rattle.run_plan.specs.declared.plan.Act.TheVariants.{Create, Join, Leave, Merge, Move, Split}
use Rattle.run_plan.specs.declared.plan.MoveAsk.{MoveAsk}
use Rattle.base_ids.specs.Outcomes.{outcome_of}
use Rattle.group0_log.proofs.StateLemmas.{at_last}
use Rattle.cluster_history.specs.History.{History}
use Rattle.cluster_history.specs.Legal.{IsNext}
use Rattle.cluster_history.specs.Openings.{opening_state}
use Rattle.cluster_history.specs.Topology.{last_state, log_of, look_of, seen_state}
use Rattle.cluster_history.specs.declared.data.Opening.{Opening}
use Rattle.cluster_history.specs.declared.data.Output.TheVariants.{Proposed}
use Rattle.base_ids.proofs.NameLemmas.{same_host-refl}
use Rattle.topo_coord.specs.Rules.{proposal_rule}
use Rattle.topo_coord.specs.Topo.{TopoView}
use Rattle.plan_facts.specs.Suits.{IsFenceDue}
use Rattle.run_plan.specs.declared.plan.RunPlan.{RunPlan}
use Rattle.engine_desk.specs.Chairs.{HasCommitted, IsLater, Known, look_entry, propose_entry}
use Rattle.engine_desk.specs.Desks.{DeskCommitted, DeskProposed, DeskView, IsDesk, IsDeskProposal, IsSameDesk}
use Rattle.engine_desk.proofs.ShareLemmas.{advances_judged}
use Rattle.engine_desk.proofs.LaterLemmas.{since}
use Rattle.engine_desk.proofs.SameLemmas.{same_committed, same_turned}
use Rattle.engine_desk.specs.declared.chair.Refused.{Refused}
use Rattle.cluster_history.proofs.StayLemmas.{seen_state-other}
use Rattle.engine_players.specs.Coordinators.{IsProposable, IsSafe, IsTopo}
use Rattle.engine_topos.specs.Notes.{IsNoted, NotesView, propose_noted}
use Rattle.engine_topos.specs.Turns.{IsAtTopo, WaysStay}
use Rattle.engine_topos.proofs.NoteLemmas.{noted_proposal, noted_since}
use Rattle.engine_topos.proofs.TurnLemmas.{later_of, ways_since}
use Rattle.engine_topos.specs.Clocks.{IsTimed}
use Rattle.engine_topos.specs.declared.clock.Clock.{Clock}
use Rattle.engine_topos.specs.Acts.{CanFence, is_illegal, next_act, planned_act, turns_back}
use Rattle.engine_topos.specs.Deeds.{HasGone}
use Rattle.cluster_history.specs.declared.data.Event.TheVariants.{Look}
use Rattle.topo_coord.specs.Topo.{topo_after}
use Rattle.topo_coord.specs.declared.data.TopoInput.TheVariants.{Look as LookInput}
use Rattle.topo_ties.specs.TopoTies.{topo_view}
use Rattle.topo_ties.proofs.TopoTies.{topos_play, topos_stay}
use Rattle.engine_desk.proofs.DeskLemmas.{desk_committed}
use Rattle.engine_topos.specs.Notes.{look_noted}
use Rattle.engine_topos.proofs.NoteLemmas.{noted_look}

-- ---- a planned command is due

finalizes : (state : Topology) (facts : List Told) (id : TableId) (seq : Session) (command : Command) → plan_resize state facts id seq ≡ Propose command → command ≡ FinalizeResize id seq
finalizes state facts id seq command plan = by (table_in state.tables id) plan
  where
    last : Next
    last = Propose (FinalizeResize id seq)

    barrier : Next
    barrier = awaited_or Barrier (awaited_barrier facts state) last

    on_decision : (table : Table) (decision : Decision) → (mine : Bool) → cond mine (awaited_or Ready (awaited_ready facts decision.kind seq table.map.list) barrier) Nothing ≡ Propose command → command ≡ FinalizeResize id seq
    on_decision table decision false e = cc
    on_decision table decision true e =
        let first = awaited_none Ready (awaited_ready facts decision.kind seq table.map.list) barrier command (λ h asks. cc) e in
        let second = awaited_none Barrier (awaited_barrier facts state) last command (λ h asks. cc) first.1 in
        let proposed : last ≡ Propose command = second.1 in
        cc

    on_table : (table : Table) (decision : Option Decision) → next_for_decision state facts id table.map.list seq decision ≡ Propose command → command ≡ FinalizeResize id seq
    on_table table None e = cc
    on_table table (Some decision) e = on_decision table decision (same_session decision.seq seq) e

    by : (table : Option Table) → next_for_table state facts id seq table ≡ Propose command → command ≡ FinalizeResize id seq
    by None e = cc
    by (Some table) e = on_table table table.resize e

pub record IsPlannedDue (move : MoveAsk) (act : Act) (session : Session) (state : Topology) (facts : List Told) (command : Command) : Type 0 where
  pub due : going_command move act session (advanced_stage state command) ≡ Some command
  pub raising : raises command ≡ true
  pub fit : IsFit command

by_finalize : (move : MoveAsk) (act : Act) (table : TableId) (session : Session) (state : Topology) (facts : List Told) (command : Command) → going_command move act session None ≡ Some (FinalizeResize table session) → plan_resize state facts table session ≡ Propose command → IsPlannedDue move act session state facts command
by_finalize move act table session state facts command acts plan =
    let is = finalizes state facts table session command plan in
    record {
      due = subst (λ (c : Command). going_command move act session (advanced_stage state c) ≡ Some c) (sym is) acts;
      raising = ap raises is;
      fit = subst IsFit (sym is) tt;
    }

pub planned_act_due : (move : MoveAsk) (act : Act) (session : Session) (state : Topology) (facts : List Told) (command : Command) → planned_act move act session state facts ≡ Propose command → IsPlannedDue move act session state facts command
planned_act_due move (Move table tablet from to) session state facts command plan =
    let back = turns_back move.back_from (stage_in state session) in
    let p = planned_is state facts session back command plan in
    let t = p.transition in
    let stage : stage_in state session ≡ Some t.stage = ap (option_map (λ (t : Transition). t.stage)) p.found in
    let back_is : back ≡ turns_back_at move.back_from t.stage = ap (turns_back move.back_from) stage in
    let is : command ≡ next_advance move.back_from session t.stage = p.command_is ∙ ap (λ b. Advance session (target t.stage b)) back_is in
    let whole : option_map (next_advance move.back_from session) (stage_in state session) ≡ Some (next_advance move.back_from session t.stage) = ap (option_map (next_advance move.back_from session)) stage in
    record {
      due = subst (λ (c : Command). option_map (next_advance move.back_from session) (advanced_stage state c) ≡ Some c) (sym is) whole;
      raising = ap raises is;
      fit = subst IsFit (sym is) tt;
    }
planned_act_due move (Split table) session state facts command plan = by_finalize move (Split table) table session state facts command refl plan
planned_act_due move (Merge table) session state facts command plan = by_finalize move (Merge table) table session state facts command refl plan
planned_act_due move (Join host) session state facts command plan = cc plan
planned_act_due move (Leave host) session state facts command plan = cc plan
planned_act_due move (Create table log2 replicas) session state facts command plan = cc plan

-- ---- no command that breaks no rule in the state that was seen is judged illegal

fine_outcome : (look len : ℕ) (same : Bool) (number : ℕ) (last : ℕ) (outcome : Appended Rule) → outcome ≡ (if same then Accepted number else Conflict (record { 0 = last })) → is_illegal outcome ≡ false
fine_outcome look len true number last outcome e = ap is_illegal e
fine_outcome look len false number last outcome e = ap is_illegal e

proposed_one : (a b : Appended Rule) → Proposed a ∷ [] ≡ Proposed b ∷ [] → a ≡ b
proposed_one a b e = cc e

pub never_illegal : (opening : Opening) (now : History) (topo : HostId) (command : Command) (outcome : Appended Rule) → IsNext opening now (propose_entry topo command outcome) → rule (seen_state opening now topo) command ≡ None → is_illegal outcome ≡ false
never_illegal opening now topo command outcome next fine =
    let look = look_of now topo in
    let log = log_of now in
    let is : outcome ≡ outcome_of look (length log) (rule (last_state opening now) command) = proposed_one outcome (outcome_of look (length log) (rule (last_state opening now) command)) next.outputs in
    (elim (look == length log) as (λ b. (look == length log) ≡ b → is_illegal outcome ≡ false) [
      | true ↦ λ e.
          let same : look ≡ length log = grind (arith, nat_tests, e) in
          let state : last_state opening now ≡ seen_state opening now topo = sym (at_last (opening_state opening) log look (omega (arith, same))) in
          let right : rule (last_state opening now) command ≡ None = ap (λ (s : Topology). rule s command) state ∙ fine in
          let got : outcome ≡ Accepted (length log + 1) = is ∙ (rw (e, right) refl) in
          ap is_illegal got
      | false ↦ λ e.
          let got : outcome ≡ Conflict (record { 0 = length log }) = is ∙ (rw e refl) in
          ap is_illegal got
    ]) refl

-- a fence that is due breaks no rule
pub fence_fine : (state : Topology) (version : Version) → version ≡ state.version → nat_lt state.fence.0 version.0 ≡ true → rule state (SetFence version) ≡ None
fence_fine state version is above =
    let least : nat_lt state.version.0 version.0 ≡ false = ap (λ (v : Version). nat_lt state.version.0 v.0) is ∙ not_below state.version.0 in
    rw (above, least) refl
  where
    not_below : (n : ℕ) → nat_lt n n ≡ false
    not_below n = grind (arith, nat_tests)

-- ---- what a proposal leaves

pub ways_fenced : (known after : Known) (topo : HostId) (version : Version) (outcome : Appended Rule) (number : ℕ) → known.actor ≡ ByTopo topo → HasCommitted known (propose_entry topo (SetFence version) outcome) number after → WaysStay known topo after
ways_fenced known after topo version outcome number is c =
    let opening = known.opening in
    let none : proposals_of opening (propose_entry topo (SetFence version) outcome ∷ c.now) topo ≡ proposals_of opening c.now topo = rw (same_host-refl topo) refl in
    ap (λ (k : Known). proposals_of k.opening k.seen topo) c.is ∙ none ∙ ways_since opening topo known.seen c.now (later_of known topo c.now is c.later)

pub noted_proposed : (known after : Known) (topo : HostId) (command : Command) (outcome : Appended Rule) (number : ℕ) (notes : NotesView) → known.actor ≡ ByTopo topo → HasCommitted known (propose_entry topo command outcome) number after → IsNoted known.seen topo notes → IsNoted after.seen topo (propose_noted command outcome notes)
noted_proposed known after topo command outcome number notes is c n =
    subst (λ (k : Known). IsNoted k.seen topo (propose_noted command outcome notes)) (sym c.is)
    (noted_proposal c.now topo command outcome notes (noted_since known.opening topo known.seen c.now notes (later_of known topo c.now is c.later) n))

pub at_proposed : (plan : RunPlan) (desk after : DeskView) (topo : TopoView) (command : Command) (outcome : Appended Rule) (notes new : NotesView) → IsAtTopo plan desk topo notes → IsDesk plan after → IsTopo after.known topo → DeskProposed desk topo.host command outcome after → new ≡ propose_noted command outcome notes → IsAtTopo plan after topo new
at_proposed plan desk after topo command outcome notes new at kept topo_is c is =
    record {
      kept = kept;
      topo_is = topo_is;
      noted = subst (IsNoted after.known.seen topo.host) (sym is) (noted_proposed desk.known after.known topo.host command outcome c.0 notes at.topo_is.actor c.1.committed at.noted);
      free = ap (λ (d : DeskView). d.held) c.1.is;
    }

-- what may be proposed
fence_unit : (history : History) (topo : HostId) (state : Topology) (command : Command) → raises command ≡ true → IsFenceDue history topo state command
fence_unit history topo state (SetFence version) r = cc r
fence_unit history topo state command r = tt

pub raise_due : (plan : RunPlan) (desk : DeskView) (topo : TopoView) (notes : NotesView) (command : Command) → IsAtTopo plan desk topo notes → proposal_rule topo.state topo.facts command ≡ None → IsFit command → notes.looked ≡ true → raises command ≡ true → IsProposable desk topo command
raise_due plan desk topo notes command at fine fit looked raising =
    record {
      rule_is = fine;
      fit = fit;
      looked = sym at.noted.looked_is ∙ looked;
      fence = fence_unit desk.known.seen topo.host topo.state command raising;
      free = at.free;
    }

pub fence_due : (plan : RunPlan) (desk : DeskView) (topo : TopoView) (notes : NotesView) → IsAtTopo plan desk topo notes → notes.looked ≡ true → nat_lt topo.state.fence.0 topo.state.version.0 ≡ true → notes.drained ≡ Some topo.state.version → IsProposable desk topo (SetFence topo.state.version)
fence_due plan desk topo notes at looked above drained =
    record {
      rule_is = refl;
      fit = tt;
      looked = sym at.noted.looked_is ∙ looked;
      fence = (refl, above, at.noted.drained_is topo.state.version drained);
      free = at.free;
    }

state_since : (known : Known) (topo : TopoView) (now : History) → IsTopo known topo → IsLater known.opening (ByTopo topo.host) known.seen now → topo.state ≡ seen_state known.opening now topo.host
state_since known topo now is later =
    ap (λ (v : TopoView). v.state) is.view ∙ sym (since known.opening (ByTopo topo.host) (λ h. seen_state known.opening h topo.host) (λ history entry legal other. seen_state-other known.opening history entry topo.host other) known.seen now later)

well_judged : (opening : Opening) (now : History) (topo : HostId) (command : Command) (outcome : Appended Rule) → IsNext opening now (propose_entry topo command outcome) → IsSafe (seen_state opening now topo) command → may_come command outcome ≡ true
well_judged opening now topo (Advance session to) outcome next safe = advances_judged opening now topo (Advance session to) outcome next safe
well_judged opening now topo command outcome next safe = refl

-- a due command was proposed
pub has_gone : (known after : Known) (topo : TopoView) (command : Command) (outcome : Appended Rule) (number : ℕ) (move : MoveAsk) (standing next : Standing) (stage : Option Stage) → IsTopo known topo → HasCommitted known (propose_entry topo.host command outcome) number after → raises command ≡ true → due_command move standing (advanced_stage topo.state command) ≡ Some command → IsSafe topo.state command → stage ≡ advanced_stage topo.state command → next ≡ standing_by move standing command stage outcome → HasGone known topo.host move standing next outcome after
has_gone known after topo command outcome number move standing next stage is c raising due safe stage_is next_is =
    let opening = known.opening in
    let later = later_of known topo.host c.now is.actor c.later in
    let state = state_since known topo c.now is later in
    let now_is : Proposal = record { command = command; stage = advanced_stage (seen_state opening c.now topo.host) command; outcome = outcome } in
    let added : proposals_of opening (propose_entry topo.host command outcome ∷ c.now) topo.host ≡ now_is ∷ proposals_of opening c.now topo.host = rw (same_host-refl topo.host, raising) refl in
    let then_is : Proposal = record { command = command; stage = advanced_stage topo.state command; outcome = outcome } in
    let same : now_is ≡ then_is = ap (λ (s : Topology). record { command = command; stage = advanced_stage s command; outcome = outcome }) (sym state) in
    record {
      command = command;
      stage = advanced_stage topo.state command;
      whole =
          ap (λ (k : Known). proposals_of k.opening k.seen topo.host) c.is
          ∙ added
          ∙ (λ i. same i ∷ ways_since opening topo.host known.seen c.now later i);
      due = due;
      comes = well_judged opening c.now topo.host command outcome c.next (subst (λ (s : Topology). IsSafe s command) state safe);
      stands = next_is ∙ ap (λ (o : Option Stage). standing_by move standing command o outcome) stage_is;
    }

-- a fence that is due is not judged illegal
pub fence_legal : (known after : Known) (topo : TopoView) (version : Version) (outcome : Appended Rule) (number : ℕ) → IsTopo known topo → version ≡ topo.state.version → nat_lt topo.state.fence.0 topo.state.version.0 ≡ true → HasCommitted known (propose_entry topo.host (SetFence version) outcome) number after → is_illegal outcome ≡ false
fence_legal known after topo version outcome number is version_is above c =
    let later = later_of known topo.host c.now is.actor c.later in
    let state : topo.state ≡ seen_state known.opening c.now topo.host =
    ap (λ (v : TopoView). v.state) is.view ∙ sym (since known.opening (ByTopo topo.host) (λ h. seen_state known.opening h topo.host) (λ history entry legal other. seen_state-other known.opening history entry topo.host other) known.seen c.now later) in
    let fine = fence_fine topo.state version version_is (ap (λ (v : Version). nat_lt topo.state.fence.0 v.0) version_is ∙ above) in
    never_illegal known.opening c.now topo.host (SetFence version) outcome c.next (subst (λ (s : Topology). rule s (SetFence version) ≡ None) state fine)

pub may_set_fence : (plan : RunPlan) (desk : DeskView) (topo : TopoView) (notes : NotesView) (version : Version) → IsAtTopo plan desk topo notes → CanFence topo notes version → IsProposable desk topo (SetFence version)
may_set_fence plan desk topo notes version at can =
    subst (λ (v : Version). IsProposable desk topo (SetFence v)) (sym can.is)
    (fence_due plan desk topo notes at can.looked can.above (can.drained ∙ ap Some can.is))

pub on_err : {A B : Type 0} (result : Result A B) (P : Type 0) → P → OnErr result P
on_err (Ok value) P p = tt
on_err (Err error) P p = p

-- ---- the next act

first_raises : (act : Act) → raises (first_command act) ≡ true
first_raises (Move table tablet from to) = refl
first_raises (Split table) = refl
first_raises (Merge table) = refl
first_raises (Join host) = refl
first_raises (Leave host) = refl
first_raises (Create table log2 replicas) = refl

proposes_one : (a b : Command) → Propose a ≡ Propose b → a ≡ b
proposes_one a b e = cc e

-- a command that is next is due, and no fence
pub record IsDue (move : MoveAsk) (standing : Standing) (state : Topology) (command : Command) : Type 0 where
  pub due : due_command move standing (advanced_stage state command) ≡ Some command
  pub raising : raises command ≡ true

pub next_due : (move : MoveAsk) (standing : Standing) (state : Topology) (facts : List Told) (command : Command) → next_act move standing state facts ≡ Propose command → IsDue move standing state command
next_due move Before state facts command is =
    let first = awaited_none Barrier (awaited_barrier facts state) (Propose (first_command move.act)) command (λ h asks. cc) is in
    let same : first_command move.act ≡ command = proposes_one (first_command move.act) command first.1 in
    record { due = ap Some same; raising = ap raises (sym same) ∙ first_raises move.act }
next_due move (Going session) state facts command is =
    let p = planned_act_due move move.act session state facts command is in
    record { due = p.due; raising = p.raising }
next_due move (Over ending) state facts command is = cc is

-- ---- a look

-- the coordinator after a look
pub look_on : (plan : RunPlan) (desk after : DeskView) (topo : TopoView) (number : ℕ) (notes : NotesView) → IsAtTopo plan desk topo notes → notes.acted ≡ true → (c : DeskCommitted desk (look_entry topo.host) number after) → IsAtTopo plan after (topo_after topo (LookInput (length (log_of c.committed.now)) (last_state desk.known.opening c.committed.now))) (look_noted notes)
look_on plan desk after topo number notes at acted c =
    let by = c.committed in
    let opening = desk.known.opening in
    let later = later_of desk.known topo.host by.now at.topo_is.actor by.later in
    let input = LookInput (length (log_of by.now)) (last_state opening by.now) in
    let stays = at.topo_is.view ∙ sym (since opening (ByTopo topo.host) (λ h. topo_view opening h topo.host) (λ history entry legal other. topos_stay opening history entry topo.host other) desk.known.seen by.now later) in
    let play = topos_play opening by.now (Look topo.host) topo.host input at.kept.seated.valid by.later.run.legal refl refl refl in
    let view : topo_after topo input ≡ topo_view opening (look_entry topo.host ∷ by.now) topo.host = ap (λ (v : TopoView). topo_after v input) stays ∙ play.after in
    record {
      kept = desk_committed plan desk (look_entry topo.host) number after at.kept (sym at.topo_is.actor) at.free (sym at.noted.acted_is ∙ acted, tt) c;
      topo_is = subst (λ (k : Known). IsTopo k (topo_after topo input)) (sym by.is) (record { actor = at.topo_is.actor; view = view });
      noted = subst (λ (k : Known). IsNoted k.seen topo.host (look_noted notes)) (sym by.is) (noted_look by.now topo.host [] notes (noted_since opening topo.host desk.known.seen by.now notes later at.noted));
      free = ap (λ (d : DeskView). d.held) c.is;
    }

pub timed_on : (patience drain given takes more : ℕ) (clock : Clock) → more ≡ takes + 1 → IsTimed patience drain given takes clock → IsTimed patience drain given more clock
timed_on patience drain given takes more clock is t =
    record {
      given_up = t.given_up;
      asked = (let a = t.asked in omega (arith, a, is));
      fenced = t.fenced;
      waited = (let a = t.waited in omega (arith, a, is));
      inquired = (let a = t.inquired in omega (arith, a, is));
    }

-- ---- a proposal as a whole

pub proposal_same : (desk after : DeskView) (topo : HostId) (command : Command) (result : Result (Appended Rule) Refused) → IsDeskProposal desk topo command result after → IsSameDesk desk after
proposal_same desk after topo command (Ok outcome) c = same_committed desk after (propose_entry topo command outcome) c.0 c.1
proposal_same desk after topo command (Err refused) c = same_turned desk after c

pub proposal_takes : (desk after : DeskView) (topo : HostId) (command : Command) (result : Result (Appended Rule) Refused) → IsDeskProposal desk topo command result after → after.takes ≡ desk.takes
proposal_takes desk after topo command (Ok outcome) c = ap (λ (d : DeskView). d.takes) c.1.is
proposal_takes desk after topo command (Err refused) c = ap (λ (d : DeskView). d.takes) c.is
