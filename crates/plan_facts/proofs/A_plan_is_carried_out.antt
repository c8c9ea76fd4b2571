-- A run that carries out a plan, and others that do not.
use Rattle.std.proofs.Common.{refl, sym}
use Rattle.std.specs.Prelude.{List, None, Option, Some, [], if◌then◌else◌, nat_lt, ℕ, ◌∷◌, ◌≡◌}
use Rattle.barrier_core.specs.declared.data.What.TheVariants.{Done, Drain}
use Rattle.base_ids.specs.declared.ids.Actor.TheVariants.{Lane as ByLane}
use Rattle.base_ids.specs.declared.ids.HostId.{HostId}
use Rattle.base_ids.specs.declared.ids.Version.{Version}
use Rattle.base_ids.specs.declared.rules.Appended.TheVariants.{Accepted, Illegal}
use Rattle.cluster_history.specs.Topology.{floor_of, last_state}
use Rattle.cluster_history.specs.declared.data.Event.TheVariants.{Quiet}
use Rattle.stage_graph.specs.declared.stage.Stage.{Stage}
use Rattle.stage_graph.specs.declared.stage.Stage.TheVariants.{AllowWriteBothReadOld, Cleanup, CleanupTarget, EndMigration, Streaming, UseNew, WriteBothReadNew, WriteBothReadOld}
use Rattle.topo_state.specs.declared.command.Command.{Command}
use Rattle.topo_state.specs.declared.command.Command.TheVariants.{SetFence}
use Rattle.topo_state.specs.declared.command.Rule.TheVariants.{BadStage}
use Rattle.plan_facts.proofs.Plays.{Line, Play, advance, ask, asked, asked_hosts, begin, catch_up, create_second, do_it, each, end_move, four, h, lane, live, look, mark, on, play, propose, quiet, read, restart, s, serve, start_move, stream, sync, t, tidy, timeout, v, write}
use Rattle.plan_facts.proofs.Plays.Line.{Choose, Mark, One, Skip, Then}
use Rattle.plan_facts.specs.Moves.{AreShared, CarriesMove, Proposal, proposals_of, standing_after}
use Rattle.plan_facts.specs.Plan.{moves_of}
use Rattle.plan_facts.specs.Suits.{AllCarry}
use Rattle.plan_facts.specs.declared.standing.Ending.TheVariants.{Moved}
use Rattle.plan_facts.specs.declared.standing.Standing.TheVariants.{Over}
use Rattle.run_plan.specs.declared.plan.Act.TheVariants.{Move}
use Rattle.run_plan.specs.declared.plan.MoveAsk.{MoveAsk}
use Rattle.run_plan.specs.declared.plan.RunPlan.{RunPlan}
use Rattle.run_plan.specs.declared.plan.Script.{Script}
use Rattle.run_plan.specs.declared.plan.Storm.{Storm}

-- ---- a plan: a lane writes and reads while a replica moves

abbrev the_move : MoveAsk
the_move =
    record { by = h 0; act = Move (t 1) (record { 0 = 0 }) (on 2) (on 3); back_from = None }

abbrev the_script : Script
the_script = record { lane = lane 0; ops = write 5 (live 10 97) ∷ read 5 ∷ [] }

abbrev plan_of : ℕ → List MoveAsk → List Script → Option Storm → RunPlan
plan_of patience moves scripts storm =
    record { workers = 1; patience = patience; drain = 100; scripts = scripts; moves = moves; storm = storm }

abbrev the_plan : RunPlan
the_plan = plan_of 1000 (the_move ∷ []) (the_script ∷ []) None

-- ---- a run of it

-- a host that has the version promises to begin nothing below it, where it has not yet
abbrev quieted : HostId → Version → Line
quieted host version =
    Choose (λ played. if nat_lt (floor_of played.history host).0 version.0 then One (Quiet host version) else Skip)

abbrev drained_by : HostId → Version → HostId → Line
drained_by topo version host = Then (catch_up host) (Then (quieted host version) (asked topo host (Drain version)))

abbrev drained : ℕ → Line
drained topo =
    Then (look topo) (Choose (λ played. each (drained_by (h topo) (last_state four played.history).version) (asked_hosts four (last_state four played.history))))

abbrev on_with : Command → Line
on_with command = Then (drained 0) (Then (propose 0 command) (sync four))

abbrev the_run : Play
the_run =
    play four (
    do_it four 0 (write 5 (live 10 97)) ∷ on_with (start_move 2 3) ∷ on_with (advance WriteBothReadOld)
    ∷ on_with (advance Streaming) ∷ stream four 0 1 ∷ on_with (advance WriteBothReadNew) ∷ do_it four 0 (read 5)
    ∷ on_with (advance UseNew) ∷ on_with (advance Cleanup) ∷ tidy four 0 1 ∷ on_with (advance EndMigration)
    ∷ on_with end_move ∷ [])

it_is_played : the_run.fault ≡ None
it_is_played = refl

the_move_is_over : standing_after the_move (proposals_of four the_run.history (h 0)) ≡ Over Moved
the_move_is_over = refl

-- its proposals, the newest first
abbrev stepped : Stage → Stage → ℕ → Proposal
stepped from to index = record { command = advance to; stage = Some from; outcome = Accepted index }

abbrev the_proposals : List Proposal
the_proposals =
    record { command = end_move; stage = Some EndMigration; outcome = Accepted 8 }
    ∷ stepped Cleanup EndMigration 7 ∷ stepped UseNew Cleanup 6 ∷ stepped WriteBothReadNew UseNew 5
    ∷ stepped Streaming WriteBothReadNew 4 ∷ stepped WriteBothReadOld Streaming 3
    ∷ stepped AllowWriteBothReadOld WriteBothReadOld 2
    ∷ record { command = start_move 2 3; stage = None; outcome = Accepted 1 }
    ∷ []

its_proposals : proposals_of four the_run.history (h 0) ≡ the_proposals
its_proposals = refl

they_carry_the_move : CarriesMove the_move the_proposals
they_carry_the_move =
    (refl, refl, (refl, refl, (refl, refl, (refl, refl, (refl, refl, (refl, refl, (refl, refl, (refl, refl, tt))))))))

its_moves : AreShared (moves_of the_plan (h 0)) (proposals_of four the_run.history (h 0))
its_moves =
    record {
      shares = the_proposals ∷ [];
      whole = sym its_proposals;
      carried = ((the_move, refl, they_carry_the_move), tt);
    }

-- each entry of its beginning suits the plan: a write, a barrier, and the start of the move
abbrev the_beginning : Play
the_beginning = play four (do_it four 0 (write 5 (live 10 97)) ∷ on_with (start_move 2 3) ∷ [])

its_first_entries_suit : AllCarry the_plan four the_beginning.history
its_first_entries_suit = (
  (tt, tt),
  (
    (tt, tt),
    (
      (tt, tt),
      (
        (tt, tt),
        (
          ((refl, tt), tt),
          (
            (tt, refl),
            (
              (tt, refl),
              (
                ((refl, refl), tt),
                (
                  (tt, refl),
                  (
                    (tt, refl),
                    (
                      ((refl, refl), tt),
                      (
                        (tt, refl),
                        (
                          (tt, refl),
                          (
                            ((refl, refl), tt),
                            (
                              (tt, refl),
                              (
                                (tt, refl),
                                (
                                  ((refl, refl), tt),
                                  (
                                    (refl, tt),
                                    (
                                      (tt, refl),
                                      (
                                        (tt, refl),
                                        (
                                          (tt, refl),
                                          (
                                            (tt, refl),
                                            (
                                              ((refl, refl), tt),
                                              tt,
                                            ),
                                          ),
                                        ),
                                      ),
                                    ),
                                  ),
                                ),
                              ),
                            ),
                          ),
                        ),
                      ),
                    ),
                  ),
                ),
              ),
            ),
          ),
        ),
      ),
    ),
  ),
)

-- ---- runs that do not carry it out: each breaks what the plan asks of its last entry

abbrev refused_by : RunPlan → Play → Type 0
refused_by plan played = AllCarry plan four played.history → ⊥

another_operation : refused_by the_plan (play four (begin 0 (read 5) 1 ∷ []))
another_operation h = cc (h.0.0.1)

-- the first is not decided
two_at_once : refused_by the_plan (play four (begin 0 (write 5 (live 10 97)) 1 ∷ begin 0 (read 5) 1 ∷ []))
two_at_once h = cc (h.0.0.0)

-- no storm loses a message
a_timeout : refused_by the_plan (play four (begin 0 (write 5 (live 10 97)) 1 ∷ timeout 0 1 ∷ []))
a_timeout h = cc (h.0.0)

a_restart : refused_by the_plan (play four (restart (ByLane (lane 0)) ∷ []))
a_restart h = h.0.0

-- a write ask is served twice
taken_twice : refused_by the_plan (play four (Mark (begin 0 (write 5 (live 10 97)) 1) ∷ serve 0 (mark 0 0) ∷ serve 0 (mark 0 0) ∷ []))
taken_twice h = cc (h.0.1)

-- it does not raise the floor
a_quiet_event_again : refused_by the_plan (play four (quiet 0 1 ∷ []))
a_quiet_event_again h = cc (h.0.0)

-- nothing was asked or proposed between
two_looks : refused_by the_plan (play four (look 0 ∷ look 0 ∷ []))
two_looks h = cc (h.0.0)

-- nothing was begun
asked_too_early : refused_by the_plan (play four (look 0 ∷ ask 0 3 (Done (s 1)) ∷ []))
asked_too_early h = cc (h.0.0.0)

-- with a patience of 1 one host is asked once
asked_too_often : refused_by (plan_of 1 (the_move ∷ []) (the_script ∷ []) None) (play four (look 0 ∷ ask 0 3 (Drain (v 1)) ∷ ask 0 3 (Drain (v 1)) ∷ []))
asked_too_often h = cc (h.0.0.1)

-- a coordinator without moves asks nothing
asked_by_another : refused_by the_plan (play four (look 1 ∷ ask 1 3 (Drain (v 1)) ∷ []))
asked_by_another h = cc (h.0.0.1)

-- it has not looked since it proposed
proposed_twice : refused_by the_plan (play four (on_with (start_move 2 3) ∷ propose 0 (start_move 2 3) ∷ []))
proposed_twice h = cc (h.0.0.0)

-- the coordinator did not ask whether that version is drained
a_fence_without_an_ask : refused_by the_plan (play four (on_with create_second ∷ look 0 ∷ propose 0 (SetFence (v 2)) ∷ []))
a_fence_without_an_ask h = cc (h.0.0.1.2)

-- ---- proposals that carry out no move

-- a table is made, which no move asks for
another_command : CarriesMove the_move (record { command = create_second; stage = None; outcome = Accepted 1 } ∷ []) → ⊥
another_command h = cc (h.0)

-- forward, where nothing asks to go back
a_step_back : CarriesMove the_move (stepped AllowWriteBothReadOld CleanupTarget 2 ∷ record { command = start_move 2 3; stage = None; outcome = Accepted 1 } ∷ []) → ⊥
a_step_back h = cc (h.0)

-- an advance that is judged illegal
an_illegal_advance : CarriesMove the_move (record { command = advance WriteBothReadOld; stage = Some AllowWriteBothReadOld; outcome = Illegal BadStage } ∷ record { command = start_move 2 3; stage = None; outcome = Accepted 1 } ∷ []) → ⊥
an_illegal_advance h = cc (h.1)

-- nothing comes after the end
after_the_end : CarriesMove the_move (stepped EndMigration Cleanup 9 ∷ the_proposals) → ⊥
after_the_end h = cc (h.0)
