-- What a world keeps, and what it answers by it.
use Rattle.std.proofs.Common.{Err, List, None, Ok, OnErr, OnOk, Option, Result, Some, ap, length, refl, sym, ◌∙◌, ◌∷◌, ◌≡◌, ℕ}
use Rattle.std.proofs.lemmas.Bool.{eq-eqb}
use Rattle.std.specs.Prelude.{if◌then◌else◌, ◌==◌}
use Rattle.base_ids.specs.declared.ids.Version.{Version}
use Rattle.base_ids.specs.declared.memory.NoMemory.{NoMemory}
use Rattle.base_ids.specs.declared.rules.Appended.{Appended}
use Rattle.base_ids.specs.declared.rules.Appended.TheVariants.{Conflict}
use Rattle.base_ids.specs.Outcomes.{judged_outcome, outcome_of}
use Rattle.book_rule.specs.World.{outcome_after}
use Rattle.cluster_history.specs.Openings.{opening_state}
use Rattle.cluster_history.specs.declared.data.Opening.{Opening}
use Rattle.group0_log.specs.Log.{CommandLog, log_after, state_of, state_with}
use Rattle.snapshot_log.specs.First.{first_with, outcome_in}
use Rattle.topo_state.specs.Rules.{rule}
use Rattle.topo_state.specs.State.{Topology}
use Rattle.topo_state.specs.declared.command.Command.{Command}
use Rattle.topo_state.specs.declared.command.Rule.{Rule}
use Rattle.world_law.specs.Worlds.{run_meaning, snapshot_of}
use Rattle.run_world.specs.Kept.{IsKept}

-- the log after a command that breaks no rule, proposed by one that has read all of it
pub accepted_log : (log : CommandLog) (read : ℕ) (command : Command) → read ≡ length log.commands → rule (state_of log.first log.commands) command ≡ None → log_after log command (outcome_in log read command) ≡ record log { commands = command ∷ log.commands }
accepted_log log read command all fine =
    ap (λ (b : Option Rule). log_after log command (outcome_of read (length log.commands) b)) fine
    ∙ ap (λ t. log_after log command (if t then judged_outcome (length log.commands) None else Conflict (record { 0 = length log.commands }))) (eq-eqb read (length log.commands) all)

pub snapshot_found : (opening shared : Opening) (log : CommandLog) (version : Version) → IsKept opening shared log → first_with log version ≡ snapshot_of opening log.commands version
snapshot_found opening shared log version kept = ap (λ (s : Topology). state_with s log.commands version.0) kept.first

pub outcome_found : (opening shared : Opening) (log : CommandLog) (read : ℕ) (command : Command) → IsKept opening shared log → outcome_in log read command ≡ outcome_after run_meaning opening log.commands read command
outcome_found opening shared log read command kept =
    ap (λ (s : Topology). outcome_of read (length log.commands) (rule (state_of s log.commands) command)) kept.first

pub kept_after : (opening shared : Opening) (old new : CommandLog) (command : Command) (result : Result (Unit {0}) NoMemory) → IsKept opening shared old → OnOk result (new ≡ record old { commands = command ∷ old.commands }) → OnErr result (new ≡ old) → IsKept opening shared new
kept_after opening shared old new command (Ok done) kept ok err = rw ok (let next : IsKept opening shared (record old { commands = command ∷ old.commands }) = record { same = kept.same; first = kept.first } in next)
kept_after opening shared old new command (Err refused) kept ok err = rw err kept
