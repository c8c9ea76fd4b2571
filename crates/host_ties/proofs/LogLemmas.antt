-- The next command of a log for a host: it is there, it was accepted by the state that the host has applied, and it leads
-- to the next one.
use Rattle.std.proofs.Common.{arith, refl}
use Rattle.std.proofs.lemmas.Bool.Decides.{nat_tests}
use Rattle.std.specs.Prelude.{IsSome, List, None, Some, [], false, if◌then◌else◌, length, nat_lt, option_map, true, ℕ, ◌+◌, ◌-◌, ◌<◌, ◌==◌, ◌^◌, ◌∷◌, ◌≡◌, ◌≤◌}
use Rattle.base_ids.specs.declared.rules.EventRule.TheVariants.{NothingToApply}
use Rattle.group0_log.specs.Log.{AreBelowEnd, command_at, state_of}
use Rattle.topo_state.specs.State.{Topology}
use Rattle.topo_state.specs.declared.command.Command.{Command}
use Rattle.cluster_history.proofs.LogLemmas.{after_by_one}
use Rattle.cluster_history.specs.Rules.{apply_rule}

-- the version is at most as many above the first one as there are commands
pub version_by_length : (first : Topology) (log : List Command) → (state_of first log).version.0 ≤ first.version.0 + length log
version_by_length first [] = omega arith
version_by_length first (command ∷ log) =
    let before = version_by_length first log in
    let by_one = after_by_one (state_of first log) command (length log + 1) in
    omega (arith, before, by_one)

pub below_end : (first : Topology) (log : List Command) → first.version.0 + length log < 2 ^ 64 - 1 → AreBelowEnd first log
below_end first [] short = tt
below_end first (command ∷ log) short =
    let before = version_by_length first log in
    (omega (arith, before, short), below_end first log (omega (arith, short)))

-- where a host may apply a command there is one
more_to_apply : (applied len : ℕ) → apply_rule applied len ≡ None → applied + 1 ≤ len
more_to_apply applied len enabled =
    (elim (nat_lt applied len) as (λ b. nat_lt applied len ≡ b → (if b then None else Some NothingToApply) ≡ None → applied + 1 ≤ len) [
      | true ↦ λ less e. grind (arith, nat_tests)
      | false ↦ λ less e. cc e
    ]) refl enabled

command_there : {X : Type 0} (of : Command → X) (log : List Command) (n : ℕ) → n + 1 ≤ length log → IsSome (option_map of (command_at log (n + 1)))
command_there of [] n within = absurd (omega arith)
command_there of (command ∷ log) n within =
    (elim (n + 1 == length log + 1) as (λ b. (n + 1 == length log + 1) ≡ b → IsSome (option_map of (if b then Some command else command_at log (n + 1)))) [
      | true ↦ λ last. refl
      | false ↦ λ earlier. command_there of log n (grind (arith, nat_tests))
    ]) refl

pub next_there : {X : Type 0} (of : Command → X) (log : List Command) (n : ℕ) → apply_rule n (length log) ≡ None → IsSome (option_map of (command_at log (n + 1)))
next_there of log n enabled = command_there of log n (more_to_apply n (length log) enabled)
