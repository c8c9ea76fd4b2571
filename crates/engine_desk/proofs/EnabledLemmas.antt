-- An event that breaks no rule in what was seen is enabled as far as its actor sees.
use Rattle.std.proofs.Common.{arith, refl, ◌≡◌}
use Rattle.std.proofs.lemmas.Bool.Decides.{nat_tests}
use Rattle.std.specs.Prelude.{Bool, None, Option, Some, [], false, if◌then◌else◌, nat_lt, true, ◌∷◌, ◌≤◌}
use Rattle.base_ids.specs.declared.ids.Version.{Version}
use Rattle.base_ids.specs.declared.rules.EventRule.{EventRule}
use Rattle.base_ids.specs.declared.rules.EventRule.TheVariants.{LiveBelow, VersionAhead}
use Rattle.cluster_history.specs.Legal.{broken_rule}
use Rattle.cluster_history.specs.Requests.{has_live_below}
use Rattle.cluster_history.specs.Rules.{first_broken_rule, quiet_rule}
use Rattle.cluster_history.specs.Topology.{version_of}
use Rattle.cluster_history.specs.declared.data.Event.{Event}
use Rattle.cluster_history.specs.declared.data.Event.TheVariants.{Quiet}
use Rattle.engine_desk.specs.Chairs.{IsEnabled, Known}

not_ahead : (version newest : Version) (live_below : Bool) → quiet_rule version newest live_below ≡ None → version.0 ≤ newest.0
not_ahead version newest live_below e =
    (elim (nat_lt newest.0 version.0) as (λ b. nat_lt newest.0 version.0 ≡ b → (if b then Some VersionAhead else first_broken_rule ((live_below, LiveBelow) ∷ [])) ≡ None → version.0 ≤ newest.0) [
      | true ↦ λ less f. cc f
      | false ↦ λ less f. grind (arith, nat_tests)
    ]) refl e

pub enabled_by : (known : Known) (event : Event) → broken_rule known.opening known.seen event ≡ None → IsEnabled known event
enabled_by known (Quiet host version) enabled =
    not_ahead version (version_of known.opening known.seen host) (has_live_below known.opening known.seen host version) enabled
enabled_by known event enabled = enabled
