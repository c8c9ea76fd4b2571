-- The rules of a host's events, by the host as plain data.
use Rattle.std.proofs.Common.{ap, refl, sym, ◌∙◌}
use Rattle.std.specs.Option.{option_or}
use Rattle.std.specs.Prelude.{Bool, None, Option, Some, if◌then◌else◌, nat_lt, true, false, ◌≡◌}
use Rattle.barrier_core.specs.declared.data.What.{What}
use Rattle.barrier_core.specs.declared.data.What.TheVariants.{Done}
use Rattle.base_ids.specs.declared.ids.Actor.TheVariants.{Host as ByHost}
use Rattle.base_ids.specs.declared.ids.HostId.{HostId}
use Rattle.base_ids.specs.declared.ids.Session.{Session}
use Rattle.base_ids.specs.declared.ids.Version.{Version}
use Rattle.base_ids.specs.declared.rules.EventRule.TheVariants.{LiveBelow, NotTrue, VersionAhead}
use Rattle.host_core.specs.Host.{host_rule, holds_here as is_so_by, pull_input_rule as pull_rule_by}
use Rattle.host_core.specs.Pulls.{pull_of_state as first_pull_by, pull_in}
use Rattle.host_core.specs.declared.data.HostInput.TheVariants.{Pull as PullInput}
use Rattle.stream_core.specs.Pulls.{Pulling}
use Rattle.cluster_history.specs.Held.{has_done}
use Rattle.cluster_history.specs.History.{History, message_of, output_at}
use Rattle.cluster_history.specs.Legal.{broken_rule}
use Rattle.cluster_history.specs.Messages.{is_for, is_question}
use Rattle.cluster_history.specs.Requests.{has_live_below}
use Rattle.cluster_history.specs.Rules.{answer_rule, is_so, message_rule, pull_rule, quiet_rule}
use Rattle.cluster_history.specs.Topology.{applied_state, floor_of, version_of}
use Rattle.cluster_history.specs.declared.data.Event.TheVariants.{Pull}
use Rattle.cluster_history.specs.declared.data.Message.TheVariants.{Ask as AskSent}
use Rattle.cluster_history.specs.declared.data.Opening.{Opening}
use Rattle.cluster_history.specs.declared.data.Output.{Output}
use Rattle.cluster_history.specs.declared.data.Output.TheVariants.{Sent}
use Rattle.host_ties.proofs.PullLemmas.{done_agrees, pulls_agree, same_first}
use Rattle.host_ties.specs.HostRules.{HostRules, asked_rule}
use Rattle.host_ties.specs.HostTies.{ask_in, host_view, pulls_of}

quiet_parts : (version newest : Version) (live_below : Bool) → quiet_rule version newest live_below ≡ option_or (if nat_lt newest.0 version.0 then Some VersionAhead else None) (if live_below then Some LiveBelow else None)
quiet_parts version newest live_below =
    elim (nat_lt newest.0 version.0) as (λ b. (if b then Some VersionAhead else if live_below then Some LiveBelow else None) ≡ option_or (if b then Some VersionAhead else None) (if live_below then Some LiveBelow else None)) [ true ↦ refl | false ↦ refl ]

same_pull_rule : (new pull : Option Pulling) → pull_rule new pull ≡ pull_rule_by new pull
same_pull_rule new None = refl
same_pull_rule new (Some pull) = refl

pull_broken : (opening : Opening) (history : History) (host : HostId) (session : Session) → broken_rule opening history (Pull host session) ≡ host_rule (host_view opening history host) (PullInput session)
pull_broken opening history host session =
    (λ i. pull_rule (sym (same_first (applied_state opening history host) host session) i) (sym (pulls_agree opening history host session) i))
    ∙ same_pull_rule (first_pull_by (applied_state opening history host) host session) (pull_in (pulls_of opening history host) session)

-- what a host can tell
pub same_so : (opening : Opening) (history : History) (host : HostId) (what : What) → is_so (floor_of history host) (applied_state opening history host) (has_done opening history host) what ≡ is_so_by (host_view opening history host) what
same_so opening history host (Done session) = sym (done_agrees opening history host session)
same_so opening history host what = refl

answer_broken :
    (opening : Opening) (history : History) (host : HostId) (output : Option Output) →
    answer_rule (is_for (ByHost host) is_question) (is_so (floor_of history host) (applied_state opening history host) (has_done opening history host)) output
    ≡ option_or (message_rule (is_for (ByHost host) is_question) output) (asked_rule (host_view opening history host) (ask_in (message_of output)))
answer_broken opening history host None = refl
answer_broken opening history host (Some (Sent (AskSent ask))) =
    ap (λ so. option_or (message_rule (is_for (ByHost host) is_question) (Some (Sent (AskSent ask)))) (if so then None else Some NotTrue)) (same_so opening history host ask.what)
answer_broken opening history host (Some (Sent message)) = refl
answer_broken opening history host (Some output) = refl

pub host_rules : HostRules
host_rules opening history host =
    record {
      apply = refl;
      quiet = λ version. quiet_parts version (version_of opening history host) (has_live_below opening history host version);
      serve = λ at. refl;
      answer = λ at. answer_broken opening history host (output_at history at);
      clean = λ at. refl;
      pull = pull_broken opening history host;
      take_chunk = λ at. refl;
    }
