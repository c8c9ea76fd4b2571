-- The rules of a host's events, by the host as plain data; and its pulls, which are defined twice.
use Rattle.std.specs.Option.{option_or}
use Rattle.std.specs.Prelude.{Bool, None, Option, Some, if◌then◌else◌, length, ◌≡◌}
use Rattle.base_ids.specs.declared.ids.Actor.TheVariants.{Host as ByHost}
use Rattle.base_ids.specs.declared.ids.HostId.{HostId}
use Rattle.base_ids.specs.declared.ids.MsgRef.{MsgRef}
use Rattle.base_ids.specs.declared.ids.Session.{Session}
use Rattle.base_ids.specs.declared.ids.Version.{Version}
use Rattle.base_ids.specs.declared.rules.EventRule.{EventRule}
use Rattle.base_ids.specs.declared.rules.EventRule.TheVariants.{LiveBelow}
use Rattle.barrier_core.specs.declared.data.Ask.{Ask}
use Rattle.host_core.specs.Host.{HostView, host_rule, is_pulled as is_pull_done}
use Rattle.host_core.specs.Pulls.{pull_in}
use Rattle.host_core.specs.declared.data.HostInput.TheVariants.{Answer as AnswerInput, Pull as PullInput, Quiet as QuietInput}
use Rattle.cluster_history.specs.Held.{has_done, pull_of}
use Rattle.cluster_history.specs.History.{History, message_at, output_at}
use Rattle.cluster_history.specs.Legal.{broken_rule}
use Rattle.cluster_history.specs.Messages.{is_chunk, is_clean_ask, is_for, is_question, is_request}
use Rattle.cluster_history.specs.Requests.{has_live_below}
use Rattle.cluster_history.specs.Rules.{apply_rule, message_rule}
use Rattle.cluster_history.specs.Topology.{log_of}
use Rattle.cluster_history.specs.declared.data.Event.TheVariants.{Answer, Apply, Clean, Pull, Quiet, Serve, TakeChunk}
use Rattle.cluster_history.specs.declared.data.Message.{Message}
use Rattle.cluster_history.specs.declared.data.Opening.{Opening}
use Rattle.host_ties.specs.HostTies.{ask_in, host_view, pulls_of}

-- the rule on the host's lanes: none of them has a live request below the version
abbrev pub live_rule : Opening → History → HostId → Version → Option EventRule
live_rule opening history host version = if has_live_below opening history host version then Some LiveBelow else None

-- the rule on what is asked, which the host's state decides, where a message asks
abbrev pub asked_rule : HostView → Option Ask → Option EventRule
asked_rule view None = None
asked_rule view (Some ask) = host_rule view (AnswerInput ask)

-- an event of a host that takes a message, by which messages it takes
abbrev pub taking_rule : History → HostId → (Message → Bool) → MsgRef → Option EventRule
taking_rule history host is_kind at = message_rule (is_for (ByHost host) is_kind) (output_at history at)

-- the first rule that each event of a host breaks
pub record AreHostRules (opening : Opening) (history : History) (host : HostId) : Type 0 where
  pub apply :
      broken_rule opening history (Apply host)
      ≡ apply_rule (host_view opening history host).applied (length (log_of history))
  pub quiet :
      (version : Version) →
      broken_rule opening history (Quiet host version)
      ≡ option_or
      (host_rule (host_view opening history host) (QuietInput version))
      (live_rule opening history host version)
  pub serve : (at : MsgRef) → broken_rule opening history (Serve host at) ≡ taking_rule history host is_request at
  pub answer :
      (at : MsgRef) →
      broken_rule opening history (Answer host at)
      ≡ option_or
      (taking_rule history host is_question at)
      (asked_rule (host_view opening history host) (ask_in (message_at history at)))
  pub clean : (at : MsgRef) → broken_rule opening history (Clean host at) ≡ taking_rule history host is_clean_ask at
  pub pull :
      (session : Session) →
      broken_rule opening history (Pull host session)
      ≡ host_rule (host_view opening history host) (PullInput session)
  pub take_chunk :
      (at : MsgRef) → broken_rule opening history (TakeChunk host at) ≡ taking_rule history host is_chunk at

abbrev pub HostRules : Type 0
HostRules = (opening : Opening) (history : History) (host : HostId) → AreHostRules opening history host

-- a host's pull of a session is the one that its list has for the session, and so it is done where that one is
pub record IsPullIn (opening : Opening) (history : History) (host : HostId) (session : Session) : Type 0 where
  pub same : pull_in (pulls_of opening history host) session ≡ pull_of opening history host session
  pub done : is_pull_done (pull_in (pulls_of opening history host) session) ≡ has_done opening history host session

abbrev pub HostPulls : Type 0
HostPulls =
    (opening : Opening) (history : History) (host : HostId) (session : Session) →
    IsPullIn opening history host session
