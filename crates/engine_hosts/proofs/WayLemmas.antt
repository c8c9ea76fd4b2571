-- The event by which a host takes a message: whose it is, what it gives the host, and when it breaks no rule.
use Rattle.std.proofs.Common.{ap, refl, subst, sym, ◌∙◌}
use Rattle.std.specs.Option.{option_or}
use Rattle.std.specs.Prelude.{Bool, IsSome, None, Option, Some, false, if◌then◌else◌, nat_lt, not, option_map, true, ◌≡◌}
use Rattle.barrier_core.specs.declared.data.Ask.{Ask}
use Rattle.barrier_core.specs.declared.data.What.{What}
use Rattle.barrier_core.specs.declared.data.What.TheVariants.{Clean as CleanOf}
use Rattle.base_ids.specs.Names.{same_actor}
use Rattle.base_ids.specs.declared.ids.Actor.TheVariants.{Host as ByHost}
use Rattle.base_ids.specs.declared.ids.HostId.{HostId}
use Rattle.base_ids.specs.declared.ids.MsgRef.{MsgRef}
use Rattle.base_ids.specs.declared.rules.EventRule.{EventRule}
use Rattle.base_ids.specs.declared.rules.EventRule.TheVariants.{NotTrue, WrongMessage}
use Rattle.base_ids.proofs.NameLemmas.{and_true}
use Rattle.cluster_history.specs.History.{History, actor_of, message_at, output_at}
use Rattle.cluster_history.specs.Legal.{broken_rule}
use Rattle.cluster_history.specs.Messages.{addressee, is_chunk, is_clean, is_clean_ask, is_for, is_question, is_request}
use Rattle.cluster_history.specs.Rules.{message_rule}
use Rattle.cluster_history.specs.declared.data.Message.{Message}
use Rattle.cluster_history.specs.declared.data.Message.TheVariants.{Ask as AskSent, Chunk as ChunkSent, ChunkAsk as ChunkAskSent, Read as ReadSent, Write as WriteSent}
use Rattle.cluster_history.specs.declared.data.Opening.{Opening}
use Rattle.history_facts.proofs.LegalLemmas.{message_sent}
use Rattle.host_core.specs.Host.{HostView, holds_here, host_rule}
use Rattle.host_core.specs.declared.data.HostInput.{HostInput}
use Rattle.host_core.specs.declared.data.HostInput.TheVariants.{Answer as AnswerInput, Clean as CleanInput, Read as ReadInput, SendChunk, TakeChunk as ChunkInput, Write as WriteInput}
use Rattle.host_ties.specs.HostRules.{asked_rule, taking_rule}
use Rattle.host_ties.specs.HostTies.{ask_in, host_input, host_view, served_input}
use Rattle.host_ties.proofs.HostRules.{host_rules}
use Rattle.cluster_history.specs.Held.{chunk_in}
use Rattle.plan_facts.specs.Own.{taken_count, taken_ref}
use Rattle.plan_facts.specs.Plan.{most_takes}
use Rattle.plan_facts.specs.Suits.{Suits}
use Rattle.run_plan.specs.declared.plan.RunPlan.{RunPlan}
use Rattle.engine_hosts.specs.Ways.{asked_input, asked_way, event_by, input_in, way_of}
use Rattle.engine_hosts.specs.declared.way.Way.{Way}
use Rattle.engine_hosts.specs.declared.way.Way.TheVariants.{Answers, Cleans, Serves, TakesChunk}

pub way_author : (way : Way) (host : HostId) (at : MsgRef) → actor_of (event_by way host at) ≡ ByHost host
way_author Serves host at = refl
way_author Answers host at = refl
way_author Cleans host at = refl
way_author TakesChunk host at = refl

pub way_takes : (way : Way) (host : HostId) (at : MsgRef) → Some at ≡ taken_ref (event_by way host at)
way_takes Serves host at = refl
way_takes Answers host at = refl
way_takes Cleans host at = refl
way_takes TakesChunk host at = refl

pub way_suits : (plan : RunPlan) (opening : Opening) (history : History) (way : Way) (host : HostId) (at : MsgRef) → nat_lt (taken_count (ByHost host) history at) (most_takes plan) ≡ true → Suits plan opening history (event_by way host at)
way_suits plan opening history Serves host at few = (tt, few)
way_suits plan opening history Answers host at few = (tt, few)
way_suits plan opening history Cleans host at few = (tt, few)
way_suits plan opening history TakesChunk host at few = (tt, few)

-- a message that is taken in some way gives an input
pub way_input : (message : Message) (way : Way) → way_of message ≡ Some way → IsSome (input_in message)
way_input (WriteSent ask) way is = refl
way_input (ReadSent ask) way is = refl
way_input (ChunkAskSent ask) way is = refl
way_input (ChunkSent chunk) way is = refl
way_input (AskSent ask) way is = refl
way_input message way is = cc is

-- ---- what it gives the host

given_as : (history : History) (host : HostId) (at : MsgRef) (way other : Way) (input same : HostInput) → host_input history (event_by way host at) ≡ Some input → way ≡ other → input ≡ same → host_input history (event_by other host at) ≡ Some same
given_as history host at way other input same is named given =
    subst (λ (w : Way). host_input history (event_by w host at) ≡ Some same) named (is ∙ ap Some given)

ask_given : (history : History) (host : HostId) (at : MsgRef) (ask : Ask) (what : What) (way : Way) (input : HostInput) → message_at history at ≡ Some (AskSent ask) → asked_way what ≡ way → asked_input ask what ≡ input → host_input history (event_by way host at) ≡ Some input
ask_given history host at ask (CleanOf session) way input found is given =
    given_as history host at Cleans way (CleanInput ask) input (ap (λ (m : Option Message). option_map CleanInput (ask_in m)) found) is given
ask_given history host at ask what way input found is given =
    given_as history host at Answers way (AnswerInput ask) input (ap (λ (m : Option Message). option_map AnswerInput (ask_in m)) found) is given

some_same : {X : Type 0} (a b : X) → Some a ≡ Some b → a ≡ b
some_same a b e = cc e

pub way_gives : (history : History) (host : HostId) (at : MsgRef) (message : Message) (way : Way) (input : HostInput) → message_at history at ≡ Some message → way_of message ≡ Some way → input_in message ≡ Some input → host_input history (event_by way host at) ≡ Some input
way_gives history host at (WriteSent ask) way input found is given =
    given_as history host at Serves way (WriteInput ask) input (ap served_input found) (some_same Serves way is) (some_same (WriteInput ask) input given)
way_gives history host at (ReadSent ask) way input found is given =
    given_as history host at Serves way (ReadInput ask) input (ap served_input found) (some_same Serves way is) (some_same (ReadInput ask) input given)
way_gives history host at (ChunkAskSent ask) way input found is given =
    given_as history host at Serves way (SendChunk ask) input (ap served_input found) (some_same Serves way is) (some_same (SendChunk ask) input given)
way_gives history host at (ChunkSent chunk) way input found is given =
    given_as history host at TakesChunk way (ChunkInput chunk) input (ap (λ (m : Option Message). option_map ChunkInput (chunk_in m)) found) (some_same TakesChunk way is) (some_same (ChunkInput chunk) input given)
way_gives history host at (AskSent ask) way input found is given =
    ask_given history host at ask ask.what way input found (some_same (asked_way ask.what) way is) (some_same (asked_input ask ask.what) input given)
way_gives history host at message way input found is given = cc is

-- ---- when it breaks no rule

takes_it : (history : History) (host : HostId) (at : MsgRef) (kind : Message → Bool) (message : Message) → message_at history at ≡ Some message → is_for (ByHost host) kind message ≡ true → taking_rule history host kind at ≡ None
takes_it history host at kind message found mine =
    ap (message_rule (is_for (ByHost host) kind)) (message_sent (output_at history at) message found) ∙ ap (λ b. if b then None else Some WrongMessage) mine

enabled_as : (opening : Opening) (history : History) (host : HostId) (at : MsgRef) (way other : Way) → broken_rule opening history (event_by way host at) ≡ None → way ≡ other → broken_rule opening history (event_by other host at) ≡ None
enabled_as opening history host at way other is named = subst (λ (w : Way). broken_rule opening history (event_by w host at) ≡ None) named is

answer_enabled : (opening : Opening) (history : History) (host : HostId) (at : MsgRef) (ask : Ask) (input : HostInput) → message_at history at ≡ Some (AskSent ask) → is_clean ask.what ≡ false → same_actor (addressee (AskSent ask)) (ByHost host) ≡ true → AnswerInput ask ≡ input → host_rule (host_view opening history host) input ≡ None → broken_rule opening history (event_by Answers host at) ≡ None
answer_enabled opening history host at ask input found asks mine given may =
    let view = host_view opening history host in
    let mine_too : is_for (ByHost host) is_question (AskSent ask) ≡ true = and_true (not (is_clean ask.what)) (same_actor (addressee (AskSent ask)) (ByHost host)) (ap not asks) mine in
    let taken : taking_rule history host is_question at ≡ None = takes_it history host at is_question (AskSent ask) found mine_too in
    let so : asked_rule view (ask_in (message_at history at)) ≡ None = ap (λ (m : Option Message). asked_rule view (ask_in m)) found ∙ ap (host_rule view) given ∙ may in
    (host_rules opening history host).answer at
    ∙ ap (λ (r : Option EventRule). option_or r (asked_rule view (ask_in (message_at history at)))) taken
    ∙ so

ask_enabled : (opening : Opening) (history : History) (host : HostId) (at : MsgRef) (ask : Ask) (what : What) (way : Way) (input : HostInput) → ask.what ≡ what → message_at history at ≡ Some (AskSent ask) → asked_way what ≡ way → asked_input ask what ≡ input → same_actor (addressee (AskSent ask)) (ByHost host) ≡ true → host_rule (host_view opening history host) input ≡ None → broken_rule opening history (event_by way host at) ≡ None
ask_enabled opening history host at ask (CleanOf session) way input asked found is given mine may =
    enabled_as opening history host at Cleans way
    (takes_it history host at is_clean_ask (AskSent ask) found (and_true (is_clean ask.what) (same_actor (addressee (AskSent ask)) (ByHost host)) (ap is_clean asked) mine)) is
ask_enabled opening history host at ask what way input asked found is given mine may =
    enabled_as opening history host at Answers way (answer_enabled opening history host at ask input found (ap is_clean asked) mine given may) is

pub way_enabled : (opening : Opening) (history : History) (host : HostId) (at : MsgRef) (message : Message) (way : Way) (input : HostInput) → message_at history at ≡ Some message → way_of message ≡ Some way → input_in message ≡ Some input → same_actor (addressee message) (ByHost host) ≡ true → host_rule (host_view opening history host) input ≡ None → broken_rule opening history (event_by way host at) ≡ None
way_enabled opening history host at (WriteSent ask) way input found is given mine may =
    enabled_as opening history host at Serves way (takes_it history host at is_request (WriteSent ask) found mine) (some_same Serves way is)
way_enabled opening history host at (ReadSent ask) way input found is given mine may =
    enabled_as opening history host at Serves way (takes_it history host at is_request (ReadSent ask) found mine) (some_same Serves way is)
way_enabled opening history host at (ChunkAskSent ask) way input found is given mine may =
    enabled_as opening history host at Serves way (takes_it history host at is_request (ChunkAskSent ask) found mine) (some_same Serves way is)
way_enabled opening history host at (ChunkSent chunk) way input found is given mine may =
    enabled_as opening history host at TakesChunk way (takes_it history host at is_chunk (ChunkSent chunk) found mine) (some_same TakesChunk way is)
way_enabled opening history host at (AskSent ask) way input found is given mine may =
    ask_enabled opening history host at ask ask.what way input refl found (some_same (asked_way ask.what) way is) (some_same (asked_input ask ask.what) input given) mine may
way_enabled opening history host at message way input found is given mine may = cc is

-- ---- a rule that stands in its way

-- the message asks whether something is so that is not so on the host
pub record IsUntrue (host : HostView) (message : Message) : Type 0 where
  pub ask : Ask
  pub is : message ≡ AskSent ask
  pub untrue : holds_here host ask.what ≡ false

not_so : (b : Bool) (broken : EventRule) → (if b then None else Some NotTrue) ≡ Some broken → b ≡ false
not_so true broken e = cc e
not_so false broken e = refl

no_rule : (host : HostView) (message : Message) (broken : EventRule) (free input : HostInput) → host_rule host free ≡ None → free ≡ input → host_rule host input ≡ Some broken → IsUntrue host message
no_rule host message broken free input none given rule =
    let wrong : None ≡ Some broken = sym none ∙ ap (host_rule host) given ∙ rule in cc wrong

ask_untrue : (host : HostView) (ask : Ask) (what : What) (input : HostInput) (broken : EventRule) → asked_input ask what ≡ input → host_rule host input ≡ Some broken → IsUntrue host (AskSent ask)
ask_untrue host ask (CleanOf session) input broken given rule = no_rule host (AskSent ask) broken (CleanInput ask) input refl given rule
ask_untrue host ask what input broken given rule =
    record { ask = ask; is = refl; untrue = not_so (holds_here host ask.what) broken (ap (host_rule host) given ∙ rule) }

pub way_untrue : (host : HostView) (message : Message) (input : HostInput) (broken : EventRule) → input_in message ≡ Some input → host_rule host input ≡ Some broken → IsUntrue host message
way_untrue host (WriteSent ask) input broken given rule = no_rule host (WriteSent ask) broken (WriteInput ask) input refl (some_same (WriteInput ask) input given) rule
way_untrue host (ReadSent ask) input broken given rule = no_rule host (ReadSent ask) broken (ReadInput ask) input refl (some_same (ReadInput ask) input given) rule
way_untrue host (ChunkAskSent ask) input broken given rule = no_rule host (ChunkAskSent ask) broken (SendChunk ask) input refl (some_same (SendChunk ask) input given) rule
way_untrue host (ChunkSent chunk) input broken given rule = no_rule host (ChunkSent chunk) broken (ChunkInput chunk) input refl (some_same (ChunkInput chunk) input given) rule
way_untrue host (AskSent ask) input broken given rule = ask_untrue host ask ask.what input broken (some_same (asked_input ask ask.what) input given) rule
way_untrue host message input broken given rule = cc given
