-- What a coordinator sends.
use Rattle.std.proofs.Common.{ap, arith, refl, subst, sym, ◌∙◌, length-append}
use Rattle.std.specs.Prelude.{Err, List, Ok, Result, Some, [], length, ℕ, ◌+◌, ◌≡◌, ◌≤◌}
use Rattle.base_ids.specs.declared.ids.Actor.{Actor}
use Rattle.base_ids.specs.declared.ids.Actor.TheVariants.{Topo as ByTopo}
use Rattle.base_ids.specs.declared.ids.HostId.{HostId}
use Rattle.base_ids.specs.declared.ids.MsgRef.{MsgRef}
use Rattle.base_ids.specs.declared.rules.Appended.{Appended}
use Rattle.barrier_core.specs.declared.data.What.{What}
use Rattle.topo_state.specs.declared.command.Command.{Command}
use Rattle.topo_state.specs.declared.command.Rule.{Rule}
use Rattle.cluster_history.specs.History.{History, actor_of}
use Rattle.cluster_history.specs.declared.data.Entry.{Entry}
use Rattle.cluster_history.specs.declared.data.Event.{Event}
use Rattle.cluster_history.specs.declared.data.Event.TheVariants.{Ask, Hear}
use Rattle.cluster_history.specs.declared.data.Message.{Message}
use Rattle.cluster_history.specs.declared.data.Message.TheVariants.{Fact as FactSent, NotMine}
use Rattle.cluster_history.specs.declared.data.Opening.{Opening}
use Rattle.cluster_history.specs.declared.data.Output.{Output}
use Rattle.topo_coord.specs.Topo.{TopoView, topo_out}
use Rattle.topo_coord.specs.declared.data.TopoInput.{TopoInput}
use Rattle.topo_coord.specs.declared.data.TopoInput.TheVariants.{Ask as AskInput, Hear as HearInput, HearNotMine}
use Rattle.topo_ties.specs.TopoTies.{heard_input}
use Rattle.plan_facts.specs.Posts.{Post, sent_by, with_sent}
use Rattle.plan_facts.proofs.PostLemmas.{sent-other}
use Rattle.engine_desk.specs.Chairs.{HasCommitted, HasTurned, IsLater, Known, look_entry, propose_entry}
use Rattle.engine_desk.specs.Desks.{DeskLooked, DeskView, HasSent, IsDeskProposal}
use Rattle.engine_desk.specs.declared.chair.Refused.{Refused}
use Rattle.engine_desk.proofs.LaterLemmas.{since}
use Rattle.engine_desk.proofs.TurnLemmas.{committed_sent}
use Rattle.engine_players.specs.Coordinators.{IsTopo}
use Rattle.engine_topos.specs.Turns.{IsTopoPlayed, SentStays, ask_of, ask_outputs, plain_outputs, topo_entry}
use Rattle.engine_topos.proofs.TurnLemmas.{later_of}

longer_later : (opening : Opening) (actor : Actor) (old new : History) → IsLater opening actor old new → length old ≤ length new
longer_later opening actor old new later =
    let is = ap length later.is ∙ length-append later.between old in omega (arith, is)

pub sent_turned : (old new : Known) (topo : HostId) → old.actor ≡ ByTopo topo → HasTurned old new → SentStays old topo new
sent_turned old new topo is t =
    let later = later_of old topo t.now is t.later in
    let more = longer_later old.opening (ByTopo topo) old.seen t.now later in
    let same = ap (λ (k : Known). length k.seen) t.is in
    record {
      sent = ap (λ (k : Known). sent_by (ByTopo topo) k.seen) t.is ∙ since old.opening (ByTopo topo) (sent_by (ByTopo topo)) (λ history entry legal other. sent-other (ByTopo topo) history entry other) old.seen t.now later;
      longer = omega (arith, more, same);
    }

pub sent_same : (old new : Known) (topo : HostId) → new ≡ old → SentStays old topo new
sent_same old new topo is =
    let same = ap (λ (k : Known). length k.seen) is in
    record { sent = ap (λ (k : Known). sent_by (ByTopo topo) k.seen) is; longer = omega (arith, same) }

pub sent_on : (a b c : Known) (topo : HostId) → SentStays a topo b → SentStays b topo c → SentStays a topo c
sent_on a b c topo first second =
    let one = first.longer in
    let two = second.longer in
    record { sent = second.sent ∙ first.sent; longer = omega (arith, one, two) }

-- an entry that sends nothing
pub sent_quiet : (old new : Known) (topo : HostId) (entry : Entry) (number : ℕ) → old.actor ≡ ByTopo topo → actor_of entry.event ≡ ByTopo topo → HasCommitted old entry number new → ((posts : List Post) → with_sent (ByTopo topo) number 0 entry.outputs posts ≡ posts) → SentStays old topo new
sent_quiet old new topo entry number is author c quiet =
    let has = committed_sent old new entry number (author ∙ sym is) c in
    let same : length new.seen ≡ length c.now + 1 = ap (λ (k : Known). length k.seen) c.is ∙ omega arith in
    let at = c.number_is in
    let above = has.above in
    record {
      sent =
          ap (λ (a : Actor). sent_by a new.seen) (sym is)
          ∙ has.sent
          ∙ (λ i. with_sent (is i) number 0 entry.outputs (sent_by (is i) old.seen))
          ∙ quiet (sent_by (ByTopo topo) old.seen);
      longer = omega (arith, same, at, above);
    }

heard_none : (topo : TopoView) (message : Message) (input : TopoInput) → heard_input (Some message) ≡ Some input → plain_outputs (topo_out topo input) ≡ []
heard_none topo (FactSent fact) input e = let is : HearInput fact ≡ input = cc e in ap (λ (i : TopoInput). plain_outputs (topo_out topo i)) (sym is)
heard_none topo (NotMine from to session) input e = let is : HearNotMine ≡ input = cc e in ap (λ (i : TopoInput). plain_outputs (topo_out topo i)) (sym is)
heard_none topo message input e = cc e

pub sent_heard : (desk after : DeskView) (topo played : TopoView) (at : MsgRef) (message : Message) (input : TopoInput) (result : Result ℕ Refused) → IsTopo desk.known topo → heard_input (Some message) ≡ Some input → IsTopoPlayed desk topo (Hear topo.host at) input result after played → SentStays desk.known topo.host after.known
sent_heard desk after topo played at message input (Ok number) is gives p =
    sent_quiet desk.known after.known topo.host (topo_entry topo (Hear topo.host at) input) number is.actor refl p.0.committed
    (λ posts. ap (λ (o : List Output). with_sent (ByTopo topo.host) number 0 o posts) (heard_none topo message input gives))
sent_heard desk after topo played at message input (Err refused) is gives p = sent_turned desk.known after.known topo.host is.actor p.turned

pub sent_looked : (desk after : DeskView) (topo : HostId) (commands : ℕ) → desk.known.actor ≡ ByTopo topo → DeskLooked desk topo commands after → SentStays desk.known topo after.known
sent_looked desk after topo commands is l =
    sent_quiet desk.known after.known topo (look_entry topo) l.0 is refl l.1.committed (λ posts. refl)

pub sent_proposed : (desk after : DeskView) (topo : HostId) (command : Command) (result : Result (Appended Rule) Refused) → desk.known.actor ≡ ByTopo topo → IsDeskProposal desk topo command result after → SentStays desk.known topo after.known
sent_proposed desk after topo command (Ok outcome) is c =
    sent_quiet desk.known after.known topo (propose_entry topo command outcome) c.0 is refl c.1.committed (λ posts. refl)
sent_proposed desk after topo command (Err refused) is c = sent_turned desk.known after.known topo is c.turned

-- an ask
pub sent_ask : (desk after : DeskView) (topo played : TopoView) (to : HostId) (what : What) (number : ℕ) → IsTopo desk.known topo → IsTopoPlayed desk topo (Ask topo.host to what) (AskInput to what) (Ok number) after played → HasSent desk.known number (ask_outputs topo.host (ask_of to what)) after.known
sent_ask desk after topo played to what number is p =
    committed_sent desk.known after.known (topo_entry topo (Ask topo.host to what) (AskInput to what)) number (sym is.actor) p.0.committed

pub unsent_played : (desk after : DeskView) (topo played : TopoView) (event : Event) (input : TopoInput) (refused : Refused) → IsTopo desk.known topo → IsTopoPlayed desk topo event input (Err refused) after played → SentStays desk.known topo.host after.known
unsent_played desk after topo played event input refused is p = sent_turned desk.known after.known topo.host is.actor p.turned

-- what was sent then was sent since, where nothing was sent before or after
pub sent_before : (a b c : Known) (topo : HostId) (number : ℕ) (outputs : List Output) → a.actor ≡ ByTopo topo → b.actor ≡ ByTopo topo → SentStays a topo b → HasSent b number outputs c → HasSent a number outputs c
sent_before a b c topo number outputs first second stays has =
    let more = stays.longer in
    let above = has.above in
    let is : sent_by (ByTopo topo) c.seen ≡ with_sent (ByTopo topo) number 0 outputs (sent_by (ByTopo topo) b.seen) =
    subst (λ (x : Actor). sent_by x c.seen ≡ with_sent x number 0 outputs (sent_by x b.seen)) second has.sent in
    record {
      sent = subst (λ (x : Actor). sent_by x c.seen ≡ with_sent x number 0 outputs (sent_by x a.seen)) (sym first) (is ∙ ap (with_sent (ByTopo topo) number 0 outputs) stays.sent);
      above = omega (arith, more, above);
    }

pub sent_after : (a b c : Known) (topo : HostId) (number : ℕ) (outputs : List Output) → a.actor ≡ ByTopo topo → HasSent a number outputs b → SentStays b topo c → HasSent a number outputs c
sent_after a b c topo number outputs is has stays =
    record {
      sent = ap (λ (x : Actor). sent_by x c.seen) is ∙ stays.sent ∙ ap (λ (x : Actor). sent_by x b.seen) (sym is) ∙ has.sent;
      above = has.above;
    }
