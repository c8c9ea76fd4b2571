-- A message is taken by one event.
use Rattle.std.proofs.Common.{ap, refl, sym, ◌∙◌}
use Rattle.std.specs.Prelude.{Bool, None, Option, Some, false, true, ◌≡◌}
use Rattle.barrier_core.specs.declared.data.Ask.{Ask}
use Rattle.barrier_core.specs.declared.data.What.{What}
use Rattle.barrier_core.specs.declared.data.What.TheVariants.{Clean as CleanOf, Done, Drain, Fence as FenceAt, Ready}
use Rattle.base_ids.specs.declared.ids.Actor.{Actor}
use Rattle.base_ids.specs.declared.ids.MsgRef.{MsgRef}
use Rattle.cluster_history.specs.Held.{has_done}
use Rattle.cluster_history.specs.History.{History, message_at, output_at}
use Rattle.cluster_history.specs.Legal.{broken_rule}
use Rattle.cluster_history.specs.Messages.{addressee, is_for}
use Rattle.cluster_history.specs.Rules.{is_so, message_rule}
use Rattle.cluster_history.specs.Topology.{applied_state, floor_of}
use Rattle.cluster_history.specs.declared.data.Message.{Message}
use Rattle.cluster_history.specs.declared.data.Message.TheVariants.{Answer as AnswerSent, Ask as AskSent, Chunk as ChunkSent, ChunkAsk as ChunkAskSent, Fact as FactSent, NotMine, Read as ReadSent, Write as WriteSent}
use Rattle.cluster_history.specs.declared.data.Opening.{Opening}
use Rattle.cluster_history.specs.declared.data.Output.{Output}
use Rattle.cluster_history.specs.declared.data.Output.TheVariants.{Sent}
use Rattle.history_facts.proofs.LegalLemmas.{message_sent}
use Rattle.base_ids.proofs.NameLemmas.{same_host-refl, same_lane-refl}
use Rattle.input_ties.specs.Takings.{MessagesAreTaken, answering, so_rule, take_rule, taking}

asked : (opening : Opening) (history : History) (at : MsgRef) (ask : Ask) → output_at history at ≡ Some (Sent (AskSent ask)) → (what : What) → ask.what ≡ what → broken_rule opening history (answering ask.to what at) ≡ so_rule (is_so (floor_of history ask.to) (applied_state opening history ask.to) (has_done opening history ask.to)) what
asked opening history at ask there (Drain version) is = rw (there, is, same_host-refl ask.to) refl
asked opening history at ask there (FenceAt version) is = rw (there, is, same_host-refl ask.to) refl
asked opening history at ask there (Done session) is = rw (there, is, same_host-refl ask.to) refl
asked opening history at ask there (CleanOf session) is = rw (there, is, same_host-refl ask.to) refl
asked opening history at ask there (Ready number) is = rw (there, is, same_host-refl ask.to) refl

pub messages_are_taken : MessagesAreTaken
messages_are_taken opening history at message sent = by_kind message (message_sent (output_at history at) message sent)
  where
    by_kind : (m : Message) → output_at history at ≡ Some (Sent m) → broken_rule opening history (taking m at) ≡ take_rule opening history m
    by_kind (WriteSent ask) there = rw (there, same_host-refl ask.to.host) refl
    by_kind (ReadSent ask) there = rw (there, same_host-refl ask.to.host) refl
    by_kind (AnswerSent answer) there = rw (there, same_lane-refl answer.lane) refl
    by_kind (ChunkAskSent ask) there = rw (there, same_host-refl ask.to) refl
    by_kind (ChunkSent chunk) there = rw (there, same_host-refl chunk.to) refl
    by_kind (AskSent ask) there = asked opening history at ask there ask.what refl
    by_kind (FactSent fact) there = rw (there, same_host-refl fact.to) refl
    by_kind (NotMine from to session) there = rw (there, same_host-refl to) refl
