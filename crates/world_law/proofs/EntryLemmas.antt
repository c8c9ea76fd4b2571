-- What the book sees of an enabled entry is what its event says.
use Rattle.std.proofs.Common.{ap, arith, refl, sym, ◌∙◌}
use Rattle.std.proofs.lemmas.Bool.Decides.{nat_tests}
use Rattle.std.specs.Prelude.{Bool, List, None, Option, Some, [], false, if◌then◌else◌, length, nat_lt, true, ℕ, ◌&&◌, ◌==◌, ◌∷◌, ◌≡◌, ◌≤◌}
use Rattle.base_ids.specs.Names.{same_host}
use Rattle.base_ids.specs.declared.ids.Actor.TheVariants.{Host as ByHost}
use Rattle.base_ids.specs.declared.ids.LaneId.{LaneId}
use Rattle.base_ids.specs.declared.ids.Version.{Version}
use Rattle.base_ids.specs.declared.rules.Appended.TheVariants.{Accepted, Conflict, Illegal}
use Rattle.book_rule.specs.World.{IsBelow, IsLegal, added}
use Rattle.book_rule.specs.World.Kind.{plain}
use Rattle.cluster_history.specs.History.{History, actor_of}
use Rattle.cluster_history.specs.Legal.{IsLegalHistory, IsNext, entry_of}
use Rattle.cluster_history.specs.Stays.{hinders, is_proposal}
use Rattle.cluster_history.specs.Topology.{accepted_command, with_command}
use Rattle.cluster_history.specs.declared.data.Entry.{Entry}
use Rattle.cluster_history.specs.declared.data.Event.{Event}
use Rattle.cluster_history.specs.declared.data.Event.TheVariants.{Begin, Propose, Quiet}
use Rattle.cluster_history.specs.declared.data.Opening.{Opening}
use Rattle.cluster_history.specs.declared.data.Operation.{Operation}
use Rattle.cluster_history.specs.declared.data.Output.{Output}
use Rattle.cluster_history.specs.declared.data.Output.TheVariants.{Proposed}
use Rattle.history_facts.proofs.LegalLemmas.{as_event}
use Rattle.base_ids.proofs.NameLemmas.{same_host-same}
use Rattle.topo_state.specs.declared.command.Command.{Command}
use Rattle.world_law.specs.Worlds.{kind_by, kind_of_entry, run_meaning}

pub legal_of : (opening : Opening) (history : History) → IsLegal run_meaning opening history → IsLegalHistory opening history
legal_of opening [] enabled = tt
legal_of opening (entry ∷ history) enabled = (enabled.0, legal_of opening history enabled.1)

-- ---- what an enabled entry is, its event is

-- the event begins a request or promises
abbrev pub uses_versions : Event → Bool
uses_versions (Begin lane operation version) = true
uses_versions (Quiet host version) = true
uses_versions event = false

pub never_hindered : (other event : Event) → uses_versions event ≡ false → hinders other event ≡ false
never_hindered (Quiet host raised) (Begin lane operation version) e = cc e
never_hindered (Quiet host raised) event e = refl
never_hindered (Begin lane operation version) (Quiet host raised) e = cc e
never_hindered (Begin lane operation version) event e = refl
never_hindered other event e = refl

pub record IsPlainEvent (event : Event) : Type 0 where
  pub unused : uses_versions event ≡ false
  pub other : is_proposal event ≡ false

plain_by : (opening : Opening) (history : History) (event : Event) → kind_of_entry (entry_of opening history event) ≡ plain → IsPlainEvent event
plain_by opening history (Begin lane operation version) is = cc is
plain_by opening history (Quiet host version) is = cc is
plain_by opening history (Propose topo command) is = cc is
plain_by opening history event is = record { unused = refl; other = refl }

pub plain_event : (opening : Opening) (history : History) (entry : Entry) → IsNext opening history entry → kind_of_entry entry ≡ plain → IsPlainEvent entry.event
plain_event opening history entry next is =
    plain_by opening history entry.event (ap (λ (e : Entry). kind_of_entry e) (sym (as_event opening history entry next)) ∙ is)

-- an enabled promise that is not above a begin's version does not hinder it
pub begin_free : (opening : Opening) (history : History) (event : Event) (lane : LaneId) (operation : Operation) (version : Version) → (actor_of event ≡ ByHost lane.host → IsBelow (kind_of_entry (entry_of opening history event)) version) → hinders event (Begin lane operation version) ≡ false
begin_free opening history (Quiet host raised) lane operation version below =
    (elim (same_host host lane.host) as (λ b. same_host host lane.host ≡ b → (b && nat_lt version.0 raised.0) ≡ false) [
      | true ↦ λ is. let most : raised.0 ≤ version.0 = below (ap ByHost (same_host-same host lane.host is)) in grind (arith, nat_tests)
      | false ↦ λ is. refl
    ]) refl
begin_free opening history event lane operation version below = refl

-- ---- logs

pub log_alike : (event : Event) (outputs : List Output) (log : List Command) → with_command (accepted_command event outputs) log ≡ added (kind_by event outputs) log
log_alike (Propose topo command) (Proposed (Accepted index) ∷ outputs) log = refl
log_alike (Propose topo command) (Proposed (Conflict last) ∷ outputs) log = refl
log_alike (Propose topo command) (Proposed (Illegal rule) ∷ outputs) log = refl
log_alike (Quiet host version) [] log = refl
log_alike event outputs log = refl
