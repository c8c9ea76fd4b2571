-- In a state of a legal log a session moves one tablet alone.
use Rattle.std.proofs.Common.{List, None, Option, Some, ap, arith, length, refl, sym, true, ℕ, ◌∙◌, ◌≡◌, ◌≤◌}
use Rattle.std.proofs.lemmas.List.Quantifiers.{position-Some}
use Rattle.base_ids.specs.declared.ids.Replica.{Replica}
use Rattle.base_ids.specs.declared.ids.Session.{Session}
use Rattle.base_ids.specs.declared.ids.TableId.{TableId}
use Rattle.tablet_map.specs.Tablets.{has_session, no_tablet, tablet_in}
use Rattle.tablet_map.specs.declared.tablet.Tablet.{Tablet}
use Rattle.tablet_map.specs.declared.tablet.Transition.{Transition}
use Rattle.topo_state.specs.Sessions.{SessionPlace, place_of_session}
use Rattle.topo_state.specs.State.{Topology}
use Rattle.topo_state.specs.Tables.{at_number, have_distinct_ids, table_in}
use Rattle.topo_state.specs.declared.command.Command.{Command}
use Rattle.topo_state.specs.declared.data.Table.{Table}
use Rattle.group0_log.specs.Log.{IsLegalLog, state_at}
use Rattle.log_law.proofs.LoggedRelocations.{IsStill, found_relocation}
use Rattle.log_law.proofs.OpeningLemmas.{opening_still}
use Rattle.log_law.proofs.PlaceLemmas.{found_place, none_found}
use Rattle.log_law.proofs.StartLemmas.{is_at, its_start}
use Rattle.log_law.proofs.StateLemmas.{topology_at}
use Rattle.log_law.specs.Relocations.{Relocation, relocation_of, shown_relocation}
use Rattle.topo_ties.specs.TopoTies.{SessionsAreFoundOnce}

has_shows : (session : Session) (log2 : ℕ) (replicas : List Replica) (o : Option Transition) → has_session session (record { replicas = replicas; transition = o }) ≡ true → (m : Relocation) × (relocation_of session.0 log2 (record { replicas = replicas; transition = o }) ≡ Some m)
has_shows session log2 replicas None h = cc h
has_shows session log2 replicas (Some t) h =
    (record { log2 = log2; replicas = replicas; leaving = t.leaving; pending = t.pending }, rw h refl)

-- a tablet that a session moves shows its relocation
moved : (tables : List Table) (session : Session) (id : TableId) (table : Table) (tablet : ℕ) → table_in tables id ≡ Some table → has_session session (tablet_in table.map.list tablet) ≡ true → (m : Relocation) × (shown_relocation session.0 tables id (at_number tablet) ≡ Some m)
moved tables session id table tablet there has =
    let x : Tablet = tablet_in table.map.list tablet in
    let shows = has_shows session table.map.log2 x.replicas x.transition has in
    (shows.0, ap (found_relocation session.0 (at_number tablet)) there ∙ shows.1)

-- the place that is found is that of the relocation
same_place : (first : Topology) → IsStill first → (log : List Command) → IsLegalLog first log → (count : ℕ) → count ≤ length log → have_distinct_ids (state_at first log count).tables ≡ true → (session : Session) (id : TableId) (tablet : ℕ) (m : Relocation) → shown_relocation session.0 (state_at first log count).tables id (at_number tablet) ≡ Some m → (found : Option SessionPlace) → place_of_session (state_at first log count).tables session ≡ found → found ≡ Some (record { table = id; tablet = tablet })
same_place first still log legal count within distinct session id tablet m shown None e =
    let none = none_found session (state_at first log count).tables id (at_number tablet) e in cc
same_place first still log legal count within distinct session id tablet m shown (Some p) e =
    let s : Topology = state_at first log count in
    let f = found_place s.tables session p distinct e in
    let has = (position-Some (has_session session) f.table.map.list p.tablet no_tablet f.first).1 in
    let found = moved s.tables session p.table f.table p.tablet f.there has in
    let one = its_start first still log legal count within session.0 id (at_number tablet) m shown in
    let from : session.0 ≤ count = one.numbered.1 in
    let alone = one.places count from (omega arith) in
    let here = is_at id one.table tablet one.tablet.0 one.move m (sym (alone id (at_number tablet)) ∙ shown) in
    let there = is_at p.table one.table p.tablet one.tablet.0 one.move found.0 (sym (alone p.table (at_number p.tablet)) ∙ found.1) in
    let table : p.table ≡ id = there.0 ∙ sym here.0 in
    let number : p.tablet ≡ tablet = there.1 ∙ sym here.1 in
    λ i. Some (record { table = table i; tablet = number i })

pub sessions_are_found_once : SessionsAreFoundOnce
sessions_are_found_once first opening log legal count within session id table tablet there inside has =
    let m = moved (state_at first log count).tables session id table tablet there has in
    same_place first (opening_still first opening) log legal count within (topology_at first opening.sound log legal count).distinct session id tablet m.0 m.1 (place_of_session (state_at first log count).tables session) refl
