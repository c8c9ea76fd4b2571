-- The transition of a session, as the coordinator finds it, is that of the session's move.
use Rattle.std.proofs.Common.{List, None, Option, Some, [], cond, eqb, false, is_some, not, refl, sym, true, ap, ◌∙◌, ◌∷◌, ◌≡◌, ℕ}
use Rattle.std.specs.List.{list_any, position}
use Rattle.std.specs.Option.{option_or}
use Rattle.std.specs.Prelude.{option_map}
use Rattle.std.proofs.lemmas.Bool.{eq-eqb, eqb-true}
use Rattle.std.proofs.lemmas.List.Quantifiers.{position-Some}
use Rattle.base_ids.specs.declared.ids.Session.{Session}
use Rattle.base_ids.specs.declared.ids.TableId.{TableId}
use Rattle.stage_graph.specs.declared.stage.Stage.{Stage}
use Rattle.stage_graph.specs.declared.stage.Stage.TheVariants.{Cleanup, CleanupTarget, Streaming}
use Rattle.tablet_map.specs.Tablets.{has_session, no_tablet, tablet_in}
use Rattle.tablet_map.specs.declared.tablet.Transition.{Transition}
use Rattle.tablet_map.proofs.Joined.{and_left, and_right, not_true}
use Rattle.topo_state.specs.Moves.{cleans, host_cleaned_at, is_streaming, move_at, move_by, move_in, move_of, streams}
use Rattle.topo_state.specs.Sessions.{SessionPlace, place_of_session, place_or_later}
use Rattle.topo_state.specs.State.{Topology}
use Rattle.topo_state.specs.Tables.{have_distinct_ids, has_id, table_in}
use Rattle.topo_state.specs.declared.data.Table.{Table}
use Rattle.topo_state.specs.declared.moves.Move.{Move}
use Rattle.log_law.proofs.PlaceLemmas.{found_place, has_by_id}
use Rattle.migrate_core.specs.Transitions.{cleaned_at, cleaned_host_in, streamed_at, streamed_host, transition_at, transition_in, transition_of}
use Rattle.log_law.proofs.MoveLemmas.{still_has_none}

abbrev pub moves_on : Move → Transition
moves_on move = move.transition

-- a tablet that moves under the session moves
here : (table : Table) (rest : List Table) (session : Session) (n : ℕ) → position (has_session session) table.map.list ≡ Some n → (o : Option Transition) → (tablet_in table.map.list n).transition ≡ o → o ≡ option_map moves_on (option_or (move_by table n o) (move_in rest session))
here table rest session n first None e =
    let has : has_session session (tablet_in table.map.list n) ≡ true = (position-Some (has_session session) table.map.list n no_tablet first).1 in
    let none : has_session session (tablet_in table.map.list n) ≡ false = still_has_none session (tablet_in table.map.list n).replicas (tablet_in table.map.list n).transition e in
    cc
here table rest session n first (Some transition) e = refl

-- a place in the other tables is not in this one
behind : (table : Table) (rest : List Table) (session : Session) → list_any (has_id table.id) rest ≡ false → have_distinct_ids rest ≡ true → (o : Option SessionPlace) → place_of_session rest session ≡ o → transition_at (table ∷ rest) o ≡ transition_at rest o
behind table rest session alone distinct None e = refl
behind table rest session alone distinct (Some place) e =
    let found = found_place rest session place distinct e in
    ap (λ o. transition_in o place.tablet)
    (elim (eqb place.table.0 table.id.0) as (λ v. eqb place.table.0 table.id.0 ≡ v → cond v (Some table) (table_in rest place.table) ≡ table_in rest place.table) [
      | true ↦ λ k.
          let same : place.table ≡ table.id = ap (λ (n : ℕ). let id : TableId = record { 0 = n } in id) (eqb-true place.table.0 table.id.0 k) in
          let has : list_any (has_id table.id) rest ≡ true = ap (λ (id : TableId). list_any (has_id id) rest) (sym same) ∙ has_by_id rest place.table found.table found.there in
          cc
      | false ↦ λ k. refl
    ] refl)

transitions_by : (table : Table) (rest : List Table) (session : Session) → list_any (has_id table.id) rest ≡ false → have_distinct_ids rest ≡ true → transition_at rest (place_of_session rest session) ≡ option_map moves_on (move_in rest session) → (o : Option ℕ) → position (has_session session) table.map.list ≡ o → transition_at (table ∷ rest) (place_or_later table.id o (place_of_session rest session)) ≡ option_map moves_on (option_or (move_at table o) (move_in rest session))
transitions_by table rest session alone distinct later (Some n) e =
    let named : eqb table.id.0 table.id.0 ≡ true = eq-eqb table.id.0 table.id.0 refl in
    rw named (here table rest session n e (tablet_in table.map.list n).transition refl)
transitions_by table rest session alone distinct later None e =
    behind table rest session alone distinct (place_of_session rest session) refl ∙ later

transitions : (tables : List Table) (session : Session) → have_distinct_ids tables ≡ true → transition_at tables (place_of_session tables session) ≡ option_map moves_on (move_in tables session)
transitions [] session distinct = refl
transitions (table ∷ rest) session distinct =
    let others : have_distinct_ids rest ≡ true = and_right (not (list_any (has_id table.id) rest)) (have_distinct_ids rest) distinct in
    transitions_by table rest session
    (not_true (list_any (has_id table.id) rest) (and_left (not (list_any (has_id table.id) rest)) (have_distinct_ids rest) distinct))
    others (transitions rest session others) (position (has_session session) table.map.list) refl

pub transition_moves : (state : Topology) (session : Session) → have_distinct_ids state.tables ≡ true → transition_of state session ≡ option_map moves_on (move_of state session)
transition_moves state session distinct = transitions state.tables session distinct

-- it streams where the move streams, and cleans where the move cleans

stage_streams : (stage : Stage) (t : Transition) → is_some (streamed_at stage t) ≡ is_streaming stage
stage_streams Streaming t = refl
stage_streams stage t = refl

stage_cleans : (stage : Stage) (t : Transition) → is_some (cleaned_at stage t) ≡ is_some (host_cleaned_at stage t)
stage_cleans Cleanup t = refl
stage_cleans CleanupTarget t = refl
stage_cleans stage t = refl

moves_stream : (move : Option Move) → is_some (streamed_host (option_map moves_on move)) ≡ streams move
moves_stream None = refl
moves_stream (Some move) = stage_streams move.transition.stage move.transition

moves_clean : (move : Option Move) → is_some (cleaned_host_in (option_map moves_on move)) ≡ cleans move
moves_clean None = refl
moves_clean (Some move) = stage_cleans move.transition.stage move.transition

pub session_streams : (state : Topology) (session : Session) → have_distinct_ids state.tables ≡ true → is_some (streamed_host (transition_of state session)) ≡ streams (move_of state session)
session_streams state session distinct =
    ap (λ t. is_some (streamed_host t)) (transition_moves state session distinct) ∙ moves_stream (move_of state session)

pub session_cleans : (state : Topology) (session : Session) → have_distinct_ids state.tables ≡ true → is_some (cleaned_host_in (transition_of state session)) ≡ cleans (move_of state session)
session_cleans state session distinct =
    ap (λ t. is_some (cleaned_host_in t)) (transition_moves state session distinct) ∙ moves_clean (move_of state session)
