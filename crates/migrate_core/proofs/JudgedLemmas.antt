-- A planned advance breaks no rule of its state.
use Rattle.std.proofs.Common.{◌≡◌, ◌∙◌, ◌<◌, ℕ, zero, suc, Bool, true, false, cond, ◌&&◌, ◌||◌, not, List, [], ◌∷◌, length, get_or, position, Option, Some, None, is_some, refl, sym, ap, subst, arith}
use Rattle.std.proofs.lemmas.Bool.Decides.{nat_tests}
use Rattle.std.proofs.lemmas.List.{get_or_default}
use Rattle.std.proofs.lemmas.List.Sums.{list_all-from_AllPass}
use Rattle.std.proofs.lemmas.List.Folds.{list_any_at, list_any_none}
use Rattle.std.proofs.lemmas.List.Quantifiers.{position-Some}
use Rattle.tablet_map.proofs.Places.{none_passes}
use Rattle.std.specs.List.{list_any}
use Rattle.base_ids.specs.Names.{same_table, same_session}
use Rattle.base_ids.specs.declared.ids.Session.{Session}
use Rattle.base_ids.specs.declared.ids.TableId.{TableId}
use Rattle.barrier_core.specs.declared.data.Told.{Told}
use Rattle.stage_graph.specs.declared.stage.Stage.{Stage}
use Rattle.stage_graph.specs.Table.{next_ok}
use Rattle.tablet_map.specs.declared.tablet.Tablet.{Tablet}
use Rattle.tablet_map.specs.declared.tablet.Transition.{Transition}
use Rattle.tablet_map.specs.Tablets.{tablet_in, has_session, no_tablet}
use Rattle.tablet_map.proofs.Joined.{and_left, and_right, or_left, or_right, not_true}
use Rattle.topo_state.specs.declared.command.Command.{Command}
use Rattle.topo_state.specs.declared.command.Command.TheVariants.{Advance}
use Rattle.topo_state.specs.declared.data.Table.{Table}
use Rattle.topo_state.specs.State.{Topology}
use Rattle.topo_state.specs.Sound.{IsTopology}
use Rattle.topo_state.specs.Sessions.{SessionPlace, place_of_session, place_or_later}
use Rattle.topo_state.specs.Tables.{table_in, has_id, have_distinct_ids, any_tablet, every_tablet}
use Rattle.topo_state.specs.Rules.{rule, may_go}
use Rattle.migrate_core.specs.declared.next.Next.TheVariants.{Propose}
use Rattle.migrate_core.specs.Laws.{IsFoundOnce}
use Rattle.migrate_core.specs.Plan.{plan_next}
use Rattle.migrate_core.specs.Transitions.{transition_of, transition_at, transition_in, target}
use Rattle.migrate_core.proofs.PlanLemmas.{IsPlanned, planned, target_ok}

-- ---- a tablet has the session where a place is found

any_position : (test : Tablet → Bool) (xs : List Tablet) → list_any test xs ≡ is_some (position test xs)
any_position test xs = by (position test xs) refl
  where
    by : (at : Option ℕ) → position test xs ≡ at → list_any test xs ≡ is_some at
    by None e = list_any_none test xs (λ k d below. none_passes test xs d e k below)
    by (Some at) e =
        let facts = position-Some test xs at no_tablet e in
        list_any_at test xs at no_tablet facts.0 facts.1

any_place : (tables : List Table) (session : Session) → any_tablet (has_session session) tables ≡ is_some (place_of_session tables session)
any_place [] session = refl
any_place (table ∷ rest) session =
    ap (λ b. b || any_tablet (has_session session) rest) (any_position (has_session session) table.map.list) ∙ ap (λ b. is_some (position (has_session session) table.map.list) || b) (any_place rest session) ∙ by (position (has_session session) table.map.list)
  where
    by : (at : Option ℕ) → (is_some at || is_some (place_of_session rest session)) ≡ is_some (place_or_later table.id at (place_of_session rest session))
    by None = refl
    by (Some at) = refl

moves_somewhere : (state : Topology) (session : Session) (t : Transition) → transition_of state session ≡ Some t → any_tablet (has_session session) state.tables ≡ true
moves_somewhere state session t found =
    any_place state.tables session ∙ by (place_of_session state.tables session) found
  where
    by : (place : Option SessionPlace) → transition_at state.tables place ≡ Some t → is_some place ≡ true
    by None e = cc
    by (Some place) e = refl

-- ---- each table is found by its number

same_itself : (id : TableId) → same_table id id ≡ true
same_itself id = grind (arith, nat_tests)

found_itself : (tables : List Table) (k : ℕ) (d : Table) → have_distinct_ids tables ≡ true → k < length tables → table_in tables (get_or tables k d).id ≡ Some (get_or tables k d)
found_itself [] k d distinct below = absurd (omega arith)
found_itself (table ∷ rest) zero d distinct below =
    ap (λ b. cond b (Some table) (table_in rest table.id)) (same_itself table.id)
found_itself (table ∷ rest) (suc k) d distinct below =
    let alone : list_any (has_id table.id) rest ≡ false = not_true (list_any (has_id table.id) rest) (and_left (not (list_any (has_id table.id) rest)) (have_distinct_ids rest) distinct) in
    let others : have_distinct_ids rest ≡ true = and_right (not (list_any (has_id table.id) rest)) (have_distinct_ids rest) distinct in
    let other : same_table (get_or rest k d).id table.id ≡ false = apart rest k alone (omega arith) in
    ap (λ b. cond b (Some table) (table_in rest (get_or rest k d).id)) other ∙ found_itself rest k d others (omega arith)
  where
    apart : (ts : List Table) (j : ℕ) → list_any (has_id table.id) ts ≡ false → j < length ts → same_table (get_or ts j d).id table.id ≡ false
    apart [] j none lt = absurd (omega arith)
    apart (t ∷ ts) zero none lt =
        let first : same_table table.id t.id ≡ false = or_left (same_table table.id t.id) (list_any (has_id table.id) ts) none in grind (arith, nat_tests)
    apart (t ∷ ts) (suc j) none lt = apart ts j (or_right (same_table table.id t.id) (list_any (has_id table.id) ts) none) (omega arith)

-- ---- each tablet may go where the plan goes

or_true : (b : Bool) → (b || true) ≡ true
or_true true = refl
or_true false = refl

-- one without the session
others_may : (session : Session) (to : Option Stage) (tablet : Tablet) → has_session session tablet ≡ false → may_go session to tablet ≡ true
others_may session to tablet other = by tablet.transition other
  where
    by : (t : Option Transition) → elim t [ None ↦ false | Some u ↦ same_session u.session session ] ≡ false → elim t [ None ↦ true | Some u ↦ not (same_session u.session session) || next_ok u.stage to ] ≡ true
    by None e = refl
    by (Some u) e = ap (λ b. not b || next_ok u.stage to) e

-- the one with the session
this_may : (session : Session) (back : Bool) (tablet : Tablet) (t : Transition) → tablet.transition ≡ Some t → may_go session (target t.stage back) tablet ≡ true
this_may session back tablet t is =
    ap (λ (o : Option Transition). elim o [ None ↦ true | Some u ↦ not (same_session u.session session) || next_ok u.stage (target t.stage back) ]) is ∙ ap (λ b. not (same_session t.session session) || b) (target_ok t.stage back) ∙ or_true (not (same_session t.session session))

tablet_may : (state : Topology) (session : Session) (back : Bool) (t : Transition) → IsFoundOnce state session → transition_of state session ≡ Some t → (id : TableId) (table : Table) (at : ℕ) → table_in state.tables id ≡ Some table → at < length table.map.list → may_go session (target t.stage back) (tablet_in table.map.list at) ≡ true
tablet_may state session back t once found id table at here below = by (has_session session (tablet_in table.map.list at)) refl
  where
    by : (b : Bool) → has_session session (tablet_in table.map.list at) ≡ b → may_go session (target t.stage back) (tablet_in table.map.list at) ≡ true
    by false e = others_may session (target t.stage back) (tablet_in table.map.list at) e
    by true e =
        let placed = once id table at here below e in
        let is : (tablet_in table.map.list at).transition ≡ Some t = sym (ap (transition_at state.tables) placed ∙ ap (λ o. transition_in o at) here) ∙ found in
        this_may session back (tablet_in table.map.list at) t is

all_may : (state : Topology) (session : Session) (back : Bool) (t : Transition) → IsTopology state → IsFoundOnce state session → transition_of state session ≡ Some t → every_tablet (may_go session (target t.stage back)) state.tables ≡ true
all_may state session back t sound once found =
    list_all-from_AllPass _ state.tables (λ k d below.
    let table : Table = get_or state.tables k d in
    list_all-from_AllPass (may_go session (target t.stage back)) table.map.list (λ j e lt.
    ap (may_go session (target t.stage back)) (get_or_default table.map.list j e no_tablet lt) ∙ tablet_may state session back t once found table.id table j (found_itself state.tables k d sound.distinct below) lt))

pub planned_is_judged : (state : Topology) (facts : List Told) (session : Session) (back : Bool) (command : Command) → IsTopology state → IsFoundOnce state session → plan_next state facts session back ≡ Propose command → rule state command ≡ None
planned_is_judged state facts session back command sound once plan =
    let p = planned state facts session back command plan in
    ap (rule state) p.command_is ∙ rw (moves_somewhere state session p.transition p.found, all_may state session back p.transition sound once p.found) refl
