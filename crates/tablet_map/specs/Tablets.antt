-- A tablet map as a list of tablets.
use Rattle.std.specs.Prelude.{◌≡◌, ◌≤◌, ◌^◌, ◌==◌, ℕ, Bool, true, false, List, [], length, Some, None, IfSome, slice_index_or}
use Rattle.std.specs.List.{All}
use Rattle.base_ids.specs.declared.ids.Session.{Session}
use Rattle.tablet_map.specs.declared.tablet.Tablet.{Tablet}
use Rattle.tablet_map.specs.Replicas.{IsReplicaSet, CanMove}

-- the tablets of a table, 2^log2 of them
pub record Tablets : Type 0 where
  pub log2 : ℕ
  pub list : List Tablet

-- a tablet's list is a set of replicas, and a transition moves one of them
pub record IsSound (tablet : Tablet) : Type 0 where
  pub replicas : IsReplicaSet tablet.replicas
  pub moves : IfSome tablet.transition (λ transition. CanMove tablet.replicas transition.leaving transition.pending)

-- what each tablet map is
pub record IsMap (log2 : ℕ) (list : List Tablet) : Type 0 where
  pub few : log2 ≤ 10
  pub count : length list ≡ 2 ^ log2
  pub sound : All IsSound list

-- the tablet of a number; the empty one where there is none
abbrev pub no_tablet : Tablet
no_tablet = record { replicas = []; transition = None }

abbrev pub tablet_in : List Tablet → ℕ → Tablet
tablet_in list tablet = slice_index_or list tablet no_tablet

-- a tablet is in transition
abbrev pub is_moving : Tablet → Bool
is_moving tablet = elim tablet.transition [ None ↦ false | Some transition ↦ true ]

-- a tablet's transition has a session
abbrev pub has_session : Session → Tablet → Bool
has_session session tablet =
    elim tablet.transition [ None ↦ false | Some transition ↦ transition.session.0 == session.0 ]
