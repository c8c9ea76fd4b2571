-- What the calls leave.
use Rattle.std.specs.Prelude.{◌≡◌, ◌+◌, ◌-◌, ◌*◌, ◌^◌, ℕ, Bool, not, List, [], ◌∷◌, map, Option, Some, None, option_map, replicate, Result, Ok, Err, slice_set, position}
use Rattle.std.specs.List.{flat_map}
use Rattle.base_ids.specs.declared.ids.Replica.{Replica}
use Rattle.base_ids.specs.declared.ids.Session.{Session}
use Rattle.stage_graph.specs.declared.stage.Stage.{Stage}
use Rattle.stage_graph.specs.declared.stage.Stage.TheVariants.{AllowWriteBothReadOld}
use Rattle.tablet_map.specs.declared.tablet.Transition.{Transition}
use Rattle.tablet_map.specs.declared.tablet.Tablet.{Tablet}
use Rattle.tablet_map.specs.declared.errors.SplitError.{SplitError}
use Rattle.tablet_map.specs.declared.errors.SplitError.TheVariants.{Moving as SplitMoving, NoMemory}
use Rattle.tablet_map.specs.declared.errors.MergeError.{MergeError}
use Rattle.tablet_map.specs.declared.errors.MergeError.TheVariants.{Moving as MergeMoving, NotColocated}
use Rattle.tablet_map.specs.Replicas.{replaced_list, same_set}
use Rattle.tablet_map.specs.Tablets.{Tablets, is_moving}

-- a tablet with these replicas that does not move
abbrev pub at_rest : List Replica → Tablet
at_rest replicas = record { replicas = replicas; transition = None }

-- a new map
abbrev pub new_tablets : ℕ → List Replica → Tablets
new_tablets log2 replicas = record { log2 = log2; list = replicate (2 ^ log2) (at_rest replicas) }

-- the map with another tablet in one place
abbrev pub with_tablet : Tablets → ℕ → Tablet → Tablets
with_tablet tablets at tablet = record tablets { list = slice_set tablets.list at tablet }

-- what a start, a stage, a finish and a revert make of a tablet
abbrev pub started_tablet : Tablet → Replica → Replica → Session → Tablet
started_tablet tablet leaving pending session =
    record tablet {
      transition = Some (record {
        stage = AllowWriteBothReadOld;
        leaving = leaving;
        pending = pending;
        session = session;
      });
    }

abbrev pub staged_tablet : Tablet → Stage → Tablet
staged_tablet tablet stage = record tablet {
  transition = option_map (λ (t : Transition).
      record t { stage = stage }) tablet.transition;
}

abbrev pub finished_tablet : Tablet → Tablet
finished_tablet tablet =
    elim tablet.transition [ None ↦ tablet | Some t ↦ at_rest (replaced_list t.leaving t.pending tablet.replicas) ]

abbrev pub reverted_tablet : Tablet → Tablet
reverted_tablet tablet = at_rest tablet.replicas

-- the least tablet in transition
abbrev pub least_moving : List Tablet → Option ℕ
least_moving list = position is_moving list

-- each tablet twice: the two that it is split into
abbrev pub both : Tablet → List Tablet
both tablet = tablet ∷ tablet ∷ []

abbrev pub split_of : Tablets → Tablets
split_of tablets = record { log2 = tablets.log2 + 1; list = flat_map both tablets.list }

-- the pairs of neighbours: tablets 0 and 1, 2 and 3, and so on
abbrev pub pairs : List Tablet → List (Tablet × Tablet)
pairs [] = []
pairs (left ∷ []) = []
pairs (left ∷ right ∷ rest) = (left, right) ∷ pairs rest

-- a pair has not the same set of replicas
abbrev pub is_apart : Tablet × Tablet → Bool
is_apart pair = not (same_set pair.0.replicas pair.1.replicas)

-- the left tablet of the least such pair
abbrev pub least_apart : List Tablet → Option ℕ
least_apart list = option_map (λ n. 2 * n) (position is_apart (pairs list))

-- the left one of each pair is kept
abbrev pub merge_of : Tablets → Tablets
merge_of tablets = record {
  log2 = tablets.log2 - 1;
  list = map (λ (pair : Tablet × Tablet). pair.0)
      (pairs tablets.list);
}

-- how a split ends
abbrev pub SplitEnds : Tablets → Tablets → Result Unit SplitError → Type 0
SplitEnds old new (Ok _) = (least_moving old.list ≡ None) × (new ≡ split_of old)
SplitEnds old new (Err (SplitMoving tablet)) = (least_moving old.list ≡ Some tablet.0) × (new ≡ old)
SplitEnds old new (Err NoMemory) = (least_moving old.list ≡ None) × (new ≡ old)

-- how a merge ends
abbrev pub MergeEnds : Tablets → Tablets → Result Unit MergeError → Type 0
MergeEnds old new (Ok _) =
    (least_moving old.list ≡ None) × (least_apart old.list ≡ None) × (new ≡ merge_of old)
MergeEnds old new (Err (MergeMoving tablet)) = (least_moving old.list ≡ Some tablet.0) × (new ≡ old)
MergeEnds old new (Err (NotColocated left)) =
    (least_moving old.list ≡ None) × (least_apart old.list ≡ Some left.0) × (new ≡ old)
