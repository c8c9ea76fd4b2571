-- A map stays a map where one tablet changes.
use Rattle.std.proofs.Common.{◌<◌, ℕ, List, length, set, Option, Some, None, ◌∙◌}
use Rattle.std.proofs.Math.ListN.{length-set}
use Rattle.std.proofs.lemmas.List.Elements.{All-set}
use Rattle.std.specs.Prelude.{IfSome}
use Rattle.base_ids.specs.declared.ids.Replica.{Replica}
use Rattle.tablet_map.specs.declared.tablet.Tablet.{Tablet}
use Rattle.tablet_map.specs.declared.tablet.Transition.{Transition}
use Rattle.tablet_map.specs.Replicas.{IsReplicaSet, CanMove, replaced_list}
use Rattle.tablet_map.specs.Tablets.{IsSound, IsMap, tablet_in, no_tablet}
use Rattle.tablet_map.specs.Calls.{finished_tablet, at_rest}
use Rattle.tablet_map.proofs.Replaced.{replaced_set}

pub sound_at : (log2 : ℕ) (list : List Tablet) (at : ℕ) → IsMap log2 list → at < length list → IsSound (tablet_in list at)
sound_at log2 list at map lt = map.sound at no_tablet lt

pub sound_at_rest : (replicas : List Replica) → IsReplicaSet replicas → IsSound (at_rest replicas)
sound_at_rest replicas set = record { replicas = set; moves = tt }

finished_by_cases : (replicas : List Replica) (transition : Option Transition) → IsReplicaSet replicas → IfSome transition (λ t. CanMove replicas t.leaving t.pending) → IsSound (finished_tablet (record { replicas = replicas; transition = transition }))
finished_by_cases replicas None set moves = record { replicas = set; moves = tt }
finished_by_cases replicas (Some t) set moves =
    sound_at_rest (replaced_list t.leaving t.pending replicas) (replaced_set t.leaving t.pending replicas set moves)

pub finished_sound : (tablet : Tablet) → IsSound tablet → IsSound (finished_tablet tablet)
finished_sound tablet sound = finished_by_cases tablet.replicas tablet.transition sound.replicas sound.moves

pub still_map : (log2 : ℕ) (list : List Tablet) (at : ℕ) (tablet : Tablet) → IsMap log2 list → IsSound tablet → IsMap log2 (set list at tablet)
still_map log2 list at tablet map sound =
    record {
      few = map.few;
      count = length-set {A = Tablet} list at tablet ∙ map.count;
      sound = All-set IsSound list at tablet sound map.sound;
    }
