-- The lists of replicas that requests go to, by token and by selector.
use Rattle.std.specs.Prelude.{ℤ, List, [], ◌∷◌, ◌++◌}
use Rattle.base_ids.specs.declared.ids.Replica.{Replica}
use Rattle.stage_graph.specs.declared.table.Selector.{Selector}
use Rattle.stage_graph.specs.declared.table.Selector.TheVariants.{Old, Both, New}
use Rattle.token_ring.specs.Ring.{tablet_at}
use Rattle.tablet_map.specs.declared.tablet.Transition.{Transition}
use Rattle.tablet_map.specs.Replicas.{replaced_list}
use Rattle.tablet_map.specs.Tablets.{Tablets, tablet_in}

-- the replicas of a token's tablet
abbrev pub replicas_at : Tablets → ℤ → List Replica
replicas_at tablets token = (tablet_in tablets.list (tablet_at tablets.log2 token)).replicas

-- the list, the list with the pending replica behind it, and the list with it in the leaving one's place
abbrev pub selected_list : Selector → List Replica → Transition → List Replica
selected_list Old replicas transition = replicas
selected_list Both replicas transition = replicas ++ transition.pending ∷ []
selected_list New replicas transition = replaced_list transition.leaving transition.pending replicas
