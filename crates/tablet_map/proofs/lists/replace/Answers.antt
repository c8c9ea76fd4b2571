use Rattle.std.proofs.Common.{◌≡◌, Some, None, rules, ◌∙◌}
use Rattle.std.specs.List.{position}
use Rattle.base_ids.specs.Replicas.{same_replica}
use Rattle.tablet_map.proofs.Replaced.{replaced_where, replaced_nowhere}
use Rattle.tablet_map.proofs.lists.replace.Goals as goal

pub returns-in-Some : goal.returns-in-Some
returns-in-Some c =
    let found : position (same_replica c.args.leaving) c.args.replicas.now ≡ Some c.in-Some.at = search rules in
    c.replace.ensures ∙ replaced_where c.args.leaving c.args.pending c.args.replicas.now c.in-Some.at found

pub returns-in_default : goal.returns-in_default
returns-in_default c =
    let found : position (same_replica c.args.leaving) c.args.replicas.now ≡ None = search rules in
    replaced_nowhere c.args.leaving c.args.pending c.args.replicas.now found
