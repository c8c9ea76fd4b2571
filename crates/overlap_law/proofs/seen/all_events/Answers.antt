use Rattle.std.proofs.Common.{arith, ap, subst, sym, ◌≡◌, ◌++◌, ◌∷◌, ◌∙◌, List, reverse, take}
use Rattle.cluster_history.specs.Legal.{IsLegalHistory}
use Rattle.cluster_history.specs.Topology.{accepted_command, last_state}
use Rattle.cluster_history.specs.declared.data.Entry.{Entry}
use Rattle.overlap_law.specs.ClientEvents.{seen_of, seen_in}
use Rattle.overlap_law.specs.Counts.{AreCounts, CanFollow, accepted_index, with_accepted}
use Rattle.overlap_law.proofs.CountsLemmas.{counts_fit, history_more}
use Rattle.overlap_law.proofs.SizeLemmas.{can_follow, few_before, followed, legal_before}
use Rattle.overlap_law.proofs.seen.all_events.Goals as goal
use Rattle.topo_state.specs.State.{Topology}

pub add_entry-requires : goal.add_entry-requires
add_entry-requires c =
    counts_fit c.as_slice-entries.result.now c.loop-entry.entry-index c.loop-entry.counts c.loop-entry.invariant.1 c.loop-entry-test.true (omega (arith, c.as_slice-entries.type_inv.1))

pub follow-requires : goal.follow-requires
follow-requires c =
    let entries : List Entry = c.as_slice-entries.result.now in
    let opening = c.args.journal.now.opening in
    let i = c.loop-entry.entry-index in
    let entry = c.entry-item.result in
    let legal : IsLegalHistory opening (entry ∷ reverse (take i entries)) =
    legal_before opening entries i entry (subst (λ (es : List Entry). IsLegalHistory opening (reverse es)) (sym c.as_slice-entries.ensures) c.requires.legal) c.loop-entry-test.true c.entry-item.is in
    subst (λ (s : Topology). CanFollow s (accepted_command entry.event entry.outputs)) (sym c.loop-entry.invariant.2)
    (can_follow opening (reverse (take i entries)) entry legal (few_before entries i c.loop-entry-test.true (omega (arith, c.as_slice-entries.type_inv.1))))

pub loop-entry-preserved : goal.loop-entry-preserved
loop-entry-preserved c =
    let entries : List Entry = c.as_slice-entries.result.now in
    let opening = c.args.journal.now.opening in
    let i = c.loop-entry.entry-index in
    let entry = c.entry-item.result in
    let history : List Entry = reverse (take i entries) in
    let legal : IsLegalHistory opening (entry ∷ history) =
    legal_before opening entries i entry (subst (λ (es : List Entry). IsLegalHistory opening (reverse es)) (sym c.as_slice-entries.ensures) c.requires.legal) c.loop-entry-test.true c.entry-item.is in
    let P : List Entry → Type 0 = λ h. (c.add_entry.new.seen ≡ seen_in opening h) × AreCounts h c.add_entry.new.counts × (c.follow.new.state ≡ last_state opening h) in
    subst P (sym (history_more entries i entry c.loop-entry-test.true c.entry-item.is)) (
      c.in_ok-add_entry.ensures.events opening history c.requires.valid legal c.loop-entry.invariant.1 c.loop-entry.invariant.2
          ∙ ap (λ l. l ++ seen_of opening history entry.event entry.outputs) c.loop-entry.invariant.0,
      c.in_ok-add_entry.ensures.counted history c.loop-entry.invariant.1,
      c.in_ok-follow.ensures
          ∙ ap (λ (s : Topology). with_accepted s (accepted_command entry.event entry.outputs) (accepted_index entry.outputs)) c.loop-entry.invariant.2
          ∙ followed opening history entry legal,
    )
