-- The greatest cell that was told is not below a cell that enough targets tell.
use Rattle.std.proofs.Common.{arith, refl}
use Rattle.std.specs.List.{count_by}
use Rattle.std.specs.Prelude.{Bool, List, Option, [], false, length, true, ◌+◌, ◌<◌, ◌∷◌, ◌≡◌, ◌≤◌}
use Rattle.base_ids.specs.declared.ids.Replica.{Replica}
use Rattle.cell_merge.proofs.CellOrder.{greater-first, greater-second, not_below}
use Rattle.cell_merge.specs.Cell.{IsNotBelow}
use Rattle.cell_merge.specs.declared.cell.Cell.{Cell}
use Rattle.quorum_ops.specs.Decision.{first_said, greatest_told, has_answered, said_cell}
use Rattle.quorum_ops.specs.declared.data.Answer.{Answer}
use Rattle.answer_law.proofs.CountLemmas.{count_first, one_if}

-- Where the targets that answered and those that are good are together more than all, one is both, and the greatest told
-- cell is not below what that one told.
pub told_bound :
    (answers : List Answer) (cell : Option Cell) (good : Replica → Bool) →
    ((replica : Replica) → has_answered answers replica ≡ true → good replica ≡ true → IsNotBelow (said_cell (first_said answers replica)) cell) →
    (targets : List Replica) → length targets < count_by (has_answered answers) targets + count_by good targets → IsNotBelow (greatest_told answers targets) cell
told_bound answers cell good each [] more = absurd (omega arith)
told_bound answers cell good each (target ∷ targets) more =
    by_tests (has_answered answers target) (good target) refl refl (told_bound answers cell good each targets)
  where
    here : has_answered answers target ≡ true → good target ≡ true → IsNotBelow (greatest_told answers (target ∷ targets)) cell
    here a g =
        not_below.transitive (greatest_told answers (target ∷ targets)) (said_cell (first_said answers target)) cell
        (greater-first (said_cell (first_said answers target)) (greatest_told answers targets))
        (each target a g)

    behind : IsNotBelow (greatest_told answers targets) cell → IsNotBelow (greatest_told answers (target ∷ targets)) cell
    behind rest =
        not_below.transitive (greatest_told answers (target ∷ targets)) (greatest_told answers targets) cell
        (greater-second (said_cell (first_said answers target)) (greatest_told answers targets))
        rest

    left : (a b : Bool) → one_if (has_answered answers target) + one_if (good target) ≤ 1 → length targets < count_by (has_answered answers) targets + count_by good targets
    left a b few = omega (arith, more, few, count_first (has_answered answers) target targets, count_first good target targets)

    by_tests : (a b : Bool) → has_answered answers target ≡ a → good target ≡ b → (length targets < count_by (has_answered answers) targets + count_by good targets → IsNotBelow (greatest_told answers targets) cell) → IsNotBelow (greatest_told answers (target ∷ targets)) cell
    by_tests true true p q rest = here p q
    by_tests true false p q rest = behind (rest (left true false (rw (p, q) (omega arith))))
    by_tests false true p q rest = behind (rest (left false true (rw (p, q) (omega arith))))
    by_tests false false p q rest = behind (rest (left false false (rw (p, q) (omega arith))))
