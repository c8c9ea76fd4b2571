-- The order of cells, and the greater one of two.
use Rattle.std.specs.Prelude.{Bool, true, false, Option, Some, None, IsTrue, if◌then◌else◌}
use Rattle.std.specs.Ordering.{nat_cmp, int_cmp, ordering_then, is_lt, is_ge}
use Rattle.std.specs.declared.cmp.Ordering.{Ordering}
use Rattle.std.specs.declared.cmp.Ordering.TheVariants.{Less, Greater}
use Rattle.std.specs.Cmp.Lexicographic.{slice_cmp}
use Rattle.cell_merge.specs.declared.cell.Cell.{Cell}
use Rattle.cell_merge.specs.declared.cell.Body.{Body}
use Rattle.cell_merge.specs.declared.cell.Body.TheVariants.{Live, Dead}

-- A dead body is above every live one. Live ones are compared by their bytes, as unsigned numbers from
-- the first on, a prefix being below what it begins; dead ones by their time of deletion.
abbrev pub body_order : Body → Body → Ordering
body_order (Live a) (Live b) = slice_cmp nat_cmp a b
body_order (Live a) (Dead t) = Less
body_order (Dead s) (Live b) = Greater
body_order (Dead s) (Dead t) = nat_cmp s t

-- by timestamp, and at one timestamp by body
abbrev pub cell_order : Cell → Cell → Ordering
cell_order a b = ordering_then (int_cmp a.timestamp b.timestamp) (body_order a.body b.body)

-- the greater one of two cells, either of which may be missing
abbrev pub greater_cell : Option Cell → Option Cell → Option Cell
greater_cell None b = b
greater_cell (Some a) None = Some a
greater_cell (Some a) (Some b) = if is_lt (cell_order a b) then Some b else Some a

-- whether the first is not below the second: every cell is above none
abbrev pub is_not_below : Option Cell → Option Cell → Bool
is_not_below None None = true
is_not_below None (Some b) = false
is_not_below (Some a) None = true
is_not_below (Some a) (Some b) = is_ge (cell_order a b)

-- the first is not below the second
abbrev pub IsNotBelow : Option Cell → Option Cell → Type 0
IsNotBelow a b = IsTrue (is_not_below a b)
