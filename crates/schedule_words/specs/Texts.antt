-- How a cell is spelled.
use Rattle.std.specs.Fmt.{decimal, signed_decimal}
use Rattle.std.specs.Prelude.{List, codes, ℕ, ℤ, ◌++◌}
use Rattle.cell_merge.specs.declared.cell.Body.{Body}
use Rattle.cell_merge.specs.declared.cell.Body.TheVariants.{Dead, Live}
use Rattle.cell_merge.specs.declared.cell.Cell.{Cell}
use Rattle.hex.specs.Hex.{encode_lower}

-- the timestamp of a cell, and its bytes as two lower-case digits each or its time of deletion
abbrev pub body_text : ℤ → Body → List ℕ
body_text timestamp (Live bytes) = codes "live:" ++ (signed_decimal timestamp ++ (codes ":" ++ encode_lower bytes))
body_text timestamp (Dead time) = codes "dead:" ++ (signed_decimal timestamp ++ (codes ":" ++ decimal time))

-- a cell: live:TIMESTAMP:HEX or dead:TIMESTAMP:TIME
abbrev pub cell_text : Cell → List ℕ
cell_text cell = body_text cell.timestamp cell.body
