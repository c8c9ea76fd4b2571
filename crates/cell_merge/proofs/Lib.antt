pub mod CellOrder
