-- Adding two texts into a lent output: `Adding`. The others say how the code goes about it.
pub mod Adding
pub mod PlaceCode
pub mod RowCode
pub mod SortCode
pub mod MergeCode
pub mod FormCode
pub mod SheetCode
pub mod AddCode
