-- Names in the order of their bytes, and things sorted by their names.
pub mod Order
pub mod Sets
