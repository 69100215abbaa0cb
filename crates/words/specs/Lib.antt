-- The words of 000's sections 2.2.6 and 2.3.1 to 2.3.7: types, events and time scales, and what bytes name.
pub mod Named
pub mod Kind
pub mod Code
pub mod Action
pub mod Pair
pub mod Class
pub mod Scale
