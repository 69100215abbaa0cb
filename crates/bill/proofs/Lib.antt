-- The laws of the bill.
pub mod Texts
pub mod Scales
pub mod VerdictLine
pub mod Clean
pub mod Lines
pub mod LineReadings
pub mod Formed
pub mod Readings
pub mod Tight
