pub mod Writes
pub mod Counts
pub mod Soundness
pub mod Openings
pub mod TablesEnd
