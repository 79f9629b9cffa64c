pub mod Begins
pub mod Checked
pub mod OneFault
pub mod OneReading
pub mod Passes
pub mod Pushing
pub mod ReadingOrFault
pub mod Settled
