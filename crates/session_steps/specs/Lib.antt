pub mod State
pub mod Offers
pub mod Did
pub mod Step
pub mod Session
pub mod Calls
pub mod Played
pub mod Whole
-- what a session speaks of, passed on: a crate above may name it through this one
pub use Rattle.entry_model.specs as entry_model
pub use Rattle.machine_steps.specs as machine_steps
pub use Rattle.read_model.specs as read_model
pub use Rattle.region_steps.specs as region_steps
pub use Rattle.rendezvous_model.specs as rendezvous_model
pub use Rattle.rendezvous_rule.specs as rendezvous_rule
pub use Rattle.rendezvous_steps.specs as rendezvous_steps
pub use Rattle.report_text.specs as report_text
pub use Rattle.script_text.specs as script_text
pub use Rattle.session_text.specs as session_text
pub use Rattle.status_rule.specs as status_rule
