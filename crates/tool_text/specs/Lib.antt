pub mod Able
pub mod Commands
pub mod Ends
pub mod Headline
pub mod Plays
pub mod Tool
pub mod Words
-- what the tool's text speaks of, passed on: a crate above may name it through this one
pub use Rattle.command_laws.specs as command_laws
pub use Rattle.entry_model.specs as entry_model
pub use Rattle.machine_steps.specs as machine_steps
pub use Rattle.read_model.specs as read_model
pub use Rattle.rendezvous_model.specs as rendezvous_model
pub use Rattle.rendezvous_rule.specs as rendezvous_rule
pub use Rattle.rendezvous_steps.specs as rendezvous_steps
pub use Rattle.report_text.specs as report_text
pub use Rattle.script_text.specs as script_text
pub use Rattle.session_steps.specs as session_steps
pub use Rattle.session_text.specs as session_text
