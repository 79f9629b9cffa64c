-- The line on a refusal, and its status.
use Rattle.std.specs.Prelude.{ℕ, List}
use Rattle.status_rule.specs.declared.status.Status.{Status}
use Rattle.status_rule.specs.declared.status.Status.TheVariants as statuses
use Rattle.status_rule.specs.Written.{memory_line}
use Rattle.tool_text.specs.report_text.Lines.{unread_line, fault_line, topology_line, no_entry_line}
use Rattle.tool_text.specs.script_text.Lines.{script_line}
use Rattle.uc_cli.specs.declared.refusal.Refusal.{Refusal}
use Rattle.uc_cli.specs.declared.refusal.Refusal.TheVariants.{Unread, BadFile, BadTopology, BadScript}
use Rattle.uc_cli.specs.declared.refusal.Refusal.TheVariants.{NoEntry, NoMemory}

-- what is written of a refusal
abbrev pub line_of : Refusal → List ℕ
line_of (Unread name) = unread_line name.now
line_of (BadFile name fault) = fault_line name.now fault.offset fault.cause
line_of (BadTopology fault) = topology_line fault.line fault.cause
line_of (BadScript fault) = script_line fault.line fault.cause
line_of (NoEntry number) = no_entry_line number
line_of NoMemory = memory_line

-- how the run then ends
abbrev pub status_of : Refusal → Status
status_of (Unread name) = statuses.ReadFault
status_of (BadFile name fault) = statuses.BadInput
status_of (BadTopology fault) = statuses.BadInput
status_of (BadScript fault) = statuses.BadInput
status_of (NoEntry number) = statuses.BadInput
status_of NoMemory = statuses.NoMemory
