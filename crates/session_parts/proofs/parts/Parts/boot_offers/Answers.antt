use Rattle.session_parts.proofs.Entries.{are_entries}
use Rattle.session_parts.proofs.parts.Parts.boot_offers.Goals as goal

pub returns-clause-known : goal.returns-clause-known
returns-clause-known c =
    are_entries c.args.catalog.now c.firmware_offers.result.items c.firmware_offers.ensures.within
