use Rattle.amd_file.proofs.Ending.{unsettled}
use Rattle.amd_file.proofs.parser.AmdParser.settled.Goals as goal

pub returns-in_default : goal.returns-in_default
returns-in_default c = λ bytes told at offset cause settled.
    let parser = c.args.self.now in
    let progress = parser.progress in
    unsettled progress.stage bytes parser.held.items told progress.fed progress.start progress.patches offset cause c.in_default.not-Failed at parser.short settled
