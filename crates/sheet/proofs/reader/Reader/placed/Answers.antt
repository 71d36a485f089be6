use Rattle.sheet.proofs.Beginnings.{ended, wrong}
use Rattle.sheet.proofs.reader.Reader.placed.Goals as goal

pub returns-in-Ends : goal.returns-in-Ends
returns-in-Ends c = λ rest. ended c.args.self.now.place _ rest c.args.fault c.in-Ends.is

pub returns-in_default : goal.returns-in_default
returns-in_default c = λ rest. wrong c.args.self.now.place _ rest c.args.fault c.in_default.not-Ends
