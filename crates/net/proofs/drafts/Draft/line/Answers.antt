use Rattle.std.proofs.Common.{refl}
use Rattle.net.proofs.Drawings.{line_drawn}
use Rattle.net.proofs.drafts.Draft.line.Goals as goal

pub returns : goal.returns
returns g c =
    let none = c.in_ok-allows.ensures.verdict.0 in
    (none, line_drawn g.L.Label.group g.L.Label.stands c.args.self.now _ c.args.list.now c.args.line c.in_ok-allows.ensures.room refl refl refl none)
