use Rattle.rings.proofs.Forms.{form_laws}
use Rattle.rings.proofs.one_standard_form.Goals as goal

pub returns : goal.returns
returns g c = form_laws g.K.AnyGraph.Joined g.K.AnyGraph.symmetric
