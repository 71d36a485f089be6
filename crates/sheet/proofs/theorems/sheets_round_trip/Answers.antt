use Rattle.sheet.proofs.RoundTrips.{written_again, read_again, one_net, one_answer}
use Rattle.sheet.proofs.theorems.sheets_round_trip.Goals as goal

pub returns : goal.returns
returns g c =
    let G = g.K.Label.group in
    let F = g.K.Label.form in
    let stands = g.K.Label.stands in
    let kind = g.K.SheetKind.KIND in
    let small = g.K.SheetKind.small in
    record {
      again = written_again G F stands kind small;
      back = read_again G F stands kind small;
      net = one_net G F stands kind small;
      answer = one_answer G F stands kind small;
    }
