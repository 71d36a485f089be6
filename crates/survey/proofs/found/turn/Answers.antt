use Rattle.std.proofs.Common.{length, sym, refl}
use Rattle.std.proofs.lemmas.Option.{slice_get_read}
use Rattle.growth.specs.Entry.{about}
use Rattle.growth.specs.SightOrder.{sight_order}
use Rattle.survey.specs.Found.{junction_of}
use Rattle.survey.specs.declared.search.Side.TheVariants.{Lesser, Greater}
use Rattle.survey.proofs.Searches.{turned}
use Rattle.survey.proofs.found.turn.Goals as goal

pub returns-in-Equal : goal.returns-in-Equal
returns-in-Equal g c =
    record {
      what = c.index-records-at.result;
      read = slice_get_read c.args.records.now _ c.args.at c.index-records-at.result refl c.requires c.index-records-at.is;
      same = sym ((sight_order g.L.Label.order).same _ _ (sym c.in-Equal.ensures));
    }

pub returns-in-Less : goal.returns-in-Less
returns-in-Less g c =
    turned g.L.Label.order g.L.Label.stands (length c.args.records.now) c.args.records.now (about c.args.centre (junction_of g.L.Label.stands c.args.junction)) c.args.at Lesser c.index-records-at.result
    (slice_get_read c.args.records.now _ c.args.at c.index-records-at.result refl c.requires c.index-records-at.is) (sym c.in-Less.ensures) c.along.result c.along.ensures

pub returns-in-Greater : goal.returns-in-Greater
returns-in-Greater g c =
    turned g.L.Label.order g.L.Label.stands (length c.args.records.now) c.args.records.now (about c.args.centre (junction_of g.L.Label.stands c.args.junction)) c.args.at Greater c.index-records-at.result
    (slice_get_read c.args.records.now _ c.args.at c.index-records-at.result refl c.requires c.index-records-at.is) (sym c.in-Greater.ensures) c.along-in-Greater.result c.along-in-Greater.ensures
