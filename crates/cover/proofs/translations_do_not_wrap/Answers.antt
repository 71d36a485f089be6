use Rattle.cover.proofs.Wraps.{whole_laws, whole_to_16}
use Rattle.cover.proofs.translations_do_not_wrap.Goals as goal

pub returns : goal.returns
returns c = record { any = whole_laws; sixteen = whole_to_16 }
