use Rattle.urlpat_tables.proofs.LabelLemmas.{bare-is}
use Rattle.urlpat_tables.proofs.labels.is_bare.Goals as goal

pub returns : goal.returns
returns c = bare-is c.args.members.now.entries c.is_empty.result c.is_empty.ensures
