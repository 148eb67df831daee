use Rattle.urlpattern_paths.proofs.PathLaws.{front-found}
use Rattle.urlpattern_paths.proofs.path_captures.after_front.Goals as goal

pub returns : goal.returns
returns c = front-found c.args.text.now c.args.front.now c.strip_prefix.result c.utf8.text c.utf8.front c.strip_prefix.ensures.cases
