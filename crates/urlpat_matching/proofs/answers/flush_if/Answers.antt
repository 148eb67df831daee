use Rattle.urlpat_matching.proofs.LineAnswerLemmas.{keeps-self}
use Rattle.urlpat_matching.proofs.answers.flush_if.Goals as goal

pub returns : goal.returns
returns g c = keeps-self (g.Out.Write.contents c.args.out.now)
