use Rattle.bstr.proofs.lemmas.RecordLemmas.{IfSome-weaker}
use Rattle.urlpat_matching.proofs.LineAnswerLemmas.{appends-both}
use Rattle.urlpat_matching.proofs.writing.write_answers.Goals as goal

pub returns-in-Ok-clause-written : goal.returns-in-Ok-clause-written
returns-in-Ok-clause-written g c = λ answered.
    IfSome-weaker (g.In.Read.remaining c.args.input.now) _ _
    (λ text (written, are, first). (
      c.in-Ok.tally.selected,
      written,
      are,
      appends-both _ _ _ written _ first (c.finish.ensures.written answered),
      c.finish.ensures.any answered,
    )) c.in-Ok.ensures
