use Rattle.std.proofs.Common.{Some, ap, sym, ◌∙◌, arith}
use Rattle.urlpattern_constructor.proofs.TextBetween.{begins_at}
use Rattle.urlpattern_constructor.proofs.tokens.Source.split_text.Goals as goal

pub returns : goal.returns
returns c =
    (c.text_between.ensures, ap Some (begins_at c.args.self.now c.args.from c.args.until _ (omega (arith, c.requires.order, c.requires.within)) c.text_between.ensures))
