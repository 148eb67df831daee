use Rattle.std.proofs.Common.{ap, ◌∙◌, subst, sym, rules}
use Rattle.std.specs.Str.{chars}
use Rattle.urlpattern_constructor.specs.Split.{IsTextBetween}
use Rattle.urlpattern_constructor.specs.Splitting.{text_of_source, tokens_of}
use Rattle.urlpattern_constructor.proofs.TextBetween.{source_stretch}
use Rattle.urlpattern_constructor.proofs.tokens.Source.text_between.Goals as goal

pub range-requires-clause-start_le_end : goal.range-requires-clause-start_le_end
range-requires-clause-start_le_end c =
    let found = source_stretch c.args.self.now c.args.from c.args.until (search rules) c.requires.source c.requires.order c.requires.within in
    found.2.order

pub range-requires-clause-start_boundary : goal.range-requires-clause-start_boundary
range-requires-clause-start_boundary c =
    let found = source_stretch c.args.self.now c.args.from c.args.until (search rules) c.requires.source c.requires.order c.requires.within in
    λ after. found.2.start

pub range-requires-clause-end_boundary : goal.range-requires-clause-end_boundary
range-requires-clause-end_boundary c =
    let found = source_stretch c.args.self.now c.args.from c.args.until (search rules) c.requires.source c.requires.order c.requires.within in
    found.2.end

pub returns : goal.returns
returns c =
    let found = source_stretch c.args.self.now c.args.from c.args.until (search rules) c.requires.source c.requires.order c.requires.within in
    subst (IsTextBetween (text_of_source c.args.self.now) (tokens_of c.args.self.now) c.args.from c.args.until)
    (sym (ap chars c.range.ensures.value ∙ found.2.characters)) found.1
