use Rattle.urlpattern_parser.proofs.ReaderLemmas.{place_within}
use Rattle.urlpattern_syntax.proofs.TextLemmas.{BeginsAt-bytes}
use Rattle.urlpattern_parser.proofs.tokenizer.cursors.place_of.Goals as goal

pub overflow_sub-result : goal.overflow_sub-result
overflow_sub-result c = place_within c.args.input.now c.args.rest.now c.utf8.input c.utf8.rest c.requires

pub returns : goal.returns
returns c =
    BeginsAt-bytes c.args.input.now c.args.rest.now c.utf8.input c.utf8.rest
    (place_within c.args.input.now c.args.rest.now c.utf8.input c.utf8.rest c.requires)
