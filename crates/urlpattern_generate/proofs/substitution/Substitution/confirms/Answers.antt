use Rattle.std.specs.Str.{chars}
use Rattle.urlpattern_matcher.specs.Matchers.{matcher_view}
use Rattle.urlpattern_generate.proofs.GeneratingLemmas.{written_found}
use Rattle.urlpattern_generate.specs.WrittenTexts.{settings_of_writer}
use Rattle.urlpattern_syntax.specs.ComponentParts.{kept_parts}
use Rattle.urlpattern_generate.proofs.substitution.Substitution.confirms.Goals as goal

pub returns-then-reads_what_is_written : goal.returns-then-reads_what_is_written
returns-then-reads_what_is_written g c =
    written_found g.R.RegExp.answer (matcher_view c.args.matcher.now) (settings_of_writer c.args.self.now) (kept_parts c.args.self.now.kept.now) (chars c.args.text.now) _
    c.requires.made (c.reads_what_is_written.ensures c.if-reads_what_is_written.true) c.requires.written
