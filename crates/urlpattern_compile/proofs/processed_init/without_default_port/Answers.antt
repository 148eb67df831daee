use Rattle.std.proofs.Common.{sym, ◌∙◌}
use Rattle.urlpattern_syntax.proofs.StringTexts.{text-nil}
use Rattle.urlpattern_compile.proofs.CompiledLemmas.{emptied}
use Rattle.urlpattern_init.specs.Inheritance.{values_view}
use Rattle.urlpattern_compile.proofs.processed_init.without_default_port.Goals as goal

pub returns-then-has_default_port : goal.returns-then-has_default_port
returns-then-has_default_port c =
    emptied (values_view c.args.values) _ (text-nil c.new.result c.new.ensures.bytes) (sym c.has_default_port.ensures ∙ c.if-has_default_port.true)
