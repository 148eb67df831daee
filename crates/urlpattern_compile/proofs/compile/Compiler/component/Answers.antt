use Rattle.std.proofs.Common.{rules}
use Rattle.urlpattern_compile.proofs.CompiledLemmas.{kept_weaker, refused_weaker}
use Rattle.urlpattern_compile.specs.Compiled.{canonical_encoding}
use Rattle.urlpattern_compile.specs.CompilerSteps.{settings_by}
use Rattle.urlpattern_matcher.specs.Components.{pattern_text}
use Rattle.urlpattern_syntax.specs.Options.{options_view}
use Rattle.urlpattern_compile.proofs.compile.Compiler.component.Goals as goal

pub returns-clause-compiled : goal.returns-clause-compiled
returns-clause-compiled g c =
    let settings = settings_by c.args.self.now c.args.hierarchical c.args.component in
    kept_weaker g.R.RegExp _ settings (λ text answer h. (h.0, search rules, h.2))
    (pattern_text c.pattern_of-pattern.result) (options_view c.in_ok-options.options) c.compile_component.result
    c.pattern_of-pattern.ensures c.in_ok-options.ensures.ok c.compile_component.ensures.compiled c.compile_component.ensures.engine

pub returns-clause-refused : goal.returns-clause-refused
returns-clause-refused g c =
    let settings = settings_by c.args.self.now c.args.hierarchical c.args.component in
    refused_weaker g.R.RegExp _ (canonical_encoding settings.canonical) (λ text answer h. (h.0, search rules, h.2))
    (pattern_text c.pattern_of-pattern.result) settings.text (options_view c.in_ok-options.options) settings.options c.compile_component.result
    c.pattern_of-pattern.ensures c.in_ok-options.ensures.ok c.compile_component.ensures.refused
