-- The parts of one component and their options, as clauses see them.
use Rattle.std.specs.Prelude.{List}
use Rattle.urlpattern_syntax.specs.declared.parts.ComponentParts.{ComponentParts}
use Rattle.urlpattern_syntax.specs.Options.{OptionsView, options_view}
use Rattle.urlpattern_syntax.specs.Parts.{PartView, parts_view}

-- The options of a `ComponentParts`, with which its parts were parsed.
abbrev pub kept_options : ComponentParts → OptionsView
kept_options kept = options_view kept.options

-- The parts of a `ComponentParts`, in order.
abbrev pub kept_parts : ComponentParts → List PartView
kept_parts kept = parts_view kept.parts.items
