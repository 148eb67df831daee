use Rattle.std.proofs.Common.{String, Vec, ap, map, refl}
use Rattle.std.specs.declared.alloc.Global.{Global}
use Rattle.urlpattern_components.proofs.EightLemmas.{by_name}
use Rattle.urlpattern_matches.specs.GroupTexts.{borrowed_texts, captures_of}
use Rattle.urlpattern_paths.proofs.PathAloneLemmas.{match-of_read, put-together}
use Rattle.urlpattern_pattern.specs.Patterns.{pattern_view}
use Rattle.urlpattern_syntax.specs.Text.{text_of}
use Rattle.urlpattern_paths.proofs.by_parts.match_with_path.Goals as goal

pub returns-clause-matched : goal.returns-clause-matched
returns-clause-matched g c =
    (match-of_read g.R.RegExp.answer (pattern_view c.args.pattern.now) (borrowed_texts c.args.texts.now) (captures_of c.args.groups) c.assemble_match.result c.requires.read
    (put-together (pattern_view c.args.pattern.now) (borrowed_texts c.args.texts.now) (captures_of c.args.groups) c.assemble_match.result _ _ _ c.assemble_match.ensures.names c.assemble_match.ensures.texts
    c.assemble_match.ensures.captures (λ name. ap (λ (names : Vec (String Global) Global). map text_of names.items) (c.from_fn.ensures name).1) (by_name _ refl refl refl refl refl refl refl refl)
    (by_name _ refl refl refl refl refl refl refl refl))).0

pub returns-clause-groups : goal.returns-clause-groups
returns-clause-groups g c =
    (match-of_read g.R.RegExp.answer (pattern_view c.args.pattern.now) (borrowed_texts c.args.texts.now) (captures_of c.args.groups) c.assemble_match.result c.requires.read
    (put-together (pattern_view c.args.pattern.now) (borrowed_texts c.args.texts.now) (captures_of c.args.groups) c.assemble_match.result _ _ _ c.assemble_match.ensures.names c.assemble_match.ensures.texts
    c.assemble_match.ensures.captures (λ name. ap (λ (names : Vec (String Global) Global). map text_of names.items) (c.from_fn.ensures name).1) (by_name _ refl refl refl refl refl refl refl refl)
    (by_name _ refl refl refl refl refl refl refl refl))).1
