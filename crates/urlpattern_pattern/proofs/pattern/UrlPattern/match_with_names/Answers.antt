use Rattle.std.proofs.Common.{String, Vec, List, ℕ, ap, map, sym, zip, ◌∙◌}
use Rattle.std.specs.Borrow.{Bor}
use Rattle.std.specs.Str.{chars}
use Rattle.std.specs.declared.alloc.Global.{Global}
use Rattle.urlpattern_components.proofs.EightLemmas.{at-each}
use Rattle.urlpattern_components.specs.Eight.{at}
use Rattle.urlpattern_components.specs.declared.eight.Eight.{Eight}
use Rattle.urlpattern_matches.specs.GroupTexts.{captures_of}
use Rattle.urlpattern_matches.specs.ResultViews.{group_of}
use Rattle.urlpattern_matches.specs.declared.captures.GroupCaptures.{GroupCaptures}
use Rattle.urlpattern_syntax.specs.Text.{text_of}
use Rattle.urlpattern_pattern.proofs.pattern.UrlPattern.match_with_names.Goals as goal

pub returns-clause-matched : goal.returns-clause-matched
returns-clause-matched g c = λ name. record {
  has_input =
      ap (λ (texts : Eight (Bor (List ℕ))). chars (at texts name).now) c.assemble_match.ensures.texts
      ∙ sym (at-each (λ other. chars (at c.args.texts.now other).now) name);
  has_groups = λ group.
      ap (λ (names : Eight (Bor (Vec (String Global) Global))). group_of (map text_of (at names name).now.items) (captures_of (at c.assemble_match.result.captures name)) group) c.assemble_match.ensures.names
      ∙ ap (λ (captures : Eight GroupCaptures). group_of (map text_of (at c.from_fn.result name).now.items) (captures_of (at captures name)) group) c.assemble_match.ensures.captures
      ∙ ap (λ (names : Vec (String Global) Global). group_of (map text_of names.items) (captures_of (at c.args.captures name)) group) (c.from_fn.ensures name).1;
}

pub returns-clause-groups : goal.returns-clause-groups
returns-clause-groups g c = λ name.
    ap (λ (names : Eight (Bor (Vec (String Global) Global))). zip (map text_of (at names name).now.items) (captures_of (at c.assemble_match.result.captures name))) c.assemble_match.ensures.names
    ∙ ap (λ (captures : Eight GroupCaptures). zip (map text_of (at c.from_fn.result name).now.items) (captures_of (at captures name))) c.assemble_match.ensures.captures
    ∙ ap (λ (names : Vec (String Global) Global). zip (map text_of names.items) (captures_of (at c.args.captures name))) (c.from_fn.ensures name).1
