use Rattle.std.proofs.Common.{◌∙◌, ◌++◌, List, [], ◌∷◌, ap, subst}
use Rattle.urlpattern_compare.specs.Comparing.{anything_part}
use Rattle.std.specs.Str.{chars}
use Rattle.urlpattern_syntax.specs.Parts.{PartView, parts_view}
use Rattle.urlpattern_syntax.specs.declared.parser.Part.{Part}
use Rattle.urlpattern_urls.specs.Unlike.{IsMadeOf}
use Rattle.urlpattern_urls.proofs.unlike.anything.Goals as goal

pub returns : goal.returns
unfolding chars
returns c =
    let are = c.in_ok-push_part.ensures ∙ ap (λ (l : List Part). parts_view l ++ anything_part ∷ []) c.new-parts.ensures.items in
    subst (λ (parts : List PartView). IsMadeOf parts c.made_of.result) are c.made_of.ensures
