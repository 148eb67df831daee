use Rattle.std.proofs.Common.{◌∙◌, ◌++◌, List, [], ◌∷◌, ap, codes, subst}
use Rattle.std.specs.Str.{chars}
use Rattle.urlpattern_syntax.specs.Parts.{PartView, parts_view}
use Rattle.urlpattern_syntax.specs.declared.parser.{Part.Part, PartModifier.PartModifier, PartType.PartType}
use Rattle.urlpattern_urls.specs.Unlike.{IsMadeOf, part_of}
use Rattle.urlpattern_urls.proofs.unlike.web.Goals as goal

pub returns : goal.returns
unfolding chars
returns c =
    let http = part_of PartType.FixedText (codes "http") PartModifier.None in
    let s = part_of PartType.FixedText (codes "s") PartModifier.Optional in
    let are = c.in_ok-push_part-2.ensures ∙ ap (λ (l : List PartView). l ++ s ∷ []) (c.in_ok-push_part.ensures ∙ ap (λ (l : List Part). parts_view l ++ http ∷ []) c.new-parts.ensures.items) in
    subst (λ (parts : List PartView). IsMadeOf parts c.made_of.result) are c.made_of.ensures
