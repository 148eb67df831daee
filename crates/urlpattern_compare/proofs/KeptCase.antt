-- Where case is kept, parts mean the text as it is.
use Rattle.std.proofs.Common.{◌≡◌, ◌∙◌, ◌↔◌, ℕ, Bool, false, List, [], ◌∷◌, Option, Some, None, ap, ap₂, map, refl, subst, sym}
use Rattle.std.specs.Prelude.{option_map}
use Rattle.urlpattern_compare.specs.MeantTexts.{MeansText, folded_options, folded_part, folded_parts}
use Rattle.urlpattern_meaning.specs.Matching.{folded_character}
use Rattle.urlpattern_compare.proofs.PartTexts.{generated_match}
use Rattle.urlpattern_expressions.specs.MatchedPartTexts.{PartsMatch}
use Rattle.urlpattern_meaning.specs.PartMeaning.{AreGenerated, Captures, PartsMean}
use Rattle.urlpattern_syntax.specs.{Options.OptionsView, Parts.PartView}

text_kept : (text : List ℕ) → map (folded_character false) text ≡ text
text_kept [] = refl
text_kept (c ∷ text) = ap (λ rest. c ∷ rest) (text_kept text)

pub part_kept : (part : PartView) → folded_part false part ≡ part
part_kept part = λ i. record part { value = text_kept part.value i; prefix = text_kept part.prefix i; suffix = text_kept part.suffix i }

parts_kept : (parts : List PartView) → map (folded_part false) parts ≡ parts
parts_kept [] = refl
parts_kept (part ∷ parts) = ap₂ (λ (first : PartView) (rest : List PartView). first ∷ rest) (part_kept part) (parts_kept parts)

delimiter_kept : (delimiter : Option ℕ) → option_map (folded_character false) delimiter ≡ delimiter
delimiter_kept None = refl
delimiter_kept (Some c) = refl

options_kept : (options : OptionsView) → options.ignore_case ≡ false → folded_options options ≡ options
options_kept options kept =
    (λ i. record options { delimiter = option_map (folded_character (kept i)) options.delimiter })
    ∙ (λ i. record options { delimiter = delimiter_kept options.delimiter i })

-- Where case is kept, parts mean the texts that they match.
pub kept_matches : (options : OptionsView) (parts : List PartView) (text : List ℕ) → options.ignore_case ≡ false → MeansText options parts text ↔ PartsMatch options parts text
kept_matches options parts text kept =
    let own = options_kept options kept in
    let same : folded_parts options parts ≡ parts = ap (λ (b : Bool). map (folded_part b) parts) kept ∙ parts_kept parts in
    let whole : map (folded_character options.ignore_case) text ≡ text = ap (λ (b : Bool). map (folded_character b) text) kept ∙ text_kept text in (
      λ means. subst (λ (t : List ℕ). PartsMatch options parts t) whole
          (subst (λ (ps : List PartView). PartsMatch options ps (map (folded_character options.ignore_case) text)) same
          (subst (λ (o : OptionsView). PartsMatch o (folded_parts options parts) (map (folded_character options.ignore_case) text)) own means)),
      λ means. subst (λ (o : OptionsView). PartsMatch o (folded_parts options parts) (map (folded_character options.ignore_case) text)) (sym own)
          (subst (λ (ps : List PartView). PartsMatch options ps (map (folded_character options.ignore_case) text)) (sym same)
          (subst (λ (t : List ℕ). PartsMatch options parts t) (sym whole) means)),
    )

-- Where case is kept, parts of which none is custom mean the text as it is.
pub kept_means : (options : OptionsView) (parts : List PartView) (text : List ℕ) → options.ignore_case ≡ false → AreGenerated parts → MeansText options parts text ↔ ((captures : Captures) × PartsMean options parts text captures)
kept_means options parts text kept generated =
    let matches = kept_matches options parts text kept in
    let means = generated_match options parts generated text in
    (λ meant. means.0 (matches.0 meant), λ meant. matches.1 (means.1 meant))
