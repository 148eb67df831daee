-- The first match of a `Regex` of the text of a tree is that of the tree.
use Rattle.std.proofs.Common.{◌≡◌, List, ℕ, true, false, ap, inl, refl, sym, ◌∙◌}
use Rattle.std.proofs.lemmas.Str.{IsUtf8-string_bytes, scalars-chars}
use Rattle.std.specs.Prelude.{IsTrue, string_bytes}
use Rattle.std.specs.Str.{all_scalars}
use lib.Utf8.{scalars}
use Rattle.regex.specs.declared.string.regex.Regex.{Regex}
use Rattle.urlpattern_matcher.proofs.FirstMatchers.{first_follows}
use Rattle.urlpattern_matcher.specs.Regexes.{IsRegexOf, regex_result}
use Rattle.urlpattern_meaning.specs.Dialect.{Follows, IsTreeOf, Items}
use Rattle.urlpattern_meaning.specs.FirstResults.{ReturnsFirst}
use Rattle.urlpattern_meaning.specs.Ways.{first_way}
use Rattle.urlpattern_engine.proofs.GrammarResults.{read_by_default, regex_as_read, regex_some, tree_first_as_read}

pub regex_answers_first : (regexp : List ℕ) (tree : Items) (regex : Regex) (text : List ℕ) → IsTreeOf regexp tree → IsRegexOf regexp regex → IsTrue (all_scalars text)
    → regex_result regex text ≡ first_way tree text
regex_answers_first regexp tree regex text is made fine =
    let read = read_by_default regexp regex made in
    let good : scalars regexp ≡ true =
    ap scalars (sym made.of_text) ∙ scalars-chars (string_bytes regex.pattern.source) (IsUtf8-string_bytes regex.pattern.source) in
    regex_as_read false regexp regex read text fine ∙ sym (tree_first_as_read false regexp tree is good (regex_some false regexp regex read) text fine (inl refl))

-- A value returns the first match of the tree of its text, and follows the text.
pub answers_first_of : (regexp : List ℕ) (regex : Regex) → IsRegexOf regexp regex → ReturnsFirst regexp (regex_result regex)
answers_first_of regexp regex made = λ tree text is scalars. regex_answers_first regexp tree regex text is made scalars

pub regex_follows : (regexp : List ℕ) (tree : Items) (regex : Regex) → IsTreeOf regexp tree → IsRegexOf regexp regex → Follows regexp (regex_result regex)
regex_follows regexp tree regex is made = first_follows regexp (regex_result regex) (answers_first_of regexp regex made) tree is
