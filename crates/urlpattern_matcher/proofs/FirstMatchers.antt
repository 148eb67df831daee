-- Engines whose values return the first way of the tree of their text, and matchers that call them.
use Rattle.std.proofs.Common.{◌≡◌, ℕ, Bool, true, false, cond, codes, List, Option, refl, sym}
use Rattle.urlpattern_matcher.specs.Components.{FlagsAgree, IsEngineOf, engine_flags, ignores_case}
use Rattle.urlpattern_matcher.specs.FirstWays.{AllReturnAlike, EachReturnsFirst, IsAcceptedBy, Keeping, Acceptance, ValuesReturnFirst, ValuesFollowParts, ValuesFollowTexts}
use Rattle.urlpattern_matcher.specs.declared.regexp.RegExp.{Ghosts as Engine}
use Rattle.urlpattern_meaning.specs.Dialect.{Follows, IsTreeOf, Items}
use Rattle.urlpattern_meaning.specs.FirstResults.{ReturnsFirst, ReturnsFirstInMiddle, AcceptedText}
use Rattle.urlpattern_meaning.specs.Matching.{InnerView, MatcherView}
use Rattle.urlpattern_meaning.specs.PartMeaning.{Captures}
use Rattle.urlpattern_syntax.specs.Options.{OptionsView}
use Rattle.urlpattern_syntax.specs.Parts.{PartView}
use Rattle.urlpattern_syntax.specs.RegexpText.{regexp_text}
use Rattle.urlpattern_meaning.proofs.DialectUnique.{only_tree}
use Rattle.urlpattern_meaning.proofs.FirstWay.{meant_or_none}
use Rattle.urlpattern_meaning.proofs.OneMeaning.{is_tree_of}
use Rattle.urlpattern_meaning.proofs.PartTrees.{tree_of}
use Rattle.urlpattern_meaning.proofs.FirstResults.{first_agrees, first_one, matcher_first, of_made}

-- A value that returns first ways follows its text.
pub first_follows : (regexp : List ℕ) (answer : List ℕ → Option Captures) → ReturnsFirst regexp answer → (tree : Items) → IsTreeOf regexp tree → Follows regexp answer
first_follows regexp answer first tree is = record {
  tree = tree;
  is_tree = only_tree regexp tree is;
  answers = λ text scalars. meant_or_none tree is.1 text (answer text) (sym (first tree text is scalars));
}

-- Values that return first ways follow their texts, and the regular expressions of parts.
pub values_follow : {E : Type 0} (engine : Engine E) (Keeps : Keeping) → ValuesReturnFirst engine Keeps → ValuesFollowTexts engine Keeps
values_follow engine Keeps first regexp flags tree value is keeps made = first_follows regexp (engine.answer value) (first regexp flags value keeps made) tree is

pub values_follow_parts : {E : Type 0} (engine : Engine E) (Keeps : Keeping) → ValuesReturnFirst engine Keeps → ValuesFollowParts engine Keeps
values_follow_parts engine Keeps first options flags parts value generated keeps made =
    values_follow engine Keeps first (regexp_text options parts) flags (tree_of options parts) value (is_tree_of options parts generated) keeps made

-- If the engine accepted its text with a value of which `Holds` is true, and such values return
-- first ways, then so do matchers.
pub made_first : {E : Type 0} (engine : Engine E) (Accepted : Acceptance E) (Holds : E → Type 0) →
    ((options : OptionsView) (flags : List ℕ) (parts : List PartView) (matcher : MatcherView E) → IsAcceptedBy engine Accepted options flags parts matcher → AcceptedText Holds matcher.inner) →
    ((options : OptionsView) (regexp flags : List ℕ) (value : E) (inner : InnerView E) → options.ignore_case ≡ false → Accepted options flags inner → engine.IsMade value regexp flags → Holds value
    → ReturnsFirst regexp (engine.answer value)) →
    EachReturnsFirst engine Accepted
made_first engine Accepted Holds takes values_first options flags parts matcher taken text result no_feed scalars answers =
    let IsEngine = IsEngineOf engine false flags in
    let firsts : ReturnsFirstInMiddle engine.answer options parts matcher.inner =
    of_made IsEngine options (λ value middle. ReturnsFirst (regexp_text options middle) (engine.answer value)) Holds parts matcher
    taken.is_made taken.generated (takes options flags parts matcher taken) (λ value middle plain of holds. values_first options (regexp_text options middle) flags value matcher.inner taken.case_kept taken.took of holds) in
    let first = matcher_first engine.answer IsEngine options parts matcher text result taken.is_made taken.generated taken.case_kept no_feed scalars firsts answers in
    (first, first_agrees options parts text result taken.generated first)

-- Two matchers of the same parts return the same.
pub first_alike : {E : Type 0} (engine : Engine E) (Accepted : Acceptance E) → EachReturnsFirst engine Accepted → AllReturnAlike engine Accepted
first_alike engine Accepted firsts options flags parts matcher another taken also text result other no_feed scalars answers replies =
    first_one options parts text result other (firsts options flags parts matcher taken text result no_feed scalars answers).0 (firsts options flags parts another also text other no_feed scalars replies).0

-- The flags for the engine of a component ignore case if and only if the options do.
pub flags_agree : (options : OptionsView) → FlagsAgree options (engine_flags options)
flags_agree options = by options.ignore_case
  where
    by : (b : Bool) → ignores_case (cond b (codes "ui") (codes "u")) ≡ b
    by true = refl
    by false = refl
