-- Captures, and maps of groups.
use Rattle.std.specs.Prelude.{◌≡◌, ℕ, List, [], ◌∷◌, map, Option, None, Some, Result, Ok, Err, IfOk, String, string_bytes}
use Rattle.std.specs.{Borrow.Bor, HashMap.HashMap, Str.chars}
use Rattle.std.specs.declared.alloc.{AllocError.AllocError, Global.Global}
use Rattle.urlpattern_components.specs.declared.eight.ComponentName.{ComponentName}
use Rattle.urlpattern_components.specs.declared.eight.Eight.{Eight}
use Rattle.urlpattern_matches.specs.declared.{captures.GroupCaptures.GroupCaptures, captures.NoCaptures.NoCaptures}
use Rattle.urlpattern_matches.specs.declared.captures.GroupCaptures.TheVariants as captured
use Rattle.urlpattern_matches.specs.declared.captures.NoCaptures.TheVariants as missed
use Rattle.urlpattern_matches.specs.declared.result.UrlPatternResult.{UrlPatternResult}
use Rattle.urlpattern_matches.specs.ResultViews.{group_in, group_of, result_view}
use Rattle.urlpattern_matcher.specs.Looks.{look_result, NeedsEngine}
use Rattle.urlpattern_matcher.specs.declared.matcher.look.Look.{Look}
use Rattle.urlpattern_meaning.specs.PartMeaning.{Captures}
use Rattle.urlpattern_syntax.specs.Text.{option_text, text_of}
use Rattle.urlpattern_components.specs.Eight.{Texts, at, each}

-- The view of eight borrowed texts.
abbrev pub borrowed_texts : Eight (Bor (List ℕ)) → Texts
borrowed_texts texts = each (λ name. chars (at texts name).now)

-- The captures of a component, in order. None: the group took no part.
abbrev pub captures_of : GroupCaptures → Captures
captures_of captured.Nothing = []
captures_of (captured.One capture) = option_text capture ∷ []
captures_of (captured.Groups captures) = map option_text captures.items

-- The result of calling the engine that `look` asks for, if any: the captures, `Unmatched` if the
-- engine does not match, or `OutOfMemory`, possible only if the look asks for an engine. `look` is
-- what a matcher sees in its text before an engine is called.
abbrev pub IsCapturedOf : {E : Type 0} → (answer : E → List ℕ → Option Captures) → Look E
    → Result GroupCaptures NoCaptures → Type 0
IsCapturedOf answer look (Ok captured) =
    look_result answer (Some look) ≡ Some (captures_of captured)
IsCapturedOf answer look (Err missed.Unmatched) = look_result answer (Some look) ≡ None
IsCapturedOf answer look (Err missed.OutOfMemory) = NeedsEngine look

-- `copied` is a copy of `text`, unless memory ran out.
abbrev pub IsTextCopied : List ℕ → Result (String Global) AllocError → Type 0
IsTextCopied text copied = IfOk copied (λ copy. text_of copy ≡ text)

-- The map `groups` has exactly the groups with these names and captures, which are in one order;
-- the last of equal names counts.
abbrev pub AreGroups : {S : Type 0} → (names : List (List ℕ)) → Captures
    → HashMap (String Global) (Option (String Global)) S → Type 0
AreGroups names captures groups =
    (name : List ℕ) → group_in groups name ≡ group_of names captures name

-- The map has no groups.
abbrev pub HasNoGroups : {S : Type 0} → HashMap (String Global) (Option (String Global)) S → Type 0
HasNoGroups groups = (name : List ℕ) → group_in groups name ≡ None

-- No component of the result has groups.
abbrev pub IsWithoutGroups : UrlPatternResult → Type 0
IsWithoutGroups result =
    (component : ComponentName) (name : List ℕ) → (result_view result component).group name ≡ None

-- The bytes of what a group captured. None: there is no such group, or the group took no part.
abbrev pub captured_bytes : Option (Option (String Global)) → Option (List ℕ)
captured_bytes (Some (Some text)) = Some (string_bytes text)
captured_bytes found = None

-- The characters of each string.
abbrev pub texts_of : List (String Global) → List (List ℕ)
texts_of strings = map (λ text. text_of text) strings

-- The bytes of each borrowed text.
abbrev pub borrowed_bytes : List (Bor (List ℕ)) → List (List ℕ)
borrowed_bytes texts = map (λ text. text.now) texts
