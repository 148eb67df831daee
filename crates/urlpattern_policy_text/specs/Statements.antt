-- What the lines of a policy's text say. Texts are bytes.
use Rattle.std.specs.Prelude.{◌==◌, ◌+◌, ◌-◌, ◌&&◌, ◌||◌, ℕ, Bool, true, false, List, [], ◌∷◌, None, Option, Some, bytes_eq, codes, find, length, nat_le, nat_lt, slice_index, take, if◌then◌else◌}
use Rattle.std.specs.List.{after_first, before_first, count_by, list_any}
use Rattle.std.specs.Str.{trim, trim_end}
use Rattle.urlpattern_differences.specs.declared.rules.Effect.{Effect}
use Rattle.urlpattern_differences.specs.declared.rules.Effect.TheVariants as effects
use Rattle.urlpattern_policy.specs.declared.policy.PolicyOptions.{PolicyOptions}
use Rattle.urlpattern_policy_text.specs.declared.statement.Setting.{Setting}
use Rattle.urlpattern_policy_text.specs.declared.statement.Setting.TheVariants as settings
use Rattle.urlpattern_policy_text.specs.declared.statement.Statement.{Statement}
use Rattle.urlpattern_policy_text.specs.declared.statement.Statement.TheVariants as statements
use Rattle.urlpattern_policy_text.specs.declared.statement.WordFault.{WordFault}
use Rattle.urlpattern_policy_text.specs.declared.statement.WordFault.TheVariants as faults

-- A setting, by its text.
pub data SettingView : Type 0 where
  Default : Effect → SettingView
  Base : List ℕ → SettingView
  PlainSpelling DeniesCredentials : Bool → SettingView

-- A statement, by its text.
pub data StatementView : Type 0 where
  Nothing : StatementView
  Rule : Effect → List ℕ → StatementView
  Says : SettingView → StatementView
  Fault : WordFault → StatementView

-- The view of a setting.
abbrev pub setting_view : Setting → SettingView
setting_view (settings.Default effect) = Default effect
setting_view (settings.Base text) = Base text.now
setting_view (settings.PlainSpelling is) = PlainSpelling is
setting_view (settings.DeniesCredentials is) = DeniesCredentials is

-- The view of a statement.
abbrev pub statement_view : Statement → StatementView
statement_view statements.Nothing = Nothing
statement_view (statements.Rule effect pattern) = Rule effect pattern.now
statement_view (statements.Setting setting) = Says (setting_view setting)
statement_view (statements.Fault fault) = Fault fault

-- Whether a line without white space at its ends says nothing: it is empty, or begins with `#`.
abbrev pub is_skipped : List ℕ → Bool
is_skipped [] = true
is_skipped (first ∷ content) = first == slice_index (codes "#") 0

-- Whether a byte is a space.
abbrev pub is_space : ℕ → Bool
is_space c = c == slice_index (codes " ") 0

-- The first word of a line without white space at its ends.
abbrev pub word_of : List ℕ → List ℕ
word_of content = before_first is_space content

-- What follows the first word, without white space at its ends.
abbrev pub after_word : List ℕ → List ℕ
after_word content = trim (after_first is_space content)

-- What is said with a value: that it is missing if it is empty.
abbrev pub with_value : (value : List ℕ) → StatementView → StatementView
with_value [] said = Fault faults.MissingValue
with_value (first ∷ value) said = said

-- Whether a byte is a control character.
abbrev pub is_control : ℕ → Bool
is_control byte = nat_lt byte 32 || byte == 127

-- Whether a text begins with `#`.
abbrev pub begins_comment : List ℕ → Bool
begins_comment [] = false
begins_comment (first ∷ text) = first == slice_index (codes "#") 0

-- Whether a text begins with a space and `#`.
abbrev pub is_comment_next : List ℕ → Bool
is_comment_next [] = false
is_comment_next (first ∷ text) = is_space first && begins_comment text

-- Whether a comment seems to be in a text: a space is right before `#`.
abbrev pub has_comment : List ℕ → Bool
has_comment [] = false
has_comment (first ∷ text) = is_comment_next (first ∷ text) || has_comment text

-- Whether it is not clear what a text is meant to be: it has a control character, or seems to have
-- a comment.
abbrev pub is_unclear : (value : List ℕ) → Bool
is_unclear value = list_any is_control value || has_comment value

-- What is said with a value that may be any clear text.
abbrev pub with_text : (value : List ℕ) → StatementView → StatementView
with_text value said =
    if is_unclear value then Fault faults.UnclearValue else with_value value said

-- The setting for the value `one`, or that for the value `other`.
abbrev pub chosen : (value one other : List ℕ) → (for_one for_other : SettingView) → StatementView
chosen value one other for_one for_other =
    if bytes_eq value one then Says for_one
    else (if bytes_eq value other then Says for_other
    else with_value value (Fault faults.UnknownValue))

-- What a word and its value say.
abbrev pub said_by : (word value : List ℕ) → StatementView
said_by word value =
    if bytes_eq word (codes "allow") then with_text value (Rule effects.Allow value)
    else (if bytes_eq word (codes "deny") then with_text value (Rule effects.Deny value)
    else (if bytes_eq word (codes "base") then with_text value (Says (Base value))
    else (if bytes_eq word (codes "default")
    then chosen value (codes "allow") (codes "deny") (Default effects.Allow) (Default effects.Deny)
    else (if bytes_eq word (codes "spelling")
    then chosen value (codes "plain") (codes "exact") (PlainSpelling true) (PlainSpelling false)
    else (if bytes_eq word (codes "credentials")
    then chosen value (codes "deny") (codes "rules") (DeniesCredentials true)
    (DeniesCredentials false)
    else Fault faults.UnknownWord)))))

-- What a line says. White space at its ends is left out.
abbrev pub statement_of : (line : List ℕ) → StatementView
statement_of line =
    if is_skipped (trim line) then Nothing
    else said_by (word_of (trim line)) (after_word (trim line))

-- ---- columns

-- Whether a byte begins a character.
abbrev pub begins_character : ℕ → Bool
begins_character byte = nat_lt byte 128 || nat_le 192 byte

-- The column of a line, from 1 on, at the byte index `into` of `part`, with which the line ends
-- before the white space at its end: how many characters are before it, and 1.
abbrev pub column_of : (line part : List ℕ) → (into : ℕ) → ℕ
column_of line part into =
    (count_by begins_character (take (length (trim_end line) - length part) line)
    + count_by begins_character (take into part)) + 1

-- ---- settings

-- Whether two settings are of one kind.
abbrev pub is_like : (sample setting : SettingView) → Bool
is_like (Default effect) (Default other) = true
is_like (Base text) (Base other) = true
is_like (PlainSpelling is) (PlainSpelling other) = true
is_like (DeniesCredentials is) (DeniesCredentials other) = true
is_like sample setting = false

-- Whether a statement makes a setting of the same kind as `sample`.
abbrev pub sets_like : (sample : SettingView) → StatementView → Bool
sets_like sample (Says setting) = is_like sample setting
sets_like sample statement = false

-- The default that a statement sets: to deny, if none does.
abbrev pub default_in : Option StatementView → Effect
default_in (Some (Says (Default effect))) = effect
default_in statement = effects.Deny

-- Whether URLs are brought to their plain spelling by a statement: they are, if none says so.
abbrev pub is_spelled_plain_in : Option StatementView → Bool
is_spelled_plain_in (Some (Says (PlainSpelling is))) = is
is_spelled_plain_in statement = true

-- Whether credentials are denied by a statement: they are not, if none says so.
abbrev pub denies_credentials_in : Option StatementView → Bool
denies_credentials_in (Some (Says (DeniesCredentials is))) = is
denies_credentials_in statement = false

-- The base URL that a statement sets.
abbrev pub base_in : Option StatementView → Option (List ℕ)
base_in (Some (Says (Base text))) = Some text
base_in statement = None

-- The options that statements set.
abbrev pub options_of : List StatementView → PolicyOptions
options_of statements = record {
  default = default_in (find (sets_like (Default effects.Deny)) statements);
  plain_spelling = is_spelled_plain_in (find (sets_like (PlainSpelling true)) statements);
  denies_credentials = denies_credentials_in
      (find (sets_like (DeniesCredentials false)) statements);
}

-- The base URL that statements set.
abbrev pub base_of : List StatementView → Option (List ℕ)
base_of statements = base_in (find (sets_like (Base [])) statements)
