-- Lemmas on eight texts.
use Rattle.std.proofs.Common.{◌≡◌, ◌≢◌, ℕ, List, [], inl, inr, refl}
use Rattle.std.specs.Borrow.{Bor}
use Rattle.std.specs.Prelude.{slice_get, IfNone, Option, None, Some}
use Rattle.urlpattern.specs.Patterns.{PatternView, pattern_view}
use Rattle.urlpattern_components.specs.Eight.{Texts}
use Rattle.urlpattern_components.specs.declared.eight.ComponentName.TheVariants as names
use Rattle.urlpattern_components.specs.declared.eight.Eight.{Eight}
use Rattle.urlpattern_engine.specs.declared.pattern_regexp.PatternRegexp.{PatternRegexp}
use Rattle.urlpattern_ffi.specs.GroupSpans.{NumberedGroup, AreSpansWritten}
use Rattle.urlpattern_ffi.specs.KeptPatterns.{PatternList}
use Rattle.urlpattern_ffi.specs.PassedTexts.{AreTextsIn, IsPartFor}
use Rattle.urlpattern_ffi.specs.TextCaptures.{AreCapturesOf, AreFirstCapturesOf, AreFirstGroupsOfTexts, AreFirstTextCaptures, AreGroupsOfTexts, AreTextCaptures}
use Rattle.urlpattern_ffi.specs.declared.passed_texts.EightParts.{EightParts}
use Rattle.urlpattern_ffi.specs.declared.spans.GroupSpan.{GroupSpan}
use Rattle.urlpattern_ffi.specs.declared.spans.Sizes.{Sizes}
use Rattle.urlpattern_ffi.specs.declared.status.Status.{Status}
use Rattle.urlpattern_ffi.specs.declared.status.Status.TheVariants as statuses
use Rattle.urlpattern_matches.specs.GroupTexts.{borrowed_texts}
use Rattle.urlpattern_pattern.specs.UrlPatterns.{UrlPattern}

-- What is true holds of a result if that is None.
pub if_none : {A : Type 0} (result : Option A) (P : Type 0) → P → IfNone result P
if_none None P holds = holds
if_none (Some value) P holds = tt

-- The parts of a text for all components are its eight texts.
pub eight_parts : (text : List ℕ) (parts : EightParts) (texts : Eight (Bor (List ℕ)))
    → IsPartFor text parts names.Protocol texts.protocol.now → IsPartFor text parts names.Username texts.username.now
    → IsPartFor text parts names.Password texts.password.now → IsPartFor text parts names.Hostname texts.hostname.now
    → IsPartFor text parts names.Port texts.port.now → IsPartFor text parts names.Pathname texts.pathname.now
    → IsPartFor text parts names.Search texts.search.now → IsPartFor text parts names.Hash texts.hash.now
    → AreTextsIn text parts (borrowed_texts texts)
eight_parts text parts texts a b c d e f g h names.Protocol = (texts.protocol.now, a, refl)
eight_parts text parts texts a b c d e f g h names.Username = (texts.username.now, b, refl)
eight_parts text parts texts a b c d e f g h names.Password = (texts.password.now, c, refl)
eight_parts text parts texts a b c d e f g h names.Hostname = (texts.hostname.now, d, refl)
eight_parts text parts texts a b c d e f g h names.Port = (texts.port.now, e, refl)
eight_parts text parts texts a b c d e f g h names.Pathname = (texts.pathname.now, f, refl)
eight_parts text parts texts a b c d e f g h names.Search = (texts.search.now, g, refl)
eight_parts text parts texts a b c d e f g h names.Hash = (texts.hash.now, h, refl)

pub text_captured : (pattern : PatternView PatternRegexp) (texts : Texts) (groups : List NumberedGroup) (old new : List ℕ) (old_spans new_spans : List GroupSpan) (needed : Sizes) (status : Status)
    → AreGroupsOfTexts pattern texts groups → AreSpansWritten groups old new old_spans new_spans needed status → AreTextCaptures pattern texts old new old_spans new_spans needed status
text_captured pattern texts groups old new old_spans new_spans needed statuses.Done are written = (groups, are, written)
text_captured pattern texts groups old new old_spans new_spans needed statuses.OutOfMemory are written = inr (groups, are, written)
text_captured pattern texts groups old new old_spans new_spans needed statuses.TooSmall are written = (groups, are, written)
text_captured pattern texts groups old new old_spans new_spans needed status are written = absurd written

pub first_text_captured : (patterns : PatternList) (texts : Texts) (old_index index : ℕ) (groups : List NumberedGroup) (old new : List ℕ) (old_spans new_spans : List GroupSpan) (needed : Sizes) (status : Status)
    → AreFirstGroupsOfTexts patterns texts index groups → AreSpansWritten groups old new old_spans new_spans needed status
    → AreFirstTextCaptures patterns texts old_index index old new old_spans new_spans needed status
first_text_captured patterns texts old_index index groups old new old_spans new_spans needed statuses.Done are written = (groups, are, written)
first_text_captured patterns texts old_index index groups old new old_spans new_spans needed statuses.OutOfMemory are written = inr (groups, are, written)
first_text_captured patterns texts old_index index groups old new old_spans new_spans needed statuses.TooSmall are written = (groups, are, written)
first_text_captured patterns texts old_index index groups old new old_spans new_spans needed status are written = absurd written

module _ (AreRead : Texts → Type 0) (AreUnread : Status → Type 0) (patterns : PatternList) where
  pub captures_read : (index : ℕ) (pattern : UrlPattern PatternRegexp) (texts : Texts) (old new : List ℕ) (old_spans new_spans : List GroupSpan) (needed : Sizes) (status : Status)
      → slice_get patterns index ≡ Some pattern → AreRead texts → AreTextCaptures (pattern_view pattern) texts old new old_spans new_spans needed status
      → AreCapturesOf AreRead AreUnread patterns index old new old_spans new_spans needed status
  captures_read index pattern texts old new old_spans new_spans needed statuses.NoPattern is read answer = absurd answer
  captures_read index pattern texts old new old_spans new_spans needed status is read answer = (pattern, is, inl (texts, read, answer))

  pub captures_unread : (index : ℕ) (pattern : UrlPattern PatternRegexp) (old : List ℕ) (old_spans : List GroupSpan) (needed : Sizes) (status : Status)
      → slice_get patterns index ≡ Some pattern → (¬ AreUnread statuses.NoPattern) → AreUnread status
      → AreCapturesOf AreRead AreUnread patterns index old old old_spans old_spans needed status
  captures_unread index pattern old old_spans needed statuses.NoPattern is never unread = absurd (never unread)
  captures_unread index pattern old old_spans needed status is never unread = (pattern, is, inr (unread, refl, refl))

  pub first_read : (texts : Texts) (old_index new_index : ℕ) (old new : List ℕ) (old_spans new_spans : List GroupSpan) (needed : Sizes) (status : Status)
      → patterns ≢ [] → AreRead texts → AreFirstTextCaptures patterns texts old_index new_index old new old_spans new_spans needed status
      → AreFirstCapturesOf AreRead AreUnread patterns old_index new_index old new old_spans new_spans needed status
  first_read texts old_index new_index old new old_spans new_spans needed statuses.NoPattern some read answer = absurd answer
  first_read texts old_index new_index old new old_spans new_spans needed status some read answer = (some, inl (texts, read, answer))

  pub first_unread : (old_index : ℕ) (old : List ℕ) (old_spans : List GroupSpan) (needed : Sizes) (status : Status)
      → patterns ≢ [] → (¬ AreUnread statuses.NoPattern) → AreUnread status
      → AreFirstCapturesOf AreRead AreUnread patterns old_index old_index old old old_spans old_spans needed status
  first_unread old_index old old_spans needed statuses.NoPattern some never unread = absurd (never unread)
  first_unread old_index old old_spans needed status some never unread = (some, inr (unread, refl, refl, refl))
