-- The text of parts whose groups have the requested captures, and why there is none.
use Rattle.std.specs.Prelude.{◌≡◌, ◌≢◌, ◌⊎◌, ◌++◌, ℕ, List, [], ◌∷◌, drop, Option, Some, None, String}
use Rattle.std.specs.declared.alloc.Global.{Global}
use Rattle.std.specs.declared.borrow.CowStr.{CowStr}
use Rattle.std.specs.Cow.{cow_str_bytes}
use Rattle.std.specs.Str.{chars}
use Rattle.urlpattern_components.specs.declared.eight.ComponentName.{ComponentName}
use Rattle.urlpattern_generate.specs.Requested.{AreRequested, IsRequested, RejectsGiven}
use Rattle.urlpattern_generate.specs.WriteSettings.{WriteSettings, given_groups, settings_for}
use Rattle.urlpattern_generate.specs.declared.generate_error.GenerateError.{GenerateError}
use Rattle.urlpattern_generate.specs.declared.generate_error.GenerateError.TheVariants.{Missing, NotCaptured, OutOfMemory}
use Rattle.urlpattern_generate.specs.declared.substitution.Substitution.{Substitution}
use Rattle.urlpattern_generate.specs.Links.{MayCapture, MayCaptureAll, OfFirst, captures_after, text_of_parts}
use Rattle.urlpattern_meaning.specs.PartMeaning.{Captures}
use Rattle.urlpattern_syntax.specs.ComponentParts.{kept_options, kept_parts}
use Rattle.urlpattern_syntax.specs.declared.parser.PartType.{PartType}
use Rattle.urlpattern_syntax.specs.Parts.{PartView}
use Rattle.urlpattern_syntax.specs.Text.{text_of}

-- The text is written from the parts with the requested captures, which their groups may have: the
-- canonical form of a group's value, or for a group without a value its `default_capture`.
pub record IsWritten (settings : WriteSettings) (parts : List PartView) (text : List ℕ) : Type 0
  where
    pub captures : Captures
    pub are_requested : AreRequested settings parts captures
    pub may_capture : MayCaptureAll settings.options parts captures
    pub is_text : text ≡ text_of_parts parts captures

-- ---- errors

-- The capture requested of the group is None, but the group cannot be left out.
abbrev pub IsMissing : WriteSettings → PartView → Type 0
IsMissing settings part = IsRequested settings part None × ¬ MayCapture settings.options part None

-- `url` rejects the value of the group, or the group may not capture the text that is requested of
-- it.
abbrev pub IsNotCaptured : WriteSettings → PartView → Type 0
IsNotCaptured settings part =
    RejectsGiven settings part.name
    ⊎ ((text : List ℕ) × IsRequested settings part (Some text)
    × ¬ MayCapture settings.options part (Some text))

-- The part is a group of this name.
abbrev pub IsGroup : (name : List ℕ) → PartView → Type 0
IsGroup name part = (part.kind ≢ PartType.FixedText) × (part.name ≡ name)

-- The error says why the part cannot be written with the requested capture, and names the component
-- and the group; or memory ran out.
abbrev pub RejectsPart : ComponentName → WriteSettings → PartView → GenerateError → Type 0
RejectsPart component settings part (Missing of name) =
    (of ≡ component) × IsGroup (text_of name) part × IsMissing settings part
RejectsPart component settings part (NotCaptured of name) =
    (of ≡ component) × IsGroup (text_of name) part × IsNotCaptured settings part
RejectsPart component settings part OutOfMemory = Unit {0}
RejectsPart component settings part error = ⊥

-- The error says why a part cannot be written, the first that cannot, or that memory ran out.
abbrev pub CannotWrite : ComponentName → WriteSettings → List PartView → GenerateError → Type 0
CannotWrite component settings parts error =
    (error ≡ OutOfMemory)
    ⊎ ((before after : List PartView)
    × (part : PartView) × (text : List ℕ)
    × (parts ≡ before ++ part ∷ after)
    × IsWritten settings before text × RejectsPart component settings part error)

-- ---- steps of writing

-- The characters of a text that is borrowed or owned.
abbrev pub cow_text : CowStr Global → List ℕ
cow_text text = chars (cow_str_bytes text)

-- How the text of a component is written by a `Substitution`.
abbrev pub settings_of_writer : Substitution → WriteSettings
settings_of_writer writer =
    settings_for writer.component (kept_options writer.kept.now) (kept_parts writer.kept.now)
    (given_groups writer.groups.now)

-- If the part is a group, the capture at `index` is the one requested of the group, and the
-- captures of the parts that follow begin at index `next`. None: the capture is another one, or
-- missing.
abbrev pub LeavesRequested : WriteSettings → PartView → Captures → (index : ℕ) → (next : Option ℕ)
    → Type 0
LeavesRequested settings part captures index None =
    ¬ OfFirst (IsRequested settings) part.kind part (drop index captures)
LeavesRequested settings part captures index (Some next) =
    OfFirst (IsRequested settings) part.kind part (drop index captures)
    × (captures_after part.kind (drop index captures) ≡ drop next captures)

-- `new` is `old` with the text of the part appended, written with the requested capture.
abbrev pub AppendsPart : WriteSettings → PartView → (old new : String Global) → Type 0
AppendsPart settings part old new =
    (text : List ℕ) × IsWritten settings (part ∷ []) text × (text_of new ≡ text_of old ++ text)
