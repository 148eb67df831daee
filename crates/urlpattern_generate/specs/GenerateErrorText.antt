-- The text of a `GenerateError`, as the bytes that are printed.
use Rattle.std.specs.Prelude.{ℕ, List, ◌++◌, codes, string_bytes}
use Rattle.urlpattern_components.specs.Eight.{name_text}
use Rattle.urlpattern_generate.specs.declared.generate_error.GenerateError.{GenerateError}
use Rattle.urlpattern_generate.specs.declared.generate_error.GenerateError.TheVariants as errors

-- The text that is printed for an error. A group has the name of its component before its own.
abbrev pub generate_error_text : GenerateError → List ℕ
generate_error_text (errors.Missing component name) =
    codes "the group `" ++ name_text component
    ++ (codes "." ++ string_bytes name ++ codes "` is missing: give a text for it")
generate_error_text (errors.NotCaptured component name) =
    codes "the group `" ++ name_text component
    ++ (codes "." ++ string_bytes name
    ++ codes "` cannot capture what is given for it: give a text that it matches")
generate_error_text (errors.ReadOtherwise component) =
    codes "the " ++ name_text component
    ++ codes " would be read with other groups, or no URL has it: give other texts"
generate_error_text errors.NoParts =
    codes "the pattern was put together by hand, so that its parts are not known: compile it"
generate_error_text errors.OutOfMemory = codes "out of memory"
