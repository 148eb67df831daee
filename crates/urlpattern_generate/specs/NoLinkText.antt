-- The text of a `NoLink`, as the bytes that are printed.
use Rattle.std.specs.Prelude.{ℕ, List, ◌++◌, None, Option, Some, codes}
use Rattle.urlpattern_components.specs.Eight.{name_text}
use Rattle.urlpattern_generate.specs.GenerateErrorText.{generate_error_text}
use Rattle.urlpattern_generate.specs.declared.no_link.NoLink.{NoLink}
use Rattle.urlpattern_generate.specs.declared.no_link.NoLink.TheVariants as errors

-- The text that is printed for an error. None: no text is promised, since the reason of `url` is
-- printed.
abbrev pub no_link_text : NoLink → Option (List ℕ)
no_link_text (errors.Component error) = Some (generate_error_text error)
no_link_text (errors.Url reason) = None
no_link_text (errors.OtherText component) =
    Some (codes "a URL with these texts has another " ++ name_text component
    ++ codes ": give other texts, or change the pattern")
no_link_text errors.OutOfMemory = Some (codes "out of memory")
