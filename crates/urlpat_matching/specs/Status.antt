-- The end of a run: its exit status, and what is printed if it has no output.
use Rattle.std.specs.Prelude.{ℕ, Bool, true, false, List, Option}
use Rattle.std.specs.Fmt.{with_newline}
use Rattle.urlpattern_syntax.specs.Errors.{error_view}
use Rattle.urlpattern_syntax.specs.ErrorText.{error_text}
use Rattle.urlpattern_syntax.specs.declared.error.Error.{Error}

-- The exit status: 0 if `any` is true, which says that something matches or is found, else 1.
abbrev pub status_of : (any : Bool) → ℕ
status_of true = 0
status_of false = 1

-- What is printed of an error for which a run has no output: its text, and a line end. `None`: no
-- text is promised for the error.
abbrev pub error_line : Error → Option (List ℕ)
error_line error = with_newline (error_text (error_view error))
