-- Texts in JSON.
use Rattle.std.specs.Prelude.{ℕ, true, false, List, None, Option, Some, codes}
use Rattle.std.specs.Fmt.{decimal}
use Rattle.serde_json.specs.Data.{Data, boolean, null, number, string, unsigned}

-- The text that is read where a text is asked for: a string, or the text of null, of a Boolean or
-- of an integer that is not negative. None: the value is another one.
abbrev pub text_read : Data → Option (List ℕ)
text_read (string text) = Some text
text_read null = Some (codes "null")
text_read (boolean true) = Some (codes "true")
text_read (boolean false) = Some (codes "false")
text_read (number (unsigned n)) = Some (decimal n)
text_read tree = None
