-- The texts of a URL are lines of ASCII.
use Rattle.std.specs.Prelude.{ℕ, List, IsAscii, IsTrue}
use Rattle.std.specs.Str.{all_scalars}
use Rattle.url.specs.Parts.{IsValid, Parts}
use Rattle.urlpattern_init.specs.Inheritance.{texts_of_url}
use Rattle.urlpattern_components.specs.declared.eight.ComponentName.{ComponentName}
use Rattle.urlpattern_components.specs.Eight.{Texts, at}
use Rattle.urlpattern_syntax.specs.Text.{lacks, line_feed}

-- The text is a line: it consists of characters, none of them a line feed.
pub record IsLine (text : List ℕ) : Type 0 where
  pub characters : IsTrue (all_scalars text)
  pub no_line_feed : IsTrue (lacks line_feed text)

-- Each of the eight texts is a line.
abbrev pub EachIsLine : Texts → Type 0
EachIsLine texts = (component : ComponentName) → IsLine (at texts component)

-- Each of the eight texts of a valid URL is a line.
abbrev pub TextsOfUrlsAreLines : Type 0
TextsOfUrlsAreLines = (url : Parts) → IsValid url → EachIsLine (texts_of_url url)

-- Each of the eight texts is ASCII.
abbrev pub EachIsAscii : Texts → Type 0
EachIsAscii texts = (component : ComponentName) → IsAscii (at texts component)

-- Each of the eight texts of a valid URL is ASCII.
abbrev pub TextsOfUrlsAreAscii : Type 0
TextsOfUrlsAreAscii = (url : Parts) → IsValid url → EachIsAscii (texts_of_url url)
