-- The URL with eight given texts, and why there is none.
use Rattle.std.specs.Prelude.{◌≡◌, ◌≢◌, ◌==◌, ◌&&◌, ◌++◌, All, ℕ, Bool, true, false, not, List, ◌∷◌, encode_utf8_all, length, None, Ok}
use Rattle.std.specs.{Borrow.Bor, Cow.cow_str_bytes, Str.IsUtf8, Str.chars}
use Rattle.std.specs.declared.borrow.CowStr.{CowStr}
use Rattle.std.specs.declared.alloc.Global.{Global}
use Rattle.url.specs.Ascii.{slash}
use Rattle.url.specs.Parser.{parse_url}
use Rattle.url.specs.Parts.{Parts}
use Rattle.urlpattern_canonical.specs.Canonical.{Reports}
use Rattle.urlpattern_init.specs.Inheritance.{url_text}
use Rattle.urlpattern_components.specs.declared.eight.ComponentName.{ComponentName}
use Rattle.urlpattern_components.specs.declared.eight.ComponentName.TheVariants.{Pathname}
use Rattle.urlpattern_components.specs.declared.eight.Eight.{Eight}
use Rattle.urlpattern_components.specs.Eight.{Texts, at, components, each}
use Rattle.urlpattern_syntax.specs.Errors.{ErrorView as views}
use Rattle.urlpattern_generate.specs.WrittenTexts.{cow_text}
use Rattle.urlpattern_syntax.specs.RegexpText.{is_empty}
use Rattle.urlpattern_syntax.specs.Text.{begins_with}
use Rattle.urlpattern_generate.specs.UrlLines.{url_line}
use Rattle.urlpattern_generate.specs.declared.no_link.NoLink.{NoLink}
use Rattle.urlpattern_generate.specs.declared.no_link.NoLink.TheVariants.{OtherText, OutOfMemory, Url}

-- The characters of each of the texts, which are borrowed or owned.
abbrev pub cow_texts : Eight (CowStr Global) → Texts
cow_texts texts = each (λ name. cow_text (at texts name))

-- `seen` borrows the bytes of the text, which are UTF-8.
abbrev pub IsSeenAs : CowStr Global → Bor (List ℕ) → Type 0
IsSeenAs text seen = (seen.now ≡ cow_str_bytes text) × IsUtf8 seen.now

-- `seen` borrows the bytes of each of the texts.
abbrev pub AreSeenAs : Eight (CowStr Global) → Eight (Bor (List ℕ)) → Type 0
AreSeenAs texts seen = (name : ComponentName) → IsSeenAs (at texts name) (at seen name)

-- The characters of each of the borrowed texts.
abbrev pub texts_seen : Eight (Bor (List ℕ)) → Texts
texts_seen seen = each (λ name. chars (at seen name).now)

-- The bytes of the text of a URL that is joined from the texts of its components.
abbrev pub line_of : Texts → List ℕ
line_of texts = url_line (each (λ name. encode_utf8_all (at texts name)))

-- The URL is the result of parsing the joined texts.
abbrev pub IsReadOfTexts : Texts → Parts → Type 0
IsReadOfTexts texts url = parse_url None (line_of texts) ≡ Ok url

-- For this component the URL has another text than the one in `texts`.
abbrev pub HasOtherText : Parts → Texts → ComponentName → Type 0
HasOtherText url texts component = url_text component url ≢ at texts component

-- Whether the path runs into the host before it: neither is empty, and the path does not begin with
-- a slash.
abbrev pub runs_on : Texts → Bool
runs_on texts = not (is_empty texts.hostname) && begins_with (λ c. not (c == slash)) texts.pathname

-- The components in the order in which the texts of a URL are compared with those it is to have:
-- all in order, preceded by the pathname if it runs into the host (`runs_on`).
abbrev pub compared_components : (runs_on : Bool) → List ComponentName
compared_components true = Pathname ∷ components
compared_components false = components

-- The component is at fault: the first, in the order of comparison, for which the URL has another
-- text than the one in `texts`.
abbrev pub IsAtFault : Parts → Texts → ComponentName → Type 0
IsAtFault url texts component =
    (before after : List ComponentName)
    × (compared_components (runs_on texts) ≡ before ++ component ∷ after)
    × All (λ earlier. url_text earlier url ≡ at texts earlier) before
    × HasOtherText url texts component

-- The error says that `url` rejects the text of these bytes, with its reason, or that memory ran
-- out.
abbrev pub RejectsLine : (bytes : List ℕ) → NoLink → Type 0
RejectsLine bytes (Url reason) = Reports (parse_url None bytes) (length bytes) (views.Url reason)
RejectsLine bytes OutOfMemory = Unit {0}
RejectsLine bytes error = ⊥

-- The error says why there is no URL with these texts: `url` rejects the joined texts, or parses
-- them as a URL with other texts; or memory ran out.
abbrev pub RejectsTexts : Texts → NoLink → Type 0
RejectsTexts texts (OtherText component) =
    (url : Parts) × IsReadOfTexts texts url × IsAtFault url texts component
RejectsTexts texts error = RejectsLine (line_of texts) error
