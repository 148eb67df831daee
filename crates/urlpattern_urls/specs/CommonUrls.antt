-- Whether a URL exists that each of some patterns matches, and none of others.
use Rattle.std.specs.Prelude.{◌≡◌, ◌≢◌, ◌++◌, ◌+◌, ◌≤◌, ℕ, Err, List, Ok, Result, String, length}
use Rattle.std.specs.declared.alloc.Global.{Global}
use Rattle.std.specs.declared.borrow.CowStr.{CowStr}
use Rattle.url.specs.Parts.{IsValid, Parts}
use Rattle.urlpattern_compare.specs.Candidates.{TextAt}
use Rattle.urlpattern_compare.specs.CommonTexts.{AreCommon, AreMeanings, DependsIfUnknown, IsDoubt, PatternMeaning, parts_of, string_at}
use Rattle.urlpattern_compare.specs.declared.candidates.Limits.{Limits}
use Rattle.urlpattern_compare.specs.declared.common_texts.Common.TheVariants as answers
use Rattle.urlpattern_compare.specs.declared.common_texts.Doubt.{Doubt}
use Rattle.urlpattern_compare.specs.declared.common_texts.Doubt.TheVariants as doubts
use Rattle.urlpattern_compare.specs.declared.common_texts.PatternAutomata.{PatternAutomata}
use Rattle.urlpattern_components.specs.Eight.{Texts, at, each}
use Rattle.urlpattern_components.specs.declared.eight.Eight.{Eight}
use Rattle.urlpattern_generate.specs.UrlsOfTexts.{RejectsTexts}
use Rattle.urlpattern_generate.specs.WrittenTexts.{cow_text}
use Rattle.urlpattern_generate.specs.declared.no_link.NoLink.{NoLink}
use Rattle.urlpattern_generate.specs.declared.no_link.NoLink.TheVariants.{OutOfMemory}
use Rattle.urlpattern_init.specs.Inheritance.{texts_of_url, url_text}
use Rattle.urlpattern_syntax.specs.Text.{text_of}
use Rattle.urlpattern_urls.specs.declared.common_url.CommonUrl.{CommonUrl}
use Rattle.urlpattern_urls.specs.declared.common_url.CommonUrl.TheVariants as found

-- The characters of eight strings.
abbrev pub string_texts : Eight (String Global) → Texts
string_texts texts = each (λ name. text_of (at texts name))

-- The texts of a URL, for each component.
abbrev pub url_at : Parts → TextAt
url_at url = λ name. url_text name url

-- Whatever unknown components match, each pattern of `all_of` matches the texts, and no pattern of
-- `none_of` does.
abbrev pub AreCommonOf : (all_of none_of : List PatternAutomata) → TextAt → Type 0
AreCommonOf all_of none_of texts =
    (all none : List PatternMeaning) → AreMeanings (parts_of all_of) (parts_of none_of) all none
    → AreCommon all none texts

-- Whatever unknown components match, there is no URL that each pattern of `all_of` matches, and no
-- pattern of `none_of`.
abbrev pub NoUrlIsCommon : (all_of none_of : List PatternAutomata) → Type 0
NoUrlIsCommon all_of none_of =
    (all none : List PatternMeaning) → AreMeanings (parts_of all_of) (parts_of none_of) all none
    → (url : Parts) → IsValid url → ¬ AreCommon all none (url_at url)

-- The doubt of a question in which `count` patterns stand before those of `none_of`.
abbrev pub after_facts : (count : ℕ) → Doubt → Doubt
after_facts count (doubts.NoneOf lack) =
    doubts.NoneOf (record {
      pattern = count + lack.pattern;
      component = lack.component;
      reason = lack.reason;
    })
after_facts count doubt = doubt

-- Whether a URL is common is not known, for the reason.
abbrev pub IsUnknownUrl : (facts all_of none_of : List PatternAutomata) → Limits → Doubt → Type 0
IsUnknownUrl facts all_of none_of limits doubt =
    IsDoubt all_of (facts ++ none_of) limits (after_facts (length facts) doubt)
    × DependsIfUnknown all_of (facts ++ none_of)
    (answers.Unknown (after_facts (length facts) doubt))

-- The texts are common, and unlike those of a URL in none of the known ways, but their joined text
-- is that of no URL, or of one with other texts.
abbrev pub AreOfNoUrl : (facts all_of none_of : List PatternAutomata) → Eight (String Global)
    → NoLink → Type 0
AreOfNoUrl facts all_of none_of texts reason =
    AreCommonOf all_of (facts ++ none_of) (string_at texts)
    × RejectsTexts (string_texts texts) reason × (reason ≢ OutOfMemory)

-- What each result says, where `facts` are the patterns for texts unlike those of a URL. Url: the
-- URL is common. Nothing: no URL is. Texts: other texts are, but those of no URL. Unknown: nothing
-- is known, for the reason.
abbrev pub IsCommonUrl : (facts all_of none_of : List PatternAutomata) → Limits → CommonUrl
    → Type 0
IsCommonUrl facts all_of none_of limits (found.Url url) = AreCommonOf all_of none_of (url_at url)
IsCommonUrl facts all_of none_of limits found.Nothing = NoUrlIsCommon all_of none_of
IsCommonUrl facts all_of none_of limits (found.Texts texts reason) =
    AreOfNoUrl facts all_of none_of texts reason
IsCommonUrl facts all_of none_of limits (found.Unknown doubt) =
    IsUnknownUrl facts all_of none_of limits doubt

-- ---- steps

-- The URL has the texts, or why none is known to.
abbrev pub IsRead : Texts → Result Parts NoLink → Type 0
IsRead texts (Ok url) = texts_of_url url ≡ texts
IsRead texts (Err reason) = RejectsTexts texts reason × (reason ≢ OutOfMemory)

-- The text is borrowed from the string.
abbrev pub IsBorrowedFrom : String Global → CowStr Global → Type 0
IsBorrowedFrom text borrowed = cow_text borrowed ≡ text_of text

-- If the doubt is about a pattern of `none_of`, it is none of the first `count`.
abbrev pub IsOwnDoubt : (count : ℕ) → Doubt → Type 0
IsOwnDoubt count (doubts.NoneOf lack) = count ≤ lack.pattern
IsOwnDoubt count doubt = Unit {0}
