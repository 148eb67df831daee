-- The URLs of pages of documentation.
use Rattle.std.specs.Prelude.{◌≡◌, ◌⊎◌, ℕ, List, ◌++◌, codes, Option, None, Some}
use Rattle.std.specs.Str.{chars}
use Rattle.url.specs.Parts.{Parts}
use Rattle.example.specs.Sites.{IsOnSite}

-- The path is `/docs` without a language, and `/en/docs` or `/fr/docs` with one.
abbrev pub IsDocsPath : (path : List ℕ) → (language : Option (List ℕ)) → Type 0
IsDocsPath path None = path ≡ codes "/docs"
IsDocsPath path (Some language) =
    ((language ≡ codes "en") ⊎ (language ≡ codes "fr"))
    × (path ≡ codes "/" ++ language ++ codes "/docs")

-- `url` is the URL of the page in this language, or without one.
abbrev pub IsDocs : Parts → (language : Option (List ℕ)) → Type 0
IsDocs url language = IsOnSite url × IsDocsPath url.path language

-- The URL is not the URL of a page of documentation, in any language or without one.
abbrev pub IsNoDocs : Parts → Type 0
IsNoDocs url = (language : Option (List ℕ)) → ¬ IsDocs url language

-- The text of the pattern of the pages.
abbrev pub docs_text : List ℕ
docs_text = chars (codes "https://example.com/:lang(en|fr)?/docs")
