-- No URL has texts that the patterns for texts unlike those of a URL match.
use Rattle.std.proofs.Common.{◌≡◌, ◌≢◌, ◌∙◌, ◌⊎◌, ◌<◌, ◌≤◌, ◌++◌, ℕ, zero, suc, true, false, not, List, [], ◌∷◌, None, Some, Option, Ok, Err, ap, append-nil, arith, codes, inl, inr, length, refl, subst, sym}
use Rattle.std.proofs.lemmas.Bool.{and_parts, false≢true}
use Rattle.std.proofs.lemmas.List.Elements.{All-cons, All-nil}
use Rattle.std.proofs.lemmas.Str.{chars-IsAscii}
use Rattle.std.specs.Prelude.{IsTrue, MatchOption, get_or, is_some, unwrap_or}
use Rattle.std.specs.Str.{chars}
use Rattle.url.proofs.HostLemmas.{IsAscii-host_text}
use Rattle.url.proofs.HostRoundTrip.{parse_special_host-host_text}
use Rattle.url.proofs.OnLiterals.{url_on_literals}
use Rattle.url.proofs.PathLemmas.{rooted}
use Rattle.url.specs.Ascii.{slash}
use Rattle.url.specs.Host.{IsHostOf, host_text, parse_special_host}
use Rattle.url.specs.Parts.{IsValid, Parts, kind_of}
use Rattle.url.specs.Scheme.{is_special, scheme_type}
use Rattle.url.specs.declared.error.ParseError.TheVariants.{EmptyHost}
use Rattle.url.specs.declared.host.Host.{Host}
use Rattle.url.specs.declared.host.Host.TheVariants.{Domain}
use Rattle.url.specs.declared.scheme.SchemeType.TheVariants.{SpecialNotFile}
use Rattle.urlpattern_compare.proofs.ComponentLemmas.{anything_generated}
use Rattle.urlpattern_compare.proofs.KeptCase.{kept_means}
use Rattle.urlpattern_compare.specs.Comparing.{MeansIn, anything_part}
use Rattle.urlpattern_compare.specs.MeantTexts.{MeansText}
use Rattle.urlpattern_compare.specs.declared.pattern_parts.PatternParts.{PatternParts}
use Rattle.urlpattern_components.specs.Eight.{at}
use Rattle.urlpattern_components.specs.declared.eight.ComponentName.{ComponentName}
use Rattle.urlpattern_components.specs.declared.eight.ComponentName.TheVariants.{Hostname, Pathname, Protocol}
use Rattle.urlpattern_init.proofs.UrlTexts.{chars-path, chars-scheme}
use Rattle.urlpattern_init.specs.Inheritance.{url_text}
use Rattle.urlpattern_meaning.specs.PartMeaning.{AreCopies, AreGenerated, Captures, PartsMean}
use Rattle.urlpattern_syntax.specs.Options.{OptionsView, standard_options}
use Rattle.urlpattern_syntax.specs.Parts.{PartView, parts_view}
use Rattle.urlpattern_syntax.specs.Text.{lacks}
use Rattle.urlpattern_syntax.specs.declared.parser.{PartModifier.PartModifier, PartType.PartType}
use Rattle.urlpattern_syntax.specs.declared.parts.ComponentParts.{ComponentParts}
use Rattle.urlpattern_urls.specs.Unlike.{IsMadeOf, NoUrlIsUnlike, own_parts, part_of, web_parts}
use Rattle.urlpattern_urls.specs.declared.unlike.Unlike.{Unlike}
use Rattle.urlpattern_urls.specs.declared.unlike.Unlike.TheVariants.{NoHostname, NoPathname, NoProtocol, NoSlash}

-- ---- what the parts mean

abbrev options : OptionsView
options = standard_options (Some slash) []

-- The parts mean the text, as it is.
abbrev Means : List PartView → (text : List ℕ) → Type 0
Means parts text = (captures : Captures) × PartsMean options parts text captures

abbrev segment : PartView
segment = part_of PartType.SegmentWildcard [] PartModifier.None

-- A text with a slash in front does not begin with a segment.
no_slash_first : (piece rest more : List ℕ) → piece ≢ [] → IsTrue (lacks slash piece) → piece ++ rest ≡ slash ∷ more → ⊥
no_slash_first [] rest more some plain e = some refl
no_slash_first (c ∷ piece) rest more some plain e =
    let same : c ≡ slash = cc e in
    let never : IsTrue (lacks slash (slash ∷ piece)) = subst (λ (x : ℕ). IsTrue (lacks slash (x ∷ piece))) same plain in
    false≢true never

segment_copy : (text rest more : List ℕ) → AreCopies options segment 1 text → text ++ rest ≡ slash ∷ more → ⊥
segment_copy text rest more (first, last, cut, (piece, is, (some, plain)), end) e =
    let whole : text ≡ piece = cut ∙ ap (λ (l : List ℕ). first ++ l) end ∙ append-nil first ∙ is ∙ append-nil piece in
    no_slash_first piece rest more some plain (sym (ap (λ (l : List ℕ). l ++ rest) whole) ∙ e)

no_slash_means : (text more : List ℕ) → Means (own_parts NoSlash) text → text ≡ slash ∷ more → ⊥
no_slash_means text more (captures, (first, rest, own, others, cut, joined, means, end)) e =
    segment_copy first rest more (subst (λ (n : ℕ). AreCopies options segment n first) means.allowed means.are_copies) (sym cut ∙ e)

-- The parts of `http{s}?` mean two texts.
abbrev IsWeb : List ℕ → Type 0
IsWeb text = (text ≡ codes "http") ⊎ (text ≡ codes "https")

one_copy : (value : List ℕ) (modifier : PartModifier) (text : List ℕ) → AreCopies options (part_of PartType.FixedText value modifier) 1 text → text ≡ value
one_copy value modifier text (first, last, cut, is, end) = cut ∙ ap (λ (l : List ℕ). first ++ l) end ∙ append-nil first ∙ is

optional_copies : (value : List ℕ) (n : ℕ) (text : List ℕ) → n ≤ 1 → AreCopies options (part_of PartType.FixedText value PartModifier.Optional) n text → (text ≡ []) ⊎ (text ≡ value)
optional_copies value zero text most copies = inl copies
optional_copies value (suc zero) text most copies = inr (one_copy value PartModifier.Optional text copies)
optional_copies value (suc (suc n)) text most copies = absurd (omega (arith, most))

web_means : (text : List ℕ) → Means web_parts text → IsWeb text
web_means text (captures, (first, rest, own, others, cut, joined, means, (second, end, second_own, second_others, second_cut, second_joined, second_means, last))) =
    let http = one_copy (codes "http") PartModifier.None first (subst (λ (n : ℕ). AreCopies options (part_of PartType.FixedText (codes "http") PartModifier.None) n first) means.allowed means.are_copies) in
    let whole : text ≡ codes "http" ++ second =
    cut ∙ ap (λ (l : List ℕ). l ++ rest) http ∙ ap (λ (l : List ℕ). codes "http" ++ l) (second_cut ∙ ap (λ (l : List ℕ). second ++ l) last.0 ∙ append-nil second) in
    elim (optional_copies (codes "s") second_means.count second second_means.allowed second_means.are_copies) [
      | inl none ↦ inl (whole ∙ ap (λ (l : List ℕ). codes "http" ++ l) none)
      | inr s ↦ inr (whole ∙ ap (λ (l : List ℕ). codes "http" ++ l) s)
    ]

-- ---- no part is custom

abbrev Generated : PartView → Type 0
Generated part = part.kind ≢ PartType.Regexp

abbrev fixed_s : PartView
fixed_s = part_of PartType.FixedText (codes "s") PartModifier.Optional

pub web_generated : AreGenerated web_parts
web_generated =
    All-cons Generated (part_of PartType.FixedText (codes "http") PartModifier.None) (fixed_s ∷ []) (λ e. absurd (cc e))
    (All-cons Generated fixed_s [] (λ e. absurd (cc e)) (All-nil Generated))

pub own_generated : (way : Unlike) → AreGenerated (own_parts way)
own_generated NoProtocol = All-nil Generated
own_generated NoHostname = All-nil Generated
own_generated NoPathname = All-nil Generated
own_generated NoSlash = All-cons Generated (part_of PartType.SegmentWildcard [] PartModifier.None) (anything_part ∷ []) (λ e. absurd (cc e)) anything_generated

-- ---- a component

module _ (parts : List PartView) (component : ComponentParts) (is : IsMadeOf parts component) (generated : AreGenerated parts) where
  means_of : (text : List ℕ) → MeansIn component text → Means parts text
  means_of text means =
      (kept_means options parts text refl generated).0
      (subst (λ (own : List PartView). MeansText options own text) is.are
      (subst (λ (own : OptionsView). MeansText own (parts_view component.parts.items) text) is.options means))

nothing_means : (text : List ℕ) → Means [] text → text ≡ []
nothing_means text (captures, means) = means.0

-- ---- the texts of a URL

http_is_special : scheme_type (codes "http") ≡ SpecialNotFile
unfolding url_on_literals
http_is_special = refl

https_is_special : scheme_type (codes "https") ≡ SpecialNotFile
unfolding url_on_literals
https_is_special = refl

empty_host : parse_special_host [] ≡ Err EmptyHost
unfolding url_on_literals
empty_host = refl

web_kind : (url : Parts) → IsValid url → IsWeb (chars url.scheme) → kind_of url ≡ SpecialNotFile
web_kind url valid web = elim web [
  | inl http ↦ ap scheme_type (sym (chars-scheme url valid) ∙ http) ∙ http_is_special
  | inr https ↦ ap scheme_type (sym (chars-scheme url valid) ∙ https) ∙ https_is_special
]

abbrev HostFits : Option (Host (List ℕ)) → Type 0
HostFits host = MatchOption host (is_special SpecialNotFile ≡ false) (IsHostOf SpecialNotFile)

some_host : (host : Option (Host (List ℕ))) → HostFits host → chars (host_text (unwrap_or host (Domain []))) ≢ []
some_host None valid e = absurd (cc valid)
some_host (Some host) valid e =
    let empty : host_text host ≡ [] = sym (chars-IsAscii (host_text host) (IsAscii-host_text SpecialNotFile host valid)) ∙ e in
    let parsed : Err EmptyHost ≡ Ok host = sym empty_host ∙ ap parse_special_host (sym empty) ∙ parse_special_host-host_text host valid in
    absurd (cc parsed)

authority : (host : Option (Host (List ℕ))) → HostFits host → not (is_some host) ≡ true → ⊥
authority None valid none = absurd (cc valid)
authority (Some host) valid none = false≢true none

slash_first : (path : List ℕ) → 0 < length path → (path ≡ []) ⊎ (get_or path 0 0 ≡ slash) → (more : List ℕ) × (path ≡ slash ∷ more)
slash_first [] some first = absurd (omega (arith, some))
slash_first (b ∷ path) some first = elim first [
  | inl empty ↦ let none = ap length empty in absurd (omega arith)
  | inr is ↦ (path, ap (λ (x : ℕ). x ∷ path) is)
]

some_path : (url : Parts) → IsValid url → kind_of url ≡ SpecialNotFile → (more : List ℕ) × (url.path ≡ slash ∷ more)
some_path url valid kind = elim valid.path [
  | inl list ↦ slash_first url.path (list.1 (ap is_special kind)) (rooted (kind_of url) url.path list.0)
  | inr opaque ↦ absurd (authority url.host (rw kind at valid.head.host) (and_parts _ _ opaque.0).0)
]

some_scheme : (url : Parts) → IsValid url → chars url.scheme ≢ []
some_scheme url valid e =
    let empty : url.scheme ≡ [] = sym (chars-scheme url valid) ∙ e in
    let none = ap length empty in
    absurd (omega (arith, valid.head.scheme.nonempty, none))

-- ---- the law

module _ (pattern : PatternParts) (url : Parts) (valid : IsValid url) (each : (name : ComponentName) → MeansIn (at pattern.components name) (url_text name url)) where
  text_means : (name : ComponentName) (parts : List PartView) → IsMadeOf parts (at pattern.components name) → AreGenerated parts → Means parts (url_text name url)
  text_means name parts is generated = means_of parts (at pattern.components name) is generated (url_text name url) (each name)

  own_means : (way : Unlike) (name : ComponentName) → IsMadeOf (own_parts way) (at pattern.components name) → Means (own_parts way) (url_text name url)
  own_means way name is = text_means name (own_parts way) is (own_generated way)

  web_url : IsMadeOf web_parts (at pattern.components Protocol) → kind_of url ≡ SpecialNotFile
  web_url is = web_kind url valid (web_means (chars url.scheme) (text_means Protocol web_parts is web_generated))

  path_url : kind_of url ≡ SpecialNotFile → (more : List ℕ) × (url_text Pathname url ≡ slash ∷ more)
  path_url kind = let (more, is) = some_path url valid kind in (more, chars-path url valid ∙ is)

pub no_url_is_unlike : NoUrlIsUnlike
no_url_is_unlike NoProtocol pattern is url valid each =
    some_scheme url valid (nothing_means (chars url.scheme) (own_means pattern url valid each NoProtocol Protocol ((is Protocol).own refl)))
no_url_is_unlike NoHostname pattern is url valid each =
    let kind = web_url pattern url valid each ((is Protocol).web (λ e. absurd (cc e)) refl) in
    some_host url.host (rw kind at valid.head.host) (nothing_means (url_text Hostname url) (own_means pattern url valid each NoHostname Hostname ((is Hostname).own refl)))
no_url_is_unlike NoPathname pattern is url valid each =
    let kind = web_url pattern url valid each ((is Protocol).web (λ e. absurd (cc e)) refl) in
    let (more, slashed) = path_url pattern url valid each kind in
    let empty = nothing_means (url_text Pathname url) (own_means pattern url valid each NoPathname Pathname ((is Pathname).own refl)) in
    absurd (cc (sym slashed ∙ empty))
no_url_is_unlike NoSlash pattern is url valid each =
    let kind = web_url pattern url valid each ((is Protocol).web (λ e. absurd (cc e)) refl) in
    let (more, slashed) = path_url pattern url valid each kind in
    no_slash_means (url_text Pathname url) more (own_means pattern url valid each NoSlash Pathname ((is Pathname).own refl)) slashed
