-- Opaque paths, which are unchanged when they are set on the dummy URL.
use Rattle.std.proofs.Common.{◌≡◌, ◌∙◌, ℕ, Bool, false, not, ◌&&◌, ◌==◌, List, [], ◌∷◌, ◌++◌, All, None, Ok, ap, refl, subst, sym}
use Rattle.std.proofs.lemmas.Bool.{and_from}
use Rattle.std.proofs.lemmas.List.Elements.{All-cons, All-head, All-nil, All-tail}
use Rattle.std.proofs.lemmas.Str.{IsUtf8-from_ascii, encodes-chars}
use Rattle.std.specs.Prelude.{codes, slice_index}
use Rattle.std.specs.Str.{chars}
use Rattle.percent_encoding.proofs.AsciiSetLemmas.{ascii_from_kept, outside_from_kept}
use Rattle.percent_encoding.proofs.PercentLemmas.{IsAscii_from_kept, percent_encode_unchanged}
use Rattle.percent_encoding.specs.AsciiSet.{contains}
use Rattle.percent_encoding.specs.Percent.{IsKept, percent_encode}
use Rattle.url.proofs.InputLemmas.{filter_all}
use Rattle.url.proofs.OnLiterals.{url_on_literals}
use Rattle.url.proofs.SetLemmas.{kept_from_passes}
use Rattle.url.proofs.TextLemmas.{All_kept}
use Rattle.url.specs.Ascii.{slash}
use Rattle.url.specs.Input.{is_tab_or_new_line, strip_tabs_and_new_lines}
use Rattle.url.specs.Parser.{Parsed}
use Rattle.url.specs.Parts.{Parts}
use Rattle.url.specs.Setters as setters
use Rattle.url.specs.declared.sets.TheConstants.{OPAQUE_PATH, OPAQUE_PATH_START}
use Rattle.urlpattern_canonical.proofs.CanonicalLemmas.{after-ok}
use Rattle.urlpattern_canonical.specs.Canonical.{canonical, canonical_opaque_pathname, opaque_url, path_of}
use Rattle.urlpattern_generate.proofs.SetTexts.{by_text}

abbrev opaque : Parts
opaque = record {
  scheme = codes "data";
  username = [];
  password = [];
  host = None;
  port = None;
  path = codes "dummy,test";
  query = None;
  fragment = None;
}

opaque_is : opaque_url ≡ Ok opaque
unfolding url_on_literals
opaque_is = refl

by_kept : (ask : List ℕ → Parsed (List ℕ)) (bytes : List ℕ) → All (IsKept OPAQUE_PATH) bytes → ask bytes ≡ Ok bytes → canonical ask (chars bytes) ≡ Ok (chars bytes)
by_kept ask bytes kept asked =
    let same = encodes-chars bytes (IsUtf8-from_ascii bytes (IsAscii_from_kept OPAQUE_PATH bytes kept)) in
    by_text ask (chars bytes) (subst (λ own. ask own ≡ Ok own) (sym same) asked) (ap chars same)

path_stripped : (path : List ℕ) → All (IsKept OPAQUE_PATH) path → strip_tabs_and_new_lines path ≡ path
unfolding strip_tabs_and_new_lines
path_stripped path kept = filter_all _ path (All_kept (λ b. not (is_tab_or_new_line b)) OPAQUE_PATH refl path kept)

-- A character that is kept and is not a slash.
abbrev begins : ℕ → Bool
begins b = not (contains OPAQUE_PATH b) && not (b == slash)

first_kept : (b : ℕ) → IsKept OPAQUE_PATH b → (b == slash) ≡ false → IsKept OPAQUE_PATH_START b
first_kept b kept bare =
    kept_from_passes begins OPAQUE_PATH_START refl b (ascii_from_kept OPAQUE_PATH b kept)
    (and_from (not (contains OPAQUE_PATH b)) (not (b == slash)) (ap not (outside_from_kept OPAQUE_PATH b kept)) (ap not bare))

path_set : (path : List ℕ) → All (IsKept OPAQUE_PATH) path → (slice_index path 0 == slash) ≡ false → setters.new_path opaque path ≡ path
path_set [] kept bare =
    ap (λ text. text ++ percent_encode OPAQUE_PATH []) (percent_encode_unchanged OPAQUE_PATH_START [] (All-nil (IsKept OPAQUE_PATH_START)))
    ∙ percent_encode_unchanged OPAQUE_PATH [] (All-nil (IsKept OPAQUE_PATH))
path_set (b ∷ path) kept bare =
    let first = first_kept b (All-head (IsKept OPAQUE_PATH) b path kept) bare in
    ap (λ text. text ++ percent_encode OPAQUE_PATH path)
    (percent_encode_unchanged OPAQUE_PATH_START (b ∷ []) (All-cons (IsKept OPAQUE_PATH_START) b [] first (All-nil (IsKept OPAQUE_PATH_START))))
    ∙ ap (λ text. b ∷ text) (percent_encode_unchanged OPAQUE_PATH path (All-tail (IsKept OPAQUE_PATH) b path kept))

-- An opaque path is unchanged when it is set.
pub path_canonical : (path : List ℕ) → All (IsKept OPAQUE_PATH) path → (slice_index path 0 == slash) ≡ false → canonical_opaque_pathname (chars path) ≡ Ok (chars path)
path_canonical path kept bare =
    by_kept (path_of opaque_url) path kept
    (after-ok opaque_url (λ old. Ok (setters.set_path old path)) (λ new. new.path) opaque (setters.set_path opaque path) opaque_is refl
    ∙ ap (λ text. Ok text) (ap (setters.new_path opaque) (path_stripped path kept) ∙ path_set path kept bare))
