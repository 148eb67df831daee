-- The items of a wildcard match the texts of the wildcard.
use Rattle.std.proofs.Common.{◌≡◌, ℕ, zero, suc, List, [], ◌∷◌, ◌++◌, refl, sym, subst, ap, Bool, true, false, Some, None, Option, ◌∙◌, ◌↔◌}
use Rattle.std.specs.Prelude.{◌≢◌, ◌==◌, ◌&&◌, not, IsTrue, unwrap_or}
use Rattle.urlpattern_meaning.specs.Dialect.{AtomMeans, Dot, IsOneBut, LazyOneOrMore, Means, ZeroOrMore}
use Rattle.urlpattern_meaning.specs.PartMeaning.{Captures, IsWildcardText}
use Rattle.urlpattern_syntax.specs.declared.parser.PartType.{PartType}
use Rattle.urlpattern_syntax.specs.declared.parser.PartType.TheVariants.{SegmentWildcard, FullWildcard}
use Rattle.urlpattern_syntax.specs.Options.{OptionsView}
use Rattle.urlpattern_syntax.specs.RegexpText.{IsWildcard, escaped_marks}
use Rattle.urlpattern_syntax.specs.Text.{IsRepeated, lacks, line_feed}
use Rattle.urlpattern_meaning.proofs.Copies.{repeated_map}
use Rattle.urlpattern_meaning.proofs.MatchingLaws.{and_left, and_right}
use Rattle.urlpattern_meaning.proofs.PartTrees.{alone, segment_atom, wildcard_items}
use Rattle.urlpattern_meaning.proofs.TreeMeaning.{StandsFor, alone_means, character_same}
use Rattle.urlpattern_syntax.proofs.TokenExamples.{no}

-- ---- single characters

both : (a b : Bool) → IsTrue a → IsTrue b → IsTrue (a && b)
both true b h k = k
both false b h k = absurd (no h)

-- Any number of characters other than `c`.
singles_lack : (c n : ℕ) (text : List ℕ) → IsRepeated (IsOneBut c) n text → IsTrue (lacks c text)
singles_lack c zero text ended = rw ended refl
singles_lack c (suc n) text (first, rest, cut, (other, e, differs), more) =
    let is : text ≡ other ∷ rest = cut ∙ ap (λ t. t ++ rest) e in
    rw is (both (not (other == c)) (lacks c rest) differs (singles_lack c n rest more))

lack_singles : (c : ℕ) (text : List ℕ) → IsTrue (lacks c text) → (n : ℕ) × IsRepeated (IsOneBut c) n text
lack_singles c [] h = (0, refl)
lack_singles c (other ∷ text) h =
    let more = lack_singles c text (and_right (not (other == c)) (lacks c text) h) in
    (suc more.0, (other ∷ [], text, refl, (other, refl, and_left (not (other == c)) (lacks c text) h), more.1))

-- A text without `c` that is not empty is at least one character other than `c`.
some_singles : (c : ℕ) (text : List ℕ) → text ≢ [] → IsTrue (lacks c text) → (n : ℕ) × IsRepeated (IsOneBut c) (suc n) text
some_singles c [] some h = absurd (some refl)
some_singles c (other ∷ text) some h =
    let more = lack_singles c text (and_right (not (other == c)) (lacks c text) h) in
    (more.0, (other ∷ [], text, refl, (other, refl, and_left (not (other == c)) (lacks c text) h), more.1))

singles_some : (c n : ℕ) (text : List ℕ) → IsRepeated (IsOneBut c) (suc n) text → text ≢ []
singles_some c n text (first, rest, cut, (other, e, differs), more) empty =
    let is : other ∷ rest ≡ [] = sym (cut ∙ ap (λ t. t ++ rest) e) ∙ empty in
    cc is

-- ---- wildcards

segment_atom_means : (marks : List ℕ) (delimiter : Option ℕ) (text : List ℕ) → AtomMeans (segment_atom marks delimiter) text [] ↔ IsOneBut (unwrap_or delimiter line_feed) text
segment_atom_means marks None text = (λ is. is.0, λ is. (is, refl))
segment_atom_means marks (Some c) text = (
  λ is. subst (λ d. IsOneBut d text) (character_same marks c) is.0,
  λ is. (subst (λ d. IsOneBut d text) (sym (character_same marks c)) is, refl),
)

segment_means : (marks : List ℕ) (delimiter : Option ℕ) (text : List ℕ) (captures : Captures) →
    Means (alone (segment_atom marks delimiter) LazyOneOrMore) text captures ↔ (((text ≢ []) × IsTrue (lacks (unwrap_or delimiter line_feed) text)) × (captures ≡ []))
segment_means marks delimiter text captures = (
  λ means.
      let found = (alone_means (segment_atom marks delimiter) LazyOneOrMore text captures).0 means in
      let singles = repeated_map (λ t. AtomMeans (segment_atom marks delimiter) t []) (IsOneBut (unwrap_or delimiter line_feed)) (λ t. (segment_atom_means marks delimiter t).0) (suc found.0) text found.1 in
      ((singles_some (unwrap_or delimiter line_feed) found.0 text singles, singles_lack (unwrap_or delimiter line_feed) (suc found.0) text singles), found.2),
  λ ((some, h), e).
      let singles = some_singles (unwrap_or delimiter line_feed) text some h in
      (alone_means (segment_atom marks delimiter) LazyOneOrMore text captures).1 (
        singles.0,
        repeated_map (IsOneBut (unwrap_or delimiter line_feed)) (λ t. AtomMeans (segment_atom marks delimiter) t []) (λ t. (segment_atom_means marks delimiter t).1) (suc singles.0) text singles.1,
        e,
      ),
)

full_means : (text : List ℕ) (captures : Captures) → Means (alone Dot ZeroOrMore) text captures ↔ (IsTrue (lacks line_feed text) × (captures ≡ []))
full_means text captures = (
  λ means.
      let found = (alone_means Dot ZeroOrMore text captures).0 means in
      (singles_lack line_feed found.0 text (repeated_map (λ t. AtomMeans Dot t []) (IsOneBut line_feed) (λ t is. is.0) found.0 text found.1), found.2),
  λ (h, e).
      let singles = lack_singles line_feed text h in
      (alone_means Dot ZeroOrMore text captures).1 (singles.0, repeated_map (IsOneBut line_feed) (λ t. AtomMeans Dot t []) (λ t is. (is, refl)) singles.0 text singles.1, e),
)

pub wildcard_stands : (options : OptionsView) (kind : PartType) → IsWildcard kind → StandsFor (wildcard_items options kind) (IsWildcardText options kind)
wildcard_stands options SegmentWildcard h = record { means = segment_means (escaped_marks options.syntax) options.delimiter }
wildcard_stands options FullWildcard h = record { means = full_means }
wildcard_stands options kind h = absurd h
