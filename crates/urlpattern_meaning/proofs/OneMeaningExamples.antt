-- Worked examples of parts, their trees and engines that follow, and of what differs where a
-- premise does not hold.
use Rattle.std.proofs.Common.{◌≡◌, ℕ, zero, suc, ◌≤◌, List, [], ◌∷◌, ◌++◌, refl, sym, ap, arith, Bool, true, false, Some, None, Option, Ok, Err, ◌∙◌, ◌⊎◌, inl, inr}
use Rattle.std.proofs.lemmas.Bool.{eqb-false, eqb-true}
use Rattle.std.proofs.lemmas.List.{append-nil}
use Rattle.std.proofs.lemmas.List.Elements.{All-cons, All-nil}
use Rattle.std.specs.Prelude.{◌==◌, All, IsTrue, codes, if◌then◌else◌, slice_index}
use Rattle.urlpattern_meaning.specs.Dialect.{AnyBut, Captured, Escaped, Follows, Grouped, Item, Items, IsTreeOf, LazyOneOrMore, Means, Nothing, Optional, Once, Plain, ZeroOrMore}
use Rattle.urlpattern_meaning.specs.Laws.{HasShapeOf}
use Rattle.urlpattern_meaning.specs.Matching.{Agrees, Returns, FollowsMiddle, MatcherView, Literal, RegExp}
use Rattle.urlpattern_meaning.specs.PartMeaning.{Captures, PartsMean}
use Rattle.urlpattern_syntax.specs.declared.parser.PartModifier.TheVariants as modifiers
use Rattle.urlpattern_syntax.specs.declared.parser.PartType.TheVariants.{Regexp, SegmentWildcard}
use Rattle.urlpattern_syntax.specs.Errors.{ErrorView}
use Rattle.urlpattern_syntax.specs.Options.{OptionsView, default_options, pathname_options, standard_options}
use Rattle.urlpattern_syntax.specs.Parts.{PartView, fixed_text}
use Rattle.urlpattern_syntax.specs.RegexpText.{escaped, part_regexp, regexp_text}
use Rattle.urlpattern_syntax.specs.Text.{IsRepeated, lacks, line_feed}
use Rattle.urlpattern_meaning.proofs.DialectExamples.{once, plain as character, users_tree}
use Rattle.urlpattern_meaning.proofs.MatchingExamples.{wildcard_matcher}
use Rattle.urlpattern_meaning.proofs.MeaningExamples.{part_alone}
use Rattle.urlpattern_meaning.proofs.MeaningLaws.{plain_means}
use Rattle.urlpattern_meaning.proofs.OneMeaning.{agrees_follows, follows_agrees}
use Rattle.urlpattern_meaning.proofs.PartTrees.{IsNotCustom, tree_of}
use Rattle.urlpattern_meaning.proofs.PrintingExamples.{plain, wildcard}
use Rattle.urlpattern_syntax.proofs.RegexpTextExamples.{group, users_parts}
use Rattle.urlpattern_syntax.proofs.TokenExamples.{no}

-- ---- trees

-- The pattern `/users/:id`.
pub users_of : tree_of pathname_options users_parts ≡ users_tree
users_of = refl

-- The delimiter `]` has a backslash in the class.
pub bracket_of : tree_of (standard_options (Some (slice_index (codes "]") 0)) []) (group SegmentWildcard [] (codes "x") [] modifiers.None ∷ [])
    ≡ once (Captured (Item (AnyBut (Escaped (slice_index (codes "]") 0))) LazyOneOrMore Nothing))
bracket_of = refl

-- The pattern `{a:x}*`: copies between one prefix and the end, or nothing.
abbrev pub segment_x : Items
segment_x = Item (AnyBut (Plain (slice_index (codes "/") 0))) LazyOneOrMore Nothing

pub copies_of : tree_of pathname_options (group SegmentWildcard (codes "a") (codes "x") [] modifiers.ZeroOrMore ∷ [])
    ≡ Item (Grouped (Item (character (codes "a")) Once (once (Captured (Item (Grouped segment_x) Once (Item (Grouped (Item (character (codes "a")) Once (once (Grouped segment_x)))) ZeroOrMore Nothing)))))) Optional Nothing
copies_of = refl

-- ---- an engine that follows

-- The pattern `{a}?`, whose regular expression is `^(?:a)?$`.
abbrev pub optional_parts : List PartView
optional_parts = fixed_text (codes "a") modifiers.Optional ∷ []

-- The results of an engine for the optional `a`.
abbrev pub optional_answer : List ℕ → Option Captures
optional_answer [] = Some []
optional_answer (c ∷ []) = if c == slice_index (codes "a") 0 then Some [] else None
optional_answer (c ∷ d ∷ text) = None

-- The part `{a}?` matches only the empty text and `a`.
optional_count : (n : ℕ) (text : List ℕ) → n ≤ 1 → IsRepeated (λ substring. substring ≡ codes "a") n text → (text ≡ []) ⊎ (text ≡ codes "a")
optional_count zero text few is = inl is
optional_count (suc zero) text few (first, rest, cut, is, ended) = inr (rw (cut, ended, is))
optional_count (suc (suc n)) text few is = absurd (omega (arith, few))

optional_only : (text : List ℕ) (captures : Captures) → PartsMean default_options optional_parts text captures → (text ≡ []) ⊎ (text ≡ codes "a")
optional_only text captures means = let part = part_alone means in optional_count part.count text part.allowed part.are_copies

optional_means : (text : List ℕ) → IsRepeated (λ substring. substring ≡ codes "a") 1 text → PartsMean default_options optional_parts text []
optional_means text is = (text, [], [], [], sym (append-nil text), refl, record { count = 1; allowed = omega arith; are_copies = is; are_captures = refl }, (refl, refl))

one_answer : (c : ℕ) (same : Bool) → (c == slice_index (codes "a") 0) ≡ same → Agrees default_options optional_parts (c ∷ []) (if same then Some [] else None)
one_answer c true e = optional_means (c ∷ []) (c ∷ [], [], refl, ap (λ d. d ∷ []) (eqb-true c (slice_index (codes "a") 0) e), refl)
one_answer c false e = λ captures means. elim (optional_only (c ∷ []) captures means) [ inl empty ↦ cc empty | inr is ↦ eqb-false c (slice_index (codes "a") 0) e (cc is) ]

optional_agrees : (text : List ℕ) → Agrees default_options optional_parts text (optional_answer text)
optional_agrees [] = ([], [], [], [], refl, refl, record { count = 0; allowed = omega arith; are_copies = refl; are_captures = refl }, (refl, refl))
optional_agrees (c ∷ []) = one_answer c (c == slice_index (codes "a") 0) refl
optional_agrees (c ∷ d ∷ text) = λ captures means. elim (optional_only (c ∷ d ∷ text) captures means) [ inl empty ↦ cc empty | inr is ↦ cc is ]

optional_custom : All IsNotCustom optional_parts
optional_custom = All-cons IsNotCustom (fixed_text (codes "a") modifiers.Optional) [] (λ e. cc e) (All-nil IsNotCustom)

pub optional_follows : Follows (codes "^(?:a)?$") optional_answer
unfolding escaped part_regexp
optional_follows = agrees_follows default_options optional_parts optional_custom optional_answer (λ text scalars. optional_agrees text)

-- The engine for `{a}?` follows the middle of `{a}?b`.
pub optional_middle : (E : Type 0) (engine : E) → FollowsMiddle (λ engine. optional_answer) default_options (fixed_text (codes "a") modifiers.Optional ∷ plain (codes "b") ∷ []) (RegExp (Ok engine))
unfolding escaped part_regexp
optional_middle E engine = (None, optional_parts, Some (plain (codes "b")), record { cut = refl; front_removed = no; back_removed = refl }, optional_follows)

-- An engine that matches nothing does not follow `^(?:a)?$`.
pub silent : ¬ Follows (codes "^(?:a)?$") (λ text. None)
unfolding escaped part_regexp
silent follows = follows_agrees default_options optional_parts optional_custom (λ text. None) follows [] refl [] (optional_agrees [])

-- An error that is kept does not follow the middle of any parts.
pub kept_error : (E : Type 0) (answer : E → List ℕ → Option Captures) (parts : List PartView) (error : ErrorView) → ¬ FollowsMiddle answer default_options parts (RegExp (Err error))
kept_error E answer parts error follows = follows

-- ---- where a premise does not hold

-- The pattern `(a)`: its regular expression `^(a)$` has a tree that captures, and the part means
-- nothing.
abbrev pub custom_parts : List PartView
custom_parts = (record { kind = Regexp; value = codes "a"; modifier = modifiers.None; name = codes "0"; prefix = []; suffix = [] }) ∷ []

pub custom_tree : IsTreeOf (regexp_text default_options custom_parts) (once (Captured (once (character (codes "a")))))
unfolding escaped part_regexp
custom_tree = (refl, ((no, tt, tt), tt, tt))

pub custom_captures : Means (once (Captured (once (character (codes "a"))))) (codes "a") (Some (codes "a") ∷ [])
custom_captures = (codes "a", [], Some (codes "a") ∷ [], [], refl, refl, ([], refl, (codes "a", [], [], [], refl, refl, (refl, refl), (refl, refl))), (refl, refl))

pub custom_none : (text : List ℕ) (captures : Captures) → ¬ PartsMean default_options custom_parts text captures
custom_none text captures means = (part_alone means).are_captures

-- The pattern `*` on a line feed: the matcher matches, and the parts do not mean the text.
pub feed_shape : (E : Type 0) → HasShapeOf default_options (wildcard (codes "0") ∷ []) (wildcard_matcher E [] [])
feed_shape E = record { front = None; middle = wildcard (codes "0") ∷ []; back = None; are_stripped = record { cut = refl; front_removed = no; back_removed = no }; is_made = refl }

pub feed_answered : (E : Type 0) (answer : E → List ℕ → Option Captures) → Returns answer (wildcard_matcher E [] []) (codes "\n") (Some (Some (codes "\n") ∷ []))
feed_answered E answer = (codes "\n", ([], [], refl, refl, refl), (tt, tt, refl))

feed_copies : (n : ℕ) → n ≡ 1 → ¬ IsRepeated (λ substring. (piece : List ℕ) × (substring ≡ piece ++ []) × IsTrue (lacks line_feed piece)) n (codes "\n")
feed_copies n e is = alone (rw e at is)
  where
    alone : ¬ IsRepeated (λ substring. (piece : List ℕ) × (substring ≡ piece ++ []) × IsTrue (lacks line_feed piece)) 1 (codes "\n")
    alone (first, rest, cut, (piece, e, lacking), ended) =
        let is : codes "\n" ≡ piece = cut ∙ ap (λ t. first ++ t) ended ∙ append-nil first ∙ e ∙ append-nil piece in
        no (rw (← is) at lacking)

pub feed_differs : ¬ Agrees default_options (wildcard (codes "0") ∷ []) (codes "\n") (Some (Some (codes "\n") ∷ []))
feed_differs means = let part = part_alone means in feed_copies part.count part.allowed part.are_copies

-- The pattern `A` where case is ignored: the matcher matches `a`, and the part does not mean it.
abbrev pub ignoring_case : OptionsView
ignoring_case = record default_options { ignore_case = true }

abbrev pub letter_matcher : (E : Type 0) → MatcherView E
letter_matcher E = record { prefix = []; suffix = []; inner = Literal (codes "A"); ignore_case = true }

pub letter_shape : (E : Type 0) → HasShapeOf ignoring_case (plain (codes "A") ∷ []) (letter_matcher E)
letter_shape E = record { front = Some (plain (codes "A")); middle = []; back = None; are_stripped = record { cut = refl; front_removed = refl; back_removed = λ h. h }; is_made = refl }

pub letter_answered : (E : Type 0) (answer : E → List ℕ → Option Captures) → Returns answer (letter_matcher E) (codes "a") (Some [])
letter_answered E answer = (codes "a", ([], [], refl, refl, refl), (refl, refl))

pub letter_differs : ¬ Agrees ignoring_case (plain (codes "A") ∷ []) (codes "a") (Some [])
letter_differs means =
    let is : codes "a" ≡ codes "A" = ((plain_means (plain (codes "A")) refl).0 (part_alone means)).0 in
    no (ap (λ text. slice_index text 0 == slice_index (codes "A") 0) is)
