-- Lemmas on arguments that give texts for groups.
use Rattle.std.proofs.Common.{◌≡◌, ◌∙◌, ◌+◌, ◌<◌, ◌≤◌, ℕ, List, [], ◌∷◌, ◌++◌, ap, get_or, inr, length, option_map, subst, sym, take, take_all}
use Rattle.std.proofs.lemmas.List.{take-map, take_more}
use Rattle.std.proofs.lemmas.Option.{slice_get-get_or, slice_get-map}
use Rattle.std.proofs.lemmas.Slice.Zip.{all_zipped_more}
use Rattle.std.specs.Borrow.{Bor}
use Rattle.std.specs.List.{AllZip, before_first}
use Rattle.urlpat_explain.specs.GivenWords.{AreGiven, Given, IsFirstUnread, WordGivesGroup, WordGivesNothing, is_equals_sign}
use Rattle.urlpat_matching.specs.Groups.{LacksGroup}
use Rattle.urlpat_matching.specs.Texts.{texts_view}
use Rattle.urlpattern_pattern.specs.Patterns.{PatternView}

module _ {E : Type 0} (pattern : PatternView E) where
  -- `WordGivesGroup` for an argument as a string.
  abbrev pub WordGives : Bor (List ℕ) → Given → Type 0
  WordGives word given = WordGivesGroup pattern word.now given

  viewed : (words : List (Bor (List ℕ))) (groups : List Given) → AllZip WordGives words groups → AreGiven pattern (texts_view words) groups
  viewed [] [] all = tt
  viewed [] (group ∷ groups) all = absurd all
  viewed (word ∷ words) [] all = absurd all
  viewed (word ∷ words) (group ∷ groups) all = (all.0, viewed words groups all.1)

  -- An argument that gives a group is appended.
  pub given_more : (words : List (Bor (List ℕ))) (i : ℕ) (none : Bor (List ℕ)) (old new : List Given) (given : Given) → i < length words →
      new ≡ old ++ given ∷ [] → WordGivesGroup pattern (get_or words i none).now given → AllZip WordGives (take i words) old → AllZip WordGives (take (i + 1) words) new
  given_more words i none old new given within is_new gives was =
      subst (λ (taken : List (Bor (List ℕ))). AllZip WordGives taken new) (sym (take_more words i none within))
      (subst (λ (all : List Given). AllZip WordGives (take i words ++ get_or words i none ∷ []) all) (sym is_new)
      (all_zipped_more WordGives (take i words) old (get_or words i none) given was gives))

  pub given_all : (words : List (Bor (List ℕ))) (i : ℕ) (groups : List Given) → length words ≤ i → AllZip WordGives (take i words) groups → AreGiven pattern (texts_view words) groups
  given_all words i groups past was = viewed words groups (subst (λ (taken : List (Bor (List ℕ))). AllZip WordGives taken groups) (take_all i words past) was)

  -- An argument that gives no group is the first one.
  pub nothing_given : (words : List (Bor (List ℕ))) (i : ℕ) (none : Bor (List ℕ)) (groups : List Given) → i < length words →
      WordGivesNothing pattern (get_or words i none).now → AllZip WordGives (take i words) groups → IsFirstUnread pattern (texts_view words) (get_or words i none).now
  nothing_given words i none groups within nothing was = (
    i,
    groups,
    slice_get-map (λ (word : Bor (List ℕ)). word.now) words i ∙ ap (option_map (λ (word : Bor (List ℕ)). word.now)) (slice_get-get_or words i none within),
    nothing,
    subst (λ (taken : List (List ℕ)). AreGiven pattern taken groups) (sym (take-map (λ (word : Bor (List ℕ)). word.now) i words)) (viewed (take i words) groups was),
  )

  -- An argument whose name names no group of the pattern gives no group.
  pub unnamed : (word name : List ℕ) → name ≡ before_first is_equals_sign word → LacksGroup pattern name → WordGivesNothing pattern word
  unnamed word name is lacks = inr (subst (LacksGroup pattern) is lacks)
