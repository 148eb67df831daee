-- The dialect of regular expressions in which parts are written: trees, the texts that spell them,
-- and their meaning.
use Rattle.std.specs.Prelude.{◌≡◌, ◌↔◌, ℕ, suc, ◌+◌, ◌⊎◌, not, ◌==◌, List, [], ◌∷◌, ◌++◌, replicate, codes, Option, Some, None, IsTrue, MatchOption}
use Rattle.std.specs.Str.{all_scalars}
use Rattle.urlpattern_meaning.specs.PartMeaning.{Captures, PartsMean}
use Rattle.urlpattern_syntax.specs.{Options.OptionsView, Parts.PartView}
use Rattle.urlpattern_syntax.specs.RegexpText.{captured, grouped, regexp_marks}
use Rattle.urlpattern_syntax.specs.Text.{is_among, line_feed, IsRepeated}

-- ---- trees

-- A character as it is written: by itself, or after a backslash.
pub data Character : Type 0 where
  Plain Escaped : ℕ → Character

-- How often an atom occurs. `LazyOneOrMore` means what the greedy `OneOrMore` means, but tries
-- fewer repetitions first.
pub data Quantifier : Type 0 where
  Once Optional ZeroOrMore OneOrMore LazyOneOrMore : Quantifier

mutual
  -- Atoms one after the other, each with its quantifier.
  pub data Items : Type 0 where
    Nothing : Items
    Item : Atom → Quantifier → Items → Items

  -- A literal character; any character but a line feed; any character but one; a group that
  -- captures; a group that does not.
  pub data Atom : Type 0 where
    Literal : Character → Atom
    Dot : Atom
    AnyBut : Character → Atom
    Captured Grouped : Items → Atom

-- ---- the texts of trees

-- The character itself, without a backslash.
abbrev pub character_of : Character → ℕ
character_of (Plain c) = c
character_of (Escaped c) = c

-- The spelling of a character, with a backslash if it has one.
abbrev pub character_text : Character → List ℕ
character_text (Plain c) = c ∷ []
character_text (Escaped c) = codes "\\" ++ c ∷ []

-- The spelling of a quantifier.
abbrev pub quantifier_text : Quantifier → List ℕ
quantifier_text Once = []
quantifier_text Optional = codes "?"
quantifier_text ZeroOrMore = codes "*"
quantifier_text OneOrMore = codes "+"
quantifier_text LazyOneOrMore = codes "+?"

abbrev mutual
  -- The spelling of the items.
  pub items_text : Items → List ℕ
  items_text Nothing = []
  items_text (Item atom quantifier items) =
      atom_text atom ++ quantifier_text quantifier ++ items_text items

  -- The spelling of an atom.
  pub atom_text : Atom → List ℕ
  atom_text (Literal character) = character_text character
  atom_text Dot = codes "."
  atom_text (AnyBut character) = codes "[^" ++ character_text character ++ codes "]"
  atom_text (Captured items) = captured (items_text items)
  atom_text (Grouped items) = grouped (items_text items)

-- ---- which trees are allowed

abbrev mutual
  -- The number of capturing groups in the items.
  pub group_count : Items → ℕ
  group_count Nothing = 0
  group_count (Item atom quantifier items) = atom_group_count atom + group_count items

  -- The number of capturing groups in an atom, with the atom itself.
  pub atom_group_count : Atom → ℕ
  atom_group_count (Literal character) = 0
  atom_group_count Dot = 0
  atom_group_count (AnyBut character) = 0
  atom_group_count (Captured items) = suc (group_count items)
  atom_group_count (Grouped items) = group_count items

-- The literal character is spelled as the dialect allows: a special character with a backslash, a
-- slash with or without one, any other character without.
abbrev pub IsCharacter : Character → Type 0
IsCharacter (Plain c) = ¬ IsTrue (is_among regexp_marks c)
IsCharacter (Escaped c) = IsTrue (is_among (regexp_marks ++ codes "/") c)

-- The characters that need a backslash in a character class, as in `[^`..`]`.
abbrev pub class_marks : List ℕ
class_marks = codes "[\\"

-- The character of a class is spelled as the dialect allows: a special character or a slash may
-- have a backslash, and any character but `[` and the backslash may be without.
abbrev pub IsClassCharacter : Character → Type 0
IsClassCharacter (Plain c) = ¬ IsTrue (is_among class_marks c)
IsClassCharacter (Escaped c) = IsTrue (is_among (regexp_marks ++ codes "/") c)

-- The quantifier may follow an atom with this number of capturing groups: only an atom without
-- groups may be repeated.
abbrev pub AllowsGroups : Quantifier → ℕ → Type 0
AllowsGroups Once groups = Unit {0}
AllowsGroups Optional groups = Unit {0}
AllowsGroups quantifier groups = groups ≡ 0

abbrev mutual
  -- The characters of the items are spelled, and the quantifiers placed, as the dialect allows.
  pub AreItems : Items → Type 0
  AreItems Nothing = Unit {0}
  AreItems (Item atom quantifier items) =
      IsAtom atom × AllowsGroups quantifier (atom_group_count atom) × AreItems items

  -- The character or the items of the atom are as the dialect allows.
  pub IsAtom : Atom → Type 0
  IsAtom (Literal character) = IsCharacter character
  IsAtom Dot = Unit {0}
  IsAtom (AnyBut character) = IsClassCharacter character
  IsAtom (Captured items) = AreItems items
  IsAtom (Grouped items) = AreItems items

-- The text is `^`, the spelling of the tree and `$`, and the tree is as the dialect allows.
abbrev pub IsTreeOf : List ℕ → Items → Type 0
IsTreeOf text tree = (text ≡ codes "^" ++ items_text tree ++ codes "$") × AreItems tree

-- The text is the regular expression of a tree of the dialect.
abbrev pub HasTree : List ℕ → Type 0
HasTree text = (tree : Items) × IsTreeOf text tree

-- ---- what trees mean

-- The text is a single character other than `c`.
abbrev pub IsOneBut : ℕ → List ℕ → Type 0
IsOneBut c text = (other : ℕ) × (text ≡ other ∷ []) × IsTrue (not (other == c))

-- An atom with the meaning `Atom` and `groups` capturing groups, under the quantifier, matches the
-- whole text, with these captures. An atom that is skipped leaves its groups None.
abbrev pub IsQuantified : Quantifier → (groups : ℕ) → (List ℕ → Captures → Type 0) → List ℕ
    → Captures → Type 0
IsQuantified Once groups Atom text captures = Atom text captures
IsQuantified Optional groups Atom text captures =
    Atom text captures ⊎ ((text ≡ []) × (captures ≡ replicate groups None))
IsQuantified ZeroOrMore groups Atom text captures =
    (n : ℕ) × IsRepeated (λ substring. Atom substring []) n text × (captures ≡ [])
IsQuantified OneOrMore groups Atom text captures =
    (n : ℕ) × IsRepeated (λ substring. Atom substring []) (suc n) text × (captures ≡ [])
IsQuantified LazyOneOrMore groups Atom text captures =
    (n : ℕ) × IsRepeated (λ substring. Atom substring []) (suc n) text × (captures ≡ [])

abbrev mutual
  -- The items match the whole text, with these captures in the order of the opening brackets.
  pub Means : Items → List ℕ → Captures → Type 0
  Means Nothing text captures = (text ≡ []) × (captures ≡ [])
  Means (Item atom quantifier items) text captures =
      (first rest : List ℕ) × (own others : Captures)
      × (text ≡ first ++ rest)
      × (captures ≡ own ++ others)
      × IsQuantified quantifier (atom_group_count atom) (AtomMeans atom) first own
      × Means items rest others

  -- The atom matches the whole text, with these captures.
  pub AtomMeans : Atom → List ℕ → Captures → Type 0
  AtomMeans (Literal character) text captures =
      (text ≡ character_of character ∷ []) × (captures ≡ [])
  AtomMeans Dot text captures = IsOneBut line_feed text × (captures ≡ [])
  AtomMeans (AnyBut character) text captures =
      IsOneBut (character_of character) text × (captures ≡ [])
  AtomMeans (Captured items) text captures =
      (inner : Captures) × (captures ≡ Some text ∷ inner) × Means items text inner
  AtomMeans (Grouped items) text captures = Means items text captures

-- ---- engines

-- The text is the regular expression of `tree`, and of no other tree.
pub record IsOnlyTreeOf (text : List ℕ) (tree : Items) : Type 0 where
  pub is_tree : IsTreeOf text tree
  pub only : (other : Items) → IsTreeOf text other → other ≡ tree

-- `regexp` is the regular expression of exactly one tree, which matches exactly the texts that the
-- parts match, with the same captures.
abbrev pub HasMeaningOf : (regexp : List ℕ) → OptionsView → List PartView → Type 0
HasMeaningOf regexp options parts =
    (tree : Items) × IsOnlyTreeOf regexp tree
    × ((text : List ℕ) (captures : Captures) → Means tree text captures
    ↔ PartsMean options parts text captures)

-- `answer`, the results of an engine for the regular expression `regexp`, is what the one tree of
-- `regexp` means: for each text of characters, captures with which the tree matches the text, or
-- None if it does not match the text.
pub record Follows (regexp : List ℕ) (answer : List ℕ → Option Captures) : Type 0 where
  pub tree : Items
  pub is_tree : IsOnlyTreeOf regexp tree
  pub answers : (text : List ℕ) → IsTrue (all_scalars text) →
      MatchOption (answer text) ((captures : Captures) → ¬ Means tree text captures) (λ captures.
      Means tree text captures)
