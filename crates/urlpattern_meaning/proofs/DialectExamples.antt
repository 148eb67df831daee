-- Worked examples of trees of regular expressions, and of their meaning.
use Rattle.std.proofs.Common.{◌≡◌, ℕ, List, [], ◌∷◌, ◌++◌, refl, Some, None, inl, inr}
use Rattle.std.specs.Prelude.{codes, slice_index}
use Rattle.urlpattern_meaning.proofs.DialectUnique.{only_tree}
use Rattle.urlpattern_meaning.specs.Dialect.{Items, Nothing, Item, Atom, Literal, Dot, AnyBut, Captured, Grouped, Escaped, Plain, Once, Optional, ZeroOrMore, LazyOneOrMore, AreItems, AtomMeans, IsAtom, IsOnlyTreeOf, IsTreeOf, Means}
use Rattle.urlpattern_meaning.specs.PartMeaning.{Captures}
use Rattle.urlpattern_syntax.proofs.TokenExamples.{no}

-- A character without a backslash.
abbrev pub plain : List ℕ → Atom
plain text = Literal (Plain (slice_index text 0))

-- An atom that matches once, or under a quantifier, with nothing after it.
abbrev pub once : Atom → Items
once atom = Item atom Once Nothing

-- Characters without backslashes, one after the other, before items.
abbrev pub word_then : List ℕ → Items → Items
word_then [] items = items
word_then (c ∷ word) items = Item (Literal (Plain c)) Once (word_then word items)

word_means : (word : List ℕ) (items : Items) (rest : List ℕ) (captures : Captures) → Means items rest captures
    → Means (word_then word items) (word ++ rest) captures
word_means [] items rest captures means = means
word_means (c ∷ word) items rest captures means =
    (c ∷ [], word ++ rest, [], captures, refl, refl, (refl, refl), word_means word items rest captures means)

-- The tree of `([^/]+?)`.
abbrev pub segment_tree : Items
segment_tree = once (Captured (Item (AnyBut (Plain (slice_index (codes "/") 0))) LazyOneOrMore Nothing))

-- The tree of `^/users(?:/([^/]+?))$`.
abbrev pub users_tree : Items
users_tree = word_then (codes "/users") (once (Grouped (word_then (codes "/") segment_tree)))

pub users_is_tree : IsTreeOf (codes "^/users(?:/([^/]+?))$") users_tree
users_is_tree = (refl, (no, tt, (no, tt, (no, tt, (no, tt, (no, tt, (no, tt, ((no, tt, ((no, refl, tt), tt, tt)), tt, tt))))))))

-- The tree captures `1` from `/users/1`.
pub users_means : Means users_tree (codes "/users/1") (Some (codes "1") ∷ [])
users_means = word_means (codes "/users") (once (Grouped (word_then (codes "/") segment_tree))) (codes "/1") (Some (codes "1") ∷ []) after_users
  where
    segment : Means segment_tree (codes "1") (Some (codes "1") ∷ [])
    segment = (
      codes "1",
      [],
      Some (codes "1") ∷ [],
      [],
      refl,
      refl,
      ([], refl, (codes "1", [], [], [], refl, refl, (0, (codes "1", [], refl, ((_, refl, refl), refl), refl), refl), (refl, refl))),
      (refl, refl),
    )

    after_users : Means (once (Grouped (word_then (codes "/") segment_tree))) (codes "/1") (Some (codes "1") ∷ [])
    after_users = (codes "/1", [], Some (codes "1") ∷ [], [], refl, refl, word_means (codes "/") segment_tree (codes "1") (Some (codes "1") ∷ []) segment, (refl, refl))

-- The tree of `^(?:a)?$`.
abbrev pub optional_tree : Items
optional_tree = Item (Grouped (once (plain (codes "a")))) Optional Nothing

pub optional_is_tree : IsTreeOf (codes "^(?:a)?$") optional_tree
optional_is_tree = (refl, ((no, tt, tt), tt, tt))

pub optional_empty : Means optional_tree [] []
optional_empty = ([], [], [], [], refl, refl, inr (refl, refl), (refl, refl))

-- The tree of `^((?:.+?)*)(.*)$`.
abbrev pub wild_tree : Items
wild_tree =
    Item (Captured (Item (Grouped (Item Dot LazyOneOrMore Nothing)) ZeroOrMore Nothing)) Once
    (once (Captured (Item Dot ZeroOrMore Nothing)))

pub wild_is_tree : IsTreeOf (codes "^((?:.+?)*)(.*)$") wild_tree
wild_is_tree = (refl, (((tt, refl, tt), refl, tt), tt, ((tt, refl, tt), tt, tt)))

-- The tree of `^(?:p((?:x)(?:sp(?:x))*)s)?$`: a repeated group does not capture.
abbrev pub grouped_x : Atom
grouped_x = Grouped (once (plain (codes "x")))

abbrev pub repeated_tree : Items
repeated_tree =
    Item (Grouped (Item (plain (codes "p")) Once (Item (Captured
    (Item grouped_x Once (Item (Grouped (Item (plain (codes "s")) Once (Item (plain (codes "p")) Once (once grouped_x)))) ZeroOrMore Nothing)))
    Once (once (plain (codes "s")))))) Optional Nothing

pub repeated_is_tree : IsTreeOf (codes "^(?:p((?:x)(?:sp(?:x))*)s)?$") repeated_tree
repeated_is_tree =
    (refl, ((no, tt, (((no, tt, tt), tt, ((no, tt, (no, tt, ((no, tt, tt), tt, tt))), refl, tt)), tt, (no, tt, tt))), tt, tt))

-- An optional group that is skipped leaves its capture None.
pub repeated_none : Means repeated_tree [] (None ∷ [])
repeated_none = ([], [], None ∷ [], [], refl, refl, inr (refl, refl), (refl, refl))

-- Two copies are captured as one text, with the text between them.
pub repeated_twice : Means repeated_tree (codes "pxspxs") (Some (codes "xspx") ∷ [])
repeated_twice = (
  codes "pxspxs",
  [],
  Some (codes "xspx") ∷ [],
  [],
  refl,
  refl,
  inl (
    codes "p",
    codes "xspxs",
    [],
    Some (codes "xspx") ∷ [],
    refl,
    refl,
    (refl, refl),
    (
      codes "xspx",
      codes "s",
      Some (codes "xspx") ∷ [],
      [],
      refl,
      refl,
      (
        [],
        refl,
        (
          codes "x",
          codes "spx",
          [],
          [],
          refl,
          refl,
          x_means,
          (codes "spx", [], [], [], refl, refl, (1, (codes "spx", [], refl, spx_means, refl), refl), (refl, refl)),
        ),
      ),
      (codes "s", [], [], [], refl, refl, (refl, refl), (refl, refl)),
    ),
  ),
  (refl, refl),
)
  where
    x_means : Means (once (plain (codes "x"))) (codes "x") []
    x_means = (codes "x", [], [], [], refl, refl, (refl, refl), (refl, refl))

    spx_means : Means (Item (plain (codes "s")) Once (Item (plain (codes "p")) Once (once grouped_x))) (codes "spx") []
    spx_means = (
      codes "s",
      codes "px",
      [],
      [],
      refl,
      refl,
      (refl, refl),
      (codes "p", codes "x", [], [], refl, refl, (refl, refl), (codes "x", [], [], [], refl, refl, x_means, (refl, refl))),
    )

-- A capturing group is not repeated: `^(a)*$` is not the text of a tree that is allowed.
pub repeated_capture : ¬ AreItems (Item (Captured (once (plain (codes "a")))) ZeroOrMore Nothing)
repeated_capture h = let e : 1 ≡ 0 = h.1 in cc e

-- The dot does not match a line feed.
pub dot_no_feed : (captures : Captures) → ¬ AtomMeans Dot (codes "\n") captures
dot_no_feed captures ((other, e, differs), is) =
    let same : slice_index (codes "\n") 0 ≡ other = cc e in
    no (rw (← same) at differs)

-- A class does not match its own character.
pub slash_no_slash : (captures : Captures) → ¬ AtomMeans (AnyBut (Plain (slice_index (codes "/") 0))) (codes "/") captures
slash_no_slash captures ((other, e, differs), is) =
    let same : slice_index (codes "/") 0 ≡ other = cc e in
    no (rw (← same) at differs)

-- Captures are in the order of the opening brackets: `^((a)b)$` on `ab`.
pub nested_means : Means (once (Captured (Item (Captured (once (plain (codes "a")))) Once (once (plain (codes "b")))))) (codes "ab") (Some (codes "ab") ∷ Some (codes "a") ∷ [])
nested_means = (
  codes "ab",
  [],
  Some (codes "ab") ∷ Some (codes "a") ∷ [],
  [],
  refl,
  refl,
  (
    Some (codes "a") ∷ [],
    refl,
    (
      codes "a",
      codes "b",
      Some (codes "a") ∷ [],
      [],
      refl,
      refl,
      ([], refl, (codes "a", [], [], [], refl, refl, (refl, refl), (refl, refl))),
      (codes "b", [], [], [], refl, refl, (refl, refl), (refl, refl)),
    ),
  ),
  (refl, refl),
)

-- A mark has a backslash, and a letter has none: `.` and `\d` are not characters of the dialect.
pub dot_no_literal : ¬ IsAtom (plain (codes "."))
dot_no_literal h = h refl

pub letter_no_escape : ¬ IsAtom (Literal (Escaped (slice_index (codes "d") 0)))
letter_no_escape h = no h

-- In a class a backslash and an opening bracket need a backslash: `[^\]` and `[^[]` are not classes
-- of the dialect.
pub backslash_no_class : ¬ IsAtom (AnyBut (Plain (slice_index (codes "\\") 0)))
backslash_no_class h = h refl

pub bracket_no_class : ¬ IsAtom (AnyBut (Plain (slice_index (codes "[") 0)))
bracket_no_class h = h refl

-- Before `]` a backslash is an escape, and there is no other tree.

pub bracket_only : IsOnlyTreeOf (codes "^[^\\]]$") (once (AnyBut (Escaped (slice_index (codes "]") 0))))
bracket_only = only_tree _ _ (refl, (refl, tt, tt))
