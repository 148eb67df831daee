-- Worked examples of tables.
use Rattle.std.proofs.Common.{◌≡◌, [], ◌∷◌, codes, refl, true}
use Rattle.std.specs.List.{after_first, before_first}
use Rattle.urlpat_matching.specs.Tables.{is_skipped, separates, without_mark}

-- A comment has no entry, nor has an empty line.
comment_is_skipped : is_skipped (codes "# users") ≡ true
comment_is_skipped = refl

nothing_is_skipped : is_skipped [] ≡ true
nothing_is_skipped = refl

-- Without a tab, the first space ends the pattern.
name_after_space : after_first (separates (codes "/a the page")) (codes "/a the page") ≡ codes "the page"
name_after_space = refl

-- With a tab, a pattern may contain spaces, and a name may contain a tab.
pattern_with_space : before_first (separates (codes "/a b\tc\td")) (codes "/a b\tc\td") ≡ codes "/a b"
pattern_with_space = refl

name_with_tab : after_first (separates (codes "/a b\tc\td")) (codes "/a b\tc\td") ≡ codes "c\td"
name_with_tab = refl

-- A byte order mark is passed over.
mark_is_skipped : without_mark (0xEF ∷ 0xBB ∷ 0xBF ∷ codes "/a") ≡ codes "/a"
mark_is_skipped = refl
