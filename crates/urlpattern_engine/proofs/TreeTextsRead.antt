-- How the crate `regex` reads the text of a whole tree, from `^` to `$`.
use Rattle.std.proofs.Common.{◌≡◌, ℕ, Bool, zero, suc, ◌+◌, ◌-◌, ◌*◌, ◌^◌, ◌≤◌, ◌<◌, max, List, [], ◌∷◌, ◌++◌, length, replicate, Option, Some, None, false, refl, ap, ◌∙◌, arith, if◌then◌else◌, codes, slice_index_or}
use Rattle.std.proofs.lemmas.Bool.{cond_both}
use Rattle.std.proofs.lemmas.List.{replicate_more}
use Rattle.regex_hir.specs.declared.look.Look.TheVariants.{Start, End}
use Rattle.regex_hir.specs.Meaning.{cat_all, alt_all}
use Rattle.regex_hir.specs.Re.{Re, look}
use Rattle.regex_syntax.proofs.BranchLemmas.{join_after, branch_ends, branch_goes, more_parts, group_inside, join_parts_is, branches_go, more_branches, join_ends, ends_branch}
use Rattle.regex_syntax.specs.Brackets.{Nested, flat, join}
use Rattle.regex_syntax.specs.Grammar.{atom, char_meaning, items, read, names_below, branches, join_parts, has_group}
use Rattle.regex_syntax.specs.Grammar as grammar
use Rattle.regex_syntax.specs.Reading.{Text, first, skip, is_at, ◌>>=◌}
use Rattle.regex_syntax.specs.declared.Config.{Config}
use Rattle.urlpattern_meaning.specs.Dialect.{Once, Items, items_text, group_count, AreItems}
use Rattle.urlpattern_expressions.specs.Expressions.{config_for}
use Rattle.urlpattern_engine.proofs.AtomsRead.{full}
use Rattle.urlpattern_engine.proofs.ItemsRead.{place, Free, item_of_atom, free_items, parts, alone_in, items-read}

abbrev pub first_line : Nested Re
first_line = flat (look Start)

abbrev pub last_line : Nested Re
last_line = flat (look End)

-- ---- names

no_name : (k n : ℕ) → slice_index_or (replicate {A = Option (List ℕ)} k None) n None ≡ None
no_name zero n = refl
no_name (suc k) zero = refl
no_name (suc k) (suc n) = no_name k n

pub no_names : (re : Re) (k n : ℕ) → names_below re (replicate k None) n ≡ replicate n None
unfolding names_below
no_names re k zero = refl
no_names re k (suc n) =
    let none : Option (List ℕ) = None in
    let next : n + 1 ≡ suc n = omega arith in
    let same : (if has_group re n then slice_index_or (replicate k none) n None else None) ≡ none =
    cond_both (has_group re n) (slice_index_or (replicate k none) n None) None (λ o. o ≡ none) (λ _. no_name k n) (λ _. refl) in
    rw (names_below, no_names re k n, same) (replicate_more n none ∙ ap (λ j. replicate j none) next)

-- ---- texts

module _ (ignore_case : Bool) where
  abbrev config : Config
  config = config_for ignore_case

  -- The pattern as the grammar builds it.
  abbrev pub whole : Items → Nested Re
  whole tree = alone_in ((first_line ∷ parts ignore_case 1 tree) ++ last_line ∷ [])

  -- A single character that is an item by itself, without a quantifier.
  pub leaf_passes : (n m : ℕ) (earlier : List (Nested Re)) (g c : ℕ) (rest : Text) (sub : Nested Re) → n ≡ suc m → is_at "(" (c ∷ rest) ≡ false
      → ends_branch (c ∷ rest) ≡ false → atom config (c ∷ rest) ≡ Some (sub, rest) → Free rest
      → join_after cat_all earlier (items n (place ignore_case g (c ∷ rest))) ≡ join_after cat_all (earlier ++ sub ∷ []) (items m (place ignore_case g rest))
  unfolding skip
  leaf_passes n m earlier g c rest sub e no_group no_end reads free =
      branch_goes n m earlier (place ignore_case g (c ∷ rest)) (c ∷ rest) e refl no_end
      ∙ ap (λ o. o >>= more_parts m earlier) (item_of_atom ignore_case (group_inside m) (c ∷ rest) Once rest sub g no_group reads free)

  module _ (tree : Items) (h : AreItems tree) (small : suc (group_count tree) ≤ 2 ^ 32) where
    abbrev inside : Text
    inside = items_text tree ++ codes "$"

    abbrev text : Text
    text = codes "^" ++ items_text tree ++ codes "$"

    branch_is : (n : ℕ) → 2 * length text < n → join_after cat_all [] (items n (place ignore_case 1 text))
        ≡ Some (join cat_all ((first_line ∷ parts ignore_case 1 tree) ++ last_line ∷ []), place ignore_case (suc (group_count tree)) [])
    unfolding first atom char_meaning skip
    branch_is n le =
        let middle = items-read ignore_case tree h 1 (omega arith) (36 ∷ []) refl (n - 1) (omega arith) (first_line ∷ []) in
        let m = middle.0 in
        let g = 1 + group_count tree in
        let count : g ≡ suc (group_count tree) = omega arith in
        leaf_passes n (n - 1) [] 1 94 inside first_line (omega arith) refl (rw (full 94 inside)) refl (free_items tree h (36 ∷ []) refl)
        ∙ middle.2
        ∙ leaf_passes m (m - 1) (first_line ∷ parts ignore_case 1 tree) g 36 [] last_line (omega (arith, middle.1)) refl refl refl refl
        ∙ branch_ends (m - 1) (m - 2) ((first_line ∷ parts ignore_case 1 tree) ++ last_line ∷ []) (place ignore_case g []) [] (omega (arith, middle.1)) refl refl
        ∙ ap (λ k. Some (join cat_all ((first_line ∷ parts ignore_case 1 tree) ++ last_line ∷ []), place ignore_case k [])) count

    text_is : join_parts alt_all (branches (2 * length text + 2) (place ignore_case 1 text)) ≡ Some (whole tree, place ignore_case (suc (group_count tree)) [])
    unfolding first
    text_is =
        let n = 2 * length text + 1 in
        join_parts_is alt_all _ ∙ branches_go (2 * length text + 2) n [] _ (omega arith)
        ∙ ap (λ o. o >>= more_branches n []) (join_parts_is cat_all _ ∙ branch_is n (omega arith))
        ∙ join_ends alt_all (join cat_all ((first_line ∷ parts ignore_case 1 tree) ++ last_line ∷ []) ∷ []) _

    pub read_is : read config text
        ≡ Some (whole tree, names_below (whole tree).value (replicate (suc (group_count tree)) None) (max 1 (grammar.group_count (whole tree).value)))
    unfolding read
    read_is = rw (read, text_is)
