-- The first way of parts is that of the parts between the ends, where plain fixed texts are
-- removed.
use Rattle.std.proofs.Common.{◌≡◌, ℕ, ◌+◌, List, [], ◌∷◌, ◌++◌, map, length, Option, Some, None, option_map, find, false, cond, ◌&&◌, ◌==◌, refl, sym, ap, ap₂, ◌∙◌, append_assoc, append-nil, length-append, inl, inr, arith, ne_eqb}
use Rattle.std.proofs.lemmas.Bool.{cond-false}
use Rattle.std.specs.Prelude.{IsTrue, option_to_list}
use Rattle.urlpattern_meaning.specs.Dialect.{Items, Nothing, AreItems, Means}
use Rattle.urlpattern_meaning.specs.Matching.{AreStripped, IsRemoved, end_text, is_same_character}
use Rattle.urlpattern_meaning.specs.Ways.{Way, joined_way, continued, ways, first_way, first_way_by}
use Rattle.urlpattern_syntax.specs.declared.parser.PartModifier.{PartModifier}
use Rattle.urlpattern_syntax.specs.declared.parser.PartModifier.TheVariants as modifiers
use Rattle.urlpattern_syntax.specs.declared.parser.PartType.{PartType}
use Rattle.urlpattern_syntax.specs.declared.parser.PartType.TheVariants.{FixedText, Regexp, SegmentWildcard, FullWildcard}
use Rattle.urlpattern_syntax.specs.Options.{OptionsView}
use Rattle.urlpattern_syntax.specs.Parts.{PartView}
use Rattle.urlpattern_syntax.specs.RegexpText.{escaped_marks, is_fixed_text, is_unmodified}
use Rattle.urlpattern_syntax.proofs.TokenExamples.{no}
use Rattle.urlpattern_meaning.proofs.MatchingLaws.{part_of}
use Rattle.urlpattern_meaning.proofs.PartTreeAllowed.{text_allowed}
use Rattle.urlpattern_meaning.proofs.PartTrees.{fixed_tree, part_tree, part_tree_by, put, tree_of}
use Rattle.urlpattern_meaning.proofs.TreeMeaning.{text_means}
use Rattle.urlpattern_meaning.proofs.WayLists.{Every, every-weaker}
use Rattle.urlpattern_meaning.proofs.WaysCut.{Cut, items-cut}
use Rattle.urlpattern_meaning.proofs.WaysJoined.{Seen, both_items, both_put, both_ways, first_of, put_first, put_ways, seen, seen_of, takes_all}
use Rattle.urlpattern_meaning.proofs.WaysSound.{IsSound, ways-sound}

-- ---- a fixed text at the end

-- A single way, which captures nothing and leaves nothing.
abbrev nothing_left : List Seen
nothing_left = ([], []) ∷ []

module _ (marks s : List ℕ) (are : AreItems (put marks s Nothing)) where
  abbrev last : List ℕ → List Way
  last = ways (put marks s Nothing)

  -- Each way matches the text.
  last_takes : (text : List ℕ) → Every (λ way. length text ≡ length s + length way.rest) (last text)
  last_takes text =
      every-weaker (IsSound text (Means (put marks s Nothing))) _ (last text)
      (λ way p. ap length p.0 ∙ length-append way.taken way.rest ∙ ap (λ t. length t + length way.rest) ((text_means marks s way.taken way.captures).0 p.1).0)
      (ways-sound (put marks s Nothing) are text)

  -- Ways that leave something are skipped.
  passed_over : (way : Way) (ms xs : List Way) → Every (λ m. takes_all m ≡ false) ms → first_of (map (joined_way way) ms ++ xs) ≡ first_of xs
  passed_over way [] xs every = refl
  passed_over way (m ∷ ms) xs every =
      ap (option_map (λ (w : Way). w.captures)) (cond-false (takes_all m) (Some (joined_way way m)) (find takes_all (map (joined_way way) ms ++ xs)) every.0)
      ∙ passed_over way ms xs every.1

  not_all : (way : Way) → ¬ (length way.rest ≡ length s) → Every (λ m. takes_all m ≡ false) (last way.rest)
  not_all way differs =
      every-weaker (λ m. length way.rest ≡ length s + length m.rest) _ (last way.rest)
      (λ m e. ne_eqb (length m.rest) 0 (λ none. differs (omega (arith, e, none)))) (last_takes way.rest)

  -- Where the text is all that is left, it is matched, and nothing more is captured.
  one_all : (way : Way) (xs : List Way) → way.rest ≡ s → first_of (map (joined_way way) (last way.rest) ++ xs) ≡ Some way.captures
  one_all way xs e = by (last way.rest) (ap (λ t. seen (last t)) (e ∙ sym (append-nil s)) ∙ put_ways marks s Nothing [])
    where
      by : (ms : List Way) → seen ms ≡ nothing_left → first_of (map (joined_way way) ms ++ xs) ≡ Some way.captures
      by [] f = absurd cc
      by (m ∷ ms) f =
          let here : seen_of m ≡ ([], []) = cc f in
          let none : m.captures ≡ [] = ap (λ (s : Seen). s.0) here in
          let all : m.rest ≡ [] = ap (λ (s : Seen). s.1) here in
          ap (λ (t : List ℕ). option_map (λ (w : Way). w.captures) (cond (length t == 0) (Some (joined_way way m)) (find takes_all (map (joined_way way) ms ++ xs)))) all
          ∙ ap (λ c. Some (way.captures ++ c)) none ∙ ap Some (append-nil way.captures)

  -- The first way of ways before the text is the first of those that leave the text.
  first_cut : (xs us : List Way) → Cut s xs us → first_of (continued last xs) ≡ first_of us
  first_cut [] us e = ap first_of (sym e)
  first_cut (way ∷ xs) us (inl (less, p)) =
      passed_over way (last way.rest) (continued last xs) (not_all way (λ e. omega (arith, e, less))) ∙ first_cut xs us p
  first_cut (way ∷ xs) us (inr (other, others, e, f, p)) = by other.rest refl (first_cut xs others p)
    where
      rest_is : way.rest ≡ other.rest ++ s
      rest_is = ap (λ (w : Way). w.rest) f

      by : (rest : List ℕ) → other.rest ≡ rest → first_of (continued last xs) ≡ first_of others → first_of (continued last (way ∷ xs)) ≡ first_of us
      by [] g later =
          one_all way (continued last xs) (rest_is ∙ ap (λ t. t ++ s) g) ∙ ap (λ (w : Way). Some w.captures) f
          ∙ sym (ap first_of e ∙ ap (λ (t : List ℕ). option_map (λ (w : Way). w.captures) (cond (length t == 0) (Some other) (find takes_all others))) g)
      by (c ∷ rest) g later =
          passed_over way (last way.rest) (continued last xs)
          (not_all way (λ h. omega (arith, h, ap length rest_is, length-append other.rest s, ap length g)))
          ∙ later
          ∙ sym (ap first_of e ∙ ap (λ (t : List ℕ). option_map (λ (w : Way). w.captures) (cond (length t == 0) (Some other) (find takes_all others))) g
          ∙ ap (option_map (λ (w : Way). w.captures)) (cond-false (length (c ∷ rest) == 0) (Some other) (find takes_all others) (ne_eqb (length (c ∷ rest)) 0 (λ none. omega (arith, none)))))

  pub last_first : (tree : Items) → AreItems tree → (inner : List ℕ) → first_way (both_items tree (put marks s Nothing)) (inner ++ s) ≡ first_way tree inner
  unfolding first_way_by
  last_first tree h inner =
      ap first_of (both_ways (is_same_character false) tree (put marks s Nothing) (inner ++ s))
      ∙ first_cut (ways tree (inner ++ s)) (ways tree inner) (items-cut s tree h inner)

-- ---- parts

fixed_both : (modifier : PartModifier) (marks value : List ℕ) (items others : Items) → fixed_tree modifier marks value (both_items items others) ≡ both_items (fixed_tree modifier marks value items) others
fixed_both modifiers.None marks value items others = both_put marks value items others
fixed_both modifiers.Optional marks value items others = refl
fixed_both modifiers.ZeroOrMore marks value items others = refl
fixed_both modifiers.OneOrMore marks value items others = refl

part_both : (kind : PartType) (options : OptionsView) (part : PartView) (items others : Items) → part_tree_by kind options part (both_items items others) ≡ both_items (part_tree_by kind options part items) others
part_both FixedText options part items others = fixed_both part.modifier (escaped_marks options.syntax) part.value items others
part_both Regexp options part items others = refl
part_both SegmentWildcard options part items others = refl
part_both FullWildcard options part items others = refl

-- The tree of two lists of parts.
both_trees : (options : OptionsView) (parts others : List PartView) → tree_of options (parts ++ others) ≡ both_items (tree_of options parts) (tree_of options others)
both_trees options [] others = refl
both_trees options (part ∷ parts) others =
    ap (part_tree options part) (both_trees options parts others) ∙ part_both part.kind options part (tree_of options parts) (tree_of options others)

plain_tree_by : (options : OptionsView) (kind : PartType) (modifier : PartModifier) (value name prefix suffix : List ℕ) → IsTrue (is_fixed_text kind && is_unmodified modifier) →
    tree_of options (part_of kind modifier value name prefix suffix ∷ []) ≡ put (escaped_marks options.syntax) value Nothing
plain_tree_by options FixedText modifiers.None value name prefix suffix h = refl
plain_tree_by options kind modifier value name prefix suffix h = absurd (no h)

-- The tree of a text that is removed at an end.
end_tree : (options : OptionsView) (end : Option PartView) (IsThere : Type 0) → IsRemoved end IsThere → tree_of options (option_to_list end) ≡ put (escaped_marks options.syntax) (end_text end) Nothing
end_tree options None IsThere goes = refl
end_tree options (Some part) IsThere goes = plain_tree_by options part.kind part.modifier part.value part.name part.prefix part.suffix goes

before_items : (marks front : List ℕ) (items : Items) → both_items (put marks front Nothing) items ≡ put marks front items
before_items marks front items = sym (both_put marks front Nothing items)

pub first_peeled : (options : OptionsView) (parts : List PartView) (front : Option PartView) (middle : List PartView) (back : Option PartView) (inner : List ℕ) →
    AreItems (tree_of options middle) → AreStripped parts front middle back →
    first_way (tree_of options parts) (end_text front ++ inner ++ end_text back) ≡ first_way (tree_of options middle) inner
first_peeled options parts front middle back inner are_middle peeled =
    let marks = escaped_marks options.syntax in
    let last = put marks (end_text back) Nothing in
    let M = tree_of options middle in
    let split : tree_of options parts ≡ put marks (end_text front) (both_items M last) =
    ap (tree_of options) (peeled.cut ∙ append_assoc (option_to_list front) middle (option_to_list back))
    ∙ both_trees options (option_to_list front) (middle ++ option_to_list back)
    ∙ ap₂ both_items (end_tree options front _ peeled.front_removed) (both_trees options middle (option_to_list back) ∙ ap (both_items M) (end_tree options back _ peeled.back_removed))
    ∙ before_items marks (end_text front) (both_items M last) in
    ap₂ first_way split (append_assoc (end_text front) inner (end_text back))
    ∙ put_first marks (end_text front) (both_items M last) (inner ++ end_text back)
    ∙ last_first marks (end_text back) (text_allowed options (end_text back)) M are_middle inner
