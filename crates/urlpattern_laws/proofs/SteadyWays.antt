-- The ways of parts split a text, and the ways that leave a text after it whole are those without
-- that text.
use Rattle.std.proofs.Common.{ℕ, suc, ◌+◌, List, [], ◌∷◌, ◌++◌, length, Bool, true, false, Option, Some, None, not, ◌&&◌, ◌==◌, refl, ap, arith, length-append}
use Rattle.regex_class.specs.Ranges.{in_ranges}
use Rattle.regex_hir.specs.Re.{Re, empty, literal, byte_in, char_in, look, cat, alt, group, plus}
use Rattle.regex_hir.specs.Text.{char_at, is_some_and}
use Rattle.regex_syntax.specs.Brackets.{Nested}
use Rattle.regex_syntax.specs.Grammar.{Names, read}
use Rattle.regex_syntax.specs.declared.Config.{Config}
use Rattle.urlpattern_laws.proofs.Choices.{HasCaptures, Cuts, cuts_captured, cuts_either, cuts_followed, cuts_idle, cuts_one, cuts_quantified}
use Rattle.urlpattern_laws.proofs.PartItems.{part_count, parts_count}
use Rattle.urlpattern_expressions.specs.PartWays.{affixed_ways_as, bare_ways, between_ways_as, captured_whole, copies_ways_as, exactly_as, fixed_ways_as, followed_by, is_in_segment_as, part_ways_as, parts_ways_as, pattern_ways, piece_ways_as, several_ways_as, ways_of_reading}
use Rattle.urlpattern_meaning.proofs.WayLists.{every-weaker}
use Rattle.urlpattern_meaning.proofs.WaysCut.{Falls, IsCut, cut-append, cut-continued, cut-empty_way, cut-map, one-cut, taken-cut}
use Rattle.urlpattern_meaning.proofs.WaysSound.{IsSound}
use Rattle.urlpattern_meaning.specs.Dialect.{AllowsGroups, Quantifier, Optional, ZeroOrMore, OneOrMore, LazyOneOrMore}
use Rattle.urlpattern_meaning.specs.Ways.{WaysByText, capturing, looped, one_that, empty_way, quantified_ways}
use Rattle.urlpattern_syntax.specs.Options.{OptionsView}
use Rattle.urlpattern_syntax.specs.Parts.{PartView}
use Rattle.urlpattern_syntax.specs.RegexpText.{is_empty}
use Rattle.urlpattern_syntax.specs.Text.{line_feed}
use Rattle.urlpattern_syntax.specs.declared.parser.PartModifier.{PartModifier}
use Rattle.urlpattern_syntax.specs.declared.parser.PartModifier.TheVariants as modifiers
use Rattle.urlpattern_syntax.specs.declared.parser.PartType.{PartType}
use Rattle.urlpattern_syntax.specs.declared.parser.PartType.TheVariants.{FixedText, Regexp, SegmentWildcard, FullWildcard}

falls_of : (choice : WaysByText) (n : ℕ) → Cuts choice n → Falls choice
falls_of choice n cuts text =
    every-weaker (IsSound text (HasCaptures n)) _ (choice text) (λ way p. omega (arith, ap length p.0, length-append way.taken way.rest)) (cuts text)

-- Each way splits the text, with `count` captures, and the ways in a longer text that leave its end
-- whole are those in the shorter one.
pub record Steady (choice : WaysByText) (count : ℕ) : Type 0 where
  pub cuts : Cuts choice count
  pub same : (s : List ℕ) → IsCut s choice choice

-- ---- choices

pub steady_idle : (groups : ℕ) → Steady (λ text. empty_way groups text ∷ []) groups
steady_idle groups = record { cuts = cuts_idle groups; same = λ s inner. cut-empty_way s groups inner }

steady_nothing : Steady (λ text. []) 0
steady_nothing = record { cuts = λ text. tt; same = λ s inner. refl }

steady_one : (passes : ℕ → Bool) → Steady (one_that passes) 0
steady_one passes = record { cuts = cuts_one passes; same = λ s inner. one-cut s passes inner }

steady_followed : (first next : WaysByText) (m n : ℕ) → Steady first m → Steady next n → Steady (followed_by first next) (m + n)
steady_followed first next m n p q = record {
  cuts = cuts_followed first next m n p.cuts q.cuts;
  same = λ s inner. cut-continued s next next (falls_of next n q.cuts) (q.same s) (first (inner ++ s)) (first inner) (p.same s inner);
}

steady_either : (first other : WaysByText) (n : ℕ) → Steady first n → Steady other n → Steady (λ text. first text ++ other text) n
steady_either first other n p q = record {
  cuts = cuts_either first other n p.cuts q.cuts;
  same = λ s inner. cut-append s (first (inner ++ s)) (other (inner ++ s)) (first inner) (other inner) (p.same s inner) (q.same s inner);
}

pub steady_captured : (choice : WaysByText) (n : ℕ) → Steady choice n → Steady (captured_whole choice) (suc n)
steady_captured choice n p = record {
  cuts = cuts_captured choice n p.cuts;
  same = λ s inner. cut-map s capturing capturing (λ way. refl) (λ way. refl) (choice (inner ++ s)) (choice inner) (p.same s inner);
}

steady_quantified : (quantifier : Quantifier) (groups : ℕ) (choice : WaysByText) → AllowsGroups quantifier groups → Steady choice groups → Steady (quantified_ways quantifier groups choice) groups
steady_quantified quantifier groups choice allowed p = record {
  cuts = cuts_quantified quantifier groups choice allowed p.cuts;
  same = λ s. taken-cut s quantifier groups choice (falls_of choice groups p.cuts) (p.same s);
}

steady_looped : (greedy : Bool) (choice : WaysByText) → Steady choice 0 → Steady (looped greedy choice) 0
steady_looped true choice p = steady_quantified OneOrMore 0 choice refl p
steady_looped false choice p = steady_quantified LazyOneOrMore 0 choice refl p

-- ---- patterns

steady_pattern : (re : Re) → Steady (pattern_ways re) 0
steady_pattern empty = steady_idle 0
steady_pattern (literal bytes) = steady_one (λ c. is_some_and (char_at bytes 0) (λ written. c == written))
steady_pattern (byte_in ranges) = steady_nothing
steady_pattern (char_in ranges) = steady_one (in_ranges ranges)
steady_pattern (look assertion) = steady_nothing
steady_pattern (cat a b) = steady_followed (pattern_ways a) (pattern_ways b) 0 0 (steady_pattern a) (steady_pattern b)
steady_pattern (alt a b) = steady_either (pattern_ways a) (pattern_ways b) 0 (steady_pattern a) (steady_pattern b)
steady_pattern (group n a) = steady_pattern a
steady_pattern (plus greedy a) = steady_looped greedy (pattern_ways a) (steady_pattern a)

steady_reading : (found : Option (Nested Re × Names)) → Steady (ways_of_reading found) 0
steady_reading None = steady_nothing
steady_reading (Some (pattern, names)) = steady_pattern pattern.value

-- ---- parts

-- `config` has the options by which the grammar reads custom expressions. `same` says whether a
-- character of the text matches a given one.
module _ (config : Config) (same : (c given : ℕ) → Bool) where
  pub steady_exactly : (given : List ℕ) → Steady (exactly_as same given) 0
  steady_exactly [] = steady_idle 0
  steady_exactly (c ∷ given) = steady_followed (one_that (λ other. same other c)) (exactly_as same given) 0 0 (steady_one (λ other. same other c)) (steady_exactly given)

  pub steady_piece : (options : OptionsView) (kind : PartType) (value : List ℕ) → Steady (piece_ways_as config same options kind value) 0
  steady_piece options FixedText value = steady_nothing
  steady_piece options Regexp value = steady_reading (read config value)
  steady_piece options SegmentWildcard value =
      steady_looped false (one_that (is_in_segment_as same options.delimiter)) (steady_one (is_in_segment_as same options.delimiter))
  steady_piece options FullWildcard value = steady_quantified ZeroOrMore 0 (one_that (λ c. not (c == line_feed))) refl (steady_one (λ c. not (c == line_feed)))

  steady_fixed : (modifier : PartModifier) (value : List ℕ) → Steady (fixed_ways_as same modifier value) 0
  steady_fixed modifiers.None value = steady_exactly value
  steady_fixed modifiers.Optional value = steady_quantified Optional 0 (exactly_as same value) tt (steady_exactly value)
  steady_fixed modifiers.ZeroOrMore value = steady_quantified ZeroOrMore 0 (exactly_as same value) refl (steady_exactly value)
  steady_fixed modifiers.OneOrMore value = steady_quantified OneOrMore 0 (exactly_as same value) refl (steady_exactly value)

  steady_bare : (modifier : PartModifier) (piece : WaysByText) → Steady piece 0 → Steady (bare_ways modifier piece) 1
  steady_bare modifiers.None piece p = steady_captured piece 0 p
  steady_bare modifiers.Optional piece p = steady_quantified Optional 1 (captured_whole piece) tt (steady_captured piece 0 p)
  steady_bare modifiers.ZeroOrMore piece p = steady_captured (quantified_ways ZeroOrMore 0 piece) 0 (steady_quantified ZeroOrMore 0 piece refl p)
  steady_bare modifiers.OneOrMore piece p = steady_captured (quantified_ways OneOrMore 0 piece) 0 (steady_quantified OneOrMore 0 piece refl p)

  module _ (prefix suffix : List ℕ) where
    steady_between : (core : WaysByText) → Steady core 0 → Steady (between_ways_as same prefix suffix core) 1
    steady_between core p =
        steady_followed (followed_by (exactly_as same prefix) (captured_whole core)) (exactly_as same suffix) 1 0
        (steady_followed (exactly_as same prefix) (captured_whole core) 0 1 (steady_exactly prefix) (steady_captured core 0 p)) (steady_exactly suffix)

    steady_several : (piece : WaysByText) → Steady piece 0 → Steady (several_ways_as same prefix suffix piece) 0
    steady_several piece p =
        let further : WaysByText = followed_by (followed_by (exactly_as same suffix) (exactly_as same prefix)) piece in
        steady_followed piece (quantified_ways ZeroOrMore 0 further) 0 0 p
        (steady_quantified ZeroOrMore 0 further refl
        (steady_followed (followed_by (exactly_as same suffix) (exactly_as same prefix)) piece 0 0 (steady_followed (exactly_as same suffix) (exactly_as same prefix) 0 0 (steady_exactly suffix) (steady_exactly prefix)) p))

    steady_affixed : (modifier : PartModifier) (piece : WaysByText) → Steady piece 0 → Steady (affixed_ways_as same modifier prefix suffix piece) 1
    steady_affixed modifiers.None piece p = steady_between piece p
    steady_affixed modifiers.Optional piece p = steady_quantified Optional 1 (between_ways_as same prefix suffix piece) tt (steady_between piece p)
    steady_affixed modifiers.OneOrMore piece p = steady_between (several_ways_as same prefix suffix piece) (steady_several piece p)
    steady_affixed modifiers.ZeroOrMore piece p =
        steady_quantified Optional 1 (between_ways_as same prefix suffix (several_ways_as same prefix suffix piece)) tt (steady_between (several_ways_as same prefix suffix piece) (steady_several piece p))

    steady_copies : (is_bare : Bool) (modifier : PartModifier) (piece : WaysByText) → Steady piece 0 → Steady (copies_ways_as same is_bare modifier prefix suffix piece) 1
    steady_copies true modifier piece p = steady_bare modifier piece p
    steady_copies false modifier piece p = steady_affixed modifier piece p

  steady_part : (options : OptionsView) (kind : PartType) (part : PartView) → Steady (part_ways_as config same kind options part) (part_count kind)
  steady_part options FixedText part = steady_fixed part.modifier part.value
  steady_part options kind part =
      steady_copies part.prefix part.suffix (is_empty part.prefix && is_empty part.suffix) part.modifier (piece_ways_as config same options kind part.value) (steady_piece options kind part.value)

  pub steady_parts : (options : OptionsView) (parts : List PartView) → Steady (parts_ways_as config same options parts) (parts_count parts)
  steady_parts options [] = steady_idle 0
  steady_parts options (part ∷ parts) =
      steady_followed (part_ways_as config same part.kind options part) (parts_ways_as config same options parts) (part_count part.kind) (parts_count parts) (steady_part options part.kind part) (steady_parts options parts)
