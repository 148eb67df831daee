-- Examples of what steps capture.
use Rattle.std.proofs.Common.{◌≡◌, [], ◌∷◌, Some, None, true, false, codes, refl}
use Rattle.urlpattern_steps.specs.declared.step.Step.TheVariants.{Literal, LazyRun, DotStar, OptionalGroup, GreedyRun, RepeatedLiteral, Segments}
use Rattle.urlpattern_steps.specs.Walk.{walk}

-- ---- of `^/([^/]+?)$`

pub segment_to_the_end : walk false (Literal 47 ∷ LazyRun 47 ∷ []) (codes "/ab") ≡ Some (Some (codes "ab") ∷ [])
segment_to_the_end = refl

pub no_empty_segment : walk false (Literal 47 ∷ LazyRun 47 ∷ []) (codes "/") ≡ None
no_empty_segment = refl

pub text_after_the_end : walk false (Literal 47 ∷ LazyRun 47 ∷ []) (codes "/ab/") ≡ None
text_after_the_end = refl

-- ---- of `^([^/]+?)/(.*)$`

pub captures_in_order : walk false (LazyRun 47 ∷ Literal 47 ∷ DotStar ∷ []) (codes "a/b/c") ≡ Some (Some (codes "a") ∷ Some (codes "b/c") ∷ [])
captures_in_order = refl

pub empty_wildcard : walk false (LazyRun 47 ∷ Literal 47 ∷ DotStar ∷ []) (codes "a/") ≡ Some (Some (codes "a") ∷ Some [] ∷ [])
empty_wildcard = refl

pub no_line_feed : walk false (LazyRun 47 ∷ Literal 47 ∷ DotStar ∷ []) (codes "a/b\nc") ≡ None
no_line_feed = refl

-- ---- of `^([^/]+?)b$`

pub shortest_that_leads_on : walk false (LazyRun 47 ∷ Literal 98 ∷ []) (codes "abb") ≡ Some (Some (codes "ab") ∷ [])
shortest_that_leads_on = refl

-- ---- of `^(.*)/(.*)$`

pub longest_comes_first : walk false (DotStar ∷ Literal 47 ∷ DotStar ∷ []) (codes "a/b/c") ≡ Some (Some (codes "a/b") ∷ Some (codes "c") ∷ [])
longest_comes_first = refl

-- ---- of `^(?:/([^/]+?))?$`

pub missing_group : walk false (OptionalGroup (record { steps = 2; captures = 1 }) ∷ Literal 47 ∷ LazyRun 47 ∷ []) [] ≡ Some (None ∷ [])
missing_group = refl

pub group_that_is_there : walk false (OptionalGroup (record { steps = 2; captures = 1 }) ∷ Literal 47 ∷ LazyRun 47 ∷ []) (codes "/a") ≡ Some (Some (codes "a") ∷ [])
group_that_is_there = refl

-- ---- of `^(?:ab)*a$`

pub no_copies : walk false (RepeatedLiteral (record { text = record { first = 97; others = 1 }; allows_zero = true }) ∷ Literal 98 ∷ Literal 97 ∷ []) (codes "a") ≡ Some []
no_copies = refl

pub two_copies : walk false (RepeatedLiteral (record { text = record { first = 97; others = 1 }; allows_zero = true }) ∷ Literal 98 ∷ Literal 97 ∷ []) (codes "ababa") ≡ Some []
two_copies = refl

-- ---- of `^(?:a)+(.*)$`

pub most_copies_first : walk false (RepeatedLiteral (record { text = record { first = 97; others = 0 }; allows_zero = false }) ∷ DotStar ∷ []) (codes "aab") ≡ Some (Some (codes "b") ∷ [])
most_copies_first = refl

pub one_copy_at_least : walk false (RepeatedLiteral (record { text = record { first = 97; others = 0 }; allows_zero = false }) ∷ DotStar ∷ []) (codes "b") ≡ None
one_copy_at_least = refl

-- ---- of `^(?:a)+ab$`

pub fewer_copies : walk false (RepeatedLiteral (record { text = record { first = 97; others = 0 }; allows_zero = false }) ∷ Literal 97 ∷ Literal 98 ∷ []) (codes "aab") ≡ Some []
fewer_copies = refl

-- ---- of `^((?:[^/]+?)*)/(.*)$`

pub longest_run_first : walk false (GreedyRun (record { end = 47; may_be_empty = true }) ∷ Literal 47 ∷ DotStar ∷ []) (codes "ab/c/d") ≡ Some (Some (codes "ab") ∷ Some (codes "c/d") ∷ [])
longest_run_first = refl

pub empty_run : walk false (GreedyRun (record { end = 47; may_be_empty = true }) ∷ Literal 47 ∷ DotStar ∷ []) (codes "/c") ≡ Some (Some [] ∷ Some (codes "c") ∷ [])
empty_run = refl

-- ---- of `^((?:.+?)+)b$`

pub no_empty_run : walk false (GreedyRun (record { end = 10; may_be_empty = false }) ∷ Literal 98 ∷ []) (codes "b") ≡ None
no_empty_run = refl

pub shorter_run : walk false (GreedyRun (record { end = 10; may_be_empty = false }) ∷ Literal 98 ∷ []) (codes "abb") ≡ Some (Some (codes "ab") ∷ [])
shorter_run = refl

-- ---- of `^/((?:[^/]+?)(?:/(?:[^/]+?))*)$`

pub segments_to_the_end : walk false (Literal 47 ∷ Segments (record { separator = record { first = 47; others = 0 }; end = 47; is_greedy = false }) ∷ []) (codes "/a/b/c") ≡ Some (Some (codes "a/b/c") ∷ [])
segments_to_the_end = refl

pub no_empty_segment_between : walk false (Literal 47 ∷ Segments (record { separator = record { first = 47; others = 0 }; end = 47; is_greedy = false }) ∷ []) (codes "/a//c") ≡ None
no_empty_segment_between = refl

-- ---- of `^a((?:[^/]+?)(?:ba(?:[^/]+?))*)b(.*)$`

pub most_segments_first : walk false (Literal 97 ∷ Segments (record { separator = record { first = 98; others = 1 }; end = 47; is_greedy = false }) ∷ Literal 97 ∷ Literal 98 ∷ DotStar ∷ []) (codes "axbaybz")
    ≡ Some (Some (codes "xbay") ∷ Some (codes "z") ∷ [])
most_segments_first = refl

-- ---- of `^-((?:.*)(?:-(?:.*))*)-c$`

pub fewer_segments : walk false (Literal 45 ∷ Segments (record { separator = record { first = 45; others = 0 }; end = 10; is_greedy = true }) ∷ Literal 45 ∷ Literal 99 ∷ []) (codes "-a-b-c") ≡ Some (Some (codes "a-b") ∷ [])
fewer_segments = refl

-- ---- where case is ignored

-- `^([^x]+?)x$`: the capture keeps its case, and excludes `x` in either case.
pub letter_of_either_case : walk true (LazyRun 120 ∷ Literal 120 ∷ []) (codes "AX") ≡ Some (Some (codes "A") ∷ [])
letter_of_either_case = refl

pub no_letter_of_either_case : walk true (LazyRun 120 ∷ []) (codes "aX") ≡ None
no_letter_of_either_case = refl

-- `^(?:ab)*(.*)$`: copies in either case.
pub copies_of_either_case : walk true (RepeatedLiteral (record { text = record { first = 97; others = 1 }; allows_zero = true }) ∷ Literal 98 ∷ DotStar ∷ []) (codes "aBABc") ≡ Some (Some (codes "c") ∷ [])
copies_of_either_case = refl

-- `^É$`: only ASCII letters match in either case.
pub letter_outside : walk true (Literal 0xC9 ∷ []) (0xE9 ∷ []) ≡ None
letter_outside = refl
