-- Worked examples of places: of a component's pattern, and of a colon that a scheme lacks.
use Rattle.std.proofs.Common.{◌≡◌, None, Some, codes, refl}
use Rattle.urlpattern_components.specs.declared.eight.ComponentName.TheVariants.{Pathname, Protocol, Search}
use Rattle.urlpattern_diagnosis.specs.Faults.{missing_colon, mistyped_colon}
use Rattle.urlpattern_diagnosis.specs.PatternOffsets.{offset_in_value}
use Rattle.urlpattern_diagnosis.specs.Spans.{span_between}

-- The value `?(a` of a search at byte 11 has the pattern `(a` after its sign.
pub after_the_sign : offset_in_value Search (span_between 11 14) (codes "(a") ≡ record { start = 12; missing = 0 }
after_the_sign = refl

-- The value `https:` of a protocol has the pattern `https` before its colon.
pub before_the_colon : offset_in_value Protocol (span_between 0 6) (codes "https") ≡ record { start = 0; missing = 0 }
before_the_colon = refl

-- The value `{a` of a pathname lacks the path `/a/b/` of the base URL.
pub after_the_base : offset_in_value Pathname (span_between 0 2) (codes "/a/b/{a") ≡ record { start = 0; missing = 5 }
after_the_base = refl

pub colon_left_out : missing_colon (codes "https//a") ≡ Some 5
colon_left_out = refl

pub colon_of_two_left_out : missing_colon (codes "http{s}?//a") ≡ Some 8
colon_of_two_left_out = refl

pub colon_mistyped : mistyped_colon (codes "wss;//a") ≡ Some 3
colon_mistyped = refl

pub no_scheme : missing_colon (codes "abc//a") ≡ None
no_scheme = refl
