use Rattle.std.proofs.Common.{◌≡◌, None, subst}
use Rattle.example.specs.Orders.{orders_text}
use Rattle.example.specs.Users.{default_asked}
use Rattle.example.proofs.orders.Orders.new.Goals as goal
use Rattle.urlpattern.specs.FromString.{IsPatternOfText}
use Rattle.urlpattern.specs.Patterns.{pattern_view}
use Rattle.urlpattern.specs.PatternRegexps.{pattern_engine}
use Rattle.urlpattern.specs.UrlPatternOptions.{UrlPatternOptions}

pub invariant_of-result : goal.invariant_of-result
invariant_of-result c =
    let fields = c.default-options.ensures in
    let same : c.default-options.result ≡ default_asked = λ i. record { regex_syntax = fields.0 i; ignore_case = fields.1 i } in
    subst (λ (options : UrlPatternOptions). IsPatternOfText pattern_engine orders_text None options (pattern_view c.in_ok-pattern.pattern))
    same c.in_ok-pattern.ensures.compiled
