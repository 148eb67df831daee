-- Words on decisions.
use Rattle.std.specs.Prelude.{Bool, true, false}
use Rattle.urlpattern_policy.specs.declared.decision.Decision.{Decision}
use Rattle.urlpattern_policy.specs.declared.decision.Decision.TheVariants.{Allow, Deny}

-- Whether the decision allows the URL.
abbrev pub is_allow : Decision → Bool
is_allow (Allow rule) = true
is_allow (Deny reason) = false
