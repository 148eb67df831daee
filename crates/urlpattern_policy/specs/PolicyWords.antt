-- The options of a new policy.
use Rattle.std.specs.Prelude.{true, false}
use Rattle.urlpattern_differences.specs.declared.rules.Effect.TheVariants as effects
use Rattle.urlpattern_policy.specs.declared.policy.PolicyOptions.{PolicyOptions}

-- A URL that no rule matches is denied, and URLs are brought to their plain spelling.
abbrev pub strict_options : PolicyOptions
strict_options = record {
  default = effects.Deny;
  plain_spelling = true;
  denies_credentials = false;
}
