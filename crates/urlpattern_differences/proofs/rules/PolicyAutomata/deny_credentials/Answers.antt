use Rattle.std.proofs.Common.{ap, [], ◌∙◌, ◌++◌, ◌∷◌}
use Rattle.urlpattern_differences.specs.declared.rules.Effect.TheVariants.{Deny}
use Rattle.urlpattern_differences.proofs.rules.PolicyAutomata.deny_credentials.Goals as goal

pub append-requires-2 : goal.append-requires-2
append-requires-2 c = c.append.ensures.room 1 c.in_ok-reserve.ensures.room

pub returns-clause-denied : goal.returns-clause-denied
returns-clause-denied c =
    let same = c.in_ok-reserve.ensures.unchanged in
    let first = c.append.ensures.appended in
    let username = c.in_ok-username.username in (
      username,
      c.in_ok-password.password,
      c.append.new.self,
      c.in_ok-username.ensures.parts,
      c.in_ok-username.ensures.automata,
      c.in_ok-password.ensures.parts,
      c.in_ok-password.ensures.automata,
      record {
        patterns = first.patterns ∙ ap (λ rules. rules ++ username ∷ []) same.patterns;
        effects = first.effects ∙ ap (λ rules. rules ++ Deny ∷ []) same.effects;
        default = first.default ∙ same.default;
      },
      c.append-2.ensures.appended,
    )
