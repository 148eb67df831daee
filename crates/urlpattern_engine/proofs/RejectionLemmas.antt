-- Lemmas on why an expression is rejected.
use Rattle.std.proofs.Common.{◌≢◌, ◌<◌, ℕ, Bool, List, inl, inr, sym, subst}
use Rattle.std.specs.Prelude.{IfSome}
use Rattle.std.specs.Str.{chars}
use Rattle.regex_syntax.specs.Verdict.{Refuses}
use Rattle.regex_syntax.specs.declared.error.ErrorKind.{ErrorKind}
use Rattle.regex_syntax.specs.declared.error.ErrorKind.TheVariants.{OutOfMemory}
use Rattle.urlpattern_expressions.specs.Expressions.{config_for}
use Rattle.urlpattern_engine.specs.ExpressionFaults.{IsUnreadable}

-- An expression is unreadable that the grammar rejects for another reason than memory.
pub unreadable_of_refused : (ignore_case : Bool) (source : List ℕ) (kind : ErrorKind) → Refuses (config_for ignore_case) source kind → kind ≢ OutOfMemory → IsUnreadable ignore_case (chars source)
unfolding Refuses
unreadable_of_refused ignore_case source kind (inl memory) other = absurd (other memory)
unreadable_of_refused ignore_case source kind (inr (inl none)) other =
    let limit = (config_for ignore_case).nest_limit in subst (λ o. IfSome o (λ found. limit < found.0.depth)) (sym none) tt
unreadable_of_refused ignore_case source kind (inr (inr deep)) other = deep.1
