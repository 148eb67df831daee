-- Lemmas on what an entry of a table of `rewrite` has after its first pattern.
use Rattle.std.proofs.Common.{◌≡◌, ◌∙◌, ◌==◌, ℕ, Bool, List, [], None, Option, ap, length, refl, subst, sym, true}
use Rattle.std.proofs.lemmas.Bool.{eqb-true}
use Rattle.std.proofs.lemmas.List.{nil_from_length}
use Rattle.urlpat_matching.specs.Tables.{EntryView, first_cell, other_cells}
use Rattle.urlpat_tables.specs.RewriteRules.{IsSecondFault, NeedsGroup, code_in}
use Rattle.urlpat_tables.specs.TableRules.{IsCompiledTo, IsRejectedCell}
use Rattle.urlpat_tables.specs.declared.table_fault.FaultReason.TheVariants as reasons
use Rattle.urlpat_tables.specs.declared.table_fault.TableFault.{TableFault}
use Rattle.urlpattern.specs.UrlPattern.{UrlPattern}
use Rattle.urlpattern_components.specs.declared.eight.ComponentName.{ComponentName}
use Rattle.urlpattern_engine.specs.declared.pattern_regexp.PatternRegexp.{PatternRegexp}
use Rattle.urlpattern_policy_text.specs.PolicyTexts.{place_in}
use Rattle.urlpattern_policy_text.specs.Statements.{column_of}
use Rattle.urlpattern_syntax.specs.Text.{text_of}
use Rattle.std.specs.Prelude.{String}
use Rattle.std.specs.declared.alloc.Global.{Global}

module _ (ignores : Bool) (base : Option (List ℕ)) (entry : EntryView) (first : UrlPattern PatternRegexp) (fault : TableFault) where
  -- The line has no second pattern.
  pub no-target : (pattern : List ℕ) → pattern ≡ first_cell entry.name → (length pattern == 0) ≡ true
      → fault ≡ record { line = entry.number; column = column_of entry.line [] 0; reason = reasons.NoTarget } → IsSecondFault ignores base entry first fault
  no-target pattern is none made =
      subst (IsSecondFault ignores base entry first) (sym made) (sym is ∙ nil_from_length pattern (eqb-true (length pattern) 0 none), (refl, refl))

  -- What follows the second pattern is no status code.
  pub no-status : (rest : List ℕ) → rest ≡ other_cells entry.name → code_in rest ≡ None
      → fault ≡ record { line = entry.number; column = column_of entry.line rest 0; reason = reasons.NoStatus } → IsSecondFault ignores base entry first fault
  no-status rest is none made =
      subst (IsSecondFault ignores base entry first) (sym made)
      (ap code_in (sym is) ∙ none, (refl, ap (λ (text : List ℕ). column_of entry.line text 0) is))

  -- The second pattern is rejected.
  pub rejected-second : (text : List ℕ) → text ≡ first_cell entry.name → IsRejectedCell ignores base entry entry.name text fault → IsSecondFault ignores base entry first fault
  rejected-second text is (diagnosis, diagnosed, made) =
      subst (IsSecondFault ignores base entry first) (sym made)
      (subst (λ (cell : List ℕ). IsRejectedCell ignores base entry entry.name cell (record { line = entry.number; column = column_of entry.line entry.name (place_in text diagnosis); reason = reasons.Rejected diagnosis }))
      is (diagnosis, diagnosed, refl))

  -- The second pattern needs a group that the first has not.
  pub group-lacking : (text : List ℕ) (second : UrlPattern PatternRegexp) (component : ComponentName) (name : String Global) → text ≡ first_cell entry.name → IsCompiledTo ignores base text second
      → NeedsGroup first second component (text_of name) → fault ≡ record { line = entry.number; column = column_of entry.line entry.name 0; reason = reasons.Needs component name }
      → IsSecondFault ignores base entry first fault
  group-lacking text second component name is compiled needs made =
      subst (IsSecondFault ignores base entry first) (sym made)
      ((second, subst (λ (cell : List ℕ). IsCompiledTo ignores base cell second) is compiled, needs), (refl, refl))
