use Rattle.std.proofs.Common.{take}
use Rattle.std.specs.List.{AllByRecursion}
use Rattle.urlpattern_compile.specs.CompilerSteps.{settings_by}
use Rattle.urlpattern_compile.proofs.DiagnosisLemmas.{IsCompiledBy}
use Rattle.urlpattern_compile.proofs.compile.Compiler.first_rejected_of.Given as goal

-- The components before this one are compiled.
abbrev pub invariant-loop-name : goal.invariant-loop-name
invariant-loop-name g l = AllByRecursion (IsCompiledBy g.R.RegExp (settings_by l.self l.hierarchical)) (take l.name-index l.names)
