-- The subject of a diagnosis, in words.
use Rattle.std.specs.Prelude.{ℕ, List, codes}
use Rattle.urlpattern_components.specs.Eight.{name_text}
use Rattle.urlpattern_diagnosis.specs.declared.diagnosis.Subject.{Subject}
use Rattle.urlpattern_diagnosis.specs.declared.diagnosis.Subject.TheVariants as subjects

-- What is at fault, in words: for a component, its name in lower case.
abbrev pub subject_text : Subject → List ℕ
subject_text subjects.Whole = codes "pattern"
subject_text subjects.Base = codes "base URL"
subject_text (subjects.Component component) = name_text component
