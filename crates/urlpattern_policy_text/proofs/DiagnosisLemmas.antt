-- Lemmas on what diagnoses show.
use Rattle.std.proofs.Common.{◌≡◌, ℕ, List, string_bytes, subst, sym}
use Rattle.urlpattern_compile.specs.Diagnoses.{ShowsAll}
use Rattle.urlpattern_diagnosis.specs.Faults.{IsFaultIn, IsUrlFault}
use Rattle.urlpattern_diagnosis.specs.declared.diagnosis.Diagnosis.{Diagnosis}
use Rattle.urlpattern_diagnosis.specs.declared.diagnosis.Subject.{Subject}
use Rattle.urlpattern_policy_text.specs.PolicyTexts.{ShowsWhole}

pub shown_whole : (subject : Subject) (text : List ℕ) (diagnosis : Diagnosis) → diagnosis.subject ≡ subject → string_bytes diagnosis.text ≡ text → IsUrlFault text diagnosis.fault → IsFaultIn text diagnosis.fault → ShowsWhole subject text diagnosis
shown_whole subject text diagnosis is same fault within = (
  is,
  same,
  subst (λ (own : List ℕ). IsUrlFault own diagnosis.fault) (sym same) fault,
  subst (λ (own : List ℕ). IsFaultIn own diagnosis.fault) (sym same) within,
)
