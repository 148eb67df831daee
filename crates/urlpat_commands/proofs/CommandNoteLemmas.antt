-- Lemmas on errors that are explained, or not.
use Rattle.std.proofs.Common.{ℕ, List, [], append-nil, codes, inl, inr, subst, sym}
use Rattle.std.specs.Io.KnownBytes.{Appends}
use Rattle.std.specs.Prelude.{Err, IfSome, None, Ok, OnOk, Option, Result, Some}
use Rattle.urlpat_commands.specs.CommandAnswers.{ReportsFirst}
use Rattle.urlpat_matching.proofs.LineAnswerLemmas.{appends-both}

-- Lines that are written alone are written first.
pub reports-alone : {X E : Type 0} (known : Option (List ℕ)) (written : Result X E)
    (old new : Option (List ℕ)) → IfSome known (λ lines. OnOk written (Appends old new lines))
    → IfSome known (λ lines. OnOk written (ReportsFirst lines old new))
reports-alone None written old new is = tt
reports-alone (Some lines) (Err error) old new is = tt
reports-alone (Some lines) (Ok x) old new is =
    inl ([], subst (Appends old new) (sym (append-nil lines)) is)

-- Lines before a note are written first.
pub reports-noted : {X E : Type 0} (known : Option (List ℕ)) (note : List ℕ) (written : Result X E)
    (old mid new : Option (List ℕ)) → IfSome known (λ lines. Appends old mid lines)
    → OnOk written (Appends mid new note)
    → IfSome known (λ lines. OnOk written (ReportsFirst lines old new))
reports-noted None note written old mid new first second = tt
reports-noted (Some lines) note (Err error) old mid new first second = tt
reports-noted (Some lines) note (Ok x) old mid new first second =
    inl (note, appends-both old mid new lines note first second)

-- Memory runs out during the note.
pub reports-no-memory : {X E : Type 0} (known : Option (List ℕ)) (written : Result X E)
    (old new : Option (List ℕ)) → OnOk written (Appends old new (codes "out of memory\n"))
    → IfSome known (λ lines. OnOk written (ReportsFirst lines old new))
reports-no-memory None written old new is = tt
reports-no-memory (Some lines) (Err error) old new is = tt
reports-no-memory (Some lines) (Ok x) old new is = inr is
