use Rattle.std.proofs.Common.{None, Some, ap, sym, ◌∙◌}
use Rattle.std.proofs.lemmas.Bool.{cond-false, cond-true, false_from_ne_true}
use Rattle.std.proofs.lemmas.Str.{IsUtf8-from_is_utf8, is_utf8-from_IsUtf8}
use Rattle.std.specs.Str.{is_utf8}
use Rattle.urlpat_tables.proofs.fields.utf8_text.Goals as goal

pub returns-in_ok-from_str-in-Ok : goal.returns-in_ok-from_str-in-Ok
returns-in_ok-from_str-in-Ok c =
    let field = c.args.field.now in
    let (same, utf8) = c.in-Ok.ensures.cases in
    ap Some (c.in_ok-from_str-in-Ok.ensures.ok ∙ same) ∙ sym (cond-true (is_utf8 field) (Some field) None (is_utf8-from_IsUtf8 field utf8))

pub returns-in-Err : goal.returns-in-Err
returns-in-Err c =
    let field = c.args.field.now in
    sym (cond-false (is_utf8 field) (Some field) None (false_from_ne_true (is_utf8 field) (λ is. c.in-Err.ensures.cases.0 (IsUtf8-from_is_utf8 field is))))
