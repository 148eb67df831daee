use Rattle.std.proofs.Common.{◌≡◌, [], Ok, sym, ◌∙◌, refl, subst, inl, inr}
use Rattle.std.specs.Prelude.{option_copied, string_bytes, unwrap_or}
use Rattle.std.specs.Str.{chars}
use Rattle.urlpattern_canonical.specs.Canonical.{Reports}
use Rattle.urlpattern_init.specs.ConstructorString.{RejectsString}
use Rattle.urlpattern_compile.specs.Diagnoses.{ShowsText}
use Rattle.urlpattern_diagnosis.specs.declared.diagnosis.Subject.{Subject}
use Rattle.urlpattern_canonical.specs.BaseUrls.{parsed_base, text_bytes}
use Rattle.urlpattern_compile.specs.FromString.{IsInitOfText, RejectsPatternOfText, RejectsSplit}
use Rattle.urlpattern_compile.proofs.DiagnosisLemmas.{init_accepted, init_refused, init_shown, is_other, split_shown, shows_all, text-or_nothing}
use Rattle.urlpattern_syntax.specs.declared.error.Error.{Error}
use Rattle.urlpattern_syntax.specs.Errors.{error_view}
use Rattle.urlpattern_compile.proofs.diagnose.diagnose_text.Given as given
use Rattle.urlpattern_compile.proofs.diagnose.diagnose_text.Goals as goal
use Rattle.urlpattern_compile.proofs.diagnose.diagnose_text.Goals.{After-init_diagnosis-found}

pub returns-in-Err-parsed-clause-refused : goal.returns-in-Err-parsed-clause-refused
returns-in-Err-parsed-clause-refused g c =
    let text = chars c.args.pattern.now in
    let refused = is_other (RejectsString text c.in-Ok.base) c.in-Err-parsed.error c.in_ok-error-in-Err-parsed.error
    c.in-Err-parsed.ensures.refused c.in_ok-error-in-Err-parsed.ensures in
    subst (λ (error : Error). RejectsPatternOfText g.R.RegExp text (option_copied c.args.base_url) c.args.options (error_view error))
    (sym c.in_ok-protocol_diagnosis-in-Err-parsed.ensures.error) (inl (inr (c.in-Ok.base, c.in-Ok.ensures.ok, refused)))

pub returns-in-Err-parsed-clause-shows : goal.returns-in-Err-parsed-clause-shows
returns-in-Err-parsed-clause-shows g c =
    let made = c.in_ok-protocol_diagnosis-in-Err-parsed.field-0 in
    let is = c.in_ok-protocol_diagnosis-in-Err-parsed.ensures in
    let text = chars c.args.pattern.now in
    let base = option_copied c.args.base_url in
    let refused = is_other (RejectsString text c.in-Ok.base) c.in-Err-parsed.error c.in_ok-error-in-Err-parsed.error
    c.in-Err-parsed.ensures.refused c.in_ok-error-in-Err-parsed.ensures in
    split_shown g.R.RegExp c.args.pattern.now base c.args.options made is.text
    (subst (λ (error : Error). RejectsSplit text base (error_view error)) (sym is.error) (c.in-Ok.base, c.in-Ok.ensures.ok, refused)) is.shows

-- The init is that of the text.
is_init : (g : given.Over) (c : After-init_diagnosis-found g) → IsInitOfText g.R.RegExp (chars c.args.pattern.now) (option_copied c.args.base_url) c.in-Ok-parsed.found.0
is_init g c =
    let of = c.in-Ok-parsed.ensures in
    record {
      has_base = subst (λ url. parsed_base (option_copied c.args.base_url) ≡ Ok url) (sym of.base) c.in-Ok.ensures.ok;
      is_split = (c.in-Ok-parsed.found.1, of.split);
      is_complete = of.complete;
    }

pub returns-clause-accepted : goal.returns-clause-accepted
returns-clause-accepted g c =
    let is = is_init g (goal.at.returns-clause-accepted g c).After-init_diagnosis-found in
    init_accepted g.R.RegExp c.args.pattern.now (option_copied c.args.base_url) c.args.options c.in-Ok-parsed.found.0 c.in-Ok-parsed.found.1 is c.in-Ok-parsed.ensures.split
    c.init_diagnosis-found.result c.init_diagnosis-found.ensures.accepted

pub returns-clause-refused : goal.returns-clause-refused
returns-clause-refused g c =
    let is = is_init g (goal.at.returns-clause-refused g c).After-init_diagnosis-found in
    init_refused g.R.RegExp c.args.pattern.now (option_copied c.args.base_url) c.args.options c.in-Ok-parsed.found.0 c.in-Ok-parsed.found.1 is c.in-Ok-parsed.ensures.split
    c.init_diagnosis-found.result c.init_diagnosis-found.ensures.refused

pub returns-clause-shows : goal.returns-clause-shows
returns-clause-shows g c =
    let is = is_init g (goal.at.returns-clause-shows g c).After-init_diagnosis-found in
    init_shown g.R.RegExp c.args.pattern.now (option_copied c.args.base_url) c.args.options c.in-Ok-parsed.found.0 c.in-Ok-parsed.found.1 is c.in-Ok-parsed.ensures.split
    c.init_diagnosis-found.result c.init_diagnosis-found.ensures.shows

pub returns-in-Err-clause-shows : goal.returns-in-Err-clause-shows
returns-in-Err-clause-shows g c =
    let base = option_copied c.args.base_url in
    let made = c.in_ok-whole-in-Err.field-0 in
    let is = c.in_ok-whole-in-Err.ensures in
    let text : string_bytes made.text ≡ unwrap_or base [] = is.text ∙ text-or_nothing c.args.base_url c.unwrap_or-text.result _ c.unwrap_or-text.ensures refl in
    let refused = is_other (Reports (parsed_base base) (text_bytes base)) c.in-Err.error c.in_ok-error-in-Err.error c.in-Err.ensures.err c.in_ok-error-in-Err.ensures in
    let reports = subst (λ (error : Error). Reports (parsed_base base) (text_bytes base) (error_view error)) (sym is.error) refused in
    subst (λ (what : Subject). ShowsText g.R.RegExp c.args.pattern.now base c.args.options what made) (sym is.subject)
    (text, reports, shows_all c.unwrap_or-text.result.now made is.text is.fault)
