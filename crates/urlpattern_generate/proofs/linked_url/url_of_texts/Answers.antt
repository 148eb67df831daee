use Rattle.std.proofs.Common.{None, Ok, subst, ◌∙◌, ◌≡◌}
use Rattle.url.specs.Parser.{parse_url}
use Rattle.urlpattern_generate.proofs.UrlLemmas.{line_encoded, line_refused, seen_texts}
use Rattle.urlpattern_generate.specs.UrlsOfTexts.{IsAtFault, RejectsLine}
use Rattle.urlpattern_generate.proofs.linked_url.url_of_texts.Goals as goal

pub returns-in-Err-clause-refused : goal.returns-in-Err-clause-refused
returns-in-Err-clause-refused c =
    line_refused c.args.texts.now c.in-Err.error
    (subst (λ bytes. RejectsLine bytes c.in-Err.error) (c.deref.ensures ∙ c.in_ok-line.ensures ∙ line_encoded c.args.texts.now c.as_strs-seen.result c.as_strs-seen.ensures) c.in-Err.ensures.refused)

pub returns-in-None-clause-has : goal.returns-in-None-clause-has
returns-in-None-clause-has c = c.in-None.ensures.same ∙ seen_texts c.args.texts.now c.as_strs-seen.result c.as_strs-seen.ensures

pub returns-in-None-clause-read : goal.returns-in-None-clause-read
returns-in-None-clause-read c =
    subst (λ bytes. parse_url None bytes ≡ Ok c.in-Ok.url) (c.deref.ensures ∙ c.in_ok-line.ensures ∙ line_encoded c.args.texts.now c.as_strs-seen.result c.as_strs-seen.ensures) c.in-Ok.ensures.read

pub returns-clause-refused : goal.returns-clause-refused
returns-clause-refused c = (
  c.in-Ok.url,
  subst (λ bytes. parse_url None bytes ≡ Ok c.in-Ok.url) (c.deref.ensures ∙ c.in_ok-line.ensures ∙ line_encoded c.args.texts.now c.as_strs-seen.result c.as_strs-seen.ensures) c.in-Ok.ensures.read,
  subst (λ texts. IsAtFault c.in-Ok.url texts c.in-Some.component) (seen_texts c.args.texts.now c.as_strs-seen.result c.as_strs-seen.ensures) c.in-Some.ensures.other,
)
