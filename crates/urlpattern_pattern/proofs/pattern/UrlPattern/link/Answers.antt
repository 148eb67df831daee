use Rattle.std.proofs.Common.{rules, sym, subst, IfSome}
use Rattle.urlpattern_generate.specs.WriteSettings.{given_groups}
use Rattle.urlpattern_pattern.proofs.LinkedLemmas.{link_matched, link_returns, linked, refused_reading, refused_text, refused_url}
use Rattle.urlpattern_pattern.specs.LinkedUrls.{IsConfirmedBefore}
use Rattle.urlpattern_pattern.specs.Patterns.{pattern_view}
use Rattle.urlpattern_pattern.specs.UrlPatterns.{AreMadeOfParts}
use Rattle.urlpattern_generate.specs.UrlsOfTexts.{cow_texts}
use Rattle.urlpattern_pattern.proofs.pattern.UrlPattern.link.Goals as goal

pub returns-in-Err : goal.returns-in-Err
returns-in-Err g c = record {
  generated = tt;
  returns = tt;
  matched = tt;
  refused = refused_text g.R.RegExp.answer c.args.self.now c.in-Some.parts.now (given_groups c.args.groups.now) (sym c.in-Some.ensures.parts) c.in-Err.error (search rules) c.in-Err.ensures.refused;
}

pub returns-in-Err-url_of_texts-clause-refused : goal.returns-in-Err-url_of_texts-clause-refused
returns-in-Err-url_of_texts-clause-refused g c =
    refused_url g.R.RegExp.answer c.args.self.now c.in-Some.parts.now (given_groups c.args.groups.now) (sym c.in-Some.ensures.parts) (cow_texts c.in-Ok.texts) c.in-Err-url_of_texts.error
    c.in-Ok.ensures.written c.in-Err-url_of_texts.ensures.refused

pub returns-in-None-clause-generated : goal.returns-in-None-clause-generated
returns-in-None-clause-generated g c =
    linked g.R.RegExp.answer c.args.self.now c.in-Some.parts.now (given_groups c.args.groups.now) (sym c.in-Some.ensures.parts) (cow_texts c.in-Ok.texts) c.in-Ok-url_of_texts.url
    c.in-Ok.ensures.written c.in-Ok-url_of_texts.ensures.has c.in-Ok-url_of_texts.ensures.read
    (subst (IsConfirmedBefore g.R.RegExp.answer (pattern_view c.args.self.now) c.in-Some.parts.now (given_groups c.args.groups.now) (cow_texts c.in-Ok.texts)) c.in-None.is c.in_ok-unconfirmed.ensures)

pub returns-in-None-clause-returns : goal.returns-in-None-clause-returns
returns-in-None-clause-returns g c =
    link_returns g.R.RegExp.answer c.args.self.now c.in-Some.parts.now (given_groups c.args.groups.now) (sym c.in-Some.ensures.parts) g.R.RegExp (cow_texts c.in-Ok.texts) c.in-Ok-url_of_texts.url
    (subst (λ of. IfSome of (λ own. AreMadeOfParts g.R.RegExp own (pattern_view c.args.self.now))) (sym c.in-Some.ensures.parts) c.parts.ensures.made)
    c.in-Ok-url_of_texts.ensures.has
    (subst (IsConfirmedBefore g.R.RegExp.answer (pattern_view c.args.self.now) c.in-Some.parts.now (given_groups c.args.groups.now) (cow_texts c.in-Ok.texts)) c.in-None.is c.in_ok-unconfirmed.ensures)

pub returns-in-None-clause-matched : goal.returns-in-None-clause-matched
returns-in-None-clause-matched g c =
    link_matched g.R.RegExp.answer c.args.self.now c.in-Some.parts.now (given_groups c.args.groups.now) (sym c.in-Some.ensures.parts) (cow_texts c.in-Ok.texts) c.in-Ok-url_of_texts.url
    c.in-Ok-url_of_texts.ensures.has
    (subst (IsConfirmedBefore g.R.RegExp.answer (pattern_view c.args.self.now) c.in-Some.parts.now (given_groups c.args.groups.now) (cow_texts c.in-Ok.texts)) c.in-None.is c.in_ok-unconfirmed.ensures)

pub returns-clause-refused : goal.returns-clause-refused
returns-clause-refused g c =
    refused_reading g.R.RegExp.answer c.args.self.now c.in-Some.parts.now (given_groups c.args.groups.now) (sym c.in-Some.ensures.parts) (cow_texts c.in-Ok.texts) c.in-Ok-url_of_texts.url c.in-Some-2.component
    c.in-Ok.ensures.written c.in-Ok-url_of_texts.ensures.has c.in-Ok-url_of_texts.ensures.read
    (subst (IsConfirmedBefore g.R.RegExp.answer (pattern_view c.args.self.now) c.in-Some.parts.now (given_groups c.args.groups.now) (cow_texts c.in-Ok.texts)) c.in-Some-2.is c.in_ok-unconfirmed.ensures)
