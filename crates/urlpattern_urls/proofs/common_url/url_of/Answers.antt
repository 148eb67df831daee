use Rattle.std.proofs.Common.{◌≡◌, ◌∙◌, String, Global, sym, subst}
use Rattle.std.specs.Prelude.{IfErr, IfOk}
use Rattle.std.specs.declared.borrow.CowStr.{CowStr}
use Rattle.urlpattern_components.proofs.EightLemmas.{at-each, same_values}
use Rattle.urlpattern_components.specs.Eight.{Texts, at}
use Rattle.urlpattern_components.specs.declared.eight.ComponentName.{ComponentName}
use Rattle.urlpattern_components.specs.declared.eight.Eight.{Eight}
use Rattle.urlpattern_generate.specs.UrlsOfTexts.{RejectsTexts, cow_texts}
use Rattle.urlpattern_generate.specs.WrittenTexts.{cow_text}
use Rattle.urlpattern_init.specs.Inheritance.{texts_of_url}
use Rattle.urlpattern_syntax.specs.Text.{text_of}
use Rattle.urlpattern_urls.specs.CommonUrls.{string_texts}
use Rattle.urlpattern_urls.proofs.common_url.url_of.Goals as goal

same : (texts : Eight (String Global)) (borrowed : Eight (CowStr Global)) → ((name : ComponentName) → cow_text (at borrowed name) ≡ text_of (at texts name)) → cow_texts borrowed ≡ string_texts texts
same texts borrowed are =
    same_values (cow_texts borrowed) (string_texts texts) (λ name. at-each (λ other. cow_text (at borrowed other)) name ∙ are name ∙ sym (at-each (λ other. text_of (at texts other)) name))

pub returns-clause-has : goal.returns-clause-has
returns-clause-has c =
    subst (λ (own : Texts). IfOk c.url_of_texts.result (λ url. texts_of_url url ≡ own)) (same c.args.texts.now c.from_fn.result (λ name. (c.from_fn.ensures name).1)) c.url_of_texts.ensures.has

pub returns-clause-refused : goal.returns-clause-refused
returns-clause-refused c =
    subst (λ (own : Texts). IfErr c.url_of_texts.result (RejectsTexts own)) (same c.args.texts.now c.from_fn.result (λ name. (c.from_fn.ensures name).1)) c.url_of_texts.ensures.refused
