use Rattle.std.proofs.Common.{Ok}
use Rattle.urlpattern_compare.proofs.CandidateLemmas.{all_first}
use Rattle.urlpattern_compare.specs.Candidates.{IsFirstText}
use Rattle.urlpattern_components.proofs.EightLemmas.{by_name}
use Rattle.urlpattern_components.specs.Eight.{at}
use Rattle.urlpattern_components.specs.declared.eight.Eight.{Eight}
use Rattle.urlpattern_compare.proofs.candidates.first_texts.Goals as goal

pub returns : goal.returns
returns c =
    let texts : Eight _ = record {
      protocol = c.in_ok-text-3.field-0;
      username = c.in_ok-text-7.field-0;
      password = c.in_ok-text-8.field-0;
      hostname = c.in_ok-text-2.field-0;
      port = c.in_ok-text-4.field-0;
      pathname = c.in_ok-text.field-0;
      search = c.in_ok-text-5.field-0;
      hash = c.in_ok-text-6.field-0;
    } in
    all_first c.args.conditions.now c.args.most texts c.known_texts.result
    (by_name (λ name. IsFirstText c.args.conditions.now c.args.most name (Ok (at texts name)))
    c.in_ok-text-3.ensures.text c.in_ok-text-7.ensures.text c.in_ok-text-8.ensures.text c.in_ok-text-2.ensures.text
    c.in_ok-text-4.ensures.text c.in_ok-text.ensures.text c.in_ok-text-5.ensures.text c.in_ok-text-6.ensures.text)
    c.known_texts.ensures.known c.known_texts.ensures.doubt
