use Rattle.std.proofs.Common.{subst, sym, ◌≡◌}
use Rattle.std.specs.Prelude.{Ok, option_copied}
use Rattle.urlpat_matching.specs.GivenPatterns.{own_base}
use Rattle.urlpattern_canonical.specs.BaseUrls.{parsed_base}
use Rattle.urlpat_matching.proofs.given_pattern.init_of.Goals as goal

pub returns-clause-init : goal.returns-clause-init
returns-clause-init c = record {
  has_texts = c.in_ok-copy.ensures.texts;
  has_base = subst (λ url. parsed_base (own_base c.args.plain.now (option_copied c.args.base)) ≡ Ok url) (sym c.in_ok-copy.ensures.base) c.in_ok-base_url.ensures.ok;
}
