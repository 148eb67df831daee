use Rattle.std.proofs.Common.{subst, sym, ◌≡◌}
use Rattle.std.specs.Prelude.{Ok, option_copied}
use Rattle.urlpattern_canonical.specs.BaseUrls.{parsed_base}
use Rattle.urlpat_explain.proofs.given_init.init_of_text.Goals as goal

pub returns : goal.returns
returns c =
    let base = option_copied c.args.base in
    let split = c.in_ok-init.ensures in
    record {
      starts = c.in_ok-init.starts;
      is_parsed = record { has_base = subst (λ url. parsed_base base ≡ Ok url) (sym split.base) c.in_ok-base.ensures.ok; is_split = (c.in_ok-init.starts, split.split); is_complete = split.complete };
      is_split = split.split;
      has_places = c.text_places-places.ensures;
    }
