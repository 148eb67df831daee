use Rattle.std.proofs.Common.{◌≡◌, rules}
use Rattle.std.specs.String.{string_eq}
use Rattle.urlpattern_compare.proofs.SameParts.{same_text}
use Rattle.urlpattern_compare.proofs.component_coverage.is_same_text.Goals as goal

pub returns : goal.returns
returns c =
    let is : c.eq.result ≡ string_eq c.args.text.now c.args.other.now = search rules in
    rw is (same_text c.args.text.now c.args.other.now)
