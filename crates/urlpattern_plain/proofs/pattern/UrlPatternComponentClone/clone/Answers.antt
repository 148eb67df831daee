use Rattle.std.proofs.Common.{◌≡◌, rules}
use Rattle.urlpattern_plain.specs.Values.{plain_matcher_view}
use Rattle.urlpattern_plain.proofs.CopiedPatterns.{same_bytes}
use Rattle.urlpattern_plain.proofs.pattern.UrlPatternComponentClone.clone.Goals as goal

pub returns : goal.returns
returns c =
    let copied = c.in_ok-clone-3.ensures.cases in
    let matcher : plain_matcher_view c.in_ok-clone-3.field-0 ≡ plain_matcher_view c.args.self.now.matcher = search rules in
    let names = same_bytes c.args.self.now.group_name_list.items c.in_ok-clone-4.field-0.items c.in_ok-clone-4.ensures.cases.0 in
    record {
      cases = λ i. record { pattern_string = c.in_ok-clone.ensures.cases i; regexp_string = c.in_ok-clone-2.ensures.cases i; matcher = matcher i; group_name_list = names i };
    }
