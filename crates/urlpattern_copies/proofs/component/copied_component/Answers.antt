use Rattle.urlpattern_copies.proofs.CopyLemmas.{same_names}
use Rattle.urlpattern_syntax.specs.Text.{chars}
use Rattle.urlpattern_copies.proofs.component.copied_component.Goals as goal

pub returns : goal.returns
returns g c =
    let component = c.args.component.now in
    let names = same_names component.group_name_list.items c.in_ok-clone-2.field-0.items c.in_ok-clone-2.ensures.cases.0 in
    λ i. record {
      pattern_string = chars (c.in_ok-clone.ensures.cases i);
      regexp = c.in_ok-copied_engine.ensures i;
      group_name_list = names i;
      matcher = c.in_ok-copied_matcher.ensures i;
      has_regexp_group = component.has_regexp_group;
    }
