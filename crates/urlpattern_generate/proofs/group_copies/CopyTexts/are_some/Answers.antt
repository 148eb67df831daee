use Rattle.std.proofs.Common.{rules, sym, ◌∙◌}
use Rattle.std.proofs.lemmas.Bool.{false≢true}
use Rattle.std.specs.Str.{chars}
use Rattle.urlpattern_generate.proofs.SearchLemmas.{more_where_cut, none_where_no_behind, none_where_no_front, none_where_short, one_where_lacking, one_where_last, refuted}
use Rattle.urlpattern_generate.proofs.group_copies.CopyTexts.are_some.Goals as goal

pub returns-in_default : goal.returns-in_default
returns-in_default c =
    let same = one_where_lacking c.args.self.mark c.args.self.may_be_empty (chars c.args.between.now) (chars c.args.text.now) c.in_default.ensures.none in
    (λ t. same.0 (c.is_one.ensures.0 t), λ are. c.is_one.ensures.1 (same.1 are))

pub returns-in_default-without_suffix : goal.returns-in_default-without_suffix
returns-in_default-without_suffix c =
    refuted (λ are. none_where_no_front c.args.self.may_be_empty c.in-Some.ensures.cut c.in-Some-split_at_first.ensures.cut c.in_default-without_suffix.ensures.none (c.loop-front.invariant.same.0 are))

pub returns-in_default-without_prefix : goal.returns-in_default-without_prefix
returns-in_default-without_prefix c =
    refuted (λ are. none_where_no_behind c.args.self.may_be_empty c.in-Some.ensures.cut c.in-Some-split_at_first.ensures.cut c.in_default-without_prefix.ensures.none (c.loop-front.invariant.same.0 are))

pub returns-then-not-is_long_enough : goal.returns-then-not-is_long_enough
returns-then-not-is_long_enough c =
    refuted (λ are. none_where_short c.args.self.may_be_empty c.in-Some.ensures.cut c.in-Some-split_at_first.ensures.cut _ c.in-Some-without_suffix.ensures.cut
    (λ may. false≢true (sym c.if-not-is_long_enough.true ∙ c.is_long_enough.ensures.1 may)) (c.loop-front.invariant.same.0 are))

pub loop-front-preserved : goal.loop-front-preserved
loop-front-preserved c =
    let same = more_where_cut c.args.self.may_be_empty c.in-Some.ensures.cut c.in-Some-split_at_first.ensures.cut _ _ c.in-Some-without_suffix.ensures.cut c.in-Some-without_prefix.ensures.cut
    (c.is_long_enough.ensures.0 c.if-not-is_long_enough.false) in
    record {
      is_text = search rules;
      same = (λ are. same.0 (c.loop-front.invariant.same.0 are), λ are. c.loop-front.invariant.same.1 (same.1 are));
    }

pub returns : goal.returns
returns c =
    let whole = c.in-Some.ensures.cut in
    let same = one_where_last c.args.self.mark c.args.self.may_be_empty (chars c.in-Some.before.now) (chars c.in-Some.after.now) (chars c.args.between.now) (chars c.loop-front.rest.now)
    whole.cut c.in_default-split_at_first.ensures.none in (
      λ t. c.loop-front.invariant.same.1 (same.0 (c.is_long_enough-2.ensures.0 t)),
      λ are. c.is_long_enough-2.ensures.1 (same.1 (c.loop-front.invariant.same.0 are)),
    )
