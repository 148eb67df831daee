use Rattle.std.proofs.Common.{List, ◌+◌, drop, get_or, subst, sym, take}
use Rattle.urlpattern_components.specs.Eight.{components}
use Rattle.urlpattern_components.specs.declared.eight.ComponentName.{ComponentName}
use Rattle.urlpattern_components.specs.declared.eight.ComponentName.TheVariants.{Protocol}
use Rattle.urlpattern_ffi.specs.GroupSpans.{ExceedSizes, NumberedGroup, no_sizes, numbered, numbered_groups, AreWrittenAt}
use Rattle.urlpattern_matches.specs.BorrowedMatches.{groups_view}
use Rattle.urlpattern_ffi.proofs.SpanLemmas.{component_among, component_more, groups_exceed, groups_more}
use Rattle.urlpattern_ffi.proofs.TextLemmas.{if_none}
use Rattle.urlpattern_ffi.specs.declared.spans.Sizes.{Sizes}
use Rattle.urlpattern_ffi.proofs.spans.put_all.Goals as goal

pub loop-name-preserved : goal.loop-name-preserved
loop-name-preserved c =
    let view = groups_view c.args.found.now in
    let i = c.loop-name.name-index in
    let was = c.loop-name.sizes in
    let is = c.in_ok-sizes.sizes in
    let Puts = λ (groups : List NumberedGroup). AreWrittenAt groups was is c.loop-name.buffer c.put_groups.new.buffer c.loop-name.spans c.put_groups.new.spans in
    let name = get_or components i Protocol in
    let put = rw c.groups.ensures at c.in_ok-sizes.ensures.written in
    let added : Puts (numbered name 0 (view name)) = subst (λ (names : List ComponentName). Puts (numbered (get_or names i Protocol) 0 (view (get_or names i Protocol)))) c.all-name-items.ensures put in
    let before = numbered_groups view (take i components) in
    let none : Sizes = no_sizes in
    subst (λ groups. AreWrittenAt groups none is c.args.buffer.now c.put_groups.new.buffer c.args.spans.now c.put_groups.new.spans) (sym (component_more view components i Protocol c.loop-name-test.true))
    (groups_more before (numbered name 0 (view name)) none was is c.args.buffer.now c.loop-name.buffer c.put_groups.new.buffer
    c.args.spans.now c.loop-name.spans c.put_groups.new.spans c.loop-name.auto.buffer c.loop-name.auto.spans c.loop-name.invariant added)

pub returns-in_err-sizes-clause-large : goal.returns-in_err-sizes-clause-large
returns-in_err-sizes-clause-large c =
    let view = groups_view c.args.found.now in
    let i = c.loop-name.name-index in
    let was = c.loop-name.sizes in
    let none : Sizes = no_sizes in
    let name = get_or components i Protocol in
    let large = rw c.groups.ensures at c.in_err-sizes.ensures.large in
    let one : ExceedSizes was (numbered name 0 (view name)) = subst (λ (names : List ComponentName). ExceedSizes was (numbered (get_or names i Protocol) 0 (view (get_or names i Protocol)))) c.all-name-items.ensures large in
    if_none c.from_residual.result (ExceedSizes none (numbered_groups view components))
    (subst (ExceedSizes none) (sym (component_among view components i Protocol c.loop-name-test.true))
    (groups_exceed (numbered_groups view (take i components)) (numbered name 0 (view name)) (numbered_groups view (drop (i + 1) components)) none was
    c.args.buffer.now c.loop-name.buffer c.args.spans.now c.loop-name.spans c.loop-name.invariant one))
