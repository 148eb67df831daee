use Rattle.std.proofs.Common.{◌≡◌, sym, ◌∷◌, [], ◌++◌, ◌+◌, ◌-◌, ap, ap₂, ◌∙◌, map, option_map, arith}
use Rattle.std.proofs.lemmas.List.{map-append}
use Rattle.std.proofs.lemmas.List.FromFn.{map-range_with_len_more}
use Rattle.regex.specs.Strings.{captures_haystack, captures_span}
use Rattle.urlpattern_matcher.specs.Regexes.{group_texts, text_between}
use Rattle.urlpattern_syntax.specs.Text.{option_text}
use Rattle.urlpattern_matcher.proofs.regexp.rust.groups.Goals as goal

pub loop-index-preserved : goal.loop-index-preserved
loop-index-preserved c =
    let captures = c.args.captures.now in
    let index = c.loop-index.index in
    let behind : (index - 1) + 1 ≡ index + 1 - 1 = omega arith in
    ap (map option_text) c.in_ok-push.ensures.items
    ∙ map-append option_text c.loop-index.groups.items (c.group.result ∷ [])
    ∙ ap₂ ◌++◌ c.loop-index.invariant (ap (λ text. text ∷ []) c.group.ensures)
    ∙ sym (map-range_with_len_more (λ n. option_map (text_between (captures_haystack captures)) (captures_span captures n)) 1 (index - 1) index (omega arith))
    ∙ ap (λ count. group_texts (captures_haystack captures) count (captures_span captures)) behind
