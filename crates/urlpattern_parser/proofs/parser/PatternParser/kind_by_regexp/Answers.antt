use Rattle.std.proofs.Common.{◌≡◌, codes, sym, ap, ◌∙◌, rules}
use Rattle.std.specs.Str.{chars}
use Rattle.urlpattern_syntax.proofs.ReadingLemmas.{kind_full, kind_custom, kind_segment}
use Rattle.urlpattern_syntax.proofs.StringTexts.{text-nil}
use Rattle.urlpattern_syntax.proofs.TextLemmas.{bytes_from_chars, full_wildcard}
use Rattle.urlpattern_syntax.specs.Options.{options_view}
use Rattle.urlpattern_syntax.specs.RegexpText.{segment_wildcard}
use Rattle.urlpattern_parser.proofs.parser.PatternParser.kind_by_regexp.Goals as goal

pub returns-then-is_written-clause-kind : goal.returns-then-is_written-clause-kind
returns-then-is_written-clause-kind g c = sym (kind_segment (options_view c.args.self.now.options.now) (chars c.args.regexp.now) c.if-is_written.ensures)

pub returns-then-is_written-clause-value : goal.returns-then-is_written-clause-value
returns-then-is_written-clause-value g c = text-nil c.new.result c.new.ensures.bytes

pub returns-then-eq-clause-value : goal.returns-then-eq-clause-value
returns-then-eq-clause-value g c = text-nil c.new-then-eq.result c.new-then-eq.ensures.bytes

pub returns-then-eq-clause-kind : goal.returns-then-eq-clause-kind
returns-then-eq-clause-kind g c =
    let options = options_view c.args.self.now.options.now in
    let regexp = chars c.args.regexp.now in
    let other : ¬ (regexp ≡ segment_wildcard options) = c.if-is_written.ensures in
    let same : c.args.regexp.now ≡ codes ".*" = search rules in
    sym (kind_full options regexp other (ap chars same ∙ full_wildcard.0))

pub returns-clause-kind : goal.returns-clause-kind
returns-clause-kind g c =
    let options = options_view c.args.self.now.options.now in
    let regexp = chars c.args.regexp.now in
    let other : ¬ (regexp ≡ segment_wildcard options) = c.if-is_written.ensures in
    let wild : ¬ (c.args.regexp.now ≡ codes ".*") = search rules in
    sym (kind_custom options regexp other
    (λ e. wild (bytes_from_chars _ _ c.utf8.regexp e full_wildcard.1)))
