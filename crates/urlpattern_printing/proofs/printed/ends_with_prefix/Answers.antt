use Rattle.std.proofs.Common.{rules, ◌≡◌, ◌==◌, [], ap, length, sym, ◌∙◌}
use Rattle.std.proofs.lemmas.Str.{IsUtf8-string_bytes}
use Rattle.std.specs.Prelude.{string_bytes}
use Rattle.std.specs.Str.{chars}
use Rattle.urlpattern_printing.proofs.PrintedTexts.{begins_else, chars_before_char, ends_with, found_as, is_alone}
use Rattle.urlpattern_syntax.proofs.TextLemmas.{chars-empty}
use Rattle.urlpattern_syntax.specs.Text.{text_of}
use Rattle.urlpattern_printing.proofs.printed.ends_with_prefix.Goals as goal

pub returns-in_default : goal.returns-in_default
returns-in_default c =
    let none : chars c.args.text.now ≡ [] = chars-empty c.args.text.now (search rules) in
    rw none

pub returns-then-eq : goal.returns-then-eq
returns-then-eq c =
    let front = c.next_back.new.self.rest.now in
    let last = c.in-Some.last in
    let prefix = c.args.options.now.prefix_code_point in
    let rest = c.next.new.self.rest.now in
    let cut = chars_before_char c.args.text.now front last c.utf8.text (search rules) (sym c.chars.ensures.rest ∙ c.in-Some.ensures.steps) in
    let first = rw (found_as c.next.result last c.if-eq.ensures) at c.next.ensures.steps.0 in
    let whole = is_alone last (string_bytes prefix) rest (IsUtf8-string_bytes prefix) (sym c.deref.ensures ∙ sym c.chars-prefix.ensures.rest ∙ first) in
    ends_with (chars c.args.text.now) (chars front) last (text_of prefix) cut
    (c.is_empty.ensures ∙ ap (λ xs. length xs == 0) c.as_str.ensures ∙ sym whole)

pub returns-else-eq : goal.returns-else-eq
returns-else-eq c =
    let front = c.next_back.new.self.rest.now in
    let last = c.in-Some.last in
    let prefix = c.args.options.now.prefix_code_point in
    let cut = chars_before_char c.args.text.now front last c.utf8.text (search rules) (sym c.chars.ensures.rest ∙ c.in-Some.ensures.steps) in
    let first = rw (c.next.ensures.steps.2, c.chars-prefix.ensures.rest, c.deref.ensures) at c.if-eq.ensures in
    ends_with (chars c.args.text.now) (chars front) last (text_of prefix) cut
    (c.if-eq.false ∙ sym (begins_else last (text_of prefix) first))
