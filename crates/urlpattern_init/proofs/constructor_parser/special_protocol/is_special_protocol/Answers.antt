use Rattle.std.proofs.Common.{Ok, map, rules, ap, inl, inr}
use Rattle.std.proofs.lemmas.Result.{err_from_is_err_and}
use Rattle.std.specs.Str.{chars}
use Rattle.urlpattern_matcher.specs.Matchers.{matcher_view}
use Rattle.urlpattern_syntax.specs.Options.{options_view}
use Rattle.urlpattern_syntax.specs.Parts.{part_view}
use Rattle.urlpattern_init.specs.SpecialProtocol.{protocol_encoding}
use Rattle.urlpattern_meaning.proofs.Encodings.{reads_weaker, refuses_weaker}
use Rattle.urlpattern_init.proofs.SpecialSchemeLemmas.{chars_flags, known_from, known_special, special_from}
use Rattle.urlpattern_init.proofs.constructor_parser.special_protocol.is_special_protocol.Goals as goal

pub returns-clause-special : goal.returns-clause-special
returns-clause-special g c =
    special_from g.R.RegExp (chars c.args.protocol.now) _ (options_view c.default-options.result)
    (map part_view c.in_ok-part_list.part_list.items) (map part_view c.deref.result.now) (matcher_view c.in_ok-matcher.matcher) (Ok c.in_ok-special-2.special)
    c.default-options.ensures chars_flags (ap (map part_view) c.deref.ensures.value)
    (reads_weaker _ protocol_encoding (λ text answer h. (h.0, search rules, h.2)) _ _ _ c.in_ok-part_list.ensures.reads)
    c.in_ok-matcher.ensures.made c.in_ok-special-2.ensures.answer

pub returns-in_err-part_list-clause-refused : goal.returns-in_err-part_list-clause-refused
returns-in_err-part_list-clause-refused g c =
    let p = err_from_is_err_and c.from_residual-in_err-part_list.result c.from_residual-in_err-part_list.ensures.1 in
    rw (p.1, p.2)
    (elim c.in_err-part_list.ensures.refuses [
      | inl memory ↦ inl memory
      | inr refused ↦ inr (rw (← c.default-options.ensures) (refuses_weaker _ protocol_encoding (λ text answer h. (h.0, search rules, h.2)) _ _ _ refused))
    ])

pub returns-in_err-made-clause-refused : goal.returns-in_err-made-clause-refused
returns-in_err-made-clause-refused g c =
    let p = err_from_is_err_and c.from_residual.result c.from_residual.ensures.1 in
    rw (p.1, p.2)
    (elim c.in_err-made.ensures.refuses [
      | inl memory ↦ inl memory
      | inr refused ↦ inr (rw (← c.default-options.ensures) (refuses_weaker _ protocol_encoding (λ text answer h. (h.0, search rules, h.2)) _ _ _ refused))
    ])

pub returns-then-keeps-clause-known : goal.returns-then-keeps-clause-known
returns-then-keeps-clause-known g c =
    known_from g.R.RegExp _ (λ text answer h. (h.0, search rules, h.2)) (options_view c.default-options.result) c.default-options.ensures
    (c.args.protocol, c.in_ok-made.made) c.in_ok-made.ensures.compiled

pub returns-then-keeps-clause-special : goal.returns-then-keeps-clause-special
returns-then-keeps-clause-special g c =
    known_special g.R.RegExp (c.args.protocol, c.in_ok-made.made) c.in_ok-special.special
    (known_from g.R.RegExp _ (λ text answer h. (h.0, search rules, h.2)) (options_view c.default-options.result) c.default-options.ensures
    (c.args.protocol, c.in_ok-made.made) c.in_ok-made.ensures.compiled) c.in_ok-special.ensures.answer
