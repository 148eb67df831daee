use Rattle.std.proofs.Common.{sym, ◌∙◌}
use Rattle.std.proofs.lemmas.Str.{scalars-chars}
use Rattle.std.specs.Str.{chars}
use Rattle.urlpattern_index.proofs.PlainLemmas.{plain-line, plain-unended}
use Rattle.urlpattern.proofs.path.is_plain_path.Goals as goal

pub returns-clause-path : goal.returns-clause-path
returns-clause-path c = λ is.
    let path = chars c.args.path.now in
    let plain = c.fill_path.ensures.plain is in
    record {
      line = record { characters = scalars-chars c.args.path.now c.utf8.path; no_line_feed = plain-line path plain };
      rooted = sym c.begins_with_slash.ensures.text ∙ c.if-not-begins_with_slash.false;
      unended = plain-unended path plain;
    }

pub returns-clause-hashes : goal.returns-clause-hashes
returns-clause-hashes c = c.fill_path.ensures.hashes
