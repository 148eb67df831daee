use Rattle.std.proofs.Common.{Ok, inl, inr, subst, sym, ◌≡◌}
use Rattle.std.specs.Prelude.{IsTrue}
use Rattle.std.specs.Str.{chars}
use Rattle.urlpattern_canonical.specs.Canonical.{canonical_protocol}
use Rattle.urlpattern_generate.proofs.KeptValues.{nothing_kept, nothing_line, protocol_kept, protocol_line}
use Rattle.urlpattern_syntax.specs.Text.{lacks, line_feed}
use Rattle.urlpattern_generate.proofs.canonical_values.is_kept_protocol.Goals as goal

pub returns-in-empty-clause-canonical : goal.returns-in-empty-clause-canonical
returns-in-empty-clause-canonical c kept = subst (λ bytes. canonical_protocol (chars bytes) ≡ Ok (chars bytes)) (sym c.in-empty.is) nothing_kept

pub returns-in-empty-clause-line : goal.returns-in-empty-clause-line
returns-in-empty-clause-line c kept = subst (λ bytes. IsTrue (lacks line_feed (chars bytes))) (sym c.in-empty.is) nothing_line

pub returns-in-https-clause-canonical : goal.returns-in-https-clause-canonical
returns-in-https-clause-canonical c kept = protocol_kept c.args.text.now (inl c.in-https.is)

pub returns-in-https-clause-line : goal.returns-in-https-clause-line
returns-in-https-clause-line c kept = protocol_line c.args.text.now (inl c.in-https.is)

pub returns-in-http-clause-canonical : goal.returns-in-http-clause-canonical
returns-in-http-clause-canonical c kept = protocol_kept c.args.text.now (inr (inl c.in-http.is))

pub returns-in-http-clause-line : goal.returns-in-http-clause-line
returns-in-http-clause-line c kept = protocol_line c.args.text.now (inr (inl c.in-http.is))

pub returns-in-data-clause-canonical : goal.returns-in-data-clause-canonical
returns-in-data-clause-canonical c kept = protocol_kept c.args.text.now (inr (inr (inl c.in-data.is)))

pub returns-in-data-clause-line : goal.returns-in-data-clause-line
returns-in-data-clause-line c kept = protocol_line c.args.text.now (inr (inr (inl c.in-data.is)))

pub returns-in-mailto-clause-canonical : goal.returns-in-mailto-clause-canonical
returns-in-mailto-clause-canonical c kept = protocol_kept c.args.text.now (inr (inr (inr c.in-mailto.is)))

pub returns-in-mailto-clause-line : goal.returns-in-mailto-clause-line
returns-in-mailto-clause-line c kept = protocol_line c.args.text.now (inr (inr (inr c.in-mailto.is)))
