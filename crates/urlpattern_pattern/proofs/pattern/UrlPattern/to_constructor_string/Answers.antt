use Rattle.std.proofs.Common.{[], List, Option, Some, None, ◌≡◌, ℕ, subst}
use Rattle.std.proofs.lemmas.Result.{IfOk-weaker}
use Rattle.std.specs.Prelude.{MatchOption, codes, option_map, string_bytes}
use Rattle.urlpattern_compare.specs.declared.pattern_parts.PatternParts.{PatternParts}
use Rattle.urlpattern_components.specs.Eight.{Texts}
use Rattle.urlpattern_generate.specs.UrlLines.{bytes_of_each}
use Rattle.urlpattern_pattern.proofs.ReadBackLemmas.{found_after, found_before}
use Rattle.urlpattern_pattern.specs.ConstructorTexts.{spelled_texts, tried_texts}
use Rattle.urlpattern_pattern.specs.ReadBack.{IsFirstReadBack, pattern_strings}
use Rattle.urlpattern_pattern.proofs.pattern.UrlPattern.to_constructor_string.Goals as goal

pub returns-in-Some-2-clause-text : goal.returns-in-Some-2-clause-text
returns-in-Some-2-clause-text g c =
    let engine = g.R.RegExp in
    let parts = c.in-Some.parts.now in
    let found : Option (List ℕ) = Some (string_bytes c.in-Some-2.text) in
    let first = rw c.in-Some-2.is at c.in_ok-text.ensures.first in
    let texts = bytes_of_each c.pattern_strings-texts.result in
    let all = found_before engine parts (spelled_texts (codes "//") texts) (spelled_texts [] texts) (string_bytes c.in-Some-2.text) first in
    subst (λ (own : Option PatternParts). MatchOption own (found ≡ None) (λ kept. IsFirstReadBack engine kept (tried_texts (pattern_strings c.args.self.now)) found)) c.in-Some.ensures.parts
    (subst (λ (strings : Texts). IsFirstReadBack engine parts (tried_texts strings) found) c.pattern_strings-texts.ensures all)

pub returns-in-None-clause-text : goal.returns-in-None-clause-text
returns-in-None-clause-text g c =
    let engine = g.R.RegExp in
    let parts = c.in-Some.parts.now in
    let none = rw c.in-None.is at c.in_ok-text.ensures.first in
    let texts = bytes_of_each c.pattern_strings-texts.result in
    IfOk-weaker c.first_read_back-in-None.result _ _ (λ text rest.
    subst (λ (own : Option PatternParts). MatchOption own (option_map string_bytes text ≡ None) (λ kept. IsFirstReadBack engine kept (tried_texts (pattern_strings c.args.self.now)) (option_map string_bytes text))) c.in-Some.ensures.parts
    (subst (λ (strings : Texts). IsFirstReadBack engine parts (tried_texts strings) (option_map string_bytes text)) c.pattern_strings-texts.ensures
    (found_after engine parts (spelled_texts (codes "//") texts) (spelled_texts [] texts) (option_map string_bytes text) none rest)))
    c.first_read_back-in-None.ensures.first
