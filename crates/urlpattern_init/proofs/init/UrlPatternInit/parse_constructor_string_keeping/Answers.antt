use Rattle.std.proofs.Common.{List, map, not, refl, sym, ap, ◌∙◌, subst, inl, inr, arith}
use Rattle.std.proofs.lemmas.List.{length-map}
use Rattle.std.proofs.lemmas.Result.{err_from_is_err_and}
use Rattle.std.specs.Str.{chars}
use Rattle.urlpattern_init.specs.SpecialProtocol.{IsSpecialTo}
use Rattle.urlpattern_constructor.specs.Splitting.{split_text_view, split_texts}
use Rattle.urlpattern_constructor.proofs.SplitLemmas.{lacks_protocol, missing_is_none, none_of}
use Rattle.urlpattern_syntax.specs.Tokens.{AreLenientTokens, token_view}
use Rattle.urlpattern_syntax.specs.declared.tokenizer.Token.{Token}
use Rattle.urlpattern_init.proofs.SplitPlaces.{parts_there}
use Rattle.urlpattern_init.proofs.init.UrlPatternInit.parse_constructor_string_keeping.Goals as goal

pub returns-in_err-split-clause-refused : goal.returns-in_err-split-clause-refused
returns-in_err-split-clause-refused g c =
    let p = err_from_is_err_and c.from_residual-in_err-split.result c.from_residual-in_err-split.ensures.1 in
    rw (p.1, p.2)
    (elim c.in_err-split.ensures.refused [ inl memory ↦ inl memory | inr refused ↦ inr (inl refused) ])

pub returns-then-is_none-2-clause-refused : goal.returns-then-is_none-2-clause-refused
returns-then-is_none-2-clause-refused g c =
    let are_tokens = subst (λ (tokens : List Token). AreLenientTokens (chars c.args.pattern.now) (map token_view tokens)) (sym c.deref.ensures.value) c.in_ok-tokens.ensures.tokens in
    inr (inr (
      lacks_protocol _ (chars c.args.pattern.now) (map token_view c.deref.result.now) (split_texts c.in_ok-split.split) are_tokens c.in_ok-split.ensures.split
          (λ P some. missing_is_none split_text_view c.in_ok-split.split.values.protocol P (c.is_none.ensures ∙ ap not c.if-is_none.true) some),
      none_of c.args.base_url (c.is_none-then-is_none.ensures ∙ ap not c.if-is_none-2.true),
      refl,
    ))

pub returns-clause-split : goal.returns-clause-split
returns-clause-split g c =
    let are_tokens = subst (λ (tokens : List Token). AreLenientTokens (chars c.args.pattern.now) (map token_view tokens)) (sym c.deref.ensures.value) c.in_ok-tokens.ensures.tokens in (
      split_texts c.in_ok-split.split,
      (map token_view c.deref.result.now, are_tokens, c.in_ok-split.ensures.split),
      sym c.in_ok-init.ensures.components,
      sym c.starts-starts.ensures,
    )

pub returns-clause-there : goal.returns-clause-there
returns-clause-there g c =
    parts_there (IsSpecialTo g.R.RegExp) (chars c.args.pattern.now) _ _
    (split_texts c.in_ok-split.split, (map token_view c.deref.result.now, subst (λ (tokens : List Token). AreLenientTokens (chars c.args.pattern.now) (map token_view tokens)) (sym c.deref.ensures.value) c.in_ok-tokens.ensures.tokens, c.in_ok-split.ensures.split), sym c.in_ok-init.ensures.components, sym c.starts-starts.ensures)

pub returns-clause-turns : goal.returns-clause-turns
returns-clause-turns g c =
    let are_tokens = subst (λ (tokens : List Token). AreLenientTokens (chars c.args.pattern.now) (map token_view tokens)) (sym c.deref.ensures.value) c.in_ok-tokens.ensures.tokens in
    let size = length-map c.deref.result.now token_view in
    (map token_view c.deref.result.now, are_tokens, omega (arith, c.in_ok-split.ensures.turns))
