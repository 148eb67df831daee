-- Patterns that are written, compiled again and compared.
use Rattle.std.proofs.Common.{◌≡◌, ◌≢◌, ◌∙◌, ◌⊎◌, ℕ, Bool, true, false, List, [], ◌∷◌, ◌++◌, ap, inl, inr, refl, rules, subst, sym, true≢false}
use Rattle.std.specs.Prelude.{IfErr, IfOk, IsOkAnd, MatchBool, MatchResult, None, Ok, Err, Option, Result, Some}
use Rattle.url.specs.Parser.{Parsed, and_then}
use Rattle.url.specs.Parts.{Parts}
use Rattle.urlpattern_canonical.specs.declared.canonicalize_and_process.ProcessType.TheVariants.{Pattern}
use Rattle.urlpattern_compare.specs.declared.pattern_parts.PatternParts.{PatternParts}
use Rattle.urlpattern_compile.specs.Compiled.{RejectsInit, pattern_values, without_default_port}
use Rattle.urlpattern_components.specs.Eight.{Values}
use Rattle.urlpattern_init.specs.declared.init.UrlPatternInit.{UrlPatternInit}
use Rattle.urlpattern_init.specs.Inheritance.{processed_values, values_view}
use Rattle.urlpattern_inputs.specs.declared.options.UrlPatternOptions.{UrlPatternOptions}
use Rattle.urlpattern_matcher.specs.declared.regexp.RegExp.{Ghosts as Engine}
use Rattle.urlpattern_pattern.specs.KeptParts.{KeepsPartsOf}
use Rattle.urlpattern_pattern.specs.ReadBack.{HasEqualParts, InitReadsBack, InitReadsOtherwise, IsFirstReadBack, ReadsBack, ReadsOtherwise, TextReadsBack, TextReadsOtherwise}
use Rattle.urlpattern_pattern.specs.UrlPatterns.{UrlPattern}
use Rattle.urlpattern_syntax.specs.declared.error.{Error.Error, ParserError.ParserError}
use Rattle.urlpattern_syntax.specs.Errors.{ErrorView, ErrorView as views, MemoryOr, error_view}

-- Only one error says that memory ran out.
pub other_error : (error : Error) → error ≢ Error.OutOfMemory → error_view error ≢ views.OutOfMemory
other_error Error.BaseUrlRequired other = search rules
other_error Error.BaseUrlWithInit other = search rules
other_error (Error.Tokenizer fault place) other = search rules
other_error (Error.Parser (ParserError.ExpectedToken expected found value)) other = search rules
other_error (Error.Parser (ParserError.DuplicateName name)) other = search rules
other_error (Error.Url error) other = search rules
other_error (Error.RegExp error) other = search rules
other_error Error.OutOfMemory other = absurd (other refl)

module _ {E : Type 0} (engine : Engine E) (parts : PatternParts) where
  -- ---- the first of two lists of texts

  pub found_before : (texts others : List (List ℕ)) (text : List ℕ) → IsFirstReadBack engine parts texts (Some text) → IsFirstReadBack engine parts (texts ++ others) (Some text)
  found_before [] others text is = absurd (search rules)
  found_before (first ∷ texts) others text (inl is) = inl is
  found_before (first ∷ texts) others text (inr (otherwise, rest)) = inr (otherwise, found_before texts others text rest)

  pub found_after : (texts others : List (List ℕ)) (found : Option (List ℕ)) → IsFirstReadBack engine parts texts None → IsFirstReadBack engine parts others found
      → IsFirstReadBack engine parts (texts ++ others) found
  found_after [] others found is after = after
  found_after (first ∷ texts) others found (inl (same, reads)) after = absurd (search rules)
  found_after (first ∷ texts) others found (inr (otherwise, rest)) after = inr (otherwise, found_after texts others found rest after)

  -- A text that was tried reads back.
  pub reads_so : (bytes text spelled : List ℕ) (is : Bool) → bytes ≡ text → text ≡ spelled → is ≡ true → MatchBool is (TextReadsBack engine parts bytes) (TextReadsOtherwise engine parts bytes)
      → (Some text ≡ Some spelled) × TextReadsBack engine parts spelled
  reads_so bytes text spelled true e f same reads = (ap (λ (found : List ℕ). Some found) f, subst (λ (found : List ℕ). TextReadsBack engine parts found) (e ∙ f) reads)
  reads_so bytes text spelled false e f same reads = absurd (true≢false (sym same))

  -- A text that was tried reads otherwise.
  pub reads_not : (bytes text spelled : List ℕ) (is : Bool) → bytes ≡ text → text ≡ spelled → is ≡ false → MatchBool is (TextReadsBack engine parts bytes) (TextReadsOtherwise engine parts bytes)
      → TextReadsOtherwise engine parts spelled
  reads_not bytes text spelled true e f same reads = absurd (true≢false same)
  reads_not bytes text spelled false e f same reads = subst (λ (found : List ℕ). TextReadsOtherwise engine parts found) (e ∙ f) reads

  -- ---- what a compilation shows

  pub read_by : (Compiles : UrlPattern E → Type 0) (Rejects : ErrorView → Type 0) (compiled : Result (UrlPattern E) Error) (is : Bool)
      → IfOk compiled Compiles → IfErr compiled (MemoryOr Rejects)
      → MatchBool is (IsOkAnd compiled (HasEqualParts parts)) (MatchResult compiled (λ pattern. ¬ HasEqualParts parts pattern) (λ error. error_view error ≢ views.OutOfMemory))
      → MatchBool is (ReadsBack Compiles parts) (ReadsOtherwise Compiles Rejects parts)
  read_by Compiles Rejects (Ok pattern) true compiles rejects is = (pattern, compiles, is)
  read_by Compiles Rejects (Err error) true compiles rejects is = absurd is
  read_by Compiles Rejects (Ok pattern) false compiles rejects is = inr (pattern, compiles, is)
  read_by Compiles Rejects (Err error) false compiles (inl memory) is = absurd (is memory)
  read_by Compiles Rejects (Err error) false compiles (inr rejected) is = inl (error_view error, rejected)

  -- ---- copies of an init

  module _ (init copy : UrlPatternInit) (texts : values_view copy ≡ values_view init) (base : copy.base_url ≡ init.base_url) where
    same_values : pattern_values copy ≡ pattern_values init
    same_values =
        let by : Values → Option Parts → Parsed Values = λ values url. and_then (processed_values Pattern values url) (λ values. Ok (without_default_port values)) in
        ap (λ (values : Values). by values copy.base_url) texts ∙ ap (λ (url : Option Parts). by (values_view init) url) base

    pub copied_keeps : (asked : UrlPatternOptions) (pattern : UrlPattern E) → KeepsPartsOf engine copy asked pattern → KeepsPartsOf engine init asked pattern
    copied_keeps asked pattern kept = record {
      parts = kept.parts;
      values = kept.values;
      hierarchical = kept.hierarchical;
      has_parts = kept.has_parts;
      are_values = sym same_values ∙ kept.are_values;
      path_kind = kept.path_kind;
      are_read = kept.are_read;
      are_made = kept.are_made;
    }

    pub copied_rejects : (asked : UrlPatternOptions) (error : ErrorView) → RejectsInit engine copy asked error → RejectsInit engine init asked error
    copied_rejects asked error (values, are, rejects) = (values, sym same_values ∙ are, rejects)

    pub copied_reads : (is : Bool) → MatchBool is (InitReadsBack engine parts copy) (InitReadsOtherwise engine parts copy) → MatchBool is (InitReadsBack engine parts init) (InitReadsOtherwise engine parts init)
    copied_reads true (pattern, kept, equal) = (pattern, copied_keeps _ pattern kept, equal)
    copied_reads false (inl (error, rejects)) = inl (error, copied_rejects _ error rejects)
    copied_reads false (inr (pattern, kept, other)) = inr (pattern, copied_keeps _ pattern kept, other)
