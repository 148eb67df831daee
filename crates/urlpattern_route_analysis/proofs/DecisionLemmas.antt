-- What is found while cases are gone through.
use Rattle.std.proofs.Common.{Bool, Bor, Global, String, Vec, add-one, map, string_bytes, ◌+◌, ◌<◌, ◌≢◌, ◌≡◌, ◌∙◌, ◌⊎◌, ◌&&◌, ℕ, suc, true, false, true≢false, List, [], ◌∷◌, ◌++◌, None, Option, Some, Ok, Err, ap, arith, inl, inr, length, length-append, refl, subst, sym}
use Rattle.std.proofs.lemmas.Bool.{and_from, and_parts, cases_eq, eq-eqb, eqb-true}
use Rattle.std.proofs.lemmas.List.{get_or_append_left, map-append}
use Rattle.std.proofs.lemmas.List.Elements.{All-cons, All-nil, All-push}
use Rattle.std.proofs.lemmas.List.Folds.{Any-from_list_any, list_any_at}
use Rattle.std.proofs.lemmas.List.Quantifiers.{Any-push}
use Rattle.std.proofs.lemmas.Option.{none-some, same_Some}
use Rattle.std.specs.Option.{option_eq}
use Rattle.std.specs.Prelude.{All, Any, get_or, nat_eq}
use Rattle.url.specs.Parts.{IsValid, Parts}
use Rattle.urlpattern_compare.specs.Candidates.{AreLines}
use Rattle.urlpattern_compare.specs.CommonTexts.{AreMeanings, PatternMeaning, parts_of}
use Rattle.urlpattern_compare.proofs.CandidateLemmas.{apart_append}
use Rattle.urlpattern_compare.specs.TextSearch.{AreUnlike as NoTwo, IsLine}
use Rattle.urlpattern_components.proofs.EightLemmas.{at-each}
use Rattle.urlpattern_init.proofs.UrlTexts.{texts_of_urls}
use Rattle.urlpattern_init.specs.Inheritance.{url_text}
use Rattle.urlpattern_route_analysis.proofs.CaseLemmas.{determined}
use Rattle.urlpattern_route_analysis.proofs.LeftLemmas.{IsLeft, held, left_at_end, left_more, left_turned}
use Rattle.urlpattern_route_analysis.proofs.MeaningLemmas.{meanings_are, meanings_in, so_common}
use Rattle.urlpattern_route_analysis.proofs.NamingLemmas.{one_name, so_named}
use Rattle.urlpattern_route_analysis.proofs.OrderLemmas.{AreSeen, before_more, before_turned, case_more, case_turned, itself_before_more, itself_before_turned, many, none_seen, seen_next}
use Rattle.urlpattern_route_analysis.proofs.WithinLemmas.{asks_within, within_turned}
use Rattle.urlpattern_route_analysis.specs.Cases.{AreLiteralsWithin, AreSo, Determine, IsTurned, IsWithin, LiteralView, known_both, literal_view, literal_views}
use Rattle.urlpattern_route_analysis.specs.CasePatterns.{AreWithin}
use Rattle.urlpattern_route_analysis.specs.Deciding.{AreDecisions, AreOfSameRules, IsFoundIn, IsUrlIn, Notes, is_found, is_found_one, is_matched, is_url}
use Rattle.urlpattern_route_analysis.specs.Formulas.{AtomView, FormulaView, atom_view, first_to_hold, of_atom}
use Rattle.urlpattern_route_analysis.specs.Naming.{AreNamed, AreNamesOf, GivesNames, is_so}
use Rattle.urlpattern_route_analysis.specs.declared.analysis.Analysis.{Analysis}
use Rattle.urlpattern_route_analysis.specs.declared.case.Literal.{Literal}
use Rattle.urlpattern_route_analysis.specs.declared.decisions.Decisions.{Decisions}
use Rattle.urlpattern_route_analysis.specs.declared.decisions.JointDecision.{JointDecision}
use Rattle.urlpattern_route_analysis.specs.declared.formula.Atom.{Atom}
use Rattle.urlpattern_urls.specs.CommonUrls.{url_at}
use Rattle.urlpattern_urls.specs.declared.common_url.CommonUrl.{CommonUrl}
use Rattle.urlpattern_urls.specs.declared.common_url.CommonUrl.TheVariants as urls

-- ---- pairs that are found

-- The pair is found.
abbrev pub IsPair : List JointDecision → (one other : Option ℕ) → Type 0
IsPair found one other = Any (λ each. (each.one ≡ one) × (each.other ≡ other)) found

pub pair_kept : (found : List JointDecision) (it : JointDecision) (one other : Option ℕ) → IsPair found one other → IsPair (found ++ it ∷ []) one other
pair_kept found it one other (k, each, lt, there, same) =
    (k, each, omega (arith, lt, length-append found (it ∷ [])), get_or_append_left found (it ∷ []) each k lt ∙ there, same)

option_same : (a b : Option ℕ) → option_eq nat_eq a b ≡ true → a ≡ b
option_same None None is = refl
option_same None (Some b) is = absurd (true≢false (sym is))
option_same (Some a) None is = absurd (true≢false (sym is))
option_same (Some a) (Some b) is = ap (λ (n : ℕ). Some n) (eqb-true a b is)

-- A pair with a request is found.
pub found_pair : (found : List JointDecision) (one other : Option ℕ) → is_found found one other ≡ true → IsPair found one other
found_pair found one other is =
    let (k, each, lt, there, passes) = Any-from_list_any (is_found_one one other) found is in
    let both = and_parts (is_url each.url) (option_eq nat_eq each.one one && option_eq nat_eq each.other other) passes in
    let parts = and_parts (option_eq nat_eq each.one one) (option_eq nat_eq each.other other) both.1 in
    (k, each, lt, there, (option_same each.one one parts.0, option_same each.other other parts.1))

-- ---- what one case adds

module _ (analysis : Analysis) (one other : Option ℕ) (literals : List LiteralView) (old : List JointDecision) where
  pub notes_found : is_found old one other ≡ true → Notes analysis one other literals old old
  notes_found is = inr (refl, inl is)

  pub notes_unnamed : (given : Option (Vec (String Global) Global)) → GivesNames literals analysis.attributes.now given → given ≡ None → Notes analysis one other literals old old
  notes_unnamed given gives is = inr (refl, inr (inl (subst (GivesNames literals analysis.attributes.now) is gives)))

  pub notes_nothing : (url : CommonUrl) → IsUrlIn analysis literals url → url ≡ urls.Nothing → Notes analysis one other literals old old
  notes_nothing url gives is = inr (refl, inr (inr (subst (IsUrlIn analysis literals) is gives)))

  pub notes_one : (given : Option (Vec (String Global) Global)) (it : JointDecision) (new : List JointDecision) → GivesNames literals analysis.attributes.now given → given ≡ Some it.names
      → IsUrlIn analysis literals it.url → it.url ≢ urls.Nothing → it.one ≡ one → it.other ≡ other → new ≡ old ++ it ∷ [] → is_found old one other ≡ false → Notes analysis one other literals old new
  notes_one given it new gives is url known first second now unknown =
      let named : AreNamesOf analysis.attributes.now (map string_bytes it.names.items) × AreNamed literals (map string_bytes it.names.items) = subst (GivesNames literals analysis.attributes.now) is gives in
      inl (it, now, first, second, named.0, named.1, url, known, unknown)

-- ---- one request

option_itself : (a : Option ℕ) → option_eq nat_eq a a ≡ true
option_itself None = refl
option_itself (Some a) = eq-eqb a a refl

option_is : (a b : Option ℕ) → a ≡ b → option_eq nat_eq a b ≡ true
option_is a b is = subst (λ (o : Option ℕ). option_eq nat_eq a o ≡ true) is (option_itself a)

-- No request of rules of which none is found is of the same rules as one that is found.
other_rules : (found : List JointDecision) (it each : JointDecision) (k : ℕ) (d : JointDecision) → k < length found → get_or found k d ≡ each → is_found found it.one it.other ≡ false → ¬ AreOfSameRules each it
other_rules found it each k d lt is none (url, also, one, other) =
    let both = and_from (option_eq nat_eq each.one it.one) (option_eq nat_eq each.other it.other) (option_is each.one it.one one) (option_is each.other it.other other) in
    let passes = and_from (is_url each.url) (option_eq nat_eq each.one it.one && option_eq nat_eq each.other it.other) url both in
    true≢false (sym (list_any_at (is_found_one it.one it.other) found k d lt (ap (is_found_one it.one it.other) is ∙ passes)) ∙ none)

once_more : (found : List JointDecision) (it : JointDecision) → NoTwo AreOfSameRules found → is_found found it.one it.other ≡ false → NoTwo AreOfSameRules (found ++ it ∷ [])
once_more found it are none =
    apart_append AreOfSameRules found (it ∷ []) are (All-nil (λ other. ¬ AreOfSameRules it other), tt)
    (λ k d lt. All-cons (λ other. ¬ AreOfSameRules (get_or found k d) other) it [] (other_rules found it (get_or found k d) k d lt refl none) (All-nil (λ other. ¬ AreOfSameRules (get_or found k d) other)))

-- A URL has no line feeds.
pub url_lines : (url : Parts) → IsValid url → AreLines (url_at url)
url_lines url valid name =
    let text = texts_of_urls url valid name in
    subst IsLine (at-each (λ n. url_text n url) name) (record { scalars = text.characters; plain = text.no_line_feed })

-- ---- the loop

module _ (analysis : Analysis) (ones others : List FormulaView) where
  -- Each request about which these two rules decide is left to look at.
  abbrev pub AreLeft : List LiteralView → (one other : Option ℕ) → Type 0
  AreLeft literals one other =
      (meant : List PatternMeaning) → AreMeanings (parts_of analysis.patterns.items) [] meant []
      → (url : Parts) → IsValid url → (names : List (List ℕ)) → AreNamesOf analysis.attributes.now names
      → first_to_hold (is_so (is_matched meant (url_at url)) names) ones ≡ one → first_to_hold (is_so (is_matched meant (url_at url)) names) others ≡ other
      → IsLeft (is_so (is_matched meant (url_at url)) names) literals

  -- No request is of the case of the literals.
  abbrev pub NoneIsSo : List LiteralView → Type 0
  NoneIsSo literals =
      (meant : List PatternMeaning) → AreMeanings (parts_of analysis.patterns.items) [] meant []
      → (url : Parts) → IsValid url → (names : List (List ℕ)) → AreNamesOf analysis.attributes.now names
      → ¬ AreSo (is_so (is_matched meant (url_at url)) names) literals

  -- What was found in `seen` cases, where the case of the literals is the next.
  pub record AreLooked (found : List JointDecision) (literals : List LiteralView) (seen : ℕ) : Type 0 where
    pub found_in : All (IsFoundIn analysis ones others) found
    pub once : NoTwo AreOfSameRules found
    pub left : (one other : Option ℕ) → IsPair found one other ⊎ AreLeft literals one other
    pub cases : AreSeen ones others literals seen
    pub within : AreLiteralsWithin (length analysis.patterns.items) literals

  pub none_looked : AreLooked [] [] 0
  none_looked = record {
    found_in = All-nil (IsFoundIn analysis ones others);
    once = tt;
    left = λ one other. inr (λ meant are url valid names have first second. tt);
    cases = none_seen ones others;
    within = All-nil (λ it. IsWithin (length analysis.patterns.items) (of_atom it.atom));
  }

  -- An atom has to be known.
  pub looked_more : (found : List JointDecision) (literals : List LiteralView) (seen : ℕ) (atom : AtomView) → AreWithin analysis.patterns.items ones → AreWithin analysis.patterns.items others
      → known_both literals ones others ≡ Err atom → AreLooked found literals seen
      → AreLooked found (literals ++ held atom ∷ []) (suc seen)
  looked_more found literals seen atom own also asks are = record {
    found_in = are.found_in;
    once = are.once;
    left = λ one other. elim (are.left one other) [
      | inl pair ↦ inl pair
      | inr left ↦ inr (λ meant is url valid names have first second. left_more (is_so (is_matched meant (url_at url)) names) literals atom (left meant is url valid names have first second))
    ];
    cases = seen_next ones others literals (literals ++ held atom ∷ []) seen are.cases (itself_before_more literals atom) (λ done before. before_more done literals atom before)
        (case_more ones others literals atom are.cases.is_case asks);
    within = All-push (λ it. IsWithin (length analysis.patterns.items) (of_atom it.atom)) literals (held atom) are.within
        (asks_within literals (length analysis.patterns.items) ones others own also atom asks);
  }

  -- ---- pairs of rules

  option_or_not : (a b : Option ℕ) → (a ≡ b) ⊎ ¬ (a ≡ b)
  option_or_not None None = inl refl
  option_or_not None (Some b) = inr (λ same. none-some b same)
  option_or_not (Some a) None = inr (λ same. none-some a (sym same))
  option_or_not (Some a) (Some b) = elim (cases_eq a b) [ inl same ↦ inl (ap (λ (n : ℕ). Some n) same) | inr differ ↦ inr (λ same. differ (same_Some a b same)) ]

  pub pair_or_not : (a b c d : Option ℕ) → ((a ≡ b) × (c ≡ d)) ⊎ ¬ ((a ≡ b) × (c ≡ d))
  pair_or_not a b c d = by (option_or_not a b) (option_or_not c d)
    where
      by : (a ≡ b) ⊎ ¬ (a ≡ b) → (c ≡ d) ⊎ ¬ (c ≡ d) → ((a ≡ b) × (c ≡ d)) ⊎ ¬ ((a ≡ b) × (c ≡ d))
      by (inl one) (inl other) = inl (one, other)
      by (inl one) (inr differ) = inr (λ both. differ both.1)
      by (inr differ) other = inr (λ both. differ both.0)

  -- What is left after a case in which these two rules decide: what was, unless a request is of the
  -- case.
  pub left_after : (literals next : List LiteralView) (one other own another : Option ℕ) → known_both literals ones others ≡ Ok (one, other) → IsTurned literals next true
      → ¬ ((own ≡ one) × (another ≡ other)) ⊎ NoneIsSo literals → AreLeft literals own another → AreLeft next own another
  left_after literals next one other own another known turned why left meant is url valid names have first second =
      let so = is_so (is_matched meant (url_at url)) names in
      left_turned so literals next turned (not_so why) (left meant is url valid names have first second)
    where
      not_so : ¬ ((own ≡ one) × (another ≡ other)) ⊎ NoneIsSo literals → ¬ AreSo (is_so (is_matched meant (url_at url)) names) literals
      not_so (inl differ) are =
          let decided = determined literals ones others one other known (is_so (is_matched meant (url_at url)) names) (one_name (is_matched meant (url_at url)) names) are in
          differ (sym first ∙ decided.0, sym second ∙ decided.1)
      not_so (inr none) are = none meant is url valid names have are

  -- After the last case nothing is left.
  pub none_after : (literals next : List LiteralView) (one other own another : Option ℕ) → known_both literals ones others ≡ Ok (one, other) → IsTurned literals next false
      → ¬ ((own ≡ one) × (another ≡ other)) ⊎ NoneIsSo literals → AreLeft literals own another
      → (meant : List PatternMeaning) → AreMeanings (parts_of analysis.patterns.items) [] meant [] → (url : Parts) → IsValid url → (names : List (List ℕ)) → AreNamesOf analysis.attributes.now names
      → ¬ ((first_to_hold (is_so (is_matched meant (url_at url)) names) ones ≡ own) × (first_to_hold (is_so (is_matched meant (url_at url)) names) others ≡ another))
  none_after literals next one other own another known turned why left meant is url valid names have (first, second) =
      let so = is_so (is_matched meant (url_at url)) names in
      let are = left_at_end so literals next turned (left meant is url valid names have first second) in
      by why are
    where
      by : ¬ ((own ≡ one) × (another ≡ other)) ⊎ NoneIsSo literals → AreSo (is_so (is_matched meant (url_at url)) names) literals → ⊥
      by (inl differ) are =
          let decided = determined literals ones others one other known (is_so (is_matched meant (url_at url)) names) (one_name (is_matched meant (url_at url)) names) are in
          differ (sym first ∙ decided.0, sym second ∙ decided.1)
      by (inr none) are = none meant is url valid names have are

  -- ---- what a case adds

  -- No request is of a case without names, or without a URL.
  pub none_is_so : (literals : List LiteralView)
      → ((names : List (List ℕ)) → AreNamesOf analysis.attributes.now names → ¬ AreNamed literals names) ⊎ IsUrlIn analysis literals urls.Nothing → NoneIsSo literals
  none_is_so literals (inl no_names) meant are url valid names have so = no_names names have (so_named (is_matched meant (url_at url)) names literals so)
  none_is_so literals (inr nothing) meant are url valid names have so =
      nothing (meanings_in meant true literals) (meanings_in meant false literals) (meanings_are analysis.patterns.items meant literals are) url valid
      (so_common meant (url_at url) names literals (url_lines url valid) so)

  module _ (found new : List JointDecision) (literals : List LiteralView) (one other : Option ℕ) (seen : ℕ) (are : AreLooked found literals seen)
      (known : known_both literals ones others ≡ Ok (one, other)) (notes : Notes analysis one other literals found new)
    where
      -- What is found of a pair after the case: it is found, or no request of it is of the case.
      after : (own another : Option ℕ) → IsPair new own another ⊎ ((¬ ((own ≡ one) × (another ≡ other)) ⊎ NoneIsSo literals) × AreLeft literals own another)
      after own another = by notes (are.left own another) (pair_or_not own one another other)
        where
          by : Notes analysis one other literals found new → IsPair found own another ⊎ AreLeft literals own another → ((own ≡ one) × (another ≡ other)) ⊎ ¬ ((own ≡ one) × (another ≡ other))
              → IsPair new own another ⊎ ((¬ ((own ≡ one) × (another ≡ other)) ⊎ NoneIsSo literals) × AreLeft literals own another)
          by (inl (it, is, first, second, names, named, url, known_url, unknown)) left (inl same) =
              inl (subst (λ l. IsPair l own another) (sym is) (Any-push (λ each. (each.one ≡ own) × (each.other ≡ another)) found it (first ∙ sym same.0, second ∙ sym same.1)))
          by (inl (it, is, first, second, names, named, url, known_url, unknown)) (inl pair) (inr differ) = inl (subst (λ l. IsPair l own another) (sym is) (pair_kept found it own another pair))
          by (inl (it, is, first, second, names, named, url, known_url, unknown)) (inr left) (inr differ) = inr (inl differ, left)
          by (inr (is, why)) (inl pair) which = inl (subst (λ l. IsPair l own another) (sym is) pair)
          by (inr (is, why)) (inr left) (inr differ) = inr (inl differ, left)
          by (inr (is, inl known_already)) (inr left) (inl same) =
              let pair = found_pair found one other known_already in
              inl (subst (λ l. IsPair l own another) (sym is) (subst (λ o. IsPair found o another) (sym same.0) (subst (λ o. IsPair found one o) (sym same.1) pair)))
          by (inr (is, inr none)) (inr left) (inl same) = inr (inr (none_is_so literals none), left)

      pub new_found : All (IsFoundIn analysis ones others) new
      new_found = by notes
        where
          by : Notes analysis one other literals found new → All (IsFoundIn analysis ones others) new
          by (inl (it, is, first, second, names, named, url, known_url, unknown)) =
              subst (All (IsFoundIn analysis ones others)) (sym is)
              (All-push (IsFoundIn analysis ones others) found it are.found_in
              (record {
                literals = literals;
                within = are.within;
                is_case = are.cases.is_case;
                decided = subst (λ o. Determine literals ones others o it.other) (sym first) (subst (λ o. Determine literals ones others one o) (sym second) (determined literals ones others one other known));
                names = names;
                named = named;
                url = url;
                known = known_url;
              }))
          by (inr (is, why)) = subst (All (IsFoundIn analysis ones others)) (sym is) are.found_in

      new_once : NoTwo AreOfSameRules new
      new_once = by notes
        where
          by : Notes analysis one other literals found new → NoTwo AreOfSameRules new
          by (inl (it, is, first, second, names, named, url, known_url, unknown)) =
              subst (NoTwo AreOfSameRules) (sym is)
              (once_more found it are.once (subst (λ (o : Option ℕ). is_found found o it.other ≡ false) (sym first) (subst (λ (o : Option ℕ). is_found found one o ≡ false) (sym second) unknown)))
          by (inr (is, why)) = subst (NoTwo AreOfSameRules) (sym is) are.once

      -- The next case.
      pub looked_next : (next : List LiteralView) → IsTurned literals next true → AreLooked new next (suc seen)
      looked_next next turned = record {
        found_in = new_found;
        once = new_once;
        left = λ own another. elim (after own another) [
          | inl pair ↦ inl pair
          | inr (why, left) ↦ inr (left_after literals next one other own another known turned why left)
        ];
        cases = seen_next ones others literals next seen are.cases (itself_before_turned literals next turned) (λ done before. before_turned done literals next turned before)
            (case_turned ones others literals next turned are.cases.is_case);
        within = within_turned (length analysis.patterns.items) literals next turned are.within;
      }

      -- The last case.
      pub all_looked : (next : List LiteralView) → IsTurned literals next false → (it : Decisions) → it.found.items ≡ new → it.is_complete ≡ true → AreDecisions analysis ones others it
      all_looked next turned it is complete = record {
        found = subst (All (IsFoundIn analysis ones others)) (sym is) new_found;
        once = subst (NoTwo AreOfSameRules) (sym is) new_once;
        missing = λ whole own another. elim (after own another) [
          | inl pair ↦ inl (subst (λ l. IsPair l own another) (sym is) pair)
          | inr (why, left) ↦ inr (none_after literals next one other own another known turned why left)
        ];
        too_many = λ incomplete. absurd (true≢false (sym complete ∙ incomplete));
      }

  -- More cases are left.
  pub too_many_left : (found : List JointDecision) (literals : List LiteralView) (seen : ℕ) → AreLooked found literals seen → analysis.limits.cases ≡ seen → (it : Decisions)
      → it.found.items ≡ found → it.is_complete ≡ false → AreDecisions analysis ones others it
  too_many_left found literals seen are enough it is incomplete = record {
    found = subst (All (IsFoundIn analysis ones others)) (sym is) are.found_in;
    once = subst (NoTwo AreOfSameRules) (sym is) are.once;
    missing = λ whole own another. absurd (true≢false (sym whole ∙ incomplete));
    too_many = λ same. many ones others literals seen analysis.limits.cases are.cases enough;
  }

  -- ---- the steps of the loop

  pair_is : (literals : List LiteralView) (one other : Option ℕ) (pair : Option ℕ × Option ℕ) → one ≡ pair.0 → other ≡ pair.1 → known_both literals ones others ≡ Ok pair → known_both literals ones others ≡ Ok (one, other)
  pair_is literals one other (a, b) first second known =
      subst (λ (o : Option ℕ). known_both literals ones others ≡ Ok (o, other)) (sym first) (subst (λ (o : Option ℕ). known_both literals ones others ≡ Ok (a, o)) (sym second) known)

  pub step_more : (found : List JointDecision) (literals new : List Literal) (seen : ℕ) (atom : Bor Atom) → AreWithin analysis.patterns.items ones → AreWithin analysis.patterns.items others
      → known_both (literal_views literals) ones others ≡ Err (atom_view atom.now) → new ≡ literals ++ record { atom = atom; holds = true } ∷ [] → AreLooked found (literal_views literals) seen
      → AreLooked found (literal_views new) (seen + 1)
  step_more found literals new seen atom own also asks now are =
      let views : literal_views new ≡ literal_views literals ++ held (atom_view atom.now) ∷ [] = ap (λ (l : List Literal). literal_views l) now ∙ map-append literal_view literals (record { atom = atom; holds = true } ∷ []) in
      subst (AreLooked found (literal_views new)) (sym (add-one seen))
      (subst (λ (l : List LiteralView). AreLooked found l (suc seen)) (sym views) (looked_more found (literal_views literals) seen (atom_view atom.now) own also asks are))

  pub step_next : (found new : List JointDecision) (literals next : List LiteralView) (one other : Option ℕ) (pair : Option ℕ × Option ℕ) (seen : ℕ) → AreLooked found literals seen → one ≡ pair.0 → other ≡ pair.1
      → known_both literals ones others ≡ Ok pair → Notes analysis one other literals found new → (is_next : Bool) → is_next ≡ true → IsTurned literals next is_next → AreLooked new next (seen + 1)
  step_next found new literals next one other pair seen are first second known notes is_next is turned =
      subst (AreLooked new next) (sym (add-one seen)) (looked_next found new literals one other seen are (pair_is literals one other pair first second known) notes next (subst (IsTurned literals next) is turned))

  pub step_last : (found new : List JointDecision) (literals next : List LiteralView) (one other : Option ℕ) (pair : Option ℕ × Option ℕ) (seen : ℕ) → AreLooked found literals seen → one ≡ pair.0 → other ≡ pair.1
      → known_both literals ones others ≡ Ok pair → Notes analysis one other literals found new → (is_next : Bool) → is_next ≡ false → IsTurned literals next is_next → (it : Decisions) → it.found.items ≡ new
      → it.is_complete ≡ true → AreDecisions analysis ones others it
  step_last found new literals next one other pair seen are first second known notes is_next is turned =
      all_looked found new literals one other seen are (pair_is literals one other pair first second known) notes next (subst (IsTurned literals next) is turned)
