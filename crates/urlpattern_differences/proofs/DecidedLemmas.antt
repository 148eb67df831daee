-- What two rules decide, and the question about common texts of their patterns.
use Rattle.std.proofs.Common.{◌≡◌, ◌∙◌, ◌<◌, ◌≤◌, ◌+◌, ◌++◌, ℕ, zero, suc, List, [], ◌∷◌, All, Option, None, Some, ap, append-nil, append_assoc, arith, length, map, option_map, option_to_list, refl, slice_get, subst, sym, take}
use Rattle.std.proofs.lemmas.List.{length-map, map-append, take-map}
use Rattle.std.proofs.lemmas.List.Elements.{All-append, All-cons, All-head, All-nil, All-same, All-take, All-weaker}
use Rattle.std.proofs.lemmas.Option.{get_or_from_slice_get, slice_get-map, slice_get_past, slice_get_within}
use Rattle.std.specs.Prelude.{String}
use Rattle.std.specs.declared.alloc.Global.{Global}
use Rattle.urlpattern_compare.proofs.CandidateLemmas.{all_back, all_front}
use Rattle.urlpattern_compare.specs.Candidates.{TextAt}
use Rattle.urlpattern_compare.specs.CommonTexts.{AreCommon, AreMeanings, MeanAlike, MeansByParts, MeansEach, PatternMeaning, parts_of, string_at}
use Rattle.urlpattern_compare.specs.declared.candidates.Limits.{Limits}
use Rattle.urlpattern_compare.specs.declared.common_texts.Common.TheVariants.{Nothing, Texts}
use Rattle.urlpattern_compare.specs.declared.common_texts.PatternAutomata.{PatternAutomata}
use Rattle.urlpattern_compare.specs.declared.pattern_parts.PatternParts.{PatternParts}
use Rattle.urlpattern_components.specs.declared.eight.Eight.{Eight}
use Rattle.urlpattern_differences.specs.Deciding.{AreDecided, AreMeant, IsFirst, IsRule, before, pattern_of}
use Rattle.urlpattern_differences.specs.Excess.{IsPairAnswer, NoneDecided}
use Rattle.urlpattern_differences.specs.declared.rules.PolicyAutomata.{PolicyAutomata}

-- ---- lists

module _ {X Y : Type 0} (f : X → Y) where
  mapped_option : (found : Option X) → map f (option_to_list found) ≡ option_to_list (option_map f found)
  mapped_option None = refl
  mapped_option (Some x) = refl

  pub mapped_pattern : (xs : List X) (rule : Option ℕ) → map f (pattern_of xs rule) ≡ pattern_of (map f xs) rule
  mapped_pattern xs None = refl
  mapped_pattern xs (Some i) = mapped_option (slice_get xs i) ∙ ap option_to_list (sym (slice_get-map f xs i))

  pub mapped_before : (xs : List X) (rule : Option ℕ) → map f (before xs rule) ≡ before (map f xs) rule
  mapped_before xs None = refl
  mapped_before xs (Some i) = sym (take-map f i xs)

  mapped_patterns : (xs ys : List X) (first second : Option ℕ) → map f (pattern_of xs first ++ pattern_of ys second) ≡ pattern_of (map f xs) first ++ pattern_of (map f ys) second
  mapped_patterns xs ys first second =
      map-append f (pattern_of xs first) (pattern_of ys second) ∙ ap (λ l. l ++ map f (pattern_of ys second)) (mapped_pattern xs first)
      ∙ ap (λ l. pattern_of (map f xs) first ++ l) (mapped_pattern ys second)

  mapped_earlier : (xs ys : List X) (first second : Option ℕ) → map f (before xs first ++ before ys second) ≡ before (map f xs) first ++ before (map f ys) second
  mapped_earlier xs ys first second =
      map-append f (before xs first) (before ys second) ∙ ap (λ l. l ++ map f (before ys second)) (mapped_before xs first)
      ∙ ap (λ l. before (map f xs) first ++ l) (mapped_before ys second)

module _ {X : Type 0} (P : X → Type 0) where
  all_option : (found : Option X) (xs : List X) (i : ℕ) → slice_get xs i ≡ found → All P xs → All P (option_to_list found)
  all_option None xs i there all = All-nil P
  all_option (Some x) xs i there all =
      All-cons P x [] (subst P (get_or_from_slice_get xs i x x there) (all i x (slice_get_within xs i x there))) (All-nil P)

  pub all_pattern : (xs : List X) (rule : Option ℕ) → All P xs → All P (pattern_of xs rule)
  all_pattern xs None all = All-nil P
  all_pattern xs (Some i) all = all_option (slice_get xs i) xs i refl all

  pub all_before : (xs : List X) (rule : Option ℕ) → All P xs → All P (before xs rule)
  all_before xs None all = all
  all_before xs (Some i) all = All-take P i xs all

there_is : {X : Type 0} (xs : List X) (i : ℕ) → i < length xs → (x : X) × (slice_get xs i ≡ Some x)
there_is [] i lt = absurd (omega arith)
there_is (x ∷ xs) zero lt = (x, refl)
there_is (x ∷ xs) (suc i) lt = there_is xs i (omega arith)

rule_moved : {X Y : Type 0} (xs : List X) (ys : List Y) (rule : Option ℕ) → length ys ≡ length xs → IsRule xs rule → IsRule ys rule
rule_moved xs ys None same is = tt
rule_moved xs ys (Some i) same is = omega (arith, same, is)

-- ---- the first rule

module _ (texts : TextAt) where
  abbrev Means : PatternMeaning → Type 0
  Means it = MeansEach it texts

  abbrev Fails : PatternMeaning → Type 0
  Fails it = ¬ MeansEach it texts

  pub first_meant : (xs : List PatternMeaning) (rule : Option ℕ) → IsFirst xs texts rule → All Means (pattern_of xs rule)
  first_meant xs None is = All-nil Means
  first_meant xs (Some i) is =
      let (it, there, means) = is.0 in
      subst (λ (found : Option PatternMeaning). All Means (option_to_list found)) (sym there) (All-cons Means it [] means (All-nil Means))

  pub first_alone : (xs : List PatternMeaning) (rule : Option ℕ) → IsFirst xs texts rule → All Fails (before xs rule)
  first_alone xs None is = is
  first_alone xs (Some i) is = is.1

  is_first : (xs : List PatternMeaning) (rule : Option ℕ) → IsRule xs rule → All Means (pattern_of xs rule) → All Fails (before xs rule) → IsFirst xs texts rule
  is_first xs None within means fails = fails
  is_first xs (Some i) within means fails =
      let (it, there) = there_is xs i within in
      ((it, there, All-head Means it [] (subst (λ (found : Option PatternMeaning). All Means (option_to_list found)) there means)), fails)

-- ---- the question

module _ (one other : PolicyAutomata) (first second : Option ℕ) (ones others : List PatternMeaning) (are : AreMeant one other ones others) where
  abbrev own : PatternMeaning → PatternParts
  own it = it.parts

  abbrev made : PatternAutomata → PatternParts
  made it = it.parts

  abbrev all : List PatternMeaning
  all = pattern_of ones first ++ pattern_of others second

  abbrev none : List PatternMeaning
  none = before ones first ++ before others second

  abbrev all_of : List PatternAutomata
  all_of = pattern_of one.patterns.items first ++ pattern_of other.patterns.items second

  abbrev none_of : List PatternAutomata
  none_of = before one.patterns.items first ++ before other.patterns.items second

  among : (P : PatternMeaning → Type 0) → All P (ones ++ others) → All P (all ++ none)
  among P each =
      let here = all_front P ones others each in
      let there = all_back P ones others each in
      All-append P all none
      (All-append P (pattern_of ones first) (pattern_of others second) (all_pattern P ones first here) (all_pattern P others second there))
      (All-append P (before ones first) (before others second) (all_before P ones first here) (all_before P others second there))

  all_parts : map own all ≡ parts_of all_of
  all_parts =
      mapped_patterns own ones others first second ∙ ap (λ (l : List PatternParts). pattern_of l first ++ pattern_of (map own others) second) are.all_parts
      ∙ ap (λ (l : List PatternParts). pattern_of (parts_of one.patterns.items) first ++ pattern_of l second) are.none_parts
      ∙ sym (mapped_patterns made one.patterns.items other.patterns.items first second)

  none_parts : map own none ≡ parts_of none_of
  none_parts =
      mapped_earlier own ones others first second ∙ ap (λ (l : List PatternParts). before l first ++ before (map own others) second) are.all_parts
      ∙ ap (λ (l : List PatternParts). before (parts_of one.patterns.items) first ++ before l second) are.none_parts
      ∙ sym (mapped_earlier made one.patterns.items other.patterns.items first second)

  meant : AreMeanings (parts_of all_of) (parts_of none_of) all none
  meant = record {
    all_parts = all_parts;
    none_parts = none_parts;
    known = among MeansByParts are.known;
    same = All-weaker (λ it. All (MeanAlike it) (ones ++ others)) (λ it. All (MeanAlike it) (all ++ none)) (λ it is. among (MeanAlike it) is) (all ++ none)
        (among (λ it. All (MeanAlike it) (ones ++ others)) are.same);
  }

  common : (texts : TextAt) → AreDecided ones others texts first second → AreCommon all none texts
  common texts decided = record {
    lines = decided.lines;
    meant = All-append (Means texts) (pattern_of ones first) (pattern_of others second) (first_meant texts ones first decided.one) (first_meant texts others second decided.other);
    unmeant = All-append (Fails texts) (before ones first) (before others second) (first_alone texts ones first decided.one) (first_alone texts others second decided.other);
  }

  decided : (texts : TextAt) → IsRule one.patterns.items first → IsRule other.patterns.items second → AreCommon all none texts → AreDecided ones others texts first second
  decided texts first_there second_there is =
      let here : length ones ≡ length one.patterns.items = sym (length-map ones own) ∙ ap length are.all_parts ∙ length-map one.patterns.items made in
      let there : length others ≡ length other.patterns.items = sym (length-map others own) ∙ ap length are.none_parts ∙ length-map other.patterns.items made in
      record {
        lines = is.lines;
        one = is_first texts ones first (rule_moved one.patterns.items ones first here first_there)
            (all_front (Means texts) (pattern_of ones first) (pattern_of others second) is.meant) (all_front (Fails texts) (before ones first) (before others second) is.unmeant);
        other = is_first texts others second (rule_moved other.patterns.items others second there second_there)
            (all_back (Means texts) (pattern_of ones first) (pattern_of others second) is.meant) (all_back (Fails texts) (before ones first) (before others second) is.unmeant);
      }

module _ (limits : Limits) (one other : PolicyAutomata) (first second : Option ℕ) where
  -- The answer that no texts are common says that the two rules decide none.
  pub none_decided : IsPairAnswer limits one other first second Nothing → NoneDecided one other first second
  none_decided answer ones others are texts is =
      answer.0 (all one other first second ones others are) (none one other first second ones others are) (meant one other first second ones others are) texts
      (common one other first second ones others are texts is)

  -- Common texts are decided by the two rules.
  pub texts_decided : (texts : Eight (String Global)) → IsRule one.patterns.items first → IsRule other.patterns.items second → IsPairAnswer limits one other first second (Texts texts)
      → (ones others : List PatternMeaning) → AreMeant one other ones others → AreDecided ones others (string_at texts) first second
  texts_decided texts first_there second_there answer ones others are =
      decided one other first second ones others are (string_at texts) first_there second_there
      (answer.0 (all one other first second ones others are) (none one other first second ones others are) (meant one other first second ones others are))

-- ---- rules past the end

past : {X : Type 0} (xs : List X) (i : ℕ) (x : X) → length xs ≤ i → ¬ (slice_get xs i ≡ Some x)
past xs i x le there = let within = slice_get_within xs i x there in absurd (omega (arith, within, le))

module _ (one other : PolicyAutomata) where
  meant_count : (ones others : List PatternMeaning) → AreMeant one other ones others → length ones ≡ length one.patterns.items
  meant_count ones others are = sym (length-map ones (λ (it : PatternMeaning). it.parts)) ∙ ap length are.all_parts ∙ length-map one.patterns.items (λ (it : PatternAutomata). it.parts)

  other_count : (ones others : List PatternMeaning) → AreMeant one other ones others → length others ≡ length other.patterns.items
  other_count ones others are = sym (length-map others (λ (it : PatternMeaning). it.parts)) ∙ ap length are.none_parts ∙ length-map other.patterns.items (λ (it : PatternAutomata). it.parts)

  -- No texts are decided by a rule past the end.
  pub past_first : (i : ℕ) (second : Option ℕ) → length one.patterns.items ≤ i → NoneDecided one other (Some i) second
  past_first i second le ones others are texts is =
      let count = meant_count ones others are in
      past ones i is.one.0.0 (omega (arith, count, le)) is.one.0.1

  pub past_second : (first : Option ℕ) (i : ℕ) → length other.patterns.items ≤ i → NoneDecided one other first (Some i)
  past_second first i le ones others are texts is =
      let count = other_count ones others are in
      past others i is.other.0.0 (omega (arith, count, le)) is.other.0.1

-- ---- lists of references

module _ {X Y : Type 0} (f : X → Y) where
  pub pushed : (old new : List X) (x : X) (ys : List Y) (i : ℕ) → new ≡ old ++ x ∷ [] → slice_get ys i ≡ Some (f x) → map f new ≡ map f old ++ option_to_list (slice_get ys i)
  pushed old new x ys i grown there = ap (map f) grown ∙ map-append f old (x ∷ []) ∙ ap (λ l. map f old ++ l) (sym (ap option_to_list there))

pub not_pushed : {Y : Type 0} (old ys : List Y) (i : ℕ) → length ys ≤ i → old ≡ old ++ option_to_list (slice_get ys i)
not_pushed old ys i le = sym (ap (λ found. old ++ option_to_list found) (slice_get_past ys i le) ∙ append-nil old)

next_taken : {Y : Type 0} (ys : List Y) (i : ℕ) → take i ys ++ option_to_list (slice_get ys i) ≡ take (suc i) ys
next_taken [] zero = refl
next_taken [] (suc i) = refl
next_taken (y ∷ ys) zero = refl
next_taken (y ∷ ys) (suc i) = ap (λ l. y ∷ l) (next_taken ys i)

pub taken_more : {Y : Type 0} (first old new ys : List Y) (i : ℕ) → old ≡ first ++ take i ys → new ≡ old ++ option_to_list (slice_get ys i) → new ≡ first ++ take (i + 1) ys
taken_more first old new ys i before grown =
    let next : suc i ≡ i + 1 = omega arith in
    grown ∙ ap (λ l. l ++ option_to_list (slice_get ys i)) before ∙ append_assoc first (take i ys) (option_to_list (slice_get ys i)) ∙ ap (λ l. first ++ l) (next_taken ys i)
    ∙ ap (λ n. first ++ take n ys) next

-- ---- lists of patterns that are asked about

module _ {X : Type 0} (P : X → Type 0) where
  pub all_asked : (none one both : List X) (xs ys : List X) (first second : Option ℕ) → none ≡ [] → one ≡ none ++ pattern_of xs first → both ≡ one ++ pattern_of ys second → All P xs → All P ys → All P both
  all_asked none one both xs ys first second empty more most all others =
      All-same P both (one ++ pattern_of ys second) most
      (All-append P one (pattern_of ys second)
      (All-same P one (none ++ pattern_of xs first) more (All-append P none (pattern_of xs first) (All-same P none [] empty (All-nil P)) (all_pattern P xs first all)))
      (all_pattern P ys second others))

  pub all_earlier : (none one both : List X) (xs ys : List X) (first second : Option ℕ) → none ≡ [] → one ≡ none ++ before xs first → both ≡ one ++ before ys second → All P xs → All P ys → All P both
  all_earlier none one both xs ys first second empty more most all others =
      All-same P both (one ++ before ys second) most
      (All-append P one (before ys second)
      (All-same P one (none ++ before xs first) more (All-append P none (before xs first) (All-same P none [] empty (All-nil P)) (all_before P xs first all)))
      (all_before P ys second others))
