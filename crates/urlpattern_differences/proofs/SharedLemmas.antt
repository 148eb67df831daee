-- Patterns that two lists of rules share.
use Rattle.std.proofs.Common.{◌≡◌, ◌∙◌, ◌<◌, ◌++◌, ℕ, zero, suc, Bool, true, false, List, [], ◌∷◌, All, Contains, Option, Some, ap, arith, length, map, option_to_list, refl, slice_get, subst, sym, take}
use Rattle.std.proofs.lemmas.List.Elements.{All-contains, All-contains_itself, All-weaker, Contains-append_left, Contains-append_right, Contains-push}
use Rattle.std.specs.Bool.{OnTrue}
use Rattle.urlpattern_compare.proofs.CandidateLemmas.{all_back, all_front}
use Rattle.urlpattern_compare.proofs.CommonLemmas.{across}
use Rattle.urlpattern_compare.proofs.SameParts.{equal_same}
use Rattle.urlpattern_compare.specs.Candidates.{AreLines, TextAt}
use Rattle.urlpattern_compare.specs.CommonTexts.{MeanAlike, MeansEach, PatternMeaning}
use Rattle.urlpattern_compare.specs.EqualParts.{AreEqualParts}
use Rattle.urlpattern_compare.specs.declared.common_texts.PatternAutomata.{PatternAutomata}
use Rattle.urlpattern_compare.specs.declared.pattern_parts.PatternParts.{PatternParts}
use Rattle.urlpattern_components.specs.Eight.{at}
use Rattle.urlpattern_components.specs.declared.eight.ComponentName.{ComponentName}
use Rattle.urlpattern_differences.proofs.DecidedLemmas.{all_before, all_pattern, first_alone, first_meant, mapped_before, mapped_pattern}
use Rattle.urlpattern_differences.specs.Deciding.{IsFirst, before, pattern_of}
use Rattle.urlpattern_differences.specs.Excess.{NoneDecided}
use Rattle.urlpattern_differences.specs.Shared.{AreAlike, IsAmong, IsEarlier}
use Rattle.urlpattern_differences.specs.declared.rules.PolicyAutomata.{PolicyAutomata}
use mathlib.Core.Logic.{inl}

abbrev own : PatternMeaning → PatternParts
own it = it.parts

abbrev made : PatternAutomata → PatternParts
made it = it.parts

-- The meaning of a pattern.
partner : (meanings : List PatternMeaning) (patterns : List PatternAutomata) → map own meanings ≡ map made patterns → (pattern : PatternAutomata) → Contains patterns pattern → (it : PatternMeaning) × Contains meanings it × (it.parts ≡ pattern.parts)
partner meanings patterns same pattern has =
    All-contains (λ (one : PatternAutomata). (it : PatternMeaning) × Contains meanings it × (it.parts ≡ one.parts)) patterns pattern
    (across own made (Contains meanings) (λ one. (it : PatternMeaning) × Contains meanings it × (it.parts ≡ one.parts)) (λ it one e there. (it, there, e)) meanings patterns same (All-contains_itself meanings))
    has

-- The first rule of one list matches no texts of which a rule with the same pattern stands before
-- the first rule of the other list.
clash : (texts : TextAt) → AreLines texts → (ms ns : List PatternMeaning) (ps qs : List PatternAutomata) (rule other : Option ℕ) → map own ms ≡ map made ps → map own ns ≡ map made qs
    → All (λ it. All (MeanAlike it) ms) ns → IsFirst ms texts rule → IsFirst ns texts other → IsEarlier ps rule qs other → ⊥
clash texts lines ms ns ps qs rule other same same_others alike first second (asked, has, (earlier, has_earlier, are_alike)) =
    let asked_same = mapped_pattern own ms rule ∙ ap (λ (l : List PatternParts). pattern_of l rule) same ∙ sym (mapped_pattern made ps rule) in
    let earlier_same = mapped_before own ns other ∙ ap (λ (l : List PatternParts). before l other) same_others ∙ sym (mapped_before made qs other) in
    let (it, there, parts) = partner (pattern_of ms rule) (pattern_of ps rule) asked_same asked has in
    let (one, one_there, one_parts) = partner (before ns other) (before qs other) earlier_same earlier has_earlier in
    let means = All-contains (λ (m : PatternMeaning). MeansEach m texts) (pattern_of ms rule) it (first_meant texts ms rule first) there in
    let fails = All-contains (λ (m : PatternMeaning). ¬ MeansEach m texts) (before ns other) one (first_alone texts ns other second) one_there in
    let all = All-contains (λ (m : PatternMeaning). All (MeanAlike m) ms) (before ns other) one (all_before (λ m. All (MeanAlike m) ms) ns other alike) one_there in
    let both : MeanAlike one it = All-contains (MeanAlike one) (pattern_of ms rule) it (all_pattern (MeanAlike one) ms rule all) there in
    let are : AreAlike one.parts it.parts = subst (λ (p : PatternParts). AreAlike one.parts p) (sym parts) (subst (λ (p : PatternParts). AreAlike p asked.parts) (sym one_parts) are_alike) in
    fails (λ name. both name (are name) (texts name) (lines name) ∙ means name)

module _ (one other : PolicyAutomata) (first second : Option ℕ) where
  pub earlier_in_other : IsEarlier one.patterns.items first other.patterns.items second → NoneDecided one other first second
  earlier_in_other earlier ones others are texts is =
      clash texts is.lines ones others one.patterns.items other.patterns.items first second are.all_parts are.none_parts
      (All-weaker (λ it. All (MeanAlike it) (ones ++ others)) (λ it. All (MeanAlike it) ones) (λ it all. all_front (MeanAlike it) ones others all) others
      (all_back (λ it. All (MeanAlike it) (ones ++ others)) ones others are.same)) is.one is.other earlier

  pub earlier_in_one : IsEarlier other.patterns.items second one.patterns.items first → NoneDecided one other first second
  earlier_in_one earlier ones others are texts is =
      clash texts is.lines others ones other.patterns.items one.patterns.items second first are.none_parts are.all_parts
      (All-weaker (λ it. All (MeanAlike it) (ones ++ others)) (λ it. All (MeanAlike it) others) (λ it all. all_back (MeanAlike it) ones others all) ones
      (all_front (λ it. All (MeanAlike it) (ones ++ others)) ones others are.same)) is.other is.one earlier

-- ---- tests

-- Equal parts without ignored case are alike.
pub equal_alike : (parts others : PatternParts) → AreEqualParts parts others → ((name : ComponentName) → (at parts.components name).options.ignore_case ≡ false) → AreAlike parts others
equal_alike parts others equal kept name = equal_same (at parts.components name) (at others.components name) (equal name) (inl (kept name))

pub contains_taken : {X : Type 0} (xs : List X) (place end : ℕ) (x : X) → slice_get xs place ≡ Some x → place < end → Contains (take end xs) x
contains_taken [] place end x there lt = absurd cc
contains_taken (y ∷ xs) place zero x there lt = absurd (omega arith)
contains_taken (y ∷ xs) zero (suc end) x there lt = let same : y ≡ x = cc in subst (Contains (y ∷ take end xs)) same (Contains-append_left (y ∷ []) (take end xs) y (Contains-push [] y))
contains_taken (y ∷ xs) (suc place) (suc end) x there lt = Contains-append_right (y ∷ []) (take end xs) x (contains_taken xs place end x there (omega arith))

pub contains_pattern : {X : Type 0} (xs : List X) (index : ℕ) (x : X) → slice_get xs index ≡ Some x → Contains (pattern_of xs (Some index)) x
contains_pattern xs index x there = subst (λ (found : Option _). Contains (option_to_list found) x) (sym there) (Contains-push [] x)

pub whole_taken : {X : Type 0} (xs : List X) → take (length xs) xs ≡ xs
whole_taken [] = refl
whole_taken (x ∷ xs) = ap (λ l. x ∷ l) (whole_taken xs)

pub alike_if : (kept : Bool) (parts others : PatternParts) → AreEqualParts parts others → OnTrue kept ((name : ComponentName) → (at parts.components name).options.ignore_case ≡ false) → OnTrue kept (AreAlike parts others)
alike_if true parts others equal keeps = equal_alike parts others equal keeps
alike_if false parts others equal keeps = tt

pub earlier_if : (found : Bool) (asked : PatternAutomata) (patterns others : List PatternAutomata) (index : ℕ) (other : Option ℕ) (first : List PatternAutomata) → slice_get patterns index ≡ Some asked → first ≡ before others other → OnTrue found (IsAmong asked first) → OnTrue found (IsEarlier patterns (Some index) others other)
earlier_if true asked patterns others index other first there same among = (asked, contains_pattern patterns index asked there, subst (IsAmong asked) same among)
earlier_if false asked patterns others index other first there same among = tt

pub none_if_earlier : (found : Bool) (one other : PolicyAutomata) (first second : Option ℕ) → OnTrue found (IsEarlier other.patterns.items second one.patterns.items first) → OnTrue found (NoneDecided one other first second)
none_if_earlier true one other first second earlier = earlier_in_one one other first second earlier
none_if_earlier false one other first second earlier = tt
