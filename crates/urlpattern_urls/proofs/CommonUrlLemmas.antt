-- What is common to URLs, by what is common to any texts.
use Rattle.std.proofs.Common.{◌≡◌, ◌∙◌, ◌↔◌, ◌≤◌, ◌++◌, ◌⊎◌, ℕ, Bool, true, false, List, [], ◌∷◌, None, Some, Option, ap, inl, inr, length, lit≤, map, Ok, refl, subst, sym, get_or}
use Rattle.std.proofs.lemmas.Bool.{cases_lt, false≢true}
use Rattle.std.proofs.lemmas.List.Elements.{All-append, All-cons, All-contains, All-contains_itself, All-head, All-map, All-nil, All-tail, All-weaker, Contains-append_left, Contains-append_right}
use Rattle.std.proofs.lemmas.List.{get_or_append_left, map-append}
use Rattle.std.proofs.lemmas.Option.{get_or_from_slice_get}
use Rattle.std.specs.List.{All, Contains}
use Rattle.std.specs.Option.{IsSome}
use Rattle.std.specs.Prelude.{IsTrue, Result, String}
use Rattle.std.specs.declared.alloc.Global.{Global}
use Rattle.url.specs.Parts.{IsValid, Parts}
use Rattle.urlpattern_compare.proofs.AnswerLemmas.{generated_known}
use Rattle.urlpattern_compare.proofs.CandidateLemmas.{all_back, all_front, name_cases}
use Rattle.urlpattern_compare.proofs.BoundLemmas.{small_automata}
use Rattle.urlpattern_compare.proofs.ComponentLemmas.{anything_generated, none_missed}
use Rattle.urlpattern_compare.proofs.SameParts.{same_flips, same_within}
use Rattle.urlpattern_compare.specs.Candidates.{TextAt}
use Rattle.urlpattern_compare.specs.CommonLaws.{IsSmall}
use Rattle.urlpattern_compare.specs.CommonTexts.{AreAutomata, AreCommon, AreMeanings, IsAutomatonOrLacks, IsDoubt, IsLack, LacksBy, MeanAlike, MeansByParts, MeansEach, PatternMeaning, parts_of, string_at}
use Rattle.urlpattern_compare.specs.Comparing.{AreSame, IsKnown, MeansIn, anything_part}
use Rattle.urlpattern_compare.specs.Conditions.{accepts}
use Rattle.urlpattern_compare.specs.TextSearch.{IsLine}
use Rattle.urlpattern_compare.specs.WorkBounds.{component_size, parts_size}
use Rattle.urlpattern_compare.specs.declared.candidates.Limits.{Limits}
use Rattle.urlpattern_compare.specs.declared.common_texts.Doubt.{Doubt}
use Rattle.urlpattern_compare.specs.declared.common_texts.Doubt.TheVariants as doubts
use Rattle.urlpattern_compare.specs.declared.common_texts.Lack.{Lack}
use Rattle.urlpattern_compare.specs.declared.common_texts.PatternAutomata.{PatternAutomata}
use Rattle.urlpattern_compare.specs.declared.coverage.Reason.TheVariants as reasons
use Rattle.urlpattern_compare.specs.declared.parts_automaton.PartsAutomaton.{PartsAutomaton}
use Rattle.urlpattern_compare.specs.declared.parts_automaton.TheConstants.{MOST_STATES}
use Rattle.urlpattern_compare.specs.declared.pattern_parts.PatternParts.{PatternParts}
use Rattle.urlpattern_components.proofs.EightLemmas.{at-each}
use Rattle.urlpattern_components.specs.Eight.{Texts, at}
use Rattle.urlpattern_components.specs.declared.eight.Eight.{Eight}
use Rattle.urlpattern_generate.specs.declared.no_link.NoLink.{NoLink}
use Rattle.urlpattern_init.specs.Inheritance.{texts_of_url, url_text}
use Rattle.urlpattern_syntax.specs.Text.{text_of}
use Rattle.urlpattern_components.specs.declared.eight.ComponentName.{ComponentName}
use Rattle.urlpattern_components.specs.declared.eight.ComponentName.TheVariants.{Protocol}
use Rattle.urlpattern_meaning.specs.PartMeaning.{AreGenerated}
use Rattle.urlpattern_syntax.specs.Options.{options_view}
use Rattle.urlpattern_syntax.specs.Parts.{PartView, parts_view}
use Rattle.urlpattern_syntax.specs.declared.parts.ComponentParts.{ComponentParts}
use Rattle.urlpattern_urls.proofs.UnlikeLemmas.{no_url_is_unlike, own_generated, web_generated}
use Rattle.urlpattern_urls.specs.CommonUrls.{AreCommonOf, IsOwnDoubt, IsRead, NoUrlIsCommon, string_texts, url_at}
use Rattle.urlpattern_urls.specs.Unlike.{AreUnlike, IsMadeOf, IsUnlike, IsUnlikeIn, own_component, own_parts, web_parts}
use Rattle.urlpattern_urls.specs.declared.unlike.Unlike.{Unlike}
use Rattle.urlpattern_urls.specs.declared.unlike.Unlike.TheVariants.{NoHostname, NoPathname, NoProtocol, NoSlash}

-- ---- the patterns are known

-- Parts that are generated, and few.
record AreFew (parts : List PartView) : Type 0 where
  pub generated : AreGenerated parts
  pub size : parts_size parts ≤ MOST_STATES

own_few : (way : Unlike) → AreFew (own_parts way)
own_few NoProtocol = record { generated = own_generated NoProtocol; size = lit≤ tt }
own_few NoHostname = record { generated = own_generated NoHostname; size = lit≤ tt }
own_few NoPathname = record { generated = own_generated NoPathname; size = lit≤ tt }
own_few NoSlash = record { generated = own_generated NoSlash; size = lit≤ tt }

-- The component has such parts.
abbrev HasFew : ComponentParts → Type 0
HasFew component = (parts : List PartView) × AreFew parts × IsMadeOf parts component

has_few : (way : Unlike) (name : ComponentName) (component : ComponentParts) → IsUnlikeIn way name component → HasFew component
has_few way name component is = elim (name_cases name (own_component way)) [
  | inl own ↦ (own_parts way, own_few way, is.own own)
  | inr other ↦ elim (name_cases name Protocol) [
    | inl protocol ↦ (web_parts, record { generated = web_generated; size = lit≤ tt }, is.web other protocol)
    | inr another ↦ (anything_part ∷ [], record { generated = anything_generated; size = lit≤ tt }, is.others other another)
  ]
]

few_known : (component : ComponentParts) → HasFew component → IsKnown component
few_known component (parts, few, is) = record {
  parts = generated_known (options_view component.options) (parts_view component.parts.items) (subst AreGenerated (sym is.are) few.generated);
  case = none_missed component is.case;
}

-- A pattern of the four, with its automata.
pub record IsOne (it : PatternAutomata) : Type 0 where
  pub made : AreAutomata it
  pub way : Unlike
  pub unlike : IsUnlike way it.parts

pub ones : (patterns : List PatternAutomata) → AreUnlike patterns → All IsOne patterns
ones patterns (a, b, c, d, are, made, protocol, hostname, pathname, no_slash) =
    let each : All AreAutomata (a ∷ b ∷ c ∷ d ∷ []) = subst (All AreAutomata) are made in
    let first = All-head AreAutomata a (b ∷ c ∷ d ∷ []) each in
    let rest = All-tail AreAutomata a (b ∷ c ∷ d ∷ []) each in
    let second = All-head AreAutomata b (c ∷ d ∷ []) rest in
    let others = All-tail AreAutomata b (c ∷ d ∷ []) rest in
    let third = All-head AreAutomata c (d ∷ []) others in
    let last = All-head AreAutomata d [] (All-tail AreAutomata c (d ∷ []) others) in
    subst (All IsOne) (sym are)
    (All-cons IsOne a (b ∷ c ∷ d ∷ []) (record { made = first; way = NoProtocol; unlike = protocol })
    (All-cons IsOne b (c ∷ d ∷ []) (record { made = second; way = NoHostname; unlike = hostname })
    (All-cons IsOne c (d ∷ []) (record { made = third; way = NoPathname; unlike = pathname })
    (All-cons IsOne d [] (record { made = last; way = NoSlash; unlike = no_slash }) (All-nil IsOne)))))

-- ---- what the patterns mean

abbrev accepted : Option PartsAutomaton → (text : List ℕ) → Bool
accepted None text = false
accepted (Some automaton) text = accepts automaton text

abbrev meaning_of : PatternAutomata → PatternMeaning
meaning_of it = record { parts = it.parts; means = λ name text. accepted (at it.automata name) text }

few_states : (it : PatternAutomata) (name : ComponentName) → HasFew (at it.parts.components name) → (¬ IsSome (at it.automata name)) → ¬ LacksBy (at it.parts.components name) reasons.TooMany
few_states it name (parts, few, is) none many =
    let component = at it.parts.components name in
    let lack : Lack = record { pattern = 0; component = name; reason = reasons.TooMany } in
    let small : component_size component ≤ MOST_STATES = subst (λ (own : List PartView). parts_size own ≤ MOST_STATES) (sym is.are) few.size in
    let Small : PatternAutomata → Type 0 = λ one. IsSmall (at one.parts.components name) in
    let is_small : Small it = record { generated = subst AreGenerated (sym is.are) few.generated; small = small } in
    small_automata (it ∷ []) lack (All-cons Small it [] is_small (All-nil Small)) (it, refl, (none, many)) refl

some_own : (component : ComponentParts) (found : Option PartsAutomaton) → IsAutomatonOrLacks component found → IsKnown component → ((¬ IsSome found) → ¬ LacksBy component reasons.TooMany) → IsSome found
some_own component None (reasons.CustomExpression, lacks) known few = absurd (lacks.0 known)
some_own component None (reasons.IgnoredCase, lacks) known few = absurd (lacks.0 known)
some_own component None (reasons.TooMany, lacks) known few = absurd (few (λ some. false≢true some) lacks)
some_own component (Some automaton) made known few = refl

accepts_own : (component : ComponentParts) (found : Option PartsAutomaton) → IsAutomatonOrLacks component found → IsSome found → (text : List ℕ) → IsLine text → IsTrue (accepted found text) ↔ MeansIn component text
accepts_own component None made some text line = absurd (false≢true some)
accepts_own component (Some automaton) made some text line = made.means text line.scalars

module _ (it : PatternAutomata) (one : IsOne it) where
  few_in : (name : ComponentName) → HasFew (at it.parts.components name)
  few_in name = has_few one.way name (at it.parts.components name) (one.unlike name)

  known_in : (name : ComponentName) → IsKnown (at it.parts.components name)
  known_in name = few_known (at it.parts.components name) (few_in name)

  some_in : (name : ComponentName) → IsSome (at it.automata name)
  some_in name = some_own (at it.parts.components name) (at it.automata name) (one.made name) (known_in name) (few_states it name (few_in name))

  own_means : (name : ComponentName) (text : List ℕ) → IsLine text → IsTrue (accepted (at it.automata name) text) ↔ MeansIn (at it.parts.components name) text
  own_means name text line = accepts_own (at it.parts.components name) (at it.automata name) (one.made name) (some_in name) text line

-- A meaning that the parts tell in each component.
record IsByParts (it : PatternMeaning) : Type 0 where
  pub known : (name : ComponentName) → IsKnown (at it.parts.components name)
  pub by_parts : MeansByParts it

one_by_parts : (it : PatternAutomata) → IsOne it → IsByParts (meaning_of it)
one_by_parts it one = record {
  known = known_in it one;
  by_parts = λ name known text line. own_means it one name text line;
}

both_ways : (a b : Bool) → (IsTrue a → IsTrue b) → (IsTrue b → IsTrue a) → a ≡ b
both_ways true true to from = refl
both_ways false false to from = refl
both_ways true false to from = sym (to refl)
both_ways false true to from = from refl

known_alike : (it other : PatternMeaning) → MeansByParts it → MeansByParts other → (name : ComponentName) → IsKnown (at it.parts.components name)
    → AreSame (at it.parts.components name) (at other.parts.components name) → (text : List ℕ) → IsLine text → it.means name text ≡ other.means name text
known_alike it other own also name known same text line =
    let there = same_within (at it.parts.components name) (at other.parts.components name) same known in
    let back = same_within (at other.parts.components name) (at it.parts.components name) (same_flips (at it.parts.components name) (at other.parts.components name) same) there.asked_known in
    let mine = own name known text line in
    let others = also name there.asked_known text line in
    both_ways (it.means name text) (other.means name text)
    (λ is. others.1 (back.within text line (mine.0 is)))
    (λ is. mine.1 (there.within text line (others.0 is)))

alike_from : (it other : PatternMeaning) → IsByParts it → MeansByParts other → MeanAlike it other
alike_from it other own also name same text line = known_alike it other own.by_parts also name (own.known name) same text line

alike_to : (it other : PatternMeaning) → MeansByParts it → IsByParts other → MeanAlike it other
alike_to it other own also name same text line =
    let flipped = same_flips (at it.parts.components name) (at other.parts.components name) same in
    sym (known_alike other it also.by_parts own name (also.known name) flipped text line)

-- ---- more meanings

-- Meanings of which some are known to be meanings together, and the parts tell the others.
module _ (given : List PatternMeaning) (known : All MeansByParts given) (same : All (λ it. All (MeanAlike it) given) given) where
  abbrev IsFrom : PatternMeaning → Type 0
  IsFrom it = Contains given it ⊎ IsByParts it

  from_known : (it : PatternMeaning) → IsFrom it → MeansByParts it
  from_known it (inl has) = All-contains MeansByParts given it known has
  from_known it (inr by) = by.by_parts

  from_alike : (it other : PatternMeaning) → IsFrom it → IsFrom other → MeanAlike it other
  from_alike it other (inr by) from = alike_from it other by (from_known other from)
  from_alike it other (inl has) (inr by) = alike_to it other (from_known it (inl has)) by
  from_alike it other (inl has) (inl also) = All-contains (MeanAlike it) given other (All-contains (λ one. All (MeanAlike one) given) given it same has) also

  each_known : (all : List PatternMeaning) → All IsFrom all → All MeansByParts all
  each_known all from = All-weaker IsFrom MeansByParts from_known all from

  each_same : (all : List PatternMeaning) → All IsFrom all → All (λ it. All (MeanAlike it) all) all
  each_same all from =
      All-weaker IsFrom (λ it. All (MeanAlike it) all) (λ it own. All-weaker IsFrom (MeanAlike it) (λ other also. from_alike it other own also) all from) all from

own_parts_of : (patterns : List PatternAutomata) → map (λ (it : PatternMeaning). it.parts) (map meaning_of patterns) ≡ parts_of patterns
own_parts_of [] = refl
own_parts_of (it ∷ patterns) = ap (λ l. it.parts ∷ l) (own_parts_of patterns)

-- The meanings of patterns, with those of others that are unlike URLs before them, and after them.
module _ (all_of none_of facts : List PatternAutomata) (are_facts : All IsOne facts) (all none : List PatternMeaning) (are : AreMeanings (parts_of all_of) (parts_of none_of) all none) where
  abbrev more : List PatternMeaning
  more = map meaning_of facts

  abbrev IsOwn : PatternMeaning → Type 0
  IsOwn = IsFrom (all ++ none) are.known are.same

  all_own : All IsOwn all
  all_own = All-weaker (Contains all) IsOwn (λ it has. inl (Contains-append_left all none it has)) all (All-contains_itself all)

  none_own : All IsOwn none
  none_own = All-weaker (Contains none) IsOwn (λ it has. inl (Contains-append_right all none it has)) none (All-contains_itself none)

  more_own : All IsOwn more
  more_own = All-map IsOwn meaning_of facts (All-weaker IsOne (λ it. IsOwn (meaning_of it)) (λ it one. inr (one_by_parts it one)) facts are_facts)

  after_own : All IsOwn (all ++ (none ++ more))
  after_own = All-append IsOwn all (none ++ more) all_own (All-append IsOwn none more none_own more_own)

  before_own : All IsOwn (all ++ (more ++ none))
  before_own = All-append IsOwn all (more ++ none) all_own (All-append IsOwn more none more_own none_own)

  abbrev parts_in : List PatternMeaning → List PatternParts
  parts_in = map (λ (it : PatternMeaning). it.parts)

  with_after : AreMeanings (parts_of all_of) (parts_of (none_of ++ facts)) all (none ++ more)
  with_after = record {
    all_parts = are.all_parts;
    none_parts = map-append (λ (it : PatternMeaning). it.parts) none more ∙ ap (λ l. l ++ parts_in more) are.none_parts ∙ ap (λ l. parts_of none_of ++ l) (own_parts_of facts)
        ∙ sym (map-append (λ (it : PatternAutomata). it.parts) none_of facts);
    known = each_known (all ++ none) are.known are.same (all ++ (none ++ more)) after_own;
    same = each_same (all ++ none) are.known are.same (all ++ (none ++ more)) after_own;
  }

  with_before : AreMeanings (parts_of all_of) (parts_of (facts ++ none_of)) all (more ++ none)
  with_before = record {
    all_parts = are.all_parts;
    none_parts = map-append (λ (it : PatternMeaning). it.parts) more none ∙ ap (λ l. l ++ parts_in none) (own_parts_of facts) ∙ ap (λ l. parts_of facts ++ l) are.none_parts
        ∙ sym (map-append (λ (it : PatternAutomata). it.parts) facts none_of);
    known = each_known (all ++ none) are.known are.same (all ++ (more ++ none)) before_own;
    same = each_same (all ++ none) are.known are.same (all ++ (more ++ none)) before_own;
  }

  without_after : (texts : TextAt) → AreCommon all (none ++ more) texts → AreCommon all none texts
  without_after texts common = record {
    lines = common.lines;
    meant = common.meant;
    unmeant = all_front (λ it. ¬ MeansEach it texts) none more common.unmeant;
  }

  without_before : (texts : TextAt) → AreCommon all (more ++ none) texts → AreCommon all none texts
  without_before texts common = record {
    lines = common.lines;
    meant = common.meant;
    unmeant = all_back (λ it. ¬ MeansEach it texts) more none common.unmeant;
  }

  module _ (url : Parts) (valid : IsValid url) (common : AreCommon all none (url_at url)) where
    no_fact : (it : PatternAutomata) → IsOne it → ¬ MeansEach (meaning_of it) (url_at url)
    no_fact it one each = no_url_is_unlike one.way it.parts one.unlike url valid (λ name. (own_means it one name (url_at url name) (common.lines name)).0 (each name))

    no_facts : All (λ it. ¬ MeansEach it (url_at url)) more
    no_facts = All-map (λ it. ¬ MeansEach it (url_at url)) meaning_of facts (All-weaker IsOne (λ it. ¬ MeansEach (meaning_of it) (url_at url)) no_fact facts are_facts)

    url_after : AreCommon all (none ++ more) (url_at url)
    url_after = record {
      lines = common.lines;
      meant = common.meant;
      unmeant = All-append (λ it. ¬ MeansEach it (url_at url)) none more common.unmeant no_facts;
    }

    url_before : AreCommon all (more ++ none) (url_at url)
    url_before = record {
      lines = common.lines;
      meant = common.meant;
      unmeant = All-append (λ it. ¬ MeansEach it (url_at url)) more none no_facts common.unmeant;
    }

-- ---- what is found

-- No texts are common.
abbrev pub Never : (all_of none_of : List PatternAutomata) → Type 0
Never all_of none_of = (all none : List PatternMeaning) → AreMeanings (parts_of all_of) (parts_of none_of) all none → (texts : TextAt) → ¬ AreCommon all none texts

module _ (all_of none_of facts : List PatternAutomata) (are_facts : All IsOne facts) where
  pub fewer_after : (texts : TextAt) → AreCommonOf all_of (none_of ++ facts) texts → AreCommonOf all_of none_of texts
  fewer_after texts common all none are =
      without_after all_of none_of facts are_facts all none are texts (common all (none ++ map meaning_of facts) (with_after all_of none_of facts are_facts all none are))

  pub fewer_before : (texts : TextAt) → AreCommonOf all_of (facts ++ none_of) texts → AreCommonOf all_of none_of texts
  fewer_before texts common all none are =
      without_before all_of none_of facts are_facts all none are texts (common all (map meaning_of facts ++ none) (with_before all_of none_of facts are_facts all none are))

  pub no_url_after : Never all_of (none_of ++ facts) → NoUrlIsCommon all_of none_of
  no_url_after never all none are url valid common =
      never all (none ++ map meaning_of facts) (with_after all_of none_of facts are_facts all none are) (url_at url) (url_after all_of none_of facts are_facts all none are url valid common)

  pub no_url_before : Never all_of (facts ++ none_of) → NoUrlIsCommon all_of none_of
  no_url_before never all none are url valid common =
      never all (map meaning_of facts ++ none) (with_before all_of none_of facts are_facts all none are) (url_at url) (url_before all_of none_of facts are_facts all none are url valid common)

-- Texts that are those of a URL are common if they are.
module _ (all none : List PatternMeaning) (texts others : TextAt) (alike : (name : ComponentName) → texts name ≡ others name) where
  each_alike : (it : PatternMeaning) → MeansEach it texts → MeansEach it others
  each_alike it each name = subst (λ (text : List ℕ). IsTrue (it.means name text)) (alike name) (each name)

  each_back : (it : PatternMeaning) → MeansEach it others → MeansEach it texts
  each_back it each name = subst (λ (text : List ℕ). IsTrue (it.means name text)) (sym (alike name)) (each name)

  pub common_alike : AreCommon all none texts → AreCommon all none others
  common_alike common = record {
    lines = λ name. subst IsLine (alike name) (common.lines name);
    meant = All-weaker (λ it. MeansEach it texts) (λ it. MeansEach it others) each_alike all common.meant;
    unmeant = All-weaker (λ it. ¬ MeansEach it texts) (λ it. ¬ MeansEach it others) (λ it never each. never (each_back it each)) none common.unmeant;
  }

-- ---- doubts

-- A component without automaton is one of a pattern after those of the facts.
lack_after : (facts none_of : List PatternAutomata) (lack : Lack) → All IsOne facts → IsLack (facts ++ none_of) lack → length facts ≤ lack.pattern
lack_after facts none_of lack are_facts (pattern, there, (none, by)) = elim (cases_lt lack.pattern (length facts)) [
  | inr after ↦ after
  | inl first ↦
      let same : get_or facts lack.pattern pattern ≡ pattern =
      sym (get_or_append_left facts none_of pattern lack.pattern first) ∙ get_or_from_slice_get (facts ++ none_of) lack.pattern pattern pattern there in
      let one : IsOne pattern = subst IsOne same (are_facts lack.pattern pattern first) in
      absurd (none (some_in pattern one lack.component))
]

pub doubt_after : (facts all_of none_of : List PatternAutomata) (limits : Limits) (doubt : Doubt) → All IsOne facts → IsDoubt all_of (facts ++ none_of) limits doubt → IsOwnDoubt (length facts) doubt
doubt_after facts all_of none_of limits (doubts.AllOf lack) are_facts is = tt
doubt_after facts all_of none_of limits (doubts.NoneOf lack) are_facts is = lack_after facts none_of lack are_facts is
doubt_after facts all_of none_of limits (doubts.TooManySets name) are_facts is = tt
doubt_after facts all_of none_of limits doubts.TooManyTexts are_facts is = tt

-- ---- what is found

pub facts_made : (facts : List PatternAutomata) → AreUnlike facts → All AreAutomata facts
facts_made facts are = are.5

-- The automata of a question with the facts before those of `none_of`.
pub made_before : (facts none_of before : List PatternAutomata) → AreUnlike facts → All AreAutomata none_of → before ≡ facts ++ none_of → All AreAutomata before
made_before facts none_of before are made e = subst (All AreAutomata) (sym e) (All-append AreAutomata facts none_of (facts_made facts are) made)

url_text_at : (texts : Eight (String Global)) (url : Parts) → texts_of_url url ≡ string_texts texts → (name : ComponentName) → string_at texts name ≡ url_at url name
url_text_at texts url e name =
    sym (at-each (λ other. text_of (at texts other)) name) ∙ ap (λ (all : Texts). at all name) (sym e) ∙ at-each (λ other. url_text other url) name

pub url_found : (facts all_of none_of before : List PatternAutomata) (texts : Eight (String Global)) (read : Result Parts NoLink) (url : Parts) → AreUnlike facts → before ≡ facts ++ none_of
    → AreCommonOf all_of before (string_at texts) → IsRead (string_texts texts) read → read ≡ Ok url → AreCommonOf all_of none_of (url_at url)
url_found facts all_of none_of before texts read url are e common is read_is all none meanings =
    let whole : AreCommonOf all_of (facts ++ none_of) (string_at texts) = subst (λ (l : List PatternAutomata). AreCommonOf all_of l (string_at texts)) e common in
    let own : texts_of_url url ≡ string_texts texts = subst (IsRead (string_texts texts)) read_is is in
    common_alike all none (string_at texts) (url_at url) (url_text_at texts url own) (fewer_before all_of none_of facts (ones facts are) (string_at texts) whole all none meanings)

pub nothing_found : (facts all_of none_of before : List PatternAutomata) → AreUnlike facts → before ≡ facts ++ none_of → Never all_of before → NoUrlIsCommon all_of none_of
nothing_found facts all_of none_of before are e never = no_url_before all_of none_of facts (ones facts are) (subst (Never all_of) e never)

pub own_found : (facts all_of none_of before : List PatternAutomata) (limits : Limits) (doubt : Doubt) (count : ℕ) → AreUnlike facts → before ≡ facts ++ none_of → count ≡ length facts
    → IsDoubt all_of before limits doubt → IsOwnDoubt count doubt
own_found facts all_of none_of before limits doubt count are e counted is =
    subst (λ (n : ℕ). IsOwnDoubt n doubt) (sym counted)
    (doubt_after facts all_of none_of limits doubt (ones facts are) (subst (λ (l : List PatternAutomata). IsDoubt all_of l limits doubt) e is))
