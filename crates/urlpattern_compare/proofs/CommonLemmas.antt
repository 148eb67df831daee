-- Common texts of patterns, by what the automata of their components accept.
use Rattle.std.proofs.Common.{◌≡◌, ℕ, zero, suc, ◌<◌, Bool, true, List, [], ◌∷◌, ◌++◌, length, refl, sym, subst, ap, ◌∙◌, inl, inr, ◌↔◌, arith, get_or, map, Option, Some, None}
use Rattle.std.proofs.lemmas.Bool.{false≢true}
use Rattle.std.proofs.lemmas.List.Elements.{All-cons, All-contains, All-contains_itself, All-head, All-nil, All-tail}
use Rattle.std.proofs.lemmas.Option.{slice_get-get_or, slice_get-map}
use Rattle.std.specs.List.{All, Contains}
use Rattle.std.specs.Option.{IsSome}
use Rattle.std.specs.Prelude.{IfNone, IfOk, IfSome, IsTrue, Result, Ok, Err, String, option_map, slice_get}
use Rattle.std.specs.Str.{all_scalars}
use Rattle.std.specs.declared.alloc.AllocError.{AllocError}
use Rattle.std.specs.declared.alloc.Global.{Global}
use Rattle.urlpattern_compare.proofs.CandidateLemmas.{all_back, all_front}
use Rattle.urlpattern_compare.proofs.PartsRead.{made_within, meaning_accepted}
use Rattle.urlpattern_compare.proofs.StateSets.{LeadsIn, leads_moved, leads_starts, length_moved, length_starts}
use Rattle.urlpattern_compare.proofs.WorkLemmas.{made_states}
use Rattle.urlpattern_compare.specs.Automata.{AcceptsText, IsWithin}
use Rattle.urlpattern_compare.specs.Candidates.{AreLines, TextAt}
use Rattle.urlpattern_compare.specs.CommonTexts.{AreAutomata, AreCommon, AreMeanings, AreTaken, HasAutomata, IsAutomatonOf, IsAutomatonOrLacks, IsLack, IsLackOf, IsSameIn, IsSure, LacksBy, MeanAlike, MeansByParts, MeansEach, PatternMeaning, Takes, TakesAll, TakesEach, parts_of, string_at}
use Rattle.urlpattern_compare.specs.Comparing.{AreSame, IsKnown, IsUnknownBy, MeansIn}
use Rattle.urlpattern_compare.specs.Conditions.{accepts, states_by}
use Rattle.urlpattern_compare.specs.Making.{MayHaveManyStates, IsMadeOf}
use Rattle.urlpattern_compare.specs.Searching.{is_in, moved, starts_of}
use Rattle.urlpattern_compare.specs.TextSearch.{IsLine}
use Rattle.urlpattern_compare.specs.declared.common_texts.Lack.{Lack}
use Rattle.urlpattern_compare.specs.declared.common_texts.PatternAutomata.{PatternAutomata}
use Rattle.urlpattern_compare.specs.declared.coverage.Reason.{Reason}
use Rattle.urlpattern_compare.specs.declared.coverage.Reason.TheVariants as reasons
use Rattle.urlpattern_compare.specs.declared.parts_automaton.Edge.{Edge}
use Rattle.urlpattern_compare.specs.declared.parts_automaton.PartsAutomaton.{PartsAutomaton}
use Rattle.urlpattern_compare.specs.declared.pattern_parts.PatternParts.{PatternParts}
use Rattle.urlpattern_components.specs.Eight.{at}
use Rattle.urlpattern_components.specs.declared.eight.ComponentName.{ComponentName}
use Rattle.urlpattern_components.specs.declared.eight.Eight.{Eight}
use Rattle.urlpattern_meaning.specs.Matching.{folded_character}
use Rattle.urlpattern_syntax.specs.Options.{options_view}
use Rattle.urlpattern_syntax.specs.Parts.{parts_view}
use Rattle.urlpattern_syntax.specs.Text.{lacks}
use Rattle.urlpattern_syntax.specs.declared.parts.ComponentParts.{ComponentParts}

-- ---- automata

-- A text leads from a set of states to the end if the end is among the states to which it leads.
leads_by : (edges : List Edge) (from : List Bool) (text : List ℕ) → All (λ edge. edge.to < length from) edges → LeadsIn edges from text ↔ IsTrue (is_in (states_by edges from text) 0)
leads_by edges from [] within = (λ (state, has, e). subst (λ s. IsTrue (is_in from s)) e has, λ has. (0, has, refl))
leads_by edges from (c ∷ text) within =
    let step = leads_moved edges from c text within in
    let rest = leads_by edges (moved edges from c) text (λ k d lt. subst (λ n. (get_or edges k d).to < n) (sym (length_moved edges from c)) (within k d lt)) in
    (λ leads. rest.0 (step.1 leads), λ has. step.0 (rest.1 has))

pub accepts_text : (automaton : PartsAutomaton) (text : List ℕ) → IsWithin automaton → AcceptsText automaton text ↔ IsTrue (accepts automaton text)
accepts_text automaton text within =
    let starts = leads_starts automaton text within in
    let by = leads_by automaton.edges.items (starts_of automaton) (map (folded_character automaton.ignore_case) text) (λ k d lt. subst (λ n. (get_or automaton.edges.items k d).to < n) (sym (length_starts automaton)) (within.edges k d lt)) in
    (λ leads. by.0 (starts.0 leads), λ has. starts.1 (by.1 has))

-- An automaton that is made of a component's parts accepts the texts that they mean.
made_means : (component : ComponentParts) (automaton : PartsAutomaton) (text : List ℕ) → IsTrue (all_scalars text) → IsKnown component → IsMadeOf (options_view component.options) (parts_view component.parts.items) automaton →
    IsTrue (accepts automaton text) ↔ MeansIn component text
made_means component automaton text good known is =
    let options = options_view component.options in
    let parts = parts_view component.parts.items in
    let here = accepts_text automaton text (made_within options parts automaton is) in
    let meant = meaning_accepted options parts automaton known.parts.by_case is text good in
    (λ has. meant.0 (here.1 has), λ means. here.0 (meant.1 means))

-- The automaton of a component accepts the texts that its parts mean.
pub accepts_means : (component : ComponentParts) (automaton : PartsAutomaton) (text : List ℕ) → IsTrue (all_scalars text) → IsAutomatonOf component automaton → IsTrue (accepts automaton text) ↔ MeansIn component text
accepts_means component automaton text good is = is.means text good

-- ---- one component

-- `meant` says whether a component whose parts tell matches the text.
abbrev pub Says : (meant : Bool) → ComponentParts → (text : List ℕ) → Type 0
Says meant component text = IsKnown component → IsTrue meant ↔ MeansIn component text

means_takes : (meant : Bool) (component : ComponentParts) (found : Option PartsAutomaton) (text : List ℕ) → IsTrue (all_scalars text) → Says meant component text → IsAutomatonOrLacks component found → IsTrue meant → Takes found text
means_takes meant component None text good says made is = tt
means_takes meant component (Some automaton) text good says made is = (accepts_means component automaton text good made).1 ((says made.known).0 is)

takes_means : (meant : Bool) (component : ComponentParts) (found : Option PartsAutomaton) (text : List ℕ) → IsTrue (all_scalars text) → Says meant component text → IsAutomatonOrLacks component found → IsSome found → Takes found text → IsTrue meant
takes_means meant component None text good says made some takes = absurd (false≢true some)
takes_means meant component (Some automaton) text good says made some takes = (says made.known).1 ((accepts_means component automaton text good made).0 takes)

-- ---- lists

pub all_unmap : {X Y : Type 0} (P : Y → Type 0) (f : X → Y) (xs : List X) → All P (map f xs) → All (λ x. P (f x)) xs
all_unmap P f [] all = All-nil (λ x. P (f x))
all_unmap P f (x ∷ xs) all = All-cons (λ it. P (f it)) x xs (All-head P (f x) (map f xs) all) (all_unmap P f xs (All-tail P (f x) (map f xs) all))

abbrev head_or : {X : Type 0} → X → List X → X
head_or d [] = d
head_or d (x ∷ xs) = x

abbrev rest_of : {X : Type 0} → List X → List X
rest_of [] = []
rest_of (x ∷ xs) = xs

-- What holds of one list holds of another that has equal values under two functions.
pub across : {X Y V : Type 0} (f : X → V) (g : Y → V) (P : X → Type 0) (Q : Y → Type 0) → ((x : X) (y : Y) → f x ≡ g y → P x → Q y) → (xs : List X) (ys : List Y) → map f xs ≡ map g ys → All P xs → All Q ys
across f g P Q step [] [] e all = All-nil Q
across f g P Q step [] (y ∷ ys) e all = let never : zero ≡ suc (length (map g ys)) = ap length e in absurd (omega arith)
across f g P Q step (x ∷ xs) [] e all = let never : suc (length (map f xs)) ≡ zero = ap length e in absurd (omega arith)
across f g P Q step (x ∷ xs) (y ∷ ys) e all = All-cons Q y ys (step x y (ap (head_or (f x)) e) (All-head P x xs all)) (across f g P Q step xs ys (ap rest_of e) (All-tail P x xs all))

-- ---- meanings

module _ (all_of none_of : List PatternAutomata) (all none : List PatternMeaning) (are : AreMeanings (parts_of all_of) (parts_of none_of) all none) (all_made : All AreAutomata all_of) (none_made : All AreAutomata none_of) (texts : TextAt) where
  says : (meaning : PatternMeaning) (pattern : PatternAutomata) → meaning.parts ≡ pattern.parts → MeansByParts meaning → (name : ComponentName) → IsLine (texts name) →
      Says (meaning.means name (texts name)) (at pattern.parts.components name) (texts name)
  says meaning pattern e by name line = subst (λ (parts : PatternParts). Says (meaning.means name (texts name)) (at parts.components name) (texts name)) e (λ known. by name known (texts name) line)

  -- The meaning of a pattern of `all_of`.
  partner : (pattern : PatternAutomata) → Contains all_of pattern → (meaning : PatternMeaning) × Contains all meaning × (meaning.parts ≡ pattern.parts)
  partner pattern has =
      All-contains (λ (it : PatternAutomata). (meaning : PatternMeaning) × Contains all meaning × (meaning.parts ≡ it.parts)) all_of pattern
      (across (λ (one : PatternMeaning). one.parts) (λ (one : PatternAutomata). one.parts) (Contains all) (λ it. (meaning : PatternMeaning) × Contains all meaning × (meaning.parts ≡ it.parts)) (λ meaning it e there. (meaning, there, e)) all all_of are.all_parts (All-contains_itself all))
      has

  -- A component that is the same in a pattern that is meant is meant.
  same_meant : (meaning : PatternMeaning) (pattern : PatternAutomata) (name : ComponentName) → meaning.parts ≡ pattern.parts → All (λ one. MeanAlike one meaning) all → AreLines texts →
      All (λ one. MeansEach one texts) all → IsSameIn all_of pattern name → IsTrue (meaning.means name (texts name))
  same_meant meaning pattern name e alike lines meant (one, has, same) =
      let (own, there, f) = partner one has in
      let same_own : AreSame (at own.parts.components name) (at meaning.parts.components name) =
      subst (λ (parts : PatternParts). AreSame (at parts.components name) (at meaning.parts.components name)) (sym f)
      (subst (λ (parts : PatternParts). AreSame (at one.parts.components name) (at parts.components name)) (sym e) same) in
      sym (All-contains (λ it. MeanAlike it meaning) all own alike there name same_own (texts name) (lines name))
      ∙ All-contains (λ it. MeansEach it texts) all own meant there name

  taken_by : AreCommon all none texts → AreTaken all_of none_of true texts
  taken_by common =
      let known_all = all_front MeansByParts all none are.known in
      let known_none = all_back MeansByParts all none are.known in
      record {
        taken = λ k d lt.
            across (λ (one : PatternMeaning). one.parts) (λ (one : PatternAutomata). one.parts) (λ it. MeansByParts it × MeansEach it texts) (λ pattern. AreAutomata pattern → TakesAll pattern texts)
            (λ meaning pattern e (by, each) made name.
            means_takes (meaning.means name (texts name)) (at pattern.parts.components name) (at pattern.automata name) (texts name) (common.lines name).scalars (says meaning pattern e by name (common.lines name)) (made name) (each name))
            all all_of are.all_parts (λ i o below. (known_all i o below, common.meant i o below)) k d lt (all_made k d lt);
        refused = λ k d lt.
            across (λ (one : PatternMeaning). one.parts) (λ (one : PatternAutomata). one.parts) (λ it. MeansByParts it × All (λ one. MeanAlike one it) all × ¬ MeansEach it texts)
            (λ pattern. AreAutomata pattern → (IsTrue true → IsSure all_of pattern) → ¬ TakesEach all_of pattern texts)
            (λ meaning pattern e (by, alike, unmeant) made sure takes. unmeant (λ name.
            elim (sure refl name) [
              | inl same ↦ same_meant meaning pattern name e alike common.lines common.meant same
              | inr some ↦ elim (takes name) [
                | inl same ↦ same_meant meaning pattern name e alike common.lines common.meant same
                | inr taken ↦ takes_means (meaning.means name (texts name)) (at pattern.parts.components name) (at pattern.automata name) (texts name) (common.lines name).scalars (says meaning pattern e by name (common.lines name)) (made name) some taken
              ]
            ]))
            none none_of are.none_parts
            (λ i o below. (
              known_none i o below,
              λ j p under. all_back (MeanAlike (get_or all j p)) all none (all_front (λ it. All (MeanAlike it) (all ++ none)) all none are.same j p under) i o below,
              common.unmeant i o below,
            ))
            k d lt (none_made k d lt);
      }

  -- ---- common texts

  common_by : (is_sure : Bool) → AreLines texts → All HasAutomata all_of → All (λ pattern. IsTrue is_sure → IsSure all_of pattern) none_of → AreTaken all_of none_of is_sure texts → AreCommon all none texts
  common_by is_sure lines some sure taken =
      let known_all = all_front MeansByParts all none are.known in
      let known_none = all_back MeansByParts all none are.known in
      record {
        lines = lines;
        meant = λ k d lt.
            across (λ (one : PatternAutomata). one.parts) (λ (one : PatternMeaning). one.parts) (λ pattern. AreAutomata pattern × HasAutomata pattern × TakesAll pattern texts) (λ it. MeansByParts it → MeansEach it texts)
            (λ pattern meaning e (made, has, takes) by name.
            takes_means (meaning.means name (texts name)) (at pattern.parts.components name) (at pattern.automata name) (texts name) (lines name).scalars (says meaning pattern (sym e) by name (lines name)) (made name) (has name) (takes name))
            all_of all (sym are.all_parts) (λ i o below. (all_made i o below, some i o below, taken.taken i o below)) k d lt (known_all k d lt);
        unmeant = λ k d lt.
            across (λ (one : PatternAutomata). one.parts) (λ (one : PatternMeaning). one.parts) (λ pattern. AreAutomata pattern × ¬ TakesEach all_of pattern texts) (λ it. MeansByParts it → ¬ MeansEach it texts)
            (λ pattern meaning e (made, refused) by each. refused (λ name.
            inr (means_takes (meaning.means name (texts name)) (at pattern.parts.components name) (at pattern.automata name) (texts name) (lines name).scalars (says meaning pattern (sym e) by name (lines name)) (made name) (each name))))
            none_of none (sym are.none_parts) (λ i o below. (none_made i o below, taken.refused i o below (sure i o below))) k d lt (known_none k d lt);
      }

-- What `Nothing` says.
pub nothing_common : (all_of none_of : List PatternAutomata) → All AreAutomata all_of → All AreAutomata none_of → ((texts : TextAt) → AreLines texts → ¬ AreTaken all_of none_of true texts) →
    (all none : List PatternMeaning) → AreMeanings (parts_of all_of) (parts_of none_of) all none → (texts : TextAt) → ¬ AreCommon all none texts
nothing_common all_of none_of all_made none_made nothing all none are texts common = nothing texts common.lines (taken_by all_of none_of all none are all_made none_made texts common)

-- What `Texts` says.
pub texts_common : (all_of none_of : List PatternAutomata) (is_sure : Bool) (texts : TextAt) → All AreAutomata all_of → All AreAutomata none_of →
    AreLines texts → All HasAutomata all_of → All (λ pattern. IsTrue is_sure → IsSure all_of pattern) none_of → AreTaken all_of none_of is_sure texts →
    (all none : List PatternMeaning) → AreMeanings (parts_of all_of) (parts_of none_of) all none → AreCommon all none texts
texts_common all_of none_of is_sure texts all_made none_made lines some sure taken all none are = common_by all_of none_of all none are all_made none_made texts is_sure lines some sure taken

-- Texts that were found, as strings.
module _ (all_of none_of : List PatternAutomata) (is_sure : Bool) (texts : TextAt) (strings : Eight (String Global)) (same : (name : ComponentName) → string_at strings name ≡ texts name) where
  pub string_lines : AreLines texts → AreLines (string_at strings)
  string_lines lines = λ name. subst IsLine (sym (same name)) (lines name)

  pub string_taken : AreTaken all_of none_of is_sure texts → AreTaken all_of none_of is_sure (string_at strings)
  string_taken taken = record {
    taken = λ k d lt name. subst (Takes (at (get_or all_of k d).automata name)) (sym (same name)) (taken.taken k d lt name);
    refused = λ k d lt known takes. taken.refused k d lt known (λ name. elim (takes name) [
      | inl one ↦ inl one
      | inr has ↦ inr (subst (Takes (at (get_or none_of k d).automata name)) (same name) has)
    ]);
  }

-- ---- components without automaton

pub lacks_by : (component : ComponentParts) (reason : Reason) → IsUnknownBy component reason → LacksBy component reason
lacks_by component reasons.CustomExpression is = is
lacks_by component reasons.IgnoredCase is = is
lacks_by component reasons.TooMany is = absurd is

pub only_many : (component : ComponentParts) → IsKnown component → (reason : Reason) → LacksBy component reason → LacksBy component reasons.TooMany
only_many component known reasons.CustomExpression is = absurd (is.0 known)
only_many component known reasons.IgnoredCase is = absurd (is.0 known)
only_many component known reasons.TooMany is = is

pub automaton_found : (component : ComponentParts) (result : Result (Option PartsAutomaton) AllocError) → IsKnown component →
    IfOk result (λ found. IfSome found (IsMadeOf (options_view component.options) (parts_view component.parts.items))) →
    IfOk result (λ found. IfNone found (MayHaveManyStates (options_view component.options) (parts_view component.parts.items))) → IfOk result (IsAutomatonOrLacks component)
automaton_found component (Err e) known is many = is
automaton_found component (Ok None) known is many = (reasons.TooMany, (known, many))
automaton_found component (Ok (Some automaton)) known is many = record {
  known = known;
  means = λ text good. made_means component automaton text good known is;
  size = λ generated. made_states (options_view component.options) (parts_view component.parts.items) automaton generated is;
}

pub lacks_if : (component : ComponentParts) (found : Option PartsAutomaton) → IsAutomatonOrLacks component found → ¬ IsSome found → (reason : Reason) × LacksBy component reason
lacks_if component None made none = made
lacks_if component (Some automaton) made none = absurd (none refl)

-- ---- lists of patterns

pub slice_map : {X Y : Type 0} (f : X → Y) (xs : List X) (i : ℕ) (x : X) → i < length xs → x ≡ get_or xs i x → slice_get (map f xs) i ≡ Some (f x)
slice_map f xs i x lt there = slice_get-map f xs i ∙ ap (λ o. option_map f o) (slice_get-get_or xs i x lt ∙ ap Some (sym there))

pub lack_at : (patterns : List PatternAutomata) (index : ℕ) (pattern : PatternAutomata) (lack : Lack) → slice_get patterns index ≡ Some pattern → IsLackOf pattern index lack → IsLack patterns lack
lack_at patterns index pattern lack there (e, lacks) = (pattern, subst (λ n. slice_get patterns n ≡ Some pattern) (sym e) there, lacks)
