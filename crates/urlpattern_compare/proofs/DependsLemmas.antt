-- Meanings by which common texts exist, and meanings by which they do not.
use Rattle.std.proofs.Common.{◌≡◌, ◌∙◌, ◌⊎◌, ◌↔◌, ℕ, Bool, true, false, List, [], ◌∷◌, ◌++◌, Option, Some, None, ap, arith, get_or, inl, inr, map, refl, sym}
use Rattle.std.proofs.lemmas.Bool.{false≢true}
use Rattle.std.proofs.lemmas.Bool.Decides.{same_from_decides}
use Rattle.std.proofs.lemmas.List.Elements.{All-append, All-cons, All-contains, All-head, All-map, All-nil, All-tail, Contains-append_cases, Contains-append_right, Contains-get_or}
use Rattle.std.proofs.lemmas.Option.{get_or_from_slice_get, slice_get-get_or, slice_get_within}
use Rattle.std.specs.List.{All, Contains}
use Rattle.std.specs.Option.{IsSome}
use Rattle.std.specs.Prelude.{IsTrue, slice_get}
use Rattle.std.specs.Str.{all_scalars}
use Rattle.urlpattern_compare.proofs.CandidateLemmas.{all_back, all_front}
use Rattle.urlpattern_compare.proofs.CommonLemmas.{accepts_means, all_unmap}
use Rattle.urlpattern_compare.proofs.SameDecided.{dec_same, holds, holds_alike, holds_if, if_holds, same_trans}
use Rattle.urlpattern_compare.proofs.SameParts.{same_flips, same_within}
use Rattle.urlpattern_compare.proofs.StateSets.{contains_head}
use Rattle.urlpattern_compare.specs.Candidates.{AreLines, TextAt}
use Rattle.urlpattern_compare.specs.CommonLaws.{MeaningsExist}
use Rattle.urlpattern_compare.specs.CommonTexts.{AreAutomata, AreMeanings, AreTaken, Depends, IsAutomatonOrLacks, IsLack, IsSureIn, LacksBy, MayBeCommon, MayBeNothing, MeanAlike, MeansByParts, MeansEach, PatternMeaning, SomeAreTaken, SomeMayHaveManyStates, Takes, TakesIn, parts_of}
use Rattle.urlpattern_compare.specs.Comparing.{AreSame, IsKnown, MeansIn}
use Rattle.urlpattern_compare.specs.Conditions.{accepts}
use Rattle.urlpattern_compare.specs.TextSearch.{IsLine}
use Rattle.urlpattern_compare.specs.declared.common_texts.Lack.{Lack}
use Rattle.urlpattern_compare.specs.declared.common_texts.PatternAutomata.{PatternAutomata}
use Rattle.urlpattern_compare.specs.declared.coverage.Reason.TheVariants as reasons
use Rattle.urlpattern_compare.specs.declared.parts_automaton.PartsAutomaton.{PartsAutomaton}
use Rattle.urlpattern_components.proofs.EightLemmas.{of_each}
use Rattle.urlpattern_components.specs.Eight.{at, components}
use Rattle.urlpattern_components.specs.declared.eight.ComponentName.{ComponentName}
use Rattle.urlpattern_syntax.specs.declared.parts.ComponentParts.{ComponentParts}

-- ---- components

-- Whether the automaton accepts the text; if there is none, `free`.
abbrev said : (free : Bool) → Option PartsAutomaton → (text : List ℕ) → Bool
said free None text = free
said free (Some automaton) text = accepts automaton text

-- Nothing is known of a component without automaton.
abbrev IsSettled : ComponentParts → Option PartsAutomaton → Type 0
IsSettled component found = IsSome found ⊎ ¬ IsKnown component

settled_some : (component : ComponentParts) → IsKnown component → ¬ IsSettled component None
settled_some component known settled = elim settled [
  | inl some ↦ false≢true some
  | inr unknown ↦ unknown known
]

said_means : (free : Bool) (component : ComponentParts) (found : Option PartsAutomaton) (text : List ℕ) → IsTrue (all_scalars text) → IsAutomatonOrLacks component found → IsSettled component found → IsKnown component →
    IsTrue (said free found text) ↔ MeansIn component text
said_means free component None text good made settled known = absurd (settled_some component known settled)
said_means free component (Some automaton) text good made settled known = accepts_means component automaton text good made

same_known : (component other : ComponentParts) → AreSame component other → IsKnown component → IsKnown other
same_known component other same known = (same_within component other same known).asked_known

said_alike : (free other_free : Bool) (component other : ComponentParts) (found other_found : Option PartsAutomaton) (text : List ℕ) → IsAutomatonOrLacks component found → IsAutomatonOrLacks other other_found →
    IsSettled component found → IsSettled other other_found → AreSame component other → IsLine text → free ≡ other_free → said free found text ≡ said other_free other_found text
said_alike free other_free component other None None text made other_made settled other_settled same line e = e
said_alike free other_free component other None (Some automaton) text made other_made settled other_settled same line e =
    absurd (settled_some component (same_known other component (same_flips component other same) other_made.known) settled)
said_alike free other_free component other (Some automaton) None text made other_made settled other_settled same line e = absurd (settled_some other (same_known component other same made.known) other_settled)
said_alike free other_free component other (Some automaton) (Some another) text made other_made settled other_settled same line e =
    let own = accepts_means component automaton text line.scalars made in
    let its = accepts_means other another text line.scalars other_made in
    let to = same_within component other same made.known in
    let from = same_within other component (same_flips component other same) other_made.known in
    same_from_decides (accepts automaton text) (accepts another text) own
    (λ has. to.within text line (its.0 has), λ means. its.1 (from.within text line means))

takes_said : (free : Bool) (found : Option PartsAutomaton) (text : List ℕ) → IsTrue free → Takes found text → IsTrue (said free found text)
takes_said free None text is takes = is
takes_said free (Some automaton) text is takes = takes

said_takes : (free : Bool) (found : Option PartsAutomaton) (text : List ℕ) → IsTrue (said free found text) → Takes found text
said_takes free None text is = tt
said_takes free (Some automaton) text is = is

-- What is said of a component that is left free.
said_or : {P : Type 0} (free : Bool) (found : Option PartsAutomaton) (text : List ℕ) → (IsTrue free → P) → IsTrue (said free found text) → (P ⊎ IsSome found) × (P ⊎ Takes found text)
said_or free None text if_free is = (inl (if_free is), inl (if_free is))
said_or free (Some automaton) text if_free is = (inr refl, inr is)

never_said : (found : Option PartsAutomaton) (text : List ℕ) → ¬ IsSome found → ¬ IsTrue (said false found text)
never_said None text none is = false≢true is
never_said (Some automaton) text none is = none refl

-- ---- patterns

-- Whether a component without automaton matches a text.
abbrev Free : Type 0
Free = ComponentName → ComponentParts → Bool

abbrev meaning_by : Free → PatternAutomata → PatternMeaning
meaning_by free it = record {
  parts = it.parts;
  means = λ name text. said (free name (at it.parts.components name)) (at it.automata name) text;
}

abbrev AreSettled : PatternAutomata → Type 0
AreSettled it = (name : ComponentName) → IsSettled (at it.parts.components name) (at it.automata name)

-- Components that are the same are left free alike.
abbrev Agree : (free other_free : Free) → (it other : PatternAutomata) → Type 0
Agree free other_free it other =
    (name : ComponentName) → AreSame (at it.parts.components name) (at other.parts.components name) → free name (at it.parts.components name) ≡ other_free name (at other.parts.components name)

by_automata : (free : Free) (it : PatternAutomata) → AreAutomata it → AreSettled it → MeansByParts (meaning_by free it)
by_automata free it made settled = λ name known text line.
    said_means (free name (at it.parts.components name)) (at it.parts.components name) (at it.automata name) text line.scalars (made name) (settled name) known

alike_by : (free other_free : Free) (it other : PatternAutomata) → AreAutomata it → AreAutomata other → AreSettled it → AreSettled other → Agree free other_free it other →
    MeanAlike (meaning_by free it) (meaning_by other_free other)
alike_by free other_free it other made other_made settled other_settled agree = λ name same text line.
    said_alike (free name (at it.parts.components name)) (other_free name (at other.parts.components name)) (at it.parts.components name) (at other.parts.components name) (at it.automata name) (at other.automata name) text
    (made name) (other_made name) (settled name) (other_settled name) same line (agree name same)

parts_kept : (free : Free) (patterns : List PatternAutomata) → map (λ (it : PatternMeaning). it.parts) (map (meaning_by free) patterns) ≡ parts_of patterns
parts_kept free [] = refl
parts_kept free (it ∷ patterns) = ap (λ l. it.parts ∷ l) (parts_kept free patterns)

-- A pattern has the same component.
abbrev HasSame : List PatternAutomata → ComponentName → ComponentParts → Type 0
HasSame patterns name component = (one : PatternAutomata) × Contains patterns one × AreSame (at one.parts.components name) component

dec_in : (patterns : List PatternAutomata) (name : ComponentName) (component : ComponentParts) → Dec (HasSame patterns name component)
dec_in [] name component = no (λ (one, (k, lt, there), same). absurd (omega arith))
dec_in (it ∷ patterns) name component = either (dec_same (at it.parts.components name) component) (dec_in patterns name component)
  where
    either : Dec (AreSame (at it.parts.components name) component) → Dec (HasSame patterns name component) → Dec (HasSame (it ∷ patterns) name component)
    either (yes same) rest = yes (it, contains_head it patterns, same)
    either (no apart) (yes (one, has, same)) = yes (one, Contains-append_right (it ∷ []) patterns one has, same)
    either (no apart) (no never) = no (λ (one, has, same).
        elim (Contains-append_cases (it ∷ []) patterns one has) [
          | inl first ↦ All-contains (λ other. ¬ AreSame (at other.parts.components name) component) (it ∷ []) one (All-cons (λ other. ¬ AreSame (at other.parts.components name) component) it [] apart (All-nil (λ other. ¬ AreSame (at other.parts.components name) component))) first same
          | inr later ↦ never (one, later, same)
        ])

-- The pattern at an index is among the patterns.
pub slice_contains : (patterns : List PatternAutomata) (index : ℕ) (pattern : PatternAutomata) → slice_get patterns index ≡ Some pattern → Contains patterns pattern
slice_contains patterns index pattern there = (index, slice_get_within patterns index pattern there, get_or_from_slice_get patterns index pattern pattern there)

module _ (all_of none_of : List PatternAutomata) (all_made : All AreAutomata all_of) (none_made : All AreAutomata none_of) (all_settled : All AreSettled all_of) (none_settled : All AreSettled none_of) where
  are_meanings : (free none_free : Free) → ((it other : PatternAutomata) → Agree free free it other) →
      ((it other : PatternAutomata) → Contains all_of it → Agree free none_free it other) → ((it other : PatternAutomata) → Agree none_free none_free it other) →
      AreMeanings (parts_of all_of) (parts_of none_of) (map (meaning_by free) all_of) (map (meaning_by none_free) none_of)
  are_meanings free none_free alone mixed apart =
      let all = map (meaning_by free) all_of in
      let none = map (meaning_by none_free) none_of in
      record {
        all_parts = parts_kept free all_of;
        none_parts = parts_kept none_free none_of;
        known = All-append MeansByParts all none
            (All-map MeansByParts (meaning_by free) all_of (λ k d lt. by_automata free (get_or all_of k d) (all_made k d lt) (all_settled k d lt)))
            (All-map MeansByParts (meaning_by none_free) none_of (λ k d lt. by_automata none_free (get_or none_of k d) (none_made k d lt) (none_settled k d lt)));
        same = All-append (λ it. All (MeanAlike it) (all ++ none)) all none
            (All-map (λ it. All (MeanAlike it) (all ++ none)) (meaning_by free) all_of (λ k d lt.
            let it = get_or all_of k d in
            All-append (MeanAlike (meaning_by free it)) all none
            (All-map (MeanAlike (meaning_by free it)) (meaning_by free) all_of (λ j e below.
            alike_by free free it (get_or all_of j e) (all_made k d lt) (all_made j e below) (all_settled k d lt) (all_settled j e below) (alone it (get_or all_of j e))))
            (All-map (MeanAlike (meaning_by free it)) (meaning_by none_free) none_of (λ j e below.
            alike_by free none_free it (get_or none_of j e) (all_made k d lt) (none_made j e below) (all_settled k d lt) (none_settled j e below) (mixed it (get_or none_of j e) (Contains-get_or all_of k d lt))))))
            (All-map (λ it. All (MeanAlike it) (all ++ none)) (meaning_by none_free) none_of (λ k d lt.
            let it = get_or none_of k d in
            All-append (MeanAlike (meaning_by none_free it)) all none
            (All-map (MeanAlike (meaning_by none_free it)) (meaning_by free) all_of (λ j e below.
            alike_by none_free free it (get_or all_of j e) (none_made k d lt) (all_made j e below) (none_settled k d lt) (all_settled j e below)
            (λ name same. sym (mixed (get_or all_of j e) it (Contains-get_or all_of j e below) name (same_flips (at it.parts.components name) (at (get_or all_of j e).parts.components name) same)))))
            (All-map (MeanAlike (meaning_by none_free it)) (meaning_by none_free) none_of (λ j e below.
            alike_by none_free none_free it (get_or none_of j e) (none_made k d lt) (none_made j e below) (none_settled k d lt) (none_settled j e below) (apart it (get_or none_of j e))))));
      }

  -- ---- no texts

  every : (free : Bool) → AreMeanings (parts_of all_of) (parts_of none_of) (map (meaning_by (λ name component. free)) all_of) (map (meaning_by (λ name component. free)) none_of)
  every free = are_meanings (λ name component. free) (λ name component. free) (λ it other name same. refl) (λ it other has name same. refl) (λ it other name same. refl)

  -- A component of `all_of` without automaton may match nothing.
  pub nothing_by_all : (lack : Lack) → IsLack all_of lack → MayBeNothing (parts_of all_of) (parts_of none_of)
  nothing_by_all lack (pattern, there, (none, by)) = (
    map (meaning_by (λ name component. false)) all_of,
    map (meaning_by (λ name component. false)) none_of,
    every false,
    λ texts common.
        let each = all_unmap (λ it. MeansEach it texts) (meaning_by (λ name component. false)) all_of common.meant in
        never_said (at pattern.automata lack.component) (texts lack.component) none
        (All-contains (λ it. MeansEach (meaning_by (λ name component. false) it) texts) all_of pattern each (slice_contains all_of lack.pattern pattern there) lack.component),
  )

  -- Components of `none_of` without automaton may match any text.
  pub nothing_by_none : ((texts : TextAt) → AreLines texts → ¬ AreTaken all_of none_of false texts) → MayBeNothing (parts_of all_of) (parts_of none_of)
  nothing_by_none never = (
    map (meaning_by (λ name component. true)) all_of,
    map (meaning_by (λ name component. true)) none_of,
    every true,
    λ texts common.
        let free : Free = λ name component. true in
        let each = all_unmap (λ it. MeansEach it texts) (meaning_by free) all_of common.meant in
        let refused = all_unmap (λ it. ¬ MeansEach it texts) (meaning_by free) none_of common.unmeant in
        never texts common.lines (record {
          taken = λ k d lt name. said_takes true (at (get_or all_of k d).automata name) (texts name) (each k d lt name);
          refused = λ k d lt sure takes. refused k d lt (λ name.
              let it = get_or none_of k d in
              elim (takes name) [
                | inl (one, has, same) ↦
                    sym (alike_by free free one it (All-contains AreAutomata all_of one all_made has) (none_made k d lt) (All-contains AreSettled all_of one all_settled has) (none_settled k d lt) (λ it e. refl) name same
                    (texts name) (common.lines name)) ∙ All-contains (λ it. MeansEach (meaning_by free it) texts) all_of one each has name
                | inr taken ↦ takes_said true (at it.automata name) (texts name) refl taken
              ]);
        }),
  )

  -- ---- texts

  -- Components of `all_of` without automaton may match any text, and with them those of `none_of`
  -- that are the same, but no others.
  pub may_be_common : SomeAreTaken all_of none_of true → MayBeCommon (parts_of all_of) (parts_of none_of)
  may_be_common (texts, lines, taken) =
      let free : Free = λ name component. true in
      let none_free : Free = λ name component. holds (dec_in all_of name component) in (
        map (meaning_by free) all_of,
        map (meaning_by none_free) none_of,
        are_meanings free none_free (λ it other name same. refl)
            (λ it other has name same. sym (holds_if (dec_in all_of name (at other.parts.components name)) (it, has, same)))
            (λ it other name same.
            let component = at it.parts.components name in
            let its = at other.parts.components name in
            holds_alike (dec_in all_of name component) (dec_in all_of name its)
            (λ (one, has, own). (one, has, same_trans (at one.parts.components name) component its own same))
            (λ (one, has, own). (one, has, same_trans (at one.parts.components name) its component own (same_flips component its same)))),
        (
          texts,
          record {
            lines = lines;
            meant = All-map (λ it. MeansEach it texts) (meaning_by free) all_of (λ k d lt name. takes_said true (at (get_or all_of k d).automata name) (texts name) refl (taken.taken k d lt name));
            unmeant = All-map (λ it. ¬ MeansEach it texts) (meaning_by none_free) none_of (λ k d lt means.
                let it = get_or none_of k d in
                let each : (name : ComponentName) → IsSureIn all_of it name × TakesIn all_of it texts name = λ name.
                said_or (none_free name (at it.parts.components name)) (at it.automata name) (texts name) (if_holds (dec_in all_of name (at it.parts.components name))) (means name) in
                taken.refused k d lt (λ sure name. (each name).0) (λ name. (each name).1));
          },
        ),
      )

-- ---- components that need too many states

all_or : {X : Type 0} (P R : X → Type 0) (Q : Type 0) (xs : List X) → ((x : X) → R x → P x ⊎ Q) → All R xs → All P xs ⊎ Q
all_or P R Q [] f all = inl (All-nil P)
all_or P R Q (x ∷ xs) f all = elim (f x (All-head R x xs all)) [
  | inr q ↦ inr q
  | inl p ↦ elim (all_or P R Q xs f (All-tail R x xs all)) [
    | inr q ↦ inr q
    | inl others ↦ inl (All-cons P x xs p others)
  ]
]

-- A component without automaton is settled, or needs too many states.
settled_or : (component : ComponentParts) (found : Option PartsAutomaton) → IsAutomatonOrLacks component found → IsSettled component found ⊎ ((¬ IsSome found) × LacksBy component reasons.TooMany)
settled_or component None (reasons.CustomExpression, lacks) = inl (inr (λ known. lacks.0 known))
settled_or component None (reasons.IgnoredCase, lacks) = inl (inr (λ known. lacks.0 known))
settled_or component None (reasons.TooMany, lacks) = inr (λ some. false≢true some, lacks)
settled_or component (Some automaton) made = inl (inl refl)

pub settled_or_many : (patterns : List PatternAutomata) → All AreAutomata patterns → All AreSettled patterns ⊎ SomeMayHaveManyStates patterns
settled_or_many patterns made =
    all_or AreSettled (λ it. AreAutomata it × Contains patterns it) (SomeMayHaveManyStates patterns) patterns
    (λ it (automata, (k, lt, there)).
    elim (all_or (λ name. IsSettled (at it.parts.components name) (at it.automata name)) (λ name. Unit {0}) (SomeMayHaveManyStates patterns) components
    (λ name present. elim (settled_or (at it.parts.components name) (at it.automata name) (automata name)) [
      | inl settled ↦ inl settled
      | inr (none, many) ↦ inr (
        record { pattern = k; component = name; reason = reasons.TooMany },
        (it, slice_get-get_or patterns k it lt ∙ ap Some there, (none, many)),
        refl,
      )
    ]) (λ j d below. tt)) [
      | inl all ↦ inl (of_each (λ name. IsSettled (at it.parts.components name) (at it.automata name)) all)
      | inr many ↦ inr many
    ])
    (λ k d lt. (made k d lt, Contains-get_or patterns k d lt))

pub meanings_exist : MeaningsExist
meanings_exist all_of none_of all_made none_made =
    elim (settled_or_many (all_of ++ none_of) (All-append AreAutomata all_of none_of all_made none_made)) [
      | inr many ↦ inr many
      | inl settled ↦ inl (
        map (meaning_by (λ name component. false)) all_of,
        map (meaning_by (λ name component. false)) none_of,
        every all_of none_of all_made none_made (all_front AreSettled all_of none_of settled) (all_back AreSettled all_of none_of settled) false,
      )
    ]

-- ---- the question depends on what components match

pub depends_by : (all_of none_of : List PatternAutomata) → All AreAutomata all_of → All AreAutomata none_of → SomeAreTaken all_of none_of true →
    (All AreSettled all_of → All AreSettled none_of → MayBeNothing (parts_of all_of) (parts_of none_of)) → Depends all_of none_of
depends_by all_of none_of all_made none_made some nothing =
    elim (settled_or_many (all_of ++ none_of) (All-append AreAutomata all_of none_of all_made none_made)) [
      | inr many ↦ inr many
      | inl settled ↦
          let all_settled = all_front AreSettled all_of none_of settled in
          let none_settled = all_back AreSettled all_of none_of settled in
          inl (may_be_common all_of none_of all_made none_made all_settled none_settled some, nothing all_settled none_settled)
    ]

pub depends_all : (all_of none_of : List PatternAutomata) (lack : Lack) → All AreAutomata all_of → All AreAutomata none_of → SomeAreTaken all_of none_of true → IsLack all_of lack → Depends all_of none_of
depends_all all_of none_of lack all_made none_made some is =
    depends_by all_of none_of all_made none_made some (λ all_settled none_settled. nothing_by_all all_of none_of all_made none_made all_settled none_settled lack is)

pub depends_none : (all_of none_of : List PatternAutomata) → All AreAutomata all_of → All AreAutomata none_of → SomeAreTaken all_of none_of true →
    ((texts : TextAt) → AreLines texts → ¬ AreTaken all_of none_of false texts) → Depends all_of none_of
depends_none all_of none_of all_made none_made some never =
    depends_by all_of none_of all_made none_made some (λ all_settled none_settled. nothing_by_none all_of none_of all_made none_made all_settled none_settled never)
