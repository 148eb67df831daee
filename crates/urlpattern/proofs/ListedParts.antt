-- Lemmas on the parts of patterns.
use Rattle.std.proofs.Common.{◌≡◌, ◌≢◌, ◌∙◌, ◌<◌, ◌+◌, ℕ, Bool, Bor, List, [], ◌∷◌, ◌++◌, ap, false, get_or, length, map, subst, sym, take, true, true≢false}
use Rattle.std.proofs.lemmas.List.{get_or-map, length-map, take_more}
use Rattle.std.proofs.lemmas.Bool.{false≢true}
use Rattle.std.proofs.lemmas.List.Elements.{All-cons, All-more, All-nil, Contains-get_or}
use Rattle.std.specs.List.{AllZip}
use Rattle.std.specs.Prelude.{All, Contains, IfSome, Option, None, Some, is_some, not, option_copied}
use Rattle.urlpattern.specs.Reached.{AreAppended, HasAutomata, HaveAllAutomata}
use Rattle.urlpattern_compare.specs.CommonTexts.{AreAutomata}
use Rattle.urlpattern_compare.specs.EqualParts.{AreEqualParts}
use Rattle.urlpattern_compare.specs.declared.common_texts.PatternAutomata.{PatternAutomata}
use Rattle.urlpattern_compare.specs.declared.pattern_parts.PatternParts.{PatternParts}
use Rattle.urlpattern_components.specs.Eight.{at}
use Rattle.urlpattern_matcher.specs.Components.{IsComponentOf}
use Rattle.urlpattern_matcher.specs.declared.regexp.RegExp.{Ghosts as Engine}
use Rattle.urlpattern_pattern.specs.Patterns.{PatternView, pattern_view}
use Rattle.urlpattern_pattern.specs.UrlPatterns.{AreMadeOfParts, HasOwnParts, UrlPattern}
use Rattle.urlpattern_syntax.specs.ComponentParts.{kept_options, kept_parts}

-- The parts of a pattern.
abbrev pub parts_of : {E : Type 0} → UrlPattern E → Option PatternParts
parts_of pattern = pattern.parts

-- The pattern has parts.
abbrev pub HasParts : {E : Type 0} → UrlPattern E → Type 0
HasParts pattern = pattern.parts ≢ None

-- The parts are missing, by the test of a reference to them.
pub lacks_parts : (found : Option (Bor PatternParts)) (is : Bool) (own : Option PatternParts) → option_copied found ≡ own → is_some found ≡ not is → is ≡ true → own ≡ None
lacks_parts None is own same e tested = sym same
lacks_parts (Some them) is own same e tested = absurd (true≢false (e ∙ ap not tested))

-- The parts are there, by the test of a reference to them.
pub has_parts : (found : Option (Bor PatternParts)) (is : Bool) (own : Option PatternParts) → option_copied found ≡ own → is_some found ≡ not is → is ≡ false → own ≢ None
has_parts None is own same e tested none = absurd (false≢true (e ∙ ap not tested))
has_parts (Some them) is own same e tested none = let wrong : Some them.now ≡ None = same ∙ none in absurd cc

-- Copies of parts are those of which the engine made a pattern.
copy_made : {E : Type 0} (engine : Engine E) (parts others : PatternParts) (view : PatternView E) → AreEqualParts parts others → AreMadeOfParts engine parts view → AreMadeOfParts engine others view
copy_made engine parts others view equal made name =
    let own = at parts.components name in
    let other = at others.components name in
    record {
      is_component = subst (λ options. IsComponentOf engine options (kept_parts other) (view name)) (equal name).options
          (subst (λ them. IsComponentOf engine (kept_options own) them (view name)) (equal name).parts (made name).is_component);
      has_engine = (made name).has_engine;
      case = sym (equal name).case ∙ (made name).case;
    }

pub zip_push : {A B : Type 0} (R : A → B → Type 0) (xs : List A) (ys : List B) (x : A) (y : B) → AllZip R xs ys → R x y → AllZip R (xs ++ x ∷ []) (ys ++ y ∷ [])
zip_push R [] [] x y all last = (last, tt)
zip_push R [] (other ∷ ys) x y all last = absurd all
zip_push R (other ∷ xs) [] x y all last = absurd all
zip_push R (one ∷ xs) (other ∷ ys) x y all last = (all.0, zip_push R xs ys x y all.1 last)

pub all_automata : {E : Type 0} (engine : Engine E) (patterns : List (UrlPattern E)) (all : List PatternAutomata) → HaveAllAutomata engine patterns all → All AreAutomata all
all_automata engine [] [] have = All-nil AreAutomata
all_automata engine [] (it ∷ all) have = absurd have
all_automata engine (pattern ∷ patterns) [] have = absurd have
all_automata engine (pattern ∷ patterns) (it ∷ all) have = All-cons AreAutomata it all have.0.are_automata (all_automata engine patterns all have.1)

-- The automata of a pattern with these parts.
pub appended_automata : {E : Type 0} (engine : Engine E) (pattern : UrlPattern E) (old new : List PatternAutomata) (parts : PatternParts) → pattern.parts ≡ Some parts → HasOwnParts engine pattern
    → AreAppended parts old new → (one : PatternAutomata) × (new ≡ old ++ one ∷ []) × HasAutomata engine pattern one
appended_automata engine pattern old new parts has own (one, grown, automata, equal) =
    let made : AreMadeOfParts engine parts (pattern_view pattern) = subst (λ found. IfSome found (λ them. AreMadeOfParts engine them (pattern_view pattern))) has own in
    (one, grown, record { are_automata = automata; made = copy_made engine parts one.parts (pattern_view pattern) equal made })

module _ {E : Type 0} (engine : Engine E) (patterns : List (UrlPattern E)) (i : ℕ) (pattern : UrlPattern E) (within : i < length patterns) (is : pattern ≡ get_or patterns i pattern) where
  -- The automata of a pattern are appended.
  pub automata_more : (old new : List PatternAutomata) (parts : PatternParts) → pattern.parts ≡ Some parts → HasOwnParts engine pattern → AreAppended parts old new
      → HaveAllAutomata engine (take i patterns) old → HaveAllAutomata engine (take (i + 1) patterns) new
  automata_more old new parts has own appended have =
      let (one, grown, last) = appended_automata engine pattern old new parts has own appended in
      let seen : take (i + 1) patterns ≡ take i patterns ++ pattern ∷ [] = take_more patterns i pattern within ∙ ap (λ (p : UrlPattern E). take i patterns ++ p ∷ []) (sym is) in
      subst (λ them. HaveAllAutomata engine them new) (sym seen)
      (subst (λ them. HaveAllAutomata engine (take i patterns ++ pattern ∷ []) them) (sym grown) (zip_push (HasAutomata engine) (take i patterns) old pattern one have last))

  -- A pattern without parts is an element.
  pub has_none : pattern.parts ≡ None → Contains (map parts_of patterns) None
  has_none none =
      let inside : i < length (map parts_of patterns) = subst (λ count. i < count) (sym (length-map patterns parts_of)) within in
      let at_i : get_or (map parts_of patterns) i None ≡ None = get_or-map parts_of patterns i pattern None within ∙ ap parts_of (sym is) ∙ none in
      subst (Contains (map parts_of patterns)) at_i (Contains-get_or (map parts_of patterns) i None inside)

  -- A further pattern has parts.
  pub have_more : All HasParts (take i patterns) → HasParts pattern → All HasParts (take (i + 1) patterns)
  have_more before own = All-more HasParts patterns i pattern within before (subst HasParts is own)
