-- The rest of a generated expression begins with a token that is read, and continues.
use Rattle.std.proofs.Common.{◌≡◌, ℕ, suc, zero, Bool, true, false, List, [], ◌∷◌, ◌++◌, length, drop, Option, Some, None, refl, sym, ap, ◌∙◌, subst, inl, inr, append-nil, append_assoc, codes}
use Rattle.std.proofs.Math.Seq.{drop-length}
use Rattle.std.proofs.lemmas.Bool.{false≢true}
use Rattle.std.specs.Prelude.{◌⊎◌}
use Rattle.urlpattern_meaning.specs.Dialect.{AreItems, Atom, Captured, Character, Plain, Escaped, Grouped, IsAtom, IsCharacter, Item, Items, LazyOneOrMore, Nothing, Once, OneOrMore, Optional, Quantifier, ZeroOrMore, atom_text, character_of, character_text, items_text, quantifier_text}
use Rattle.urlpattern_meaning.specs.Dialect as dialect
use Rattle.urlpattern_meaning.proofs.DialectLeads.{Ends, IsFree, passed, spelled_free}
use Rattle.urlpattern_meaning.proofs.DialectSpelled.{spelled, items-spelled}
use Rattle.urlpattern_meaning.proofs.PartTrees.{tree_of}
use Rattle.urlpattern_meaning.proofs.PartTreeAllowed.{tree_allowed}
use Rattle.urlpattern_meaning.proofs.PartTreeTexts.{tree_text}
use Rattle.urlpattern_syntax.specs.RegexpText.{regexp_marks}
use Rattle.urlpattern_syntax.specs.Text.{is_among}
use Rattle.urlpattern_steps.specs.declared.step_tokens.GroupQuantifier.{GroupQuantifier}
use Rattle.urlpattern_steps.specs.declared.step_tokens.GroupQuantifier.TheVariants as often
use Rattle.urlpattern_steps.specs.declared.step_tokens.StepToken.{StepToken}
use Rattle.urlpattern_steps.specs.declared.step_tokens.StepToken.TheVariants.{Open, Close, Step as One, OptionalStep, FirstSegment}
use Rattle.urlpattern_steps.specs.declared.step.Step.{Step}
use Rattle.urlpattern_steps.specs.declared.step.Step.TheVariants.{Literal, Segments}
use Rattle.urlpattern_meaning.specs.GeneratedTexts.{IsGenerated}
use Rattle.urlpattern_steps.specs.ReadSteps.{AreCharacters, AreCopySteps, AreLiterals, BeginsWithRegexpToken, EndsSegments, IsStepGroup, IsUnquantified, characters_text, literal_steps, group_quantifier_text}
use Rattle.urlpattern_steps.proofs.PrefixLemmas.{apart, by_token, character_kind, ByItself, IsEscapedAt}
use Rattle.urlpattern_steps.proofs.Generated.{AreInside, AreReadable, AreSingle, IsGroupAtom, IsSegmentGroup, IsStep, StandInside, tree_readable}
use Rattle.urlpattern_steps.proofs.SegmentTextLemmas.{in_order_text, spelled_segments}
use Rattle.urlpattern_steps.proofs.SegmentLemmas.{in_order}

-- ---- the rest of an expression

-- The steps so far of a group that is to have this quantifier.
abbrev pub MayBeTaken : GroupQuantifier → List Step → Type 0
MayBeTaken often.Once own = Unit {0}
MayBeTaken often.Optional own = Unit {0}
MayBeTaken often.ZeroOrMore own = AreLiterals own
MayBeTaken often.OneOrMore own = AreLiterals own

abbrev pub IsLeftOutside : (rest : List ℕ) → Type 0
IsLeftOutside rest = (tree : Items) × AreItems tree × AreReadable tree × (rest ≡ items_text tree ++ codes "$")

-- The rest of a group, its closing parenthesis, and the rest of the expression.
pub record IsLeftInside (rest : List ℕ) (own : List Step) : Type 0 where
  pub inner : Items
  pub times : GroupQuantifier
  pub outer : List ℕ
  pub are : AreItems inner
  pub inside : StandInside times inner
  pub so_far : MayBeTaken times own
  pub left : IsLeftOutside outer
  pub spelled : rest ≡ items_text inner ++ (codes ")" ++ (group_quantifier_text times ++ outer))

-- The rest of a generated expression, outside of a group or inside of one whose steps begin at
-- `first`.
abbrev pub IsLeft : (opened : Option ℕ) → (rest : List ℕ) → List Step → Type 0
IsLeft None rest done = IsLeftOutside rest
IsLeft (Some first) rest done = IsLeftInside rest (drop first done)

-- The rest of a generated expression after a token.
abbrev pub GoesOn : StepToken → (opened : Option ℕ) → (rest : List ℕ) → List Step → Type 0
GoesOn (One step) opened rest done = IsLeft opened rest (done ++ step ∷ [])
GoesOn (OptionalStep step) opened rest done = (own : List Step) → IsLeft opened rest (done ++ own)
GoesOn Open opened rest done = (opened ≡ None) × IsLeft (Some (length done)) rest done
GoesOn (Close times) opened rest done =
    (first : ℕ) × (group : List Step) × (opened ≡ Some first) × IsStepGroup times (drop first done) group × ((steps : List Step) → IsLeft None rest steps)
GoesOn (FirstSegment end is_greedy) opened rest done =
    (own : List Step) × (behind : List ℕ) × EndsSegments end is_greedy own rest behind × ((own : List Step) → IsLeft opened behind (done ++ own))

-- The text begins with a token, and the rest continues the expression.
pub record Comes (opened : Option ℕ) (rest : List ℕ) (done : List Step) : Type 0 where
  pub token : StepToken
  pub remaining : List ℕ
  pub begins : BeginsWithRegexpToken rest token remaining
  pub unquantified : IsUnquantified remaining
  pub goes_on : GoesOn token opened remaining done

-- ---- text that no quantifier begins

free_unquantified : (text : List ℕ) → IsFree text → IsUnquantified text
free_unquantified [] free is = false≢true is
free_unquantified (c ∷ text) free is = free (passed (is_among (codes "]?*+")) (codes "?*+") refl c is)

items_unquantified : (items : Items) (tail : List ℕ) → AreItems items → Ends tail → IsUnquantified (items_text items ++ tail)
items_unquantified items tail are ends = subst IsUnquantified (sym (items-spelled items tail)) (free_unquantified (spelled items tail) (spelled_free items tail are ends))

character_unquantified : (character : Character) (rest : List ℕ) → IsCharacter character → IsUnquantified (character_text character ++ rest)
character_unquantified (Plain c) rest is among = is (passed (is_among regexp_marks) (codes "?*+") refl c among)
character_unquantified (Escaped c) rest is among = false≢true among

-- ---- steps

-- An item and the items after it.
item_text : (atom : Atom) (quantifier : Quantifier) (items : Items) (tail : List ℕ)
    → items_text (Item atom quantifier items) ++ tail ≡ (atom_text atom ++ quantifier_text quantifier) ++ (items_text items ++ tail)
item_text atom quantifier items tail = append_assoc (atom_text atom ++ quantifier_text quantifier) (items_text items) tail

step_comes : (opened : Option ℕ) (quantifier : Quantifier) (atom : Atom) (rest tail : List ℕ) (done : List Step) → IsAtom atom → IsStep quantifier atom
    → rest ≡ (atom_text atom ++ quantifier_text quantifier) ++ tail → IsUnquantified tail → ((own : List Step) → IsLeft opened tail (done ++ own)) → Comes opened rest done
step_comes opened Once atom rest tail done is (step, of) e unquantified more = record {
  token = One step;
  remaining = tail;
  begins = (atom_text atom, (atom, is, of, refl), e ∙ ap (λ t. t ++ tail) (append-nil (atom_text atom)));
  unquantified = unquantified;
  goes_on = more (step ∷ []);
}
step_comes opened Optional atom rest tail done is (step, of, one) e unquantified more = record {
  token = OptionalStep step;
  remaining = tail;
  begins = (atom_text atom ++ codes "?", (atom_text atom, one, (atom, is, of, refl), refl), e);
  unquantified = unquantified;
  goes_on = more;
}
step_comes opened ZeroOrMore atom rest tail done is step e unquantified more = absurd step
step_comes opened OneOrMore atom rest tail done is step e unquantified more = absurd step
step_comes opened LazyOneOrMore atom rest tail done is step e unquantified more = absurd step

-- ---- groups

nothing_taken : (times : GroupQuantifier) → MayBeTaken times []
nothing_taken often.Once = tt
nothing_taken often.Optional = tt
nothing_taken often.ZeroOrMore = tt
nothing_taken often.OneOrMore = tt

group_comes : (quantifier : Quantifier) (atom : Atom) (rest tail : List ℕ) (done : List Step) → IsAtom atom → (group : IsGroupAtom quantifier atom)
    → rest ≡ (atom_text atom ++ quantifier_text quantifier) ++ tail → IsLeftOutside tail → Comes None rest done
group_comes quantifier atom rest tail done is group e left =
    let inner : Items = group.inner in
    let written : List ℕ = group_quantifier_text group.times in
    let remaining : List ℕ = items_text inner ++ (codes ")" ++ (written ++ tail)) in
    let are : AreItems inner = subst IsAtom group.same is in
    let whole : rest ≡ (atom_text (Grouped inner) ++ written) ++ tail =
    e ∙ ap (λ a. (atom_text a ++ quantifier_text quantifier) ++ tail) group.same ∙ ap (λ q. (atom_text (Grouped inner) ++ quantifier_text q) ++ tail) (sym group.taken) in
    let opened : (atom_text (Grouped inner) ++ written) ++ tail ≡ codes "(?:" ++ remaining =
    ap (λ t. codes "(?:" ++ t) (append_assoc (items_text inner ++ codes ")") written tail ∙ append_assoc (items_text inner) (codes ")") (written ++ tail)) in
    record {
      token = Open;
      remaining = remaining;
      begins = (codes "(?:", refl, whole ∙ opened);
      unquantified = items_unquantified inner (codes ")" ++ (written ++ tail)) are refl;
      goes_on = (
        refl,
        record {
          inner = inner;
          times = group.times;
          outer = tail;
          are = are;
          inside = group.inside;
          so_far = subst (MayBeTaken group.times) (sym (drop-length done)) (nothing_taken group.times);
          left = left;
          spelled = refl;
        },
      );
    }

-- ---- separated runs

characters_allowed : (characters : List Character) (items : Items) → AreItems (in_order characters items) → AreCharacters characters × AreItems items
characters_allowed [] items are = (tt, are)
characters_allowed (character ∷ characters) items are = let more = characters_allowed characters items are.2 in ((are.0, more.0), more.1)

segments_come : (opened : Option ℕ) (atom : Atom) (rest tail : List ℕ) (done : List Step) → IsAtom atom → (group : IsSegmentGroup atom) → rest ≡ (atom_text atom ++ []) ++ tail
    → ((own : List Step) → IsLeft opened tail (done ++ own)) → Comes opened rest done
segments_come opened atom rest tail done is group e more =
    let characters : List Character = group.character ∷ group.characters in
    let last : Items = Item (Grouped group.last) Once Nothing in
    let inner : Items = in_order characters last in
    let allowed : AreItems (Item (Grouped group.first) Once (Item (Grouped inner) ZeroOrMore Nothing)) = subst IsAtom group.same is in
    let parts = characters_allowed characters last allowed.2.0 in
    let behind : List ℕ = codes "(?:" ++ (items_text group.last ++ (codes "))*)" ++ tail)) in
    let front : List ℕ = codes "((?:" ++ (items_text group.first ++ codes ")(?:") in
    let whole : rest ≡ (atom_text (Captured (Item (Grouped group.first) Once (Item (Grouped inner) ZeroOrMore Nothing))) ++ []) ++ tail = e ∙ ap (λ a. (atom_text a ++ []) ++ tail) group.same in
    let spelled : front ++ (characters_text characters ++ behind) ≡ (atom_text (Captured (Item (Grouped group.first) Once (Item (Grouped inner) ZeroOrMore Nothing))) ++ []) ++ tail =
    spelled_segments (items_text group.first) (characters_text characters) (items_text group.last) tail
    ∙ ap (λ t. ((codes "(" ++ ((((codes "(?:" ++ (items_text group.first ++ codes ")")) ++ []) ++ (((codes "(?:" ++ (t ++ codes ")")) ++ codes "*") ++ [])) ++ codes ")")) ++ []) ++ tail) (sym (in_order_text characters last)) in
    record {
      token = FirstSegment group.end group.is_greedy;
      remaining = characters_text characters ++ behind;
      begins = (front, (group.first, allowed.0, group.is_first, refl), whole ∙ sym spelled);
      unquantified =
          subst IsUnquantified (sym (append_assoc (character_text group.character) (characters_text group.characters) behind))
          (character_unquantified group.character (characters_text group.characters ++ behind) parts.0.0);
      goes_on = (
        Segments (record { separator = record { first = character_of group.character; others = length (literal_steps group.characters) }; end = group.end; is_greedy = group.is_greedy }) ∷ literal_steps group.characters,
        tail,
        (characters, group.last, parts.0, parts.1.0, group.is_last, (character_of group.character, literal_steps group.characters, refl, refl), refl),
        more,
      );
    }

-- ---- the end of a group

copied : (allows_zero : Bool) (own : List Step) → AreLiterals own → (group : List Step) × (((own ≡ []) × (group ≡ [])) ⊎ AreCopySteps allows_zero own group)
copied allows_zero [] plain = ([], inl (refl, refl))
copied allows_zero (Literal c ∷ others) plain = (_, inr (c, others, refl, plain, refl))
copied allows_zero (step ∷ others) plain = absurd plain

closes : (times : GroupQuantifier) (own : List Step) → MayBeTaken times own → (group : List Step) × IsStepGroup times own group
closes often.Once own may = (own, inr refl)
closes often.Optional own may = (_, inr refl)
closes often.ZeroOrMore own may = copied true own may
closes often.OneOrMore own may = copied false own may

close_comes : (first : ℕ) (rest outer : List ℕ) (times : GroupQuantifier) (done : List Step) → MayBeTaken times (drop first done) → IsLeftOutside outer → rest ≡ codes ")" ++ (group_quantifier_text times ++ outer)
    → Comes (Some first) rest done
close_comes first rest outer times done may (tree, are, readable, e) f =
    let group = closes times (drop first done) may in
    record {
      token = Close times;
      remaining = outer;
      begins = (codes ")" ++ group_quantifier_text times, refl, f);
      unquantified = subst IsUnquantified (sym e) (items_unquantified tree (codes "$") are refl);
      goes_on = (first, group.0, refl, group.1, λ steps. (tree, are, readable, e));
    }

-- ---- the next token

literals_more : (first : ℕ) (done own : List Step) → AreLiterals (drop first done) → AreLiterals own → AreLiterals (drop first (done ++ own))
literals_more zero [] own plain more = more
literals_more zero (Literal c ∷ done) own plain more = literals_more zero done own plain more
literals_more zero (step ∷ done) own plain more = absurd plain
literals_more (suc first) [] own plain more = dropped first own more
  where
    dropped : (first : ℕ) (own : List Step) → AreLiterals own → AreLiterals (drop (suc first) own)
    dropped first [] more = tt
    dropped zero (Literal c ∷ own) more = more
    dropped (suc first) (Literal c ∷ own) more = dropped first own more
    dropped first (step ∷ own) more = absurd more
literals_more (suc first) (step ∷ done) own plain more = literals_more first done own plain more

-- The rest of a group that is matched at most once begins with a token.
once_comes : (first : ℕ) (rest outer : List ℕ) (times : GroupQuantifier) (inner : Items) (done : List Step) → ((own : List Step) → MayBeTaken times own) → ((items : Items) → AreInside items → StandInside times items)
    → AreItems inner → AreInside inner → IsLeftOutside outer → rest ≡ items_text inner ++ (codes ")" ++ (group_quantifier_text times ++ outer)) → Comes (Some first) rest done
once_comes first rest outer times Nothing done may stands are inside left e = close_comes first rest outer times done (may (drop first done)) left e
once_comes first rest outer times (Item atom Once items) done may stands (is, allows, are) (captured, inside) left e =
    let tail : List ℕ = items_text items ++ (codes ")" ++ (group_quantifier_text times ++ outer)) in
    let more : (own : List Step) → IsLeft (Some first) tail (done ++ own) =
    λ own. record { inner = items; times = times; outer = outer; are = are; inside = stands items inside; so_far = may (drop first (done ++ own)); left = left; spelled = refl } in
    let whole : rest ≡ (atom_text atom ++ []) ++ tail = e ∙ item_text atom Once items (codes ")" ++ (group_quantifier_text times ++ outer)) in
    elim captured [
      | inl step ↦ step_comes (Some first) Once atom rest tail done is step whole (items_unquantified items (codes ")" ++ (group_quantifier_text times ++ outer)) are refl) more
      | inr group ↦ segments_come (Some first) atom rest tail done is group whole more
    ]
once_comes first rest outer times (Item atom quantifier items) done may stands are inside left e = absurd inside

-- The rest of a group that may be matched more than once begins with a token.
more_comes : (first : ℕ) (rest outer : List ℕ) (times : GroupQuantifier) (inner : Items) (done : List Step) → ((own : List Step) → MayBeTaken times own → AreLiterals own)
    → ((own : List Step) → AreLiterals own → MayBeTaken times own) → ((items : Items) → AreSingle items → StandInside times items)
    → AreItems inner → AreSingle inner → MayBeTaken times (drop first done) → IsLeftOutside outer → rest ≡ items_text inner ++ (codes ")" ++ (group_quantifier_text times ++ outer)) → Comes (Some first) rest done
more_comes first rest outer times Nothing done plain may stands are single so_far left e = close_comes first rest outer times done so_far left e
more_comes first rest outer times (Item (dialect.Literal character) Once items) done plain may stands (is, allows, are) single so_far left e =
    let tail : List ℕ = items_text items ++ (codes ")" ++ (group_quantifier_text times ++ outer)) in
    let step : Step = Literal (character_of character) in
    let whole : rest ≡ (character_text character ++ []) ++ tail = e ∙ item_text (dialect.Literal character) Once items (codes ")" ++ (group_quantifier_text times ++ outer)) in
    record {
      token = One step;
      remaining = tail;
      begins = (character_text character, (dialect.Literal character, is, (character, refl, refl), refl), whole ∙ ap (λ t. t ++ tail) (append-nil (character_text character)));
      unquantified = items_unquantified items (codes ")" ++ (group_quantifier_text times ++ outer)) are refl;
      goes_on = record {
        inner = items;
        times = times;
        outer = outer;
        are = are;
        inside = stands items single;
        so_far = may (drop first (done ++ step ∷ [])) (literals_more first done (step ∷ []) (plain (drop first done) so_far) tt);
        left = left;
        spelled = refl;
      };
    }
more_comes first rest outer times (Item atom quantifier items) done plain may stands are single so_far left e = absurd single

inside_comes : (first : ℕ) (rest outer : List ℕ) (times : GroupQuantifier) (inner : Items) (done : List Step) → AreItems inner → StandInside times inner → MayBeTaken times (drop first done)
    → IsLeftOutside outer → rest ≡ items_text inner ++ (codes ")" ++ (group_quantifier_text times ++ outer)) → Comes (Some first) rest done
inside_comes first rest outer often.Once inner done are inside so_far left e = once_comes first rest outer often.Once inner done (λ own. tt) (λ items h. h) are inside left e
inside_comes first rest outer often.Optional inner done are inside so_far left e = once_comes first rest outer often.Optional inner done (λ own. tt) (λ items h. h) are inside left e
inside_comes first rest outer often.ZeroOrMore inner done are inside so_far left e =
    more_comes first rest outer often.ZeroOrMore inner done (λ own h. h) (λ own h. h) (λ items h. h) are inside so_far left e
inside_comes first rest outer often.OneOrMore inner done are inside so_far left e =
    more_comes first rest outer often.OneOrMore inner done (λ own h. h) (λ own h. h) (λ items h. h) are inside so_far left e

-- The rest of an expression begins with a token, unless it is `$`.
pub comes : (opened : Option ℕ) (rest : List ℕ) (done : List Step) → IsLeft opened rest done → ((opened ≡ None) × (rest ≡ codes "$")) ⊎ Comes opened rest done
comes (Some first) rest done left = inr (inside_comes first rest left.outer left.times left.inner done left.are left.inside left.so_far left.left left.spelled)
comes None rest done (Nothing, are, readable, e) = inl (refl, e)
comes None rest done (Item atom quantifier items, (is, allows, are), (captured, readable), e) =
    let tail : List ℕ = items_text items ++ codes "$" in
    let whole : rest ≡ (atom_text atom ++ quantifier_text quantifier) ++ tail = e ∙ item_text atom quantifier items (codes "$") in
    let left : IsLeftOutside tail = (items, are, readable, refl) in
    elim captured [
      | inl step ↦ inr (step_comes None quantifier atom rest tail done is step whole (items_unquantified items (codes "$") are refl) (λ own. left))
      | inr group ↦ inr (group_comes quantifier atom rest tail done is group whole left)
    ]

-- ---- the next token that is read

no_token : (token : StepToken) (remaining : List ℕ) → ¬ BeginsWithRegexpToken (codes "$") token remaining
no_token token remaining begins =
    by_token (λ token rest. ⊥) (codes "$")
    (λ times rest e. apart 36 41 [] (group_quantifier_text times ++ rest) refl e)
    (λ c rest found. by c rest (character_kind IsCharacter (codes "$") c rest found))
    (λ token rest behind e. apart 36 40 [] behind refl e)
    token remaining begins
  where
    by : (c : ℕ) (rest : List ℕ) → ByItself IsCharacter (codes "$") c rest ⊎ IsEscapedAt IsCharacter (codes "$") c rest → ⊥
    by c rest (inl (is, e)) = let same : 36 ≡ c = cc in is (subst (λ d. is_among regexp_marks d ≡ true) same refl)
    by c rest (inr (is, e)) = apart 36 92 [] (c ∷ rest) refl e

-- The token that is read is the next one.
pub came : (opened : Option ℕ) (rest : List ℕ) (done : List Step) (token : StepToken) (remaining : List ℕ) → IsLeft opened rest done → BeginsWithRegexpToken rest token remaining
    → ((next : StepToken) (left : List ℕ) → BeginsWithRegexpToken rest next left → IsUnquantified left → (token ≡ next) × (remaining ≡ left)) → GoesOn token opened remaining done
came opened rest done token remaining left begins reads = by (comes opened rest done left)
  where
    by : ((opened ≡ None) × (rest ≡ codes "$")) ⊎ Comes opened rest done → GoesOn token opened remaining done
    by (inl (none, e)) = absurd (no_token token remaining (subst (λ t. BeginsWithRegexpToken t token remaining) e begins))
    by (inr next) =
        let same = reads next.token next.remaining next.begins next.unquantified in
        subst (λ t. GoesOn t opened remaining done) (sym same.0) (subst (λ r. GoesOn next.token opened r done) (sym same.1) next.goes_on)

-- The expression is at its end, if no token is read.
pub ended : (opened : Option ℕ) (rest : List ℕ) (done : List Step) → IsLeft opened rest done → ((next : StepToken) (left : List ℕ) → BeginsWithRegexpToken rest next left → ¬ IsUnquantified left)
    → (opened ≡ None) × (rest ≡ codes "$")
ended opened rest done left none = by (comes opened rest done left)
  where
    by : ((opened ≡ None) × (rest ≡ codes "$")) ⊎ Comes opened rest done → (opened ≡ None) × (rest ≡ codes "$")
    by (inl end) = end
    by (inr next) = absurd (none next.token next.remaining next.begins next.unquantified)

-- The rest of a generated expression after its first character.
pub left_first : (regexp : List ℕ) → IsGenerated regexp → (rest : List ℕ) × (regexp ≡ codes "^" ++ rest) × IsLeftOutside rest
left_first regexp (options, parts, plain, e) = (
  items_text (tree_of options parts) ++ codes "$",
  e ∙ tree_text options parts plain,
  (tree_of options parts, tree_allowed options parts plain, tree_readable options parts plain, refl),
)

pub left_after : (regexp rest : List ℕ) → regexp ≡ codes "^" ++ rest → IsGenerated regexp → IsLeft None rest []
left_after regexp rest e generated =
    let left = left_first regexp generated in
    let f = left.1 in
    let same : left.0 ≡ rest = cc in
    subst IsLeftOutside same left.2
