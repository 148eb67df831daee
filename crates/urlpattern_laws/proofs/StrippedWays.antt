-- The first way of parts is that of the middle parts, where plain fixed texts at the ends are
-- removed.
use Rattle.std.proofs.Common.{◌≡◌, ℕ, List, [], ◌∷◌, ◌++◌, map, find, length, Option, Some, None, option_map, Bool, true, false, cond, ◌&&◌, ◌==◌, refl, sym, ap, ap₂, ◌∙◌, subst, append_assoc, append-nil, map-id, eqb-true, ne_eqb, length-append, inl, inr, arith, true≢false}
use Rattle.std.proofs.Math.Path.{fun_ext}
use Rattle.std.proofs.lemmas.Bool.{cond-false, cond-true}
use Rattle.std.proofs.lemmas.List.{nil_from_length}
use Rattle.std.proofs.lemmas.Option.{none-some, same_Some}
use Rattle.std.specs.Prelude.{IsTrue, option_to_list}
use Rattle.regex_syntax.specs.declared.Config.{Config}
use Rattle.urlpattern_laws.proofs.Catching.{Caps, Then}
use Rattle.urlpattern_laws.proofs.Choices.{HasCaptures}
use Rattle.urlpattern_laws.proofs.SteadyWays.{Steady}
use Rattle.urlpattern_expressions.specs.PartWays.{exactly_as, followed_by, part_ways_as, parts_ways_as}
use Rattle.urlpattern_meaning.proofs.MatchingLaws.{part_of}
use Rattle.urlpattern_meaning.proofs.PartTrees.{put}
use Rattle.urlpattern_meaning.proofs.TreeMeaning.{character_same}
use Rattle.urlpattern_meaning.proofs.WayLists.{Every, every-continued, every-weaker}
use Rattle.urlpattern_meaning.proofs.WaysComplete.{way_of}
use Rattle.urlpattern_meaning.proofs.WaysCut.{Cut}
use Rattle.urlpattern_meaning.proofs.WaysJoined.{continued-twice, first_of, first_seen, seen, seen_of, takes_all}
use Rattle.urlpattern_meaning.proofs.WaysSound.{IsSound, AreSound}
use Rattle.urlpattern_meaning.specs.Dialect.{Nothing}
use Rattle.urlpattern_meaning.specs.Matching.{AreStripped, IsRemoved, end_text}
use Rattle.urlpattern_meaning.specs.PartMeaning.{Captures}
use Rattle.urlpattern_meaning.specs.Ways.{Way, WaysByText, continued, empty_way, joined_way, one_that, ways_as}
use Rattle.urlpattern_syntax.specs.Options.{OptionsView}
use Rattle.urlpattern_syntax.specs.Parts.{PartView}
use Rattle.urlpattern_syntax.specs.RegexpText.{is_fixed_text, is_unmodified}
use Rattle.urlpattern_syntax.specs.declared.parser.PartModifier.{PartModifier}
use Rattle.urlpattern_syntax.specs.declared.parser.PartModifier.TheVariants as modifiers
use Rattle.urlpattern_syntax.specs.declared.parser.PartType.{PartType}
use Rattle.urlpattern_syntax.specs.declared.parser.PartType.TheVariants.{FixedText}

-- ---- the meaning of ways

pub sound_followed : (first next : WaysByText) (A B : Caps) → AreSound first A → AreSound next B → AreSound (followed_by first next) (Then A B)
sound_followed first next A B sound also text =
    every-continued (IsSound text A) (IsSound text (Then A B)) next (first text) (sound text)
    (λ way p. every-weaker (IsSound way.rest B) _ (next way.rest)
    (λ more q. (
      p.0 ∙ ap (λ r. way.taken ++ r) q.0 ∙ sym (append_assoc way.taken more.taken more.rest),
      (way.taken, more.taken, way.captures, more.captures, refl, refl, p.1, q.1),
    ))
    (also way.rest))

-- Any text, with any captures.
abbrev Any : Caps
Any text captures = Unit {0}

-- A fact on each way holds of the captures of the first.
pub first_is : (text : List ℕ) (Is : Caps) (all : List Way) (captures : Captures) → Every (IsSound text Is) all → first_of all ≡ Some captures → Is text captures
first_is text Is [] captures every e = absurd (none-some _ e)
first_is text Is (way ∷ all) captures every e = by (takes_all way) refl e (first_is text Is all captures every.1)
  where
    by : (b : Bool) → takes_all way ≡ b → option_map (λ (w : Way). w.captures) (cond b (Some way) (find takes_all all)) ≡ Some captures → (first_of all ≡ Some captures → Is text captures) → Is text captures
    by true t f later =
        let whole : way.rest ≡ [] = nil_from_length way.rest (eqb-true _ _ t) in
        let same : text ≡ way.taken = every.0.0 ∙ ap (λ r. way.taken ++ r) whole ∙ append-nil way.taken in
        subst (λ t. Is t captures) (sym same) (subst (Is way.taken) (same_Some _ _ f) every.0.1)
    by false t f later = later f

-- ---- lists of ways

-- No choice after a way.
pub continued_idle : (xs : List Way) → continued (λ text. empty_way 0 text ∷ []) xs ≡ xs
continued_idle [] = refl
continued_idle (way ∷ xs) =
    let same : joined_way way (empty_way 0 way.rest) ≡ way = ap₂ (λ t c. way_of t c way.rest) (append-nil way.taken) (append-nil way.captures) in
    ap₂ (λ (w : Way) (l : List Way). w ∷ l) same (continued_idle xs)

-- No choice before a choice.
pub idle_continued : (next : WaysByText) (text : List ℕ) → next text ≡ continued next (empty_way 0 text ∷ [])
idle_continued next text = sym (append-nil (map (joined_way (empty_way 0 text)) (next text)) ∙ map-id (next text))

pub followed_assoc : (first next last : WaysByText) → followed_by first (followed_by next last) ≡ followed_by (followed_by first next) last
followed_assoc first next last = fun_ext (λ text. continued-twice next last (first text))

seen_after : (given rest : List ℕ) (xs : List Way) → seen (map (joined_way (way_of given [] rest)) xs) ≡ seen xs
seen_after given rest [] = refl
seen_after given rest (way ∷ xs) = ap (λ l. seen_of way ∷ l) (seen_after given rest xs)

-- Ways that leave some text are skipped.
passed_over : (way : Way) (ms xs : List Way) → Every (λ m. takes_all m ≡ false) ms → first_of (map (joined_way way) ms ++ xs) ≡ first_of xs
passed_over way [] xs every = refl
passed_over way (m ∷ ms) xs every =
    ap (option_map (λ (w : Way). w.captures)) (cond-false (takes_all m) (Some (joined_way way m)) (find takes_all (map (joined_way way) ms ++ xs)) every.0)
    ∙ passed_over way ms xs every.1

-- ---- a given text

-- `same` says whether a character of the text matches a given one.
module _ (same : (c given : ℕ) → Bool) where
  -- The text matches the given one, character by character.
  abbrev pub AreAlike : (taken given : List ℕ) → Type 0
  AreAlike [] [] = Unit {0}
  AreAlike (d ∷ taken) (c ∷ given) = (same d c ≡ true) × AreAlike taken given
  AreAlike taken given = ⊥

  alike-length : (taken given : List ℕ) → AreAlike taken given → length taken ≡ length given
  alike-length [] [] alike = refl
  alike-length (d ∷ taken) (c ∷ given) alike = omega (arith, alike-length taken given alike.1)
  alike-length [] (c ∷ given) alike = absurd alike
  alike-length (d ∷ taken) [] alike = absurd alike

  -- The way of a given text: a text that matches it, without captures.
  abbrev pub Given : List ℕ → Caps
  Given given text captures = AreAlike text given × (captures ≡ [])

  sound_one : (c : ℕ) → AreSound (one_that (λ other. same other c)) (Given (c ∷ []))
  sound_one c [] = tt
  sound_one c (d ∷ text) = by (same d c) refl
    where
      by : (b : Bool) → same d c ≡ b → Every (IsSound (d ∷ text) (Given (c ∷ []))) (cond b (record { taken = d ∷ []; captures = []; rest = text } ∷ []) [])
      by true e = ((refl, ((e, tt), refl)), tt)
      by false e = tt

  alike_first : (c : ℕ) (first rest given : List ℕ) → AreAlike first (c ∷ []) → AreAlike rest given → AreAlike (first ++ rest) (c ∷ given)
  alike_first c [] rest given one more = absurd one
  alike_first c (d ∷ []) rest given one more = (one.0, more)
  alike_first c (d ∷ e ∷ first) rest given one more = absurd one.1

  pub sound_exactly : (given : List ℕ) → AreSound (exactly_as same given) (Given given)
  sound_exactly [] text = ((refl, (tt, refl)), tt)
  sound_exactly (c ∷ given) text =
      every-weaker (IsSound text (Then (Given (c ∷ [])) (Given given))) _ (exactly_as same (c ∷ given) text)
      (λ way (cut, (first, rest, own, others, e, f, one, more)). (
        cut,
        (subst (λ t. AreAlike t (c ∷ given)) (sym e) (alike_first c first rest given one.0 more.0), f ∙ ap₂ (λ (a b : Captures). a ++ b) one.1 more.1),
      ))
      (sound_followed (one_that (λ other. same other c)) (exactly_as same given) (Given (c ∷ [])) (Given given) (sound_one c) (sound_exactly given) text)

  -- At the start of a text that begins alike there is one way.
  pub exactly_here : (taken given rest : List ℕ) → AreAlike taken given → exactly_as same given (taken ++ rest) ≡ way_of taken [] rest ∷ []
  exactly_here [] [] rest alike = refl
  exactly_here (d ∷ taken) (c ∷ given) rest alike =
      let one : Way = way_of (d ∷ []) [] (taken ++ rest) in
      ap (continued (exactly_as same given)) (cond-true (same d c) (one ∷ []) [] alike.0)
      ∙ append-nil (map (joined_way one) (exactly_as same given (taken ++ rest)))
      ∙ ap (map (joined_way one)) (exactly_here taken given rest alike.1)
  exactly_here [] (c ∷ given) rest alike = absurd alike
  exactly_here (d ∷ taken) [] rest alike = absurd alike

  -- A given text matches one that is alike at the start of a text.
  first_after : (taken given rest : List ℕ) (next : WaysByText) → AreAlike taken given → first_of (continued next (exactly_as same given (taken ++ rest))) ≡ first_of (next rest)
  first_after taken given rest next alike =
      let xs = map (joined_way (way_of taken [] rest)) (next rest) in
      ap (λ all. first_of (continued next all)) (exactly_here taken given rest alike) ∙ ap first_of (append-nil xs) ∙ first_seen xs (next rest) (seen_after taken rest (next rest))

  -- A given text after another.
  pub exactly-append : (first others : List ℕ) → exactly_as same (first ++ others) ≡ followed_by (exactly_as same first) (exactly_as same others)
  exactly-append [] others = fun_ext (idle_continued (exactly_as same others))
  exactly-append (c ∷ first) others =
      let one : WaysByText = one_that (λ other. same other c) in
      ap (followed_by one) (exactly-append first others) ∙ followed_assoc one (exactly_as same first) (exactly_as same others)

  -- The ways of a given text are those of the tree of its characters.
  pub exactly_put : (marks given : List ℕ) → exactly_as same given ≡ ways_as same (put marks given Nothing)
  exactly_put marks [] = refl
  exactly_put marks (c ∷ given) =
      ap₂ (λ (next : WaysByText) (x : ℕ). followed_by (one_that (λ other. same other x)) next) (exactly_put marks given) (sym (character_same marks c))

  -- ---- a given text at the end

  module _ (given : List ℕ) where
    not_all : (way : Way) → ¬ (length way.rest ≡ length given) → Every (λ m. takes_all m ≡ false) (exactly_as same given way.rest)
    not_all way differs =
        every-weaker (IsSound way.rest (Given given)) _ (exactly_as same given way.rest)
        (λ m p. ne_eqb (length m.rest) 0 (λ none. differs (omega (arith, ap length p.0, length-append m.taken m.rest, alike-length m.taken given p.1.0, none)))) (sound_exactly given way.rest)

    -- If a text that is alike is all that is left, it matches without further captures.
    one_all : (way : Way) (xs : List Way) → AreAlike way.rest given → first_of (map (joined_way way) (exactly_as same given way.rest) ++ xs) ≡ Some way.captures
    one_all way xs alike =
        ap (λ (ms : List Way). first_of (map (joined_way way) ms ++ xs)) (ap (exactly_as same given) (sym (append-nil way.rest)) ∙ exactly_here way.rest given [] alike)
        ∙ ap Some (append-nil way.captures)

    -- The first way of a choice before the given text is the first of the ways that leave a text
    -- alike.
    first_before : (taken : List ℕ) → AreAlike taken given → (xs us : List Way) → Cut taken xs us → first_of (continued (exactly_as same given) xs) ≡ first_of us
    first_before taken alike [] us e = ap first_of (sym e)
    first_before taken alike (way ∷ xs) us (inl (less, p)) =
        passed_over way (exactly_as same given way.rest) (continued (exactly_as same given) xs) (not_all way (λ e. omega (arith, e, less, alike-length taken given alike)))
        ∙ first_before taken alike xs us p
    first_before taken alike (way ∷ xs) us (inr (other, others, e, f, p)) = by other.rest refl (first_before taken alike xs others p)
      where
        rest_is : way.rest ≡ other.rest ++ taken
        rest_is = ap (λ (w : Way). w.rest) f

        by : (rest : List ℕ) → other.rest ≡ rest → first_of (continued (exactly_as same given) xs) ≡ first_of others → first_of (continued (exactly_as same given) (way ∷ xs)) ≡ first_of us
        by [] g later =
            one_all way (continued (exactly_as same given) xs) (subst (λ t. AreAlike t given) (sym (rest_is ∙ ap (λ t. t ++ taken) g)) alike) ∙ ap (λ (w : Way). Some w.captures) f
            ∙ sym (ap first_of e ∙ ap (λ (t : List ℕ). option_map (λ (w : Way). w.captures) (cond (length t == 0) (Some other) (find takes_all others))) g)
        by (c ∷ rest) g later =
            passed_over way (exactly_as same given way.rest) (continued (exactly_as same given) xs)
            (not_all way (λ h. omega (arith, h, ap length rest_is, length-append other.rest taken, ap length g, alike-length taken given alike)))
            ∙ later
            ∙ sym (ap first_of e ∙ ap (λ (t : List ℕ). option_map (λ (w : Way). w.captures) (cond (length t == 0) (Some other) (find takes_all others))) g
            ∙ ap (option_map (λ (w : Way). w.captures)) (cond-false (length (c ∷ rest) == 0) (Some other) (find takes_all others) (ne_eqb (length (c ∷ rest)) 0 (λ none. omega (arith, none)))))

  -- ---- a choice between two given texts

  module _ (front back : List ℕ) (middle : WaysByText) where
    -- The choice, after the text `front` and before the text `back`.
    abbrev pub between : WaysByText
    between = followed_by (exactly_as same front) (followed_by middle (exactly_as same back))

    -- The text begins like `front` and ends like `back`, without overlap.
    abbrev pub IsBetween : List ℕ → Type 0
    IsBetween text = (head inner tail : List ℕ) × (text ≡ head ++ inner ++ tail) × AreAlike head front × AreAlike tail back

    module _ (count : ℕ) (steady : Steady middle count) where
      pub first_between : (head inner tail : List ℕ) → AreAlike head front → AreAlike tail back → first_of (between (head ++ inner ++ tail)) ≡ first_of (middle inner)
      first_between head inner tail begins ends =
          ap (λ (t : List ℕ). first_of (between t)) (append_assoc head inner tail)
          ∙ first_after head front (inner ++ tail) (followed_by middle (exactly_as same back)) begins
          ∙ first_before back tail ends (middle (inner ++ tail)) (middle inner) (steady.same tail inner)

      between_sound : AreSound between (λ text captures. IsBetween text)
      between_sound text =
          every-weaker (IsSound text (Then (Given front) (Then Any (Given back)))) _ (between text)
          (λ way (cut, (first, rest, own, others, e, f, is_front, (inner, last, o, m, g, h, any, is_back))). (
            cut,
            (first, inner, last, e ∙ ap (λ t. first ++ t) g ∙ sym (append_assoc first inner last), is_front.0, is_back.0),
          ))
          (sound_followed (exactly_as same front) (followed_by middle (exactly_as same back)) (Given front) (Then Any (Given back)) (sound_exactly front)
          (sound_followed middle (exactly_as same back) Any (Given back)
          (λ t. every-weaker (IsSound t (HasCaptures count)) (IsSound t Any) (middle t) (λ way p. (p.0, tt)) (steady.cuts t)) (sound_exactly back)) text)

      -- No other text is matched.
      pub split_between : (text : List ℕ) (captures : Captures) → first_of (between text) ≡ Some captures → IsBetween text
      split_between text captures e = first_is text (λ text captures. IsBetween text) (between text) captures (between_sound text) e

-- ---- lists of parts

module _ (config : Config) (same : (c given : ℕ) → Bool) (options : OptionsView) where
  abbrev list_ways : List PartView → WaysByText
  list_ways = parts_ways_as config same options

  append_ways : (parts others : List PartView) (text : List ℕ) → list_ways (parts ++ others) text ≡ continued (list_ways others) (list_ways parts text)
  append_ways [] others text = idle_continued (list_ways others) text
  append_ways (part ∷ parts) others text =
      let front = part_ways_as config same part.kind options part text in
      ap (λ (next : WaysByText). continued next front) (fun_ext (append_ways parts others)) ∙ continued-twice (list_ways parts) (list_ways others) front

  plain_ways : (kind : PartType) (modifier : PartModifier) (value name prefix suffix text : List ℕ) → IsTrue (is_fixed_text kind && is_unmodified modifier) →
      list_ways (part_of kind modifier value name prefix suffix ∷ []) text ≡ exactly_as same value text
  plain_ways FixedText modifiers.None value name prefix suffix text h = continued_idle (exactly_as same value text)
  plain_ways kind modifier value name prefix suffix text h = absurd (true≢false (sym h))

  -- The ways of an end that is removed.
  end_ways : (end : Option PartView) (IsThere : Type 0) → IsRemoved end IsThere → list_ways (option_to_list end) ≡ exactly_as same (end_text end)
  end_ways None IsThere goes = refl
  end_ways (Some part) IsThere goes = fun_ext (λ text. plain_ways part.kind part.modifier part.value part.name part.prefix part.suffix text goes)

  -- The ways of parts are those of the middle parts between the ends.
  pub peeled_ways : (parts : List PartView) (front : Option PartView) (middle : List PartView) (back : Option PartView) → AreStripped parts front middle back →
      list_ways parts ≡ between same (end_text front) (end_text back) (list_ways middle)
  peeled_ways parts front middle back peeled =
      ap list_ways (peeled.cut ∙ append_assoc (option_to_list front) middle (option_to_list back))
      ∙ fun_ext (append_ways (option_to_list front) (middle ++ option_to_list back))
      ∙ ap₂ (λ (first next : WaysByText). followed_by first next) (end_ways front _ peeled.front_removed)
      (fun_ext (append_ways middle (option_to_list back)) ∙ ap (λ (last : WaysByText). followed_by (list_ways middle) last) (end_ways back _ peeled.back_removed))
